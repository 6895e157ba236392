-- The entries of the directory.
use Rattle.std.specs.Prelude.{ℕ, nat_lt, if◌then◌else◌, [], map, Option, None, Some, replicate, slice_index_or, slice_set}
use Rattle.wire_net.specs.declared.entry.Grants.{Grants}
use Rattle.wire_net.specs.declared.entry.PastVersions.{PastVersions}
use Rattle.wire_net.specs.declared.entry.Entry.{Entry}
use Rattle.inst_set.specs.Sets.{all_insts}

-- the grant of an instance that shares a block
abbrev pub grant_of : Grants → ℕ → Option ℕ
grant_of shared inst = slice_index_or shared.by_inst inst None

-- the grants with another one for an instance
abbrev pub with_grant : Grants → ℕ → Option ℕ → Grants
with_grant shared inst grant = record { by_inst = slice_set shared.by_inst inst grant }

-- nobody shares the block
abbrev pub no_grants : Grants
no_grants = record { by_inst = replicate 8 None }

-- the version of an instance's past image
abbrev pub version_of : PastVersions → ℕ → Option ℕ
version_of past inst = slice_index_or past.by_inst inst None

-- the versions with another one for an instance
abbrev pub with_version : PastVersions → ℕ → Option ℕ → PastVersions
with_version past inst version = record { by_inst = slice_set past.by_inst inst version }

-- a version, if it is above a limit
abbrev pub above : Option ℕ → ℕ → Option ℕ
above None limit = None
above (Some version) limit = if nat_lt limit version then Some version else None

-- the versions that are above a limit
abbrev pub versions_above : PastVersions → ℕ → PastVersions
versions_above past limit = record { by_inst = map (λ inst. above (version_of past inst) limit) all_insts }

-- nobody keeps a past image
abbrev pub no_versions : PastVersions
no_versions = record { by_inst = replicate 8 None }

-- the entry of a block that was never asked for
abbrev pub empty_entry : Entry
empty_entry = record { x = None; shared = no_grants; past = no_versions; written = 0; next_grant = 1; op = None; queue = [] }
