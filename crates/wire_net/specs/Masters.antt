-- The table of masters.
use Rattle.std.specs.Prelude.{ℕ, ◌%◌, List, [], ◌∷◌, length, map, max, slice_index, slice_set, unwrap_or}
use Rattle.inst_set.specs.declared.set.InstSet.{InstSet}
use Rattle.wire_net.specs.declared.masters.Masters.{Masters}
use Rattle.inst_set.specs.Sets.{member_at, members}

-- the master of a block
abbrev pub master_of : Masters → ℕ → ℕ
master_of it block = slice_index it.by_bucket (block % 16)

-- the table with another master of a bucket
abbrev pub with_master : Masters → ℕ → ℕ → Masters
with_master it bucket inst = record { by_bucket = slice_set it.by_bucket bucket inst }

-- the numbers of all buckets
abbrev pub all_buckets : List ℕ
all_buckets = 0 ∷ 1 ∷ 2 ∷ 3 ∷ 4 ∷ 5 ∷ 6 ∷ 7 ∷ 8 ∷ 9 ∷ 10 ∷ 11 ∷ 12 ∷ 13 ∷ 14 ∷ 15 ∷ []

-- to whom a bucket is dealt: of the n live ones in their order, the one at the place that is the bucket's remainder by n
abbrev pub dealt_to : InstSet → ℕ → ℕ
dealt_to live bucket = unwrap_or (member_at live (bucket % max 1 (length (members live)))) 0

-- the table in which all buckets are dealt to the live instances
abbrev pub dealt : InstSet → Masters
dealt live = record { by_bucket = map (dealt_to live) all_buckets }
