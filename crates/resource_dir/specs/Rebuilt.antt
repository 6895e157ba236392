-- The directory after a change of membership, made from what the instances report.
use Rattle.std.specs.Prelude.{ℕ, ◌+◌, ◌==◌, if◌then◌else◌, List, [], ◌∷◌, fold, map, Option, None, Some}
use Rattle.wire_net.specs.declared.message.Mode.{Mode}
use Rattle.wire_net.specs.declared.message.Mode.TheVariants.{Null, Shared, Exclusive}
use Rattle.wire_net.specs.declared.report.Frame.{Frame}
use Rattle.wire_net.specs.declared.report.Report.{Report}
use Rattle.wire_net.specs.declared.masters.Masters.{Masters}
use Rattle.wire_net.specs.declared.entry.Entry.{Entry}
use Rattle.wire_net.specs.Entry.{empty_entry, with_grant, with_version}
use Rattle.wire_net.specs.Masters.{all_buckets, master_of}
use Rattle.resource_dir.specs.declared.directory.Directory.{Directory}
use Rattle.resource_dir.specs.Holders.{grant_after}
use Rattle.resource_dir.specs.Directory.{with_bucket}

-- an instance holds the block in a mode, with the next grant
abbrev pub held : Mode → ℕ → Entry → Entry
held Null inst entry = entry
held Shared inst entry = record entry {
  shared = with_grant entry.shared inst (Some entry.next_grant);
  next_grant = grant_after entry.next_grant;
}
held Exclusive inst entry = record entry {
  x = Some (record { inst = inst; grant = entry.next_grant });
  next_grant = grant_after entry.next_grant;
}

-- an instance keeps a past image, if it reports one
abbrev pub kept : Option ℕ → ℕ → Entry → Entry
kept None inst entry = entry
kept (Some version) inst entry = record entry { past = with_version entry.past inst (Some version) }

-- a frame of an instance is entered, if it is one of the block
abbrev pub with_frame : ℕ → ℕ → Entry → Frame → Entry
with_frame block inst entry frame = if frame.block == block then kept frame.past inst (held frame.mode inst entry) else entry

-- the frames of an instance are entered
abbrev pub with_report : ℕ → Entry → ℕ × Report → Entry
with_report block entry reported = fold (with_frame block reported.0) entry reported.1.frames

-- the entry of a block as the reports tell it: nothing is known to be written, no operation is under way, nothing waits
abbrev pub rebuilt : ℕ → List (ℕ × Report) → Entry
rebuilt block reports = fold (with_report block) empty_entry reports

-- the entries of a bucket as the reports tell them
abbrev pub rebuilt_bucket : ℕ → List (ℕ × Report) → List Entry
rebuilt_bucket bucket reports =
    rebuilt bucket reports ∷ rebuilt (bucket + 16) reports ∷ rebuilt (bucket + 32) reports ∷ rebuilt (bucket + 48) reports ∷ []

-- the entries of a bucket, if the instance masters it
abbrev pub rebuilt_at : ℕ → Masters → List (ℕ × Report) → ℕ → Option (List Entry)
rebuilt_at me masters reports bucket = if master_of masters bucket == me then Some (rebuilt_bucket bucket reports) else None

-- a bucket is made anew
abbrev pub with_rebuilt : ℕ → Masters → List (ℕ × Report) → Directory → ℕ → Directory
with_rebuilt me masters reports it bucket = with_bucket it bucket (rebuilt_at me masters reports bucket)

-- the directory of an instance, with the buckets that it masters
abbrev pub rebuilt_directory : ℕ → Masters → List (ℕ × Report) → Directory
rebuilt_directory me masters reports = record { buckets = map (rebuilt_at me masters reports) all_buckets }
