-- The buckets that an instance masters.
use Rattle.std.specs.Prelude.{ℕ, ◌+◌, ◌*◌, ◌/◌, ◌%◌, ◌==◌, ◌&&◌, nat_lt, if◌then◌else◌, Bool, true, List, [], ◌∷◌, length, fold, map, Option, None, Some, is_none, option_and_then, replicate, slice_get, slice_index_or, slice_set}
use Rattle.std.specs.List.{list_all}
use Rattle.wire_net.specs.declared.message.Message.{Message}
use Rattle.wire_net.specs.declared.entry.Entry.{Entry}
use Rattle.wire_net.specs.Entry.{empty_entry}
use Rattle.resource_dir.specs.declared.directory.Directory.{Directory}
use Rattle.resource_dir.specs.Takes.{takes}

-- a directory without buckets
abbrev pub no_buckets : Directory
no_buckets = record { buckets = replicate 16 None }

-- the entries of a bucket, where the instance masters it
abbrev pub bucket_of : Directory → ℕ → Option (List Entry)
bucket_of it bucket = slice_index_or it.buckets bucket None

-- a directory with other entries of a bucket, or without them
abbrev pub with_bucket : Directory → ℕ → Option (List Entry) → Directory
with_bucket it bucket entries = record { buckets = slice_set it.buckets bucket entries }

-- the entry at a place of a bucket, if the instance masters it
abbrev pub entry_in : Option (List Entry) → ℕ → Option Entry
entry_in None place = None
entry_in (Some entries) place = slice_get entries place

-- the entry of a block
abbrev pub entry_of : Directory → ℕ → Option Entry
entry_of it block = entry_in (bucket_of it (block % 16)) (block / 16)

-- a bucket after a message was taken, and what is sent to whom
pub record BucketTaken : Type 0 where
  pub entries : List Entry
  pub sends : List (ℕ × Message)

-- a message is taken at the entry at a place of a bucket, if one stands there
abbrev pub bucket_takes : List Entry → ℕ → Message → BucketTaken
bucket_takes entries place message = record {
  entries = slice_set entries place (takes (slice_index_or entries place empty_entry) message).entry;
  sends = if nat_lt place (length entries) then (takes (slice_index_or entries place empty_entry) message).sends else [];
}

-- a directory after a message was taken, and what is sent to whom
pub record DirectoryTaken : Type 0 where
  pub directory : Directory
  pub sends : List (ℕ × Message)

-- a message on the block at a place of a bucket is taken, if the instance masters the bucket
abbrev pub directory_takes_in : Directory → ℕ → Option (List Entry) → ℕ → Message → DirectoryTaken
directory_takes_in it bucket None place message = record { directory = it; sends = [] }
directory_takes_in it bucket (Some entries) place message = record {
  directory = with_bucket it bucket (Some (bucket_takes entries place message).entries);
  sends = (bucket_takes entries place message).sends;
}

-- a message on a block is taken
abbrev pub directory_takes : Directory → ℕ → Message → DirectoryTaken
directory_takes it block message = directory_takes_in it (block % 16) (bucket_of it (block % 16)) (block / 16) message

-- whether no operation is under way at an entry and no message waits there
abbrev pub is_quiet_entry : Entry → Bool
is_quiet_entry entry = is_none entry.op && (length entry.queue == 0)

-- whether all entries of a bucket are quiet
abbrev pub is_quiet_bucket : Option (List Entry) → Bool
is_quiet_bucket None = true
is_quiet_bucket (Some entries) = list_all is_quiet_entry entries

-- whether all entries of a directory are quiet
abbrev pub is_quiet : Directory → Bool
is_quiet it = list_all is_quiet_bucket it.buckets
