-- What the files of a disk hold as it is opened.
use Rattle.std.specs.Prelude.{◌≡◌, ◌<◌, ◌≤◌, ◌*◌, ℕ, List, [], take, drop, slice_index_or, Option, None, IfSome}
use Rattle.rac_disk.specs.Content.{Content, log_at}

-- The first blocks, so many, are those in the bytes of a file.
abbrev pub HasBlocks : ℕ → List ℕ → List (List ℕ) → Type 0
HasBlocks count bytes blocks =
    (block : ℕ) → block < count → slice_index_or blocks block [] ≡ take 512 (drop (block * 512) bytes)

-- The control entries of the first threads, so many, are those in the bytes of a file.
abbrev pub HasControls : ℕ → List ℕ → List (List ℕ) → Type 0
HasControls count bytes controls =
    (thread : ℕ) → thread < count → slice_index_or controls thread [] ≡ take 32 (drop (thread * 32) bytes)

-- The logs of the first threads, so many, have the bytes of their files, where these tell them.
abbrev pub HasLogs : ℕ → List (Option (List ℕ)) → Content → Type 0
HasLogs count files it =
    (thread : ℕ) → thread < count → IfSome (slice_index_or files thread None) (λ bytes. log_at it thread ≡ bytes)

-- the logs from a thread on are empty
abbrev pub HasEmptyLogs : ℕ → Content → Type 0
HasEmptyLogs from it = (thread : ℕ) → from ≤ thread → thread < 8 → log_at it thread ≡ []
