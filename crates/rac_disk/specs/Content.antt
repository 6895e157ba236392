-- What a shared disk holds, as contracts see it.
use Rattle.std.specs.Prelude.{◌≡◌, ◌≤◌, ℕ, List, [], length, All, slice_index_or, slice_set}

-- a log: its bytes, and for how many it has room
pub record LogState : Type 0 where
  pub bytes : List ℕ
  pub room : ℕ

-- the blocks, the logs and the control entries of a disk, each at the place that is its number
pub record Content : Type 0 where
  pub blocks : List (List ℕ)
  pub logs : List LogState
  pub controls : List (List ℕ)

-- A disk has 200 blocks of 512 bytes, eight logs, none longer than its room, and eight control entries of 32 bytes.
pub record IsDisk (it : Content) : Type 0 where
  pub blocks : length it.blocks ≡ 200
  pub block_sizes : All (λ block. length block ≡ 512) it.blocks
  pub logs : length it.logs ≡ 8
  pub log_rooms : All (λ log. length log.bytes ≤ log.room) it.logs
  pub controls : length it.controls ≡ 8
  pub control_sizes : All (λ entry. length entry ≡ 32) it.controls

-- a log of no bytes that has no room
abbrev pub no_log : LogState
no_log = record { bytes = []; room = 0 }

-- the bytes of a block
abbrev pub block_at : Content → ℕ → List ℕ
block_at it block = slice_index_or it.blocks block []

-- the bytes of a thread's log
abbrev pub log_at : Content → ℕ → List ℕ
log_at it thread = (slice_index_or it.logs thread no_log).bytes

-- how many bytes a thread's log has room for
abbrev pub room_at : Content → ℕ → ℕ
room_at it thread = (slice_index_or it.logs thread no_log).room

-- the bytes of a thread's control entry
abbrev pub control_at : Content → ℕ → List ℕ
control_at it thread = slice_index_or it.controls thread []

-- the disk with these bytes in a block, and all else as it was
abbrev pub with_block : Content → ℕ → List ℕ → Content
with_block it block bytes = record it { blocks = slice_set it.blocks block bytes }

-- the disk with these bytes as a thread's log, and all else as it was, the log's room too
abbrev pub with_log : Content → ℕ → List ℕ → Content
with_log it thread bytes =
    record it { logs = slice_set it.logs thread (record { bytes = bytes; room = room_at it thread }) }

-- the disk with these bytes in a thread's control entry, and all else as it was
abbrev pub with_control : Content → ℕ → List ℕ → Content
with_control it thread bytes = record it { controls = slice_set it.controls thread bytes }
