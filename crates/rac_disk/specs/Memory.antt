-- A shared disk in memory, as contracts see it.
use Rattle.std.specs.Prelude.{ℕ, zero, suc, ◌-◌, ◌==◌, ◌&&◌, nat_lt, nat_le, Bool, false, if◌then◌else◌, List, []}
use Rattle.std.specs.Prelude.{◌++◌, length, take, Option, None, Some, is_some, find, slice_index, slice_set, replicate}
use Rattle.std.specs.Option.{option_map}
use Rattle.rac_io.specs.Memory.{count_after}
use Rattle.rac_disk.specs.declared.plan.CallKind.{CallKind}
use Rattle.rac_disk.specs.declared.plan.CallKind.TheVariants.{ReadBlock, WriteBlock, Append, Cut, LogLen}
use Rattle.rac_disk.specs.declared.plan.CallKind.TheVariants.{ReadLog, ReadControl, WriteControl}
use Rattle.rac_disk.specs.declared.plan.Planned.{Planned}
use Rattle.rac_disk.specs.Content.{Content, LogState, log_at, room_at, with_log}
use Rattle.rac_disk.specs.State.{State}

-- the place of a kind of call in a list of counts
abbrev pub place_of : CallKind → ℕ
place_of ReadBlock = 0
place_of WriteBlock = 1
place_of Append = 2
place_of Cut = 3
place_of LogLen = 4
place_of ReadLog = 5
place_of ReadControl = 6
place_of WriteControl = 7

-- the calls of a disk in memory: the plan of those that fail, how many of each kind were made, and how many failed
-- as planned
pub record Calls : Type 0 where
  pub plan : List Planned
  pub made : List ℕ
  pub faults : ℕ

-- the number, from 1, of the next call of a kind
abbrev pub next_number : Calls → CallKind → ℕ
next_number calls kind = count_after (slice_index calls.made (place_of kind))

-- an entry of a plan is for the call of this kind and number
abbrev pub is_for : CallKind → ℕ → Planned → Bool
is_for kind number entry = (place_of entry.what == place_of kind) && (entry.nth == number)

-- what the next call of a kind is to keep, by the first entry of the plan for it, if that call is planned to fail
abbrev pub planned : Calls → CallKind → Option ℕ
planned calls kind = option_map (λ entry. entry.keep) (find (is_for kind (next_number calls kind)) calls.plan)

-- the calls with one more of a kind, which failed if that was planned
abbrev pub with_call : Calls → CallKind → Calls
with_call calls kind = record {
  plan = calls.plan;
  made = slice_set calls.made (place_of kind) (next_number calls kind);
  faults = if is_some (planned calls kind) then count_after calls.faults else calls.faults;
}

-- a disk in memory: what it holds, its calls, and how many appends met a full log
pub record MemState : Type 0 where
  pub disk : Content
  pub calls : Calls
  pub full : ℕ

-- what it tells and counts
abbrev pub state_of : MemState → State
state_of it = record { told = Some it.disk; faults = it.calls.faults; full = it.full }

-- after a call of a kind that left this on the disk
abbrev pub after_call : MemState → CallKind → Content → MemState
after_call it kind disk = record { disk = disk; calls = with_call it.calls kind; full = it.full }

-- What a write leaves that is planned to fail and to keep so much, or isn't planned to fail: the new, or the old
-- where it keeps nothing.
abbrev pub left_by_write : Option ℕ → Content → Content → Content
left_by_write None old new = new
left_by_write (Some zero) old new = old
left_by_write (Some (suc keep)) old new = new

-- the bytes that an append is to keep, if there is room
abbrev pub piece_of : Option ℕ → List ℕ → List ℕ
piece_of None bytes = bytes
piece_of (Some keep) bytes = take keep bytes

-- how many bytes more a thread's log has room for
abbrev pub free_at : Content → ℕ → ℕ
free_at it thread = room_at it thread - length (log_at it thread)

-- an append met a full log: it wasn't planned to fail, and there was less room than bytes
abbrev pub is_full : Option ℕ → ℕ → List ℕ → Bool
is_full None free bytes = nat_lt free (length bytes)
is_full (Some keep) free bytes = false

-- an append succeeds: it isn't planned to fail, and there is room for its bytes
abbrev pub append_succeeds : Option ℕ → ℕ → List ℕ → Bool
append_succeeds None free bytes = nat_le (length bytes) free
append_succeeds (Some keep) free bytes = false

-- after an append, which keeps the bytes that it is to keep, as many as there is room for
abbrev pub after_append : MemState → ℕ → List ℕ → MemState
after_append it thread bytes = record {
  disk =
      with_log it.disk thread
      (log_at it.disk thread ++ take (free_at it.disk thread) (piece_of (planned it.calls Append) bytes));
  calls = with_call it.calls Append;
  full = if is_full (planned it.calls Append) (free_at it.disk thread) bytes then count_after it.full else it.full;
}

-- a log of no bytes, with this room
abbrev pub empty_log : ℕ → LogState
empty_log room = record { bytes = []; room = room }

-- a block of zeros
unfoldable pub zero_block : List ℕ
zero_block = replicate 512 0

-- a control entry of zeros
unfoldable pub zero_entry : List ℕ
zero_entry = replicate 32 0

-- what a new disk holds: all its blocks and control entries are zeros, and its logs are empty and have this room
abbrev pub new_content : ℕ → Content
new_content room = record {
  blocks = replicate 200 zero_block;
  logs = replicate 8 (empty_log room);
  controls = replicate 8 zero_entry;
}

-- a new disk in memory, of which no call was made
abbrev pub new_disk : ℕ → List Planned → MemState
new_disk room plan = record {
  disk = new_content room;
  calls = record { plan = plan; made = replicate 8 0; faults = 0 };
  full = 0;
}
