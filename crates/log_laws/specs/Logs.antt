-- What the redo logs of a cluster hold.
use Rattle.std.specs.Prelude.{◌≡◌, ℕ, ◌<◌, ◌&&◌, not, ◌⊎◌, Bool, true, false, List, ◌++◌, length, map, Some, slice_get}
use Rattle.log_history.specs.Logs.{IsFirstWrong, IsRight}
use Rattle.inst_state.specs.declared.inst.Inst.{Inst}
use Rattle.world_machine.specs.declared.worlds.World.{World}
use Rattle.std.specs.List.{AllByRecursion}
use Rattle.redo_types.specs.declared.redo.Redo.{Redo}
use Rattle.redo_record.specs.Front.{log_bytes}
use Rattle.redo_record.specs.Redo.{IsRedo}
use Rattle.redo_thread.specs.Thread.{ThreadState}
use Rattle.base_types.specs.declared.layout.Layout.{Layout}
use Rattle.part_image.specs.Cells.{Begins}
use Rattle.control_image.specs.declared.entry.ControlEntry.{ControlEntry}
use Rattle.control_image.specs.Entry.{entry_bytes}
use Rattle.rac_disk.specs.Content.{Content, control_at, log_at}
use Rattle.thread_steps.specs.Entries.{has_small_numbers}
use Rattle.thread_steps.specs.Found.{are_small}
use Rattle.thread_steps.specs.Versions.{HasBadOne, named_blocks}
use Rattle.thread_steps.specs.declared.found.Found.{Found}
use Rattle.thread_steps.specs.declared.found.Found.TheVariants as found
use Rattle.inst_set.specs.Sets.{has}
use Rattle.inst_state.specs.declared.shared.Core.{Core}
use Rattle.inst_state.specs.Shared.{is_live}

-- Bytes are those of whole records, one behind the other.
pub record IsWhole (bytes : List ℕ) : Type 0 where
  pub records : List Redo
  pub each : AllByRecursion IsRedo records
  pub spelled : bytes ≡ log_bytes records

-- The thread of an instance is open: the instance is live, and its former thread hasn't to be closed first.
abbrev pub is_open : Core → ℕ → Bool
is_open core inst = is_live core inst && not (has core.recovery.former inst)

-- The disk has all of a thread's log that the thread holds to be durable, and with what waits it is whole records.
pub record HasItsLog (it : Content) (inst : ℕ) (thread : ThreadState) : Type 0 where
  pub number : thread.number ≡ inst
  pub durable : thread.durable ≡ length (log_at it inst)
  pub whole : IsWhole (log_at it inst ++ thread.waiting)

-- Each open thread has its log, and each log is right: whole records, and then nothing or one cut short.
pub record HasRightLogs (w : World) (it : Content) : Type 0 where
  pub opened : (i : ℕ) (n : Inst) → slice_get w.insts i ≡ Some n → is_open w.core i ≡ true → HasItsLog it i n.thread
  pub right : (thread : ℕ) → thread < 8 → IsRight (log_at it thread)

-- No log of a disk is one that no run leaves.
abbrev pub HasGoodLogs : Content → Type 0
HasGoodLogs it = (thread place : ℕ) → IsFirstWrong (map (λ log. log.bytes) it.logs) thread place → ⊥

-- The control entry of a thread has a number that no run comes near.
pub record HasLargeNumbers (thread : ℕ) (it : Content) : Type 0 where
  pub entry : ControlEntry
  pub stands : Begins (control_at it thread) (entry_bytes entry)
  pub large : has_small_numbers entry ≡ false

-- Why a thread is told to be such as no run leaves it: its entry has a number that no run comes near, or one of its records
-- has, or a block that they name isn't what a run leaves there. Its log alone never is the reason.
abbrev pub IsBadFor : Layout → ℕ → Found → Content → Type 0
IsBadFor layout thread (found.Unread true) it = HasLargeNumbers thread it
IsBadFor layout thread (found.Stopped log true) it =
    (are_small log.read.records ≡ false) ⊎ HasBadOne layout (named_blocks log.read.records) it
IsBadFor layout thread _ it = Unit {0}
