-- A checkpoint ends: the control entry moves.
use Rattle.std.specs.Prelude.{ℕ, ◌==◌, ◌&&◌, not, nat_le, nat_lt, max, if◌then◌else◌, Bool, true, false, List, [], ◌∷◌, filter, find, fold, Option, None, Some, slice_index_or}
use Rattle.std.specs.List.{list_any, range_with_len}
use Rattle.base_types.specs.declared.names.RedoAt.{RedoAt}
use Rattle.control_image.specs.declared.entry.ControlEntry.{ControlEntry}
use Rattle.control_image.specs.Entry.{entry_bytes}
use Rattle.control_image.specs.declared.entry.ThreadStatus.TheVariants.{Running}
use Rattle.journal.specs.declared.entry.Entry.TheVariants.{Checkpointed}
use Rattle.scn_clock.specs.declared.clock.Clock.{Clock}
use Rattle.undo_segment.specs.Dirty.{first_dirty}
use Rattle.buffer_cache.specs.Cache.{position}
use Rattle.inst_state.specs.declared.inst.Begun.{Begun}
use Rattle.inst_state.specs.declared.inst.Inst.{Inst}
use Rattle.inst_state.specs.declared.inst.Made.{Made}
use Rattle.inst_state.specs.declared.shared.Core.{Core}
use Rattle.inst_state.specs.Shared.{answering, told}
use Rattle.image_steps.specs.AskWrite.{past_version}
use Rattle.inst_loss.specs.Lost.{lost}
use Rattle.inst_loss.specs.LostCore.{lost_core}
use Rattle.inst_loss.specs.declared.ends.Loss.TheVariants as loss
use Rattle.disk_calls.specs.declared.writes.Written.{Written}
use Rattle.disk_calls.specs.declared.writes.Written.TheVariants.{Done, Failed}

-- Nothing is waited for.
abbrev pub waits_for_none : List Bool → Bool
waits_for_none waits = not (list_any (λ (waited : Bool). waited) waits)

-- Two versions, if there are both, are the same.
abbrev pub same_version : Option ℕ → Option ℕ → Bool
same_version (Some a) (Some b) = a == b
same_version _ _ = false

-- The past image of a block is left that was there as a checkpoint began.
abbrev pub is_past_left : Inst → Begun → ℕ → Bool
is_past_left n begun block = same_version (slice_index_or begun.pasts block None) (past_version n block)

-- All that a checkpoint waits for is done.
abbrev pub is_ready : Inst → Begun → Bool
is_ready n begun =
    waits_for_none begun.blocks && waits_for_none begun.segment
    && not (list_any (is_past_left n begun) (range_with_len 0 64))

-- a begun checkpoint, if there is one, is ready
abbrev pub is_ready_if : Inst → Option Begun → Bool
is_ready_if n None = false
is_ready_if n (Some begun) = is_ready n begun

-- A line's checkpoint ends once all that it waits for is done.
abbrev pub may_end_checkpoint : Inst → ℕ → Bool
may_end_checkpoint n line = is_ready_if n (find (λ (begun : Begun). begun.line == line) n.wave.checkpoints)

-- the place in the own redo before which recovery needs nothing
abbrev pub position_now : Inst → RedoAt
position_now n = position n.cache (first_dirty n.segment) n.thread.durable

-- the highest SCNs, with those of a record more
abbrev pub with_made : Clock → Made → Clock
with_made scns made = record {
  scn = max scns.scn made.scn;
  known = if made.ends then max scns.known made.scn else scns.known;
}

-- the highest SCNs, with those of a record more if it stands before a place
abbrev pub with_made_before : ℕ → Clock → Made → Clock
with_made_before at scns made = if nat_lt made.at at then with_made scns made else scns

-- the highest SCNs of the own redo before the position
abbrev pub scns_now : Inst → Clock
scns_now n = fold (with_made_before (position_now n)) n.entry_scns n.made

-- the control entry that a checkpoint writes
abbrev pub entry_now : Inst → ControlEntry
entry_now n = record {
  status = Running;
  position = position_now n;
  highest_scn = (scns_now n).scn;
  highest_end_scn = (scns_now n).known;
}

-- the bytes of a control entry
unfoldable pub bytes_of_entry : ControlEntry → List ℕ
bytes_of_entry entry = entry_bytes entry

-- an instance whose checkpoint has ended
abbrev pub checkpoint_ended : Inst → ℕ → Inst
checkpoint_ended n line = record n {
  entry_scns = scns_now n;
  made = filter (λ (made : Made). nat_le (position_now n) made.at) n.made;
  wave = record n.wave { checkpoints = filter (λ (begun : Begun). not (begun.line == line)) n.wave.checkpoints };
}

-- an instance after its control entry was written so
abbrev pub checkpointed : Inst → ℕ → Written → Inst
checkpointed n line Done = checkpoint_ended n line
checkpointed n line Failed = lost n

-- the shared part after a control entry was written so
abbrev pub checkpoint_told : Inst → Core → ℕ → Written → Core
checkpoint_told n core line Done = told (answering core line) (Checkpointed line)
checkpoint_told n core line Failed = lost_core n core (loss.Ended false) (Some 0)
