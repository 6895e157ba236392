-- What the leader needs for a Reopen, but for the force of its redo.
use Rattle.std.specs.Prelude.{◌==◌, ◌&&◌, Bool, is_none}
use Rattle.std.specs.List.{list_all}
use Rattle.undo_segment.specs.Begin.{active_count}
use Rattle.undo_segment.specs.Dirty.{first_dirty}
use Rattle.undo_segment.specs.Segment.{SegmentState}
use Rattle.inst_state.specs.declared.inst.Inst.{Inst}
use Rattle.inst_state.specs.declared.shared.Core.{Core}
use Rattle.inst_state.specs.Shared.{is_led_by, is_thawed}

-- No transaction of a segment is under way, and the disk has its blocks.
abbrev pub is_done : SegmentState → Bool
is_done segment = (active_count segment == 0) && is_none (first_dirty segment)

-- The leader has rolled back and written what it adopted.
abbrev pub is_ready_but_forced : Inst → Core → Bool
is_ready_but_forced n core =
    is_thawed core.members.phase && is_led_by core n.plan.me && list_all is_done n.leading.adopted
