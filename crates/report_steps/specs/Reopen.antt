-- The cluster runs again, and each instance goes on.
use Rattle.std.specs.Prelude.{ℕ, ◌^◌, ◌==◌, ◌&&◌, if◌then◌else◌, Bool, false, List, [], ◌∷◌, find, is_none, sum_by, unwrap_or}
use Rattle.std.specs.List.{list_all}
use Rattle.inst_set.specs.declared.set.InstSet.{InstSet}
use Rattle.inst_set.specs.Sets.{all_insts, has, is_empty, no_insts, without_inst}
use Rattle.journal.specs.declared.entry.Entry.{Entry}
use Rattle.journal.specs.declared.entry.Entry.TheVariants as entry
use Rattle.scn_clock.specs.declared.clock.Clock.{Clock}
use Rattle.scn_clock.specs.Clock.{learnt, raised}
use Rattle.undo_segment.specs.Begin.{active_count}
use Rattle.undo_segment.specs.Dirty.{first_dirty}
use Rattle.undo_segment.specs.Segment.{SegmentState}
use Rattle.recovery.specs.declared.members.Phase.TheVariants.{Running}
use Rattle.inst_state.specs.declared.inst.Inst.{Inst}
use Rattle.inst_state.specs.declared.inst.Life.{Life}
use Rattle.inst_state.specs.declared.inst.Life.TheVariants.{Joining, Up}
use Rattle.inst_state.specs.declared.shared.Core.{Core}
use Rattle.inst_state.specs.declared.shared.Waves.{Waves}
use Rattle.inst_state.specs.Shared.{is_led_by, is_live, is_running, is_thawed, with_answered}
use Rattle.inst_state.specs.State.{is_forced}
use Rattle.report_steps.specs.TakeOver.{taken_over}

-- No transaction of a segment is active, and the disk has all its blocks.
abbrev pub is_done : SegmentState → Bool
is_done segment = active_count segment == 0 && is_none (first_dirty segment)

-- The leader may reopen once what it has adopted is done, but for redo that waits.
abbrev pub is_ready_but_forced : Inst → Core → Bool
is_ready_but_forced n core =
    is_thawed core.members.phase && is_led_by core n.plan.me && list_all is_done n.leading.adopted

-- The leader reopens once what it has adopted is done and no redo waits.
abbrev pub may_reopen : Inst → Core → Bool
may_reopen n core = is_ready_but_forced n core && is_forced n

-- A segment is the one of an instance.
abbrev pub is_of : ℕ → SegmentState → Bool
is_of inst segment = segment.head.front.seg == inst

-- the own segment of an instance: the one that it has adopted, if it did
abbrev pub own_segment : Inst → SegmentState
own_segment n = unwrap_or (find (is_of n.plan.me) n.leading.adopted) n.segment

-- The leader gives back what it has adopted; its own segment stays with it.
abbrev pub reopened : Inst → Inst
reopened n = record n { segment = own_segment n; leading = record n.leading { adopted = [] } }

-- the bit of an instance, if it is in a set
abbrev pub bit_of : InstSet → ℕ → ℕ
bit_of set inst = if has set inst then 2 ^ inst else 0

-- a set as a number, a bit for each instance
abbrev pub bits_of : InstSet → ℕ
bits_of set = sum_by (bit_of set) all_insts

-- a journal that tells of which instances the threads were closed, where there are some
abbrev pub recovery_told : InstSet → List Entry → List Entry
recovery_told closed journal = if is_empty closed then journal else entry.Recovered (bits_of closed) ∷ journal

-- the shared part after the cluster runs again
abbrev pub reopened_core : Core → Core
reopened_core core = record core {
  members = record core.members { phase = Running };
  recovery = record core.recovery { closed_since = no_insts };
  journal = recovery_told core.recovery.closed_since core.journal;
}

-- A paused instance resumes once the cluster runs.
abbrev pub may_resume : Inst → Core → Bool
may_resume n core = is_live core n.plan.me && is_running core.members.phase && n.paused

-- a clock that is raised to what recovery has left
abbrev pub risen : Clock → Clock → Clock
risen clock bound = learnt (raised clock bound.scn) bound.known

-- An instance that has joined is up.
abbrev pub up_by : Life → Life
up_by (Joining line) = Up
up_by life = life

-- An instance that resumes takes over what the Thaw has made where it hasn't, and its clock is raised.
abbrev pub resumed : Inst → Core → Inst
resumed n core =
    record (taken_over n core) { clock = risen n.clock core.recovery.bound; paused = false; life = up_by n.life }

-- the waves once the start line is answered by which an instance has joined
abbrev pub joined_by : Life → Waves → Waves
joined_by (Joining line) waves = with_answered waves line
joined_by life waves = waves

-- a journal that tells that an instance is up which has joined
abbrev pub up_told : ℕ → Life → List Entry → List Entry
up_told me (Joining line) journal = entry.Up line me ∷ journal
up_told me life journal = journal

-- the shared part after an instance has resumed
abbrev pub resumed_core : Inst → Core → Core
resumed_core n core = record core {
  paused = without_inst core.paused n.plan.me;
  waves = joined_by n.life core.waves;
  journal = up_told n.plan.me n.life core.journal;
}
