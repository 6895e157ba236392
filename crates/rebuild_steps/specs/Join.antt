-- An instance joins.
use Rattle.std.specs.Prelude.{◌≡◌, ℕ, ◌==◌, ◌&&◌, ◌||◌, if◌then◌else◌, not, Bool, true, false, [], Option, None, Some, Result, Ok, Err}
use Rattle.base_types.specs.declared.layout.Layout.{Layout}
use Rattle.inst_set.specs.Sets.{is_empty, with_inst}
use Rattle.rac_disk.specs.State.{State}
use Rattle.recovery.specs.Members.{entered}
use Rattle.recovery.specs.Reports.{no_reports}
use Rattle.scn_clock.specs.declared.clock.Clock.{Clock}
use Rattle.undo_segment.specs.declared.error.LoadError.{LoadError}
use Rattle.undo_segment.specs.declared.error.LoadError.TheVariants as error
use Rattle.undo_segment.specs.Faults.{IsTame}
use Rattle.undo_segment.specs.Load.{HoldsSegment, IsBadBlock, Loads}
use Rattle.undo_segment.specs.New.{clean_segment}
use Rattle.undo_segment.specs.Segment.{SegmentState}
use Rattle.wire_net.specs.Links.{no_packets}
use Rattle.inst_state.specs.declared.control.Control.{Control}
use Rattle.inst_state.specs.declared.control.Wanted.{Wanted}
use Rattle.inst_state.specs.declared.control.Wanted.TheVariants.{Start}
use Rattle.inst_state.specs.declared.inst.Inst.{Inst}
use Rattle.inst_state.specs.declared.inst.Life.TheVariants.{Joining}
use Rattle.inst_state.specs.declared.shared.Core.{Core}
use Rattle.inst_state.specs.declared.shared.Recovery.{Recovery}
use Rattle.inst_state.specs.Shared.{is_dark, is_live, is_running, open_control}
use Rattle.inst_loss.specs.Lost.{lost}
use Rattle.rebuild_steps.specs.Ends.{ended}
use Rattle.rebuild_steps.specs.declared.joins.Joined.{Joined}
use Rattle.rebuild_steps.specs.declared.joins.Joined.TheVariants.{Bad, Dark, Read, Unread}
use Rattle.rebuild_steps.specs.declared.opens.Opened.{Opened}
use Rattle.rebuild_steps.specs.Open.{OpensAs, is_open, opened, opened_core, scns_of}

-- A line asks for the start of an instance.
abbrev pub is_start_of : ℕ → Wanted → Bool
is_start_of me (Start inst) = inst == me
is_start_of me _ = false

-- A line, if there is one, asks for the start of an instance.
abbrev pub asks_start : ℕ → Option Control → Bool
asks_start me None = false
asks_start me (Some control) = is_start_of me control.wanted

-- Instances may join: the cluster runs and nobody is paused, or nobody is live.
abbrev pub is_open_to_joins : Core → Bool
is_open_to_joins core = is_running core.members.phase && is_empty core.paused || is_dark core.members.phase

-- An instance joins that isn't live, where an open line asks for it and instances may join.
abbrev pub may_join : Inst → Core → ℕ → Bool
may_join n core line =
    asks_start n.plan.me (open_control core line) && not (is_live core n.plan.me) && is_open_to_joins core

-- the number of a line, 0 without one
abbrev pub line_number : Option Control → ℕ
line_number None = 0
line_number (Some control) = control.line

-- an instance on its way up by a start line
abbrev pub joining : Inst → ℕ → Inst
joining n line = record n { life = Joining line; clock = record { scn = 0; known = 0 } }

-- what recovery has come to once the membership has changed: what was reported is forgotten
abbrev pub forgotten : Recovery → Recovery
forgotten recovery = record recovery { reports = no_reports; given = []; rebuilt = [] }

-- The membership changes as an instance is live: no message is under way.
abbrev pub entered_core : Core → ℕ → Core
entered_core core me = record core {
  net = record core.net { links = no_packets };
  members = entered core.members me;
  recovery = forgotten core.recovery;
}

-- With nobody live the membership changes, and the instance's former thread is to be closed first.
abbrev pub dark_core : Core → ℕ → Core
dark_core core me = entered_core (record core { recovery = record core.recovery { former = with_inst core.recovery.former me } }) me

-- a segment as it was read: it is all clean and the one of the instance, and its numbers are small
pub record IsReadOf (layout : Layout) (inst : ℕ) (own : SegmentState) : Type 0 where
  pub clean : own ≡ clean_segment layout own.head own.blocks
  pub seg : own.head.front.seg ≡ inst
  pub tame : IsTame own

-- What a read of an instance's segment gives.
abbrev pub LoadsOwn : Layout → ℕ → Result SegmentState LoadError → State → State → Type 0
LoadsOwn layout inst result old new = Loads HoldsSegment (IsBadBlock layout inst) result old new

-- An instance's segment was read as this, and the opening of its thread went so.
pub record OpensAfter (layout : Layout) (me : ℕ) (scns : Clock) (own : SegmentState) (how : Opened) (old new : State) : Type 0 where
  pub mid : State
  pub is_read : IsReadOf layout me own
  pub reads : LoadsOwn layout me (Ok own) old mid
  pub opens : OpensAs me scns how mid new

-- A block of an instance's segment was read, and isn't what a run leaves there.
pub record ReadsBadOwn (layout : Layout) (me : ℕ) (old new : State) : Type 0 where
  pub number : ℕ
  pub field : ℕ
  pub reads : LoadsOwn layout me (Err (error.Bad number field)) old new

-- What a Join left on the disk that went so.
abbrev pub JoinsAs : Inst → Core → Joined → State → State → Type 0
JoinsAs n core Dark old new = (is_dark core.members.phase ≡ true) × (new ≡ old)
JoinsAs n core (Read own how) old new =
    (is_dark core.members.phase ≡ false) × OpensAfter n.plan.layout n.plan.me (scns_of n core) own.value how old new
JoinsAs n core Bad old new = (is_dark core.members.phase ≡ false) × ReadsBadOwn n.plan.layout n.plan.me old new
JoinsAs n core Unread old new =
    (is_dark core.members.phase ≡ false) × LoadsOwn n.plan.layout n.plan.me (Err error.Failed) old new

-- an instance whose segment was read, after the opening of its thread
abbrev pub with_segment : Inst → SegmentState → Clock → Opened → Inst
with_segment n own scns how = opened (record n { segment = own }) scns how

-- Where the thread of an instance runs it has come in, else it has ended.
abbrev pub read_in : Inst → SegmentState → Clock → Opened → Inst
read_in n own scns how = if is_open how then with_segment n own scns how else lost (with_segment n own scns how)

-- The membership changes where the thread of an instance runs, else it has ended.
abbrev pub read_in_core : Inst → Core → SegmentState → Clock → Opened → Core
read_in_core n core own scns how =
    let now = opened_core core n.plan.me how in
    if is_open how then entered_core now n.plan.me else ended (with_segment n own scns how) now false

-- an instance on its way up after its calls of the disk, by how they went
abbrev pub came_in : Inst → Core → Joined → Inst
came_in n core Dark = n
came_in n core (Read own how) = read_in n own.value (scns_of n core) how
came_in n core _ = lost n

-- the shared part after the calls of an instance on its way up, by how they went
abbrev pub came_in_core : Inst → Core → Joined → Core
came_in_core n core Dark = dark_core core n.plan.me
came_in_core n core (Read own how) = read_in_core n core own.value (scns_of n core) how
came_in_core n core Bad = ended n core true
came_in_core n core Unread = ended n core false

-- an instance on its way up by a line
abbrev pub begun : Inst → Core → ℕ → Inst
begun n core line = joining n (line_number (open_control core line))

-- an instance after its Join by a line, by how that went
abbrev pub joined : Inst → Core → ℕ → Joined → Inst
joined n core line how = came_in (begun n core line) core how

-- the shared part after an instance's Join by a line, by how that went
abbrev pub joined_core : Inst → Core → ℕ → Joined → Core
joined_core n core line how = came_in_core (begun n core line) core how
