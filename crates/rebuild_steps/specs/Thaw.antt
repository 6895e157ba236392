-- The leader deals the blocks' masters anew and adopts the segments of instances that aren't there.
use Rattle.std.specs.Prelude.{◌≡◌, ℕ, ◌&&◌, Bool, true, false, List, Option, None, Some, Result, Ok, Err}
use Rattle.inst_set.specs.Sets.{has, without_inst}
use Rattle.rac_disk.specs.State.{State}
use Rattle.recovery.specs.declared.members.Membership.{Membership}
use Rattle.recovery.specs.declared.members.Phase.TheVariants as phase
use Rattle.scn_clock.specs.declared.clock.Clock.{Clock}
use Rattle.undo_segment.specs.declared.error.LoadError.{LoadError}
use Rattle.undo_segment.specs.declared.error.LoadError.TheVariants as error
use Rattle.undo_segment.specs.Segment.{SegmentState}
use Rattle.wire_net.specs.Masters.{dealt}
use Rattle.inst_state.specs.declared.inst.Inst.{Inst}
use Rattle.inst_state.specs.declared.shared.Core.{Core}
use Rattle.inst_loss.specs.Lost.{lost}
use Rattle.report_steps.specs.Recovering.{all_closed, are_rebuilt, leads_recovery}
use Rattle.report_steps.specs.TakeOver.{taken_over}
use Rattle.rebuild_steps.specs.declared.opens.Opened.{Opened}
use Rattle.rebuild_steps.specs.declared.thaws.Thawed.{Thawed}
use Rattle.rebuild_steps.specs.declared.thaws.Thawed.TheVariants.{Bad, Done, Unopened, Unread}
use Rattle.rebuild_steps.specs.Adopt.{ReadsSegments, adopted, to_adopt}
use Rattle.rebuild_steps.specs.Bound.{bound_of}
use Rattle.rebuild_steps.specs.Ends.{ended}
use Rattle.rebuild_steps.specs.Open.{OpensAs, is_open, learnt_of, opened, opened_core, scns_of}

-- Each dead thread is closed, and each block rebuilt that is to be.
unfoldable pub is_restored : Inst → Core → Bool
is_restored n core = all_closed core && are_rebuilt n core

-- The leader thaws the cluster once each dead thread is closed and each block rebuilt that is to be.
abbrev pub may_thaw : Inst → Core → Bool
may_thaw n core = leads_recovery n core && is_restored n core

-- The leader has come in with nobody live: its own thread is to be opened.
abbrev pub opens_own : Inst → Core → Bool
opens_own n core = has core.recovery.former n.plan.me

-- What the opening of a thread, if it is to be opened, left on the disk that went so.
abbrev pub OpensIf : Bool → ℕ → Clock → Option Opened → State → State → Type 0
OpensIf true me scns (Some how) old new = OpensAs me scns how old new
OpensIf false me scns None old new = new ≡ old
OpensIf _ me scns _ old new = ⊥

-- A thread that was to be opened runs.
abbrev pub runs : Option Opened → Bool
runs None = true
runs (Some how) = is_open how

-- an instance after the opening of its thread, if it was to be opened
abbrev pub opened_if : Inst → Clock → Option Opened → Inst
opened_if n scns None = n
opened_if n scns (Some how) = opened n scns how

-- the shared part after the opening of a thread, if it was to be opened
abbrev pub opened_core_if : Core → ℕ → Option Opened → Core
opened_core_if core me None = core
opened_core_if core me (Some how) = opened_core core me how

-- The leader's thread runs, if it was to be opened, and this is what the read of the segments gave that it is to adopt.
pub record OpensAndReads (n : Inst) (core : Core) (opening : Option Opened) (result : Result (List SegmentState) LoadError) (old new : State) : Type 0 where
  pub mid : State
  pub opens : OpensIf (opens_own n core) n.plan.me (scns_of n core) opening old mid
  pub runs : runs opening ≡ true
  pub reads : ReadsSegments n.plan.layout (to_adopt n core) result mid new

-- A block of a segment that the leader is to adopt isn't what a run leaves there.
pub record ReadsBadSegment (n : Inst) (core : Core) (opening : Option Opened) (old new : State) : Type 0 where
  pub number : ℕ
  pub field : ℕ
  pub reads : OpensAndReads n core opening (Err (error.Bad number field)) old new

-- What a Thaw left on the disk that went so.
abbrev pub ThawsAs : Inst → Core → Thawed → State → State → Type 0
ThawsAs n core (Done opening owns) old new = OpensAndReads n core opening (Ok owns.value.items) old new
ThawsAs n core (Unopened opening) old new =
    (runs opening ≡ false) × OpensIf (opens_own n core) n.plan.me (scns_of n core) opening old new
ThawsAs n core (Bad opening) old new = ReadsBadSegment n core opening old new
ThawsAs n core (Unread opening) old new = OpensAndReads n core opening (Err error.Failed) old new

-- a membership in which the blocks have masters again
abbrev pub in_thaw : Membership → Membership
in_thaw members = record members { phase = phase.Thawed }

-- What the instances share as the cluster thaws: the masters are dealt to the live instances, and the clocks after recovery
-- are known.
unfoldable pub dealt_core : Core → ℕ → Clock → Core
dealt_core core me bound = record core {
  net = record core.net { masters = dealt core.members.live };
  members = in_thaw core.members;
  recovery = record core.recovery { bound = bound; former = without_inst core.recovery.former me };
}

-- the shared part as an instance thaws the cluster
abbrev pub thaw_core : Inst → Core → Core
thaw_core n core = dealt_core core n.plan.me (bound_of n core)

-- the leader with segments adopted that were read, of which it rolls transactions back
abbrev pub with_adopted : Inst → List SegmentState → Inst
with_adopted n owns =
    record n { leading = record n.leading { leads = true; adopted = adopted n.leading.adopted owns } }

-- the leader that has adopted segments and taken over what its Thaw has made of the shared part
unfoldable pub led : Inst → Core → List SegmentState → Inst
led n core owns = taken_over (with_adopted n owns) core

-- an instance whose clock has learnt of the clocks after recovery
abbrev pub bounded : Inst → Clock → Inst
bounded n bound = record n { clock = learnt_of n.clock bound }

-- The leader as the cluster thaws: it has adopted segments, taken over what the Thaw makes, and raised its clock.
abbrev pub thaw_part : Inst → Core → List SegmentState → Inst
thaw_part n core owns = bounded (led n (thaw_core n core) owns) (bound_of n core)

-- the leader after the opening of its thread, if it was to be opened
abbrev pub opened_part : Inst → Core → Option Opened → Inst
opened_part n core opening = opened_if n (scns_of n core) opening

-- the shared part after the opening of the leader's thread, if it was to be opened
abbrev pub opened_shared : Inst → Core → Option Opened → Core
opened_shared n core opening = opened_core_if core n.plan.me opening

-- the leader after a Thaw, by how that went
abbrev pub thawed : Inst → Core → Thawed → Inst
thawed n core (Done opening owns) =
    thaw_part (opened_part n core opening) (opened_shared n core opening) owns.value.items
thawed n core (Unopened opening) = lost (opened_part n core opening)
thawed n core (Bad opening) = lost (opened_part n core opening)
thawed n core (Unread opening) = lost (opened_part n core opening)

-- the shared part after a Thaw, by how that went
abbrev pub thawed_core : Inst → Core → Thawed → Core
thawed_core n core (Done opening owns) = thaw_core (opened_part n core opening) (opened_shared n core opening)
thawed_core n core (Unopened opening) = ended (opened_part n core opening) (opened_shared n core opening) false
thawed_core n core (Bad opening) = ended (opened_part n core opening) (opened_shared n core opening) true
thawed_core n core (Unread opening) = ended (opened_part n core opening) (opened_shared n core opening) false
