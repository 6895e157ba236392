-- What a step that was made does to the transactions of its instance.
use Rattle.std.proofs.Common.{◌≡◌, ℕ, ◌&&◌, Bool, true, false, not, refl, inl, inr}
use Rattle.std.specs.Prelude.{nat_lt}
use Rattle.std.specs.List.{list_all}
use Rattle.std.proofs.lemmas.Bool.{and_parts}
use Rattle.rac_disk.specs.State.{State}
use Rattle.inst_set.specs.Sets.{has}
use Rattle.recovery.specs.declared.members.Phase.{Phase}
use Rattle.recovery.specs.declared.members.Phase.TheVariants as phase
use Rattle.recovery.specs.Members.{all_reported}
use Rattle.inst_state.specs.declared.inst.Inst.{Inst}
use Rattle.inst_state.specs.declared.shared.Core.{Core}
use Rattle.inst_state.specs.Shared.{is_frozen, is_led_by, is_live, is_running, is_thawed, open_control}
use Rattle.inst_state.specs.State.{is_forced}
use Rattle.stmt_steps.specs.Start.{may_start}
use Rattle.report_steps.specs.Recovering.{is_dead, is_read, leads_recovery}
use Rattle.report_steps.specs.Reopen.{is_done, is_ready_but_forced, may_reopen}
use Rattle.report_steps.specs.Report.{is_settled, may_report}
use Rattle.thread_steps.specs.Read.{may_read}
use Rattle.rebuild_steps.specs.Join.{asks_start, is_open_to_joins, may_join}
use Rattle.rebuild_steps.specs.Thaw.{is_restored, may_thaw}
use Rattle.rebuild_steps.specs.declared.joins.Joined.{Joined}
use Rattle.rebuild_steps.specs.declared.joins.Joined.TheVariants as joined
use Rattle.rebuild_steps.specs.Join.{JoinsAs}
use Rattle.inst_node.specs.declared.actions.Action.{Action}
use Rattle.inst_node.specs.declared.actions.Action.TheVariants.{Inst as OfInst, Line, Plain, Session}
use Rattle.inst_node.specs.declared.actions.InstStep.TheVariants as inst
use Rattle.inst_node.specs.declared.actions.LineStep.TheVariants as line
use Rattle.inst_node.specs.declared.actions.PlainStep.TheVariants as plain
use Rattle.inst_node.specs.declared.actions.SessionStep.TheVariants as session
use Rattle.inst_node.specs.declared.hows.How.{How}
use Rattle.inst_node.specs.declared.hows.How.TheVariants as how
use Rattle.inst_node.specs.Allowed.{is_allowed}
use Rattle.inst_node.specs.Moves.{DiskAfter, JoinedAs, LineDisk, counted, part_after, prepared}
use Rattle.inst_node.specs.Needs.{inst_needs, line_needs, needs, plain_needs, session_needs}
use Rattle.run_laws.specs.Tells.{tells}
use Rattle.end_laws.specs.Marked.{is_log_read}
use Rattle.end_laws.proofs.ByKind.{IfMade, JoinFits, JoinsFit, did_of}
use Rattle.end_laws.proofs.Did.{Did}

frozen_rests : (p : Phase) → is_frozen p ≡ true → is_running p ≡ false
frozen_rests phase.Running e = absurd (let no : false ≡ true = e in cc)
frozen_rests _ e = refl

thawed_rests : (p : Phase) → is_thawed p ≡ true → is_running p ≡ false
thawed_rests phase.Running e = absurd (let no : false ≡ true = e in cc)
thawed_rests _ e = refl

recovery_rests : (n : Inst) (core : Core) → leads_recovery n core ≡ true → is_running core.members.phase ≡ false
recovery_rests n core may =
    let a = and_parts (is_frozen core.members.phase && is_led_by core n.plan.me) (all_reported core.members) may in
    frozen_rests core.members.phase (and_parts (is_frozen core.members.phase) (is_led_by core n.plan.me) a.0).0

read_rests : (n : Inst) (core : Core) (thread : ℕ) → may_read n core thread ≡ true → is_running core.members.phase ≡ false
read_rests n core thread may =
    let a = and_parts (nat_lt thread 8 && leads_recovery n core && is_dead core thread) (not (is_read n core thread)) may in
    let b = and_parts (nat_lt thread 8 && leads_recovery n core) (is_dead core thread) a.0 in
    recovery_rests n core (and_parts (nat_lt thread 8) (leads_recovery n core) b.0).1

report_rests : (n : Inst) (core : Core) → may_report n core ≡ true → is_running core.members.phase ≡ false
report_rests n core may =
    let a = and_parts (is_live core n.plan.me && is_frozen core.members.phase && not (has core.members.reported n.plan.me)) (is_settled n) may in
    let b = and_parts (is_live core n.plan.me && is_frozen core.members.phase) (not (has core.members.reported n.plan.me)) a.0 in
    frozen_rests core.members.phase (and_parts (is_live core n.plan.me) (is_frozen core.members.phase) b.0).1

reopen_rests : (n : Inst) (core : Core) → may_reopen n core ≡ true → is_running core.members.phase ≡ false
reopen_rests n core may =
    let a = and_parts (is_ready_but_forced n core) (is_forced n) may in
    let b = and_parts (is_thawed core.members.phase && is_led_by core n.plan.me) (list_all is_done n.leading.adopted) a.0 in
    thawed_rests core.members.phase (and_parts (is_thawed core.members.phase) (is_led_by core n.plan.me) b.0).0

out_of : (b : Bool) → not b ≡ true → b ≡ false
out_of true e = absurd (let no : false ≡ true = e in cc)
out_of false e = refl

join_out : (n : Inst) (core : Core) (number : ℕ) → may_join n core number ≡ true → is_live core n.plan.me ≡ false
join_out n core number may =
    let a = and_parts (asks_start n.plan.me (open_control core number) && not (is_live core n.plan.me)) (is_open_to_joins core) may in
    out_of (is_live core n.plan.me) (and_parts (asks_start n.plan.me (open_control core number)) (not (is_live core n.plan.me)) a.0).1

join_fits : (n : Inst) (core : Core) (it : Joined) (old new : State) → JoinsAs n core it old new → JoinFits n it
join_fits n core (joined.Read own opening) old new left = left.1.is_read.seg
join_fits n core joined.Dark old new left = tt
join_fits n core joined.Bad old new left = tt
join_fits n core joined.Unread old new left = tt

joins_fit : (n : Inst) (core : Core) (it : How) (old new : State) → JoinedAs n core it old new → JoinsFit n it
joins_fit n core (how.Joined it) old new left = join_fits n core it old new left
joins_fit n core _ old new left = absurd left

pub if_made : (n : Inst) (core : Core) (action : Action) (it : How) (old new : State) → needs n core action ≡ true → DiskAfter n core action it old new
    → IfMade action it (prepared n core action) (counted core n.plan.me action)
unfolding prepared counted session_needs inst_needs line_needs plain_needs LineDisk
if_made n core (Session session.StartStmt z) it old new may left =
    (and_parts (is_allowed n core (Session session.StartStmt z)) (may_start n z) may).1
if_made n core (OfInst inst.ReadThread thread) it old new may left =
    inl (read_rests n core thread (and_parts (is_allowed n core (OfInst inst.ReadThread thread)) (may_read n core thread) may).1)
if_made n core (Line line.Join number) it old new may left = (
  inr (join_out n core number (and_parts (is_allowed n core (Line line.Join number)) (may_join n core number) may).1),
  joins_fit n (counted core n.plan.me (Line line.Join number)) it old new left,
)
if_made n core (Plain plain.Report) it old new may left =
    inl (report_rests n core (and_parts (is_allowed n core (Plain plain.Report)) (may_report n core) may).1)
if_made n core (Plain plain.Thaw) it old new may left =
    inl (recovery_rests n core (and_parts (leads_recovery n core) (is_restored n core) (and_parts (is_allowed n core (Plain plain.Thaw)) (may_thaw n core) may).1).0)
if_made n core (Plain plain.Reopen) it old new may left =
    inl (reopen_rests n core (and_parts (is_allowed n core (Plain plain.Reopen)) (may_reopen n core) may).1)
if_made n core _ it old new may left = tt

-- what a step that was made did
pub did : (n : Inst) (core : Core) (action : Action) (it : How) (old new : State) → needs n core action ≡ true → DiskAfter n core action it old new
    → Did (prepared n core action) (counted core n.plan.me action) (is_log_read action) (part_after n core action it) (tells n core action it)
did n core action it old new may left =
    did_of (prepared n core action) (counted core n.plan.me action) action it (if_made n core action it old new may left)
