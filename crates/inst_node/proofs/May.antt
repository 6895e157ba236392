-- What the making of a step asks follows from its needs.
use Rattle.std.proofs.Common.{◌≡◌, ℕ, ◌<◌, ◌&&◌, ◌||◌, not, nat_lt, Bool, true, false, refl, subst, arith}
use Rattle.std.specs.List.{list_all, range_with_len}
use Rattle.disk_steps.specs.Write.{is_due, may_write_block, redo_is_durable}
use Rattle.report_steps.specs.Recovering.{all_closed, are_read, is_dead, is_rebuilt, is_to_rebuild, leads_recovery}
use Rattle.thread_steps.specs.Close.{is_all_rebuilt, may_close}
use Rattle.rebuild_steps.specs.Thaw.{is_restored, may_thaw}
use Rattle.inst_state.specs.declared.shared.Waves.{Waves}
use Rattle.inst_state.specs.declared.inst.Inst.{Inst}
use Rattle.inst_state.specs.declared.shared.Core.{Core}
use Rattle.inst_node.specs.declared.actions.Action.{Action}
use Rattle.inst_node.specs.declared.actions.Action.TheVariants.{Block, Dead, Inst as OfInst, Line, Plain, Session}
use Rattle.inst_node.specs.declared.actions.BlockStep.{BlockStep}
use Rattle.inst_node.specs.declared.actions.BlockStep.TheVariants as block
use Rattle.inst_node.specs.declared.actions.DeadStep.{DeadStep}
use Rattle.inst_node.specs.declared.actions.DeadStep.TheVariants as dead
use Rattle.inst_node.specs.declared.actions.InstStep.{InstStep}
use Rattle.inst_node.specs.declared.actions.InstStep.TheVariants as inst
use Rattle.inst_node.specs.declared.actions.LineStep.{LineStep}
use Rattle.inst_node.specs.declared.actions.LineStep.TheVariants as line
use Rattle.inst_node.specs.declared.actions.PlainStep.{PlainStep}
use Rattle.inst_node.specs.declared.actions.PlainStep.TheVariants as plain
use Rattle.inst_node.specs.declared.actions.SessionStep.{SessionStep}
use Rattle.inst_node.specs.declared.actions.SessionStep.TheVariants as session
use Rattle.inst_node.specs.Allowed.{is_allowed}
use Rattle.inst_node.specs.Moves.{counted, prepared}
use Rattle.inst_node.specs.Needs.{BlockMay, DeadMay, InstMay, LineMay, PlainMay, ReadyMay, SessionMay, block_needs, dead_needs, inst_needs, line_needs, needs, plain_needs, session_needs}

below : (a b : ℕ) → nat_lt a b ≡ true → a < b
below a b is = grind (arith, is)

both_left : (a b : Bool) → (a && b) ≡ true → a ≡ true
both_left true b is = refl
both_left false b is = is

both_right : (a b : Bool) → (a && b) ≡ true → b ≡ true
both_right true b is = is
both_right false b is = grind (arith, is)

-- the shared part at other waves
abbrev at_waves : Core → Waves → Core
at_waves core w = record core { waves = w }

-- the waves don't count for what is rebuilt
same_rebuilt : (k : ℕ) (n : Inst) (core : Core) (w : Waves)
    → list_all (λ block. not (is_to_rebuild n core block) || is_rebuilt n core block) (range_with_len 0 k)
    ≡ list_all (λ block. not (is_to_rebuild n (at_waves core w) block) || is_rebuilt n (at_waves core w) block) (range_with_len 0 k)
same_rebuilt k n core w = refl

close_may : (n : Inst) (core : Core) (w : Waves) (thread : ℕ) → may_close n core thread ≡ true → may_close n (at_waves core w) thread ≡ true
unfolding is_all_rebuilt
close_may n core w thread is =
    subst (λ b. (nat_lt thread 8 && leads_recovery n core && is_dead core thread && (are_read n core && b)) ≡ true) (same_rebuilt 200 n core w) is

thaw_may : (n : Inst) (core : Core) (w : Waves) → may_thaw n core ≡ true → may_thaw n (at_waves core w) ≡ true
unfolding is_restored
thaw_may n core w is =
    subst (λ b. (leads_recovery n core && (all_closed core && b)) ≡ true) (same_rebuilt 200 n core w) is

session_may : (n : Inst) (core : Core) (kind : SessionStep) (z : ℕ) → needs n core (Session kind z) ≡ true → SessionMay (prepared n core (Session kind z)) kind z
unfolding session_needs prepared
session_may n core session.StartStmt z is = is
session_may n core session.Visit z is = is
session_may n core session.Change z is = is
session_may n core session.Mark z is = is
session_may n core session.StepBack z is = is
session_may n core session.EndStmt z is = is
session_may n core session.AskUndo z is = tt
session_may n core session.Broadcast z is = tt
session_may n core session.Ack z is = tt

dead_may : (n : Inst) (core : Core) (kind : DeadStep) (job : ℕ) → needs n core (Dead kind job) ≡ true → DeadMay (prepared n core (Dead kind job)) kind job
unfolding dead_needs prepared
dead_may n core dead.Mark job is = is
dead_may n core dead.StepBack job is = is
dead_may n core dead.AskUndo job is = tt

block_may : (n : Inst) (core : Core) (kind : BlockStep) (number : ℕ) → needs n core (Block kind number) ≡ true
    → BlockMay (prepared n core (Block kind number)) (counted core n.plan.me (Block kind number)) kind number
unfolding block_needs prepared counted
block_may n core block.Ask number is = tt
block_may n core block.Evict number is = tt
block_may n core block.WriteBlock number is =
    below number 200
    (both_left (nat_lt number 200) (is_due n core number)
    (both_left (nat_lt number 200 && is_due n core number) (redo_is_durable n number)
    (both_right (is_allowed n core (Block block.WriteBlock number)) (may_write_block n core number) is)))
block_may n core block.AskWrite number is = tt
block_may n core block.GivePast number is = tt
block_may n core block.RecoverBlock number is = is

inst_may : (n : Inst) (core : Core) (kind : InstStep) (from : ℕ) → needs n core (OfInst kind from) ≡ true
    → InstMay (prepared n core (OfInst kind from)) (counted core n.plan.me (OfInst kind from)) kind from
unfolding inst_needs prepared counted
inst_may n core inst.ReadThread from is = is
inst_may n core inst.CloseThread from is =
    close_may n core (counted core n.plan.me (OfInst inst.CloseThread from)).waves from is
inst_may n core inst.MasterTake from is = tt
inst_may n core inst.Invalidate from is = tt
inst_may n core inst.Ship from is = tt
inst_may n core inst.ServeCopy from is = tt
inst_may n core inst.DropPast from is = tt
inst_may n core inst.Install from is = tt
inst_may n core inst.TakeCopy from is = tt
inst_may n core inst.TakeUndo from is = tt
inst_may n core inst.ServeUndo from is = tt
inst_may n core inst.Heard from is = tt
inst_may n core inst.TakeBucket from is = tt

line_may : (n : Inst) (core : Core) (kind : LineStep) (number : ℕ) → needs n core (Line kind number) ≡ true
    → LineMay (prepared n core (Line kind number)) (counted core n.plan.me (Line kind number)) kind number
unfolding line_needs prepared counted
line_may n core line.Crash number is = tt
line_may n core line.SendBucket number is = tt
line_may n core line.KeepBucket number is = tt
line_may n core line.Checkpoint number is = tt
line_may n core line.Skip number is = tt
line_may n core line.Join number is = is

plain_may : (n : Inst) (core : Core) (kind : PlainStep) → needs n core (Plain kind) ≡ true
    → PlainMay (prepared n core (Plain kind)) (counted core n.plan.me (Plain kind)) kind
unfolding plain_needs prepared counted
plain_may n core plain.Enter is = tt
plain_may n core plain.Force is = tt
plain_may n core plain.Report is = tt
plain_may n core plain.Thaw is = thaw_may n core (counted core n.plan.me (Plain plain.Thaw)).waves is
plain_may n core plain.Reopen is = tt
plain_may n core plain.Resume is = tt
plain_may n core plain.Leave is = tt
plain_may n core plain.Wave is = tt

-- what a step needs is what its making asks of the instance that is ready for it
pub ready_may : (n : Inst) (core : Core) (action : Action) → needs n core action ≡ true
    → ReadyMay (prepared n core action) (counted core n.plan.me action) action
ready_may n core (Session kind z) is = session_may n core kind z is
ready_may n core (Dead kind job) is = dead_may n core kind job is
ready_may n core (Block kind number) is = block_may n core kind number is
ready_may n core (OfInst kind from) is = inst_may n core kind from is
ready_may n core (Line kind number) is = line_may n core kind number is
ready_may n core (Plain kind) is = plain_may n core kind is
