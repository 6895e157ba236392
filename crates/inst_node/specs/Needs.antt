-- Which steps an instance may make.
use Rattle.std.specs.Prelude.{◌≡◌, ℕ, ◌<◌, ◌==◌, ◌&&◌, Bool, true, false, Option, None, Some, is_some}
use Rattle.wire_net.specs.declared.message.Lane.TheVariants.{Main, Undo}
use Rattle.inst_state.specs.declared.control.Control.{Control}
use Rattle.inst_state.specs.declared.inst.Inst.{Inst}
use Rattle.inst_state.specs.declared.shared.Core.{Core}
use Rattle.inst_state.specs.Shared.{due_crash, open_control}
use Rattle.stmt_steps.specs.Back.{may_step_back, may_step_back_dead}
use Rattle.stmt_steps.specs.Change.{may_change}
use Rattle.stmt_steps.specs.End.{may_end}
use Rattle.stmt_steps.specs.Mark.{may_mark, may_mark_dead}
use Rattle.stmt_steps.specs.Start.{may_start}
use Rattle.stmt_steps.specs.Visit.{may_visit}
use Rattle.inst_node.specs.declared.actions.Action.{Action}
use Rattle.inst_node.specs.declared.actions.Action.TheVariants.{Block, Dead, Inst as OfInst, Line, Plain, Session}
use Rattle.inst_node.specs.declared.actions.BlockStep.{BlockStep}
use Rattle.inst_node.specs.declared.actions.BlockStep.TheVariants as block
use Rattle.inst_node.specs.declared.actions.DeadStep.{DeadStep}
use Rattle.inst_node.specs.declared.actions.DeadStep.TheVariants as dead
use Rattle.inst_node.specs.declared.actions.InstStep.{InstStep}
use Rattle.inst_node.specs.declared.actions.InstStep.TheVariants as inst
use Rattle.inst_node.specs.declared.actions.LineStep.{LineStep}
use Rattle.inst_node.specs.declared.actions.LineStep.TheVariants as line
use Rattle.inst_node.specs.declared.actions.PlainStep.{PlainStep}
use Rattle.inst_node.specs.declared.actions.PlainStep.TheVariants as plain
use Rattle.inst_node.specs.declared.actions.SessionStep.{SessionStep}
use Rattle.inst_node.specs.declared.actions.SessionStep.TheVariants as session
use Rattle.inst_node.specs.Allowed.{is_allowed}
use Rattle.wave_steps.specs.Answers.{may_ack}
use Rattle.wave_steps.specs.Buckets.{may_keep_bucket, may_send_bucket, may_take_bucket}
use Rattle.wave_steps.specs.Enter.{may_enter}
use Rattle.wave_steps.specs.News.{may_broadcast, may_hear}
use Rattle.wave_steps.specs.WaveEnd.{may_leave, may_rise, may_skip}
use Rattle.image_steps.specs.Ask.{may_ask}
use Rattle.image_steps.specs.AskWrite.{may_ask_write}
use Rattle.image_steps.specs.DropPast.{may_drop_past}
use Rattle.image_steps.specs.Evict.{may_evict}
use Rattle.image_steps.specs.Invalidate.{may_invalidate}
use Rattle.image_steps.specs.MasterTake.{may_take_at_master}
use Rattle.image_steps.specs.ServeCopy.{may_serve_copy}
use Rattle.image_steps.specs.ServeUndo.{may_serve_undo}
use Rattle.image_steps.specs.Ship.{may_ship}
use Rattle.image_steps.specs.TakeCopy.{may_take_copy}
use Rattle.disk_steps.specs.AskUndo.{may_ask_undo, may_ask_undo_dead}
use Rattle.disk_steps.specs.Checkpoint.{may_end_checkpoint}
use Rattle.disk_steps.specs.Force.{may_force}
use Rattle.disk_steps.specs.Install.{may_install}
use Rattle.disk_steps.specs.Write.{may_write_block}
use Rattle.report_steps.specs.Reopen.{may_reopen, may_resume}
use Rattle.report_steps.specs.Report.{may_give, may_report}
use Rattle.thread_steps.specs.Close.{may_close}
use Rattle.thread_steps.specs.Read.{may_read}
use Rattle.rebuild_steps.specs.Join.{may_join}
use Rattle.rebuild_steps.specs.Recover.{may_recover}
use Rattle.rebuild_steps.specs.Thaw.{may_thaw}

-- what a step for a session's line needs
unfoldable pub session_needs : Inst → Core → SessionStep → ℕ → Bool
session_needs n core session.StartStmt z = may_start n z
session_needs n core session.Visit z = may_visit n z
session_needs n core session.Change z = may_change n z
session_needs n core session.Mark z = may_mark n z
session_needs n core session.StepBack z = may_step_back n z
session_needs n core session.EndStmt z = may_end n z
session_needs n core session.AskUndo z = may_ask_undo n z
session_needs n core session.Broadcast z = may_broadcast n core z
session_needs n core session.Ack z = may_ack n core z

-- what a step for the dead transaction needs
unfoldable pub dead_needs : Inst → DeadStep → ℕ → Bool
dead_needs n dead.Mark job = may_mark_dead n job
dead_needs n dead.StepBack job = may_step_back_dead n job
dead_needs n dead.AskUndo job = may_ask_undo_dead n job

-- what a step with a block needs
unfoldable pub block_needs : Inst → Core → BlockStep → ℕ → Bool
block_needs n core block.Ask number = may_ask n number
block_needs n core block.Evict number = may_evict n number
block_needs n core block.WriteBlock number = may_write_block n core number
block_needs n core block.AskWrite number = may_ask_write n number
block_needs n core block.GivePast number = may_give n core number
block_needs n core block.RecoverBlock number = may_recover n core number

-- what a step with what came from an instance, or with its thread, needs
unfoldable pub inst_needs : Inst → Core → InstStep → ℕ → Bool
inst_needs n core inst.MasterTake from = may_take_at_master n core from
inst_needs n core inst.Invalidate from = may_invalidate n core from
inst_needs n core inst.Ship from = may_ship n core from
inst_needs n core inst.ServeCopy from = may_serve_copy n core from
inst_needs n core inst.DropPast from = may_drop_past n core from
inst_needs n core inst.Install from = may_install n core from
inst_needs n core inst.TakeCopy from = may_take_copy n core from Main
inst_needs n core inst.TakeUndo from = may_take_copy n core from Undo
inst_needs n core inst.ServeUndo from = may_serve_undo n core from
inst_needs n core inst.Heard from = may_hear n core from
inst_needs n core inst.TakeBucket from = may_take_bucket n core from
inst_needs n core inst.ReadThread thread = may_read n core thread
inst_needs n core inst.CloseThread thread = may_close n core thread

-- a due crash, if there is one, is by this line
abbrev pub is_by_line : ℕ → Option Control → Bool
is_by_line number None = false
is_by_line number (Some control) = control.line == number

-- A control line of the wave isn't answered yet.
abbrev pub is_open : Core → ℕ → Bool
is_open core number = is_some (open_control core number)

-- what a step for a control line needs
unfoldable pub line_needs : Inst → Core → LineStep → ℕ → Bool
line_needs n core line.Crash number = is_by_line number (due_crash core n.plan.me)
line_needs n core line.SendBucket number = may_send_bucket n core number
line_needs n core line.KeepBucket number = may_keep_bucket n core number
line_needs n core line.Checkpoint number = is_open core number && may_end_checkpoint n number
line_needs n core line.Skip number = may_skip n core number
line_needs n core line.Join number = may_join n core number

-- what a step about the instance alone needs
unfoldable pub plain_needs : Inst → Core → PlainStep → Bool
plain_needs n core plain.Enter = may_enter n core
plain_needs n core plain.Force = may_force n core
plain_needs n core plain.Report = may_report n core
plain_needs n core plain.Thaw = may_thaw n core
plain_needs n core plain.Reopen = may_reopen n core
plain_needs n core plain.Resume = may_resume n core
plain_needs n core plain.Leave = may_leave n core
plain_needs n core plain.Wave = may_rise n core

-- what a step needs, by what it is about
abbrev pub action_needs : Inst → Core → Action → Bool
action_needs n core (Session kind z) = session_needs n core kind z
action_needs n core (Dead kind job) = dead_needs n kind job
action_needs n core (Block kind number) = block_needs n core kind number
action_needs n core (OfInst kind from) = inst_needs n core kind from
action_needs n core (Line kind number) = line_needs n core kind number
action_needs n core (Plain kind) = plain_needs n core kind

-- An instance may make a step that the phase lets it make and whose needs hold.
abbrev pub needs : Inst → Core → Action → Bool
needs n core action = is_allowed n core action && action_needs n core action

-- what the making of a step for a session's line asks of an instance that is ready for it
abbrev pub SessionMay : Inst → SessionStep → ℕ → Type 0
SessionMay n session.StartStmt z = may_start n z ≡ true
SessionMay n session.Visit z = may_visit n z ≡ true
SessionMay n session.Change z = may_change n z ≡ true
SessionMay n session.Mark z = may_mark n z ≡ true
SessionMay n session.StepBack z = may_step_back n z ≡ true
SessionMay n session.EndStmt z = may_end n z ≡ true
SessionMay n _ z = Unit {0}

-- what the making of a step for the dead transaction asks
abbrev pub DeadMay : Inst → DeadStep → ℕ → Type 0
DeadMay n dead.Mark job = may_mark_dead n job ≡ true
DeadMay n dead.StepBack job = may_step_back_dead n job ≡ true
DeadMay n _ job = Unit {0}

-- what the making of a step with a block asks
abbrev pub BlockMay : Inst → Core → BlockStep → ℕ → Type 0
BlockMay n core block.WriteBlock number = number < 200
BlockMay n core block.RecoverBlock number = may_recover n core number ≡ true
BlockMay n core _ number = Unit {0}

-- what the making of a step with an instance's thread asks
abbrev pub InstMay : Inst → Core → InstStep → ℕ → Type 0
InstMay n core inst.ReadThread thread = may_read n core thread ≡ true
InstMay n core inst.CloseThread thread = may_close n core thread ≡ true
InstMay n core _ from = Unit {0}

-- what the making of a step for a control line asks
abbrev pub LineMay : Inst → Core → LineStep → ℕ → Type 0
LineMay n core line.Join number = may_join n core number ≡ true
LineMay n core _ number = Unit {0}

-- what the making of a step about an instance alone asks
abbrev pub PlainMay : Inst → Core → PlainStep → Type 0
PlainMay n core plain.Thaw = may_thaw n core ≡ true
PlainMay n core _ = Unit {0}

-- what the making of a step asks of an instance that is ready for it, by what the step is about
abbrev pub ReadyMay : Inst → Core → Action → Type 0
ReadyMay n core (Session kind z) = SessionMay n kind z
ReadyMay n core (Dead kind job) = DeadMay n kind job
ReadyMay n core (Block kind number) = BlockMay n core kind number
ReadyMay n core (OfInst kind from) = InstMay n core kind from
ReadyMay n core (Line kind number) = LineMay n core kind number
ReadyMay n core (Plain kind) = PlainMay n core kind
