-- The redo records that steps make.
use Rattle.std.specs.Prelude.{ℕ, Option, None}
use Rattle.redo_types.specs.declared.redo.Redo.{Redo}
use Rattle.inst_state.specs.declared.inst.Inst.{Inst}
use Rattle.stmt_steps.specs.Back.{back_decided, dead_back_decided, record_of}
use Rattle.stmt_steps.specs.Change.{change_decided, record_in}
use Rattle.stmt_steps.specs.Mark.{dead_end_decided, end_decided}
use Rattle.inst_node.specs.declared.actions.Action.{Action}
use Rattle.inst_node.specs.declared.actions.Action.TheVariants.{Dead, Session}
use Rattle.inst_node.specs.declared.actions.DeadStep.{DeadStep}
use Rattle.inst_node.specs.declared.actions.DeadStep.TheVariants as dead
use Rattle.inst_node.specs.declared.actions.SessionStep.{SessionStep}
use Rattle.inst_node.specs.declared.actions.SessionStep.TheVariants as session

-- the record that a step of a session makes, if it makes one
abbrev pub session_record : Inst → SessionStep → ℕ → Option Redo
session_record n session.Change z = record_in (change_decided n z)
session_record n session.Mark z = end_decided n z
session_record n session.StepBack z = record_of (back_decided n z)
session_record n _ z = None

-- the record that a step for the dead transaction makes, if it makes one
abbrev pub dead_record : Inst → DeadStep → Option Redo
dead_record n dead.Mark = dead_end_decided n
dead_record n dead.StepBack = record_of (dead_back_decided n)
dead_record n _ = None

-- the record that a step of an instance makes, if it makes one
abbrev pub record_made : Inst → Action → Option Redo
record_made n (Session kind z) = session_record n kind z
record_made n (Dead kind job) = dead_record n kind
record_made n _ = None
