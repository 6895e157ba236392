-- Which kinds of steps the phase lets an instance make.
use Rattle.std.specs.Prelude.{◌&&◌, ◌||◌, not, Bool, true}
use Rattle.inst_set.specs.Sets.{has}
use Rattle.inst_state.specs.declared.inst.Inst.{Inst}
use Rattle.inst_state.specs.declared.shared.Core.{Core}
use Rattle.inst_state.specs.Shared.{is_frozen, is_led_by, is_live, is_running, is_thawed}
use Rattle.inst_node.specs.declared.actions.Action.{Action}
use Rattle.inst_node.specs.declared.actions.Action.TheVariants.{Block, Dead, Inst as OfInst, Line, Plain, Session}
use Rattle.inst_node.specs.declared.actions.BlockStep.{BlockStep}
use Rattle.inst_node.specs.declared.actions.BlockStep.TheVariants as block
use Rattle.inst_node.specs.declared.actions.DeadStep.{DeadStep}
use Rattle.inst_node.specs.declared.actions.DeadStep.TheVariants as dead
use Rattle.inst_node.specs.declared.actions.InstStep.{InstStep}
use Rattle.inst_node.specs.declared.actions.InstStep.TheVariants as inst
use Rattle.inst_node.specs.declared.actions.LineStep.{LineStep}
use Rattle.inst_node.specs.declared.actions.LineStep.TheVariants as line
use Rattle.inst_node.specs.declared.actions.PlainStep.{PlainStep}
use Rattle.inst_node.specs.declared.actions.PlainStep.TheVariants as plain
use Rattle.inst_node.specs.declared.actions.SessionStep.{SessionStep}
use Rattle.inst_node.specs.declared.actions.SessionStep.TheVariants as session
use Rattle.inst_node.specs.declared.allowed.Class.{Class}
use Rattle.inst_node.specs.declared.allowed.Class.TheVariants.{Always, Leading, Local, Running, Serving, Settling}

-- when steps for a session's line may be made
abbrev pub session_kind : SessionStep → Class
session_kind session.AskUndo = Leading
session_kind session.Broadcast = Running
session_kind session.Ack = Running
session_kind _ = Local

-- when steps for the dead transaction may be made
abbrev pub dead_kind : DeadStep → Class
dead_kind dead.AskUndo = Leading
dead_kind _ = Local

-- when steps with a block may be made
abbrev pub block_kind : BlockStep → Class
block_kind block.WriteBlock = Settling
block_kind block.GivePast = Always
block_kind block.RecoverBlock = Always
block_kind _ = Leading

-- when steps with what came from an instance, or with a thread, may be made
abbrev pub inst_kind : InstStep → Class
inst_kind inst.Heard = Running
inst_kind inst.TakeBucket = Running
inst_kind inst.ReadThread = Always
inst_kind inst.CloseThread = Always
inst_kind _ = Serving

-- when steps for a control line may be made
abbrev pub line_kind : LineStep → Class
line_kind line.SendBucket = Running
line_kind line.KeepBucket = Running
line_kind line.Checkpoint = Running
line_kind _ = Always

-- when steps about the instance alone may be made
abbrev pub plain_kind : PlainStep → Class
plain_kind plain.Force = Settling
plain_kind _ = Always

-- when a step may be made
abbrev pub kind_class : Action → Class
kind_class (Session kind z) = session_kind kind
kind_class (Dead kind job) = dead_kind kind
kind_class (Block kind number) = block_kind kind
kind_class (OfInst kind from) = inst_kind kind
kind_class (Line kind number) = line_kind kind
kind_class (Plain kind) = plain_kind kind

-- The phase is Frozen, and an instance hasn't reported.
abbrev pub is_frozen_before_report : Inst → Core → Bool
is_frozen_before_report n core = is_frozen core.members.phase && not (has core.members.reported n.plan.me)

-- The phase is Running, and an instance isn't paused.
abbrev pub runs : Inst → Core → Bool
runs n core = is_running core.members.phase && not n.paused

-- The phase is Thawed, and an instance leads.
abbrev pub leads : Inst → Core → Bool
leads n core = is_thawed core.members.phase && is_led_by core n.plan.me

-- The phase lets an instance make steps of a class.
abbrev pub is_allowed_as : Inst → Core → Class → Bool
is_allowed_as n core Local = true
is_allowed_as n core Always = true
is_allowed_as n core Settling =
    is_live core n.plan.me && (runs n core || is_frozen_before_report n core || is_thawed core.members.phase)
is_allowed_as n core Serving = is_live core n.plan.me && (runs n core || is_thawed core.members.phase)
is_allowed_as n core Leading = is_live core n.plan.me && (runs n core || leads n core)
is_allowed_as n core Running = is_live core n.plan.me && runs n core

-- The phase lets an instance make a step.
abbrev pub is_allowed : Inst → Core → Action → Bool
is_allowed n core action = is_allowed_as n core (kind_class action)
