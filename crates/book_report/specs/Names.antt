-- The names under which the kinds of steps print.
use Rattle.std.specs.Prelude.{ℕ, List, codes}
use Rattle.inst_node.specs.declared.actions.BlockStep.{BlockStep}
use Rattle.inst_node.specs.declared.actions.BlockStep.TheVariants as block
use Rattle.inst_node.specs.declared.actions.DeadStep.{DeadStep}
use Rattle.inst_node.specs.declared.actions.DeadStep.TheVariants as dead
use Rattle.inst_node.specs.declared.actions.InstStep.{InstStep}
use Rattle.inst_node.specs.declared.actions.InstStep.TheVariants as insts
use Rattle.inst_node.specs.declared.actions.LineStep.{LineStep}
use Rattle.inst_node.specs.declared.actions.LineStep.TheVariants as lines
use Rattle.inst_node.specs.declared.actions.PlainStep.{PlainStep}
use Rattle.inst_node.specs.declared.actions.PlainStep.TheVariants as plain
use Rattle.inst_node.specs.declared.actions.SessionStep.{SessionStep}
use Rattle.inst_node.specs.declared.actions.SessionStep.TheVariants as session

-- a kind of step for a session's line
abbrev pub session_name : SessionStep → List ℕ
session_name session.StartStmt = codes "StartStmt"
session_name session.Visit = codes "Visit"
session_name session.Change = codes "Change"
session_name session.Mark = codes "Mark"
session_name session.StepBack = codes "StepBack"
session_name session.EndStmt = codes "EndStmt"
session_name session.AskUndo = codes "AskUndo"
session_name session.Broadcast = codes "Broadcast"
session_name session.Ack = codes "Ack"

-- a kind of step for the dead transaction: it prints as the same kind for a session's line
abbrev pub dead_name : DeadStep → List ℕ
dead_name dead.Mark = codes "Mark"
dead_name dead.StepBack = codes "StepBack"
dead_name dead.AskUndo = codes "AskUndo"

-- a kind of step with a block
abbrev pub block_name : BlockStep → List ℕ
block_name block.Ask = codes "Ask"
block_name block.Evict = codes "Evict"
block_name block.WriteBlock = codes "WriteBlock"
block_name block.AskWrite = codes "AskWrite"
block_name block.GivePast = codes "GivePast"
block_name block.RecoverBlock = codes "RecoverBlock"

-- a kind of step with what came from an instance, or with its thread; undo that comes prints as a copy that comes
abbrev pub inst_name : InstStep → List ℕ
inst_name insts.MasterTake = codes "MasterTake"
inst_name insts.Invalidate = codes "Invalidate"
inst_name insts.Ship = codes "Ship"
inst_name insts.ServeCopy = codes "ServeCopy"
inst_name insts.DropPast = codes "DropPast"
inst_name insts.Install = codes "Install"
inst_name insts.TakeCopy = codes "TakeCopy"
inst_name insts.TakeUndo = codes "TakeCopy"
inst_name insts.ServeUndo = codes "ServeUndo"
inst_name insts.Heard = codes "Heard"
inst_name insts.TakeBucket = codes "TakeBucket"
inst_name insts.ReadThread = codes "ReadThread"
inst_name insts.CloseThread = codes "CloseThread"

-- a kind of step for a control line; a bucket that its master keeps prints as one that is taken
abbrev pub line_name : LineStep → List ℕ
line_name lines.Crash = codes "Crash"
line_name lines.SendBucket = codes "SendBucket"
line_name lines.KeepBucket = codes "TakeBucket"
line_name lines.Checkpoint = codes "Checkpoint"
line_name lines.Skip = codes "Skip"
line_name lines.Join = codes "Join"

-- a kind of step that is about the instance alone
abbrev pub plain_name : PlainStep → List ℕ
plain_name plain.Enter = codes "Enter"
plain_name plain.Force = codes "Force"
plain_name plain.Report = codes "Report"
plain_name plain.Thaw = codes "Thaw"
plain_name plain.Reopen = codes "Reopen"
plain_name plain.Resume = codes "Resume"
plain_name plain.Leave = codes "Leave"
plain_name plain.Wave = codes "Wave"
