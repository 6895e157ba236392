-- The steps that an instance may make, in the order of the kinds and then of what they are about.
use Rattle.std.specs.Prelude.{ℕ, List, [], ◌∷◌, ◌++◌, if◌then◌else◌, Option, None, Some, length}
use Rattle.std.specs.List.{flat_map, range_with_len}
use Rattle.base_types.specs.declared.names.Xid.{Xid}
use Rattle.inst_set.specs.Sets.{all_insts}
use Rattle.inst_state.specs.declared.control.Control.{Control}
use Rattle.inst_state.specs.declared.inst.Inst.{Inst}
use Rattle.inst_state.specs.declared.shared.Core.{Core}
use Rattle.inst_state.specs.Needs.{dead_txn}
use Rattle.inst_state.specs.Shared.{wave_controls}
use Rattle.stmt_steps.specs.Mark.{dead_job}
use Rattle.inst_node.specs.declared.actions.Action.{Action}
use Rattle.inst_node.specs.declared.actions.Step.{Step}
use Rattle.inst_node.specs.declared.actions.Action.TheVariants.{Block, Dead, Inst as OfInst, Line, Plain, Session}
use Rattle.inst_node.specs.declared.actions.BlockStep.{BlockStep}
use Rattle.inst_node.specs.declared.actions.BlockStep.TheVariants as block
use Rattle.inst_node.specs.declared.actions.DeadStep.{DeadStep}
use Rattle.inst_node.specs.declared.actions.DeadStep.TheVariants as dead
use Rattle.inst_node.specs.declared.actions.InstStep.{InstStep}
use Rattle.inst_node.specs.declared.actions.InstStep.TheVariants as inst
use Rattle.inst_node.specs.declared.actions.LineStep.{LineStep}
use Rattle.inst_node.specs.declared.actions.LineStep.TheVariants as line
use Rattle.inst_node.specs.declared.actions.PlainStep.{PlainStep}
use Rattle.inst_node.specs.declared.actions.PlainStep.TheVariants as plain
use Rattle.inst_node.specs.declared.actions.SessionStep.{SessionStep}
use Rattle.inst_node.specs.declared.actions.SessionStep.TheVariants as session
use Rattle.inst_node.specs.Needs.{needs}

-- a step of an instance that does this, if the instance may make it
abbrev pub offer : ℕ → Inst → Core → Action → List Step
offer me n core action = if needs n core action then record { inst = me; action = action } ∷ [] else []

-- the steps of a kind for the lines of an instance's sessions
unfoldable pub for_sessions : ℕ → Inst → Core → SessionStep → List Step
for_sessions me n core kind = flat_map (λ z. offer me n core (Session kind z)) n.plan.mine

-- the steps of a kind for a dead transaction, if there is one
abbrev pub for_txn : ℕ → Inst → Core → DeadStep → Option Xid → List Step
for_txn me n core kind None = []
for_txn me n core kind (Some x) = offer me n core (Dead kind (dead_job x))

-- the steps of a kind for the dead transaction
unfoldable pub for_dead : ℕ → Inst → Core → DeadStep → List Step
for_dead me n core kind = for_txn me n core kind (dead_txn n)

-- the steps of a kind with the blocks below a number
unfoldable pub with_blocks : ℕ → Inst → Core → BlockStep → ℕ → List Step
with_blocks me n core kind count = flat_map (λ block. offer me n core (Block kind block)) (range_with_len 0 count)

-- the steps of a kind with each instance
unfoldable pub with_insts : ℕ → Inst → Core → InstStep → List Step
with_insts me n core kind = flat_map (λ from. offer me n core (OfInst kind from)) all_insts

-- the steps of a kind for the control lines of the wave
unfoldable pub for_lines : ℕ → Inst → Core → LineStep → List Step
for_lines me n core kind =
    flat_map (λ (control : Control). offer me n core (Line kind control.line)) (wave_controls core.waves)

-- the step of a kind about the instance alone
unfoldable pub alone : ℕ → Inst → Core → PlainStep → List Step
alone me n core kind = offer me n core (Plain kind)

-- how many data blocks there are
abbrev pub data_blocks : Inst → ℕ
data_blocks n = length n.cache.places

-- the local steps that an instance may make
unfoldable pub local_choices : ℕ → Inst → Core → List Step
local_choices me n core =
    for_sessions me n core session.StartStmt ++ for_sessions me n core session.Visit ++ for_sessions me n core session.Change
    ++ for_sessions me n core session.Mark ++ for_dead me n core dead.Mark ++ for_sessions me n core session.StepBack
    ++ for_dead me n core dead.StepBack ++ for_sessions me n core session.EndStmt

-- the steps with blocks that an instance may make, from Enter to Force
unfoldable pub block_choices : ℕ → Inst → Core → List Step
block_choices me n core =
    alone me n core plain.Enter ++ with_blocks me n core block.Ask (data_blocks n) ++ with_blocks me n core block.Evict (data_blocks n)
    ++ with_blocks me n core block.WriteBlock 200 ++ with_blocks me n core block.AskWrite (data_blocks n) ++ alone me n core plain.Force

-- the steps with images that came or are asked for that an instance may make, from MasterTake to ServeUndo
unfoldable pub image_choices : ℕ → Inst → Core → List Step
image_choices me n core =
    with_insts me n core inst.MasterTake ++ with_insts me n core inst.Invalidate ++ with_insts me n core inst.Ship
    ++ with_insts me n core inst.ServeCopy ++ with_insts me n core inst.DropPast ++ with_insts me n core inst.Install
    ++ with_insts me n core inst.TakeCopy ++ with_insts me n core inst.TakeUndo

-- the steps with undo and ends that an instance may make, from AskUndo to Join
unfoldable pub news_choices : ℕ → Inst → Core → List Step
news_choices me n core =
    for_sessions me n core session.AskUndo ++ for_dead me n core dead.AskUndo ++ with_insts me n core inst.ServeUndo
    ++ for_sessions me n core session.Broadcast ++ with_insts me n core inst.Heard ++ for_sessions me n core session.Ack

-- the steps for control lines that an instance may make, from SendBucket to Join
unfoldable pub line_choices : ℕ → Inst → Core → List Step
line_choices me n core =
    for_lines me n core line.SendBucket ++ with_insts me n core inst.TakeBucket ++ for_lines me n core line.KeepBucket
    ++ for_lines me n core line.Checkpoint ++ for_lines me n core line.Skip ++ for_lines me n core line.Join

-- the steps of recoveries and waves that an instance may make, from Report to Wave
unfoldable pub recovery_choices : ℕ → Inst → Core → List Step
recovery_choices me n core =
    alone me n core plain.Report ++ with_blocks me n core block.GivePast (data_blocks n) ++ with_insts me n core inst.ReadThread
    ++ with_blocks me n core block.RecoverBlock 200 ++ with_insts me n core inst.CloseThread ++ alone me n core plain.Thaw
    ++ alone me n core plain.Reopen ++ alone me n core plain.Resume ++ alone me n core plain.Leave ++ alone me n core plain.Wave

-- the steps that an instance may make, but for a crash
unfoldable pub choices : ℕ → Inst → Core → List Step
choices me n core =
    local_choices me n core ++ block_choices me n core ++ image_choices me n core ++ news_choices me n core ++ line_choices me n core
    ++ recovery_choices me n core
