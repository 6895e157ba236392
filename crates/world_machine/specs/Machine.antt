-- Machine W: what a step is.
use Rattle.std.specs.Prelude.{◌≡◌, ℕ, ◌<◌, true, IfSome, length, slice_get, slice_set}
use Rattle.std.specs.Option.{ForSome}
use Rattle.rac_disk.specs.State.{State}
use Rattle.redo_record.specs.Redo.{IsRedo}
use Rattle.inst_state.specs.declared.inst.Inst.{Inst}
use Rattle.inst_node.specs.declared.actions.Step.{Step}
use Rattle.inst_node.specs.declared.hows.How.{How}
use Rattle.inst_node.specs.Made.{record_made}
use Rattle.inst_node.specs.Moves.{DiskAfter, core_after, part_after, prepared}
use Rattle.inst_node.specs.Needs.{needs}
use Rattle.world_machine.specs.declared.worlds.World.{World}

-- A step may be made: its instance is there, and has what the step needs.
pub record MayMake (w : World) (step : Step) : Type 0 where
  pub inst : step.inst < length w.insts
  pub needs : ForSome (slice_get w.insts step.inst) (λ n. needs n w.core step.action ≡ true)

-- What a step of an instance left, where the disk's calls went so: its own part, what is shared, and the disk. Where it makes
-- a redo record, that is one that can be written.
pub record Moved (old : World) (disk : State) (step : Step) (how : How) (n : Inst) (new : World) (disk_now : State) : Type 0 where
  pub insts : new.insts ≡ slice_set old.insts step.inst (part_after n old.core step.action how)
  pub core : new.core ≡ core_after n old.core step.action how
  pub left : DiskAfter n old.core step.action how disk disk_now
  pub redo : IfSome (record_made (prepared n old.core step.action) step.action) IsRedo

-- The step may be made, and leads from the old world and disk to the new ones.
pub record W (old : World) (disk : State) (step : Step) (new : World) (disk_now : State) : Type 0 where
  pub may : MayMake old step
  pub how : How
  pub moved : ForSome (slice_get old.insts step.inst) (λ n. Moved old disk step how n new disk_now)
