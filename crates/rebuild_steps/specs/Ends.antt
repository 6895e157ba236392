-- An instance ends at a step that calls the disk.
use Rattle.std.specs.Prelude.{Bool, Some}
use Rattle.inst_state.specs.declared.inst.Inst.{Inst}
use Rattle.inst_state.specs.declared.shared.Core.{Core}
use Rattle.inst_loss.specs.declared.ends.Loss.TheVariants.{Ended}
use Rattle.inst_loss.specs.LostCore.{lost_core}

-- the shared part once an instance has ended by a fault, or by content that no run leaves (`bad`)
abbrev pub ended : Inst → Core → Bool → Core
ended n core bad = lost_core n core (Ended bad) (Some 0)
