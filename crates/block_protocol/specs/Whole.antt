-- The invariant of a run without crashes: all that holds of each of its states.
use Rattle.block_protocol.specs.Block.{Block}
use Rattle.block_protocol.specs.Sound.{Sound}
use Rattle.block_protocol.specs.Images.{GoodImages}
use Rattle.block_protocol.specs.Owned.{AllOwned}
use Rattle.block_protocol.specs.Guard.{GoodClocks, IsGuarded}
use Rattle.block_protocol.specs.Board.{GoodBoard}
use Rattle.block_protocol.specs.Pasts.{GoodPasts}
use Rattle.block_protocol.specs.Uses.{GoodUses}
use Rattle.block_protocol.specs.Floors.{GoodFloors, AreDrawn}

-- the clocks, the records and the uses are in order
pub record Ordered (block : Block) : Type 0 where
  pub clocks : GoodClocks block
  pub board : GoodBoard block
  pub uses : GoodUses block

-- whatever was used is guarded until a later change is above it
pub record Floored (block : Block) : Type 0 where
  pub guard : IsGuarded block
  pub floors : GoodFloors block
  pub drawn : AreDrawn block

-- what each step of a block keeps, in six parts
pub record Whole (block : Block) : Type 0 where
  pub directory : Sound block
  pub owned : AllOwned block
  pub images : GoodImages block
  pub order : Ordered block
  pub pasts : GoodPasts block
  pub floor : Floored block
