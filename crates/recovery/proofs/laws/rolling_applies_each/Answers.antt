use Rattle.recovery.proofs.Rolling.{rolled-blocks, rolled-headers, rolled-undo}
use Rattle.recovery.proofs.laws.rolling_applies_each.Goals as goal

pub returns : goal.returns
returns c = record { block = rolled-blocks; header = rolled-headers; undo = rolled-undo }
