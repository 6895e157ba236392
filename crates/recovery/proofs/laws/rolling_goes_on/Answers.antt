use Rattle.recovery.specs.Roll.{block_rolled_by, header_rolled_by, undo_rolled_by}
use Rattle.recovery.proofs.Rolling.{rolled-append}
use Rattle.recovery.proofs.laws.rolling_goes_on.Goals as goal

pub returns : goal.returns
returns c = record { block = rolled-append block_rolled_by; header = rolled-append header_rolled_by; undo = rolled-append undo_rolled_by }
