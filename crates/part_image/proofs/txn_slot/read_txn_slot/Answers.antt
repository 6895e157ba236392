use Rattle.std.proofs.Common.{ℕ, List, subst}
use Rattle.std.proofs.lemmas.List.{take_rest}
use Rattle.part_image.specs.Cells.{Reads}
use Rattle.part_image.specs.Undo.{IsTxnSlot, txn_slot_cells}
use Rattle.part_image.proofs.txn_slot.read_txn_slot.Goals as goal

pub returns : goal.returns
returns c = subst (λ (part : List ℕ). Reads IsTxnSlot txn_slot_cells part c.first_txn_slot.result) (take_rest c.args.bytes.now c.args.at) c.first_txn_slot.ensures
