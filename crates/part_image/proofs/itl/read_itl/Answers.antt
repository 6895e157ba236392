use Rattle.std.proofs.Common.{ℕ, List, subst}
use Rattle.std.proofs.lemmas.List.{take_rest}
use Rattle.part_image.specs.Cells.{Reads}
use Rattle.part_image.specs.Slots.{IsItl, itl_cells}
use Rattle.part_image.proofs.itl.read_itl.Goals as goal

pub returns : goal.returns
returns c = subst (λ (part : List ℕ). Reads IsItl itl_cells part c.first_itl.result) (take_rest c.args.bytes.now c.args.at) c.first_itl.ensures
