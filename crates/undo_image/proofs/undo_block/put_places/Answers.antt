use Rattle.std.proofs.Common.{List, Option, arith, subst}
use Rattle.std.proofs.lemmas.List.{take_all}
use Rattle.redo_types.specs.declared.undo.UndoRecord.{UndoRecord}
use Rattle.base_types.specs.Bytes.{Puts}
use Rattle.part_image.specs.Cells.{spelled}
use Rattle.undo_image.specs.UndoBlock.{places_cells}
use Rattle.undo_image.proofs.UndoBlocks.{more_places_put}
use Rattle.undo_image.proofs.Parts.{nothing_put}
use Rattle.undo_image.proofs.undo_block.put_places.Goals as goal

pub loop-k-init : goal.loop-k-init
loop-k-init c = nothing_put c.args.out.now 32

pub loop-k-preserved : goal.loop-k-preserved
loop-k-preserved c = more_places_put c.args.out.now c.loop-k.out c.put_undo_place.new.out c.args.places.now c.loop-k.k c.index-places-k.result c.told-out c.type_inv.places c.loop-k-test.true c.loop-k.invariant c.put_undo_place.ensures

pub returns : goal.returns
returns c = subst (λ (places : List (Option UndoRecord)). Puts c.args.out.now c.loop-k.out 32 (spelled (places_cells places))) (take_all c.loop-k.k c.args.places.now (omega (arith, c.type_inv.places))) c.loop-k.invariant
