use Rattle.std.proofs.Common.{List, arith, subst}
use Rattle.std.proofs.lemmas.List.{take_all}
use Rattle.redo_types.specs.declared.undo.TxnSlot.{TxnSlot}
use Rattle.base_types.specs.Bytes.{Puts}
use Rattle.part_image.specs.Cells.{spelled}
use Rattle.undo_image.specs.Header.{slots_cells}
use Rattle.undo_image.proofs.Headers.{more_slots_put}
use Rattle.undo_image.proofs.Parts.{nothing_put}
use Rattle.undo_image.proofs.header.put_slots.Goals as goal

pub loop-k-init : goal.loop-k-init
loop-k-init c = nothing_put c.args.out.now 32

pub loop-k-preserved : goal.loop-k-preserved
loop-k-preserved c = more_slots_put c.args.out.now c.loop-k.out c.put_txn_slot.new.out c.args.slots.now c.loop-k.k c.index-slots-k.result c.told-out c.type_inv.slots c.loop-k-test.true c.loop-k.invariant c.put_txn_slot.ensures

pub returns : goal.returns
returns c = subst (λ (slots : List TxnSlot). Puts c.args.out.now c.loop-k.out 32 (spelled (slots_cells slots))) (take_all c.loop-k.k c.args.slots.now (omega (arith, c.type_inv.slots))) c.loop-k.invariant
