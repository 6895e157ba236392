use Rattle.undo_image.specs.UndoBlock.{UndoContent}
use Rattle.undo_image.proofs.UndoBlocks.{undo_put}
use Rattle.undo_image.proofs.undo_block.UndoBlock.write.Goals as goal

pub returns : goal.returns
returns c =
    let h : UndoContent = record { front = c.self.inside.front; places = c.self.inside.places } in
    rw (← c.self.view_is) (undo_put c.args.out.now c.put_front.new.out c.put_places.new.out c.put_zeros.new.out h c.told-out c.self.invariant c.put_front.ensures c.put_places.ensures c.put_zeros.ensures)
