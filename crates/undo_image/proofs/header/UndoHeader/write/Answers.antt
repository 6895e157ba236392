use Rattle.undo_image.specs.Header.{HeaderContent}
use Rattle.undo_image.proofs.Headers.{header_put}
use Rattle.undo_image.proofs.header.UndoHeader.write.Goals as goal

pub returns : goal.returns
returns c =
    let h : HeaderContent = record { front = c.self.inside.front; slots = c.self.inside.slots } in
    rw (← c.self.view_is) (header_put c.args.out.now c.put_front.new.out c.put_slots.new.out c.put_zeros.new.out h c.told-out c.self.invariant c.put_front.ensures c.put_slots.ensures c.put_zeros.ensures)
