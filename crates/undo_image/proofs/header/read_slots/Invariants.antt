use Rattle.std.proofs.Common.{◌≡◌, length, take}
use Rattle.undo_image.proofs.Headers.{SlotsRead}
use Rattle.undo_image.proofs.header.read_slots.Given as goal

abbrev pub invariant-loop-k : goal.invariant-loop-k
invariant-loop-k l = (length l.slot-items ≡ 8) × SlotsRead l.bytes (take l.k l.slot-items)
