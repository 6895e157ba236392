use Rattle.std.proofs.Common.{◌≡◌, length, take}
use Rattle.undo_image.proofs.UndoBlocks.{PlacesRead}
use Rattle.undo_image.proofs.undo_block.read_places.Given as goal

abbrev pub invariant-loop-k : goal.invariant-loop-k
invariant-loop-k l = (length l.place-items ≡ 4) × PlacesRead l.bytes (take l.k l.place-items)
