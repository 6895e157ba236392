-- The headers and undo blocks of other segments that were handed in for a statement.
use Rattle.std.specs.Prelude.{List}
use Rattle.undo_image.specs.Header.{HeaderContent}
use Rattle.undo_image.specs.UndoBlock.{UndoContent}

-- Headers and undo blocks, each list with the last one that was handed in first.
pub record HandedState : Type 0 where
  pub heads : List HeaderContent
  pub blocks : List UndoContent
