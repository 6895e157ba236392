-- The lines of a session's statements.
use Rattle.std.specs.Prelude.{ℕ, List, [], ◌∷◌, ◌++◌, nat_eq, if◌then◌else◌}
use Rattle.script_text.specs.declared.item.Item.{Item}
use Rattle.script_text.specs.declared.item.Item.TheVariants.{Stmt}

-- a line, where it is a statement of a session
abbrev pub turn_of : ℕ → ℕ → Item → List ℕ
turn_of session line (Stmt by what) = if nat_eq by session then line ∷ [] else []
turn_of session line _ = []

-- the lines of a session's statements among these
abbrev pub lines_of : ℕ → List (ℕ × Item) → List ℕ
lines_of session [] = []
lines_of session (line ∷ lines) = turn_of session line.0 line.1 ++ lines_of session lines
