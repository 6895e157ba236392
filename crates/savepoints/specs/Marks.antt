-- The savepoints of a session, the first set first.
use Rattle.std.specs.Prelude.{ℕ, List, [], ◌∷◌, ◌++◌}
use Rattle.script_text.specs.GoodLines.{Mark, without}

-- The savepoints once one more was set: it is the last, and another one of its name is gone.
abbrev pub with_mark : List ℕ → ℕ → List Mark → List Mark
with_mark name count marks = without name marks ++ (name, count) ∷ []
