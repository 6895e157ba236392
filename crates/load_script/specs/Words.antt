-- What a session's lines are made of.
use Rattle.std.specs.Prelude.{ℕ, List, ◌++◌, codes, decimal}

-- A text and then another: `++`, grouped to the right.
infixr 8 ◌⧺◌
abbrev pub ◌⧺◌ : List ℕ → List ℕ → List ℕ
text ⧺ others = text ++ others

-- The line in which a session, by its number, is asked something.
abbrev pub said : ℕ → List ℕ → List ℕ
said session what = codes "s" ⧺ decimal session ⧺ codes ": " ⧺ what ⧺ codes "\n"
