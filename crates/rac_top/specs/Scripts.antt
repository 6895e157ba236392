-- What a text is as a script.
use Rattle.std.specs.Prelude.{◌≡◌, ℕ, List, Option, None, Some, IfSome, Ok, Err}
use Rattle.script_text.specs.declared.rule.Rule.{Rule}
use Rattle.script_text.specs.Reading.{reading}
use Rattle.script_text.specs.ScriptParts.{ScriptParts}

-- a text is all that a source had left, where it tells that
abbrev pub IsAllOf : Option (List ℕ) → List ℕ → Type 0
IsAllOf left text = IfSome left (λ all. text ≡ all)

-- a text was read that is refused at a line by a rule; it is all that the source had left, where it tells that
pub record IsRefused (left : Option (List ℕ)) (line : ℕ) (rule : Rule) : Type 0 where
  pub text : List ℕ
  pub all : IsAllOf left text
  pub says : reading text ≡ Err (record { line = line; rule = rule })

-- all that the source has left, which it tells, is a script
abbrev pub IsScript : Option (List ℕ) → Type 0
IsScript None = ⊥
IsScript (Some text) = (parts : ScriptParts) × (reading text ≡ Ok parts)
