-- What was read, or why nothing was.
use Rattle.std.specs.Prelude.{◌≡◌, ⊤, ℕ, List, Option, IfSome, Result, Ok, Err}
use Rattle.script_text.specs.Reading.{Refusal, reading}
use Rattle.script_text.specs.ScriptParts.{ScriptParts}
use Rattle.rac_top.specs.Scripts.{IsAllOf}
use Rattle.rac_top.specs.declared.exit.End.{End}
use Rattle.rac_top.specs.declared.exit.End.TheVariants.{Refused, ReadFault, NoMemory}

-- no script was read: the text is refused so, or the source failed, or memory ran out
abbrev pub IsUnread : End → Result ScriptParts Refusal → Type 0
IsUnread (Refused line rule) said = said ≡ Err (record { line = line; rule = rule })
IsUnread ReadFault said = ⊤
IsUnread NoMemory said = ⊤
IsUnread _ said = ⊥

-- what was read, or why nothing was, is what the text says
abbrev pub Says : Result ScriptParts End → Result ScriptParts Refusal → Type 0
Says (Ok script) said = said ≡ Ok script
Says (Err end) said = IsUnread end said

-- what was read, or why nothing was, is what a text says that is all that the source had left, where it tells that
pub record SaysAll (left : Option (List ℕ)) (result : Result ScriptParts End) : Type 0 where
  pub text : List ℕ
  pub all : IsAllOf left text
  pub says : Says result (reading text)
