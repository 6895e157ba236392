-- What a text says, its beginning of the most bytes that are read says too.
use Rattle.std.proofs.Common.{◌≡◌, ◌∙◌, ◌≤◌, ◌<◌, ℕ, List, [], Option, Some, None, length, take, IfSome, Result, unwrap_or, ap, subst, ◌⊎◌, inl, inr, arith, true, false, refl}
use Rattle.std.proofs.lemmas.List.{take_all}
use Rattle.std.proofs.lemmas.Bool.Decides.{leb_tells}
use Rattle.script_text.specs.ScriptParts.{ScriptParts}
use Rattle.script_text.specs.Reading.{reading}
use Rattle.rac_top.specs.declared.exit.End.{End}
use Rattle.rac_top.specs.Reads.{Says, SaysAll}
use Rattle.rac_top.specs.Scripts.{IsAllOf}

beginning-says : (most : ℕ) → ((text : List ℕ) → most ≤ length text → reading (take most text) ≡ reading text) → (text : List ℕ) → reading (take most text) ≡ reading text
beginning-says most alike text = by_length (leb_tells most (length text))
  where
    by_length : (Rattle.std.proofs.Math.Dec.leb most (length text) ≡ true) × (most ≤ length text) ⊎ (Rattle.std.proofs.Math.Dec.leb most (length text) ≡ false) × (length text < most) → reading (take most text) ≡ reading text
    by_length (inl h) = alike text h.1
    by_length (inr h) = ap reading (take_all most text (omega arith))

-- so what was read of the beginning is what the whole text says
pub whole-says : (most : ℕ) → ((text : List ℕ) → most ≤ length text → reading (take most text) ≡ reading text) → (left : Option (List ℕ)) (read : List ℕ) (result : Result ScriptParts End)
    → IfSome left (λ all. read ≡ take most all) → Says result (reading read) → SaysAll left result
whole-says most alike None read result first says = record { text = read; all = tt; says = says }
whole-says most alike (Some all) read result first says =
    record { text = all; all = refl; says = subst (Says result) (ap reading first ∙ beginning-says most alike all) says }

-- all that a source has left, or nothing where it doesn't tell
pub all-left : (left : Option (List ℕ)) → IsAllOf left (unwrap_or left [])
all-left None = tt
all-left (Some all) = refl
