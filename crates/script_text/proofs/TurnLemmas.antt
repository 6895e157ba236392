-- The lines of a session's statements, one line after another.
use Rattle.std.proofs.Common.{◌≡◌, ℕ, false, List, [], ◌∷◌, ◌++◌, Result, Ok, Err, OnOk, is_err, ap, sym, ◌∙◌, append-nil, append_assoc}
use Rattle.script_text.specs.declared.item.Item.{Item}
use Rattle.script_text.specs.Turns.{turn_of, lines_of}

pub lines_of-push : (session : ℕ) (lines : List (ℕ × Item)) (line : ℕ) (item : Item) → lines_of session (lines ++ (line, item) ∷ []) ≡ lines_of session lines ++ turn_of session line item
lines_of-push session [] line item = append-nil (turn_of session line item)
lines_of-push session (first ∷ lines) line item =
    ap (λ more. turn_of session first.0 first.1 ++ more) (lines_of-push session lines line item)
    ∙ sym (append_assoc (turn_of session first.0 first.1) (lines_of session lines) (turn_of session line item))

-- what holds of a call that succeeded
pub on_ok : {A E : Type 0} (r : Result A E) (P : Type 0) → is_err r ≡ false → OnOk r P → P
on_ok (Ok x) P h p = p
on_ok (Err e) P h p = absurd (cc)
