-- What clap read, as the definitions of `specs/` say it.
use Rattle.std.proofs.Common.{◌≡◌, ◌∙◌, ap, refl, sym, arith, true, false, Bool, List, Option, Some, None, codes, option_map}
use Rattle.std.specs.Prelude.{unwrap_or}
use Rattle.std.specs.Option.{option_map_or}
use Rattle.std.specs.Str.{bytes_eq}
use Rattle.std.specs.Str.Parse.{ParsesBool, true_text}
use Rattle.std.proofs.lemmas.Slice.Eq.{bytes_eq-Decides}
use Rattle.clap.specs.Words.{ReadsOne, Row, Text}

pub by_no : (b : Bool) → (b ≡ true → ⊥) → b ≡ false
by_no true isnt = absurd (isnt refl)
by_no false isnt = refl

no_true : (text : Text) → (text ≡ true_text → ⊥) → bytes_eq text (codes "true") ≡ false
no_true text isnt = by_no (bytes_eq text (codes "true")) (λ same. isnt ((bytes_eq-Decides text (codes "true")).0 same))

-- whether a flag is set, by its text as a `bool` reads it
pub flag_read : (E : Type 0) (t : Option Text) (r : Option Bool) (b : Bool) → (t ≡ None → r ≡ None)
    → ((u : Text) → t ≡ Some u → ReadsOne {T = Bool} {E = E} ParsesBool u r) → b ≡ unwrap_or r false
    → b ≡ option_map_or (λ text. bytes_eq text (codes "true")) t false
flag_read E None r b none value is = is ∙ ap (λ (o : Option Bool). unwrap_or o false) (none refl)
flag_read E (Some u) None b none value is = is ∙ sym (no_true u (value u refl).1.0)
flag_read E (Some u) (Some true) b none value is = is ∙ sym (ap (λ (x : Text). bytes_eq x (codes "true")) (value u refl))
flag_read E (Some u) (Some false) b none value is = is ∙ sym (ap (λ (x : Text). bytes_eq x (codes "true")) (value u refl))

-- the name and the rows of what was entered, from each of both
pub both_of : {B : Type 0} (entered : Option B) (f : B → Text) (g : B → List Row) (name : Text) (rows : List Row)
    → Some name ≡ option_map f entered → Some rows ≡ option_map (λ (p : Text × List Row). p.1) (option_map (λ b. (f b, g b)) entered)
    → ◌≡◌ {A = Option (Text × List Row)} (option_map (λ b. (f b, g b)) entered) (Some (name, rows))
both_of None f g name rows named given = grind arith
both_of (Some b) f g name rows named given = grind arith
