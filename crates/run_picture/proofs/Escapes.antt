-- What is escaped stands between two tags.
use Rattle.std.proofs.Common.{◌≡◌, ℕ, List, [], ◌∷◌, true, ◌&&◌, ◌∙◌, ap, refl, arith}
use Rattle.std.proofs.lemmas.Bool.Decides.{nat_tests}
use Rattle.std.proofs.lemmas.List.Folds.{list_all-append}
use Rattle.std.specs.List.{list_all}
use Rattle.run_picture.specs.Texts.{escaped, escaped_byte, is_between_tags}

byte_is_between : (byte : ℕ) → list_all is_between_tags (escaped_byte byte) ≡ true
byte_is_between byte = grind (arith, nat_tests)

pub text_is_between : (text : List ℕ) → list_all is_between_tags (escaped text) ≡ true
text_is_between [] = refl
text_is_between (byte ∷ text) =
    list_all-append is_between_tags (escaped_byte byte) (escaped text)
    ∙ ap (λ passes. passes && list_all is_between_tags (escaped text)) (byte_is_between byte) ∙ text_is_between text
