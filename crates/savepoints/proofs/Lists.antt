-- Where the mark of a name stands, and which marks are before it or have another name.
use Rattle.std.proofs.Common.{◌≡◌, ℕ, ◌+◌, nat_lt, List, [], ◌∷◌, length, take, get_or, Bool, true, false, cond, not, if◌then◌else◌, Some, None, refl, sym, ap, ◌∙◌, arith}
use Rattle.std.specs.List.{filter, position, position_or_len}
use Rattle.std.specs.Option.{option_map}
use Rattle.std.specs.Str.{bytes_eq}
use Rattle.std.proofs.lemmas.Bool.{ltb-true, ltb-false}
use Rattle.std.proofs.lemmas.Grind.{common_steps}
use Rattle.std.proofs.lemmas.List.{take_all}
use Rattle.std.proofs.lemmas.List.Folds.{find_at}
use Rattle.std.proofs.lemmas.Option.{slice_get_read, slice_get_past}
use Rattle.script_text.specs.GoodLines.{Mark, mark_of, up_to, without}

-- whether a mark has a name
abbrev pub is_of : List ℕ → Mark → Bool
is_of name mark = bytes_eq name mark.0

-- a filter leaves the marks without those of a name
pub without_is : (name : List ℕ) (marks : List Mark) → filter (λ mark. not (is_of name mark)) marks ≡ without name marks
without_is name [] = refl
without_is name (mark ∷ marks) =
    elim (is_of name mark) as (λ b. cond (not b) (mark ∷ filter (λ m. not (is_of name m)) marks) (filter (λ m. not (is_of name m)) marks) ≡ (if b then without name marks else mark ∷ without name marks))
    [ true ↦ without_is name marks | false ↦ ap (λ ms. mark ∷ ms) (without_is name marks) ]

take_more : (n : ℕ) (mark : Mark) (marks : List Mark) → take (1 + n + 1) (mark ∷ marks) ≡ mark ∷ take (n + 1) marks
take_more n mark marks = grind (arith, common_steps)

-- the marks up to the one of a name, by its place
pub up_to_is : (name : List ℕ) (marks : List Mark) → take (position_or_len (is_of name) marks + 1) marks ≡ up_to name marks
up_to_is name [] = refl
up_to_is name (mark ∷ marks) =
    elim (is_of name mark) as (λ b. take (cond (not b) (1 + position_or_len (is_of name) marks) 0 + 1) (mark ∷ marks) ≡ (if b then mark ∷ [] else mark ∷ up_to name marks))
    [ true ↦ refl | false ↦ take_more (position_or_len (is_of name) marks) mark marks ∙ ap (λ ms. mark ∷ ms) (up_to_is name marks) ]

some_place : (b : Bool) (n place : ℕ) → Some place ≡ cond b (Some n) None → (place ≡ n) × (b ≡ true)
some_place true n place e = (cc, refl)
some_place false n place e = (cc, cc)

no_place : (b : Bool) (n : ℕ) → None ≡ cond b (Some n) None → b ≡ false
no_place true n e = cc
no_place false n e = refl

-- what is taken up to the place that is found is the marks up to the one of the name
pub taken_up_to : (name : List ℕ) (marks : List Mark) (place : ℕ) → Some place ≡ position (is_of name) marks → take (place + 1) marks ≡ up_to name marks
taken_up_to name marks place e =
    let n = position_or_len (is_of name) marks in
    let is = some_place (nat_lt n (length marks)) n place e in
    ap (λ k. take (k + 1) marks) is.0 ∙ up_to_is name marks

-- where no place is found, all marks stay, and none has the name
pub all_up_to : (name : List ℕ) (marks : List Mark) → None ≡ position (is_of name) marks → marks ≡ up_to name marks
all_up_to name marks e =
    let n = position_or_len (is_of name) marks in
    let past = ltb-false n (length marks) (no_place (nat_lt n (length marks)) n e) in
    sym (take_all (n + 1) marks (omega (arith, past))) ∙ up_to_is name marks

pub no_mark : (name : List ℕ) (marks : List Mark) → None ≡ position (is_of name) marks → mark_of name marks ≡ None
no_mark name marks e =
    let n = position_or_len (is_of name) marks in
    let past = ltb-false n (length marks) (no_place (nat_lt n (length marks)) n e) in
    ap (option_map (λ mark. mark.1)) (find_at (is_of name) marks ∙ slice_get_past marks n past)

-- the mark at the place that is found tells the count of the name
pub mark_found : (name : List ℕ) (marks : List Mark) (place : ℕ) (mark : Mark) → Some place ≡ position (is_of name) marks → mark ≡ get_or marks place mark → mark_of name marks ≡ Some mark.1
mark_found name marks place mark e m =
    let n = position_or_len (is_of name) marks in
    let is = some_place (nat_lt n (length marks)) n place e in
    let few = ltb-true n (length marks) is.1 in
    ap (option_map (λ m. m.1)) (find_at (is_of name) marks ∙ slice_get_read marks (length marks) n mark refl few (m ∙ ap (λ k. get_or marks k mark) is.0))
