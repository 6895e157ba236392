-- The lines of the waves, one wave after another.
use Rattle.std.proofs.Common.{◌≡◌, ℕ, suc, ◌+◌, ◌<◌, Bool, List, [], ◌∷◌, ◌++◌, length, get_or, take, flat_map, find, arith, refl, ap, append-nil, add-zero, length-take, ◌∙◌}
use Rattle.std.specs.List.{enumerate_from}
use Rattle.std.proofs.lemmas.List.{take_more}
use Rattle.std.proofs.lemmas.List.Concat.{flat_map-append}
use Rattle.journal.specs.declared.entry.Entry.{Entry}
use Rattle.script_text.specs.declared.item.Item.{Item}
use Rattle.run_report.specs.Answers.{answers}
use Rattle.run_report.specs.Reports.{line_answer, said, told, wave_text}
use Rattle.run_report.proofs.Settled.{is_ended-cong}

enumerate-push : {X : Type 0} (n : ℕ) (xs : List X) (x : X) → enumerate_from n (xs ++ x ∷ []) ≡ enumerate_from n xs ++ (n + length xs, x) ∷ []
enumerate-push n [] x = rw add-zero refl
enumerate-push n (y ∷ xs) x =
    let e = enumerate-push (n + 1) xs x in
    let k : n + 1 + length xs ≡ n + suc (length xs) = omega arith in
    ap (λ rest. (n, y) ∷ rest) (e ∙ ap (λ m. enumerate_from (n + 1) xs ++ (m, x) ∷ []) k)

pub flat_map-enumerate-more : {X : Type 0} (f : ℕ × X → List ℕ) (xs : List X) (i : ℕ) (x : X) → i < length xs → x ≡ get_or xs i x
    → flat_map f (enumerate_from 0 (take (i + 1) xs)) ≡ flat_map f (enumerate_from 0 (take i xs)) ++ f (i, x)
flat_map-enumerate-more f xs i x within at_i =
    let more = take_more xs i x within in
    let len : 0 + length (take i xs) ≡ i = simp length-take (omega arith) in
    rw (more, ← at_i)
    (ap (flat_map f) (enumerate-push 0 (take i xs) x) ∙ flat_map-append f (enumerate_from 0 (take i xs)) _
    ∙ ap (λ t. flat_map f (enumerate_from 0 (take i xs)) ++ t) (append-nil (f (0 + length (take i xs), x)) ∙ ap (λ m. f (m, x)) len))

flat_map-cong : {X : Type 0} (f g : X → List ℕ) (xs : List X) → ((x : X) → f x ≡ g x) → flat_map f xs ≡ flat_map g xs
flat_map-cong f g [] same = refl
flat_map-cong f g (x ∷ xs) same = let first = same x in let rest = flat_map-cong f g xs same in cc

-- what was found of the ends says the same in every line
pub wave_texts-cong : (journal : List Entry) (E D : ℕ → Bool → ℕ → Bool) → ((w : ℕ) (d : Bool) (i : ℕ) → E w d i ≡ D w d i)
    → (waves : List (ℕ × List (ℕ × Item))) → flat_map (λ wave. wave_text journal E wave.0 wave.1) waves ≡ flat_map (λ wave. wave_text journal D wave.0 wave.1) waves
wave_texts-cong journal E D same waves = flat_map-cong _ _ waves (λ wave. flat_map-cong _ _ wave.1 (line_of wave.0))
  where
    line_of : (w : ℕ) (line : ℕ × Item) → told line.0 (line_answer journal E w line) ≡ told line.0 (line_answer journal D w line)
    line_of w (n, item) = ap (λ b. told n (said item (find (answers n) journal) b)) (is_ended-cong E D same w item)
