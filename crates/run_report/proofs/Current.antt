-- Which wave is the current one.
use Rattle.std.proofs.Common.{◌≡◌, ℕ, zero, suc, ◌+◌, ◌-◌, ◌<◌, min, Bool, true, false, List, [], ◌∷◌, length, get_or, arith, refl, sym, inl, inr, ◌&&◌, ◌∙◌}
use Rattle.std.proofs.lemmas.Bool.{cases_lt}
use Rattle.std.specs.List.{list_all}
use Rattle.script_text.specs.declared.item.Item.{Item}
use Rattle.script_text.specs.Lines.{current_wave}
use Rattle.run_report.specs.Found.{AreSettled}

pub list_all-cong : {X : Type 0} (p q : X → Bool) (xs : List X) → ((x : X) → p x ≡ q x) → list_all p xs ≡ list_all q xs
list_all-cong p q [] same = refl
list_all-cong p q (x ∷ xs) same = let first = same x in let rest = list_all-cong p q xs same in cc

pub list_all-mono : {X : Type 0} (p q : X → Bool) (xs : List X) → ((x : X) → p x ≡ true → q x ≡ true) → list_all p xs ≡ true → list_all q xs ≡ true
list_all-mono p q [] more all = refl
list_all-mono p q (x ∷ xs) more all = both (p x) (q x) (list_all p xs) (list_all q xs) (more x) (list_all-mono p q xs more) all
  where
    both : (a b c d : Bool) → (a ≡ true → b ≡ true) → (c ≡ true → d ≡ true) → (a && c) ≡ true → (b && d) ≡ true
    both true b true d f g h = rw (f refl, g refl) refl
    both true b false d f g h = cc
    both false b c d f g h = cc

pub current_wave-cong : (p q : ℕ → ℕ × Item → Bool) (first : ℕ) (waves : List (List (ℕ × Item))) → ((n : ℕ) (line : ℕ × Item) → p n line ≡ q n line) → current_wave p first waves ≡ current_wave q first waves
current_wave-cong p q first [] same = refl
current_wave-cong p q first (wave ∷ waves) same =
    let here = list_all-cong (p first) (q first) wave (same first) in
    let later = current_wave-cong p q (first + 1) waves same in
    cc

current-open : (s : ℕ → ℕ × Item → Bool) (first : ℕ) (waves : List (List (ℕ × Item))) (w n : ℕ)
    → ((k m : ℕ) → m ≡ first + k → k < w → list_all (s m) (get_or waves k []) ≡ true)
    → n ≡ first + w → w < length waves → list_all (s n) (get_or waves w []) ≡ false → current_wave s first waves ≡ n
current-open s first [] w n before at_n within fails = absurd (omega arith)
current-open s first (wave ∷ waves) zero n before at_n within fails =
    let same : n ≡ first = omega arith in
    let here : list_all (s first) wave ≡ false = rw same at fails in
    rw here (sym same)
current-open s first (wave ∷ waves) (suc w) n before at_n within fails =
    let here : list_all (s first) wave ≡ true = before 0 first (omega arith) (omega arith) in
    rw here (current-open s (first + 1) waves w n (λ k m e h. before (suc k) m (omega (arith, e)) (omega (arith, h))) (omega arith) (omega arith) fails)

current-end : (s : ℕ → ℕ × Item → Bool) (first : ℕ) (waves : List (List (ℕ × Item)))
    → ((k m : ℕ) → m ≡ first + k → k < length waves → list_all (s m) (get_or waves k []) ≡ true)
    → current_wave s first waves ≡ first + length waves - 1
current-end s first [] before = omega arith
current-end s first (wave ∷ waves) before =
    let here : list_all (s first) wave ≡ true = before 0 first (omega arith) (omega arith) in
    rw here (current-end s (first + 1) waves (λ k m e h. before (suc k) m (omega (arith, e)) (omega (arith, h))) ∙ omega arith)

-- where the lines before a wave are settled, and that wave has one that isn't, it is the current one
pub current-is : (s : ℕ → ℕ × Item → Bool) (waves : List (List (ℕ × Item))) (w l : ℕ) → AreSettled s waves w l
    → (w < length waves → list_all (s w) (get_or waves w []) ≡ false) → current_wave s 0 waves ≡ min w (length waves - 1)
current-is s waves w l settled unsettled =
    elim (cases_lt w (length waves)) as (λ _. current_wave s 0 waves ≡ min w (length waves - 1)) [
      | inl within ↦
          let e = current-open s 0 waves w w (λ k m same h. let k_m : m ≡ k = omega (arith, same) in rw k_m (settled.earlier k h)) (omega arith) within (unsettled within) in
          e ∙ omega arith
      | inr past ↦
          let e = current-end s 0 waves (λ k m same h. let k_m : m ≡ k = omega (arith, same) in rw k_m (settled.earlier k (omega (arith, h, past)))) in
          e ∙ omega arith
    ]
