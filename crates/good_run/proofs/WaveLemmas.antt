-- The waves at earlier places depend on the whole journal at crash and start lines alone.
use Rattle.std.proofs.Common.{◌≡◌, ℕ, ◌+◌, List, [], ◌∷◌, ◌++◌, Bool, true, false, not, ◌&&◌, ◌||◌, refl, ap, arith}
use Rattle.std.specs.List.{AllByRecursion, list_all}
use Rattle.journal.specs.Past.{Past}
use Rattle.script_text.specs.declared.item.Item.{Item}
use Rattle.script_text.specs.declared.item.Item.TheVariants as items
use Rattle.script_text.specs.Lines.{current_wave}
use Rattle.script_text.specs.Reading.{joined}
use Rattle.run_report.specs.Ends.{is_asked, is_done, is_ended, ended_in, answers_any}
use Rattle.good_run.specs.Waves.{may_end}

module _ (ever more : ℕ → Bool) where
  -- two functions agree at a line that an end may answer
  abbrev pub Agree : ℕ × Item → Type 0
  Agree line = may_end line.1 ≡ true → ever line.0 ≡ more line.0

  -- what no end may answer isn't ended
  not-ended : (ended : ℕ → Bool → ℕ → Bool) (wave : ℕ) (item : Item) → may_end item ≡ false → is_ended ended wave item ≡ false
  not-ended ended wave (items.CrashAfter inst steps keep) h = grind (arith, h)
  not-ended ended wave (items.CrashMark inst keep) h = grind (arith, h)
  not-ended ended wave (items.Start inst) h = grind (arith, h)
  not-ended ended wave _ h = refl

  -- a part of the test of a line
  ends-alike : (a b t : Bool) (m : Bool) → (m ≡ true → a ≡ b) → (m ≡ false → t ≡ false) → (not a && t) ≡ (not b && t)
  ends-alike a b t true same none = ap (λ (x : Bool). not x && t) (same refl)
  ends-alike true true t false same none = refl
  ends-alike false false t false same none = refl
  ends-alike true false t false same none = let h : t ≡ false = none refl in rw h refl
  ends-alike false true t false same none = let h : t ≡ false = none refl in rw h refl

  done-alike : (past : Past) (ended : ℕ → Bool → ℕ → Bool) (wave : ℕ) (line : ℕ × Item) → Agree line → is_done ever past ended wave line ≡ is_done more past ended wave line
  done-alike past ended wave line same =
      ap (λ (x : Bool). not (is_asked line.1) || (answers_any past line.0 || x))
      (ends-alike (ever line.0) (more line.0) (is_ended ended wave line.1) (may_end line.1) same (not-ended ended wave line.1))

  -- a wave's lines, and those behind it
  all-left : (xs ys : List (ℕ × Item)) → AllByRecursion Agree (xs ++ ys) → AllByRecursion Agree xs
  all-left [] ys all = tt
  all-left (x ∷ xs) ys all = (all.0, all-left xs ys all.1)

  all-right : (xs ys : List (ℕ × Item)) → AllByRecursion Agree (xs ++ ys) → AllByRecursion Agree ys
  all-right [] ys all = all
  all-right (x ∷ xs) ys all = all-right xs ys all.1

  module _ (past : Past) (ended : ℕ → Bool → ℕ → Bool) where
    wave-alike : (wave : ℕ) (lines : List (ℕ × Item)) → AllByRecursion Agree lines → list_all (is_done ever past ended wave) lines ≡ list_all (is_done more past ended wave) lines
    wave-alike wave [] all = refl
    wave-alike wave (line ∷ lines) all =
        rw (done-alike past ended wave line all.0, wave-alike wave lines all.1) refl

    current-alike : (first : ℕ) (waves : List (List (ℕ × Item))) → AllByRecursion Agree (joined waves) → current_wave (is_done ever past ended) first waves ≡ current_wave (is_done more past ended) first waves
    current-alike first [] all = refl
    current-alike first (wave ∷ waves) all =
        rw (wave-alike first wave (all-left wave (joined waves) all), current-alike (first + 1) waves (all-right wave (joined waves) all)) refl

  module _ (waves : List (List (ℕ × Item))) (all : AllByRecursion Agree (joined waves)) where
    at-alike : (past : Past) → ((wave : ℕ) (down : Bool) (inst : ℕ) → ended_in ever waves past wave down inst ≡ ended_in more waves past wave down inst) → current_wave (is_done ever past (ended_in ever waves past)) 0 waves ≡ current_wave (is_done more past (ended_in more waves past)) 0 waves
    at-alike past same =
        rw (current-alike past (ended_in ever waves past) 0 waves all) (ap (λ (ended : ℕ → Bool → ℕ → Bool). current_wave (is_done more past ended) 0 waves) (λ i wave down inst. same wave down inst i))

    ended-alike : (past : Past) (wave : ℕ) (down : Bool) (inst : ℕ) → ended_in ever waves past wave down inst ≡ ended_in more waves past wave down inst
    ended-alike [] wave down inst = refl
    ended-alike (e ∷ past) wave down inst =
        rw (ended-alike past wave down inst, at-alike past (ended-alike past)) refl

    pub waves-alike : (past : Past) → current_wave (is_done ever past (ended_in ever waves past)) 0 waves ≡ current_wave (is_done more past (ended_in more waves past)) 0 waves
    waves-alike past = at-alike past (ended-alike past)
