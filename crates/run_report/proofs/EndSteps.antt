-- What one entry more changes of the ends that were found.
use Rattle.std.proofs.Common.{◌≡◌, ℕ, Bool, true, false, not, ◌||◌, ◌&&◌, eqb-true, List, ◌∷◌, refl, ap, ◌∙◌}
use Rattle.std.specs.Prelude.{◌==◌}
use Rattle.journal.specs.declared.entry.Entry.{Entry}
use Rattle.journal.specs.declared.entry.Entry.TheVariants.{Ended}
use Rattle.script_text.specs.declared.item.Item.{Item}
use Rattle.journal.specs.Past.{up_after, is_up}
use Rattle.script_text.specs.Lines.{current_wave}
use Rattle.run_report.specs.Ends.{ended_in, ends, is_done}

or_false : (a : Bool) → (a || false) ≡ a
or_false true = refl
or_false false = refl

not_not : (a : Bool) → not (not a) ≡ a
not_not true = refl
not_not false = refl

no_end : (entry : Entry) → ((i : ℕ) (bad : Bool) → entry ≡ Ended i bad → ⊥) → (inst : ℕ) → ends entry inst ≡ false
no_end (Ended i bad) h inst = absurd (h i bad refl)
no_end _ h inst = refl

-- an entry that is no end
pub ended_in-other : (ever : ℕ → Bool) (waves : List (List (ℕ × Item))) (past : List Entry) (entry : Entry) → ((i : ℕ) (bad : Bool) → entry ≡ Ended i bad → ⊥)
    → (wave : ℕ) (down : Bool) (inst : ℕ) → ended_in ever waves (entry ∷ past) wave down inst ≡ ended_in ever waves past wave down inst
ended_in-other ever waves past entry h wave down inst = rw (no_end entry h inst) (or_false (ended_in ever waves past wave down inst))

same_up : (past : List Entry) (x y : ℕ) → (x == y) ≡ true → is_up x past ≡ is_up y past
same_up past x y e = ap (λ i. is_up i past) (eqb-true x y e)

at_equal : (b u v d : Bool) → (b ≡ true → u ≡ v) → (b && not (d && not (not u))) ≡ (b && not (d && v))
at_equal true true v d same = ap (λ x. not (d && x)) (same refl)
at_equal true false v d same = ap (λ x. not (d && x)) (same refl)
at_equal false u v d same = refl

-- the end of an instance, which was looked up as down or not
pub ended_in-end : (ever : ℕ → Bool) (waves : List (List (ℕ × Item))) (past : List Entry) (ended : ℕ) (bad : Bool) (current : ℕ) (is_down : Bool)
    → is_down ≡ not (is_up ended past) → current_wave (is_done ever past (ended_in ever waves past)) 0 waves ≡ current
    → (wave : ℕ) (down : Bool) (inst : ℕ) (before : Bool) → before ≡ ended_in ever waves past wave down inst
    → (before || ((ended == inst) && not (down && not is_down) && (current == wave))) ≡ ended_in ever waves (Ended ended bad ∷ past) wave down inst
ended_in-end ever waves past ended bad current is_down looked now wave down inst before same =
    let up = at_equal (ended == inst) (is_up ended past) (is_up inst past) down (same_up past ended inst) in
    rw (looked, same, now) (ap (λ b. ended_in ever waves past wave down inst || (b && (current == wave))) up)

-- whether an instance is down after an entry
pub is_down-more : (past : List Entry) (entry : Entry) (i : ℕ) (old : Bool) → old ≡ not (is_up i past)
    → not (up_after i entry (not old)) ≡ not (is_up i (entry ∷ past))
is_down-more past entry i old e = rw e (ap (λ b. not (up_after i entry b)) (not_not (is_up i past)))

-- what was found before stays
pub or_stays : (a b c : Bool) → c ≡ (a || b) → a ≡ true → c ≡ true
or_stays a b c e h = e ∙ ap (λ x. x || b) h
