-- What is settled on the way is what is done.
use Rattle.std.proofs.Common.{◌≡◌, ℕ, ◌+◌, Bool, true, false, not, ◌||◌, ◌&&◌, nat_lt, Option, Some, None, is_some, List, reverse, take, arith, refl, ap, zero-add, ◌∙◌}
use Rattle.std.proofs.lemmas.Bool.Decides.{nat_tests}
use Rattle.std.specs.List.{list_any, position_from}
use Rattle.std.specs.Option.{option_map_or}
use Rattle.journal.specs.declared.entry.Entry.{Entry}
use Rattle.script_text.specs.declared.item.Item.{Item}
use Rattle.script_text.specs.declared.item.Item.TheVariants.{Session, CrashAfter, CrashMark, Start, Remaster, Checkpoint, Hold}
use Rattle.script_text.specs.declared.item.Item.TheVariants.{Stmt as Statement}
use Rattle.run_report.specs.Answers.{answers}
use Rattle.run_report.specs.Ends.{answers_any, is_asked, is_done, is_ended}
use Rattle.run_report.specs.Found.{AreSettled, is_settled}
use Rattle.run_report.proofs.Current.{list_all-mono}
use Rattle.run_report.proofs.Finds.{list_any-before, list_any-reverse, list_any-somewhere}

pub is_ended-cong : (E D : ℕ → Bool → ℕ → Bool) → ((w : ℕ) (d : Bool) (i : ℕ) → E w d i ≡ D w d i) → (w : ℕ) (item : Item) → is_ended E w item ≡ is_ended D w item
is_ended-cong E D same w (Session _ _) = refl
is_ended-cong E D same w (Statement _ _) = refl
is_ended-cong E D same w (CrashAfter inst _ _) = same w false inst
is_ended-cong E D same w (CrashMark inst _) = same w false inst
is_ended-cong E D same w (Start inst) = same w true inst
is_ended-cong E D same w (Remaster _ _) = refl
is_ended-cong E D same w (Checkpoint _) = refl
is_ended-cong E D same w (Hold _ _) = refl

is_ended-mono : (E D : ℕ → Bool → ℕ → Bool) → ((w : ℕ) (d : Bool) (i : ℕ) → E w d i ≡ true → D w d i ≡ true) → (w : ℕ) (item : Item) → is_ended E w item ≡ true → is_ended D w item ≡ true
is_ended-mono E D more w (Session _ _) h = h
is_ended-mono E D more w (Statement _ _) h = h
is_ended-mono E D more w (CrashAfter inst _ _) h = more w false inst h
is_ended-mono E D more w (CrashMark inst _) h = more w false inst h
is_ended-mono E D more w (Start inst) h = more w true inst h
is_ended-mono E D more w (Remaster _ _) h = h
is_ended-mono E D more w (Checkpoint _) h = h
is_ended-mono E D more w (Hold _ _) h = h

-- by where the first entry with a line's number stands, where that is known
by_place : (r : Option ℕ) (at : ℕ) (past whole e d : Bool) → past ≡ option_map_or (λ place. nat_lt place at) r false → whole ≡ is_some r → e ≡ d
    → option_map_or (λ place. nat_lt place at) r e ≡ (past || (not whole && d))
by_place None at past whole e d p q same = rw (p, q) same
by_place (Some place) at past whole e d p q same = rw (p, q) (with_nothing (nat_lt place at))
  where
    with_nothing : (b : Bool) → b ≡ (b || false)
    with_nothing true = refl
    with_nothing false = refl

pub is_settled-is : (journal : List Entry) (first : ℕ → Option ℕ) (at : ℕ) (E D : ℕ → Bool → ℕ → Bool)
    → ((line : ℕ) → first line ≡ position_from (answers line) 0 journal) → ((w : ℕ) (d : Bool) (i : ℕ) → E w d i ≡ D w d i)
    → (w : ℕ) (line : ℕ × Item) → is_settled first at E w line ≡ is_done (answers_any (reverse journal)) (reverse (take at journal)) D w line
is_settled-is journal first at E D places same w (n, item) =
    let p = answers n in
    let before : list_any p (reverse (take at journal)) ≡ option_map_or (λ place. nat_lt place at) (position_from p 0 journal) false =
    list_any-reverse p (take at journal) ∙ list_any-before p 0 journal at ∙ ap (λ m. option_map_or (λ place. nat_lt place m) (position_from p 0 journal) false) (zero-add at) in
    let e = by_place (position_from p 0 journal) at _ _ _ _ before (list_any-reverse p journal ∙ list_any-somewhere p 0 journal) (is_ended-cong E D same w item) in
    rw (places n) (ap (λ b. not (is_asked item) || b) e)

settled-or : (a b c : Bool) → (b ≡ true → c ≡ true) → (a || b) ≡ true → (a || c) ≡ true
settled-or true b c more h = refl
settled-or false b c more h = more h

later : (r : Option ℕ) (at : ℕ) (e d : Bool) → (e ≡ true → d ≡ true) → option_map_or (λ place. nat_lt place at) r e ≡ true → option_map_or (λ place. nat_lt place (at + 1)) r d ≡ true
later None at e d more h = more h
later (Some place) at e d more h = let before : nat_lt place at ≡ true = h in grind (arith, nat_tests)

pub is_settled-stays : (first : ℕ → Option ℕ) (at : ℕ) (E D : ℕ → Bool → ℕ → Bool) → ((w : ℕ) (d : Bool) (i : ℕ) → E w d i ≡ true → D w d i ≡ true)
    → (w : ℕ) (line : ℕ × Item) → is_settled first at E w line ≡ true → is_settled first (at + 1) D w line ≡ true
is_settled-stays first at E D more w (n, item) h =
    settled-or (not (is_asked item)) _ _ (later (first n) at _ _ (is_ended-mono E D more w item)) h

pub AreSettled-stay : (s t : ℕ → ℕ × Item → Bool) (waves : List (List (ℕ × Item))) (w l : ℕ) → ((n : ℕ) (line : ℕ × Item) → s n line ≡ true → t n line ≡ true)
    → AreSettled s waves w l → AreSettled t waves w l
AreSettled-stay s t waves w l more settled = record {
  earlier = λ k h. list_all-mono (s k) (t k) _ (more k) (settled.earlier k h);
  here = list_all-mono (s w) (t w) _ (more w) settled.here;
}
