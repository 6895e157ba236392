-- Lines in order, with one more.
use Rattle.std.proofs.Common.{◌≡◌, ◌<◌, ◌∙◌, ℕ, zero, suc, Bool, true, false, ◌==◌, ◌&&◌, ◌||◌, nat_lt, if◌then◌else◌, refl, sym, ap, subst, arith}
use Rattle.std.proofs.Common.{List, [], ◌∷◌, ◌++◌, length, get_or, take, drop}
use Rattle.std.specs.List.{AllByRecursion}
use Rattle.log_history.specs.LogHistory.{IsInOrder, entered, is_after}
use Rattle.log_history.specs.declared.line.HistoryLine.{HistoryLine}

-- whether a pair of numbers comes after another
abbrev comes_after : (c i d j : ℕ) → Bool
comes_after c i d j = nat_lt d c || c == d && nat_lt j i

numbers-turned : (c i d j : ℕ) → comes_after c i d j ≡ true → comes_after d j c i ≡ false
numbers-turned c i d j after = grind arith

numbers-through : (c i d j e k : ℕ) → comes_after c i d j ≡ false → comes_after d j e k ≡ false → comes_after c i e k ≡ false
numbers-through c i d j e k first second = grind arith

-- a line that another comes after doesn't come after it
turned : (a b : HistoryLine) → is_after a b ≡ true → is_after b a ≡ false
turned a b after = numbers-turned a.commit_scn a.inst b.commit_scn b.inst after

-- not to come after goes from line to line
through : (a b d : HistoryLine) → is_after a b ≡ false → is_after b d ≡ false → is_after a d ≡ false
through a b d first second = numbers-through a.commit_scn a.inst b.commit_scn b.inst d.commit_scn d.inst first second

all_at : (P : HistoryLine → Type 0) (lines : List HistoryLine) (n : ℕ) (x : HistoryLine) → n < length lines → x ≡ get_or lines n x
    → AllByRecursion P lines → P x
all_at P [] n x within is all = absurd (omega arith)
all_at P (b ∷ more) zero x within is all = subst P (sym is) all.0
all_at P (b ∷ more) (suc n) x within is all = all_at P more n x (omega arith) is all.1

all_through : (a b : HistoryLine) (lines : List HistoryLine) → is_after a b ≡ false → AllByRecursion (λ x. is_after b x ≡ false) lines
    → AllByRecursion (λ x. is_after a x ≡ false) lines
all_through a b [] first all = tt
all_through a b (x ∷ lines) first all = (through a b x first all.0, all_through a b lines first all.1)

all_entered : (P : HistoryLine → Type 0) (a : HistoryLine) (lines : List HistoryLine) → P a → AllByRecursion P lines → AllByRecursion P (entered a lines)
all_entered P a [] one all = (one, tt)
all_entered P a (b ∷ more) one all = by_case (all_entered P a more one all.1) (is_after b a)
  where
    by_case : AllByRecursion P (entered a more) → (t : Bool) → AllByRecursion P (if t then a ∷ b ∷ more else b ∷ entered a more)
    by_case rest true = (one, all)
    by_case rest false = (all.0, rest)

-- one more line leaves them in order
pub entered-in_order : (a : HistoryLine) (lines : List HistoryLine) → IsInOrder lines → IsInOrder (entered a lines)
entered-in_order a [] order = (tt, tt)
entered-in_order a (b ∷ more) order = by_case (entered-in_order a more order.1) (is_after b a) refl
  where
    by_case : IsInOrder (entered a more) → (t : Bool) → is_after b a ≡ t → IsInOrder (if t then a ∷ b ∷ more else b ∷ entered a more)
    by_case rest true after = ((turned b a after, all_through a b more (turned b a after) order.0), order)
    by_case rest false before = (all_entered (λ x. is_after b x ≡ false) a more before order.0, rest)

-- a line goes behind the last that doesn't come after it, and so behind all before that
pub entered-behind : (a : HistoryLine) (lines : List HistoryLine) (at : ℕ) (x : HistoryLine) → at < length lines → x ≡ get_or lines at x
    → IsInOrder lines → is_after x a ≡ false → entered a lines ≡ take (suc at) lines ++ entered a (drop (suc at) lines)
entered-behind a [] at x within is order before = absurd (omega arith)
entered-behind a (b ∷ more) zero x within is order before =
    ap (λ (t : Bool). if t then a ∷ b ∷ more else b ∷ entered a more) (subst (λ (y : HistoryLine). is_after y a ≡ false) is before)
entered-behind a (b ∷ more) (suc at) x within is order before =
    let first = through b x a (all_at (λ y. is_after b y ≡ false) more at x (omega arith) is order.0) before in
    ap (λ (t : Bool). if t then a ∷ b ∷ more else b ∷ entered a more) first
    ∙ ap (λ (lines : List HistoryLine). b ∷ lines) (entered-behind a more at x (omega arith) is order.1 before)
