-- Replaying what stands, and the history.
use Rattle.std.proofs.Common.{◌≡◌, ℕ, ◌≤◌, Bool, true, false, cond, ◌||◌, max, List, [], ◌∷◌, ◌++◌, refl, sym, ap, ◌∙◌, arith, ◌⊎◌, Option, None}
use Rattle.std.specs.List.{AllByRecursion}
use Rattle.std.proofs.lemmas.List.Elements.{filter-append}
use Rattle.board_rows.proofs.Words.{Xid, same_xid, Change, Deed, row_of, changes_of, Commit, entered, value_by, changes_up_to, changes_in, Replays, same_xid-true, DeedAt, of_xid, IsFree, on, shown, on_row, deeds_in, seen_at, IsOver, Ordered}
use Rattle.board_rows.proofs.Lists.{cases, all_map}
use Rattle.board_rows.proofs.Shown.{NoneOn, shown-or, changes_of-append, on_row-of_xid}
use Rattle.board_rows.proofs.Table.{IsClear}
use Rattle.board_rows.proofs.Order.{none-under, Ordered-ahead, all-seen}

-- only the changes of a row count
pub value-on_row : (k : ℕ) (changes : List Change) → value_by (on_row k changes) k ≡ value_by changes k
value-on_row k [] = refl
value-on_row k (change ∷ older) = grind (arith, value-on_row k older)

pub value-same : (k : ℕ) (xs ys : List Change) → on_row k xs ≡ on_row k ys → value_by xs k ≡ value_by ys k
value-same k xs ys e = sym (value-on_row k xs) ∙ (ap (λ cs. value_by cs k) e ∙ value-on_row k ys)

pub value-below : (k : ℕ) (mine xs ys : List Change) → on_row k xs ≡ on_row k ys → value_by (mine ++ xs) k ≡ value_by (mine ++ ys) k
value-below k mine xs ys e = value-same k (mine ++ xs) (mine ++ ys) (filter-append _ mine xs ∙ (ap (λ cs. on_row k mine ++ cs) e ∙ sym (filter-append _ mine ys)))

-- changes replay on what stands below them
abbrev pub ReplaysOn : List Change → List Change → Type 0
ReplaysOn base [] = Unit {0}
ReplaysOn base (change ∷ older) = (change.found ≡ value_by (older ++ base) change.row) × ReplaysOn base older

pub Replays-join : (changes base : List Change) → ReplaysOn base changes → Replays base → Replays (changes ++ base)
Replays-join [] base h r = r
Replays-join (change ∷ older) base h r = (h.0, Replays-join older base h.1 r)

pub Replays-split : (changes base : List Change) → Replays (changes ++ base) → ReplaysOn base changes × Replays base
Replays-split [] base r = (tt, r)
Replays-split (change ∷ older) base r = let rest = Replays-split older base r.1 in ((r.0, rest.0), rest.1)

-- bases that agree in each row that has changes
pub ReplaysOn-same : (changes base other : List Change) → ((k : ℕ) → (on_row k changes ≡ []) ⊎ (on_row k base ≡ on_row k other)) → ReplaysOn base changes → ReplaysOn other changes
ReplaysOn-same [] base other e h = tt
ReplaysOn-same (change ∷ older) base other e h = grind (arith, cases, value-below, ReplaysOn-same older)

none_either : (k : ℕ) (xs ys : List Change) → on_row k xs ≡ [] → on_row k (xs ++ ys) ≡ on_row k ys
none_either k xs ys e = filter-append _ xs ys ∙ ap (λ cs. cs ++ on_row k ys) e

all-untouched : (k : ℕ) (a : Commit) (commits : List Commit) → on_row k a.changes ≡ [] → on_row k (changes_in (entered a commits)) ≡ on_row k (changes_in commits)
all-untouched k a [] h = none_either k a.changes [] h
all-untouched k a (b ∷ commits) h = grind (arith, cases, none_either, filter-append, all-untouched k a commits h)

pub Replays-entered : (a : Commit) (commits : List Commit) → AllByRecursion (IsClear a) commits → ReplaysOn (changes_in commits) a.changes → Replays (changes_in commits) → Replays (changes_in (entered a commits))
Replays-entered a [] clear on r = Replays-join a.changes [] on r
Replays-entered a (b ∷ commits) clear on r = grind (arith, cases, Replays-join, Replays-split, ReplaysOn-same, all-untouched, none_either, Replays-entered a commits clear.1)

pub Replays-tail : (d : Deed) (deeds : List Deed) → Replays (changes_of (d ∷ deeds)) → Replays (changes_of deeds)
Replays-tail d deeds r = grind arith

-- the first deed, over other deeds with the same value in its row
pub Replays-head : (d : Deed) (xs ys : List Deed) → Replays (changes_of (d ∷ xs)) → on_row (row_of d) (changes_of xs) ≡ on_row (row_of d) (changes_of ys) → Replays (changes_of ys) → Replays (changes_of (d ∷ ys))
Replays-head d xs ys r e h = grind (arith, cases, value-same)

replays_on-head : (d : Deed) (all mine : List Deed) (base : List Change) → on_row (row_of d) (changes_of all) ≡ on_row (row_of d) (changes_of mine ++ base) → Replays (changes_of (d ∷ all)) → ReplaysOn base (changes_of mine) → ReplaysOn base (changes_of (d ∷ mine))
replays_on-head d all mine base e r ih = grind (arith, cases, value-same)

-- what stands of a transaction that isn't committed, with the commits below it
pub own-first : (k s : ℕ) (x : Xid) (committed : Xid → Option ℕ) (mods : List DeedAt) → committed x ≡ None → Ordered committed mods
    → changes_of (shown k (λ y. same_xid x y || seen_at s committed y) mods) ≡ on_row k (changes_of (deeds_in (of_xid x mods))) ++ changes_of (shown k (seen_at s committed) mods)
own-first k s x committed mods new order =
    ap changes_of (shown-or k (same_xid x) (seen_at s committed) mods (λ y e. rw (sym (same_xid-true x y e), new) refl) (Ordered-ahead k s x committed mods new order))
    ∙ (changes_of-append (shown k (same_xid x) mods) (shown k (seen_at s committed) mods)
    ∙ ap (λ cs. cs ++ changes_of (shown k (seen_at s committed) mods)) (sym (on_row-of_xid k x mods)))

free-under : (s : ℕ) (committed : Xid → Option ℕ) (m : DeedAt) (os : List DeedAt) → m.scn ≤ s → AllByRecursion (IsOver committed m) os → AllByRecursion (IsFree committed s m.xid (row_of m.deed)) os
free-under s committed m os le = all_map _ _ os one
  where
    one : (o : DeedAt) → IsOver committed m o → IsFree committed s m.xid (row_of m.deed) o
    one o over a = grind (arith, cases)

-- what stands of a transaction replays on the table
pub replays-on : (s : ℕ) (x : Xid) (committed : Xid → Option ℕ) (base : List Change) (mods : List DeedAt) → committed x ≡ None → AllByRecursion (λ m. m.scn ≤ s) mods → Ordered committed mods
    → ((k : ℕ) → NoneOn k (same_xid x) mods ⊎ (on_row k base ≡ changes_of (shown k (seen_at s committed) mods))) → Replays (changes_of (deeds_in mods)) → ReplaysOn base (changes_of (deeds_in (of_xid x mods)))
replays-on s x committed base [] new low h based r = tt
replays-on s x committed base (m ∷ mods) new low h based r = by (same_xid x m.xid) refl (replays-on s x committed base mods new low.1 h.1 (λ k. below k (based k)) (Replays-tail m.deed (deeds_in mods) r))
  where
    below : (k : ℕ) → NoneOn k (same_xid x) (m ∷ mods) ⊎ (on_row k base ≡ changes_of (shown k (seen_at s committed) (m ∷ mods))) → NoneOn k (same_xid x) mods ⊎ (on_row k base ≡ changes_of (shown k (seen_at s committed) mods))
    below k either = grind (arith, cases, none-under k x committed m mods new)

    table : same_xid x m.xid ≡ true → NoneOn (row_of m.deed) (same_xid x) (m ∷ mods) ⊎ (on_row (row_of m.deed) base ≡ changes_of (shown (row_of m.deed) (seen_at s committed) (m ∷ mods))) → on_row (row_of m.deed) base ≡ changes_of (shown (row_of m.deed) (seen_at s committed) mods)
    table f either = grind (arith, cases)

    rows : same_xid x m.xid ≡ true → on_row (row_of m.deed) (changes_of (deeds_in mods)) ≡ on_row (row_of m.deed) (changes_of (deeds_in (of_xid x mods)) ++ base)
    rows f =
        let k = row_of m.deed in
        let free : AllByRecursion (IsFree committed s x k) mods = rw (same_xid-true x m.xid f) (free-under s committed m mods low.0 h.0) in
        all-seen k s x committed mods free
        ∙ (own-first k s x committed mods new h.1
        ∙ (ap (λ cs. on_row k (changes_of (deeds_in (of_xid x mods))) ++ cs) (sym (table f (based k)))
        ∙ sym (filter-append _ (changes_of (deeds_in (of_xid x mods))) base)))

    by : (t : Bool) → same_xid x m.xid ≡ t → ReplaysOn base (changes_of (deeds_in (of_xid x mods))) → ReplaysOn base (changes_of (deeds_in (cond t (m ∷ of_xid x mods) (of_xid x mods))))
    by true f ih = replays_on-head m.deed (deeds_in mods) (deeds_in (of_xid x mods)) base (rows f) r ih
    by false f ih = ih

-- a bound of what stands and of the history
pub bound : {A : Type 0} (f : A → ℕ) (xs : List A) → (s : ℕ) × ((t : ℕ) → s ≤ t → AllByRecursion (λ x. f x ≤ t) xs)
bound f [] = (0, λ t le. tt)
bound f (x ∷ xs) = let rest = bound f xs in (max (f x) rest.0, λ t le. (omega (arith, le), rest.1 t (omega (arith, le))))

pub changes_up_to-all : (s : ℕ) (commits : List Commit) → AllByRecursion (λ a. a.commit_scn ≤ s) commits → changes_up_to s commits ≡ changes_in commits
changes_up_to-all s [] h = refl
changes_up_to-all s (a ∷ commits) h = grind (arith, changes_up_to-all s commits h.1)
