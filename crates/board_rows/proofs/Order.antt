-- The order of what stands on a row.
use Rattle.std.proofs.Common.{◌≡◌, ℕ, ◌<◌, true, false, filter, ◌||◌, List, [], ◌∷◌, ap, ◌∙◌, arith, inl, ◌⊎◌, Option, Some, None}
use Rattle.std.specs.List.{AllByRecursion}
use Rattle.board_rows.proofs.Words.{Xid, same_xid, row_of, changes_of, Commit, DeedAt, without, EachPair, IsFree, on, shown, on_row, deeds_in, seen_at, IsOver, Ordered, IsMade}
use Rattle.board_rows.proofs.Lists.{cases, pair_map, all_map}
use Rattle.board_rows.proofs.Shown.{NoneOn, Ahead, none-shown, shown-alike, on_row-all, on_row-of_xid}
use Rattle.board_rows.proofs.Table.{OneMore, IsClear}

pub same_xid-sym : (x y : Xid) → same_xid x y ≡ same_xid y x
same_xid-sym x y = grind arith

-- under a change of another stands nothing of a transaction that isn't committed
pub none-under : (k : ℕ) (x : Xid) (committed : Xid → Option ℕ) (m : DeedAt) (os : List DeedAt) → committed x ≡ None → same_xid m.xid x ≡ false → on k m ≡ true → AllByRecursion (IsOver committed m) os → NoneOn k (same_xid x) os
none-under k x committed m os new other a = all_map _ _ os one
  where
    one : (o : DeedAt) → IsOver committed m o → on k o ≡ true → same_xid x o.xid ≡ false
    one o over b = grind (arith, cases)

-- what isn't committed is ahead of what is
pub Ordered-ahead : (k s : ℕ) (x : Xid) (committed : Xid → Option ℕ) (mods : List DeedAt) → committed x ≡ None → Ordered committed mods → Ahead k (same_xid x) (seen_at s committed) mods
Ordered-ahead k s x committed [] new h = tt
Ordered-ahead k s x committed (m ∷ mods) new h = (λ a p. none-under k x committed m mods new (grind (arith, cases)) a h.0, Ordered-ahead k s x committed mods new h.1)

-- a change over deeds of its own and of those that committed up to s
pub Ordered-changes : (committed : Xid → Option ℕ) (m : DeedAt) (mods : List DeedAt) (s : ℕ) → s < m.scn → AllByRecursion (IsFree committed s m.xid (row_of m.deed)) mods → Ordered committed mods → Ordered committed (m ∷ mods)
Ordered-changes committed m mods s lt free h = (all_map _ _ mods one free, h)
  where
    one : (o : DeedAt) → IsFree committed s m.xid (row_of m.deed) o → IsOver committed m o
    one o f = grind (arith, cases)

-- one more commit
over-committed : (x : Xid) (c : ℕ) (old now : Xid → Option ℕ) (m o : DeedAt) → OneMore x c old now → IsOver old m o → IsOver now m o
over-committed x c old now m o more f = grind (arith, cases, more.is o.xid, more.new)

pub Ordered-committed : (x : Xid) (c : ℕ) (old now : Xid → Option ℕ) (mods : List DeedAt) → OneMore x c old now → Ordered old mods → Ordered now mods
Ordered-committed x c old now mods more = pair_map _ _ mods (λ m o f. over-committed x c old now m o more f)

pub all_without : (P : DeedAt → Type 0) (x : Xid) (seq row : ℕ) (mods : List DeedAt) → AllByRecursion P mods → AllByRecursion P (without x seq row mods)
all_without P x seq row [] h = tt
all_without P x seq row (m ∷ mods) h = grind (arith, all_without P x seq row mods)

-- what holds of each pair does where one is taken back
pub pair_without : (R : DeedAt → DeedAt → Type 0) (x : Xid) (seq row : ℕ) (mods : List DeedAt) → EachPair R mods → EachPair R (without x seq row mods)
pair_without R x seq row [] h = tt
pair_without R x seq row (m ∷ mods) h = grind (arith, pair_without R x seq row mods h.1, all_without (R m) x seq row mods h.0)

-- and where it holds of each pair on a row, and of what is on two rows
pub pair_from : (R : DeedAt → DeedAt → Type 0) → ((m o : DeedAt) → on (row_of m.deed) o ≡ false → R m o) → (mods : List DeedAt) → ((k : ℕ) → EachPair R (filter (on k) mods)) → EachPair R mods
pair_from R apart [] h = tt
pair_from R apart (m ∷ mods) h = (all mods (head (h (row_of m.deed))), pair_from R apart mods (λ k. tail k (h k)))
  where
    tail : (k : ℕ) → EachPair R (filter (on k) (m ∷ mods)) → EachPair R (filter (on k) mods)
    tail k g = grind arith

    head : EachPair R (filter (on (row_of m.deed)) (m ∷ mods)) → AllByRecursion (R m) (filter (on (row_of m.deed)) mods)
    head g = grind (arith, cases)

    all : (os : List DeedAt) → AllByRecursion (R m) (filter (on (row_of m.deed)) os) → AllByRecursion (R m) os
    all [] g = tt
    all (o ∷ os) g = grind (arith, apart m o, all os)

-- of one that isn't committed and one that is, one has nothing on the row, or the commit is below the other's deeds
holder-under : (k : ℕ) (x y : Xid) (d : ℕ) (committed : Xid → Option ℕ) (m : DeedAt) (os : List DeedAt) → committed x ≡ None → committed y ≡ Some d → on k m ≡ true → x ≡ m.xid → AllByRecursion (IsOver committed m) os → NoneOn k (same_xid y) os ⊎ (d < m.scn)
holder-under k x y d committed m [] new has a is over = inl tt
holder-under k x y d committed m (o ∷ os) new has a is over = grind (arith, cases, holder-under k x y d committed m os new has a is over.1)

apart-or-below : (k : ℕ) (x y : Xid) (c d : ℕ) (committed : Xid → Option ℕ) (mods : List DeedAt) → committed x ≡ None → committed y ≡ Some d → Ordered committed mods → AllByRecursion (λ m. same_xid x m.xid ≡ true → m.scn < c) mods
    → NoneOn k (same_xid x) mods ⊎ (NoneOn k (same_xid y) mods ⊎ (d < c))
apart-or-below k x y c d committed [] new has h low = inl tt
apart-or-below k x y c d committed (m ∷ mods) new has h low =
    grind (arith, cases, apart-or-below k x y c d committed mods new has h.1 low.1, holder-under k x y d committed m mods new has, none-under k x committed m mods new)

-- the commit that becomes durable is clear of each of the history
pub clear-of : (x : Xid) (a : Commit) (committed : Xid → Option ℕ) (mods : List DeedAt) (b : Commit) → committed x ≡ None → ((k : ℕ) → on_row k a.changes ≡ changes_of (shown k (same_xid x) mods)) → Ordered committed mods
    → AllByRecursion (λ m. same_xid x m.xid ≡ true → m.scn < a.commit_scn) mods → IsMade committed mods b → IsClear a b
clear-of x a committed mods b new same order low made k =
    grind (arith, cases, apart-or-below k x b.xid a.commit_scn b.commit_scn committed mods new made.0 order low, same k, none-shown k (same_xid x) mods, none-shown k (same_xid b.xid) mods, ap (on_row k) made.1 ∙ on_row-of_xid k b.xid mods)

-- below a change of x, all on its row is of x or committed
pub all-seen : (k s : ℕ) (x : Xid) (committed : Xid → Option ℕ) (mods : List DeedAt) → AllByRecursion (IsFree committed s x k) mods → on_row k (changes_of (deeds_in mods)) ≡ changes_of (shown k (λ y. same_xid x y || seen_at s committed y) mods)
all-seen k s x committed mods free = on_row-all k mods ∙ ap changes_of (shown-alike k _ _ mods (all_map _ _ mods one free))
  where
    one : (m : DeedAt) → IsFree committed s x k m → on k m ≡ true → true ≡ (same_xid x m.xid || seen_at s committed m.xid)
    one m free a = grind (arith, cases)
