-- The deeds on a row that are seen.
use Rattle.board_rows.proofs.Lists.{cases}
use Rattle.std.proofs.Common.{◌≡◌, ℕ, Bool, true, false, ◌||◌, ◌==◌, List, [], ◌∷◌, ◌++◌, refl, ap, ◌∙◌, arith}
use Rattle.std.specs.List.{AllByRecursion}
use Rattle.board_rows.proofs.Words.{Xid, same_xid, Deed, changes_of, DeedAt, Record, stands, without, xid_of, touches, of_xid, on, shown, on_row, deeds_in}
use Rattle.board_rows.proofs.Lists.{cases, all_of}

-- none of these is on the row
abbrev pub NoneOn : ℕ → (Xid → Bool) → List DeedAt → Type 0
NoneOn k test mods = AllByRecursion (λ m. on k m ≡ true → test m.xid ≡ false) mods

-- on row k, what q tells is newer than what p tells
abbrev pub Ahead : ℕ → (Xid → Bool) → (Xid → Bool) → List DeedAt → Type 0
Ahead k q p [] = Unit {0}
Ahead k q p (m ∷ mods) = (on k m ≡ true → p m.xid ≡ true → NoneOn k q mods) × Ahead k q p mods

pub shown-none : (k : ℕ) (q p : Xid → Bool) (mods : List DeedAt) → NoneOn k q mods → shown k (λ y. q y || p y) mods ≡ shown k p mods
shown-none k q p [] h = refl
shown-none k q p (m ∷ mods) h = grind (arith, shown-none k q p mods h.1)

pub none-shown : (k : ℕ) (q : Xid → Bool) (mods : List DeedAt) → NoneOn k q mods → shown k q mods ≡ []
none-shown k q [] h = refl
none-shown k q (m ∷ mods) h = grind (arith, none-shown k q mods h.1)

-- what is ahead comes first
pub shown-or : (k : ℕ) (q p : Xid → Bool) (mods : List DeedAt) → ((y : Xid) → q y ≡ true → p y ≡ false) → Ahead k q p mods → shown k (λ y. q y || p y) mods ≡ shown k q mods ++ shown k p mods
shown-or k q p [] apart h = refl
shown-or k q p (m ∷ mods) apart h = grind (arith, cases, none-shown, shown-none, shown-or k q p mods apart h.1)

-- tests that agree on what is on the row
pub shown-alike : (k : ℕ) (p q : Xid → Bool) (mods : List DeedAt) → AllByRecursion (λ m. on k m ≡ true → p m.xid ≡ q m.xid) mods → shown k p mods ≡ shown k q mods
shown-alike k p q [] h = refl
shown-alike k p q (m ∷ mods) h = grind (arith, shown-alike k p q mods h.1)

pub shown-same : (k : ℕ) (p q : Xid → Bool) (mods : List DeedAt) → ((y : Xid) → p y ≡ q y) → shown k p mods ≡ shown k q mods
shown-same k p q mods h = shown-alike k p q mods (all_of (λ m. on k m ≡ true → p m.xid ≡ q m.xid) mods (λ m _. h m.xid))

-- one more that isn't seen
pub shown-hidden : (k : ℕ) (p : Xid → Bool) (m : DeedAt) (mods : List DeedAt) → (on k m ≡ true → p m.xid ≡ false) → shown k p (m ∷ mods) ≡ shown k p mods
shown-hidden k p m mods h = grind arith

-- taking back what isn't seen, or is on another row
pub shown-without : (k : ℕ) (p : Xid → Bool) (x : Xid) (seq row : ℕ) (mods : List DeedAt) → ((row == k) ≡ true → p x ≡ false) → shown k p (without x seq row mods) ≡ shown k p mods
shown-without k p x seq row [] h = refl
shown-without k p x seq row (m ∷ mods) h = grind (arith, shown-without k p x seq row mods h)

-- a later record of a transaction that isn't seen changes nothing of what is seen
pub shown-later : (k : ℕ) (p : Xid → Bool) (newer there : List Record) → AllByRecursion (λ r. touches k r ≡ true → p (xid_of r) ≡ false) newer → shown k p (stands (newer ++ there)) ≡ shown k p (stands there)
shown-later k p [] there h = refl
shown-later k p (r ∷ newer) there h = grind (arith, cases, shown-hidden, stands, shown-without, shown-later k p newer)

-- the changes among deeds
pub changes_of-append : (xs ys : List Deed) → changes_of (xs ++ ys) ≡ changes_of xs ++ changes_of ys
changes_of-append [] ys = refl
changes_of-append (d ∷ xs) ys = grind (arith, changes_of-append xs ys)

-- the changes on a row are those of the deeds on it
pub on_row-all : (k : ℕ) (mods : List DeedAt) → on_row k (changes_of (deeds_in mods)) ≡ changes_of (shown k (λ y. true) mods)
on_row-all k [] = refl
on_row-all k (m ∷ mods) = grind (arith, on_row-all k mods)

-- what stands of x on a row
pub shown-of_xid : (k : ℕ) (x : Xid) (mods : List DeedAt) → shown k (λ y. true) (of_xid x mods) ≡ shown k (same_xid x) mods
shown-of_xid k x [] = refl
shown-of_xid k x (m ∷ mods) = grind (arith, shown-of_xid k x mods)

pub on_row-of_xid : (k : ℕ) (x : Xid) (mods : List DeedAt) → on_row k (changes_of (deeds_in (of_xid x mods))) ≡ changes_of (shown k (same_xid x) mods)
on_row-of_xid k x mods = on_row-all k (of_xid x mods) ∙ ap changes_of (shown-of_xid k x mods)

-- what is shown on a row is on it
pub on_row-shown : (k : ℕ) (test : Xid → Bool) (mods : List DeedAt) → on_row k (changes_of (shown k test mods)) ≡ changes_of (shown k test mods)
on_row-shown k test [] = refl
on_row-shown k test (m ∷ mods) = grind (arith, on_row-shown k test mods)
