-- What stands under a deed of an open transaction is free; so the newest deed on a row decides.
use Rattle.std.proofs.Common.{◌≡◌, ℕ, ◌<◌, ◌≤◌, true, List, [], ◌∷◌, sym, arith, Option, Some, IsSomeAnd}
use Rattle.std.specs.List.{AllByRecursion}
use Rattle.std.proofs.lemmas.Bool.{eqb-true}
use Rattle.board_rows.proofs.Words.{Xid, same_xid, row_of, same_xid-refl, same_xid-true, DeedAt, Record, stands, Fresh, stage, EachSuffix, on, IsOver, Ordered, IsFree, NewestIsFree, FreeUnder}
use Rattle.board_rows.proofs.Lists.{cases, pair_map, all_of, all_map}
use Rattle.board_rows.proofs.Table.{OneMore}
use Rattle.board_rows.proofs.LateSteps.{all-used}

-- a deed is below its commit
abbrev pub IsUnder : (Xid → Option ℕ) → DeedAt → Type 0
IsUnder committed m = (c : ℕ) → committed m.xid ≡ Some c → m.scn < c

free-up : (committed : Xid → Option ℕ) (s t : ℕ) (x : Xid) (k : ℕ) (o : DeedAt) → s ≤ t → IsFree committed s x k o → IsFree committed t x k o
free-up committed s t x k o le f = grind arith

-- under a deed of one that has committed up to s all on the row are
under-committed : (committed : Xid → Option ℕ) (s : ℕ) (x : Xid) (k : ℕ) (m : DeedAt) (mods : List DeedAt) → on k m ≡ true → IsUnder committed m → IsSomeAnd (committed m.xid) (λ c. c ≤ s) → AllByRecursion (IsOver committed m) mods → AllByRecursion (IsFree committed s x k) mods
under-committed committed s x k m mods a under low = all_map _ _ mods one
  where
    one : (o : DeedAt) → IsOver committed m o → IsFree committed s x k o
    one o over b = grind (arith, cases)

-- the newest deed decides
pub all-free : (committed : Xid → Option ℕ) (s : ℕ) (x : Xid) (k : ℕ) (mods : List DeedAt) → AllByRecursion (IsUnder committed) mods → Ordered committed mods → FreeUnder committed s x mods → NewestIsFree committed s x k mods → AllByRecursion (IsFree committed s x k) mods
all-free committed s x k [] low order under newest = tt
all-free committed s x k (m ∷ mods) low order under newest = (newest.0, grind (arith, cases, own, all-free committed s x k mods low.1 order.1 under.1, under-committed committed s x k m mods))
  where
    own : on k m ≡ true → m.xid ≡ x → AllByRecursion (IsFree committed s x k) mods
    own a e = rw (eqb-true (row_of m.deed) k a) at (all_map _ (IsFree committed s x (row_of m.deed)) mods (λ o f. f (rw e (same_xid-refl x))) under.0)

pub under-fresh : (committed : Xid → Option ℕ) (s : ℕ) (x : Xid) (recs : List Record) (mods : List DeedAt) → stage x recs ≡ Fresh → AllByRecursion (λ m. stage m.xid recs ≡ Fresh → ⊥) mods → FreeUnder committed s x mods
under-fresh committed s x recs [] e h = tt
under-fresh committed s x recs (m ∷ mods) e h = (all_of _ mods (λ o f. absurd (h.0 (rw (sym (same_xid-true x m.xid f)) e))), under-fresh committed s x recs mods e h.1)

pub under-up : (committed : Xid → Option ℕ) (s t : ℕ) (x : Xid) (mods : List DeedAt) → s ≤ t → FreeUnder committed s x mods → FreeUnder committed t x mods
under-up committed s t x mods le = pair_map _ _ mods (λ m o f e. free-up committed s t x (row_of m.deed) o le (f e))

pub under-committed-more : (y : Xid) (c : ℕ) (old now : Xid → Option ℕ) (s : ℕ) (x : Xid) (mods : List DeedAt) → OneMore y c old now → FreeUnder old s x mods → FreeUnder now s x mods
under-committed-more y c old now s x mods more = pair_map _ _ mods free-more
  where
    free-more : (m o : DeedAt) → (same_xid x m.xid ≡ true → IsFree old s x (row_of m.deed) o) → same_xid x m.xid ≡ true → IsFree now s x (row_of m.deed) o
    free-more m o f e a = grind (arith, cases, more.is o.xid, more.new)

-- of a fresh transaction nothing stands on any earlier board
pub under-fresh-all : (committed : Xid → Option ℕ) (s : ℕ) (x : Xid) (recs : List Record) → stage x recs ≡ Fresh → EachSuffix (λ older. FreeUnder committed s x (stands older)) recs
under-fresh-all committed s x [] e = tt
under-fresh-all committed s x (r ∷ recs) e = (under-fresh committed s x (r ∷ recs) (stands (r ∷ recs)) e (all-used (r ∷ recs)), under-fresh-all committed s x recs (before r e))
  where
    before : (r : Record) → stage x (r ∷ recs) ≡ Fresh → stage x recs ≡ Fresh
    before r e = grind arith
