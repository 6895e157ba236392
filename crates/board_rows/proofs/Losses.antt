-- What a loss leaves of the board.
use Rattle.board_rows.proofs.Lists.{cases}
use Rattle.std.proofs.Common.{◌≡◌, ◌≢◌, ℕ, ◌<◌, ◌≤◌, Bool, true, false, ◌==◌, leb, List, [], ◌∷◌, refl, sym, arith, inr, Option, Some}
use Rattle.std.specs.List.{AllByRecursion, filter}
use Rattle.std.proofs.lemmas.Bool.{eq-eqb}
use Rattle.std.proofs.lemmas.Bool.Decides.{nat_tests}
use Rattle.board_rows.proofs.Words.{Xid, same_xid, same_xid-true, EachPair, Record, Commits, DeedAt, thread_of, scn_of, xid_of, without, stands_after, stands, of_xid, Fresh, Over, stage, Rising, is_kept, AreNear, LosesNewest, Follows}
use Rattle.board_rows.proofs.Lists.{cases, pair_both, all_map, all_of}
use Rattle.board_rows.proofs.RowSteps.{of_xid-without}
use Rattle.board_rows.proofs.TxnSteps.{stops}
use Rattle.board_rows.proofs.LateSteps.{all-used}

-- nothing stands of a fresh transaction
pub fresh-none : (x : Xid) (recs : List Record) → stage x recs ≡ Fresh → of_xid x (stands recs) ≡ []
fresh-none x recs e = go (stands recs) (all-used recs)
  where
    go : (mods : List DeedAt) → AllByRecursion (λ m. stage m.xid recs ≡ Fresh → ⊥) mods → of_xid x mods ≡ []
    go [] h = refl
    go (m ∷ mods) h = grind (arith, cases, go mods)

-- a record of another changes nothing of a transaction
pub after-of_xid : (x : Xid) (r : Record) (mods : List DeedAt) → same_xid x (xid_of r) ≡ false → of_xid x (stands_after r mods) ≡ of_xid x mods
after-of_xid x r mods e = grind (arith, cases, of_xid-without)

pub after-stage : (x : Xid) (r : Record) (recs : List Record) → same_xid x (xid_of r) ≡ false → stage x (r ∷ recs) ≡ stage x recs
after-stage x r recs e = grind arith

-- a step back of x takes it from what stands of x
pub of_xid-back : (x : Xid) (seq row : ℕ) (mods : List DeedAt) → of_xid x (without x seq row mods) ≡ without x seq row (of_xid x mods)
of_xid-back x seq row [] = refl
of_xid-back x seq row (m ∷ mods) = grind (arith, of_xid-back x seq row mods)

-- under a record that is kept, what is near it is kept
abbrev pub KeepsUnder : ℕ → ℕ → List Record → Type 0
KeepsUnder i kept = EachPair (λ r o. is_kept i kept r ≡ true → AreNear r o → is_kept i kept o ≡ true)

module _ (i kept : ℕ) where
  abbrev pub Kept : Record → Bool
  Kept r = is_kept i kept r

  pub kept-other : (r : Record) → (thread_of r == i) ≡ false → Kept r ≡ true
  kept-other r e = rw e refl

  pub kept-low : (r : Record) → scn_of r ≤ kept → Kept r ≡ true
  kept-low r le = grind arith

  pub kept-back : (r : Record) → Kept r ≡ true → thread_of r ≡ i → scn_of r ≤ kept
  kept-back r k e = let low : leb (scn_of r) kept ≡ true = rw (eq-eqb (thread_of r) i e) at k in grind (arith, nat_tests, low)

  pub lost-is : (r : Record) → Kept r ≡ false → (thread_of r ≡ i) × (kept < scn_of r)
  lost-is r h = grind arith

  -- what is older in the thread of a record that is kept is kept
  pub kept-older : (r o : Record) → Kept r ≡ true → scn_of o < scn_of r → thread_of r ≡ i → Kept o ≡ true
  kept-older r o k lt e = let low = kept-back r k e in kept-low o (omega arith)

  pub older-kept : (r o : Record) → Kept r ≡ true → (thread_of o ≡ thread_of r → scn_of o < scn_of r) → thread_of o ≡ thread_of r → Kept o ≡ true
  older-kept r o k f e = grind arith

  pub keeps-under : (recs : List Record) → Rising recs → LosesNewest i kept recs → KeepsUnder i kept recs
  keeps-under recs = pair_both _ _ _ recs one
    where
      one : (r o : Record) → (thread_of o ≡ thread_of r → scn_of o < scn_of r) → (thread_of r ≢ i → AreNear r o → Kept o ≡ true) → Kept r ≡ true → AreNear r o → Kept o ≡ true
      one r o rises loses k near = grind (arith, cases)

  -- all records of a transaction are kept
  abbrev pub AllKept : Xid → List Record → Type 0
  AllKept x recs = AllByRecursion (λ r. same_xid x (xid_of r) ≡ true → Kept r ≡ true) recs

  -- what vanishes is of another
  lost-other : (x : Xid) (r : Record) → (same_xid x (xid_of r) ≡ true → Kept r ≡ true) → Kept r ≡ false → (t : Bool) → same_xid x (xid_of r) ≡ t → t ≡ false
  lost-other x r kept off t e = grind arith

  pub stage-kept : (x : Xid) (recs : List Record) → AllKept x recs → stage x (filter Kept recs) ≡ stage x recs
  stage-kept x [] h = refl
  stage-kept x (r ∷ recs) h = grind (arith, stage-kept x recs h.1)

  pub of_xid-kept : (x : Xid) (recs : List Record) → AllKept x recs → of_xid x (stands (filter Kept recs)) ≡ of_xid x (stands recs)
  of_xid-kept x [] h = refl
  of_xid-kept x (r ∷ recs) h = grind (arith, cases, of_xid-without, of_xid-back, after-of_xid, lost-other, of_xid-kept x recs h.1)

  -- the records of a transaction in its own thread are kept
  abbrev pub OwnKept : Xid → List Record → Type 0
  OwnKept x recs = AllByRecursion (λ r. same_xid x (xid_of r) ≡ true → thread_of r ≡ x.seg → Kept r ≡ true) recs

  pub own-other : (x : Xid) (recs : List Record) → (x.seg == i) ≡ false → OwnKept x recs
  own-other x recs off = all_of (λ r. same_xid x (xid_of r) ≡ true → thread_of r ≡ x.seg → Kept r ≡ true) recs (λ r e t. kept-other r (rw t off))

  pub fresh-kept : (x : Xid) (recs : List Record) → Follows recs → OwnKept x recs → stage x (filter Kept recs) ≡ Fresh → stage x recs ≡ Fresh
  fresh-kept x [] f h e = refl
  fresh-kept x (r ∷ recs) f h e = grind (arith, fresh-kept x recs)

  -- an end that is there after the loss was there before
  pub over-kept : (x : Xid) (o : Option ℕ) (recs : List Record) → Follows recs → stage x (filter Kept recs) ≡ Over o → stage x recs ≡ Over o
  over-kept x o [] f e = (cc)
  over-kept x o (r ∷ recs) f e = grind (arith, cases, over-kept x o recs f.1)

  -- under a record that is kept all of its transaction is kept
  near-xid : (x : Xid) (r : Record) (recs : List Record) → same_xid x (xid_of r) ≡ true → Kept r ≡ true → AllByRecursion (λ o. Kept r ≡ true → AreNear r o → Kept o ≡ true) recs → AllKept x recs
  near-xid x r recs e k = all_map _ _ recs (λ o f g. f k (inr (rw (sym (same_xid-true x (xid_of r) e)) g)))

  -- all records of a transaction whose end is kept are kept
  pub ended-whole : (x : Xid) (o : Option ℕ) (recs : List Record) → KeepsUnder i kept recs → Follows recs → stage x (filter Kept recs) ≡ Over o → AllKept x recs
  ended-whole x o [] l f e = tt
  ended-whole x o (r ∷ recs) l f e = grind (arith, cases, near-xid, after-stage, stops, over-kept, ended-whole x o recs l.1 f.1)

  pub commit-whole : (x : Xid) (c : ℕ) (recs : List Record) → KeepsUnder i kept recs → Follows recs → stage x recs ≡ Over (Some c) → Kept (Commits c x) ≡ true → AllKept x recs
  commit-whole x c [] l f e k = tt
  commit-whole x c (r ∷ recs) l f e k = grind (arith, cases, after-stage, stops, near-xid, commit-whole x c recs)

  pub follows-kept : (recs : List Record) → KeepsUnder i kept recs → Follows recs → Follows (filter Kept recs)
  follows-kept [] l f = tt
  follows-kept (r ∷ recs) l f = grind (arith, cases, stage-kept (xid_of r) recs, near-xid (xid_of r) r recs, follows-kept recs)
