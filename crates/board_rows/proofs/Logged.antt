-- The history of the journal is that of the logs.
use Rattle.std.proofs.Common.{◌≡◌, ◌≢◌, ℕ, ◌<◌, ◌≤◌, Bool, true, false, cond, leb, List, [], ◌∷◌, ◌++◌, refl, sym, ap, arith, inl, inr, Some}
use Rattle.std.specs.List.{AllByRecursion, filter}
use Rattle.std.proofs.lemmas.Bool.Decides.{nat_tests}
use Rattle.board_rows.proofs.Words.{Xid, Commit, entered, same_xid-refl, Record, Does, TakesBack, Commits, RollsBack, thread_of, scn_of, stands, of_xid, Over, stage, Rising, commit_of, logged, put, Follows}
use Rattle.board_rows.proofs.Lists.{cases, all_map, all_append}
use Rattle.board_rows.proofs.ClockSteps.{put-here}
use Rattle.board_rows.proofs.TxnSteps.{stops}
use Rattle.board_rows.proofs.TxnSettles.{IsPlaced}
use Rattle.board_rows.proofs.Losses.{after-of_xid, after-stage, Kept, AllKept, lost-is, of_xid-kept}

-- commits of two instances enter in either order
pub entered-swap : (a b : Commit) → a.inst ≢ b.inst → (commits : List Commit) → entered a (entered b commits) ≡ entered b (entered a commits)
entered-swap a b differ [] = grind (arith, cases)
entered-swap a b differ (d ∷ commits) = grind (arith, cases, entered-swap a b differ commits)

-- a commit's record is on the disk before as after
abbrev SameDurable : (ℕ → ℕ) → (ℕ → ℕ) → Record → Type 0
SameDurable old now (Commits c x) = leb c (now x.seg) ≡ leb c (old x.seg)
SameDurable old now _ = Unit {0}

logged-same : (old now : ℕ → ℕ) (recs : List Record) → AllByRecursion (SameDurable old now) recs → logged now recs ≡ logged old recs
logged-same old now [] h = refl
logged-same old now (r ∷ recs) h = grind (arith, logged-same old now recs)

module _ (durable : ℕ → ℕ) (r : Record) (new : durable (thread_of r) < scn_of r) where
  abbrev now : ℕ → ℕ
  now = put durable (thread_of r) (scn_of r)

  -- of the other records none becomes durable
  same-durable : (o : Record) → (o ≡ r → ⊥) → IsPlaced (durable (thread_of r)) r o → SameDurable durable now o
  same-durable r other h = grind arith

  pub logged-quiet : (recs : List Record) → AllByRecursion (IsPlaced (durable (thread_of r)) r) recs → ((e : ℕ) (y : Xid) → Commits e y ≡ r → ⊥) → logged now recs ≡ logged durable recs
  logged-quiet recs placed never = logged-same durable now recs (all_map (IsPlaced (durable (thread_of r)) r) (SameDurable durable now) recs one placed)
    where
      one : (o : Record) → IsPlaced (durable (thread_of r)) r o → SameDurable durable now o
      one (Commits c x) h = same-durable (Commits c x) (never c x) h
      one _ h = tt

-- after its commit nothing changes of a transaction
pub stands-over : (c : ℕ) (x : Xid) (newer there : List Record) → Follows (newer ++ Commits c x ∷ there) → (stage x (newer ++ Commits c x ∷ there) ≡ Over (Some c)) × (of_xid x (stands (newer ++ Commits c x ∷ there)) ≡ of_xid x (stands there))
stands-over c x [] there f = (rw (same_xid-refl x) refl, refl)
stands-over c x (o ∷ newer) there f = grind (arith, cases, stops, after-stage, after-of_xid, stands-over c x newer there f.1)

module _ (durable : ℕ → ℕ) (c : ℕ) (x : Xid) (new : durable x.seg < c) where
  abbrev now2 : ℕ → ℕ
  now2 = put durable x.seg c

  -- the commit that becomes durable enters the history
  pub logged-commit : (newer there : List Record) → Rising (newer ++ Commits c x ∷ there) → AllByRecursion (λ o. thread_of o ≡ x.seg → scn_of o ≤ durable x.seg) there
      → logged now2 (newer ++ Commits c x ∷ there) ≡ entered (commit_of c x there) (logged durable (newer ++ Commits c x ∷ there))
  logged-commit [] there rising first =
      let on : leb c (put durable x.seg c x.seg) ≡ true = (let at_c = put-here durable x.seg c in grind (arith, nat_tests, at_c)) in
      let off : leb c (durable x.seg) ≡ false = grind (arith, nat_tests, new) in
      rw (on, off) (ap (entered (commit_of c x there)) (logged-same durable now2 there (all_map (λ o. thread_of o ≡ x.seg → scn_of o ≤ durable x.seg) (SameDurable durable now2) there (λ o h. same-durable durable (Commits c x) new o (λ e. (let le = h (ap thread_of e) in let same = ap scn_of e in omega (arith, le, same, new))) (λ e. inl (h e))) first)))
  logged-commit (o ∷ newer) there rising first = here o rising.0 (logged-commit newer there rising.1 first)
    where
      rest : List Record
      rest = newer ++ Commits c x ∷ there

      here : (o : Record) → AllByRecursion (λ p. thread_of p ≡ thread_of o → scn_of p < scn_of o) rest → logged now2 rest ≡ entered (commit_of c x there) (logged durable rest) → logged now2 (o ∷ rest) ≡ entered (commit_of c x there) (logged durable (o ∷ rest))
      here (Does d y seq deed) above ih = ih
      here (TakesBack j d y seq row) above ih = ih
      here (RollsBack j d y) above ih = ih
      here (Commits d y) above ih =
          let up = (all_append (λ p. thread_of p ≡ y.seg → scn_of p < d) newer (Commits c x ∷ there) above).1.0 in
          let same = same-durable durable (Commits c x) new (Commits d y) (λ e. (let lt = up (sym (ap thread_of e)) in let eq = ap scn_of e in omega (arith, lt, eq))) (λ e. inr (inr (up (sym e)))) in
          rw (same, ih) (go (leb d (durable y.seg)) refl up)
        where
          go : (t : Bool) → leb d (durable y.seg) ≡ t → (x.seg ≡ y.seg → c < d) → cond t (entered (commit_of d y rest) (entered (commit_of c x there) (logged durable rest))) (entered (commit_of c x there) (logged durable rest)) ≡ entered (commit_of c x there) (cond t (entered (commit_of d y rest) (logged durable rest)) (logged durable rest))
          go false e up = refl
          go true e up = entered-swap (commit_of d y rest) (commit_of c x there) (λ same. (let lt = up (sym same) in let low : d ≤ durable y.seg = grind (arith, nat_tests, e) in let at_x : d ≤ durable x.seg = rw (sym same) low in omega (arith, lt, at_x, new))) (logged durable rest)

-- a loss leaves what the logs tell, where the records of a transaction with a durable commit are all kept
module _ (i kept : ℕ) (durable : ℕ → ℕ) (lasts : durable i ≤ kept) (P : Xid → Type 0) where
  abbrev pub IsTold : Record → Type 0
  IsTold (Commits c x) = c ≤ durable x.seg → P x
  IsTold _ = Unit {0}

  pub logged-loses : (recs : List Record) → ((x : Xid) → P x → AllKept i kept x recs) → AllByRecursion IsTold recs → logged durable (filter (Kept i kept) recs) ≡ logged durable recs
  logged-loses [] whole told = refl
  logged-loses (r ∷ recs) whole told = grind (arith, cases, Kept, AllKept, of_xid-kept, lost-is, logged-loses recs (λ x p. (whole x p).1) told.1)
