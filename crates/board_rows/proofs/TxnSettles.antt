-- The clauses on transactions are kept where the first record of a thread that isn't durable becomes so.
use Rattle.std.proofs.Common.{◌≡◌, ℕ, ◌<◌, ◌≤◌, Bool, true, false, cond, ◌&&◌, ◌||◌, ◌==◌, List, [], ◌∷◌, ◌++◌, refl, sym, ◌∙◌, subst, arith, inl, inr, ◌⊎◌, Option, Some, None}
use Rattle.std.specs.List.{AllByRecursion}
use Rattle.board_rows.proofs.Words.{Xid, same_xid, Change, Deed, same_xid-true, Record, Commits, thread_of, scn_of, xid_of, Stage, Fresh, Active, Over, stage, durable_commit, Rising, put, Txns, EndsBy, RecordIsIn}
use Rattle.board_rows.proofs.Lists.{all_map, all_append, cases}
use Rattle.board_rows.proofs.ClockSteps.{put-rises}
use Rattle.board_rows.proofs.TxnSteps.{stage-commit}

-- a record of a thread is durable, or the one that becomes so, or above it
abbrev pub IsPlaced : ℕ → Record → Record → Type 0
IsPlaced upto r o = thread_of o ≡ thread_of r → (scn_of o ≤ upto) ⊎ ((o ≡ r) ⊎ (scn_of r < scn_of o))

pub all-placed : (upto : ℕ) (newer : List Record) (r : Record) (there : List Record) → Rising (newer ++ r ∷ there) → AllByRecursion (λ o. thread_of o ≡ thread_of r → scn_of o ≤ upto) there → AllByRecursion (IsPlaced upto r) (newer ++ r ∷ there)
all-placed upto [] r there rising first = ((λ _. inr (inl refl)), all_map (λ o. thread_of o ≡ thread_of r → scn_of o ≤ upto) (IsPlaced upto r) there (λ o f e. inl (f e)) first)
all-placed upto (o ∷ newer) r there rising first =
    let above = (all_append (λ p. thread_of p ≡ thread_of o → scn_of p < scn_of o) newer (r ∷ there) rising.0).1.0 in
    ((λ e. inr (inr (above (sym e)))), all-placed upto newer r there rising.1 first)

-- what the journal tells of a transaction's commit once a record is durable
abbrev pub settles_to : Record → Xid → Option ℕ → Option ℕ
settles_to (Commits c x) y before = cond (same_xid y x) (Some c) before
settles_to _ y before = before

-- it is that of its stage, where this record is the first of its thread that wasn't durable
settled-stage : (durable : ℕ → ℕ) (r : Record) (y : Xid) (st : Stage) (before : Option ℕ) → before ≡ durable_commit (durable y.seg) st → (same_xid y (xid_of r) ≡ true → EndsBy st r) → durable (thread_of r) < scn_of r → ((e : ℕ) → st ≡ Over (Some e) → IsPlaced (durable (thread_of r)) r (Commits e y))
    → settles_to r y before ≡ durable_commit (put durable (thread_of r) (scn_of r) y.seg) st
settled-stage durable r y Fresh before is ends new placed = grind (arith, cases)
settled-stage durable r y Active before is ends new placed = grind (arith, cases)
settled-stage durable r y (Over None) before is ends new placed = grind (arith, cases)
settled-stage durable r y (Over (Some e)) before is ends new placed = at_commit r is ends new (placed e refl)
  where
    at_commit : (r : Record) → before ≡ durable_commit (durable y.seg) (Over (Some e)) → (same_xid y (xid_of r) ≡ true → EndsBy (Over (Some e)) r) → durable (thread_of r) < scn_of r → IsPlaced (durable (thread_of r)) r (Commits e y)
        → settles_to r y before ≡ durable_commit (put durable (thread_of r) (scn_of r) y.seg) (Over (Some e))
    at_commit r is ends new placed = grind (arith, cases)

module _ {recs : List Record} {durable : ℕ → ℕ} {stand : Xid → List Deed} {live : Xid → Bool} {mark : Xid → ℕ → List Change} {has_mark : Xid → ℕ → Bool} {committed : Xid → Option ℕ} {has_commit : ℕ → ℕ → Bool}
    (txns : Txns recs durable stand live mark has_mark committed has_commit) where
  pub txns-settles : (newer : List Record) (r : Record) (there : List Record) (now : Xid → Option ℕ) (has_now : ℕ → ℕ → Bool) → recs ≡ newer ++ r ∷ there → durable (thread_of r) < scn_of r → AllByRecursion (λ o. thread_of o ≡ thread_of r → scn_of o ≤ durable (thread_of r)) there → Rising recs
      → ((y : Xid) → now y ≡ settles_to r y (committed y)) → ((c j : ℕ) → put durable (thread_of r) (scn_of r) j < c → has_now c j ≡ false)
      → Txns recs (put durable (thread_of r) (scn_of r)) stand live mark has_mark now has_now
  txns-settles newer r there now has_now place new first rising settled apart = record {
    each = λ y. record { active = (txns.each y).active; stands = (txns.each y).stands; marks = (txns.each y).marks; commits = settled y ∙ settled-stage durable r y (stage y recs) (committed y) (txns.each y).commits (ends y) new (λ e. stage-commit (IsPlaced (durable (thread_of r)) r) y e recs placed); rolled = (txns.each y).rolled };
    each_record = txns.each_record;
    follows = txns.follows;
    apart = apart;
  }
    where
      placed : AllByRecursion (IsPlaced (durable (thread_of r)) r) recs
      placed = subst (AllByRecursion (IsPlaced (durable (thread_of r)) r)) (sym place) (all-placed (durable (thread_of r)) newer r there (subst Rising place rising) first)

      ends : (y : Xid) → same_xid y (xid_of r) ≡ true → EndsBy (stage y recs) r
      ends y e = rw (same_xid-true y (xid_of r) e) (all_append (RecordIsIn recs live) newer (r ∷ there) (subst (AllByRecursion (RecordIsIn recs live)) place txns.each_record)).1.0.ends

  pub apart-quiet : (i d : ℕ) → durable i < d → (c j : ℕ) → put durable i d j < c → has_commit c j ≡ false
  apart-quiet i d up c j lt = txns.apart c j (let a = put-rises durable i d (omega arith) j in omega arith)

  pub apart-commit : (d : ℕ) (x : Xid) → durable x.seg < d → (c j : ℕ) → put durable x.seg d j < c → ((c == d && j == x.seg) || has_commit c j) ≡ false
  apart-commit d x up c j lt = grind arith

-- a record that is no commit tells nothing
pub settled-quiet : (r : Record) → ((e : ℕ) (y : Xid) → Commits e y ≡ r → ⊥) → (y : Xid) (before : Option ℕ) → before ≡ settles_to r y before
settled-quiet (Commits c x) never y before = absurd (never c x refl)
settled-quiet _ never y before = refl
