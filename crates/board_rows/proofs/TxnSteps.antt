-- The clauses on transactions are kept.
use Rattle.std.proofs.Common.{◌≡◌, ◌≢◌, ℕ, ◌-◌, ◌<◌, Bool, true, false, cond, ◌&&◌, ◌||◌, ◌==◌, List, [], ◌∷◌, length, drop, sym, ap, ◌∙◌, arith, inl, inr, ◌⊎◌, Option, Some, None}
use Rattle.std.specs.List.{AllByRecursion}
use Rattle.std.proofs.lemmas.List.{length-map}
use Rattle.board_rows.proofs.Words.{Xid, same_xid, Change, Deed, changes_of, Record, Does, TakesBack, Commits, RollsBack, DeedAt, without, of_xid, scn_of, xid_of, stands, Stage, Fresh, Active, Over, stage, durable_commit, deeds_in, MayFollow, Follows, Txns, TxnAgrees, RecordIsIn}
use Rattle.board_rows.proofs.Lists.{cases, all_map, all_both}
use Rattle.board_rows.proofs.RowSteps.{of_xid-without}

-- nothing follows an end
pub stops : (r : Record) (st : Stage) (o : Option ℕ) → MayFollow r st → st ≡ Over o → ⊥
stops r st o g e = grind arith

-- of a fresh transaction there is no record
pub fresh-apart : (x : Xid) (recs : List Record) → Follows recs → stage x recs ≡ Fresh → AllByRecursion (λ r. same_xid x (xid_of r) ≡ false) recs
fresh-apart x [] f e = tt
fresh-apart x (r ∷ recs) f e = grind (arith, cases, fresh-apart x recs f.1)

-- a commit is its record
pub stage-commit : (P : Record → Type 0) (y : Xid) (e : ℕ) (recs : List Record) → AllByRecursion P recs → stage y recs ≡ Over (Some e) → P (Commits e y)
stage-commit P y e [] h is = (cc)
stage-commit P y e (r ∷ recs) h is = grind (arith, stage-commit P y e recs)

-- a transaction that is open or has no record yet
abbrev pub MayGoOn : List Record → (Xid → Bool) → Xid → Type 0
MayGoOn recs live x = (live x ≡ true) ⊎ (stage x recs ≡ Fresh)

module _ {recs : List Record} {durable : ℕ → ℕ} {stand : Xid → List Deed} {live : Xid → Bool} {mark : Xid → ℕ → List Change} {has_mark : Xid → ℕ → Bool} {committed : Xid → Option ℕ} {has_commit : ℕ → ℕ → Bool}
    (txns : Txns recs durable stand live mark has_mark committed has_commit) where
  pub active-new : (x : Xid) → stage x recs ≡ Active → committed x ≡ None
  active-new x e = (txns.each x).commits ∙ ap (durable_commit (durable x.seg)) e

  pub goes-new : (x : Xid) → MayGoOn recs live x → committed x ≡ None
  goes-new x goes = grind (arith, txns.each x)

  active-open : (x : Xid) → stage x recs ≡ Active → (o : Option ℕ) → stage x recs ≢ Over o
  active-open x e o f = let bad : Active ≡ Over o = sym e ∙ f in cc

  goes-on : (c : ℕ) (x : Xid) (seq : ℕ) (deed : Deed) → MayGoOn recs live x → MayFollow (Does c x seq deed) (stage x recs)
  goes-on c x seq deed goes = grind (arith, txns.each x)

  -- a change or a lock
  pub txns-changes : (c : ℕ) (x : Xid) (seq : ℕ) (deed : Deed) → MayGoOn recs live x
      → Txns (Does c x seq deed ∷ recs) durable (λ y. cond (same_xid y x) (deed ∷ stand y) (stand y)) (λ y. cond (same_xid y x) true (live y)) mark has_mark committed has_commit
  txns-changes c x seq deed goes = record { each = each; each_record = (grind (arith, cases), rest goes); follows = (goes-on c x seq deed goes, txns.follows); apart = txns.apart }
    where
      each : (y : Xid) → TxnAgrees (stage y (Does c x seq deed ∷ recs)) (deeds_in (of_xid y (stands (Does c x seq deed ∷ recs)))) (cond (same_xid y x) (deed ∷ stand y) (stand y)) (cond (same_xid y x) true (live y)) (mark y) (has_mark y) (committed y) (durable y.seg)
      each y = grind (arith, cases, txns.each y, goes-new x goes)

      one : (r : Record) → (stage x recs ≡ Active) × (live x ≡ true) ⊎ (same_xid x (xid_of r) ≡ false) → RecordIsIn recs live r → RecordIsIn (Does c x seq deed ∷ recs) (λ y. cond (same_xid y x) true (live y)) r
      one r goes h = grind (arith, cases)

      rest : MayGoOn recs live x → AllByRecursion (RecordIsIn (Does c x seq deed ∷ recs) (λ y. cond (same_xid y x) true (live y))) recs
      rest (inl l) = all_map _ _ recs (λ r. one r (inl ((txns.each x).active l, l))) txns.each_record
      rest (inr f) = all_both _ _ _ recs (λ r off. one r (inr off)) (fresh-apart x recs txns.follows f) txns.each_record

  -- a step back
  pub txns-back : (i c : ℕ) (x : Xid) (seq row left : ℕ) (m : DeedAt) (rest : List DeedAt) → stage x recs ≡ Active → (live x ≡ true → i ≡ x.seg) → of_xid x (stands recs) ≡ m ∷ rest → of_xid x (without x seq row (stands recs)) ≡ rest → (live x ≡ true → left ≡ length rest)
      → Txns (TakesBack i c x seq row ∷ recs) durable (λ y. cond (same_xid y x) (drop (length (stand y) - left) (stand y)) (stand y)) live mark has_mark committed has_commit
  txns-back i c x seq row left m rest is own newest less stays = grind (arith, cases, length-map, active-open, of_xid-without, older)
    where
      older : AllByRecursion (RecordIsIn (TakesBack i c x seq row ∷ recs) live) recs
      older = all_map _ _ recs (λ r h. record { ends = h.ends; own = h.own }) txns.each_record

  -- a commit's record
  pub txns-marks : (c : ℕ) (x : Xid) → live x ≡ true → durable x.seg < c → AllByRecursion (λ r. same_xid (xid_of r) x ≡ true → scn_of r < c) recs
      → Txns (Commits c x ∷ recs) durable stand (λ y. cond (same_xid y x) false (live y)) (λ y e. cond (same_xid y x && e == c) (changes_of (stand y)) (mark y e)) (λ y e. (same_xid y x && e == c) || has_mark y e) committed has_commit
  txns-marks c x is late low = record { each = each; each_record = (grind (arith, cases), all_both _ _ _ recs one txns.each_record low); follows = (grind (arith, txns.each x), txns.follows); apart = txns.apart }
    where
      each : (y : Xid) → TxnAgrees (stage y (Commits c x ∷ recs)) (deeds_in (of_xid y (stands recs))) (stand y) (cond (same_xid y x) false (live y)) (λ e. cond (same_xid y x && e == c) (changes_of (stand y)) (mark y e)) (λ e. (same_xid y x && e == c) || has_mark y e) (committed y) (durable y.seg)
      each y = grind (arith, cases, txns.each y)

      one : (r : Record) → RecordIsIn recs live r → (same_xid (xid_of r) x ≡ true → scn_of r < c) → RecordIsIn (Commits c x ∷ recs) (λ y. cond (same_xid y x) false (live y)) r
      one r h low = grind (arith, cases, txns.each x)

  -- the end of a rollback
  pub txns-rolls : (i c : ℕ) (x : Xid) → stage x recs ≡ Active → of_xid x (stands recs) ≡ []
      → Txns (RollsBack i c x ∷ recs) durable stand (λ y. cond (same_xid y x) false (live y)) mark has_mark committed has_commit
  txns-rolls i c x act none = record { each = each; each_record = (grind (arith, cases), all_map _ _ recs one txns.each_record); follows = (grind (arith, txns.each x), txns.follows); apart = txns.apart }
    where
      each : (y : Xid) → TxnAgrees (stage y (RollsBack i c x ∷ recs)) (deeds_in (of_xid y (stands recs))) (stand y) (cond (same_xid y x) false (live y)) (mark y) (has_mark y) (committed y) (durable y.seg)
      each y = grind (arith, cases, txns.each y)

      one : (r : Record) → RecordIsIn recs live r → RecordIsIn (RollsBack i c x ∷ recs) (λ y. cond (same_xid y x) false (live y)) r
      one r h = grind (arith, cases)
