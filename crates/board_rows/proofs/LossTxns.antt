-- The clauses on transactions are kept by a loss.
use Rattle.std.proofs.Common.{◌≡◌, ℕ, ◌≤◌, Bool, true, false, cond, ◌==◌, List, [], arith, Option, Some, None}
use Rattle.std.specs.List.{filter}
use Rattle.board_rows.proofs.Words.{Xid, same_xid, Change, Deed, Record, Commits, xid_of, stands, of_xid, Fresh, Over, stage, deeds_in, Txns, TxnAgrees, RecordIsIn}
use Rattle.board_rows.proofs.Lists.{cases, all_map, all_filter}
use Rattle.board_rows.proofs.Losses.{KeepsUnder, fresh-none, Kept, AllKept, stage-kept, of_xid-kept, own-other, fresh-kept, over-kept, ended-whole, commit-whole, follows-kept}

module _ {recs : List Record} {durable : ℕ → ℕ} {stand : Xid → List Deed} {live : Xid → Bool} {mark : Xid → ℕ → List Change} {has_mark : Xid → ℕ → Bool} {committed : Xid → Option ℕ} {has_commit : ℕ → ℕ → Bool}
    (txns : Txns recs durable stand live mark has_mark committed has_commit) (i kept : ℕ) (lasts : durable i ≤ kept) (newest : KeepsUnder i kept recs) where
  abbrev there : List Record
  there = filter (Kept i kept) recs

  -- a commit on the disk
  pub committed-is : (y : Xid) (c : ℕ) → committed y ≡ Some c → (stage y recs ≡ Over (Some c)) × (c ≤ durable y.seg)
  committed-is y c e = grind arith

  -- all records of a transaction whose commit is kept are kept
  pub commit-kept : (y : Xid) (c : ℕ) → stage y recs ≡ Over (Some c) → Kept i kept (Commits c y) ≡ true → AllKept i kept y recs
  commit-kept y c is has = commit-whole i kept y c recs newest txns.follows is has

  -- a commit on the disk is kept
  pub durable-kept : (y : Xid) (c : ℕ) → c ≤ durable y.seg → Kept i kept (Commits c y) ≡ true
  durable-kept y c le = grind arith

  -- all records of an open transaction of another instance are kept
  pub live-kept : (y : Xid) → live y ≡ true → (y.seg == i) ≡ false → AllKept i kept y recs
  live-kept y is off = all_map _ _ recs one txns.each_record
    where
      one : (r : Record) → RecordIsIn recs live r → same_xid y (xid_of r) ≡ true → Kept i kept r ≡ true
      one r h e = grind (arith, cases, txns.each y)

  -- a commit that is there after the loss was there before, with all its transaction's records
  pub over-before : (y : Xid) (c : ℕ) → stage y there ≡ Over (Some c) → (stage y recs ≡ Over (Some c)) × AllKept i kept y recs
  over-before y c e = (over-kept i kept y (Some c) recs txns.follows e, ended-whole i kept y (Some c) recs newest txns.follows e)

  -- a transaction of another instance that is fresh was so before
  pub fresh-before : (y : Xid) → (y.seg == i) ≡ false → stage y there ≡ Fresh → stage y recs ≡ Fresh
  fresh-before y off = fresh-kept i kept y recs txns.follows (own-other i kept y recs off)

  pub txns-loses : Txns there durable (λ y. cond (y.seg == i) [] (stand y)) (λ y. cond (y.seg == i) false (live y)) mark has_mark committed has_commit
  txns-loses = record {
    each = each;
    each_record = all_map _ _ there (λ r h. one r h.0 h.1) (all_filter (RecordIsIn recs live) (Kept i kept) recs txns.each_record);
    follows = follows-kept i kept recs newest txns.follows;
    apart = txns.apart;
  }
    where
      each : (y : Xid) → TxnAgrees (stage y there) (deeds_in (of_xid y (stands there))) (cond (y.seg == i) [] (stand y)) (cond (y.seg == i) false (live y)) (mark y) (has_mark y) (committed y) (durable y.seg)
      each y = grind (arith, cases, txns.each y, live-kept y, fresh-before y, over-before y, commit-kept y, durable-kept y, stage-kept i kept y recs, of_xid-kept i kept y recs, fresh-none y there, fresh-none y recs, ended-whole i kept y None recs newest txns.follows, over-kept i kept y None recs txns.follows)

      one : (r : Record) → Kept i kept r ≡ true → RecordIsIn recs live r → RecordIsIn there (λ y. cond (y.seg == i) false (live y)) r
      one r k h = grind (arith, cases, txns.each (xid_of r), stage-kept i kept (xid_of r) recs, commit-kept (xid_of r), over-before (xid_of r))
