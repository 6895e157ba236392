-- The clauses on rows are kept by a change, by a step back, by an end and by a commit that becomes durable.
use Rattle.std.proofs.Common.{◌≡◌, ℕ, ◌<◌, true, false, ◌==◌, ◌&&◌, max, List, [], ◌∷◌, refl, sym, ap, ◌∙◌, arith, inr, ◌⊎◌, Option, None}
use Rattle.std.specs.List.{AllByRecursion}
use Rattle.board_rows.proofs.Words.{Xid, same_xid, Deed, row_of, changes_of, Commit, entered, changes_in, Replays, same_xid-refl, Record, Does, TakesBack, DeedAt, without, of_xid, stands, IsFree, on_row, deeds_in, seen_at, IsOver, Ordered, IsMade, Finds, RowsStand}
use Rattle.board_rows.proofs.Lists.{cases, cases, all_map, suffix_here, suffix_map}
use Rattle.board_rows.proofs.Shown.{shown-hidden, shown-without, on_row-all, on_row-of_xid}
use Rattle.board_rows.proofs.Table.{IsClear, OneMore, TableStands-committed}
use Rattle.board_rows.proofs.Order.{Ordered-changes, Ordered-committed, pair_without, Ordered-ahead, clear-of}
use Rattle.board_rows.proofs.Replay.{ReplaysOn, Replays-entered, Replays-head, Replays-tail, replays-on, bound, changes_up_to-all}

-- one more change of a transaction: another has as many
pub of_xid-other : (y : Xid) (m : DeedAt) (mods : List DeedAt) → same_xid y m.xid ≡ false → of_xid y (m ∷ mods) ≡ of_xid y mods
of_xid-other y m mods e = rw e refl

pub of_xid-without : (y x : Xid) (seq row : ℕ) (mods : List DeedAt) → same_xid y x ≡ false → of_xid y (without x seq row mods) ≡ of_xid y mods
of_xid-without y x seq row [] e = refl
of_xid-without y x seq row (m ∷ mods) e = grind (arith, of_xid-without y x seq row mods e)

-- the newest of a transaction is the one that is taken back
abbrev pub IsNewest : Xid → ℕ → ℕ → List DeedAt → Type 0
IsNewest x seq row [] = ⊥
IsNewest x seq row (m ∷ mods) = (same_xid x m.xid && (seq == m.seq && row == row_of m.deed) ≡ true) ⊎ ((same_xid x m.xid ≡ false) × IsNewest x seq row mods)

pub newest-first : (x : Xid) (seq row : ℕ) (mods : List DeedAt) (m : DeedAt) (rest : List DeedAt) → of_xid x mods ≡ m ∷ rest → seq ≡ m.seq → row ≡ row_of m.deed → IsNewest x seq row mods × (of_xid x (without x seq row mods) ≡ rest)
newest-first x seq row [] m rest e f g = grind arith
newest-first x seq row (o ∷ mods) m rest e f g = grind (arith, newest-first x seq row mods m rest)

-- nothing stands over it on its row
under-other : (x : Xid) (seq row : ℕ) (committed : Xid → Option ℕ) (m : DeedAt) (os : List DeedAt) → committed x ≡ None → same_xid x m.xid ≡ false → AllByRecursion (IsOver committed m) os → IsNewest x seq row os → (row == row_of m.deed) ≡ false
under-other x seq row committed m [] new a h f = absurd f
under-other x seq row committed m (o ∷ os) new a h either = grind (arith, cases, under-other x seq row committed m os new a h.1)

value-without : (k : ℕ) (x : Xid) (seq row : ℕ) (mods : List DeedAt) → (row == k) ≡ false → on_row k (changes_of (deeds_in mods)) ≡ on_row k (changes_of (deeds_in (without x seq row mods)))
value-without k x seq row mods e = grind (arith, cases, on_row-all, shown-without)

pub Replays-without : (x : Xid) (seq row : ℕ) (committed : Xid → Option ℕ) (mods : List DeedAt) → committed x ≡ None → Ordered committed mods → IsNewest x seq row mods → Replays (changes_of (deeds_in mods)) → Replays (changes_of (deeds_in (without x seq row mods)))
Replays-without x seq row committed [] new h f r = tt
Replays-without x seq row committed (m ∷ mods) new h either r = grind (arith, cases, Replays-tail, Replays-head, value-without, under-other, Replays-without x seq row committed mods new h.1)

-- a commit of the history is another's than x, which isn't committed
made-other : (committed : Xid → Option ℕ) (mods other : List DeedAt) (x : Xid) → committed x ≡ None → ((y : Xid) → same_xid y x ≡ false → of_xid y mods ≡ of_xid y other) → (a : Commit) → IsMade committed mods a → IsMade committed other a
made-other committed mods other x new same a made = grind arith

all_entered : (P : Commit → Type 0) (a : Commit) (older : List Commit) → P a → AllByRecursion P older → AllByRecursion P (entered a older)
all_entered P a [] p h = (p, tt)
all_entered P a (b ∷ older) p h = grind (arith, all_entered P a older p h.1)

module _ {recs : List Record} {committed : Xid → Option ℕ} {commits : List Commit} (rows : RowsStand recs committed commits) where
  order : Ordered committed (stands recs)
  order = suffix_here (λ older. Ordered committed (stands older)) recs rows.order

  replayed : Replays (changes_of (deeds_in (stands recs)))
  replayed = suffix_here (λ older. Replays (changes_of (deeds_in (stands older)))) recs rows.deeds_replay

  pub rows-changes : (s c : ℕ) (x : Xid) (seq : ℕ) (deed : Deed) → s < c → committed x ≡ None
      → AllByRecursion (IsFree committed s x (row_of deed)) (stands recs)
      → Finds deed (stands recs) → RowsStand (Does c x seq deed ∷ recs) committed commits
  rows-changes s c x seq deed lt new free found = record {
    order = (Ordered-changes committed m (stands recs) s lt free order, rows.order);
    deeds_replay = (replays deed found, rows.deeds_replay);
    table = λ t k. rows.table t k ∙ ap changes_of (sym (shown-hidden k (seen_at t committed) m (stands recs) (λ _. rw new refl)));
    made = all_map _ _ commits (made-other committed (stands recs) (m ∷ stands recs) x new (λ y e. sym (of_xid-other y m (stands recs) e))) rows.made;
  }
    where
      m : DeedAt
      m = record { xid = x; seq = seq; scn = c; deed = deed }

      replays : (d : Deed) → Finds d (stands recs) → Replays (changes_of (d ∷ deeds_in (stands recs)))
      replays d f = grind (arith, replayed)

  pub rows-back : (i c : ℕ) (x : Xid) (seq row : ℕ) → committed x ≡ None → IsNewest x seq row (stands recs) → RowsStand (TakesBack i c x seq row ∷ recs) committed commits
  rows-back i c x seq row new newest = record {
    order = (pair_without _ x seq row (stands recs) order, rows.order);
    deeds_replay = (Replays-without x seq row committed (stands recs) new order newest replayed, rows.deeds_replay);
    table = λ t k. rows.table t k ∙ ap changes_of (sym (shown-without k (seen_at t committed) x seq row (stands recs) (λ _. rw new refl)));
    made = all_map _ _ commits (made-other committed (stands recs) (without x seq row (stands recs)) x new (λ y e. sym (of_xid-without y x seq row (stands recs) e))) rows.made;
  }

  -- an end changes no row
  pub rows-ends : (r : Record) → stands (r ∷ recs) ≡ stands recs → RowsStand (r ∷ recs) committed commits
  rows-ends r same = grind (arith, cases, suffix_here)

  pub rows-clear : (x : Xid) (a : Commit) → committed x ≡ None → a.changes ≡ changes_of (deeds_in (of_xid x (stands recs)))
      → AllByRecursion (λ m. same_xid x m.xid ≡ true → m.scn < a.commit_scn) (stands recs) → AllByRecursion (IsClear a) commits
  rows-clear x a new marked below = all_map _ _ commits (λ b. clear-of x a committed (stands recs) b new (λ k. ap (on_row k) marked ∙ on_row-of_xid k x (stands recs)) order below) rows.made

  pub rows-settles : (x : Xid) (a : Commit) (now : Xid → Option ℕ) → a.xid ≡ x → OneMore x a.commit_scn committed now
      → a.changes ≡ changes_of (deeds_in (of_xid x (stands recs)))
      → AllByRecursion (λ m. same_xid x m.xid ≡ true → m.scn < a.commit_scn) (stands recs)
      → RowsStand recs now (entered a commits)
  rows-settles x a now is more marked below = record {
    order = suffix_map _ _ recs (λ older. Ordered-committed x a.commit_scn committed now (stands older) more) rows.order;
    deeds_replay = rows.deeds_replay;
    table = TableStands-committed x a committed now commits (stands recs) more (λ k. ap (on_row k) marked ∙ on_row-of_xid k x (stands recs)) clear (λ k s. Ordered-ahead k s x committed (stands recs) more.new order) rows.table;
    made = all_entered (IsMade now (stands recs)) a commits (rw is (more.is x ∙ rw (same_xid-refl x) refl), rw is marked) (all_map _ _ commits keeps rows.made);
  }
    where
      clear : AllByRecursion (IsClear a) commits
      clear = rows-clear x a more.new marked below

      keeps : (b : Commit) → IsMade committed (stands recs) b → IsMade now (stands recs) b
      keeps b made = grind (arith, cases, more.is b.xid, more.new)

  -- the history replays with one more commit
  pub replay-settles : (x : Xid) (a : Commit) → committed x ≡ None → a.changes ≡ changes_of (deeds_in (of_xid x (stands recs)))
      → AllByRecursion (λ m. same_xid x m.xid ≡ true → m.scn < a.commit_scn) (stands recs) → Replays (changes_in commits) → Replays (changes_in (entered a commits))
  replay-settles x a new marked below replay = Replays-entered a commits (rows-clear x a new marked below) (rw marked on) replay
    where
      on : ReplaysOn (changes_in commits) (changes_of (deeds_in (of_xid x (stands recs))))
      on =
          let low = bound (λ (m : DeedAt). m.scn) (stands recs) in
          let up = bound (λ (b : Commit). b.commit_scn) commits in
          let s = max low.0 up.0 in
          let all = changes_up_to-all s commits (up.1 s (omega arith)) in
          replays-on s x committed (changes_in commits) (stands recs) new (low.1 s (omega arith)) order (λ k. inr (sym (ap (on_row k) all) ∙ rows.table s k)) replayed
