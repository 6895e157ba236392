-- What is asked of a place, kind by kind of its entry.
use Rattle.std.proofs.Common.{◌≡◌, ◌∙◌, ℕ, ◌<◌, ◌≤◌, List, Bool, true, false, not, Option, Some, None, IsTrue, IsSome, IsSomeAnd, ◌↔◌, refl, sym}
use Rattle.std.proofs.lemmas.Bool.{false≢true, not-true, not_from_false}
use Rattle.base_types.specs.declared.names.InstNo.{InstNo}
use Rattle.base_types.specs.declared.names.RowNo.{RowNo}
use Rattle.base_types.specs.declared.names.Scn.{Scn}
use Rattle.base_types.specs.declared.names.Xid.{Xid}
use Rattle.base_types.specs.declared.value.Value.{Value}
use Rattle.journal.specs.declared.entry.Entry.TheVariants.{Started, Rows, Changed, Locked, Marked, Committed, Acked, Undone, Rolled}
use Rattle.journal.specs.declared.deeds.Start.{Start}
use Rattle.journal.specs.Past.{Past, start_of, home_of, is_up}
use Rattle.journal.specs.Standing.{holds}
use Rattle.journal.specs.declared.deeds.Commit.{Commit}
use Rattle.journal.specs.Sees.{sees}
use Rattle.journal.specs.Stood.{stood, is_mark, is_mark_by, is_commit, is_commit_at, is_commit_by, acked_up_to, started_up_to, came_up}
use Rattle.journal_check.specs.Checked.{AreBelow, AreListed}
use Rattle.journal_check.specs.Place.{IsGoodAt}

-- a test that decides P decides what P is the same as
pub iff_trans : {P Q R : Type 0} → P ↔ Q → Q ↔ R → P ↔ R
iff_trans f g = (λ p. g.0 (f.0 p), λ r. f.1 (g.1 r))

-- `false` decides what can't hold
pub iff_never : {P : Type 0} → (P → ⊥) → IsTrue false ↔ P
iff_never never = (λ e. absurd (false≢true e), λ p. absurd (never p))

pub not_iff : (b c : Bool) → b ≡ c → IsTrue (not b) ↔ (c ≡ false)
not_iff b c same = (λ h. sym same ∙ not-true b h, λ h. not_from_false b (same ∙ h))

-- a fact of what an option holds says that it holds something
pub IsSome-from_and : {A : Type 0} (P : A → Type 0) (o : Option A) → IsSomeAnd o P → IsSome o
IsSome-from_and P (Some x) h = refl
IsSome-from_and P None h = (absurd h)

module _ (rows : ℕ) (commits : List Commit) (past : Past) where
  pub started_iff : (n z : ℕ) (s : Scn)
      → ((acked_up_to past ≤ s) × (started_up_to z past ≤ s) × IsSomeAnd (home_of z past) (λ i. (is_up i past ≡ true) × (came_up z past ≡ false)))
      ↔ IsGoodAt rows commits past (Started n z s)
  started_iff n z s = (
    λ h. record {
      rows_exist = tt;
      named = IsSome-from_and (λ (i : ℕ). (is_up i past ≡ true) × (came_up z past ≡ false)) (home_of z past) h.2;
      listed = tt;
      found = tt;
      commit = tt;
      acknowledgement = tt;
      start = h;
      row_lock = tt;
    },
    λ good. good.start,
  )

  pub rows_iff : (n : ℕ) (items : List (RowNo × Value))
      → (AreBelow rows items × IsSomeAnd (start_of n past) (λ start. AreListed (sees commits past start) 0 items))
      ↔ IsGoodAt rows commits past (Rows n items)
  rows_iff n items = (
    λ h. record {
      rows_exist = h.0;
      named = IsSome-from_and (λ (start : Start). AreListed (sees commits past start) 0 items) (start_of n past) h.1;
      listed = h.1;
      found = tt;
      commit = tt;
      acknowledgement = tt;
      start = tt;
      row_lock = tt;
    },
    λ good. (good.rows_exist, good.listed),
  )

  -- what a change and a lock have in common
  abbrev pub DeedParts : ℕ → Xid → RowNo → Type 0
  DeedParts n x row =
      (row < rows) × IsSome (start_of n past) × (stood (is_commit x) past ≡ false) × ((y : Xid) → holds y row past ≡ true → y ≡ x)

  pub changed_iff : (n : ℕ) (x : Xid) (row : RowNo) (found new : Value)
      → (DeedParts n x row × IsSomeAnd (start_of n past) (λ start. found ≡ sees commits past start row))
      ↔ IsGoodAt rows commits past (Changed n x row found new)
  changed_iff n x row found new = (
    λ h. record {
      rows_exist = h.0.0;
      named = h.0.1;
      listed = tt;
      found = h.1;
      commit = h.0.2;
      acknowledgement = tt;
      start = tt;
      row_lock = h.0.3;
    },
    λ good. ((good.rows_exist, good.named, good.commit, good.row_lock), good.found),
  )

  pub locked_iff : (n : ℕ) (x : Xid) (row : RowNo) → DeedParts n x row ↔ IsGoodAt rows commits past (Locked n x row)
  locked_iff n x row = (
    λ h. record {
      rows_exist = h.0;
      named = h.1;
      listed = tt;
      found = tt;
      commit = h.2;
      acknowledgement = tt;
      start = tt;
      row_lock = h.3;
    },
    λ good. (good.rows_exist, good.named, good.commit, good.row_lock),
  )

  pub marked_iff : (n : ℕ) (x : Xid) (c : Scn) → (stood (is_commit x) past ≡ false) ↔ IsGoodAt rows commits past (Marked n x c)
  marked_iff n x c = (
    λ h. record { rows_exist = tt; named = tt; listed = tt; found = tt; commit = h; acknowledgement = tt; start = tt; row_lock = tt },
    λ good. good.commit,
  )

  pub undone_iff : (x : Xid) (left : ℕ) → (stood (is_commit x) past ≡ false) ↔ IsGoodAt rows commits past (Undone x left)
  undone_iff x left = (
    λ h. record { rows_exist = tt; named = tt; listed = tt; found = tt; commit = h; acknowledgement = tt; start = tt; row_lock = tt },
    λ good. good.commit,
  )

  pub rolled_iff : (x : Xid) → (stood (is_commit x) past ≡ false) ↔ IsGoodAt rows commits past (Rolled x)
  rolled_iff x = (
    λ h. record { rows_exist = tt; named = tt; listed = tt; found = tt; commit = h; acknowledgement = tt; start = tt; row_lock = tt },
    λ good. good.commit,
  )

  pub committed_iff : (x : Xid) (c : Scn) (i : InstNo)
      → ((i ≡ x.seg) × (stood (is_mark x c) past ≡ true) × (stood (is_commit x) past ≡ false) × (stood (is_commit_by c i) past ≡ false))
      ↔ IsGoodAt rows commits past (Committed x c i)
  committed_iff x c i = (
    λ h. record { rows_exist = tt; named = tt; listed = tt; found = tt; commit = h; acknowledgement = tt; start = tt; row_lock = tt },
    λ good. good.commit,
  )

  pub acked_iff : (n : ℕ) (x : Xid) (c : Scn)
      → ((stood (is_mark_by n x c) past ≡ true) × (stood (is_commit_at x c) past ≡ true))
      ↔ IsGoodAt rows commits past (Acked n x c)
  acked_iff n x c = (
    λ h. record { rows_exist = tt; named = tt; listed = tt; found = tt; commit = tt; acknowledgement = h; start = tt; row_lock = tt },
    λ good. good.acknowledgement,
  )
