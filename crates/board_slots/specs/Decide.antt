-- What a change of a row is decided on, and the deed that is decided.
use Rattle.std.specs.Prelude.{ℕ, ◌+◌, ◌<◌, ◌≤◌, ◌≡◌, ◌≢◌, ◌⊎◌, if◌then◌else◌, Bool, true, false, List, Option, Some, None, IsSomeAnd, IfSome}
use Rattle.std.specs.List.{AllByRecursion}
use Rattle.base_types.specs.declared.names.Xid.{Xid}
use Rattle.base_types.specs.declared.value.Value.{Value}
use Rattle.undo_segment.specs.declared.look.Look.{Look}
use Rattle.undo_segment.specs.declared.look.Look.TheVariants.{Active, Ended, ReusedBelow}
use Rattle.txn_slots.specs.declared.lock.LockAnswer.{LockAnswer}
use Rattle.txn_slots.specs.declared.lock.LockAnswer.TheVariants.{Free, Held, Mine, Need}
use Rattle.txn_slots.specs.Choice.{end_of}
use Rattle.txn_slots.specs.Lock.{released_at}
use Rattle.txn_slots.specs.Own.{is_own}
use Rattle.board_slots.specs.Block.{CommittedUpTo, Deed, newest, in_slot, on_row, by, Image, Record, Open, stage, committed, content, stands, held_by}

-- A statement goes on where the row is its own transaction's, or was let go at its snapshot or before.
abbrev pub GoesOn : ℕ → LockAnswer → Type 0
GoesOn snapshot (Free released) = released_at released ≤ snapshot
GoesOn snapshot Mine = Unit {0}
GoesOn snapshot (Held xid) = ⊥
GoesOn snapshot (Need wanted) = ⊥

-- what a header tells, as the block stands
abbrev pub Tells : List Record → Xid → Look → Type 0
Tells records xid (Ended end) =
    (stage xid records ≢ Open) × IfSome (committed records xid) (λ scn. scn ≡ end)
Tells records xid (ReusedBelow end found) =
    (stage xid records ≢ Open) × IfSome (committed records xid) (λ scn. scn ≤ end)
Tells records xid _ = Unit {0}

-- A transaction changes a row of a block: its own, or a new one of which nothing stands. Headers tell of all that have a
-- slot; each end that they tell is below the SCN of the change.
pub record MayDecide (records : List Record) (me : Option Xid) (xid : Xid) (look : Xid → Look) (snapshot scn : ℕ)
    : Type 0 where
  pub mine : (me ≡ Some xid) ⊎ ((me ≡ None) × (newest (by xid) (stands records) ≡ None))
  pub wrap : 1 ≤ xid.wrap
  pub goes_on : stage xid records ≡ Open
  pub up : (content records).scn < scn
  pub tells : AllByRecursion (λ deed. Tells records deed.xid (look deed.xid)) (stands records)
  pub low : AllByRecursion (λ deed. IfSome (end_of (look deed.xid)) (λ end. end < scn)) (stands records)
  pub started : snapshot < scn

-- A deed is the transaction's own, or its own transaction has committed at the snapshot or before.
abbrev pub IsOwnOrSeen : List Record → Xid → ℕ → Deed → Type 0
IsOwnOrSeen records xid snapshot deed = (deed.xid ≡ xid) ⊎ CommittedUpTo (committed records) deed.xid snapshot

-- Each deed that stands on a row is the transaction's own or has committed up to the snapshot.
abbrev pub RowIsFree : List Record → Xid → ℕ → ℕ → Type 0
RowIsFree records xid snapshot row =
    AllByRecursion (λ deed. on_row row deed ≡ true → IsOwnOrSeen records xid snapshot deed) (stands records)

-- So is the newest that stands on a row.
abbrev pub NewestIsFree : List Record → Xid → ℕ → ℕ → Type 0
NewestIsFree records xid snapshot row =
    (top : Deed) → newest (on_row row) (stands records) ≡ Some top → IsOwnOrSeen records xid snapshot top

-- the deed that is decided of a row, after its transaction's deed with number prev, with this number and SCN, by way of
-- the ITL slot with this number
abbrev pub decided : Image → Xid → ℕ → ℕ → ℕ → ℕ → ℕ → Bool → Value → Deed
decided image xid prev seq scn row itl puts value =
    record {
      xid = xid;
      seq = seq;
      prev = prev;
      scn = scn;
      version = image.version + 1;
      row = row;
      itl = itl;
      puts = puts;
      value = if puts then value else image.value row;
      old = image.value row;
      old_itl = image.slot itl;
      mine = held_by xid image row;
    }

-- Who is told to hold a row is another transaction, active by its header, and the newest deed on the row is its.
abbrev pub IsBusy : List Record → Option Xid → (Xid → Look) → ℕ → Xid → Type 0
IsBusy records me look row other =
    (look other ≡ Active) × (is_own me other ≡ false)
    × IsSomeAnd (newest (on_row row) (stands records)) (λ top. top.xid ≡ other)

-- A slot is another transaction's, active by its header, and the newest deed in the slot is its.
abbrev pub IsTakenBy : List Record → Option Xid → (Xid → Look) → ℕ → Xid → Type 0
IsTakenBy records me look itl other =
    (look other ≡ Active) × (is_own me other ≡ false)
    × IsSomeAnd (newest (in_slot itl) (stands records)) (λ top. top.xid ≡ other)
