-- A data block by the records on it, and what of them stands.
use Rattle.std.specs.Prelude.{ℕ, ◌<◌, ◌≤◌, IsSomeAnd, ◌+◌, ◌==◌, ◌&&◌, Bool, if◌then◌else◌, not, List, [], ◌∷◌, Option, Some, None}
use Rattle.base_types.specs.declared.names.Xid.{Xid}
use Rattle.redo_types.specs.declared.blocks.ItlSlot.{ItlSlot}
use Rattle.redo_types.specs.declared.blocks.RowChange.{RowChange}
use Rattle.base_types.specs.declared.value.Value.{Value}
use Rattle.base_types.specs.declared.value.Value.TheVariants.{Absent}
use Rattle.part_image.specs.Slots.{unused_itl}
use Rattle.journal.specs.Past.{same_xid}

-- A deed: a change or a lock of a row of the block, with what its undo record keeps. A lock puts no value.
pub record Deed : Type 0 where
  pub xid : Xid
  pub seq : ℕ
  pub scn : ℕ
  pub version : ℕ  -- of the block after it
  pub row : ℕ
  pub itl : ℕ  -- the number of its ITL slot
  pub puts : Bool
  pub value : Value  -- of the row after it
  pub old : Value
  pub old_itl : ItlSlot
  pub mine : Bool  -- whether its transaction held the row before
  pub prev : ℕ  -- the number of its transaction's deed before, 0 for none

-- the newest one that passes a test
abbrev pub newest : (Deed → Bool) → List Deed → Option Deed
newest test [] = None
newest test (deed ∷ deeds) = if test deed then Some deed else newest test deeds

-- A deed is on this row.
abbrev pub on_row : ℕ → Deed → Bool
on_row row deed = deed.row == row

-- A deed is a change of this row.
abbrev pub puts_on : ℕ → Deed → Bool
puts_on row deed = deed.row == row && deed.puts

-- A deed is in the ITL slot with this number.
abbrev pub in_slot : ℕ → Deed → Bool
in_slot itl deed = deed.itl == itl

-- A deed is of this transaction.
abbrev pub by : Xid → Deed → Bool
by xid deed = same_xid xid deed.xid

-- the ITL slot that a deed leaves; one never used where there is none
abbrev pub slot_of : Option Deed → ItlSlot
slot_of None = unused_itl
slot_of (Some deed) = record { xid = deed.xid; seq = deed.seq }

-- the value that a deed leaves; an absent one where there is none
abbrev pub value_of : Option Deed → Value
value_of None = Absent
value_of (Some deed) = deed.value

-- what an ITL slot has by what stands
abbrev pub slot_by : ℕ → List Deed → ItlSlot
slot_by itl deeds = slot_of (newest (in_slot itl) deeds)

-- what a row holds by what stands
abbrev pub value_by : ℕ → List Deed → Value
value_by row deeds = value_of (newest (puts_on row) deeds)

-- a block, by row and by number of its ITL slots (from 1)
pub record Image : Type 0 where
  pub version : ℕ
  pub scn : ℕ
  pub value : ℕ → Value
  pub lock : ℕ → ℕ
  pub slot : ℕ → ItlSlot

-- f with another answer at i
abbrev pub put : {A : Type 0} → (ℕ → A) → ℕ → A → ℕ → A
put f i a j = if i == j then a else f j

-- a lock byte once an ITL slot is taken, where the slot is taken anew without the lock that names it
abbrev pub let_go : Bool → ℕ → ℕ → ℕ
let_go fresh itl lock = if fresh && lock == itl then 0 else lock

-- what redo says of a row, done to a block
abbrev pub changed : RowChange → ℕ → Image → Image
changed change scn image =
    record {
      version = image.version + 1;
      scn = scn;
      value = put image.value change.row change.value;
      lock = put (λ row. let_go change.fresh change.itl (image.lock row)) change.row change.lock;
      slot = put image.slot change.itl change.slot;
    }

-- the block that no record touched
abbrev pub empty : Image
empty = record { version = 0; scn = 0; value = λ row. Absent; lock = λ row. 0; slot = λ itl. unused_itl }

-- whether a row is held by a transaction, as its lock byte tells
abbrev pub held_by : Xid → Image → ℕ → Bool
held_by xid image row = not (image.lock row == 0) && same_xid (image.slot (image.lock row)).xid xid

-- The redo records as one block sees them: a deed is done, or taken back, or a transaction ends, which touches no data
-- block. Deeds and commits are in the thread of their segment, the others in thread inst.
pub data Record : Type 0 where
  Does : (deed : Deed) → Record
  TakesBack : (inst : ℕ) (xid : Xid) (seq scn : ℕ) (change : RowChange) → Record
  Commits : (scn : ℕ) (xid : Xid) → Record
  RollsBack : (inst scn : ℕ) (xid : Xid) → Record

-- a change or lock takes its slot anew where that names another transaction
abbrev pub change_of : Deed → RowChange
change_of deed =
    record {
      row = deed.row;
      lock = deed.itl;
      itl = deed.itl;
      fresh = not (same_xid deed.old_itl.xid deed.xid);
      slot = record { xid = deed.xid; seq = deed.seq };
      value = deed.value;
    }

-- the block after a record
abbrev pub image_after : Record → Image → Image
image_after (Does deed) image = changed (change_of deed) deed.scn image
image_after (TakesBack inst xid seq scn change) image = changed change scn image
image_after _ image = image

-- the content of the block, by the records on it, the newest first
abbrev pub content : List Record → Image
content [] = empty
content (latest ∷ older) = image_after latest (content older)

-- the one that a step back names
abbrev pub is_that : Xid → ℕ → Deed → Bool
is_that xid seq deed = same_xid xid deed.xid && seq == deed.seq

-- all but the one that a step back names
abbrev pub without : Xid → ℕ → List Deed → List Deed
without xid seq [] = []
without xid seq (deed ∷ deeds) = if is_that xid seq deed then deeds else deed ∷ without xid seq deeds

-- what stands after a record
abbrev pub stands_after : Record → List Deed → List Deed
stands_after (Does deed) deeds = deed ∷ deeds
stands_after (TakesBack inst xid seq scn change) deeds = without xid seq deeds
stands_after _ deeds = deeds

-- what stands in the block, the newest first
abbrev pub stands : List Record → List Deed
stands [] = []
stands (latest ∷ older) = stands_after latest (stands older)

-- A transaction is open, so far as the block knows, or it is over: by a commit at an SCN, or rolled back.
pub data Stage : Type 0 where
  Open : Stage
  Over : (commit : Option ℕ) → Stage

-- the stage of a transaction after a record
abbrev pub stage_after : Xid → Record → Stage → Stage
stage_after xid (Commits scn other) before = if same_xid xid other then Over (Some scn) else before
stage_after xid (RollsBack inst scn other) before = if same_xid xid other then Over None else before
stage_after xid _ before = before

-- the stage of a transaction after these records
abbrev pub stage : Xid → List Record → Stage
stage xid [] = Open
stage xid (latest ∷ older) = stage_after xid latest (stage xid older)

-- the SCN of the commit, if the transaction is over by one
abbrev pub commit_in : Stage → Option ℕ
commit_in (Over commit) = commit
commit_in Open = None

-- the SCN of a transaction's commit
abbrev pub committed : List Record → Xid → Option ℕ
committed records xid = commit_in (stage xid records)

-- A transaction has committed below an SCN.
abbrev pub CommittedBelow : (Xid → Option ℕ) → Xid → ℕ → Type 0
CommittedBelow committed xid scn = IsSomeAnd (committed xid) (λ end. end < scn)

-- A transaction has committed at a snapshot or before.
abbrev pub CommittedUpTo : (Xid → Option ℕ) → Xid → ℕ → Type 0
CommittedUpTo committed xid snapshot = IsSomeAnd (committed xid) (λ end. end ≤ snapshot)
