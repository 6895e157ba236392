-- What is wrong with a header or an undo block that was read, beside its form.
use Rattle.std.specs.Prelude.{◌≡◌, ℕ, ◌+◌, ◌^◌, ◌<◌, ◌==◌, ◌&&◌, nat_lt, not, if◌then◌else◌, Bool, true, List, Option, None, Some, length}
use Rattle.std.specs.List.{list_all}
use Rattle.redo_types.specs.declared.undo.TxnSlot.{TxnSlot}
use Rattle.redo_types.specs.declared.undo.UndoRecord.{UndoRecord}
use Rattle.part_image.specs.declared.front.BlockFront.{BlockFront}
use Rattle.undo_image.specs.Header.{HeaderContent}
use Rattle.undo_image.specs.UndoBlock.{UndoContent}
use Rattle.undo_segment.specs.Segment.{SegmentState, block_in}

-- No run comes near what an SCN, a version or a sequence number must be below.
abbrev pub is_small : ℕ → Bool
is_small n = nat_lt n (2 ^ 62)

-- No run comes near how often a slot may have been taken.
abbrev pub is_small_wrap : ℕ → Bool
is_small_wrap n = nat_lt n (2 ^ 31)

-- Each number of a slot of the transaction table is small.
abbrev pub is_tame_slot : TxnSlot → Bool
is_tame_slot slot = is_small_wrap slot.wrap && is_small slot.first && is_small slot.last && is_small slot.scn && is_small slot.prev

-- Each number of an undo record is small.
abbrev pub is_tame_record : UndoRecord → Bool
is_tame_record u =
    is_small u.seq && is_small_wrap u.wrap && is_small u.version && is_small u.prev && is_small_wrap u.old_itl.xid.wrap
    && is_small u.old_itl.seq

-- A place has no undo record, or one whose numbers are small.
abbrev pub is_tame_place : Option UndoRecord → Bool
is_tame_place None = true
is_tame_place (Some u) = is_tame_record u

-- The first field that is wrong of a block that is to have this number and to be of this segment, as far as its front
-- and its body, whether that is tame, tell: its number, its segment, its version, its SCN, its next sequence number, or
-- its body.
abbrev pub fault_of : ℕ → ℕ → BlockFront → Bool → Option ℕ
fault_of number seg front tame =
    if not (front.number == number) then Some 3
    else if not (front.seg == seg) then Some 4
    else if not (is_small front.version) then Some 5
    else if not (is_small front.scn) then Some 6
    else if not (is_small front.next) then Some 7
    else if not tame then Some 8
    else None

-- the first field that is wrong of a header
abbrev pub head_fault : ℕ → ℕ → HeaderContent → Option ℕ
head_fault number seg head = fault_of number seg head.front (list_all is_tame_slot head.slots)

-- the first field that is wrong of an undo block
abbrev pub undo_fault : ℕ → ℕ → UndoContent → Option ℕ
undo_fault number seg block = fault_of number seg block.front (list_all is_tame_place block.places)

-- No undo block behind a header has a fault.
abbrev pub AreFaultless : ℕ → ℕ → List UndoContent → Type 0
AreFaultless head seg blocks = (k : ℕ) → k < length blocks → undo_fault (head + 1 + k) seg (block_in blocks k) ≡ None

-- No block of the segment has a fault: each has its place, and its numbers are small.
pub record IsTame (own : SegmentState) : Type 0 where
  pub head : head_fault own.head.front.number own.head.front.seg own.head ≡ None
  pub blocks : AreFaultless own.head.front.number own.head.front.seg own.blocks
