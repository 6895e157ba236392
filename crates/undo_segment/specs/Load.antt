-- What a load of a segment from the disk gives.
use Rattle.std.specs.Prelude.{◌≡◌, ℕ, ◌+◌, ◌/◌, ◌<◌, ◌≤◌, ◌⊎◌, List, Option, None, Some, IfSome, Result, MatchResult, length}
use Rattle.base_types.specs.declared.layout.Layout.{Layout}
use Rattle.base_types.specs.Layout.{head_block_of}
use Rattle.rac_disk.specs.Content.{Content, block_at}
use Rattle.rac_disk.specs.State.{HadFault, IsCalm, State}
use Rattle.undo_image.specs.Header.{HeaderContent, IsHeader, header_bytes}
use Rattle.undo_image.specs.UndoBlock.{IsUndoBlock, UndoContent, undo_bytes}
use Rattle.undo_segment.specs.declared.error.LoadError.{LoadError}
use Rattle.undo_segment.specs.declared.error.LoadError.TheVariants.{Bad, Failed, NoMemory}
use Rattle.undo_segment.specs.Faults.{head_fault, undo_fault}
use Rattle.undo_segment.specs.Segment.{SegmentState, block_in}

-- A disk that told what it holds tells the same afterwards.
abbrev pub Keeps : Option Content → Option Content → Type 0
Keeps old new = IfSome old (λ it. new ≡ Some it)

-- what the disk counts by the reason why something wasn't loaded
abbrev pub CountsFor : LoadError → State → State → Type 0
CountsFor Failed old new = HadFault old new
CountsFor (Bad block field) old new = IsCalm old new
CountsFor NoMemory old new = IsCalm old new

-- what a disk holds where the reason why something wasn't loaded is a bad block
abbrev pub HoldsFor : (ℕ → Content → Type 0) → LoadError → Content → Type 0
HoldsFor IsBad Failed it = Unit {0}
HoldsFor IsBad (Bad block field) it = IsBad block it
HoldsFor IsBad NoMemory it = Unit {0}

-- A load changes nothing of the disk, and counts a fault exactly where one made it fail. Where the disk tells what it
-- holds, what was loaded is what it holds, and a block that is said to be bad is.
pub record Loads {T : Type 0} (Gives : T → Content → Type 0) (IsBad : ℕ → Content → Type 0) (result : Result T LoadError) (old new : State) : Type 0 where
  pub told : Keeps old.told new.told
  pub counts : MatchResult result (λ _. IsCalm old new) (λ why. CountsFor why old new)
  pub gives : MatchResult result (λ value. IfSome old.told (Gives value)) (λ why. IfSome old.told (HoldsFor IsBad why))

-- These are the bytes of a header without fault.
pub record IsGoodHead (number seg : ℕ) (bytes : List ℕ) (head : HeaderContent) : Type 0 where
  pub is : IsHeader head
  pub bytes_are : bytes ≡ header_bytes head
  pub faultless : head_fault number seg head ≡ None

-- These are the bytes of an undo block without fault.
pub record IsGoodUndo (number seg : ℕ) (bytes : List ℕ) (undo : UndoContent) : Type 0 where
  pub is : IsUndoBlock undo
  pub bytes_are : bytes ≡ undo_bytes undo
  pub faultless : undo_fault number seg undo ≡ None

-- The block of a header isn't that of one without fault.
abbrev pub IsBadHead : ℕ → ℕ → ℕ → Content → Type 0
IsBadHead number seg block it = (block ≡ number) × ((head : HeaderContent) → IsGoodHead number seg (block_at it block) head → ⊥)

-- The undo block with this number isn't one without fault.
abbrev pub IsBadOne : ℕ → ℕ → ℕ → Content → Type 0
IsBadOne number seg block it = (block ≡ number) × ((undo : UndoContent) → IsGoodUndo number seg (block_at it block) undo → ⊥)

-- One of so many undo blocks behind a header isn't one without fault.
abbrev pub IsBadUndo : ℕ → ℕ → ℕ → ℕ → Content → Type 0
IsBadUndo head seg count block it = (head < block) × (block ≤ head + count) × IsBadOne block seg block it

-- A block of an instance's segment isn't what it is to be.
abbrev pub IsBadBlock : Layout → ℕ → ℕ → Content → Type 0
IsBadBlock layout seg block it =
    IsBadHead (head_block_of layout seg) seg block it ⊎ IsBadUndo (head_block_of layout seg) seg (layout.undo / 4) block it

-- The disk holds the undo blocks behind a header.
abbrev pub HoldsRing : ℕ → List UndoContent → Content → Type 0
HoldsRing head blocks it = (k : ℕ) → k < length blocks → block_at it (head + 1 + k) ≡ undo_bytes (block_in blocks k)

-- The disk holds the segment.
pub record HoldsSegment (own : SegmentState) (it : Content) : Type 0 where
  pub head : block_at it own.head.front.number ≡ header_bytes own.head
  pub blocks : HoldsRing own.head.front.number own.blocks it
