-- The first 32 bytes of each block.
use Rattle.std.specs.Prelude.{◌≡◌, ℕ, ◌≤◌, ◌↔◌, List, [], ◌∷◌, drop, replicate, slice_index, take}
use Rattle.part_image.specs.declared.front.BlockFront.{BlockFront}
use Rattle.part_image.specs.declared.front.BlockKind.{BlockKind}
use Rattle.part_image.specs.declared.front.BlockKind.TheVariants.{Data, Header, Undo}
use Rattle.part_image.specs.Cells.{Cell, Byte, Number, Zeros, AllFit, first_fields, spelled}

-- the number of a kind of block
abbrev pub kind_number : BlockKind → ℕ
kind_number Data = 1
kind_number Header = 2
kind_number Undo = 3

-- Fields 1 to 7: the kind, the format, the block's number, its segment, its version, its SCN, and the next sequence
-- number of its segment.
abbrev pub front_fields : BlockKind → BlockFront → List (List Cell)
front_fields kind f =
    (Byte (kind_number kind) ∷ [])
    ∷ (Byte 1 ∷ [])
    ∷ (Number 2 f.number ∷ [])
    ∷ (Byte f.seg ∷ Zeros 3 ∷ [])
    ∷ (Number 8 f.version ∷ [])
    ∷ (Number 8 f.scn ∷ [])
    ∷ (Number 8 f.next ∷ [])
    ∷ []

-- the first 32 bytes of a block
abbrev pub front_bytes : BlockKind → BlockFront → List ℕ
front_bytes kind f = spelled (first_fields 7 (front_fields kind f))

-- a data block is of no segment
abbrev pub HasSegment : BlockKind → ℕ → Type 0
HasSegment Data seg = seg ≡ 0
HasSegment Header seg = Unit {0}
HasSegment Undo seg = Unit {0}

-- the segment in the bytes of a block, with the three bytes behind it
abbrev pub HasSegmentIn : BlockKind → List ℕ → Type 0
HasSegmentIn kind bytes = (take 3 (drop 5 bytes) ≡ replicate 3 0) × HasSegment kind (slice_index bytes 4)

-- an SCN is 0 exactly where no record touched the block
abbrev pub HasScn : BlockFront → Type 0
HasScn f = (f.version ≡ 0) ↔ (f.scn ≡ 0)

-- a header has the next sequence number of its segment, 1 or more, and other blocks have none
abbrev pub HasNext : BlockKind → ℕ → Type 0
HasNext Data next = next ≡ 0
HasNext Header next = 1 ≤ next
HasNext Undo next = next ≡ 0

-- The front of a block of a kind.
pub record IsFront (kind : BlockKind) (f : BlockFront) : Type 0 where
  pub fits : AllFit (first_fields 7 (front_fields kind f))
  pub segment : HasSegment kind f.seg
  pub scn : HasScn f
  pub next : HasNext kind f.next
