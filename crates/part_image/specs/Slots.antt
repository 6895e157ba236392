-- ITL slots and what rows hold, as bytes.
use Rattle.std.specs.Prelude.{◌≡◌, ℕ, ◌<◌, ◌≤◌, ◌⊎◌, Bool, true, false, List, [], ◌∷◌, FitsSigned, Option, None, Some}
use Rattle.std.specs.Int.{w64, cast_unsigned}
use Rattle.redo_types.specs.declared.blocks.ItlSlot.{ItlSlot}
use Rattle.base_types.specs.declared.names.Xid.{Xid}
use Rattle.base_types.specs.declared.value.Value.{Value}
use Rattle.base_types.specs.declared.value.Value.TheVariants.{Absent, Num}
use Rattle.part_image.specs.Cells.{Cell, Byte, Number, Zeros, spelled, AllFit}

-- The name of a transaction has 8 bytes.
abbrev pub xid_cells : Xid → List Cell
xid_cells x = Byte x.seg ∷ Byte x.slot ∷ Zeros 2 ∷ Number 4 x.wrap ∷ []

-- An ITL slot has 16 bytes: its transaction, and the sequence number of that one's newest undo record.
abbrev pub itl_cells : ItlSlot → List Cell
itl_cells s = Byte s.xid.seg ∷ Byte s.xid.slot ∷ Zeros 2 ∷ Number 4 s.xid.wrap ∷ Number 8 s.seq ∷ []

-- the bytes of an ITL slot
abbrev pub itl_bytes : ItlSlot → List ℕ
itl_bytes s = spelled (itl_cells s)

-- the ITL slot that no transaction ever had
abbrev pub unused_itl : ItlSlot
unused_itl = record { xid = record { seg = 0; slot = 0; wrap = 0 }; seq = 0 }

-- a transaction of one of the eight segments has, or had, the ITL slot
pub record IsUsedItl (s : ItlSlot) : Type 0 where
  pub segment : s.xid.seg < 8
  pub slot : s.xid.slot < 8
  pub wrap : 1 ≤ s.xid.wrap
  pub seq : 1 ≤ s.seq

-- An ITL slot was never used, and is then all zero, or is used.
pub record IsItl (s : ItlSlot) : Type 0 where
  pub fits : AllFit (itl_cells s)
  pub content : (s ≡ unused_itl) ⊎ IsUsedItl s

-- the flag of what a row holds: 0 for nothing, 1 for a number
abbrev pub flag_of : Value → ℕ
flag_of Absent = 0
flag_of (Num n) = 1

-- the number that a row holds, as two's complement of 8 bytes; 0 for nothing
abbrev pub bits_of : Value → ℕ
bits_of Absent = 0
bits_of (Num n) = cast_unsigned w64 n

-- a row holds a number of 64 bits or nothing
abbrev pub IsValue : Value → Type 0
IsValue Absent = Unit {0}
IsValue (Num n) = FitsSigned w64 n

-- A flag and a number are read as the value that has them, or as none where no value has.
abbrev pub IsReadValue : ℕ → ℕ → Option Value → Type 0
IsReadValue flag bits (Some v) = IsValue v × (flag ≡ flag_of v) × (bits ≡ bits_of v)
IsReadValue flag bits None = (v : Value) → IsValue v → flag ≡ flag_of v → bits ≡ bits_of v → ⊥

-- a fact as a byte
abbrev pub bit : Bool → ℕ
bit true = 1
bit false = 0

-- A byte is read as the fact that it stands for, or as none where it stands for none.
abbrev pub IsReadBit : ℕ → Option Bool → Type 0
IsReadBit byte (Some fact) = byte ≡ bit fact
IsReadBit byte None = (fact : Bool) → byte ≡ bit fact → ⊥
