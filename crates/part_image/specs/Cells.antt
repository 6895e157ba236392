-- Formats as rows of cells.
use Rattle.std.specs.Prelude.{◌≡◌, ℕ, ◌^◌, ◌<◌, ◌-◌, List, [], ◌∷◌, length, take, drop, replicate, Option, Some, None}
use Rattle.std.specs.List.{flat_map, AllByRecursion}
use Rattle.base_types.specs.Bytes.{big_bytes}

-- A cell of a format: one byte, a number of so many bytes with the highest first, or so many zeros.
pub data Cell : Type 0 where
  Byte : (value : ℕ) → Cell
  Number : (size value : ℕ) → Cell
  Zeros : (size : ℕ) → Cell

-- the bytes of a cell
abbrev pub cell_bytes : Cell → List ℕ
cell_bytes (Byte value) = value ∷ []
cell_bytes (Number size value) = big_bytes size value
cell_bytes (Zeros size) = replicate size 0

-- the bytes of cells, one behind the other
abbrev pub spelled : List Cell → List ℕ
spelled cells = flat_map cell_bytes cells

-- a cell has room for its number
abbrev pub CellFits : Cell → Type 0
CellFits (Byte value) = value < 256
CellFits (Number size value) = value < 256 ^ size
CellFits (Zeros size) = Unit {0}

-- each cell has room for its number
abbrev pub AllFit : List Cell → Type 0
AllFit cells = AllByRecursion CellFits cells

-- the text stands in the bytes at this place
abbrev pub StandsAt : List ℕ → ℕ → List ℕ → Type 0
StandsAt bytes at text = take (length text) (drop at bytes) ≡ text

-- the bytes begin with the text
abbrev pub Begins : List ℕ → List ℕ → Type 0
Begins bytes text = take (length text) bytes ≡ text

-- Reading gives the value whose bytes stand at the front, or none where those of no value do.
abbrev pub Reads : {V : Type 0} → (V → Type 0) → (V → List Cell) → List ℕ → Option V → Type 0
Reads Is cells bytes (Some v) = Is v × Begins bytes (spelled (cells v))
Reads {V = V} Is cells bytes None = (v : V) → Is v → Begins bytes (spelled (cells v)) → ⊥

-- the cells of the first n fields of a format
abbrev pub first_fields : ℕ → List (List Cell) → List Cell
first_fields n fields = flat_map (λ cells. cells) (take n fields)

-- The field with this number, from 1, is the first that is wrong: the bytes before it are those of some value, and
-- the bytes up to its end are those of none.
pub record IsFirstWrong {V : Type 0} (Is : V → Type 0) (fields : V → List (List Cell)) (bytes : List ℕ) (field : ℕ) : Type 0 where
  pub right_before : (v : V) × Is v × Begins bytes (spelled (first_fields (field - 1) (fields v)))
  pub wrong : (v : V) → Is v → Begins bytes (spelled (first_fields field (fields v))) → ⊥
