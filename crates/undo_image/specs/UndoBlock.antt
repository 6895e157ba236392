-- A block of undo records, as bytes.
use Rattle.std.specs.Prelude.{◌≡◌, ℕ, ◌+◌, List, [], ◌∷◌, ◌++◌, Option, None, Some, length, replicate, slice_index_or, slice_set}
use Rattle.std.specs.List.{AllByRecursion, flat_map}
use Rattle.base_types.specs.declared.names.Scn.{Scn}
use Rattle.redo_types.specs.declared.undo.UndoRecord.{UndoRecord}
use Rattle.part_image.specs.declared.front.BlockFront.{BlockFront}
use Rattle.part_image.specs.declared.front.BlockKind.TheVariants.{Undo}
use Rattle.part_image.specs.Cells.{Cell, Zeros, first_fields, spelled}
use Rattle.part_image.specs.Front.{IsFront, front_fields}
use Rattle.part_image.specs.Undo.{IsUndoPlace, undo_place_cells}

-- what an undo block has: the front of a block, and the places of undo records
pub record UndoContent : Type 0 where
  pub front : BlockFront
  pub places : List (Option UndoRecord)

-- the cells of places, one behind the other
abbrev pub places_cells : List (Option UndoRecord) → List Cell
places_cells places = flat_map undo_place_cells places

-- Fields 1 to 9: the front, the places, and zeros up to the end of the block.
abbrev pub undo_fields : UndoContent → List (List Cell)
undo_fields u = front_fields Undo u.front ++ places_cells u.places ∷ (Zeros 96 ∷ []) ∷ []

-- the 512 bytes of an undo block
abbrev pub undo_bytes : UndoContent → List ℕ
undo_bytes u = spelled (first_fields 9 (undo_fields u))

-- four places, each with an undo record or none
pub record ArePlaces (places : List (Option UndoRecord)) : Type 0 where
  pub four : length places ≡ 4
  pub each : AllByRecursion IsUndoPlace places

-- An undo block has the front of an undo block and four places.
pub record IsUndoBlock (u : UndoContent) : Type 0 where
  pub front : IsFront Undo u.front
  pub places : ArePlaces u.places

-- the undo record at this place
abbrev pub record_at : UndoContent → ℕ → Option UndoRecord
record_at u place = slice_index_or u.places place None

-- the undo block that no undo record was ever written to
abbrev pub empty_undo_block : ℕ → ℕ → UndoContent
empty_undo_block number seg = record {
  front = record {
    number = number;
    seg = seg;
    version = 0;
    scn = 0;
    next = 0;
  };
  places = replicate 4 None;
}

-- A redo record with this SCN wrote the undo record there: the block has one version more.
abbrev pub with_record : UndoContent → ℕ → UndoRecord → Scn → UndoContent
with_record u place r scn = record {
  front = record u.front { version = u.front.version + 1; scn = scn };
  places = slice_set u.places place (Some r);
}
