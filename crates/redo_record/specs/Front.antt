-- What stands at the front of a redo log, and what a log that was cut reads back as.
use Rattle.std.specs.Prelude.{◌≡◌, ℕ, suc, ◌<◌, ◌≤◌, ◌⊎◌, List, [], ◌∷◌, length, drop, take}
use Rattle.std.specs.List.{flat_map}
use Rattle.base_types.specs.Bytes.{number_at}
use Rattle.redo_types.specs.declared.redo.Redo.{Redo}
use Rattle.part_image.specs.Cells.{Begins}
use Rattle.redo_record.specs.declared.front.Front.{Front}
use Rattle.redo_record.specs.declared.front.Front.TheVariants.{Bad, Torn, Whole}
use Rattle.redo_record.specs.Redo.{IsRedo, redo_bytes}

-- a record has 236, 128 or 88 bytes
abbrev pub IsLength : ℕ → Type 0
IsLength n = (n ≡ 236) ⊎ (n ≡ 128) ⊎ (n ≡ 88)

-- The bytes are a record cut short, by the length that they begin with: there are fewer than two, or that length is a
-- record's and there are fewer than it says.
abbrev pub IsTorn : List ℕ → Type 0
IsTorn bytes = (length bytes < 2) ⊎ ((length bytes < number_at 2 bytes 0) × IsLength (number_at 2 bytes 0))

-- the bytes begin with the record
abbrev pub BeginsWith : List ℕ → Redo → Type 0
BeginsWith bytes r = IsRedo r × Begins bytes (redo_bytes r)

-- What stands at the front of bytes: a whole record with its length, a record cut short, or neither.
abbrev pub IsFront : List ℕ → Front → Type 0
IsFront bytes (Whole r n) = BeginsWith bytes r × (n ≡ length (redo_bytes r))
IsFront bytes Torn = IsTorn bytes
IsFront bytes Bad = (IsTorn bytes → ⊥) × ((r : Redo) → BeginsWith bytes r → ⊥)

-- The bytes are these whole records, one behind the other, and then nothing or a record cut short.
abbrev pub ReadsBack : List ℕ → List Redo → Type 0
ReadsBack bytes [] = (bytes ≡ []) ⊎ IsTorn bytes
ReadsBack bytes (r ∷ records) = BeginsWith bytes r × ReadsBack (drop (length (redo_bytes r)) bytes) records

-- the bytes of records, one behind the other
abbrev pub log_bytes : List Redo → List ℕ
log_bytes records = flat_map redo_bytes records

-- So many of the records are whole in the first `cut` bytes of their log: the bytes of these are within, and those of
-- one more aren't, if there is one more.
pub record AreWhole (records : List Redo) (cut whole : ℕ) : Type 0 where
  pub within : length (log_bytes (take whole records)) ≤ cut
  pub no_more : (whole < length records) → cut < length (log_bytes (take (suc whole) records))

-- A log of these records that was cut reads back as those that are whole, and then as its end or a record cut short.
pub record CutReadsBack (records : List Redo) (cut : ℕ) : Type 0 where
  pub whole : ℕ
  pub are_whole : AreWhole records cut whole
  pub reads_back : ReadsBack (take cut (log_bytes records)) (take whole records)
