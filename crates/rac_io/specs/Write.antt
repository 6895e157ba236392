-- What a write does to the bytes that a sink holds, where it tells them (`None` where it doesn't).
use Rattle.std.specs.Prelude.{◌≡◌, ◌≤◌, ◌<◌, ℕ, List, length, take, Option}
use Rattle.std.specs.Io.KnownBytes.{Appends, Keeps}
use Rattle.rac_io.specs.declared.sink.Put.{Put}
use Rattle.rac_io.specs.declared.sink.Put.TheVariants.{Bytes, Failed}

-- a write takes at most its piece
abbrev pub FitsPiece : Put → List ℕ → Type 0
FitsPiece (Bytes count) piece = count ≤ length piece
FitsPiece Failed piece = Unit {0}

-- A write appends the first bytes of its piece, as many as it took. A write that failed appends nothing.
abbrev pub WriteAppends : Option (List ℕ) → Option (List ℕ) → Put → List ℕ → Type 0
WriteAppends old new (Bytes count) piece = Appends old new (take count piece)
WriteAppends old new Failed piece = Keeps old new

-- a write took nothing of a piece that isn't empty
abbrev pub IsStall : Put → List ℕ → Type 0
IsStall (Bytes count) piece = (count ≡ 0) × (0 < length piece)
IsStall Failed piece = ⊥

-- the sink holds some first bytes of these more, and not all
abbrev pub AppendsPart : Option (List ℕ) → Option (List ℕ) → List ℕ → Type 0
AppendsPart old new bytes = (count : ℕ) × (count < length bytes) × Appends old new (take count bytes)
