-- What an append in memory keeps of its piece.
use Rattle.std.proofs.Common.{◌≡◌, ◌≤◌, ℕ, min, List, length, take, Option, None, Some, sym, ◌∙◌, arith}
use Rattle.std.proofs.lemmas.Grind.{common_steps}
use Rattle.std.proofs.lemmas.List.{take_min}
use Rattle.rac_disk.specs.Memory.{piece_of}

-- the first bytes of the first bytes
pub take-take_min : (m n : ℕ) (bytes : List ℕ) → take m (take n bytes) ≡ take (min m n) bytes
take-take_min m n bytes = grind (arith, common_steps)

-- the first bytes of what is to be kept are some first bytes of the piece
pub kept_part : (keep : Option ℕ) (free : ℕ) (bytes : List ℕ) → (count : ℕ) × (count ≤ length bytes) × (take free (piece_of keep bytes) ≡ take count bytes)
kept_part None free bytes = (min free (length bytes), omega arith, sym (take_min free bytes))
kept_part (Some keep) free bytes = (min (min free keep) (length bytes), omega arith, take-take_min free keep bytes ∙ sym (take_min (min free keep) bytes))
