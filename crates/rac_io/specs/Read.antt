-- What a read does to the bytes that a source has left, where it tells them (`None` where it doesn't).
use Rattle.std.specs.Prelude.{◌≡◌, ◌≤◌, ◌<◌, ℕ, Bool, List, [], length, take, ◌++◌, Option, IfSome, MatchBool}
use Rattle.std.specs.Io.KnownBytes.{Consumes, Keeps, IsAtEnd}
use Rattle.rac_io.specs.declared.source.Got.{Got}
use Rattle.rac_io.specs.declared.source.Got.TheVariants.{Bytes, End, Failed}

-- a read gives at most the bytes that fit its room
abbrev pub FitsRoom : Got → List ℕ → Type 0
FitsRoom (Bytes count) room = count ≤ length room
FitsRoom End room = Unit {0}
FitsRoom Failed room = Unit {0}

-- A read takes the bytes that it gives, which stand first in the room. No byte where there is room, and the end,
-- come only where nothing is left. A read that failed takes nothing.
abbrev pub ReadTakes : Option (List ℕ) → Option (List ℕ) → Got → List ℕ → Type 0
ReadTakes old new (Bytes count) room = Consumes old new (take count room) × (count ≡ 0 → 0 < length room → IsAtEnd new)
ReadTakes old new End room = Consumes old new [] × IsAtEnd new
ReadTakes old new Failed room = Keeps old new

-- What a read up to a limit gave: the bytes up to the end, or the first `limit` of them.
pub record ReadsUpTo (limit : ℕ) (old new : Option (List ℕ)) (bytes : List ℕ) : Type 0 where
  -- no more bytes than the limit
  pub within : length bytes ≤ limit
  -- the first bytes of what was left
  pub first : IfSome old (λ all. bytes ≡ take limit all)
  -- what is left is what stood behind them
  pub rest : Consumes old new bytes
  -- below the limit nothing is left, and they are all that was left
  pub ended : length bytes < limit → IsAtEnd new
  pub whole : length bytes < limit → IfSome old (λ all. bytes ≡ all)

-- up to so many bytes were taken of what was left
abbrev pub TakesUpTo : ℕ → Option (List ℕ) → Option (List ℕ) → Type 0
TakesUpTo limit old new = (taken : List ℕ) × (length taken ≤ limit) × Consumes old new taken

-- What one read added to the bytes that were read before: what it took, at least a byte, or nothing at the end.
pub record Gains (limit : ℕ) (old new : Option (List ℕ)) (before now : List ℕ) (more : Bool) : Type 0 where
  pub within : length now ≤ limit
  pub taken : (piece : List ℕ) × (now ≡ before ++ piece) × Consumes old new piece
  pub ended : MatchBool more (length before < length now) (IsAtEnd new)
