-- Counts of what goes wrong: 64 bits each, which stop at the last value.
use Rattle.std.specs.Prelude.{◌≡◌, ◌≤◌, ◌+◌, ◌-◌, ◌^◌, ℕ, min}

-- the count rose, or stands at its end
abbrev pub Rose : ℕ → ℕ → Type 0
Rose before now = min (before + 1) (2 ^ 64 - 1) ≤ now

-- A count of what goes wrong, before a call and now: it never falls, it rose where the call went wrong, and it
-- stayed as it was where it didn't.
pub record Counts (wrong : Type 0) (before now : ℕ) : Type 0 where
  pub later : before ≤ now
  pub failed : wrong → Rose before now
  pub calm : (wrong → ⊥) → now ≡ before
