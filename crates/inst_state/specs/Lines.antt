-- What a line asks.
use Rattle.std.specs.Prelude.{Bool, true, false}
use Rattle.inst_state.specs.declared.line.Asks.{Asks}
use Rattle.inst_state.specs.declared.line.Asks.TheVariants.{Commit, Read}

-- It reads rows.
abbrev pub is_read : Asks → Bool
is_read (Read first last) = true
is_read _ = false

-- It is a commit.
abbrev pub is_commit : Asks → Bool
is_commit Commit = true
is_commit _ = false
