-- The statement lines that a script lays down for a session.
use Rattle.std.specs.Prelude.{ℕ, ◌==◌, if◌then◌else◌, Bool, false, List, [], ◌∷◌, Option, None, Some, find, is_some}
use Rattle.std.specs.List.{flat_map, list_any}
use Rattle.std.specs.Option.{option_and_then, option_map}
use Rattle.script_text.specs.declared.item.Item.{Item}
use Rattle.script_text.specs.declared.item.Item.TheVariants.{Hold, Stmt as OfSession}
use Rattle.script_text.specs.declared.item.Stmt.{Stmt}
use Rattle.script_text.specs.declared.item.Stmt.TheVariants as stmt
use Rattle.txn_engine.specs.declared.ask.Wish.TheVariants as wish
use Rattle.inst_state.specs.declared.line.Asks.{Asks}
use Rattle.inst_state.specs.declared.line.Asks.TheVariants.{Change, Commit, Read, Rollback, RollbackTo, Savepoint}
use Rattle.inst_state.specs.declared.line.Line.{Line}
use Rattle.first_state.specs.declared.turns.Turn.{Turn}

-- what a statement asks
abbrev pub asks_of : Stmt → Asks
asks_of (stmt.Get row) = Read row row
asks_of (stmt.Scan first last) = Read first last
asks_of (stmt.Put row value) = Change row (wish.Put value)
asks_of (stmt.Add row by) = Change row (wish.Add by)
asks_of (stmt.Del row) = Change row wish.Del
asks_of (stmt.Lock row) = Change row wish.Lock
asks_of stmt.Commit = Commit
asks_of stmt.Rollback = Rollback
asks_of (stmt.Savepoint name) = Savepoint name
asks_of (stmt.RollbackTo name) = RollbackTo name

-- An item is a statement of a session.
abbrev pub is_stmt_of : ℕ → Item → Bool
is_stmt_of z (OfSession session what) = session == z
is_stmt_of z _ = false

-- the session that an item, a `hold` line, names as the one for which this reader waits
abbrev pub held_until : ℕ → Item → Option ℕ
held_until z (Hold reader until) = if reader == z then Some until else None
held_until z _ = None

-- the reader that an item, a `hold` line, names as the one behind which this session starts
abbrev pub held_behind : ℕ → Item → Option ℕ
held_behind z (Hold reader until) = if until == z then Some reader else None
held_behind z _ = None

-- the session for which a reader waits in a wave
abbrev pub until_in : ℕ → List (ℕ × Item) → Option ℕ
until_in z wave =
    option_and_then (λ line. held_until z line.1) (find (λ line. is_some (held_until z line.1)) wave)

-- the reader behind which a session starts in a wave
abbrev pub reader_in : ℕ → List (ℕ × Item) → Option ℕ
reader_in z wave =
    option_and_then (λ line. held_behind z line.1) (find (λ line. is_some (held_behind z line.1)) wave)

-- A session has a statement in a wave.
abbrev pub has_stmt : List (ℕ × Item) → ℕ → Bool
has_stmt wave z = list_any (λ line. is_stmt_of z line.1) wave

-- a session, if there is one and it has a statement in the wave
abbrev pub if_has_stmt : List (ℕ × Item) → Option ℕ → Option ℕ
if_has_stmt wave None = None
if_has_stmt wave (Some z) = if has_stmt wave z then Some z else None

-- the line of a session's first statement in a wave
abbrev pub first_stmt : ℕ → List (ℕ × Item) → Option ℕ
first_stmt z wave = option_map (λ line. line.0) (find (λ line. is_stmt_of z line.1) wave)

-- what the lines of a session in a wave have in common
abbrev pub turn_of : ℕ → ℕ × List (ℕ × Item) → Turn
turn_of z wave = record {
  session = z;
  wave = wave.0;
  first = first_stmt z wave.1;
  until = until_in z wave.1;
  behind = if_has_stmt wave.1 (reader_in z wave.1);
}

-- A line is the one that is named, if one is.
abbrev pub line_is : ℕ → Option ℕ → Bool
line_is line None = false
line_is line (Some first) = first == line

-- The first line waits for the session that a `hold` line names.
abbrev pub until_at : Turn → ℕ → Option ℕ
until_at turn line = if line_is line turn.first then turn.until else None

-- a statement line of a session
abbrev pub line_of : Turn → ℕ → Stmt → Line
line_of turn line what = record {
  stmt = line;
  wave = turn.wave;
  asks = asks_of what;
  until = until_at turn line;
  behind = turn.behind;
}

-- the line that an item gives the session, if it is a statement of it
abbrev pub lines_at : Turn → ℕ × Item → List Line
lines_at turn (line, OfSession session what) = if session == turn.session then line_of turn line what ∷ [] else []
lines_at turn _ = []

-- the lines of a session in a wave
abbrev pub wave_lines : ℕ → ℕ × List (ℕ × Item) → List Line
wave_lines z wave = flat_map (lines_at (turn_of z wave)) wave.1

-- the lines of a session in waves that are numbered
abbrev pub session_lines : ℕ → List (ℕ × List (ℕ × Item)) → List Line
session_lines z waves = flat_map (wave_lines z) waves
