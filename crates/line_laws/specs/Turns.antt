-- When the lines of sessions start and are answered.
use Rattle.std.specs.Prelude.{◌≡◌, ℕ, ◌-◌, ◌<◌, ◌≤◌, take, true, Option, None, Some, IsSomeAnd}
use Rattle.std.specs.List.{count_by}
use Rattle.journal.specs.declared.entry.Entry.{Entry}
use Rattle.journal.specs.declared.entry.Entry.TheVariants.{Started}
use Rattle.journal.specs.Past.{Each, Past}
use Rattle.journal.specs.Stood.{stood}
use Rattle.script_text.specs.declared.item.Stmt.{Stmt}
use Rattle.script_text.specs.ScriptParts.{ScriptParts}
use Rattle.script_text.specs.GoodLines.{IsStarted}
use Rattle.script_text.specs.Lines.{answered, answers_stmt, AreAnswered, last_answer, stmt_at}
use Rattle.script_text.specs.Reading.{joined}

-- Each earlier statement line of a session is answered.
abbrev pub AreEarlierAnswered : ScriptParts → ℕ → ℕ → Past → Type 0
AreEarlierAnswered script z n past =
    (m : ℕ) (what : Stmt) → m < n → stmt_at script m ≡ Some (z, what) → stood (answers_stmt m) past ≡ true

-- A line is the next one of its session: the earlier ones are answered, and neither it nor a later one is.
pub record IsNext (script : ScriptParts) (z n : ℕ) (past : Past) : Type 0 where
  pub unanswered : last_answer script z past < n
  pub earlier : AreEarlierAnswered script z n past

-- An entry that answers a line, if one does, answers the next one of its session, and after a start of the line unless the
-- session isn't connected.
abbrev pub IsAnsweredInTurn : ScriptParts → Past → Entry → Option ℕ → Type 0
IsAnsweredInTurn script past e None = Unit {0}
IsAnsweredInTurn script past e (Some n) =
    IsSomeAnd (stmt_at script n) (λ stmt. IsNext script stmt.0 n past × IsStarted e n past)

-- A line starts, also when it starts again, as the next one of its session.
abbrev pub IsStartedInTurn : ScriptParts → Past → Entry → Type 0
IsStartedInTurn script past (Started n z s) = IsSomeAnd (stmt_at script n) (λ stmt. stmt.0 ≡ z) × IsNext script z n past
IsStartedInTurn script past _ = Unit {0}

-- An entry that starts or answers a line has its turn.
abbrev pub IsInTurn : ScriptParts → Past → Entry → Type 0
IsInTurn script past e = IsAnsweredInTurn script past e (answered e) × IsStartedInTurn script past e

-- Each start and each answer of a journal has its turn.
abbrev pub AreInTurn : ScriptParts → Past → Type 0
AreInTurn script past = Each (IsInTurn script) past

-- Each line is answered at most once.
abbrev pub AreAnsweredOnce : Past → Type 0
AreAnsweredOnce past = (n : ℕ) → count_by (answers_stmt n) past ≤ 1

-- Each statement line of the waves before the one with this number is answered.
abbrev pub AreEarlierWavesAnswered : ScriptParts → ℕ → Past → Type 0
AreEarlierWavesAnswered script wave past = AreAnswered (joined (take (wave - 1) script.waves)) past
