-- A line is answered without a block.
use Rattle.std.specs.Prelude.{ℕ, ◌&&◌, ◌||◌, not, if◌then◌else◌, Bool, true, false, List, [], ◌∷◌, Option, None, Some, is_none, is_some, slice_get}
use Rattle.std.specs.Option.{option_and_then, option_map}
use Rattle.journal.specs.declared.cause.Cause.TheVariants as cause
use Rattle.journal.specs.declared.entry.Entry.{Entry}
use Rattle.journal.specs.declared.entry.Entry.TheVariants as entry
use Rattle.script_text.specs.GoodLines.{Mark, mark_of, up_to}
use Rattle.script_text.specs.Spelling.{is_name}
use Rattle.savepoints.specs.Marks.{with_mark}
use Rattle.inst_state.specs.declared.inst.Inst.{Inst}
use Rattle.inst_state.specs.declared.line.Asks.{Asks}
use Rattle.inst_state.specs.declared.line.Asks.TheVariants.{Commit, Rollback, RollbackTo, Savepoint}
use Rattle.inst_state.specs.declared.plan.Plan.{Plan}
use Rattle.inst_state.specs.declared.session.Session.{Session}
use Rattle.inst_state.specs.Needs.{stands_above}
use Rattle.inst_state.specs.Sessions.{answered, is_idle, snapshot_of}
use Rattle.inst_state.specs.State.{asks_at, is_stopped, is_up, line_now, session_at, stmt_at, with_session}
use Rattle.stmt_steps.specs.declared.answers.Answer.{Answer}
use Rattle.stmt_steps.specs.declared.answers.Answer.TheVariants.{NoSavepoint, NotConnected, Plain}

-- A commit or a rollback has nothing to end, where its session has no transaction.
abbrev pub if_no_txn : Session → Option Answer
if_no_txn s = if is_none s.own then Some Plain else None

-- A rollback to a savepoint is answered once nothing above it stands, or where there is no such savepoint.
abbrev pub if_back_at : Session → Option ℕ → Option Answer
if_back_at s None = Some NoSavepoint
if_back_at s (Some count) = if stands_above s (Some count) then None else Some Plain

-- the answer of a line that is under way and needs no block, by what it asks
abbrev pub answer_of : Session → Option Asks → Option Answer
answer_of s (Some Commit) = if_no_txn s
answer_of s (Some Rollback) = if_no_txn s
answer_of s (Some (Savepoint name)) = Some Plain
answer_of s (Some (RollbackTo name)) = if_back_at s (mark_of name s.marks)
answer_of s _ = None

-- A connected session's line is under way, and nothing stops it.
abbrev pub is_going : Inst → ℕ → Bool
is_going n z = is_up n.life && not (is_stopped n z) && is_some (snapshot_of (session_at n z).doing)

-- the answer of a line of a session that isn't connected, where it hasn't started
abbrev pub if_lost : Session → Option Answer
if_lost s = if is_idle s.doing then Some NotConnected else None

-- the answer of a session's line of the wave, where it needs no block
abbrev pub answer_at : Inst → ℕ → Option Answer
answer_at n z =
    if n.paused || is_none (line_now n z) then None
    else if not (session_at n z).connected then if_lost (session_at n z)
    else if is_going n z then answer_of (session_at n z) (asks_at n z)
    else None

-- A line may be answered without a block.
abbrev pub may_end : Inst → ℕ → Bool
may_end n z = is_some (answer_at n z)

-- the savepoints once one more is set, by its name, if that is one
abbrev pub mark_set : List ℕ → ℕ → List Mark → List Mark
mark_set name count marks = if is_name name then with_mark name count marks else marks

-- the savepoints after a line that was done, by what it asks and how many changes and locks stand
abbrev pub marks_done : List Mark → ℕ → Option Asks → List Mark
marks_done marks standing (Some Commit) = []
marks_done marks standing (Some Rollback) = []
marks_done marks standing (Some (Savepoint name)) = mark_set name standing marks
marks_done marks standing (Some (RollbackTo name)) = up_to name marks
marks_done marks standing _ = marks

-- the savepoints after an answer: a refusal leaves them
abbrev pub marks_after : List Mark → ℕ → Option Asks → Answer → List Mark
marks_after marks standing asks Plain = marks_done marks standing asks
marks_after marks standing asks _ = marks

-- a session whose line has this answer
abbrev pub ended_as : Option Asks → Answer → Session → Session
ended_as asks answer s = answered (record s { marks = marks_after s.marks s.standing asks answer })

-- what the line at a place among a session's lines asks
abbrev pub asks_in : Plan → ℕ → ℕ → Option Asks
asks_in plan z next =
    option_map (λ line. line.asks) (option_and_then (λ lines. slice_get lines next) (slice_get plan.lines z))

-- an instance after a line's answer, if there is one
abbrev pub ended_by : Inst → ℕ → Option Answer → Inst
ended_by n z None = n
ended_by n z (Some answer) = with_session n z (ended_as (asks_at n z) answer (session_at n z))

-- an instance after a line was answered without a block
abbrev pub ended : Inst → ℕ → Inst
ended n z = ended_by n z (answer_at n z)

-- what an answer tells
abbrev pub answer_tells : ℕ → Answer → Entry
answer_tells stmt Plain = entry.Plain stmt
answer_tells stmt NoSavepoint = entry.Refused stmt cause.NoSavepoint
answer_tells stmt NotConnected = entry.Refused stmt cause.NotConnected

-- what an answer tells, if there is one
abbrev pub tells_if : ℕ → Option Answer → List Entry
tells_if stmt None = []
tells_if stmt (Some answer) = answer_tells stmt answer ∷ []

-- what a line that is answered without a block tells
abbrev pub end_tells : Inst → ℕ → List Entry
end_tells n z = tells_if (stmt_at n z) (answer_at n z)
