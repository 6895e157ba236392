-- When a session may be opened, and when a line of it may start and be answered.
use Rattle.std.specs.Prelude.{ℕ, Bool, true, false, not, ◌==◌, ◌&&◌, ◌||◌, nat_le}
use Rattle.std.specs.List.{list_all}
use Rattle.std.specs.Option.{option_map_or}
use Rattle.journal.specs.declared.entry.Entry.{Entry}
use Rattle.journal.specs.declared.entry.Entry.TheVariants.{Opened, Started}
use Rattle.journal.specs.Past.{Past}
use Rattle.journal.specs.Stood.{stood}
use Rattle.script_text.specs.declared.item.Stmt.{Stmt}
use Rattle.script_text.specs.declared.item.Stmt.TheVariants.{Put, Add, Del, Lock}
use Rattle.script_text.specs.ScriptParts.{ScriptParts}
use Rattle.script_text.specs.Lines.{answered, answers_stmt, stmt_at, opening}
use Rattle.script_text.specs.Reading.{items_of}
use Rattle.script_text.specs.Turns.{lines_of}
use Rattle.good_run.specs.Waves.{has_begun}

-- whether an entry starts a statement
abbrev pub starts : ℕ → Entry → Bool
starts stmt (Started started session snapshot) = stmt == started
starts stmt _ = false

-- whether an entry opens a session
abbrev pub opens : ℕ → Entry → Bool
opens session (Opened opened inst) = session == opened
opens session _ = false

-- whether a statement is under way: it started, and isn't answered
abbrev pub is_under_way : ℕ → Past → Bool
is_under_way stmt past = stood (starts stmt) past && not (stood (answers_stmt stmt) past)

-- A put, an add, a del and a lock may start again.
abbrev pub may_start_again : Stmt → Bool
may_start_again (Put row value) = true
may_start_again (Add row by) = true
may_start_again (Del row) = true
may_start_again (Lock row) = true
may_start_again _ = false

-- whether each earlier line of a session is answered
abbrev pub is_next : ScriptParts → ℕ → ℕ → Past → Bool
is_next parts session stmt past =
    list_all (λ line. nat_le stmt line || stood (answers_stmt line) past) (lines_of session (items_of parts))

-- A session is opened once. A statement starts after the answer of each earlier line of its session and before its own
-- answer, and only a change or a lock starts again. Opening, start and answer stand after all answers of earlier waves,
-- those of control lines included.
abbrev pub is_in_turn : (ℕ → Bool) → ScriptParts → Past → Entry → Bool
is_in_turn ever parts past (Opened session inst) =
    not (stood (opens session) past)
    && option_map_or (λ line. has_begun ever parts past line.0) (opening session (items_of parts)) false
is_in_turn ever parts past (Started stmt session snapshot) =
    has_begun ever parts past stmt && is_next parts session stmt past && not (stood (answers_stmt stmt) past)
    && (not (stood (starts stmt) past) || option_map_or (λ asked. may_start_again asked.1) (stmt_at parts stmt) false)
is_in_turn ever parts past e = option_map_or (has_begun ever parts past) (answered e) true
