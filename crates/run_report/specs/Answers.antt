-- Which entry answers a line, and what the report says of it.
use Rattle.std.specs.Prelude.{ℕ, Bool, false, List, Option, Some, None, codes, ◌==◌}
use Rattle.std.specs.Option.{option_map_or}
use Rattle.journal.specs.declared.entry.Entry.{Entry}
use Rattle.journal.specs.declared.entry.Entry.TheVariants.{Rows, Changed, Locked, Acked, Plain, Refused}
use Rattle.journal.specs.declared.entry.Entry.TheVariants.{Crashed, Up, Moved, Checkpointed, NotDone}
use Rattle.script_text.specs.declared.item.Item.{Item}
use Rattle.script_text.specs.declared.item.Item.TheVariants.{CrashAfter, CrashMark, Start, Remaster, Checkpoint}
use Rattle.script_text.specs.declared.item.Item.TheVariants.{Stmt as Statement}
use Rattle.script_text.specs.declared.item.Stmt.{Stmt}
use Rattle.script_text.specs.declared.item.Stmt.TheVariants.{Lock, Commit, Rollback, Savepoint, RollbackTo}
use Rattle.run_report.specs.Texts.{◌⧺◌, rows_text, cause_text}

-- A Plain says what its statement did, where that is anything; a get, a scan or a change has no Plain.
abbrev pub plain_text : Stmt → Option (List ℕ)
plain_text (Lock _) = Some (codes "locked")
plain_text Commit = Some (codes "committed")
plain_text Rollback = Some (codes "rolled back")
plain_text (RollbackTo _) = Some (codes "rolled back")
plain_text (Savepoint _) = Some (codes "savepoint")
plain_text _ = None

-- What an entry says as the answer of a statement, whatever that asked.
abbrev pub full_text : Entry → Option (List ℕ)
full_text (Rows _ rows) = Some (codes "rows " ⧺ rows_text rows)
full_text (Changed _ _ _ _ _) = Some (codes "changed")
full_text (Locked _ _ _) = Some (codes "locked")
full_text (Acked _ _ _) = Some (codes "committed")
full_text (Refused _ cause) = Some (cause_text cause)
full_text _ = None

-- What an entry says as the answer of a statement.
abbrev pub stmt_text : Stmt → Entry → Option (List ℕ)
stmt_text what (Plain _) = plain_text what
stmt_text _ entry = full_text entry

-- What an entry says as the answer of a crash line.
abbrev pub crash_text : Entry → Option (List ℕ)
crash_text (Crashed _ _) = Some (codes "crashed")
crash_text (NotDone _) = Some (codes "already down")
crash_text _ = None

-- What an entry says as the answer of a start line.
abbrev pub start_text : Entry → Option (List ℕ)
start_text (Up _ _) = Some (codes "up")
start_text (NotDone _) = Some (codes "already up")
start_text _ = None

-- What an entry says as the answer of a remaster line.
abbrev pub remaster_text : Entry → Option (List ℕ)
remaster_text (Moved _) = Some (codes "moved")
remaster_text (NotDone _) = Some (codes "not moved")
remaster_text _ = None

-- What an entry says as the answer of a checkpoint line.
abbrev pub checkpoint_text : Entry → Option (List ℕ)
checkpoint_text (Checkpointed _) = Some (codes "checkpointed")
checkpoint_text (NotDone _) = Some (codes "not done")
checkpoint_text _ = None

-- What an entry says as the answer of a line; nothing where it is no answer of such a line.
abbrev pub answer_text : Item → Entry → Option (List ℕ)
answer_text (Statement _ what) entry = stmt_text what entry
answer_text (CrashAfter _ _ _) entry = crash_text entry
answer_text (CrashMark _ _) entry = crash_text entry
answer_text (Start _) entry = start_text entry
answer_text (Remaster _ _) entry = remaster_text entry
answer_text (Checkpoint _) entry = checkpoint_text entry
answer_text _ entry = None

-- The line that an entry answers by its number.
abbrev pub answered_line : Entry → Option ℕ
answered_line (Rows line _) = Some line
answered_line (Changed line _ _ _ _) = Some line
answered_line (Locked line _ _) = Some line
answered_line (Acked line _ _) = Some line
answered_line (Plain line) = Some line
answered_line (Refused line _) = Some line
answered_line (Crashed line _) = Some line
answered_line (Up line _) = Some line
answered_line (Moved line) = Some line
answered_line (Checkpointed line) = Some line
answered_line (NotDone line) = Some line
answered_line _ = None

-- Whether an entry answers a line by its number.
abbrev pub answers : ℕ → Entry → Bool
answers line entry = option_map_or (λ answered. answered == line) (answered_line entry) false
