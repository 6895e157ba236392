-- The lines that tell a journal, entry by entry.
use Rattle.std.specs.Prelude.{ℕ, ◌==◌, if◌then◌else◌, List, [], codes}
use Rattle.std.specs.Prelude.{decimal, flat_map, slice_get, unwrap_or}
use Rattle.std.specs.Int.{bit_at}
use Rattle.std.specs.List.{range_with_len}
use Rattle.std.specs.Option.{option_map_or}
use Rattle.base_types.specs.Texts.{value_text, xid_text}
use Rattle.journal.specs.declared.entry.Entry.{Entry}
use Rattle.journal.specs.declared.entry.Entry.TheVariants.{Opened, Started, Rows, Changed, Locked, Marked, Committed}
use Rattle.journal.specs.declared.entry.Entry.TheVariants.{Acked, Undone, Rolled, Plain, Refused, Crashed, Ended}
use Rattle.journal.specs.declared.entry.Entry.TheVariants.{Recovered, Up, Moved, Checkpointed, NotDone}
use Rattle.script_text.specs.Lines.{session_in}
use Rattle.script_text.specs.ScriptParts.{ScriptParts}
use Rattle.run_report.specs.Texts.{◌⧺◌, rows_text, cause_text}

-- The name of the session that an entry names; nothing where it names none, or none that the script has.
abbrev pub name_of : ScriptParts → Entry → List ℕ
name_of script entry = option_map_or (λ session. unwrap_or (slice_get script.names session) []) (session_in entry) []

-- An instance that is among those whose bits are set prints after a space.
abbrev pub member_text : ℕ → ℕ → List ℕ
member_text insts inst = if bit_at insts inst == 1 then codes " " ⧺ decimal inst else []

-- The instances whose bits are set print in order, each after a space.
abbrev pub members_text : ℕ → List ℕ
members_text insts = flat_map (member_text insts) (range_with_len 0 8)

-- An entry of an instance or of a control line.
abbrev pub inst_text : Entry → List ℕ
inst_text (Crashed line inst) = codes "crashed " ⧺ decimal line ⧺ codes " " ⧺ decimal inst
inst_text (Ended inst _) = codes "ended " ⧺ decimal inst
inst_text (Up line inst) = codes "up " ⧺ decimal line ⧺ codes " " ⧺ decimal inst
inst_text (Recovered insts) = codes "recovered" ⧺ members_text insts
inst_text (Moved line) = codes "moved " ⧺ decimal line
inst_text (Checkpointed line) = codes "checkpointed " ⧺ decimal line
inst_text (NotDone line) = codes "notdone " ⧺ decimal line
inst_text _ = []

-- An entry that names a transaction, or one as above.
abbrev pub xid_entry_text : Entry → List ℕ
xid_entry_text (Changed stmt xid row found new) =
    codes "changed " ⧺ decimal stmt ⧺ codes " " ⧺ xid_text xid ⧺ codes " " ⧺ decimal row
    ⧺ codes " " ⧺ value_text found ⧺ codes " " ⧺ value_text new
xid_entry_text (Locked stmt xid row) =
    codes "locked " ⧺ decimal stmt ⧺ codes " " ⧺ xid_text xid ⧺ codes " " ⧺ decimal row
xid_entry_text (Marked stmt xid commit_scn) = codes "marked " ⧺ decimal stmt ⧺ codes " " ⧺ xid_text xid ⧺ codes " " ⧺ decimal commit_scn
xid_entry_text (Committed xid commit_scn inst) =
    codes "committed " ⧺ xid_text xid ⧺ codes " " ⧺ decimal commit_scn ⧺ codes " " ⧺ decimal inst
xid_entry_text (Acked stmt xid commit_scn) = codes "acked " ⧺ decimal stmt ⧺ codes " " ⧺ xid_text xid ⧺ codes " " ⧺ decimal commit_scn
xid_entry_text (Undone xid left) = codes "undone " ⧺ xid_text xid ⧺ codes " " ⧺ decimal left
xid_entry_text (Rolled xid) = codes "rolled " ⧺ xid_text xid
xid_entry_text entry = inst_text entry

-- Any entry, with the name of the session that it names.
abbrev pub entry_text : List ℕ → Entry → List ℕ
entry_text name (Opened _ inst) = codes "opened " ⧺ name ⧺ codes " " ⧺ decimal inst
entry_text name (Started stmt _ snapshot) = codes "started " ⧺ decimal stmt ⧺ codes " " ⧺ name ⧺ codes " " ⧺ decimal snapshot
entry_text _ (Rows stmt rows) = codes "rows " ⧺ decimal stmt ⧺ codes " " ⧺ rows_text rows
entry_text _ (Refused stmt cause) = codes "refused " ⧺ decimal stmt ⧺ codes " " ⧺ cause_text cause
entry_text _ (Plain stmt) = codes "plain " ⧺ decimal stmt
entry_text _ entry = xid_entry_text entry

-- The line that tells an entry.
abbrev pub journal_line : ScriptParts → Entry → List ℕ
journal_line script entry = entry_text (name_of script entry) entry ⧺ codes "\n"
