-- What the control lines of a script, and its ends and rollbacks, may leave in a journal.
use Rattle.std.specs.Prelude.{ℕ, ◌+◌, Bool, true, false, not, length, Option, Some, None, ◌==◌, ◌&&◌, ◌||◌}
use Rattle.std.specs.List.{list_any}
use Rattle.std.specs.Option.{option_map_or}
use Rattle.base_types.specs.declared.names.Xid.{Xid}
use Rattle.journal.specs.declared.entry.Entry.{Entry}
use Rattle.journal.specs.declared.entry.Entry.TheVariants.{Marked, Undone, Rolled, Crashed}
use Rattle.journal.specs.declared.entry.Entry.TheVariants.{Up, Moved, Checkpointed, NotDone}
use Rattle.journal.specs.Past.{Past, same_xid, is_up}
use Rattle.journal.specs.Standing.{standing}
use Rattle.journal.specs.Sees.{own}
use Rattle.journal.specs.Stood.{stood}
use Rattle.script_text.specs.declared.item.Item.{Item}
use Rattle.script_text.specs.declared.item.Item.TheVariants as items
use Rattle.script_text.specs.declared.item.Stmt.{Stmt}
use Rattle.script_text.specs.declared.item.Stmt.TheVariants.{Commit, Rollback, RollbackTo}
use Rattle.script_text.specs.ScriptParts.{ScriptParts}
use Rattle.script_text.specs.Lines.{stmt_at}
use Rattle.script_text.specs.Reading.{items_of, item_in}
use Rattle.good_run.specs.Waves.{wave_at, lines_in}
use Rattle.good_run.specs.Turns.{is_under_way}

-- the control line that an entry names
abbrev pub control_line : Entry → Option ℕ
control_line (Crashed line inst) = Some line
control_line (Up line inst) = Some line
control_line (Moved line) = Some line
control_line (Checkpointed line) = Some line
control_line (NotDone line) = Some line
control_line _ = None

-- whether an item asks that an instance crash
abbrev pub asks_crash : ℕ → Item → Bool
asks_crash inst (items.CrashAfter named steps keep) = inst == named
asks_crash inst (items.CrashMark named keep) = inst == named
asks_crash inst _ = false

-- whether an item asks that an instance start
abbrev pub asks_start : ℕ → Item → Bool
asks_start inst (items.Start named) = inst == named
asks_start inst _ = false

-- whether an item asks that a bucket move
abbrev pub asks_move : Item → Bool
asks_move (items.Remaster bucket to) = true
asks_move _ = false

-- whether an item asks for a checkpoint
abbrev pub asks_checkpoint : Item → Bool
asks_checkpoint (items.Checkpoint inst) = true
asks_checkpoint _ = false

-- whether an item is a control line
abbrev pub is_control : Item → Bool
is_control (items.Session session inst) = false
is_control (items.Stmt session what) = false
is_control (items.Hold reader until) = false
is_control _ = true

-- whether an item asks for what an entry tells of a control line
abbrev pub asks_for : Entry → Item → Bool
asks_for (Crashed line inst) item = asks_crash inst item
asks_for (Up line inst) item = asks_start inst item
asks_for (Moved line) item = asks_move item
asks_for (Checkpointed line) item = asks_checkpoint item
asks_for (NotDone line) item = is_control item
asks_for _ item = false

-- whether an entry names a control line
abbrev pub names_line : ℕ → Entry → Bool
names_line line e = option_map_or (λ named. named == line) (control_line e) false

-- An entry that names a control line stands where that line of the current wave asks for it, at most once.
abbrev pub is_asked_by : (ℕ → Bool) → ScriptParts → Past → Entry → ℕ → Bool
is_asked_by ever parts past e line =
    option_map_or (asks_for e) (item_in (lines_in parts (wave_at ever parts past)) line) false
    && not (stood (names_line line) past)

-- whether a session owns a transaction
abbrev pub owns : ℕ → Xid → Past → Bool
owns session x past = option_map_or (same_xid x) (own session past) false

-- whether a statement is a commit
abbrev pub is_commit : Stmt → Bool
is_commit Commit = true
is_commit _ = false

-- whether a statement is a whole rollback
abbrev pub is_rollback : Stmt → Bool
is_rollback Rollback = true
is_rollback _ = false

-- whether a statement takes deeds back
abbrev pub takes_back : Stmt → Bool
takes_back Rollback = true
takes_back (RollbackTo name) = true
takes_back _ = false

-- whether such a statement of the session that owns a transaction is under way
abbrev pub is_ending : (Stmt → Bool) → Xid → Past → ℕ → Item → Bool
is_ending test x past line (items.Stmt session what) = is_under_way line past && owns session x past && test what
is_ending test x past line _ = false

abbrev pub some_is_ending : (Stmt → Bool) → ScriptParts → Xid → Past → Bool
some_is_ending test parts x past = list_any (λ line. is_ending test x past line.0 line.1) (items_of parts)

-- A transaction is marked while that commit of its session is under way. It is rolled back while a rollback of its
-- session is under way, or while its instance is down. A deed of it is taken back while its session rolls back, which
-- leaves one less, or while its instance is down, which leaves none.
abbrev pub end_is_proper : ScriptParts → Past → Entry → Bool
end_is_proper parts past (Marked stmt x commit_scn) =
    option_map_or (λ asked. is_under_way stmt past && owns asked.0 x past && is_commit asked.1) (stmt_at parts stmt) false
end_is_proper parts past (Rolled x) = some_is_ending is_rollback parts x past || not (is_up x.seg past)
end_is_proper parts past (Undone x left) =
    some_is_ending takes_back parts x past && (left + 1 == length (standing x past))
    || not (is_up x.seg past) && (left == 0)
end_is_proper parts past _ = true

-- what control lines leave is asked, and what ends a transaction is proper
abbrev pub is_controlled : (ℕ → Bool) → ScriptParts → Past → Entry → Bool
is_controlled ever parts past e =
    option_map_or (is_asked_by ever parts past e) (control_line e) true && end_is_proper parts past e
