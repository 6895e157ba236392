-- What a session sees: the table at its statement's snapshot, overlaid by what its own transaction changed.
use Rattle.std.specs.Prelude.{ℕ, List, [], ◌∷◌, ◌++◌, Option, Some, None, Bool, false, ◌==◌, if◌then◌else◌}
use Rattle.std.specs.Option.{option_and_then, option_map_or}
use Rattle.base_types.specs.declared.names.Xid.{Xid}
use Rattle.base_types.specs.declared.value.Value.{Value}
use Rattle.journal.specs.declared.entry.Entry.{Entry}
use Rattle.journal.specs.declared.entry.Entry.TheVariants.{Changed, Locked, Crashed, Ended}
use Rattle.journal.specs.declared.deeds.Change.{Change}
use Rattle.journal.specs.declared.deeds.Commit.{Commit}
use Rattle.journal.specs.declared.deeds.Start.{Start}
use Rattle.journal.specs.Past.{Past, start_of, home_of}
use Rattle.journal.specs.Standing.{changes_of, standing, is_open}
use Rattle.journal.specs.History.{changes_up_to, value_by}

-- whether a statement is of a session, by its last start
abbrev pub is_of : ℕ → ℕ → Past → Bool
is_of session stmt past = option_map_or (λ start. start.session == session) (start_of stmt past) false

-- whether a session was last opened on an instance
abbrev pub is_home : ℕ → ℕ → Past → Bool
is_home session inst past = option_map_or (λ home. inst == home) (home_of session past) false

-- the transaction of the last change entry of a session's statements since its instance was last lost
abbrev pub last_after : ℕ → Entry → Past → Option Xid → Option Xid
last_after session (Changed stmt x row found new) past before = if is_of session stmt past then Some x else before
last_after session (Locked stmt x row) past before = if is_of session stmt past then Some x else before
last_after session (Crashed line inst) past before = if is_home session inst past then None else before
last_after session (Ended inst bad) past before = if is_home session inst past then None else before
last_after session _ past before = before

abbrev pub last_of : ℕ → Past → Option Xid
last_of session [] = None
last_of session (e ∷ past) = last_after session e past (last_of session past)

-- a session's own transaction: that one where it is open
abbrev pub own : ℕ → Past → Option Xid
own session past = option_and_then (λ x. if is_open x past then Some x else None) (last_of session past)

-- the changes of a session's own transaction that stand, the newest first
abbrev pub own_changes : ℕ → Past → List Change
own_changes session past = option_map_or (λ x. changes_of (standing x past)) (own session past) []

-- What a session sees in a row at a place, by the commits of the whole journal up to its snapshot. Of its own
-- changes and the commits' the newest counts, its own first.
abbrev pub sees : List Commit → Past → Start → ℕ → Value
sees commits past start row = value_by (own_changes start.session past ++ changes_up_to start.snapshot commits) row
