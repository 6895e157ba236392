-- The entries before a place of a journal, and what they say of statements, sessions and instances.
use Rattle.std.specs.Prelude.{ℕ, List, [], ◌∷◌, Option, Some, None, Bool, true, false, ◌==◌, ◌&&◌, if◌then◌else◌}
use Rattle.base_types.specs.declared.names.Xid.{Xid}
use Rattle.journal.specs.declared.entry.Entry.{Entry}
use Rattle.journal.specs.declared.entry.Entry.TheVariants.{Opened, Started, Crashed, Ended, Up}
use Rattle.journal.specs.declared.deeds.Start.{Start}

-- the entries before a place, the newest first; a whole journal is the past of what comes next
abbrev pub Past : Type 0
Past = List Entry

-- a fact of each entry of a journal and of the entries before it
abbrev pub Each : (Past → Entry → Type 0) → Past → Type 0
Each P [] = Unit {0}
Each P (e ∷ past) = P past e × Each P past

-- whether two names of transactions are one
abbrev pub same_xid : Xid → Xid → Bool
same_xid x y = x.seg == y.seg && x.slot == y.slot && x.wrap == y.wrap

-- the last start of a statement
abbrev pub start_after : ℕ → Entry → Option Start → Option Start
start_after stmt (Started started session snapshot) before =
    if stmt == started then Some (record { session = session; snapshot = snapshot }) else before
start_after stmt _ before = before

abbrev pub start_of : ℕ → Past → Option Start
start_of stmt [] = None
start_of stmt (e ∷ past) = start_after stmt e (start_of stmt past)

-- the instance that a session was last opened on
abbrev pub home_after : ℕ → Entry → Option ℕ → Option ℕ
home_after session (Opened opened inst) before = if session == opened then Some inst else before
home_after session _ before = before

abbrev pub home_of : ℕ → Past → Option ℕ
home_of session [] = None
home_of session (e ∷ past) = home_after session e (home_of session past)

-- whether an entry is a loss of an instance: it crashed, or ended by a fault
abbrev pub is_loss_of : ℕ → Entry → Bool
is_loss_of inst (Crashed line lost) = inst == lost
is_loss_of inst (Ended lost bad) = inst == lost
is_loss_of inst _ = false

-- an instance is up where nothing of it was lost, or it came up after the last loss
abbrev pub up_after : ℕ → Entry → Bool → Bool
up_after inst (Up line started) before = if inst == started then true else before
up_after inst e before = if is_loss_of inst e then false else before

abbrev pub is_up : ℕ → Past → Bool
is_up inst [] = true
is_up inst (e ∷ past) = up_after inst e (is_up inst past)
