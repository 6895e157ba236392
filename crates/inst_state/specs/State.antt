-- How an instance's part is read.
use Rattle.std.specs.Prelude.{ℕ, ◌-◌, ◌^◌, ◌==◌, ◌&&◌, if◌then◌else◌, nat_le, nat_lt, not, max, Bool, true, false, length, Option, None, Some, is_some, slice_get, slice_index_or, slice_set}
use Rattle.std.specs.List.{list_any}
use Rattle.std.specs.Option.{option_and_then, option_map}
use Rattle.base_types.specs.declared.names.Scn.{Scn}
use Rattle.redo_thread.specs.Thread.{end_of}
use Rattle.inst_state.specs.declared.inst.Inst.{Inst}
use Rattle.inst_state.specs.declared.inst.Life.{Life}
use Rattle.inst_state.specs.declared.inst.Life.TheVariants.{Down, Joining, Up}
use Rattle.inst_state.specs.declared.line.Asks.{Asks}
use Rattle.inst_state.specs.declared.line.Line.{Line}
use Rattle.inst_state.specs.declared.session.Session.{Session}
use Rattle.inst_state.specs.Sessions.{is_idle, new_session}

-- An instance is up.
abbrev pub is_up : Life → Bool
is_up Up = true
is_up _ = false

-- An instance is down.
abbrev pub is_down : Life → Bool
is_down Down = true
is_down _ = false

-- An instance makes local steps for its sessions: it is up, and not paused.
abbrev pub works : Inst → Bool
works n = is_up n.life && not n.paused

-- a session of an instance
abbrev pub session_at : Inst → ℕ → Session
session_at n z = slice_index_or n.sessions z new_session

-- the instance with this as a session
abbrev pub with_session : Inst → ℕ → Session → Inst
with_session n z s = record n { sessions = slice_set n.sessions z s }

-- a session's next line
abbrev pub line_at : Inst → ℕ → Option Line
line_at n z = option_and_then (λ lines. slice_get lines (session_at n z).next) (slice_get n.plan.lines z)

-- what a session's next line asks
abbrev pub asks_at : Inst → ℕ → Option Asks
asks_at n z = option_map (λ line. line.asks) (line_at n z)

-- the number of a line, 0 without one
abbrev pub stmt_of : Option Line → ℕ
stmt_of None = 0
stmt_of (Some line) = line.stmt

-- the number of a session's next line
abbrev pub stmt_at : Inst → ℕ → ℕ
stmt_at n z = stmt_of (line_at n z)

-- a line, if it is of a wave
abbrev pub in_wave : ℕ → Option Line → Option Line
in_wave wave None = None
in_wave wave (Some line) = if line.wave == wave then Some line else None

-- a session's next line, if it is of the wave that its instance is in
abbrev pub line_now : Inst → ℕ → Option Line
line_now n z = in_wave n.wave.entered (line_at n z)

-- the session until whose last answer a line waits
abbrev pub until_of : Option Line → Option ℕ
until_of None = None
until_of (Some line) = line.until

-- the session behind whose start a line waits
abbrev pub behind_of : Option Line → Option ℕ
behind_of None = None
behind_of (Some line) = line.behind

-- a session that is waited for, if there is one, has lines of the wave left
abbrev pub has_lines_left : Inst → Option ℕ → Bool
has_lines_left n None = false
has_lines_left n (Some z) = is_some (line_now n z)

-- A `hold` line keeps a session's line from all but its first start.
abbrev pub is_stopped : Inst → ℕ → Bool
is_stopped n z = has_lines_left n (until_of (line_now n z))

-- A reader that a `hold` line names hasn't started its first line of the wave, if there is one.
abbrev pub is_before_first : Inst → Option ℕ → Bool
is_before_first n None = false
is_before_first n (Some reader) = is_some (until_of (line_now n reader)) && is_idle (session_at n reader).doing

-- A session has a line of the wave, and no `hold` line keeps it from its start.
abbrev pub may_begin : Inst → ℕ → Bool
may_begin n z = is_some (line_now n z) && not (is_before_first n (behind_of (line_now n z)))

-- An own end up to what is known waits for the disk.
abbrev pub end_waits : Inst → Bool
end_waits n = list_any (λ end. nat_le end.scn n.clock.known) n.ends

-- how many bytes of the redo buffer are free
abbrev pub free_bytes : Inst → ℕ
free_bytes n = 65536 - length n.thread.waiting

-- There is room for one more record, whatever its kind.
abbrev pub has_room : Inst → Bool
has_room n = nat_le 236 (free_bytes n) && nat_lt (end_of n.thread) (2 ^ 62) && nat_lt n.clock.scn (2 ^ 62)

-- No redo waits.
abbrev pub is_forced : Inst → Bool
is_forced n = length n.thread.waiting == 0

-- an SCN up to which each own record is on the disk
abbrev pub on_disk : Inst → Scn
on_disk n = if is_forced n then n.clock.scn else max n.thread.durable_scn n.entry_scns.scn

-- the place behind the last own record on a data block
abbrev pub newest_at : Inst → ℕ → ℕ
newest_at n block = slice_index_or n.newest block 0

-- The own redo of a data block is on the disk.
abbrev pub is_durable : Inst → ℕ → Bool
is_durable n block = nat_le (newest_at n block) n.thread.durable
