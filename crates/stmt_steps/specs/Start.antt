-- A session's next line starts.
use Rattle.std.specs.Prelude.{ℕ, ◌/◌, ◌&&◌, not, Bool, [], Option, None, Some}
use Rattle.base_types.specs.declared.names.Scn.{Scn}
use Rattle.journal.specs.declared.entry.Entry.{Entry}
use Rattle.journal.specs.declared.entry.Entry.TheVariants.{Started}
use Rattle.inst_state.specs.declared.inst.Inst.{Inst}
use Rattle.inst_state.specs.declared.line.Asks.{Asks}
use Rattle.inst_state.specs.declared.line.Asks.TheVariants.{Read}
use Rattle.inst_state.specs.declared.session.Doing.TheVariants.{Runs}
use Rattle.inst_state.specs.declared.session.Session.{Session}
use Rattle.inst_state.specs.Sessions.{is_idle}
use Rattle.inst_state.specs.State.{asks_at, end_waits, may_begin, session_at, stmt_at, with_session, works}

-- A line starts where its session is connected and nothing holds it, once each own end up to what is known is on the disk.
abbrev pub may_start : Inst → ℕ → Bool
may_start n z =
    works n && (session_at n z).connected && is_idle (session_at n z).doing && may_begin n z && not (end_waits n)

-- the block with which a line begins that reads; 0 for any other line
abbrev pub first_block : Option Asks → ℕ
first_block (Some (Read first last)) = first / 8
first_block _ = 0

-- a session whose line is under way and sees what was committed up to its snapshot
abbrev pub begun : Scn → ℕ → Session → Session
begun snapshot block s = record s {
  doing = Runs snapshot;
  job = record s.job { block = block; rows = []; copy = None; handed_for = None };
}

-- A line sees what is known as it starts.
abbrev pub started : Inst → ℕ → Inst
started n z = with_session n z (begun n.clock.known (first_block (asks_at n z)) (session_at n z))

-- what a start tells
abbrev pub start_tells : Inst → ℕ → Entry
start_tells n z = Started (stmt_at n z) z n.clock.known
