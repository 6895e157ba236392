-- What a session does.
use Rattle.std.specs.Prelude.{ℕ, ◌+◌, ◌-◌, ◌^◌, min, Bool, true, false, [], Option, None, Some}
use Rattle.base_types.specs.declared.names.Scn.{Scn}
use Rattle.inst_state.specs.declared.session.Doing.{Doing}
use Rattle.inst_state.specs.declared.session.Doing.TheVariants.{Ends, Idle, Runs}
use Rattle.inst_state.specs.declared.session.Ending.{Ending}
use Rattle.inst_state.specs.declared.session.Job.{Job}
use Rattle.inst_state.specs.declared.session.Session.{Session}

-- The next line hasn't started yet.
abbrev pub is_idle : Doing → Bool
is_idle Idle = true
is_idle _ = false

-- the SCN up to which a line sees that is under way
abbrev pub snapshot_of : Doing → Option Scn
snapshot_of (Runs snapshot) = Some snapshot
snapshot_of _ = None

-- the end that a session waits for
abbrev pub ending_of : Doing → Option Ending
ending_of (Ends ending) = Some ending
ending_of _ = None

-- nothing is at hand
abbrev pub new_job : Job
new_job = record {
  block = 0;
  rows = [];
  copy = None;
  handed = record { heads = []; blocks = [] };
  handed_for = None;
  undo_out = None;
}

-- a session that wasn't opened yet
abbrev pub new_session : Session
new_session =
    record { connected = false; next = 0; doing = Idle; own = None; standing = 0; marks = []; job = new_job }

-- a session whose line was answered
abbrev pub answered : Session → Session
answered s = record s { next = min (s.next + 1) (2 ^ 64 - 1); doing = Idle }
