-- What the instances share once one of them has ended.
use Rattle.std.specs.Prelude.{ℕ, ◌&&◌, if◌then◌else◌, nat_le, Bool, List, [], ◌∷◌, fold, Option, None, Some}
use Rattle.journal.specs.declared.cause.Cause.TheVariants as cause
use Rattle.journal.specs.declared.entry.Entry.{Entry}
use Rattle.journal.specs.declared.entry.Entry.TheVariants.{Committed, Crashed, Ended, Refused}
use Rattle.inst_set.specs.Sets.{without_inst}
use Rattle.recovery.specs.Members.{left_by}
use Rattle.recovery.specs.Reports.{no_reports}
use Rattle.wire_net.specs.Links.{no_packets}
use Rattle.inst_state.specs.declared.inst.Inst.{Inst}
use Rattle.inst_state.specs.declared.inst.Life.{Life}
use Rattle.inst_state.specs.declared.inst.Life.TheVariants.{Joining}
use Rattle.inst_state.specs.declared.inst.WaitingEnd.{WaitingEnd}
use Rattle.inst_state.specs.declared.shared.Core.{Core}
use Rattle.inst_state.specs.declared.shared.Recovery.{Recovery}
use Rattle.inst_state.specs.Sessions.{is_idle}
use Rattle.inst_state.specs.Shared.{answering, counting, told}
use Rattle.inst_state.specs.State.{session_at, stmt_at}
use Rattle.inst_loss.specs.declared.ends.Loss.{Loss}
use Rattle.inst_loss.specs.declared.ends.Loss.TheVariants as loss

-- An end is a commit whose record is whole in a log of this length.
abbrev pub is_kept_commit : ℕ → WaitingEnd → Bool
is_kept_commit kept end = end.commit && nat_le end.behind kept

-- a journal with an end told, if it is a commit whose record is whole in the log
abbrev pub with_commit : ℕ → ℕ → List Entry → WaitingEnd → List Entry
with_commit me kept journal end =
    if is_kept_commit kept end then Committed end.xid end.scn me ∷ journal else journal

-- The commits of an instance enter whose records are whole in its log, in the order of their records, where the length of
-- the log is told.
abbrev pub kept_told : Inst → Core → Option ℕ → Core
kept_told n core None = core
kept_told n core (Some kept) =
    counting (record core { journal = fold (with_commit n.plan.me kept) core.journal n.ends }) n.plan.me kept

-- The start line is answered by which an instance is on its way up, if it is.
abbrev pub start_answered : Life → Core → Core
start_answered (Joining line) core = answering core line
start_answered _ core = core

-- It is told how an instance ends: a crash answers the line that asks for it.
abbrev pub loss_told : Inst → Core → Loss → Core
loss_told n core (loss.Crashed line) = told (answering core line) (Crashed line n.plan.me)
loss_told n core (loss.Ended bad) = told (start_answered n.life core) (Ended n.plan.me bad)

-- a journal with a session's line refused, if it is under way
abbrev pub with_refusal : Inst → List Entry → ℕ → List Entry
with_refusal n journal z =
    if is_idle (session_at n z).doing then journal else Refused (stmt_at n z) cause.Lost ∷ journal

-- Each line of an instance that is under way is refused, in the order of the sessions.
abbrev pub refusals_told : Inst → Core → Core
refusals_told n core = record core { journal = fold (with_refusal n) core.journal n.plan.mine }

-- what recovery has come to once an instance isn't live any more: what the others reported is forgotten
abbrev pub forgotten : ℕ → Recovery → Recovery
forgotten me recovery =
    record recovery { reports = no_reports; given = []; rebuilt = []; former = without_inst recovery.former me }

-- The membership changes as an instance isn't live any more: no message is under way.
abbrev pub left_core : ℕ → Core → Core
left_core me core = record core {
  net = record core.net { links = no_packets };
  members = left_by core.members me;
  paused = without_inst core.paused me;
  recovery = forgotten me core.recovery;
}

-- what the instances share once one of them has ended
abbrev pub lost_core : Inst → Core → Loss → Option ℕ → Core
lost_core n core how kept = left_core n.plan.me (refusals_told n (loss_told n (kept_told n core kept) how))
