-- A session is answered whose transaction has ended.
use Rattle.std.specs.Prelude.{ℕ, ◌&&◌, ◌||◌, if◌then◌else◌, not, Bool, false, [], Option, None, Some}
use Rattle.std.specs.List.{list_all}
use Rattle.inst_set.specs.Sets.{all_insts, has}
use Rattle.journal.specs.declared.entry.Entry.{Entry}
use Rattle.journal.specs.declared.entry.Entry.TheVariants.{Acked, Plain}
use Rattle.inst_state.specs.declared.inst.Inst.{Inst}
use Rattle.inst_state.specs.declared.session.Ending.{Ending}
use Rattle.inst_state.specs.declared.session.Session.{Session}
use Rattle.inst_state.specs.declared.shared.Core.{Core}
use Rattle.inst_state.specs.Sessions.{answered}
use Rattle.inst_state.specs.Shared.{told}
use Rattle.inst_state.specs.State.{session_at, stmt_at, with_session}
use Rattle.wave_steps.specs.News.{durable_ending, is_epoch, is_other_live}

-- An instance has heard of an end in this epoch, or it isn't another live one.
abbrev pub has_heard : Core → ℕ → Ending → ℕ → Bool
has_heard core me ending other =
    not (is_other_live core me other) || is_epoch core.members.epoch ending.told && has ending.heard other

-- Each other live instance has heard of an end in this epoch.
abbrev pub is_heard : Core → ℕ → Ending → Bool
is_heard core me ending = list_all (has_heard core me ending) all_insts

-- An end, if there is one, has been heard of.
abbrev pub is_end_heard : Core → ℕ → Option Ending → Bool
is_end_heard core me None = false
is_end_heard core me (Some ending) = is_heard core me ending

-- An end is answered once it is on the disk and each other live instance has heard of it in this epoch.
abbrev pub may_ack : Inst → Core → ℕ → Bool
may_ack n core z = is_end_heard core n.plan.me (durable_ending n z)

-- a session whose end was answered: its savepoints are gone
abbrev pub acked_session : Session → Session
acked_session s = record (answered s) { marks = [] }

-- an instance after the end of a session, if there is one, was answered
abbrev pub with_acked : Inst → ℕ → Option Ending → Inst
with_acked n z None = n
with_acked n z (Some ending) = with_session n z (acked_session (session_at n z))

-- an instance after it has answered the end of a session
abbrev pub acked : Inst → ℕ → Inst
acked n z = with_acked n z (durable_ending n z)

-- what the answer to an end tells: a commit is acknowledged
abbrev pub ack_tells : ℕ → Ending → Entry
ack_tells stmt ending = if ending.commit then Acked stmt ending.xid ending.scn else Plain stmt

-- the shared part after an end, if there is one, was answered
abbrev pub ack_told : Core → ℕ → Option Ending → Core
ack_told core stmt None = core
ack_told core stmt (Some ending) = told core (ack_tells stmt ending)

-- the shared part after an instance has answered the end of a session
abbrev pub acked_core : Inst → Core → ℕ → Core
acked_core n core z = ack_told core (stmt_at n z) (durable_ending n z)
