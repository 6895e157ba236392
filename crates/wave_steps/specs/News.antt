-- The end of a session's transaction is told to the other instances, and heard.
use Rattle.std.specs.Prelude.{ℕ, ◌==◌, ◌&&◌, if◌then◌else◌, not, Bool, true, false, fold, map, Option, None, Some}
use Rattle.base_types.specs.declared.names.Scn.{Scn}
use Rattle.inst_set.specs.Sets.{all_insts, no_insts, with_inst}
use Rattle.scn_clock.specs.Clock.{learnt, raised}
use Rattle.wire_net.specs.declared.message.Lane.TheVariants.{Main}
use Rattle.wire_net.specs.declared.message.Message.{Message}
use Rattle.wire_net.specs.declared.message.Message.TheVariants.{Commit, Heard}
use Rattle.wire_net.specs.declared.message.Packet.{Packet}
use Rattle.inst_state.specs.declared.inst.Inst.{Inst}
use Rattle.inst_state.specs.declared.session.Doing.{Doing}
use Rattle.inst_state.specs.declared.session.Doing.TheVariants.{Ends}
use Rattle.inst_state.specs.declared.session.Ending.{Ending}
use Rattle.inst_state.specs.declared.session.Session.{Session}
use Rattle.inst_state.specs.declared.shared.Core.{Core}
use Rattle.inst_state.specs.Sending.{first_from, sending, without_first}
use Rattle.inst_state.specs.Sessions.{ending_of}
use Rattle.inst_state.specs.Shared.{has_other_live, is_live}
use Rattle.inst_state.specs.State.{session_at, with_session}

-- an end, if there is one and its record is on the disk
abbrev pub if_on_disk : Option Ending → Option Ending
if_on_disk None = None
if_on_disk (Some ending) = if ending.on_disk then Some ending else None

-- the end that a session waits for, once its record is on the disk
abbrev pub durable_ending : Inst → ℕ → Option Ending
durable_ending n z = if_on_disk (ending_of (session_at n z).doing)

-- An epoch, if there is one, is this one.
abbrev pub is_epoch : ℕ → Option ℕ → Bool
is_epoch epoch None = false
is_epoch epoch (Some told) = told == epoch

-- An end, if there is one, wasn't told in this epoch.
abbrev pub is_untold : ℕ → Option Ending → Bool
is_untold epoch None = false
is_untold epoch (Some ending) = not (is_epoch epoch ending.told)

-- An end is told once it is on the disk, where another instance is live and it wasn't told in this epoch.
abbrev pub may_broadcast : Inst → Core → ℕ → Bool
may_broadcast n core z = has_other_live core n.plan.me && is_untold core.members.epoch (durable_ending n z)

-- an end that was told in an epoch, and that nobody has heard of there
abbrev pub told_in : ℕ → Ending → Ending
told_in epoch ending = record ending { told = Some epoch; heard = no_insts }

-- a session that waits for an end
abbrev pub ending_by : Ending → Session → Session
ending_by ending s = record s { doing = Ends ending }

-- an instance after the end of a session, if there is one, was told
abbrev pub with_told : Inst → ℕ → ℕ → Option Ending → Inst
with_told n epoch z None = n
with_told n epoch z (Some ending) = with_session n z (ending_by (told_in epoch ending) (session_at n z))

-- an instance after it has told the end of a session
abbrev pub broadcast : Inst → Core → ℕ → Inst
broadcast n core z = with_told n core.members.epoch z (durable_ending n z)

-- An instance is live, and another one than this.
abbrev pub is_other_live : Core → ℕ → ℕ → Bool
is_other_live core me other = not (other == me) && is_live core other

-- the shared part after an end was sent to an instance, if that is another live one
abbrev pub sent_if : ℕ → Scn → Scn → Core → ℕ → Core
sent_if me scn end core to = if is_other_live core me to then sending core me scn to (Commit end) else core

-- the shared part after an end was sent to each other live instance, in the order of their numbers
unfoldable pub sent_to_others : ℕ → Scn → Scn → Core → Core
sent_to_others me scn end core = fold (sent_if me scn end) core all_insts

-- the shared part after an end, if there is one, was sent to each other live instance
abbrev pub with_news : Inst → Core → Option Ending → Core
with_news n core None = core
with_news n core (Some ending) = sent_to_others n.plan.me n.clock.scn ending.scn core

-- the shared part after an instance has told the end of a session
abbrev pub broadcast_core : Inst → Core → ℕ → Core
broadcast_core n core z = with_news n core (durable_ending n z)

-- A message tells of an end, or that one was heard of.
abbrev pub is_news : Message → Bool
is_news (Commit c) = true
is_news (Heard c) = true
is_news _ = false

-- A packet, if there is one, tells of an end, or that one was heard of.
abbrev pub bears_news : Option Packet → Bool
bears_news None = false
bears_news (Some packet) = is_news packet.message

-- An instance hears what is first on the link from another one.
abbrev pub may_hear : Inst → Core → ℕ → Bool
may_hear n core from = bears_news (first_from core from n.plan.me Main)

-- an end, of which an instance has heard if it has this SCN and was told in this epoch
abbrev pub heard_if : ℕ → ℕ → Scn → Ending → Ending
heard_if epoch from c ending =
    if ending.scn == c && is_epoch epoch ending.told then record ending { heard = with_inst ending.heard from }
    else ending

-- what a session does, once an instance has heard of the end at an SCN
abbrev pub heard_doing : ℕ → ℕ → Scn → Doing → Doing
heard_doing epoch from c (Ends ending) = Ends (heard_if epoch from c ending)
heard_doing epoch from c doing = doing

-- a session, once an instance has heard of the end at an SCN
abbrev pub heard_by : ℕ → ℕ → Scn → Session → Session
heard_by epoch from c s = record s { doing = heard_doing epoch from c s.doing }

-- An instance learns an end that another one tells of, and notes who has heard of its own ones.
abbrev pub hearing : Inst → ℕ → ℕ → Message → Inst
hearing n epoch from (Commit c) = record n { clock = learnt n.clock c }
hearing n epoch from (Heard c) = record n { sessions = map (heard_by epoch from c) n.sessions }
hearing n epoch from _ = n

-- an instance after it has heard a packet, if there is one: its clock is raised
abbrev pub hearing_packet : Inst → ℕ → ℕ → Option Packet → Inst
hearing_packet n epoch from None = n
hearing_packet n epoch from (Some packet) =
    hearing (record n { clock = raised n.clock packet.scn }) epoch from packet.message

-- an instance after it has heard what was first on the link from another one
abbrev pub heard : Inst → Core → ℕ → Inst
heard n core from = hearing_packet n core.members.epoch from (first_from core from n.plan.me Main)

-- the shared part after an instance has answered news: it says that it has heard of an end
abbrev pub answering_news : Core → ℕ → Scn → ℕ → Message → Core
answering_news core me scn from (Commit c) = sending core me scn from (Heard c)
answering_news core me scn from _ = core

-- the shared part after an instance has answered a packet, if there is one
abbrev pub answering_packet : Core → ℕ → Scn → ℕ → Option Packet → Core
answering_packet core me scn from None = core
answering_packet core me scn from (Some packet) = answering_news core me scn from packet.message

-- the shared part after an instance has heard what was first on the link from another one
abbrev pub heard_core : Inst → Core → ℕ → Core
heard_core n core from =
    answering_packet
    (without_first core from n.plan.me Main)
    n.plan.me
    (heard n core from).clock.scn
    from
    (first_from core from n.plan.me Main)
