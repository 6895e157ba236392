-- All redo that waits is appended to the log.
use Rattle.std.specs.Prelude.{ℕ, ◌==◌, ◌&&◌, ◌||◌, not, nat_lt, Bool, true, false, List, [], ◌∷◌, fold, length, if◌then◌else◌, Option, None, Some, is_some, slice_index_or, slice_set}
use Rattle.std.specs.List.{list_any, range_with_len}
use Rattle.journal.specs.declared.entry.Entry.{Entry}
use Rattle.journal.specs.declared.entry.Entry.TheVariants.{Committed}
use Rattle.inst_set.specs.Sets.{all_insts}
use Rattle.scn_clock.specs.declared.clock.Clock.{Clock}
use Rattle.scn_clock.specs.Clock.{learnt}
use Rattle.rac_disk.specs.Calls.{Appends}
use Rattle.rac_disk.specs.State.{State}
use Rattle.redo_thread.specs.Thread.{ThreadState, end_of}
use Rattle.redo_thread.specs.Thread.{forced as thread_forced}
use Rattle.wire_net.specs.declared.message.Lane.{Lane}
use Rattle.wire_net.specs.declared.message.Lane.TheVariants.{Main, Undo}
use Rattle.wire_net.specs.declared.message.Message.{Message}
use Rattle.wire_net.specs.declared.message.Message.TheVariants.{CopyTo, NeedUndo, ShareTo, ShipTo}
use Rattle.txn_engine.specs.declared.ask.Decision.{Decision}
use Rattle.txn_engine.specs.declared.ask.Decision.TheVariants.{ForceFirst}
use Rattle.inst_state.specs.declared.inst.Inst.{Inst}
use Rattle.inst_state.specs.declared.inst.WaitingEnd.{WaitingEnd}
use Rattle.inst_state.specs.declared.session.Doing.{Doing}
use Rattle.inst_state.specs.declared.session.Doing.TheVariants.{Ends}
use Rattle.inst_state.specs.declared.session.Session.{Session}
use Rattle.inst_state.specs.declared.shared.Core.{Core}
use Rattle.inst_state.specs.Sessions.{is_idle, new_session}
use Rattle.inst_state.specs.Shared.{counting}
use Rattle.inst_state.specs.State.{end_waits, free_bytes, is_down, is_forced, may_begin, session_at, works}
use Rattle.stmt_steps.specs.Change.{change_decided}
use Rattle.image_steps.specs.Hear.{first_message}
use Rattle.inst_loss.specs.Lost.{lost}
use Rattle.inst_loss.specs.LostCore.{lost_core}
use Rattle.inst_loss.specs.declared.ends.Loss.TheVariants as loss
use Rattle.disk_steps.specs.Ready.{is_ready_but_forced}
use Rattle.disk_calls.specs.Calls.{GivesLengthAs, done, failed}
use Rattle.disk_calls.specs.declared.appends.Appended.{Appended}
use Rattle.disk_calls.specs.declared.appends.Appended.TheVariants.{Cut, Whole}
use Rattle.disk_steps.specs.Write.{is_due, redo_is_durable}

-- An end of a session's transaction waits for the disk.
abbrev pub has_session_end : Inst → Bool
has_session_end n = list_any (λ (end : WaitingEnd). is_some end.session) n.ends

-- A message, if there is one, asks for an image, a copy or a block of undo, which bears redo.
abbrev pub bears_redo : Option Message → Bool
bears_redo (Some (ShipTo block grant new_grant asker)) = true
bears_redo (Some (ShareTo block grant new_grant asker)) = true
bears_redo (Some (CopyTo block grant reader)) = true
bears_redo (Some (NeedUndo block job)) = true
bears_redo _ = false

-- What is first on the links from an instance asks for what bears redo.
abbrev pub asks_from : Inst → Core → ℕ → Bool
asks_from n core from = bears_redo (first_message n core from Main) || bears_redo (first_message n core from Undo)

-- What bears redo is asked for, first on some link.
unfoldable pub is_asked_for : Inst → Core → Bool
is_asked_for n core = list_any (asks_from n core) all_insts

-- A decision waits for the redo to be forced.
abbrev pub is_force_first : Option Decision → Bool
is_force_first (Some ForceFirst) = true
is_force_first _ = false

-- A session's next line waits only for an own end up to what is known.
abbrev pub start_waits : Inst → ℕ → Bool
start_waits n z =
    end_waits n && (session_at n z).connected && is_idle (session_at n z).doing && may_begin n z

-- A session's line waits for the redo to be forced.
abbrev pub line_waits : Inst → ℕ → Bool
line_waits n z = is_force_first (change_decided n z) || start_waits n z

-- Some session's line waits for the redo to be forced.
abbrev pub is_waited_for : Inst → Bool
is_waited_for n = works n && list_any (line_waits n) n.plan.mine

-- A block would be written but for its redo.
abbrev pub is_due_but_redo : Inst → Core → ℕ → Bool
is_due_but_redo n core block = is_due n core block && not (redo_is_durable n block)

-- Some block would be written but for its redo. No disk has more than 200 blocks.
unfoldable pub has_due_block : Inst → Core → Bool
has_due_block n core = list_any (is_due_but_redo n core) (range_with_len 0 200)

-- An end, a message or a session's line waits for the redo to be forced.
unfoldable pub is_awaited : Inst → Core → Bool
is_awaited n core = has_session_end n || is_asked_for n core || is_waited_for n

-- The buffer is nearly full, or a block waits for its redo to be forced.
unfoldable pub is_pressed : Inst → Core → Bool
is_pressed n core = nat_lt (free_bytes n) 236 || has_due_block n core

-- A checkpoint or a Reopen waits for the redo to be forced.
unfoldable pub ends_by_force : Inst → Core → Bool
ends_by_force n core = not (length n.wave.checkpoints == 0) || is_ready_but_forced n core

-- Redo is forced that waits, where that is wanted.
abbrev pub may_force : Inst → Core → Bool
may_force n core = not (is_down n.life) && not (is_forced n) && (is_awaited n core || is_pressed n core || ends_by_force n core)

-- a clock once an end is on the disk
abbrev pub end_learnt : Clock → WaitingEnd → Clock
end_learnt clock end = learnt clock end.scn

-- what a session does once its end is on the disk
abbrev pub with_end_on_disk : Doing → Doing
with_end_on_disk (Ends ending) = Ends (record ending { on_disk = true })
with_end_on_disk doing = doing

-- a session whose end is on the disk
abbrev pub end_on_disk : Session → Session
end_on_disk s = record s { doing = with_end_on_disk s.doing }

-- the sessions once an end is on the disk, if a session waits for it
abbrev pub session_on_disk : List Session → Option ℕ → List Session
session_on_disk sessions None = sessions
session_on_disk sessions (Some z) = slice_set sessions z (end_on_disk (slice_index_or sessions z new_session))

-- the sessions once an end is on the disk
abbrev pub end_told_to : List Session → WaitingEnd → List Session
end_told_to sessions end = session_on_disk sessions end.session

-- an instance all of whose redo is on the disk: it knows the ends
abbrev pub all_forced : Inst → Inst
all_forced n = record n {
  thread = thread_forced n.thread;
  clock = fold end_learnt n.clock n.ends;
  sessions = fold end_told_to n.sessions n.ends;
  ends = [];
}

-- a thread after a force, as its append went
abbrev pub thread_after : ThreadState → Appended → ThreadState
thread_after thread Whole = thread_forced thread
thread_after thread (Cut kept) = thread

-- A force of a thread failed, and then an instance asked for the length of its log.
pub record ForceCut (thread : ThreadState) (me : ℕ) (length : Option ℕ) (old new : State) : Type 0 where
  pub mid : State
  pub appends : Appends thread.number thread.waiting failed old mid
  pub asks : GivesLengthAs me length mid new

-- What a force of a thread left on the disk that went so.
abbrev pub ForcesAs : ThreadState → ℕ → Appended → State → State → Type 0
ForcesAs thread me Whole old new = Appends thread.number thread.waiting done old new
ForcesAs thread me (Cut length) old new = ForceCut thread me length old new

-- an instance after a force, as its append went
abbrev pub forced_as : Inst → Appended → Inst
forced_as n Whole = all_forced n
forced_as n (Cut kept) = lost n

-- a journal with a commit that is on the disk, if an end is one
abbrev pub commit_told : ℕ → List Entry → WaitingEnd → List Entry
commit_told me journal end = if end.commit then Committed end.xid end.scn me ∷ journal else journal

-- the shared part once all redo of an instance is on the disk: its commits have entered
abbrev pub all_told : Inst → Core → Core
all_told n core =
    counting (record core { journal = fold (commit_told n.plan.me) core.journal n.ends }) n.plan.me (end_of n.thread)

-- the shared part after a force, as its append went
abbrev pub force_told : Inst → Core → Appended → Core
force_told n core Whole = all_told n core
force_told n core (Cut kept) = lost_core n core (loss.Ended false) kept
