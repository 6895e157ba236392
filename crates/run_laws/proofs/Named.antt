-- Each session that an entry names is one of the script.
use Rattle.std.proofs.Common.{◌<◌, ◌+◌, ℕ, Bool, true, false, List, [], ◌∷◌, ◌++◌, length, Option, None, Some}
use Rattle.std.specs.Prelude.{◌==◌, fold, if◌then◌else◌}
use Rattle.std.specs.List.{AllByRecursion}
use Rattle.base_types.specs.declared.names.RowNo.{RowNo}
use Rattle.redo_types.specs.declared.redo.Redo.{Redo}
use Rattle.redo_types.specs.declared.redo.RedoKind.{RedoKind}
use Rattle.redo_types.specs.declared.redo.RedoKind.TheVariants as kind
use Rattle.redo_record.specs.Redo.{length_of}
use Rattle.journal.specs.declared.cause.Cause.TheVariants as cause
use Rattle.journal.specs.declared.entry.Entry.{Entry}
use Rattle.journal.specs.declared.entry.Entry.TheVariants as entry
use Rattle.inst_set.specs.declared.set.InstSet.{InstSet}
use Rattle.inst_set.specs.Sets.{is_empty}
use Rattle.script_text.specs.ScriptParts.{ScriptParts}
use Rattle.wire_net.specs.declared.message.Message.{Message}
use Rattle.wire_net.specs.declared.message.Message.TheVariants.{Bucket, Grant}
use Rattle.wire_net.specs.declared.message.Packet.{Packet}
use Rattle.txn_engine.specs.declared.ask.Decision.{Decision}
use Rattle.txn_engine.specs.declared.ask.Decision.TheVariants as decision
use Rattle.cr_copy.specs.declared.made.Made.{Made}
use Rattle.cr_copy.specs.declared.made.Made.TheVariants as made
use Rattle.inst_state.specs.declared.control.Control.{Control}
use Rattle.inst_state.specs.declared.inst.Inst.{Inst}
use Rattle.inst_state.specs.declared.inst.Life.{Life}
use Rattle.inst_state.specs.declared.inst.Life.TheVariants.{Joining}
use Rattle.inst_state.specs.declared.inst.WaitingEnd.{WaitingEnd}
use Rattle.inst_state.specs.declared.plan.Opening.{Opening}
use Rattle.inst_state.specs.declared.session.Ending.{Ending}
use Rattle.inst_state.specs.declared.session.Session.{Session as SessionState}
use Rattle.inst_state.specs.declared.shared.Core.{Core}
use Rattle.inst_state.specs.Sessions.{is_idle}
use Rattle.inst_state.specs.Shared.{is_live}
use Rattle.inst_state.specs.State.{asks_at, session_at, stmt_at}
use Rattle.stmt_steps.specs.declared.answers.Answer.{Answer}
use Rattle.stmt_steps.specs.declared.answers.Answer.TheVariants as answer
use Rattle.stmt_steps.specs.declared.visits.RowRange.{RowRange}
use Rattle.stmt_steps.specs.Back.{undone}
use Rattle.stmt_steps.specs.Change.{decision_tells, record_tells, row_of}
use Rattle.stmt_steps.specs.End.{tells_if}
use Rattle.stmt_steps.specs.Mark.{commits, dead_tells_by, end_kind, end_tells, tells_by}
use Rattle.stmt_steps.specs.Visit.{is_last, rows_so_far, told_by}
use Rattle.inst_loss.specs.LostCore.{is_kept_commit, with_commit, with_refusal}
use Rattle.inst_loss.specs.declared.ends.Loss.{Loss}
use Rattle.inst_loss.specs.declared.ends.Loss.TheVariants as loss
use Rattle.disk_calls.specs.declared.appends.Appended.{Appended}
use Rattle.disk_calls.specs.declared.appends.Appended.TheVariants.{Cut, Whole}
use Rattle.disk_calls.specs.declared.images.ReadData.TheVariants as data_read
use Rattle.disk_calls.specs.declared.images.ReadUndo.TheVariants as undo_read
use Rattle.disk_calls.specs.declared.writes.Written.{Written}
use Rattle.disk_calls.specs.declared.writes.Written.TheVariants as written
use Rattle.disk_steps.specs.AskUndo.{place_of}
use Rattle.disk_steps.specs.Crash.{kept_to}
use Rattle.disk_steps.specs.Force.{commit_told}
use Rattle.disk_steps.specs.declared.crashes.Kept.{Kept}
use Rattle.disk_steps.specs.declared.crashes.Kept.TheVariants.{Bytes, Nothing}
use Rattle.disk_steps.specs.declared.installs.Installed.{Installed}
use Rattle.disk_steps.specs.declared.installs.Installed.TheVariants as installed
use Rattle.disk_steps.specs.declared.undo_asks.AskedUndo.{AskedUndo}
use Rattle.disk_steps.specs.declared.undo_asks.AskedUndo.TheVariants as asked_for
use Rattle.disk_steps.specs.declared.undo_asks.Lacking.{Lacking}
use Rattle.disk_steps.specs.declared.undo_asks.Lacking.TheVariants.{Sense, Undo as Lacks}
use Rattle.disk_steps.specs.declared.undo_asks.Place.{Place}
use Rattle.wave_steps.specs.Buckets.{first_move}
use Rattle.wave_steps.specs.Enter.{told_if}
use Rattle.report_steps.specs.Reopen.{bits_of, recovery_told, up_told}
use Rattle.thread_steps.specs.Read.{is_news, record_entered, records_entered}
use Rattle.thread_steps.specs.declared.closes.Closing.{Closing}
use Rattle.thread_steps.specs.declared.closes.Closing.TheVariants as closing
use Rattle.thread_steps.specs.declared.found.Found.{Found}
use Rattle.thread_steps.specs.declared.found.Found.TheVariants as found
use Rattle.thread_steps.specs.declared.found.FoundLog.{FoundLog}
use Rattle.rebuild_steps.specs.Join.{begun, with_segment}
use Rattle.rebuild_steps.specs.Open.{is_open, scns_of}
use Rattle.rebuild_steps.specs.Thaw.{opened_part}
use Rattle.rebuild_steps.specs.declared.joins.Joined.{Joined}
use Rattle.rebuild_steps.specs.declared.joins.Joined.TheVariants as joined
use Rattle.rebuild_steps.specs.declared.recovers.Recovered.{Recovered}
use Rattle.rebuild_steps.specs.declared.recovers.Recovered.TheVariants as recovered
use Rattle.rebuild_steps.specs.declared.thaws.Thawed.{Thawed}
use Rattle.rebuild_steps.specs.declared.thaws.Thawed.TheVariants as thawed
use Rattle.inst_node.specs.declared.hows.How.{How}
use Rattle.inst_node.specs.declared.hows.How.TheVariants as how
use Rattle.run_laws.specs.Sessions.{NamesSession}
use Rattle.run_laws.specs.Tells.{acked_tells, ask_at_tells, ask_tells_by, bucket_tells, checkpoint_tells, close_tells, crash_tells, force_tells, image_read_tells, install_tells_by, join_tells, join_tells_by, kept_tells, log_tells, loss_entry, lost_tells, move_tells, packet_tells, read_tells, recover_tells, recover_tells_by, skip_tells, stop_tells, thaw_tells, thaw_tells_by, undo_read_tells, write_tells}

-- Each session that these entries name is one of the script.
abbrev pub Named : ScriptParts → List Entry → Type 0
Named script entries = AllByRecursion (NamesSession script) entries

module _ (script : ScriptParts) where
  -- lists

  pub named_both : (xs ys : List Entry) → Named script xs → Named script ys → Named script (xs ++ ys)
  named_both [] ys first later = later
  named_both (x ∷ xs) ys first later = (first.0, named_both xs ys first.1 later)

  named_where : (b : Bool) (e : Entry) (es : List Entry) → NamesSession script e → Named script es → Named script (if b then e ∷ es else es)
  named_where true e es one all = (one, all)
  named_where false e es one all = all

  named_unless : (b : Bool) (e : Entry) (es : List Entry) → NamesSession script e → Named script es → Named script (if b then es else e ∷ es)
  named_unless true e es one all = all
  named_unless false e es one all = (one, all)

  named_fold : {A : Type 0} (f : List Entry → A → List Entry) → ((es : List Entry) (x : A) → Named script es → Named script (f es x))
      → (xs : List A) (es : List Entry) → Named script es → Named script (fold f es xs)
  named_fold {A = A} f kept [] es all = all
  named_fold {A = A} f kept (x ∷ xs) es all = named_fold f kept xs (f es x) (kept es x all)

  -- losses

  named_kept : (n : Inst) (kept : Option ℕ) → Named script (kept_tells n kept)
  named_kept n None = tt
  named_kept n (Some kept) =
      named_fold (with_commit n.plan.me kept)
      (λ (es : List Entry) (end : WaitingEnd) (all : Named script es). named_where (is_kept_commit kept end) (entry.Committed end.xid end.scn n.plan.me) es tt all)
      n.ends [] tt

  named_loss : (n : Inst) (it : Loss) → NamesSession script (loss_entry n it)
  named_loss n (loss.Crashed line) = tt
  named_loss n (loss.Ended bad) = tt

  pub named_lost : (n : Inst) (it : Loss) (kept : Option ℕ) → Named script (lost_tells n it kept)
  named_lost n it kept =
      named_both (fold (with_refusal n) [] n.plan.mine) (loss_entry n it ∷ kept_tells n kept)
      (named_fold (with_refusal n)
      (λ (es : List Entry) (z : ℕ) (all : Named script es). named_unless (is_idle (session_at n z).doing) (entry.Refused (stmt_at n z) cause.Lost) es tt all)
      n.plan.mine [] tt)
      (named_loss n it, named_kept n kept)

  -- sessions' lines

  pub named_rows : (stmt : ℕ) (range : RowRange) (it : Option Made) (s : SessionState) → Named script (told_by stmt range it s)
  named_rows stmt range (Some (made.Rows values)) s =
      named_where (is_last range s) (entry.Rows stmt (rows_so_far range values s)) [] tt tt
  named_rows stmt range (Some (made.TooOld why)) s = (tt, tt)
  named_rows stmt range _ s = tt

  named_record : (stmt : ℕ) (row : RowNo) (redo : Redo) (is : RedoKind) → NamesSession script (record_tells stmt row redo is)
  named_record stmt row redo kind.Lock = tt
  named_record stmt row redo _ = tt

  pub named_decision : (n : Inst) (z : ℕ) → z < length script.names → (it : Option Decision) → Named script (decision_tells n z it)
  named_decision n z there (Some (decision.Do redo)) = (named_record (stmt_at n z) (row_of (asks_at n z)) redo redo.kind, tt)
  named_decision n z there (Some (decision.Refuse why)) = (tt, tt)
  named_decision n z there (Some (decision.Restart end)) = (there, tt)
  named_decision n z there (Some decision.AlreadyMine) = (tt, tt)
  named_decision n z there _ = tt

  named_mark_as : (stmt : ℕ) (redo : Redo) (commit : Bool) → NamesSession script (end_tells stmt redo commit)
  named_mark_as stmt redo true = tt
  named_mark_as stmt redo false = tt

  pub named_mark : (n : Inst) (z : ℕ) (it : Option Redo) → Named script (tells_by n z it)
  named_mark n z None = tt
  named_mark n z (Some redo) = (named_mark_as (stmt_at n z) redo (commits (end_kind n z)), tt)

  pub named_undone : (it : Option Redo) (left : ℕ) → Named script (undone it left)
  named_undone None left = tt
  named_undone (Some redo) left = (tt, tt)

  pub named_answer : (stmt : ℕ) (it : Option Answer) → Named script (tells_if stmt it)
  named_answer stmt None = tt
  named_answer stmt (Some answer.Plain) = (tt, tt)
  named_answer stmt (Some answer.NoSavepoint) = (tt, tt)
  named_answer stmt (Some answer.NotConnected) = (tt, tt)

  pub named_dead_mark : (it : Option Redo) → Named script (dead_tells_by it)
  named_dead_mark None = tt
  named_dead_mark (Some redo) = (tt, tt)

  named_ack_as : (stmt : ℕ) (ending : Ending) (commit : Bool)
      → NamesSession script (if commit then entry.Acked stmt ending.xid ending.scn else entry.Plain stmt)
  named_ack_as stmt ending true = tt
  named_ack_as stmt ending false = tt

  pub named_ack : (stmt : ℕ) (ending : Option Ending) → Named script (acked_tells stmt ending)
  named_ack stmt None = tt
  named_ack stmt (Some ending) = (named_ack_as stmt ending ending.commit, tt)

  named_undo_read : (n : Inst) (it : AskedUndo) → Named script (undo_read_tells n it)
  named_undo_read n (asked_for.Read (undo_read.Head head)) = tt
  named_undo_read n (asked_for.Read (undo_read.Block block)) = tt
  named_undo_read n (asked_for.Read undo_read.Failed) = named_lost n (loss.Ended false) (Some 0)
  named_undo_read n _ = named_lost n (loss.Ended true) (Some 0)

  named_ask_where : (live : Bool) (n : Inst) (it : AskedUndo) → Named script (if live then [] else undo_read_tells n it)
  named_ask_where true n it = tt
  named_ask_where false n it = named_undo_read n it

  named_ask_at : (n : Inst) (core : Core) (place : Option Place) (it : AskedUndo) → Named script (ask_at_tells n core place it)
  named_ask_at n core None it = named_lost n (loss.Ended true) (Some 0)
  named_ask_at n core (Some place) it = named_ask_where (is_live core place.seg) n it

  pub named_ask : (n : Inst) (core : Core) (lack : Option Lacking) (it : AskedUndo) → Named script (ask_tells_by n core lack it)
  named_ask n core None it = tt
  named_ask n core (Some (Lacks what)) it = named_ask_at n core (place_of n.plan.layout what) it
  named_ask n core (Some Sense) it = named_lost n (loss.Ended true) (Some 0)

  -- blocks, messages and threads

  pub named_write : (n : Inst) (it : Written) → Named script (write_tells n it)
  named_write n written.Done = tt
  named_write n written.Failed = named_lost n (loss.Ended false) (Some 0)

  named_recovered : (n : Inst) (it : Recovered) → Named script (recover_tells n it)
  named_recovered n (recovered.Done stood version) = tt
  named_recovered n (recovered.Unwritten stood) = named_lost n (loss.Ended false) (Some 0)
  named_recovered n (recovered.Unrolled stood) = named_lost n (loss.Ended true) (Some 0)
  named_recovered n recovered.Bad = named_lost n (loss.Ended true) (Some 0)
  named_recovered n recovered.Unread = named_lost n (loss.Ended false) (Some 0)

  pub named_recover : (n : Inst) (it : How) → Named script (recover_tells_by n it)
  named_recover n (how.Recovered it) = named_recovered n it
  named_recover n _ = tt

  named_image : (n : Inst) (it : Installed) → Named script (image_read_tells n it)
  named_image n (installed.Read (data_read.Image image)) = tt
  named_image n (installed.Read data_read.Failed) = named_lost n (loss.Ended false) (Some 0)
  named_image n _ = named_lost n (loss.Ended true) (Some 0)

  pub named_install : (n : Inst) (message : Option Message) (it : Installed) → Named script (install_tells_by n message it)
  named_install n (Some (Grant block grant mode true)) it = named_image n it
  named_install n (Some (Grant block grant mode false)) it = tt
  named_install n _ it = tt

  pub named_move : (control : Option Control) → Named script (move_tells control)
  named_move None = tt
  named_move (Some control) = (tt, tt)

  named_bucket : (core : Core) (me : ℕ) (message : Message) → Named script (bucket_tells core me message)
  named_bucket core me (Bucket bucket entries) = named_move (first_move core bucket me)
  named_bucket core me _ = tt

  pub named_packet : (core : Core) (me : ℕ) (packet : Option Packet) → Named script (packet_tells core me packet)
  named_packet core me None = tt
  named_packet core me (Some packet) = named_bucket core me packet.message

  named_records : (thread at : ℕ) (records : List Redo) (core : Core) → Named script core.journal
      → Named script (records_entered thread at records core).journal
  named_records thread at [] core all = all
  named_records thread at (redo ∷ records) core all =
      let behind = at + length_of redo.kind in
      named_records thread behind records (record_entered thread behind redo core)
      (named_where (is_news core thread behind redo) (entry.Committed redo.xid redo.scn thread) core.journal tt all)

  named_log : (core : Core) (thread : ℕ) (log : FoundLog) → Named script (log_tells core thread log)
  named_log core thread log = named_records thread log.position log.read.records (record core { journal = [] }) tt

  pub named_read : (n : Inst) (core : Core) (thread : ℕ) (it : Found) → Named script (read_tells n core thread it)
  named_read n core thread (found.Closed scns) = tt
  named_read n core thread (found.Unread bad) = named_lost n (loss.Ended bad) (Some 0)
  named_read n core thread (found.Stopped log bad) =
      named_both (stop_tells n bad) (log_tells core thread log) (named_lost n (loss.Ended bad) (Some 0)) (named_log core thread log)
  named_read n core thread (found.Whole log versions) = named_log core thread log

  pub named_close : (n : Inst) (it : Closing) → Named script (close_tells n it)
  named_close n closing.Done = tt
  named_close n _ = named_lost n (loss.Ended false) (Some 0)

  -- control lines

  pub named_crash : (n : Inst) (control : Option Control) (it : Kept) → Named script (crash_tells n control it)
  named_crash n None it = tt
  named_crash n (Some control) Nothing = named_lost n (loss.Crashed control.line) (Some n.thread.durable)
  named_crash n (Some control) (Bytes Whole) = named_lost n (loss.Crashed control.line) (Some (kept_to n control))
  named_crash n (Some control) (Bytes (Cut kept)) = named_lost n (loss.Ended false) kept

  pub named_checkpoint : (n : Inst) (line : ℕ) (it : Written) → Named script (checkpoint_tells n line it)
  named_checkpoint n line written.Done = (tt, tt)
  named_checkpoint n line written.Failed = named_lost n (loss.Ended false) (Some 0)

  pub named_skip : (control : Option Control) → Named script (skip_tells control)
  named_skip None = tt
  named_skip (Some control) = (tt, tt)

  named_open_or_stop : (runs_now : Bool) (n : Inst) → Named script (if runs_now then [] else stop_tells n false)
  named_open_or_stop true n = tt
  named_open_or_stop false n = named_lost n (loss.Ended false) (Some 0)

  named_joined : (n : Inst) (core : Core) (it : Joined) → Named script (join_tells n core it)
  named_joined n core joined.Dark = tt
  named_joined n core (joined.Read own it) = named_open_or_stop (is_open it) (with_segment n own.value (scns_of n core) it)
  named_joined n core joined.Bad = named_lost n (loss.Ended true) (Some 0)
  named_joined n core joined.Unread = named_lost n (loss.Ended false) (Some 0)

  pub named_join : (n : Inst) (core : Core) (line : ℕ) (it : How) → Named script (join_tells_by n core line it)
  named_join n core line (how.Joined it) = named_joined (begun n core line) core it
  named_join n core line _ = tt

  -- the instance alone

  pub named_openings : (me wave : ℕ) (openings : List Opening) → AllByRecursion (λ (opening : Opening). opening.session < length script.names) openings
      → (es : List Entry) → Named script es → Named script (fold (told_if me wave) es openings)
  named_openings me wave [] there es all = all
  named_openings me wave (opening ∷ openings) there es all =
      named_openings me wave openings there.1 (told_if me wave es opening)
      (named_where (opening.wave == wave) (entry.Opened opening.session me) es there.0 all)

  pub named_force : (n : Inst) (it : Appended) → Named script (force_tells n it)
  named_force n Whole =
      named_fold (commit_told n.plan.me)
      (λ (es : List Entry) (end : WaitingEnd) (all : Named script es). named_where end.commit (entry.Committed end.xid end.scn n.plan.me) es tt all)
      n.ends [] tt
  named_force n (Cut kept) = named_lost n (loss.Ended false) kept

  named_thawed : (n : Inst) (core : Core) (it : Thawed) → Named script (thaw_tells n core it)
  named_thawed n core (thawed.Done opening owns) = tt
  named_thawed n core (thawed.Unopened opening) = named_lost (opened_part n core opening) (loss.Ended false) (Some 0)
  named_thawed n core (thawed.Bad opening) = named_lost (opened_part n core opening) (loss.Ended true) (Some 0)
  named_thawed n core (thawed.Unread opening) = named_lost (opened_part n core opening) (loss.Ended false) (Some 0)

  pub named_thaw : (n : Inst) (core : Core) (it : How) → Named script (thaw_tells_by n core it)
  named_thaw n core (how.Thawed it) = named_thawed n core it
  named_thaw n core _ = tt

  pub named_reopen : (closed : InstSet) → Named script (recovery_told closed [])
  named_reopen closed = named_unless (is_empty closed) (entry.Recovered (bits_of closed)) [] tt tt

  pub named_up : (me : ℕ) (life : Life) → Named script (up_told me life [])
  named_up me (Joining line) = (tt, tt)
  named_up me _ = tt
