-- What each step that calls the disk tells, and what it did to the disk's counts.
use Rattle.std.proofs.Common.{◌≡◌, ◌+◌, ℕ, Bool, true, false, List, [], ◌∷◌, ◌∙◌, refl, Option, None, Some}
use Rattle.std.specs.Prelude.{if◌then◌else◌, not, Result, Ok, Err}
use Rattle.journal.specs.declared.entry.Entry.{Entry}
use Rattle.journal.specs.declared.entry.Entry.TheVariants as entry
use Rattle.base_types.specs.declared.layout.Layout.{Layout}
use Rattle.block_image.specs.Block.{BlockContent}
use Rattle.rac_disk.specs.State.{PutBehind, State}
use Rattle.redo_merge.specs.declared.tagged.Tagged.{Tagged}
use Rattle.redo_thread.specs.Thread.{ThreadState}
use Rattle.redo_types.specs.declared.redo.Redo.{Redo}
use Rattle.redo_record.specs.Redo.{length_of}
use Rattle.scn_clock.specs.declared.clock.Clock.{Clock}
use Rattle.control_image.specs.declared.entry.ControlEntry.{ControlEntry}
use Rattle.control_image.specs.Entry.{entry_bytes}
use Rattle.undo_segment.specs.Segment.{SegmentState}
use Rattle.undo_segment.specs.declared.error.LoadError.{LoadError}
use Rattle.undo_segment.specs.declared.error.LoadError.TheVariants as error
use Rattle.wire_net.specs.declared.message.Message.{Message}
use Rattle.wire_net.specs.declared.message.Message.TheVariants.{Grant}
use Rattle.inst_state.specs.declared.control.Control.{Control}
use Rattle.inst_state.specs.declared.inst.Inst.{Inst}
use Rattle.inst_state.specs.declared.inst.WaitingEnd.{WaitingEnd}
use Rattle.inst_state.specs.declared.shared.Core.{Core}
use Rattle.inst_state.specs.Shared.{is_live}
use Rattle.disk_calls.specs.Calls.{WritesBlockAs, WritesControlAs}
use Rattle.disk_calls.specs.declared.appends.Appended.{Appended}
use Rattle.disk_calls.specs.declared.appends.Appended.TheVariants.{Cut, Whole}
use Rattle.disk_calls.specs.declared.images.ReadData.TheVariants as data_read
use Rattle.disk_calls.specs.declared.images.ReadUndo.TheVariants as undo_read
use Rattle.disk_calls.specs.declared.writes.Written.{Written}
use Rattle.disk_calls.specs.declared.writes.Written.TheVariants as written
use Rattle.disk_steps.specs.AskUndo.{AsksAt, AsksBy, AsksWhere, ErrAs, ReadsUndoAs, place_of}
use Rattle.disk_steps.specs.Crash.{KeepsAs, kept_to}
use Rattle.disk_steps.specs.Force.{ForcesAs, commit_told}
use Rattle.disk_steps.specs.Install.{InstallsAs}
use Rattle.disk_steps.specs.declared.crashes.Kept.{Kept}
use Rattle.disk_steps.specs.declared.crashes.Kept.TheVariants.{Bytes, Nothing}
use Rattle.disk_steps.specs.declared.installs.Installed.{Installed}
use Rattle.disk_steps.specs.declared.installs.Installed.TheVariants as installed
use Rattle.disk_steps.specs.declared.undo_asks.AskedUndo.{AskedUndo}
use Rattle.disk_steps.specs.declared.undo_asks.AskedUndo.TheVariants as asked_for
use Rattle.disk_steps.specs.declared.undo_asks.Lacking.{Lacking}
use Rattle.disk_steps.specs.declared.undo_asks.Lacking.TheVariants.{Sense, Undo}
use Rattle.disk_steps.specs.declared.undo_asks.Place.{Place}
use Rattle.thread_steps.specs.Close.{ClosesLogAs, CutsAndWrites}
use Rattle.thread_steps.specs.Found.{FindsThread}
use Rattle.thread_steps.specs.Observes.{Counts}
use Rattle.thread_steps.specs.Read.{is_news, record_entered, records_entered}
use Rattle.thread_steps.specs.declared.closes.Closing.{Closing}
use Rattle.thread_steps.specs.declared.closes.Closing.TheVariants as closing
use Rattle.thread_steps.specs.declared.found.Found.{Found}
use Rattle.thread_steps.specs.declared.found.Found.TheVariants as found
use Rattle.thread_steps.specs.declared.found.FoundLog.{FoundLog}
use Rattle.rebuild_steps.specs.Adopt.{ReadsSegments, to_adopt}
use Rattle.rebuild_steps.specs.Join.{JoinsAs, OpensAfter, begun, with_segment}
use Rattle.rebuild_steps.specs.Open.{OpensAs, WritesRunning, is_open, running_bytes, scns_of}
use Rattle.rebuild_steps.specs.Recover.{RebuildsAs}
use Rattle.rebuild_steps.specs.Thaw.{OpensAndReads, OpensIf, ThawsAs, opened_part, opens_own, runs}
use Rattle.rebuild_steps.specs.declared.joins.Joined.{Joined}
use Rattle.rebuild_steps.specs.declared.joins.Joined.TheVariants as joined
use Rattle.rebuild_steps.specs.declared.opens.Opened.{Opened}
use Rattle.rebuild_steps.specs.declared.opens.Opened.TheVariants as thread
use Rattle.rebuild_steps.specs.declared.recovers.Recovered.{Recovered}
use Rattle.rebuild_steps.specs.declared.recovers.Recovered.TheVariants as recovered
use Rattle.rebuild_steps.specs.declared.thaws.Thawed.{Thawed}
use Rattle.rebuild_steps.specs.declared.thaws.Thawed.TheVariants as thawed
use Rattle.inst_node.specs.declared.hows.How.{How}
use Rattle.inst_node.specs.declared.hows.How.TheVariants as how
use Rattle.inst_node.specs.Moves.{JoinedAs, RecoveredAs, ThawedAs}
use Rattle.run_laws.specs.Ends.{IsEndCounted, HasRisen, IsLater, ends_in}
use Rattle.run_laws.specs.Tells.{ask_at_tells, ask_tells_by, checkpoint_tells, close_tells, crash_tells, crash_tells_by, force_tells, install_tells_by, join_tells, join_tells_by, log_tells, read_tells, recover_tells, recover_tells_by, stop_tells, thaw_tells, thaw_tells_by, undo_read_tells, write_tells}
use Rattle.run_laws.proofs.Counts.{appends_later, block_later, block_risen, calm_later, control_later, control_risen, counts_later, cut_risen, fault_risen, length_later, loads_later, loads_risen, log_later, log_risen, makes_later, makes_risen, risen_then, same_later, then_later, then_risen, untold_risen}
use Rattle.run_laws.proofs.EndLists.{bad_stop, crash_ends, fault_stop, fold_ends, quiet, then_quiet, where_ends}

-- a step that left the disk as it was, and tells of no end

pub still : (entries : List Entry) (old new : State) → new ≡ old → ends_in entries ≡ 0 → IsEndCounted entries old new
still entries old new same none = quiet entries old new (same_later old new same) none

-- undo is asked for

err_later : (place : Place) (head : Bool) (why : LoadError) (old new : State) → ErrAs place head why old new → IsLater old new
err_later place true why old new it = loads_later _ _ (Err why) old new it.loads
err_later place false why old new it = loads_later _ _ (Err why) old new it.loads

err_risen : (place : Place) (head : Bool) (old new : State) → ErrAs place head error.Failed old new → HasRisen old new
err_risen place true old new it = loads_risen _ _ old new it.loads
err_risen place false old new it = loads_risen _ _ old new it.loads

undo_read_ends : (n : Inst) (place : Place) (it : AskedUndo) (old new : State) → ReadsUndoAs place it old new → IsEndCounted (undo_read_tells n it) old new
undo_read_ends n place (asked_for.Read (undo_read.Head head)) old new d = quiet [] old new (loads_later _ _ (Ok head.value) old new d.loads) refl
undo_read_ends n place (asked_for.Read (undo_read.Block block)) old new d = quiet [] old new (loads_later _ _ (Ok block.value) old new d.loads) refl
undo_read_ends n place (asked_for.Read undo_read.Failed) old new d =
    fault_stop n (Some 0) old new (err_later place place.head error.Failed old new d) (err_risen place place.head old new d)
undo_read_ends n place (asked_for.Read undo_read.Bad) old new d =
    bad_stop n (Some 0) old new (err_later place place.head (error.Bad d.0 d.1) old new d.2)
undo_read_ends n place asked_for.Calm old new d = absurd d

ask_where_ends : (live : Bool) (n : Inst) (place : Place) (it : AskedUndo) (old new : State) → AsksWhere live place it old new
    → IsEndCounted (if live then [] else undo_read_tells n it) old new
ask_where_ends true n place it old new d = still [] old new d refl
ask_where_ends false n place it old new d = undo_read_ends n place it old new d

ask_at_ends : (n : Inst) (core : Core) (place : Option Place) (it : AskedUndo) (old new : State) → AsksAt core place it old new
    → IsEndCounted (ask_at_tells n core place it) old new
ask_at_ends n core None it old new d = bad_stop n (Some 0) old new (same_later old new d)
ask_at_ends n core (Some place) it old new d = ask_where_ends (is_live core place.seg) n place it old new d

pub ask_ends : (n : Inst) (core : Core) (lack : Option Lacking) (it : AskedUndo) (old new : State) → AsksBy n.plan.layout core lack it old new
    → IsEndCounted (ask_tells_by n core lack it) old new
ask_ends n core None it old new d = still [] old new d refl
ask_ends n core (Some (Undo what)) it old new d = ask_at_ends n core (place_of n.plan.layout what) it old new d
ask_ends n core (Some Sense) it old new d = bad_stop n (Some 0) old new (same_later old new d)

-- a block is written, or rebuilt

pub write_ends : (n : Inst) (block : ℕ) (bytes : List ℕ) (it : Written) (old new : State) → WritesBlockAs block bytes it old new
    → IsEndCounted (write_tells n it) old new
write_ends n block bytes written.Done old new d = quiet [] old new (block_later block bytes written.Done old new d) refl
write_ends n block bytes written.Failed old new d =
    fault_stop n (Some 0) old new (block_later block bytes written.Failed old new d) (block_risen block bytes old new d)

rebuild_ends : (n : Inst) (layout : Layout) (block : ℕ) (redo : List Tagged) (past : Option BlockContent) (it : Recovered) (old new : State)
    → RebuildsAs layout block redo past it old new → IsEndCounted (recover_tells n it) old new
rebuild_ends n layout block redo past (recovered.Done stood version) old new d =
    let w = d.writes.2 in
    quiet [] old new (then_later old d.mid new (loads_later _ _ (Ok stood.value) old d.mid d.reads) (block_later block _ written.Done d.mid new w.writes)) refl
rebuild_ends n layout block redo past (recovered.Unwritten stood) old new d =
    let w = d.writes.1 in
    let read = loads_later _ _ (Ok stood.value) old d.mid d.reads in
    fault_stop n (Some 0) old new (then_later old d.mid new read (block_later block _ written.Failed d.mid new w.writes))
    (then_risen old d.mid new read (block_risen block _ d.mid new w.writes))
rebuild_ends n layout block redo past (recovered.Unrolled stood) old new d =
    bad_stop n (Some 0) old new (then_later old d.mid new (loads_later _ _ (Ok stood.value) old d.mid d.reads) (same_later d.mid new d.writes.2))
rebuild_ends n layout block redo past recovered.Bad old new d =
    bad_stop n (Some 0) old new (loads_later _ _ (Err (error.Bad d.number d.field)) old new d.reads)
rebuild_ends n layout block redo past recovered.Unread old new d =
    fault_stop n (Some 0) old new (loads_later _ _ (Err error.Failed) old new d) (loads_risen _ _ old new d)

pub recover_ends : (n : Inst) (core : Core) (block : ℕ) (it : How) (old new : State) → RecoveredAs n core block it old new
    → IsEndCounted (recover_tells_by n it) old new
recover_ends n core block (how.Recovered it) old new d = rebuild_ends n core.layout block _ _ it old new d
recover_ends n core block _ old new d = absurd d

-- an image is installed

pub install_ends : (n : Inst) (message : Option Message) (it : Installed) (old new : State) → InstallsAs message it old new
    → IsEndCounted (install_tells_by n message it) old new
install_ends n (Some (Grant block grant mode true)) (installed.Read (data_read.Image image)) old new d =
    quiet [] old new (loads_later _ _ (Ok image.value) old new d.loads) refl
install_ends n (Some (Grant block grant mode true)) (installed.Read data_read.Bad) old new d =
    bad_stop n (Some 0) old new (loads_later _ _ (Err (error.Bad d.0 d.1)) old new d.2.loads)
install_ends n (Some (Grant block grant mode true)) (installed.Read data_read.Failed) old new d =
    fault_stop n (Some 0) old new (loads_later _ _ (Err error.Failed) old new d.loads) (loads_risen _ _ old new d.loads)
install_ends n (Some (Grant block grant mode true)) installed.Calm old new d = bad_stop n (Some 0) old new (same_later old new d.1)
install_ends n (Some (Grant block grant mode false)) it old new d = still [] old new d refl
install_ends n _ it old new d = still [] old new d refl

-- a dead thread is read and closed

records_ends : (thread at : ℕ) (records : List Redo) (core : Core) → ends_in (records_entered thread at records core).journal ≡ ends_in core.journal
records_ends thread at [] core = refl
records_ends thread at (redo ∷ records) core =
    let behind = at + length_of redo.kind in
    records_ends thread behind records (record_entered thread behind redo core)
    ∙ where_ends (is_news core thread behind redo) (entry.Committed redo.xid redo.scn thread) core.journal refl

log_ends : (core : Core) (thread : ℕ) (log : FoundLog) → ends_in (log_tells core thread log) ≡ 0
log_ends core thread log = records_ends thread log.position log.read.records (record core { journal = [] })

stop_by : (n : Inst) (bad : Bool) (old new : State) → Counts (not bad) old new → IsEndCounted (stop_tells n bad) old new
stop_by n true old new d = bad_stop n (Some 0) old new (counts_later false old new d)
stop_by n false old new d = fault_stop n (Some 0) old new (counts_later true old new d) (fault_risen old new d)

pub read_ends : (n : Inst) (core : Core) (layout : Layout) (thread : ℕ) (it : Found) (old new : State) → FindsThread layout thread it old new
    → IsEndCounted (read_tells n core thread it) old new
read_ends n core layout thread (found.Closed scns) old new d = quiet [] old new (counts_later false old new d.counts) refl
read_ends n core layout thread (found.Unread bad) old new d = stop_by n bad old new d.counts
read_ends n core layout thread (found.Stopped log bad) old new d =
    then_quiet (stop_tells n bad) (log_tells core thread log) old new (log_ends core thread log) (stop_by n bad old new d.counts)
read_ends n core layout thread (found.Whole log versions) old new d =
    quiet (log_tells core thread log) old new (counts_later false old new d.counts) (log_ends core thread log)

cuts_later : (thread : ℕ) (it : ControlEntry) (how : Written) (old new : State) → CutsAndWrites thread it how old new → IsLater old new
cuts_later thread it how old new d =
    then_later old d.mid new (log_later thread it.position written.Done old d.mid d.cuts) (control_later thread (entry_bytes it) how d.mid new d.writes)

cuts_risen : (thread : ℕ) (it : ControlEntry) (old new : State) → CutsAndWrites thread it written.Failed old new → HasRisen old new
cuts_risen thread it old new d =
    then_risen old d.mid new (log_later thread it.position written.Done old d.mid d.cuts) (control_risen thread (entry_bytes it) d.mid new d.writes)

pub close_ends : (n : Inst) (thread : ℕ) (it : ControlEntry) (how : Closing) (old new : State) → ClosesLogAs thread it how old new
    → IsEndCounted (close_tells n how) old new
close_ends n thread it closing.Uncut old new d =
    fault_stop n (Some 0) old new (log_later thread it.position written.Failed old new d) (log_risen thread it.position old new d)
close_ends n thread it closing.Unwritten old new d =
    fault_stop n (Some 0) old new (cuts_later thread it written.Failed old new d) (cuts_risen thread it old new d)
close_ends n thread it closing.Done old new d = quiet [] old new (cuts_later thread it written.Done old new d) refl

-- an instance crashes

keeps_later : (me : ℕ) (bytes : List ℕ) (it : Kept) (old new : State) → KeepsAs me bytes it old new → IsLater old new
keeps_later me bytes Nothing old new d = same_later old new d.1
keeps_later me bytes (Bytes how) old new d = appends_later me bytes how old new d

pub crash_ends_by : (n : Inst) (control : Option Control) (me : ℕ) (bytes : List ℕ) (it : Kept) (old new : State) → KeepsAs me bytes it old new
    → IsEndCounted (crash_tells n control it) old new
crash_ends_by n None me bytes it old new d = quiet [] old new (keeps_later me bytes it old new d) refl
crash_ends_by n (Some control) me bytes Nothing old new d =
    quiet (crash_tells_by n control Nothing) old new (same_later old new d.1) (crash_ends n control.line (Some n.thread.durable))
crash_ends_by n (Some control) me bytes (Bytes Whole) old new d =
    quiet (crash_tells_by n control (Bytes Whole)) old new (appends_later me bytes Whole old new d) (crash_ends n control.line (Some (kept_to n control)))
crash_ends_by n (Some control) me bytes (Bytes (Cut kept)) old new d =
    fault_stop n kept old new (appends_later me bytes (Cut kept) old new d) (cut_risen me bytes kept old new d)

-- a checkpoint ends

pub checkpoint_ends : (n : Inst) (line me : ℕ) (bytes : List ℕ) (it : Written) (old new : State) → WritesControlAs me bytes it old new
    → IsEndCounted (checkpoint_tells n line it) old new
checkpoint_ends n line me bytes written.Done old new d =
    quiet (entry.Checkpointed line ∷ []) old new (control_later me bytes written.Done old new d) refl
checkpoint_ends n line me bytes written.Failed old new d =
    fault_stop n (Some 0) old new (control_later me bytes written.Failed old new d) (control_risen me bytes old new d)

-- a thread is opened

running_later : (me : ℕ) (scns : Clock) (length : ℕ) (how : Written) (old new : State) → WritesRunning me scns length how old new → IsLater old new
running_later me scns length how old new d =
    then_later old d.mid new (length_later me (Some length) old d.mid d.asks) (control_later me (running_bytes length scns) how d.mid new d.writes)

opens_later : (me : ℕ) (scns : Clock) (it : Opened) (old new : State) → OpensAs me scns it old new → IsLater old new
opens_later me scns (thread.Running length) old new d = running_later me scns length written.Done old new d
opens_later me scns (thread.Unwritten length) old new d = running_later me scns length written.Failed old new d
opens_later me scns thread.Untold old new d = length_later me None old new d

opens_risen : (me : ℕ) (scns : Clock) (it : Opened) (old new : State) → is_open it ≡ false → OpensAs me scns it old new → HasRisen old new
opens_risen me scns (thread.Running length) old new shut d = absurd (cc)
opens_risen me scns (thread.Unwritten length) old new shut d =
    then_risen old d.mid new (length_later me (Some length) old d.mid d.asks) (control_risen me (running_bytes length scns) d.mid new d.writes)
opens_risen me scns thread.Untold old new shut d = untold_risen me old new d

-- an instance joins

after_later : (layout : Layout) (me : ℕ) (scns : Clock) (own : SegmentState) (it : Opened) (old new : State) → OpensAfter layout me scns own it old new
    → IsLater old new
after_later layout me scns own it old new d =
    then_later old d.mid new (loads_later _ _ (Ok own) old d.mid d.reads) (opens_later me scns it d.mid new d.opens)

after_risen : (layout : Layout) (me : ℕ) (scns : Clock) (own : SegmentState) (it : Opened) (old new : State) → is_open it ≡ false
    → OpensAfter layout me scns own it old new → HasRisen old new
after_risen layout me scns own it old new shut d =
    then_risen old d.mid new (loads_later _ _ (Ok own) old d.mid d.reads) (opens_risen me scns it d.mid new shut d.opens)

open_or_stop : (runs_now : Bool) (n : Inst) (old new : State) → IsLater old new → (runs_now ≡ false → HasRisen old new)
    → IsEndCounted (if runs_now then [] else stop_tells n false) old new
open_or_stop true n old new later risen = quiet [] old new later refl
open_or_stop false n old new later risen = fault_stop n (Some 0) old new later (risen refl)

join_ends_by : (m n : Inst) (core : Core) (it : Joined) (old new : State) → JoinsAs n core it old new → IsEndCounted (join_tells m core it) old new
join_ends_by m n core joined.Dark old new d = still [] old new d.1 refl
join_ends_by m n core (joined.Read own it) old new d =
    open_or_stop (is_open it) (with_segment m own.value (scns_of m core) it) old new
    (after_later n.plan.layout n.plan.me (scns_of n core) own.value it old new d.1)
    (λ (shut : is_open it ≡ false). after_risen n.plan.layout n.plan.me (scns_of n core) own.value it old new shut d.1)
join_ends_by m n core joined.Bad old new d =
    let bad = d.1 in
    bad_stop m (Some 0) old new (loads_later _ _ (Err (error.Bad bad.number bad.field)) old new bad.reads)
join_ends_by m n core joined.Unread old new d =
    fault_stop m (Some 0) old new (loads_later _ _ (Err error.Failed) old new d.1) (loads_risen _ _ old new d.1)

pub join_ends : (n : Inst) (core : Core) (line : ℕ) (it : How) (old new : State) → JoinedAs n core it old new → IsEndCounted (join_tells_by n core line it) old new
join_ends n core line (how.Joined it) old new d = join_ends_by (begun n core line) n core it old new d
join_ends n core line _ old new d = absurd d

-- redo is forced

commit_ends : (me : ℕ) (es : List Entry) (end : WaitingEnd) → ends_in (commit_told me es end) ≡ ends_in es
commit_ends me es end = where_ends end.commit (entry.Committed end.xid end.scn me) es refl

pub force_ends : (n : Inst) (thread : ThreadState) (me : ℕ) (it : Appended) (old new : State) → ForcesAs thread me it old new
    → IsEndCounted (force_tells n it) old new
force_ends n thread me Whole old new d =
    quiet (force_tells n Whole) old new (makes_later (PutBehind thread.number thread.waiting) (Ok 0) old new d)
    (fold_ends (commit_told n.plan.me) (commit_ends n.plan.me) n.ends [])
force_ends n thread me (Cut length) old new d =
    let asked = length_later me length d.mid new d.asks in
    fault_stop n length old new
    (then_later old d.mid new (makes_later (PutBehind thread.number thread.waiting) (Err 0) old d.mid d.appends) asked)
    (risen_then old d.mid new (makes_risen (PutBehind thread.number thread.waiting) 0 old d.mid d.appends) asked)

-- the cluster thaws

opens_if_later : (own : Bool) (me : ℕ) (scns : Clock) (it : Option Opened) (old new : State) → OpensIf own me scns it old new → IsLater old new
opens_if_later true me scns (Some it) old new d = opens_later me scns it old new d
opens_if_later false me scns None old new d = same_later old new d
opens_if_later true me scns None old new d = absurd d
opens_if_later false me scns (Some it) old new d = absurd d

opens_if_risen : (own : Bool) (me : ℕ) (scns : Clock) (it : Option Opened) (old new : State) → runs it ≡ false → OpensIf own me scns it old new
    → HasRisen old new
opens_if_risen true me scns (Some it) old new shut d = opens_risen me scns it old new shut d
opens_if_risen false me scns None old new shut d = absurd (cc)
opens_if_risen true me scns None old new shut d = absurd d
opens_if_risen false me scns (Some it) old new shut d = absurd d

segments_later : (layout : Layout) (segs : List ℕ) (result : Result (List SegmentState) LoadError) (old new : State)
    → ReadsSegments layout segs result old new → IsLater old new
segments_later layout segs (Ok owns) old new d = calm_later old new d.calm
segments_later layout segs (Err why) old new d = loads_later _ _ (Err why) old new d

reads_later : (n : Inst) (core : Core) (opening : Option Opened) (result : Result (List SegmentState) LoadError) (old new : State)
    → OpensAndReads n core opening result old new → IsLater old new
reads_later n core opening result old new d =
    then_later old d.mid new (opens_if_later (opens_own n core) n.plan.me (scns_of n core) opening old d.mid d.opens)
    (segments_later n.plan.layout (to_adopt n core) result d.mid new d.reads)

unread_risen : (n : Inst) (core : Core) (opening : Option Opened) (old new : State) → OpensAndReads n core opening (Err error.Failed) old new
    → HasRisen old new
unread_risen n core opening old new d =
    then_risen old d.mid new (opens_if_later (opens_own n core) n.plan.me (scns_of n core) opening old d.mid d.opens)
    (loads_risen _ _ d.mid new d.reads)

thaw_ends_by : (n : Inst) (core : Core) (it : Thawed) (old new : State) → ThawsAs n core it old new → IsEndCounted (thaw_tells n core it) old new
thaw_ends_by n core (thawed.Done opening owns) old new d = quiet [] old new (reads_later n core opening (Ok owns.value.items) old new d) refl
thaw_ends_by n core (thawed.Unopened opening) old new d =
    fault_stop (opened_part n core opening) (Some 0) old new
    (opens_if_later (opens_own n core) n.plan.me (scns_of n core) opening old new d.1)
    (opens_if_risen (opens_own n core) n.plan.me (scns_of n core) opening old new d.0 d.1)
thaw_ends_by n core (thawed.Bad opening) old new d =
    bad_stop (opened_part n core opening) (Some 0) old new (reads_later n core opening (Err (error.Bad d.number d.field)) old new d.reads)
thaw_ends_by n core (thawed.Unread opening) old new d =
    fault_stop (opened_part n core opening) (Some 0) old new (reads_later n core opening (Err error.Failed) old new d)
    (unread_risen n core opening old new d)

pub thaw_ends : (n : Inst) (core : Core) (it : How) (old new : State) → ThawedAs n core it old new → IsEndCounted (thaw_tells_by n core it) old new
thaw_ends n core (how.Thawed it) old new d = thaw_ends_by n core it old new d
thaw_ends n core _ old new d = absurd d
