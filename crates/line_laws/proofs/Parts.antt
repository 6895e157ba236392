-- Which steps leave the sessions of an instance where they are.
use Rattle.std.proofs.Common.{◌≡◌, ℕ, Bool, true, false, List, [], ◌∷◌, map, Option, Some, None, if◌then◌else◌, refl, sym, ◌∙◌}
use Rattle.std.specs.Prelude.{◌==◌, slice_index_or, slice_set}
use Rattle.std.specs.List.{fold}
use Rattle.std.proofs.Math.Seq.{map-set_same}
use Rattle.base_types.specs.declared.names.Scn.{Scn}
use Rattle.block_image.specs.Block.{BlockContent}
use Rattle.scn_clock.specs.declared.clock.Clock.{Clock}
use Rattle.redo_types.specs.declared.redo.Redo.{Redo}
use Rattle.undo_segment.specs.Segment.{SegmentState}
use Rattle.wire_net.specs.declared.message.Message.{Message}
use Rattle.wire_net.specs.declared.message.Message.TheVariants.{Bucket, Commit, Copy, Heard, UndoIs}
use Rattle.wire_net.specs.declared.message.Mode.{Mode}
use Rattle.wire_net.specs.declared.message.Packet.{Packet}
use Rattle.wire_net.specs.declared.message.UndoImage.{UndoImage}
use Rattle.scn_clock.specs.Clock.{raised}
use Rattle.buffer_cache.specs.declared.place.Current.{Current}
use Rattle.inst_state.specs.declared.inst.Inst.{Inst}
use Rattle.inst_state.specs.declared.inst.WaitingEnd.{WaitingEnd}
use Rattle.inst_state.specs.declared.plan.Opening.{Opening}
use Rattle.inst_state.specs.declared.session.Doing.{Doing}
use Rattle.inst_state.specs.declared.session.Doing.TheVariants.{Ends}
use Rattle.inst_state.specs.declared.session.Session.{Session}
use Rattle.inst_state.specs.declared.shared.Core.{Core}
use Rattle.inst_state.specs.Hand.{name_in_hand}
use Rattle.inst_state.specs.Sessions.{is_idle, new_session}
use Rattle.inst_state.specs.Shared.{is_thawed}
use Rattle.inst_state.specs.State.{is_up, session_at, with_session}
use Rattle.stmt_steps.specs.Back.{dead_stepped_by}
use Rattle.stmt_steps.specs.Mark.{dead_marked_by}
use Rattle.image_steps.specs.Ask.{asked_in}
use Rattle.image_steps.specs.TakeCopy.{came_at, came_by, came_for, handed_in, handed_to, undo_came_to, waiting, with_came, without_came}
use Rattle.disk_steps.specs.Force.{all_forced, end_on_disk, end_told_to, session_on_disk, with_end_on_disk}
use Rattle.disk_steps.specs.Install.{with_image}
use Rattle.disk_steps.specs.Write.{written_as}
use Rattle.disk_steps.specs.declared.writing.Target.{Target}
use Rattle.disk_steps.specs.declared.writing.Target.TheVariants.{Adopted, Data, Own}
use Rattle.wave_steps.specs.Buckets.{taking_bucket, taking_packet}
use Rattle.wave_steps.specs.Enter.{entered, opened, opened_if}
use Rattle.wave_steps.specs.News.{heard_by, heard_doing, hearing, hearing_packet}
use Rattle.report_steps.specs.Report.{reported, without_hand}
use Rattle.rebuild_steps.specs.Join.{with_segment}
use Rattle.rebuild_steps.specs.Open.{opened as thread_opened, scns_of}
use Rattle.rebuild_steps.specs.declared.opens.Opened.{Opened}
use Rattle.rebuild_steps.specs.declared.opens.Opened.TheVariants as thread
use Rattle.rebuild_steps.specs.Thaw.{led, opened_if as thread_opened_if, opened_part, thaw_core, thaw_part}
use Rattle.inst_node.specs.declared.actions.Action.{Action}
use Rattle.inst_node.specs.Moves.{comes_after_thaw, prepared, prepared_if}
use Rattle.inst_node.specs.Allowed.{kind_class}
use Rattle.line_laws.proofs.Courses.{Course, course_at, course_of}
use Rattle.line_laws.proofs.Took.{stays, Stays, stays_then}
use Rattle.run_laws.proofs.Looks.{open_looks}

pub map_stays : (f : Session → Session) → ((s : Session) → course_of (f s) ≡ course_of s) → (l : List Session) → map course_of (map f l) ≡ map course_of l
map_stays f same [] = refl
map_stays f same (s ∷ l) = λ i. same s i ∷ map_stays f same l i

pub with_stays : (n : Inst) (z : ℕ) (s : Session) → course_of s ≡ course_at n z → Stays n (with_session n z s)
with_stays n z s e = record { plan = refl; course = map-set_same course_of n.sessions z s new_session e }

pub handed_stays : (n : Inst) (z : ℕ) (image : UndoImage) → Stays n (handed_in n z image)
handed_stays n z image = with_stays n z (handed_to (name_in_hand n z) image (session_at n z)) refl

-- how far a session has come with this as its next line, by what it does with it
abbrev course : ℕ → Doing → Course
course next doing = record { next = next; idle = is_idle doing }

-- a session whose line is under way before and after
pub busy_course : (s : Session) → is_idle s.doing ≡ false → record { next = s.next; idle = false } ≡ course_of s
busy_course s e = λ i. record { next = s.next; idle = (sym e) i }

pub prepared_stays : (n : Inst) (core : Core) (action : Action) → Stays n (prepared n core action)
unfolding prepared
prepared_stays n core action = by (comes_after_thaw (kind_class action)) (is_thawed core.members.phase)
  where
    by : (after thawed : Bool) → Stays n (prepared_if after thawed n core)
    by false thawed = stays n
    by true false = stays n
    by true true = record { plan = refl; course = refl }

pub dead_marked_stays : (n : Inst) (o : Option Redo) → Stays n (dead_marked_by n o)
dead_marked_stays n None = stays n
dead_marked_stays n (Some redo) = record { plan = refl; course = refl }

pub dead_stepped_stays : (n : Inst) (o : Option Redo) → Stays n (dead_stepped_by n o)
dead_stepped_stays n None = stays n
dead_stepped_stays n (Some redo) = record { plan = refl; course = refl }

pub asked_stays : (n : Inst) (block : ℕ) (o : Option Mode) → Stays n (asked_in n block o)
asked_stays n block None = stays n
asked_stays n block (Some mode) = record { plan = refl; course = refl }

pub written_stays : (n : Inst) (block : ℕ) (target : Target) → Stays n (written_as n block target)
written_stays n block Data = record { plan = refl; course = refl }
written_stays n block (Adopted at) = record { plan = refl; course = refl }
written_stays n block Own = record { plan = refl; course = refl }

pub image_stays : (n : Inst) (block : ℕ) (current : Option Current) → Stays n (with_image n block current)
image_stays n block current = record { plan = refl; course = map_stays (without_came block) (λ s. refl) n.sessions }

came_stays : (image : BlockContent) (upto : Scn) (sessions : List Session) (whose : List ℕ) → map course_of (came_for image upto sessions whose) ≡ map course_of sessions
came_stays image upto sessions [] = refl
came_stays image upto sessions (z ∷ whose) =
    came_stays image upto (came_at image upto sessions z) whose
    ∙ map-set_same course_of sessions z (with_came image upto (slice_index_or sessions z new_session)) new_session refl

pub copy_stays : (n : Inst) (o : Option Message) → Stays n (came_by n o)
copy_stays n (Some (Copy image upto)) =
    record { plan = refl; course = came_stays image upto n.sessions (waiting n image.front.number upto) }
copy_stays n (Some (UndoIs image job)) = with_stays n job (undo_came_to (name_in_hand n job) image (session_at n job)) refl
copy_stays n _ = stays n

heard_course_as : (epoch from : ℕ) (c : Scn) (next : ℕ) (doing : Doing)
    → course next (heard_doing epoch from c doing) ≡ course next doing
heard_course_as epoch from c next (Ends ending) = refl
heard_course_as epoch from c next _ = refl

hearing_stays : (n : Inst) (epoch from : ℕ) (message : Message) → Stays n (hearing n epoch from message)
hearing_stays n epoch from (Commit c) = record { plan = refl; course = refl }
hearing_stays n epoch from (Heard c) =
    record { plan = refl; course = map_stays (heard_by epoch from c) (λ s. heard_course_as epoch from c s.next s.doing) n.sessions }
hearing_stays n epoch from _ = stays n

pub heard_stays : (n : Inst) (epoch from : ℕ) (o : Option Packet) → Stays n (hearing_packet n epoch from o)
heard_stays n epoch from None = stays n
heard_stays n epoch from (Some packet) =
    let k = record n { clock = raised n.clock packet.scn } in
    stays_then n k (hearing k epoch from packet.message) (record { plan = refl; course = refl }) (hearing_stays k epoch from packet.message)

bucket_stays : (n : Inst) (message : Message) → Stays n (taking_bucket n message)
bucket_stays n (Bucket bucket entries) = record { plan = refl; course = refl }
bucket_stays n _ = stays n

pub taken_stays : (n : Inst) (o : Option Packet) → Stays n (taking_packet n o)
taken_stays n None = stays n
taken_stays n (Some packet) =
    let k = record n { clock = raised n.clock packet.scn } in
    stays_then n k (taking_bucket k packet.message) (record { plan = refl; course = refl }) (bucket_stays k packet.message)

pub report_stays : (n : Inst) → Stays n (reported n)
report_stays n = record { plan = refl; course = map_stays without_hand (λ s. refl) n.sessions }

pub entered_stays : (n : Inst) (core : Core) → Stays n (entered n core)
entered_stays n core =
    record { plan = refl; course = open_looks course_of (is_up n.life) core.waves.wave n.sessions n.plan.openings (λ s. refl) }

disk_course_as : (next : ℕ) (doing : Doing) → course next (with_end_on_disk doing) ≡ course next doing
disk_course_as next (Ends ending) = refl
disk_course_as next _ = refl

disk_course : (sessions : List Session) (o : Option ℕ) → map course_of (session_on_disk sessions o) ≡ map course_of sessions
disk_course sessions None = refl
disk_course sessions (Some z) =
    let s = slice_index_or sessions z new_session in
    map-set_same course_of sessions z (end_on_disk s) new_session (disk_course_as s.next s.doing)

disk_courses : (sessions : List Session) (ends : List WaitingEnd) → map course_of (fold end_told_to sessions ends) ≡ map course_of sessions
disk_courses sessions [] = refl
disk_courses sessions (end ∷ ends) = disk_courses (end_told_to sessions end) ends ∙ disk_course sessions end.session

pub forced_stays : (n : Inst) → Stays n (all_forced n)
forced_stays n = record { plan = refl; course = disk_courses n.sessions n.ends }

pub thread_stays : (n : Inst) (scns : Clock) (how : Opened) → Stays n (thread_opened n scns how)
thread_stays n scns (thread.Running length) = record { plan = refl; course = refl }
thread_stays n scns _ = stays n

pub segment_stays : (n : Inst) (own : SegmentState) (scns : Clock) (how : Opened) → Stays n (with_segment n own scns how)
segment_stays n own scns (thread.Running length) = record { plan = refl; course = refl }
segment_stays n own scns _ = record { plan = refl; course = refl }

thread_stays_if : (n : Inst) (scns : Clock) (o : Option Opened) → Stays n (thread_opened_if n scns o)
thread_stays_if n scns None = stays n
thread_stays_if n scns (Some how) = thread_stays n scns how

pub opened_stays : (n : Inst) (core : Core) (o : Option Opened) → Stays n (opened_part n core o)
opened_stays n core o = thread_stays_if n (scns_of n core) o

led_stays : (n : Inst) (core : Core) (owns : List SegmentState) → Stays n (led n core owns)
unfolding led
led_stays n core owns = record { plan = refl; course = refl }

pub thaw_stays : (n : Inst) (core : Core) (owns : List SegmentState) → Stays n (thaw_part n core owns)
thaw_stays n core owns =
    let same = led_stays n (thaw_core n core) owns in record { plan = same.plan; course = same.course }
