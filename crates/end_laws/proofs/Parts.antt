-- Which steps leave the transactions of an instance as they are.
use Rattle.std.proofs.Common.{◌≡◌, ℕ, ◌≤◌, Bool, true, false, List, [], ◌∷◌, map, Option, Some, None, if◌then◌else◌, refl, ap, ◌∙◌}
use Rattle.std.specs.Prelude.{◌==◌, ◌&&◌, slice_index_or, slice_set, unwrap_or}
use Rattle.inst_set.specs.Sets.{with_inst}
use Rattle.std.specs.List.{find, fold}
use Rattle.std.proofs.lemmas.Bool.{eqb-true}
use Rattle.std.proofs.Math.Nat.{le-max_left, le_refl}
use Rattle.std.proofs.Math.Seq.{map-set_same}
use Rattle.base_types.specs.declared.names.Scn.{Scn}
use Rattle.block_image.specs.Block.{BlockContent}
use Rattle.scn_clock.specs.declared.clock.Clock.{Clock}
use Rattle.undo_segment.specs.Segment.{SegmentState}
use Rattle.image_steps.specs.ServeUndo.{place_in}
use Rattle.wire_net.specs.declared.message.Message.{Message}
use Rattle.wire_net.specs.declared.message.Message.TheVariants.{Bucket, Commit, Copy, Heard, UndoIs}
use Rattle.wire_net.specs.declared.message.Mode.{Mode}
use Rattle.wire_net.specs.declared.message.Packet.{Packet}
use Rattle.wire_net.specs.declared.message.UndoImage.{UndoImage}
use Rattle.scn_clock.specs.Clock.{raised}
use Rattle.buffer_cache.specs.declared.place.Current.{Current}
use Rattle.inst_state.specs.declared.inst.Inst.{Inst}
use Rattle.inst_state.specs.declared.plan.Opening.{Opening}
use Rattle.inst_state.specs.declared.session.Doing.{Doing}
use Rattle.inst_state.specs.declared.session.Doing.TheVariants.{Ends}
use Rattle.inst_state.specs.declared.session.Ending.{Ending}
use Rattle.inst_state.specs.declared.session.Session.{Session}
use Rattle.inst_state.specs.declared.shared.Core.{Core}
use Rattle.inst_state.specs.Hand.{name_in_hand}
use Rattle.inst_state.specs.Sessions.{new_session}
use Rattle.inst_state.specs.Shared.{is_thawed}
use Rattle.inst_state.specs.State.{is_up, session_at, with_session}
use Rattle.image_steps.specs.Ask.{asked_in}
use Rattle.image_steps.specs.Hear.{clock_heard, hears}
use Rattle.inst_state.specs.Sending.{first_from}
use Rattle.wire_net.specs.declared.message.Lane.{Lane}
use Rattle.image_steps.specs.TakeCopy.{came_at, came_by, came_for, handed_in, handed_to, undo_came_to, waiting, with_came, without_came}
use Rattle.disk_steps.specs.Install.{with_image}
use Rattle.disk_steps.specs.Write.{cleaned_in, undo_left, written_as}
use Rattle.disk_steps.specs.declared.writing.Target.{Target}
use Rattle.disk_steps.specs.declared.writing.Target.TheVariants.{Adopted, Data, Own}
use Rattle.wave_steps.specs.Buckets.{taking_bucket, taking_packet}
use Rattle.wave_steps.specs.Enter.{entered, opened, opened_if}
use Rattle.wave_steps.specs.News.{is_epoch, heard_by, heard_doing, hearing, hearing_packet}
use Rattle.report_steps.specs.Reopen.{is_of, reopened}
use Rattle.report_steps.specs.Report.{reported, without_hand}
use Rattle.rebuild_steps.specs.Join.{with_segment}
use Rattle.rebuild_steps.specs.Open.{opened as thread_opened, scns_of}
use Rattle.rebuild_steps.specs.declared.opens.Opened.{Opened}
use Rattle.rebuild_steps.specs.declared.opens.Opened.TheVariants as thread
use Rattle.rebuild_steps.specs.Thaw.{led, opened_part, thaw_core, thaw_part}
use Rattle.inst_node.specs.declared.actions.Action.{Action}
use Rattle.inst_node.specs.Moves.{comes_after_thaw, prepared, prepared_if}
use Rattle.inst_node.specs.Allowed.{kind_class}
use Rattle.end_laws.proofs.Did.{Keeps, keeps, keeps_then, Restores, restored}
use Rattle.end_laws.proofs.Stakes.{awaited_in, awaited_of, stake_at, stake_of, with_stakes}
use Rattle.run_laws.proofs.Looks.{open_looks}

pub map_same : (f : Session → Session) → ((s : Session) → stake_of (f s) ≡ stake_of s) → (l : List Session) → map stake_of (map f l) ≡ map stake_of l
map_same f same [] = refl
map_same f same (s ∷ l) = λ i. same s i ∷ map_same f same l i

pub with_keeps : (n : Inst) (z : ℕ) (s : Session) → stake_of s ≡ stake_at n z → Keeps n (with_session n z s)
with_keeps n z s e = record { same = ap (with_stakes n) (map-set_same stake_of n.sessions z s new_session e); clock = le_refl n.clock.scn }

pub handed_keeps : (n : Inst) (z : ℕ) (image : UndoImage) → Keeps n (handed_in n z image)
handed_keeps n z image = with_keeps n z (handed_to (name_in_hand n z) image (session_at n z)) refl

pub prepared_keeps : (n : Inst) (core : Core) (action : Action) → Keeps n (prepared n core action)
unfolding prepared
prepared_keeps n core action = by (comes_after_thaw (kind_class action)) (is_thawed core.members.phase)
  where
    by : (after thawed : Bool) → Keeps n (prepared_if after thawed n core)
    by false thawed = keeps n
    by true false = keeps n
    by true true = record { same = refl; clock = le_refl n.clock.scn }

pub asked_keeps : (n : Inst) (block : ℕ) (o : Option Mode) → Keeps n (asked_in n block o)
asked_keeps n block None = keeps n
asked_keeps n block (Some mode) = record { same = refl; clock = le_refl n.clock.scn }

pub written_keeps : (n : Inst) (block : ℕ) (target : Target) → Keeps n (written_as n block target)
written_keeps n block Data = record { same = refl; clock = le_refl n.clock.scn }
written_keeps n block (Adopted at) = record { same = refl; clock = le_refl n.clock.scn }
written_keeps n block Own = by (place_in n.segment block)
  where
    by : (o : Option ℕ) → Keeps n (record n { segment = cleaned_in n.segment o; wave = undo_left n.wave o })
    by None = record { same = refl; clock = le_refl n.clock.scn }
    by (Some k) = record { same = refl; clock = le_refl n.clock.scn }

pub image_keeps : (n : Inst) (block : ℕ) (current : Option Current) → Keeps n (with_image n block current)
image_keeps n block current = record { same = ap (with_stakes n) (map_same (without_came block) (λ s. refl) n.sessions); clock = le_refl n.clock.scn }

came_keeps : (image : BlockContent) (upto : Scn) (sessions : List Session) (whose : List ℕ) → map stake_of (came_for image upto sessions whose) ≡ map stake_of sessions
came_keeps image upto sessions [] = refl
came_keeps image upto sessions (z ∷ whose) =
    came_keeps image upto (came_at image upto sessions z) whose
    ∙ map-set_same stake_of sessions z (with_came image upto (slice_index_or sessions z new_session)) new_session refl

pub copy_keeps : (n : Inst) (o : Option Message) → Keeps n (came_by n o)
copy_keeps n (Some (Copy image upto)) =
    record { same = ap (with_stakes n) (came_keeps image upto n.sessions (waiting n image.front.number upto)); clock = le_refl n.clock.scn }
copy_keeps n (Some (UndoIs image job)) = with_keeps n job (undo_came_to (name_in_hand n job) image (session_at n job)) refl
copy_keeps n _ = keeps n

heard_end : (b : Bool) (from : ℕ) (ending : Ending)
    → awaited_of (if b then record ending { heard = with_inst ending.heard from } else ending) ≡ awaited_of ending
heard_end true from ending = refl
heard_end false from ending = refl

heard_awaits : (epoch from : ℕ) (c : Scn) (doing : Doing) → awaited_in (heard_doing epoch from c doing) ≡ awaited_in doing
heard_awaits epoch from c (Ends ending) = ap Some (heard_end (ending.scn == c && is_epoch epoch ending.told) from ending)
heard_awaits epoch from c _ = refl

hearing_keeps : (n : Inst) (epoch from : ℕ) (message : Message) → Keeps n (hearing n epoch from message)
hearing_keeps n epoch from (Commit c) = record { same = refl; clock = le-max_left n.clock.scn c }
hearing_keeps n epoch from (Heard c) =
    record { same = ap (with_stakes n) (map_same (heard_by epoch from c) (λ s i. record { next = s.next; own = s.own; awaits = heard_awaits epoch from c s.doing i }) n.sessions); clock = le_refl n.clock.scn }
hearing_keeps n epoch from _ = keeps n

pub heard_keeps : (n : Inst) (epoch from : ℕ) (o : Option Packet) → Keeps n (hearing_packet n epoch from o)
heard_keeps n epoch from None = keeps n
heard_keeps n epoch from (Some packet) =
    let k = record n { clock = raised n.clock packet.scn } in
    keeps_then n k (hearing k epoch from packet.message) (record { same = refl; clock = le-max_left n.clock.scn packet.scn }) (hearing_keeps k epoch from packet.message)

bucket_keeps : (n : Inst) (message : Message) → Keeps n (taking_bucket n message)
bucket_keeps n (Bucket bucket entries) = record { same = refl; clock = le_refl n.clock.scn }
bucket_keeps n _ = keeps n

pub taken_keeps : (n : Inst) (o : Option Packet) → Keeps n (taking_packet n o)
taken_keeps n None = keeps n
taken_keeps n (Some packet) =
    let k = record n { clock = raised n.clock packet.scn } in
    keeps_then n k (taking_bucket k packet.message) (record { same = refl; clock = le-max_left n.clock.scn packet.scn }) (bucket_keeps k packet.message)

pub report_restores : (n : Inst) → Restores n (reported n)
report_restores n = record { plan = refl; ends = refl; stakes = map_same without_hand (λ s. refl) n.sessions; seg = λ is. is }

pub entered_keeps : (n : Inst) (core : Core) → Keeps n (entered n core)
entered_keeps n core =
    record { same = ap (with_stakes n) (open_looks stake_of (is_up n.life) core.waves.wave n.sessions n.plan.openings (λ s. refl)); clock = le_refl n.clock.scn }

thread_restores : (n : Inst) (scns : Clock) (how : Opened) → Restores n (thread_opened n scns how)
thread_restores n scns (thread.Running length) = record { plan = refl; ends = refl; stakes = refl; seg = λ is. is }
thread_restores n scns _ = restored n

pub opened_restores : (n : Inst) (core : Core) (o : Option Opened) → Restores n (opened_part n core o)
opened_restores n core None = restored n
opened_restores n core (Some how) = thread_restores n (scns_of n core) how

led_restores : (n : Inst) (core : Core) (owns : List SegmentState) → Restores n (led n core owns)
unfolding led
led_restores n core owns = record { plan = refl; ends = refl; stakes = refl; seg = λ is. is }

pub thaw_restores : (n : Inst) (core : Core) (owns : List SegmentState) → Restores n (thaw_part n core owns)
thaw_restores n core owns =
    let same = led_restores n (thaw_core n core) owns in
    record { plan = same.plan; ends = same.ends; stakes = same.stakes; seg = same.seg }

clock_rises : (clock : Clock) (o : Option Packet) → clock.scn ≤ (clock_heard clock o).scn
clock_rises clock None = le_refl clock.scn
clock_rises clock (Some packet) = le-max_left clock.scn packet.scn

pub hears_keeps : (n : Inst) (core : Core) (from : ℕ) (lane : Lane) → Keeps n (hears n core from lane)
hears_keeps n core from lane = record { same = refl; clock = clock_rises n.clock (first_from core from n.plan.me lane) }

-- a segment that was read as the instance's own
pub segment_restores : (n : Inst) (own : SegmentState) (scns : Clock) (how : Opened) → own.head.front.seg ≡ n.plan.me → Restores n (with_segment n own scns how)
segment_restores n own scns (thread.Running length) mine = record { plan = refl; ends = refl; stakes = refl; seg = λ is. mine }
segment_restores n own scns _ mine = record { plan = refl; ends = refl; stakes = refl; seg = λ is. mine }

found_seg : (me : ℕ) (segments : List SegmentState) (own : SegmentState) → own.head.front.seg ≡ me
    → (unwrap_or (find (is_of me) segments) own).head.front.seg ≡ me
found_seg me [] own mine = mine
found_seg me (segment ∷ segments) own mine = by (is_of me segment) refl (found_seg me segments own mine)
  where
    by : (b : Bool) → is_of me segment ≡ b → (unwrap_or (find (is_of me) segments) own).head.front.seg ≡ me
        → (unwrap_or (if b then Some segment else find (is_of me) segments) own).head.front.seg ≡ me
    by true is later = eqb-true segment.head.front.seg me is
    by false is later = later

pub own_seg : (n : Inst) → n.segment.head.front.seg ≡ n.plan.me → (reopened n).segment.head.front.seg ≡ n.plan.me
own_seg n mine = found_seg n.plan.me n.leading.adopted n.segment mine
