-- What the opening of threads leaves of the logs.
use Rattle.std.proofs.Common.{◌≡◌, ℕ, ◌+◌, ◌^◌, ◌<◌, ◌≤◌, ◌&&◌, ◌||◌, not, Bool, true, false, List, [], length, take, Option, None, Some, slice_get, refl, sym, ap, subst, ◌∙◌, ◌⊎◌, inl, inr, arith}
use Rattle.std.specs.Prelude.{IfSome, Result, Ok, Err, slice_set, is_none}
use Rattle.std.proofs.lemmas.List.{take_all, get_or-set_same}
use Rattle.rac_disk.specs.State.{State}
use Rattle.base_types.specs.declared.layout.Layout.{Layout}
use Rattle.undo_segment.specs.declared.error.LoadError.{LoadError}
use Rattle.disk_calls.specs.Calls.{GivesLengthAs}
use Rattle.inst_state.specs.Shared.{is_live, closed_of, is_dark, is_running, with_closed}
use Rattle.log_laws.proofs.Cluster.{AtOwn, Files, Logs, Own as OwnPart, Shared, own_of, shared_of, EntryIs, left as left_shared, log_in, lost_own, open_in, put_control, files_of, control_in, telling_closed, come as come_shared, is_settled, known_in}
use Rattle.log_laws.proofs.Places.{Fewer, clean_none, fewer_by, fewer_of_none, places_of, taken_fewer}
use Rattle.log_laws.proofs.Sets.{get_set, set_twice}
use Rattle.log_laws.proofs.Keeps.{Keeps, Untouched, lost_is, stops, untouched_kept, untouched_same, untouched_then, HoldsAt, few_insts}
use Rattle.log_laws.proofs.Moves.{own_moved, control_put, no_way}
use Rattle.log_laws.proofs.Quiet.{dealt_shared, lost_shared}
use Rattle.inst_set.specs.Sets.{is_empty, has, with_inst, without_inst}
use Rattle.inst_state.specs.declared.inst.Inst.{Inst}
use Rattle.inst_state.specs.declared.shared.Core.{Core}
use Rattle.inst_loss.specs.Lost.{lost}
use Rattle.inst_loss.specs.LostCore.{lost_core}
use Rattle.disk_calls.specs.declared.writes.Written.{Written}
use Rattle.rebuild_steps.specs.Join.{begun, with_segment, IsReadOf, JoinsAs, is_open_to_joins, joined, joined_core}
use Rattle.rebuild_steps.specs.Open.{scns_of, WritesRunning, empty_thread, running_bytes, running_entry}
use Rattle.rebuild_steps.specs.Thaw.{opened_part, opened_shared, thaw_part, thawed as thaw, led, thaw_core, thawed_core, with_adopted}
use Rattle.rebuild_steps.specs.declared.joins.Joined.{Joined}
use Rattle.rebuild_steps.specs.declared.thaws.Thawed.{Thawed}
use Rattle.scn_clock.specs.declared.clock.Clock.{Clock}
use Rattle.undo_segment.specs.Segment.{SegmentState}
use Rattle.rebuild_steps.specs.declared.opens.Opened.{Opened}
use Rattle.rebuild_steps.specs.Ends.{ended as stop_core}
use Rattle.rebuild_steps.specs.Bound.{bound_of}
use Rattle.rac_disk.specs.Content.{Content}
use Rattle.control_image.specs.Entry.{entry_bytes}
use Rattle.log_laws.specs.Logs.{IsWhole}
use Rattle.log_laws.proofs.Files.{Put, asks_untouched, put_as, put_done}
use Rattle.log_laws.proofs.Thawing.{AllKnown, thawed_open, thawed_opening}
use Rattle.std.proofs.lemmas.Bool.{lt-ltb}
use Rattle.log_laws.proofs.Moves.{closed_by_former, closed_where}
use Rattle.rebuild_steps.specs.Thaw.{OpensIf, ThawsAs, runs}
use Rattle.rebuild_steps.specs.Adopt.{ReadsSegments, to_adopt}
use Rattle.std.specs.Prelude.{is_some}
use Rattle.std.specs.List.{AllByRecursion, flat_map}
use Rattle.std.specs.Option.{option_to_list}
use Rattle.log_laws.proofs.Leaving.{IsSmall, inst_stopped, settled_not}
use Rattle.report_steps.specs.Recovering.{is_dead}
use Rattle.log_laws.proofs.Bytes.{same_whole}
use Rattle.log_laws.proofs.Coming.{OpenEntry, closed_unknown, inst_came_dark, inst_joined, opened_own}
use Rattle.log_laws.proofs.ByDisk.{finish, was, entry_running}
use Rattle.recovery.specs.declared.members.Phase.{Phase}
use Rattle.undo_segment.specs.declared.error.LoadError.TheVariants as error
use Rattle.inst_loss.specs.declared.ends.Loss.TheVariants as loss
use Rattle.disk_calls.specs.declared.writes.Written.TheVariants as written
use Rattle.rebuild_steps.specs.declared.joins.Joined.TheVariants as joined
use Rattle.rebuild_steps.specs.declared.thaws.Thawed.TheVariants as thawed
use Rattle.rebuild_steps.specs.declared.opens.Opened.TheVariants as thread
use Rattle.recovery.specs.declared.members.Phase.TheVariants as phase

-- the control entry of a thread that runs from the end of its log on

running_is : (len : ℕ) (scns : Clock) → running_bytes len scns ≡ entry_bytes (running_entry len scns)
unfolding running_bytes
running_is len scns = refl

entry_at_end : (log : List ℕ) (opened : Bool) (len : ℕ) (scns : Clock) → len ≡ length log → length log < 2 ^ 63 → IsWhole log → EntryIs log (running_bytes len scns) opened
entry_at_end log opened len scns is short whole =
    entry_running log opened (running_entry len scns) (running_bytes len scns) (running_is len scns) refl (omega (arith, is, short))
    (same_whole log (take len log) (sym (take_all len log (omega (arith, is)))) whole) (omega (arith, is))

-- the opening of a thread whose log is whole
pub record ThreadOpening (s : Shared) (owns : List OwnPart) (i len : ℕ) (it : Content) (told : Option Content) : Type 0 where
  pub now : Content
  pub tells : told ≡ Some now
  pub size : len ≡ length (log_in (files_of it) i)
  pub logs : Logs s owns (files_of now)
  pub same : log_in (files_of now) i ≡ log_in (files_of it) i

length_told : (me len : ℕ) (old new : State) (it : Content) → old.told ≡ Some it → GivesLengthAs me (Some len) old new → len ≡ length (log_in (files_of it) me)
length_told me len old new it told asks = subst (λ (o : Option Content). IfSome o (λ (c : Content). len ≡ length (log_in (files_of c) me))) told asks.gives

opening : (s : Shared) (owns : List OwnPart) (i me len : ℕ) (scns : Clock) (how : Written) (old new : State) (it : Content) → old.told ≡ Some it → me ≡ i → i < 8
    → Logs s owns (files_of it) → IsWhole (log_in (files_of it) i) → WritesRunning me scns len how old new → ThreadOpening s owns i len it new.told
opening s owns i me len scns how old new it told same few logs whole made = record {
  now = p.now;
  tells = p.tells;
  size = is;
  logs = by (files_of p.now) p.files;
  same = log_by (files_of p.now) p.files;
}
  where
    f : Files
    f = files_of it

    bytes : List ℕ
    bytes = running_bytes len scns

    is : len ≡ length (log_in f i)
    is = length_told me len old made.mid it told made.asks ∙ ap (λ (t : ℕ). length (log_in f t)) same

    asked : (now : Content) × (made.mid.told ≡ Some now) × (files_of now ≡ f)
    asked = asks_untouched me (Some len) old made.mid made.asks it told

    p : Put me bytes asked.0 new.told
    p = put_as me bytes how made.mid new asked.0 asked.1 made.writes

    put : Logs s owns (put_control f i bytes)
    put = control_put s f owns i bytes logs few (entry_at_end (log_in f i) (open_in s i) len scns is (logs.threads i few).short whole)

    by : (k : Files) → (k ≡ files_of asked.0) ⊎ (k ≡ put_control (files_of asked.0) me bytes) → Logs s owns k
    by k (inl e) = subst (Logs s owns) (sym (e ∙ asked.2)) logs
    by k (inr e) = subst (Logs s owns) (sym (e ∙ ap (λ (x : Files). put_control x me bytes) asked.2 ∙ ap (λ (t : ℕ). put_control f t bytes) same)) put

    log_by : (k : Files) → (k ≡ files_of asked.0) ⊎ (k ≡ put_control (files_of asked.0) me bytes) → log_in k i ≡ log_in f i
    log_by k (inl e) = ap (λ (x : Files). log_in x i) (e ∙ asked.2)
    log_by k (inr e) = ap (λ (x : Files). log_in x i) e ∙ ap (λ (x : Files). log_in x i) asked.2

-- the entry of a thread that was opened
opened_entry : (s : Shared) (owns : List OwnPart) (i me len : ℕ) (scns : Clock) (old new : State) (it : Content) → old.told ≡ Some it → me ≡ i → i < 8
    → Logs s owns (files_of it) → IsWhole (log_in (files_of it) i) → WritesRunning me scns len written.Done old new
    → (now : Content) × (new.told ≡ Some now) × (OpenEntry (files_of now) i × Logs s owns (files_of now) × (len ≡ length (log_in (files_of now) i)) × IsWhole (log_in (files_of now) i))
opened_entry s owns i me len scns old new it told same few logs whole made = (
  q.0,
  q.1,
  (
    subst (λ (k : Files). OpenEntry k i) (sym files) (subst (λ (c : List ℕ). EntryIs (log_in f i) c true) (sym is_put) (entry_at_end (log_in f i) true len scns is (logs.threads i few).short whole)),
    subst (Logs s owns) (sym files) put,
    is ∙ ap (λ (k : Files). length (log_in k i)) (sym files),
    same_whole (log_in f i) (log_in (files_of q.0) i) (ap (λ (k : Files). log_in k i) (sym files)) whole,
  ),
)
  where
    f : Files
    f = files_of it

    bytes : List ℕ
    bytes = running_bytes len scns

    is : len ≡ length (log_in f i)
    is = length_told me len old made.mid it told made.asks ∙ ap (λ (t : ℕ). length (log_in f t)) same

    asked : (now : Content) × (made.mid.told ≡ Some now) × (files_of now ≡ f)
    asked = asks_untouched me (Some len) old made.mid made.asks it told

    q : (now : Content) × (new.told ≡ Some now) × (files_of now ≡ put_control (files_of asked.0) me bytes)
    q = put_done me bytes made.mid new asked.0 asked.1 made.writes

    files : files_of q.0 ≡ put_control f i bytes
    files = q.2 ∙ ap (λ (x : Files). put_control x me bytes) asked.2 ∙ ap (λ (t : ℕ). put_control f t bytes) same

    put : Logs s owns (put_control f i bytes)
    put = control_put s f owns i bytes logs few (entry_at_end (log_in f i) (open_in s i) len scns is (logs.threads i few).short whole)

    is_put : control_in (put_control f i bytes) i ≡ bytes
    is_put = get_or-set_same f.controls i bytes [] (let e = logs.sizes.1 in omega (arith, few, e))

-- an instance whose thread was to be opened ends, and its thread isn't known to be closed any more
left_unknown : (n m : Inst) (core now : Core) (owns : List OwnPart) (i : ℕ) (told : Option Content) (it : Content) → told ≡ Some it → Logs (shared_of core) owns (files_of it)
    → slice_get owns i ≡ Some (own_of n) → own_of m ≡ lost_own (own_of n) → shared_of now ≡ telling_closed (left_shared (shared_of core) n.plan.me) n.plan.me None
    → IsSmall now.members.epoch → HoldsAt (shared_of now) (slice_set owns i (own_of m)) told
left_unknown n m core now owns i told it tells logs at own shared small =
    let s = shared_of core in
    let me = (logs.each i (own_of n) at).names.0 in
    let is_left : shared_of now ≡ telling_closed (left_shared s i) i None = shared ∙ ap (λ (t : ℕ). telling_closed (left_shared s t) t None) me in
    finish m now owns i told it (telling_closed (left_shared s i) i None) (lost_own (own_of n)) (files_of it) tells is_left own refl
    (closed_unknown (left_shared s i) (files_of it) (slice_set owns i (lost_own (own_of n))) i
    (inst_stopped s (files_of it) owns i (own_of n) logs at (few_insts s owns (files_of it) i (own_of n) logs at).1 (subst IsSmall (ap (λ (x : Shared). x.epoch) is_left) small))
    (settled_not (without_inst s.live i)))

-- a Join

phase_running : (p : Phase) → is_running p ≡ true → p ≡ phase.Running
phase_running phase.Running e = refl
phase_running phase.Frozen e = absurd (let no : false ≡ true = e in cc)
phase_running phase.Thawed e = absurd (let no : false ≡ true = e in cc)
phase_running phase.Dark e = absurd (let no : false ≡ true = e in cc)

phase_dark : (p : Phase) → is_dark p ≡ true → p ≡ phase.Dark
phase_dark phase.Dark e = refl
phase_dark phase.Frozen e = absurd (let no : false ≡ true = e in cc)
phase_dark phase.Thawed e = absurd (let no : false ≡ true = e in cc)
phase_dark phase.Running e = absurd (let no : false ≡ true = e in cc)

runs_if : (core : Core) → is_open_to_joins core ≡ true → is_dark core.members.phase ≡ false → core.members.phase ≡ phase.Running
runs_if core may dark = phase_running core.members.phase (by (is_running core.members.phase) (is_empty core.paused) (is_dark core.members.phase) may dark)
  where
    by : (r e d : Bool) → (r && e || d) ≡ true → d ≡ false → r ≡ true
    by true e d may dark = refl
    by false e true may dark = absurd (let no : true ≡ false = dark in cc)
    by false e false may dark = absurd (let no : false ≡ true = may in cc)

-- what a Join asks
pub record JoinMay (n : Inst) (core : Core) : Type 0 where
  pub gone : is_live core n.plan.me ≡ false
  pub opens : is_open_to_joins core ≡ true

join_dark : (n : Inst) (core : Core) (number : ℕ) (old new : State) → JoinMay n core → is_dark core.members.phase ≡ true → new ≡ old
    → Keeps n (joined n core number joined.Dark) core (joined_core n core number joined.Dark) old new
join_dark n core number old new may dark e owns i at small holds =
    let h = was core owns old holds in
    let s = shared_of core in
    let f = files_of h.0 in
    let me = (h.2.each i (own_of n) at).names.0 in
    let few = few_insts s owns f i (own_of n) h.2 at in
    finish (joined n core number joined.Dark) (joined_core n core number joined.Dark) owns i new.told h.0 (come_shared (record s { former = with_inst s.former i }) i) (record (own_of n) { up = false }) f
    (ap (λ (x : State). x.told) e ∙ h.1) (ap (λ (t : ℕ). come_shared (record s { former = with_inst s.former t }) t) me) refl refl
    (inst_came_dark s f owns i (own_of n) h.2 at few.1 small (phase_dark core.members.phase dark))

join_whole : (n : Inst) (core : Core) (owns : List OwnPart) (i : ℕ) (f : Files) → slice_get owns i ≡ Some (own_of n) → Logs (shared_of core) owns f → JoinMay n core
    → core.members.phase ≡ phase.Running → (has core.members.live i ≡ false) × IsWhole (log_in f i)
join_whole n core owns i f at logs may running =
    let s = shared_of core in
    let few = few_insts s owns f i (own_of n) logs at in
    let gone : has s.live i ≡ false = ap (has s.live) (sym (logs.each i (own_of n) at).names.0) ∙ may.gone in
    (gone, ((logs.threads i few.1).known (logs.members.settled (ap is_settled running) i few.0 gone)).1)

join_running : (n m : Inst) (core now : Core) (len : ℕ) (old mid new : State) → own_of m ≡ record (own_of n) { thread = empty_thread n.plan.me len; places = places_of m; up = false }
    → Fewer (places_of n) (places_of m) → shared_of now ≡ telling_closed (come_shared (shared_of core) n.plan.me) n.plan.me None → JoinMay n core → core.members.phase ≡ phase.Running
    → Untouched old mid → WritesRunning n.plan.me (scns_of n core) len written.Done mid new → Keeps n m core now old new
join_running n m core now len old mid new own fewer shared may running u made owns i at small holds =
    let h = was core owns old holds in
    let s = shared_of core in
    let r = u h.0 h.1 in
    let logs : Logs s owns (files_of r.0) = subst (Logs s owns) (sym r.2) h.2 in
    let me = (logs.each i (own_of n) at).names.0 in
    let few = few_insts s owns (files_of r.0) i (own_of n) logs at in
    let w = join_whole n core owns i (files_of r.0) at logs may running in
    let none = fewer_of_none (places_of n) (places_of m) fewer ((logs.each i (own_of n) at).idle (closed_where s i w.0)).places in
    let o = opened_entry s owns i n.plan.me len (scns_of n core) mid new r.0 r.1 me few.1 logs w.1 made in
    let f = files_of o.0 in
    let is_now : shared_of now ≡ telling_closed (come_shared s i) i None = shared ∙ ap (λ (t : ℕ). telling_closed (come_shared s t) t None) me in
    finish m now owns i new.told o.0 (telling_closed (come_shared s i) i None) (record (opened_own f i (own_of n)) { up = false }) f o.1 is_now
    (own ∙ (λ j. record (own_of n) { thread = empty_thread n.plan.me (o.2.2 j); places = none j; up = false })) refl
    (inst_joined s f owns i (own_of n) false o.2.1 at few.0 few.1 (subst IsSmall (ap (λ (x : Shared). x.epoch) is_now) small) running w.0 o.2.0)

join_unwritten : (n m : Inst) (core now : Core) (len : ℕ) (old mid new : State) → own_of m ≡ lost_own (own_of n)
    → shared_of now ≡ telling_closed (left_shared (shared_of core) n.plan.me) n.plan.me None → JoinMay n core → core.members.phase ≡ phase.Running
    → Untouched old mid → WritesRunning n.plan.me (scns_of n core) len written.Failed mid new → Keeps n m core now old new
join_unwritten n m core now len old mid new own shared may running u made owns i at small holds =
    let h = was core owns old holds in
    let s = shared_of core in
    let r = u h.0 h.1 in
    let logs : Logs s owns (files_of r.0) = subst (Logs s owns) (sym r.2) h.2 in
    let me = (logs.each i (own_of n) at).names.0 in
    let few = few_insts s owns (files_of r.0) i (own_of n) logs at in
    let w = join_whole n core owns i (files_of r.0) at logs may running in
    let o = opening s owns i n.plan.me len (scns_of n core) written.Failed mid new r.0 r.1 me few.1 logs w.1 made in
    left_unknown n m core now owns i new.told o.now o.tells o.logs at own shared small

-- a segment that was just read has nothing that the disk lacks
read_clean : (P : ℕ → Type 0) (layout : Layout) (me : ℕ) (own : SegmentState) → IsReadOf layout me own → AllByRecursion P (flat_map option_to_list own.since)
read_clean P layout me own is =
    subst (AllByRecursion P) (sym (ap (λ (x : SegmentState). flat_map option_to_list x.since) is.clean ∙ clean_none (1 + length own.blocks))) tt

pub join_keeps : (n : Inst) (core : Core) (number : ℕ) (it : Joined) (old new : State) → JoinMay n core → JoinsAs (begun n core number) core it old new
    → Keeps n (joined n core number it) core (joined_core n core number it) old new
join_keeps n core number joined.Dark old new may made = join_dark n core number old new may made.0 made.1
join_keeps n core number (joined.Read own (thread.Running len)) old new may made =
    join_running n (joined n core number (joined.Read own (thread.Running len))) core (joined_core n core number (joined.Read own (thread.Running len))) len old made.1.mid new refl
    (fewer_by n (joined n core number (joined.Read own (thread.Running len))) (λ P a. read_clean P n.plan.layout n.plan.me own.value made.1.is_read) (λ P a. a)) refl may (runs_if core may.opens made.0) (untouched_kept old made.1.mid made.1.reads.told) made.1.opens
join_keeps n core number (joined.Read own (thread.Unwritten len)) old new may made =
    let k = with_segment (begun n core number) own.value (scns_of n core) (thread.Unwritten len) in
    join_unwritten n (lost k) core (joined_core n core number (joined.Read own (thread.Unwritten len))) len old made.1.mid new (lost_is k)
    (lost_shared k (with_closed core n.plan.me None) (loss.Ended false) (Some 0)) may (runs_if core may.opens made.0) (untouched_kept old made.1.mid made.1.reads.told) made.1.opens
join_keeps n core number (joined.Read own thread.Untold) old new may made =
    let k = with_segment (begun n core number) own.value (scns_of n core) thread.Untold in
    stops n (lost k) core (lost_core k core (loss.Ended false) (Some 0)) old new (lost_is k) (lost_shared k core (loss.Ended false) (Some 0))
    (untouched_then old made.1.mid new (untouched_kept old made.1.mid made.1.reads.told) (asks_untouched n.plan.me None made.1.mid new made.1.opens))
join_keeps n core number joined.Bad old new may made =
    let k = begun n core number in
    stops n (lost k) core (lost_core k core (loss.Ended true) (Some 0)) old new (lost_is k) (lost_shared k core (loss.Ended true) (Some 0)) (untouched_kept old new made.1.reads.told)
join_keeps n core number joined.Unread old new may made =
    let k = begun n core number in
    stops n (lost k) core (lost_core k core (loss.Ended false) (Some 0)) old new (lost_is k) (lost_shared k core (loss.Ended false) (Some 0)) (untouched_kept old new made.1.told)

-- a Thaw

-- what a Thaw asks
pub record ThawMay (n : Inst) (core : Core) : Type 0 where
  pub live : is_live core n.plan.me ≡ true
  pub closed : (t : ℕ) → t < 8 → is_dead core t ≡ false

known_if : (core : Core) (t : ℕ) → t < core.layout.instances → is_dead core t ≡ false → (not (is_live core t) || has core.recovery.former t) ≡ true → known_in (shared_of core) t ≡ true
known_if core t within alive gone = by (closed_of core t) (sym (λ k. lt-ltb t core.layout.instances within k && is_none (closed_of core t) && gone k) ∙ alive)
  where
    by : (o : Option Clock) → (true && is_none o && true) ≡ false → is_some o ≡ true
    by None e = absurd (let no : true ≡ false = e in cc)
    by (Some c) e = refl

all_known : (n : Inst) (core : Core) → core.layout.instances ≤ 8 → ThawMay n core → AllKnown (shared_of core)
all_known n core few may j within gone =
    known_if core j within (may.closed j (omega (arith, few, within))) (ap (λ (b : Bool). not b || has core.recovery.former j) gone)

own_known : (n : Inst) (core : Core) (i : ℕ) → i < core.layout.instances → i < 8 → ThawMay n core → has core.recovery.former i ≡ true → known_in (shared_of core) i ≡ true
own_known n core i within few may former =
    known_if core i within (may.closed i few) (ap (λ (b : Bool). not (is_live core i) || b) former ∙ or_true (not (is_live core i)))
  where
    or_true : (b : Bool) → (b || true) ≡ true
    or_true true = refl
    or_true false = refl

-- the leader that has opened its own thread thaws the cluster
thaw_opening : (n m : Inst) (core now : Core) (len : ℕ) (old mid new : State) → own_of m ≡ record (own_of n) { thread = empty_thread n.plan.me len; places = places_of m; adopts = (own_of m).adopts }
    → Fewer (places_of n) (places_of m) → shared_of now ≡ telling_closed (record (shared_of core) { phase = phase.Thawed; former = without_inst core.recovery.former n.plan.me }) n.plan.me None
    → ThawMay n core → has core.recovery.former n.plan.me ≡ true → WritesRunning n.plan.me (scns_of n core) len written.Done old mid → Untouched mid new
    → Keeps n m core now old new
thaw_opening n m core now len old mid new own fewer shared may former made u owns i at small holds =
    let h = was core owns old holds in
    let s = shared_of core in
    let me = (h.2.each i (own_of n) at).names.0 in
    let few = few_insts s owns (files_of h.0) i (own_of n) h.2 at in
    let was_former : has s.former i ≡ true = ap (has s.former) (sym me) ∙ former in
    let known = own_known n core i few.0 few.1 may was_former in
    let whole = ((h.2.threads i few.1).known known).1 in
    let o = opened_entry s owns i n.plan.me len (scns_of n core) old mid h.0 h.1 me few.1 h.2 whole made in
    let f = files_of o.0 in
    let r = u o.0 o.1 in
    let to = λ (t : ℕ). telling_closed (record s { phase = phase.Thawed; former = without_inst s.former t }) t None in
    let a = (own_of m).adopts in
    let none = fewer_of_none (places_of n) (places_of m) fewer ((h.2.each i (own_of n) at).idle (closed_by_former s i was_former)).places in
    finish m now owns i new.told r.0 (to i) (record (opened_own f i (own_of n)) { adopts = a }) f r.1 (shared ∙ ap to me)
    (own ∙ (λ j. record (own_of n) { thread = empty_thread n.plan.me (o.2.2 j); places = none j; adopts = a })) r.2
    (thawed_opening s f owns i (own_of n) a o.2.1 at few.1 was_former known (all_known n core h.2.members.few may) o.2.0)

-- the leader, whose thread is open, thaws the cluster
thaw_open : (n m : Inst) (core now : Core) (old new : State) → own_of m ≡ record (own_of n) { places = places_of m; adopts = (own_of m).adopts }
    → Fewer (places_of n) (places_of m) → shared_of now ≡ record (shared_of core) { phase = phase.Thawed; former = without_inst core.recovery.former n.plan.me }
    → ThawMay n core → has core.recovery.former n.plan.me ≡ false → Untouched old new → Keeps n m core now old new
thaw_open n m core now old new own fewer shared may former u owns i at small holds =
    let h = was core owns old holds in
    let s = shared_of core in
    let f = files_of h.0 in
    let me = (h.2.each i (own_of n) at).names.0 in
    let r = u h.0 h.1 in
    let to = λ (t : ℕ). record s { phase = phase.Thawed; former = without_inst s.former t } in
    finish m now owns i new.told r.0 (to i) (record (own_of n) { places = places_of m; adopts = (own_of m).adopts }) f r.1 (shared ∙ ap to me) own r.2
    (thawed_open s f owns i (own_of n) (own_of m).adopts (places_of m) h.2 at (ap (has s.live) (sym me) ∙ may.live) (ap (has s.former) (sym me) ∙ former) (all_known n core h.2.members.few may)
    fewer)

-- the leader ends after its own thread was to be opened
thaw_left : (n m : Inst) (core now : Core) (len : ℕ) (how : Written) (old mid new : State) → own_of m ≡ lost_own (own_of n)
    → shared_of now ≡ telling_closed (left_shared (shared_of core) n.plan.me) n.plan.me None
    → ThawMay n core → has core.recovery.former n.plan.me ≡ true → WritesRunning n.plan.me (scns_of n core) len how old mid → Untouched mid new
    → Keeps n m core now old new
thaw_left n m core now len how old mid new own shared may former made u owns i at small holds =
    let h = was core owns old holds in
    let s = shared_of core in
    let me = (h.2.each i (own_of n) at).names.0 in
    let few = few_insts s owns (files_of h.0) i (own_of n) h.2 at in
    let known = own_known n core i few.0 few.1 may (ap (has s.former) (sym me) ∙ former) in
    let whole = ((h.2.threads i few.1).known known).1 in
    let o = opening s owns i n.plan.me len (scns_of n core) how old mid h.0 h.1 me few.1 h.2 whole made in
    let r = u o.now o.tells in
    left_unknown n m core now owns i new.told r.0 r.1 (subst (Logs s owns) (sym r.2) o.logs) at own shared small

own_empty : (s : Shared) (f : Files) (i : ℕ) (o : OwnPart) (len : ℕ) → AtOwn s f i o → open_in s i ≡ false → AtOwn s f i (record o { thread = empty_thread o.me len })
own_empty s f i o len here shut = record {
  names = (here.names.0, here.names.0);
  log = λ op. absurd (no_way (open_in s i) op shut);
  places = λ op. absurd (no_way (open_in s i) op shut);
  idle = λ cl. (let was = here.idle cl in record { up = was.up; none = was.none; empty = refl; places = was.places });
  epoch = here.epoch;
  reads = here.reads;
}

-- the leader, which has a new thread, ends after that was opened
thaw_left_open : (n m : Inst) (core now : Core) (len : ℕ) (old mid new : State) → own_of m ≡ lost_own (record (own_of n) { thread = empty_thread n.plan.me len })
    → shared_of now ≡ telling_closed (left_shared (shared_of core) n.plan.me) n.plan.me None
    → ThawMay n core → has core.recovery.former n.plan.me ≡ true → WritesRunning n.plan.me (scns_of n core) len written.Done old mid → Untouched mid new
    → Keeps n m core now old new
thaw_left_open n m core now len old mid new own shared may former made u owns i at small holds =
    let h = was core owns old holds in
    let s = shared_of core in
    let here = h.2.each i (own_of n) at in
    let me = here.names.0 in
    let few = few_insts s owns (files_of h.0) i (own_of n) h.2 at in
    let former_i = ap (has s.former) (sym me) ∙ former in
    let known = own_known n core i few.0 few.1 may former_i in
    let whole = ((h.2.threads i few.1).known known).1 in
    let o = opening s owns i n.plan.me len (scns_of n core) written.Done old mid h.0 h.1 me few.1 h.2 whole made in
    let r = u o.now o.tells in
    let f = files_of o.now in
    let there = o.logs.each i (own_of n) at in
    let shut = closed_by_former s i former_i in
    let p : OwnPart = record (own_of n) { thread = empty_thread n.plan.me len } in
    let logs = own_moved s f owns i p o.logs (own_empty s f i (own_of n) len there shut) in
    let is_left : shared_of now ≡ telling_closed (left_shared s i) i None = shared ∙ ap (λ (t : ℕ). telling_closed (left_shared s t) t None) me in
    finish m now owns i new.told r.0 (telling_closed (left_shared s i) i None) (lost_own p) f r.1 is_left own r.2
    (subst (λ (l : List OwnPart). Logs (telling_closed (left_shared s i) i None) l f) (set_twice owns i p (lost_own p))
    (closed_unknown (left_shared s i) f (slice_set (slice_set owns i p) i (lost_own p)) i
    (inst_stopped s f (slice_set owns i p) i p logs (get_set owns i p (own_of n) at) few.1 (subst IsSmall (ap (λ (x : Shared). x.epoch) is_left) small))
    (settled_not (without_inst s.live i))))

segments_untouched : (layout : Layout) (segs : List ℕ) (result : Result (List SegmentState) LoadError) (old new : State) → ReadsSegments layout segs result old new → Untouched old new
segments_untouched layout segs (Ok owns) old new it = untouched_kept old new it.told
segments_untouched layout segs (Err why) old new it = untouched_kept old new it.told

thaw_own : (k : Inst) (core : Core) (owns : List SegmentState) → own_of (thaw_part k core owns) ≡ record (own_of k) { places = places_of (thaw_part k core owns); adopts = (own_of (thaw_part k core owns)).adopts }
unfolding led
thaw_own k core owns = refl

thaw_fewer : (k : Inst) (core : Core) (owns : List SegmentState) → Fewer (places_of k) (places_of (thaw_part k core owns))
unfolding led
thaw_fewer k core owns = taken_fewer (with_adopted k owns) (thaw_core k core)

thaw_done : (n : Inst) (core : Core) (opening : Option Opened) (owns : List SegmentState) (b : Bool) (old mid new : State) → ThawMay n core → has core.recovery.former n.plan.me ≡ b
    → OpensIf b n.plan.me (scns_of n core) opening old mid → runs opening ≡ true → Untouched mid new
    → Keeps n (thaw_part (opened_part n core opening) (opened_shared n core opening) owns) core (thaw_core (opened_part n core opening) (opened_shared n core opening)) old new
thaw_done n core (Some (thread.Running len)) owns true old mid new may former made runs u =
    let k = opened_part n core (Some (thread.Running len)) in
    let c = opened_shared n core (Some (thread.Running len)) in
    thaw_opening n (thaw_part k c owns) core (thaw_core k c) len old mid new (thaw_own k c owns) (thaw_fewer k c owns) (dealt_shared c k.plan.me (bound_of k c)) may former made u
thaw_done n core (Some (thread.Unwritten len)) owns true old mid new may former made runs u = absurd (let no : false ≡ true = runs in cc)
thaw_done n core (Some thread.Untold) owns true old mid new may former made runs u = absurd (let no : false ≡ true = runs in cc)
thaw_done n core None owns true old mid new may former made runs u = absurd made
thaw_done n core (Some how) owns false old mid new may former made runs u = absurd made
thaw_done n core None owns false old mid new may former made runs u =
    thaw_open n (thaw_part n core owns) core (thaw_core n core) old new (thaw_own n core owns) (thaw_fewer n core owns) (dealt_shared core n.plan.me (bound_of n core)) may former
    (untouched_then old mid new (untouched_same old mid made) u)

thaw_stopped : (n : Inst) (core : Core) (opening : Option Opened) (bad b : Bool) (old mid new : State) → ThawMay n core → has core.recovery.former n.plan.me ≡ b
    → OpensIf b n.plan.me (scns_of n core) opening old mid → Untouched mid new
    → Keeps n (lost (opened_part n core opening)) core (stop_core (opened_part n core opening) (opened_shared n core opening) bad) old new
thaw_stopped n core (Some (thread.Running len)) bad true old mid new may former made u =
    let k = opened_part n core (Some (thread.Running len)) in
    thaw_left_open n (lost k) core (stop_core k (with_closed core n.plan.me None) bad) len old mid new (lost_is k)
    (lost_shared k (with_closed core n.plan.me None) (loss.Ended bad) (Some 0)) may former made u
thaw_stopped n core (Some (thread.Unwritten len)) bad true old mid new may former made u =
    thaw_left n (lost n) core (stop_core n (with_closed core n.plan.me None) bad) len written.Failed old mid new (lost_is n)
    (lost_shared n (with_closed core n.plan.me None) (loss.Ended bad) (Some 0)) may former made u
thaw_stopped n core (Some thread.Untold) bad true old mid new may former made u =
    stops n (lost n) core (stop_core n core bad) old new (lost_is n) (lost_shared n core (loss.Ended bad) (Some 0)) (untouched_then old mid new (asks_untouched n.plan.me None old mid made) u)
thaw_stopped n core None bad true old mid new may former made u = absurd made
thaw_stopped n core (Some how) bad false old mid new may former made u = absurd made
thaw_stopped n core None bad false old mid new may former made u =
    stops n (lost n) core (stop_core n core bad) old new (lost_is n) (lost_shared n core (loss.Ended bad) (Some 0)) (untouched_then old mid new (untouched_same old mid made) u)

pub thaw_keeps : (n : Inst) (core : Core) (it : Thawed) (old new : State) → ThawMay n core → ThawsAs n core it old new → Keeps n (thaw n core it) core (thawed_core n core it) old new
thaw_keeps n core (thawed.Done opening owns) old new may made =
    thaw_done n core opening owns.value.items (has core.recovery.former n.plan.me) old made.mid new may refl made.opens made.runs
    (segments_untouched n.plan.layout (to_adopt n core) (Ok owns.value.items) made.mid new made.reads)
thaw_keeps n core (thawed.Unopened opening) old new may made =
    thaw_stopped n core opening false (has core.recovery.former n.plan.me) old new new may refl made.1 (untouched_same new new refl)
thaw_keeps n core (thawed.Bad opening) old new may made =
    thaw_stopped n core opening true (has core.recovery.former n.plan.me) old made.reads.mid new may refl made.reads.opens
    (segments_untouched n.plan.layout (to_adopt n core) (Err (error.Bad made.number made.field)) made.reads.mid new made.reads.reads)
thaw_keeps n core (thawed.Unread opening) old new may made =
    thaw_stopped n core opening false (has core.recovery.former n.plan.me) old made.mid new may refl made.opens
    (segments_untouched n.plan.layout (to_adopt n core) (Err error.Failed) made.mid new made.reads)
