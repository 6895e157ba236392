-- What the steps that call the disk for a thread leave of the logs.
use Rattle.std.proofs.Common.{◌≡◌, ℕ, ◌^◌, ◌<◌, ◌≤◌, ◌&&◌, not, Bool, true, false, List, [], ◌++◌, length, take, Option, None, Some, slice_get, refl, sym, ap, subst, ◌∙◌, ◌⊎◌, inl, inr, arith}
use Rattle.std.specs.Prelude.{slice_set}
use Rattle.std.specs.List.{AllByRecursion}
use Rattle.std.proofs.lemmas.List.{append-nil, length-append, set-get_or, take_at, take-append-le}
use Rattle.rac_disk.specs.State.{State}
use Rattle.redo_thread.specs.Thread.{forced as thread_forced}
use Rattle.disk_calls.specs.Calls.{WritesControlAs, done, failed}
use Rattle.inst_state.specs.Shared.{is_live, answering}
use Rattle.log_laws.proofs.Cluster.{AtOwn, Files, IsEndIn, LogOf, Logs, Members, Own as OwnPart, Shared, own_of, shared_of, EntryIs, left as left_shared, log_in, lost_own, open_in, put_control, put_log, files_of}
use Rattle.log_laws.proofs.Keeps.{Keeps, Untouched, lost_is, rests, stops, untouched_same, untouched_then, HoldsAt, and_some, few_insts, set_same, some_and}
use Rattle.log_laws.proofs.Moves.{control_put}
use Rattle.log_laws.proofs.Quiet.{lost_shared}
use Rattle.inst_set.specs.Sets.{has}
use Rattle.inst_state.specs.declared.control.Control.{Control}
use Rattle.inst_state.specs.declared.inst.Inst.{Inst}
use Rattle.inst_state.specs.declared.shared.Core.{Core}
use Rattle.inst_loss.specs.Lost.{lost}
use Rattle.inst_loss.specs.LostCore.{lost_core}
use Rattle.disk_calls.specs.declared.appends.Appended.{Appended}
use Rattle.disk_calls.specs.declared.appends.Appended.TheVariants.{Cut, Whole}
use Rattle.disk_calls.specs.declared.writes.Written.{Written}
use Rattle.disk_steps.specs.Checkpoint.{checkpointed, checkpoint_told, bytes_of_entry, checkpoint_ended, entry_now, position_now}
use Rattle.disk_steps.specs.Crash.{crashed_by, kept_to, crash_told_by, crash_told_if, KeepsAs, bytes_if, crash_bytes, kept_by}
use Rattle.disk_steps.specs.Force.{forced_as, all_forced, force_told, ForcesAs, all_told}
use Rattle.disk_steps.specs.declared.crashes.Kept.{Kept}
use Rattle.disk_steps.specs.declared.crashes.Kept.TheVariants.{Bytes, Nothing}
use Rattle.image_steps.specs.TakeCopy.{waiting}
use Rattle.rac_disk.specs.Content.{Content, LogState, no_log}
use Rattle.rac_disk.specs.Calls.{Appends}
use Rattle.control_image.specs.declared.entry.ControlEntry.{ControlEntry}
use Rattle.control_image.specs.declared.entry.ThreadStatus.TheVariants.{Closed, Running}
use Rattle.control_image.specs.Entry.{entry_bytes}
use Rattle.log_laws.specs.Logs.{IsWhole}
use Rattle.recovery.specs.declared.members.Phase.TheVariants as phase
use Rattle.log_laws.proofs.Bytes.{same_whole}
use Rattle.log_laws.proofs.Coming.{no_former}
use Rattle.log_laws.proofs.Places.{places_of, position_of, position_within}
use Rattle.log_laws.proofs.Files.{Spilled, appended_all, asks_untouched, put_as, spilled, take_twice}
use Rattle.log_laws.proofs.Leaving.{IsSmall, take_none, inst_spilled, inst_stopped, log_forced}
use Rattle.inst_loss.specs.declared.ends.Loss.TheVariants as loss
use Rattle.disk_calls.specs.declared.writes.Written.TheVariants as written

bytes_are : (e : ControlEntry) → bytes_of_entry e ≡ entry_bytes e
unfolding bytes_of_entry
bytes_are e = refl

-- a control entry that is running from the end of a record on
pub entry_running : (log : List ℕ) (opened : Bool) (e : ControlEntry) (bytes : List ℕ) → bytes ≡ entry_bytes e → e.status ≡ Running → e.position < 256 ^ 8
    → IsWhole (take e.position log) → e.position ≤ length log → EntryIs log bytes opened
entry_running log opened e bytes is running small whole within = record {
  entry = e;
  bytes = is;
  small = small;
  closed = λ c. (let no : Running ≡ Closed = sym running ∙ c in absurd (cc));
  running = λ r. whole;
  within = λ op. within;
}

-- what holds after a step, by its parts
pub finish : (m : Inst) (now : Core) (owns : List OwnPart) (i : ℕ) (told : Option Content) (it : Content) (s : Shared) (o : OwnPart) (f : Files) → told ≡ Some it
    → shared_of now ≡ s → own_of m ≡ o → files_of it ≡ f → Logs s (slice_set owns i o) f → HoldsAt (shared_of now) (slice_set owns i (own_of m)) told
finish m now owns i told it s o f tells shared own files logs =
    and_some (λ (c : Content). Logs (shared_of now) (slice_set owns i (own_of m)) (files_of c)) told it tells
    (subst (λ (p : OwnPart). Logs (shared_of now) (slice_set owns i p) (files_of it)) (sym own)
    (subst (λ (t : Shared). Logs t (slice_set owns i o) (files_of it)) (sym shared)
    (subst (λ (g : Files). Logs s (slice_set owns i o) g) (sym files) logs)))

pub logs_same : (s : Shared) (f : Files) (owns : List OwnPart) (i : ℕ) (o : OwnPart) → slice_get owns i ≡ Some o → Logs s owns f → Logs s (slice_set owns i o) f
logs_same s f owns i o at logs = subst (λ (l : List OwnPart). Logs s l f) (sym (set_same owns i o at)) logs

pub was : (core : Core) (owns : List OwnPart) (old : State) → HoldsAt (shared_of core) owns old.told → (it : Content) × (old.told ≡ Some it) × Logs (shared_of core) owns (files_of it)
was core owns old holds = some_and (λ (it : Content). Logs (shared_of core) owns (files_of it)) old.told holds

-- an append of some of what waits, and then the end of the instance

pub spilled_then : (t : ℕ) (bytes : List ℕ) (it : Content) (mid new : State) → Spilled t bytes it mid.told → Untouched mid new → Spilled t bytes it new.told
spilled_then t bytes it mid new s u =
    let p = u s.now s.tells in record { now = p.0; tells = p.1; count = s.count; files = p.2 ∙ s.files }

pub spills : (n m : Inst) (core now : Core) (old new : State) → own_of m ≡ lost_own (own_of n) → shared_of now ≡ left_shared (shared_of core) n.plan.me → is_live core n.plan.me ≡ true
    → (n.thread.number ≡ n.plan.me → (it : Content) → old.told ≡ Some it → Spilled n.plan.me n.thread.waiting it new.told) → Keeps n m core now old new
spills n m core now old new own shared live leaves owns i at small holds =
    let h = was core owns old holds in
    let s = shared_of core in
    let f = files_of h.0 in
    let names = (h.2.each i (own_of n) at).names in
    let me = names.0 in
    let few = few_insts s owns f i (own_of n) h.2 at in
    let sp = leaves (names.1 ∙ sym me) h.0 h.1 in
    let w = n.thread.waiting in
    let is_left : shared_of now ≡ left_shared s i = shared ∙ ap (left_shared s) me in
    let epoch = ap (λ (x : Shared). x.epoch) is_left in
    let lives : has s.live i ≡ true = ap (has s.live) (sym me) ∙ live in
    let files : files_of sp.now ≡ put_log f i (log_in f i ++ take sp.count w) = sp.files ∙ ap (λ (t : ℕ). put_log f t (log_in f t ++ take sp.count w)) me in
    finish m now owns i new.told sp.now (left_shared s i) (lost_own (own_of n)) (put_log f i (log_in f i ++ take sp.count w)) sp.tells is_left own files
    (inst_spilled s f owns i (own_of n) sp.count h.2 at few.1 (subst IsSmall epoch small) lives)

-- a force

force_whole : (n : Inst) (core : Core) (old new : State) → is_live core n.plan.me ≡ true → Appends n.thread.number n.thread.waiting done old new
    → Keeps n (all_forced n) core (all_told n core) old new
force_whole n core old new live made owns i at small holds =
    let h = was core owns old holds in
    let s = shared_of core in
    let f = files_of h.0 in
    let me = (h.2.each i (own_of n) at).names.0 in
    let few = few_insts s owns f i (own_of n) h.2 at in
    let w = n.thread.waiting in
    let app = appended_all n.thread.number w old new h.0 h.1 made in
    let lives : has s.live i ≡ true = ap (has s.live) (sym me) ∙ live in
    let files : files_of app.0 ≡ put_log f i (log_in f i ++ w) = app.2 ∙ ap (λ (t : ℕ). put_log f t (log_in f t ++ w)) (h.2.each i (own_of n) at).names.1 in
    finish (all_forced n) (all_told n core) owns i new.told app.0 s (record (own_of n) { thread = thread_forced n.thread }) (put_log f i (log_in f i ++ w)) app.1 refl refl files
    (log_forced s f owns i (own_of n) h.2 at few.1 lives)

pub force_keeps : (n : Inst) (core : Core) (it : Appended) (old new : State) → is_live core n.plan.me ≡ true → ForcesAs n.thread n.plan.me it old new
    → Keeps n (forced_as n it) core (force_told n core it) old new
force_keeps n core Whole old new live made = force_whole n core old new live made
force_keeps n core (Cut kept) old new live made =
    spills n (lost n) core (lost_core n core (loss.Ended false) kept) old new (lost_is n) (lost_shared n core (loss.Ended false) kept) live
    (λ number it told. spilled_then n.plan.me n.thread.waiting it made.mid new
    (subst (λ (t : ℕ). Spilled t n.thread.waiting it made.mid.told) number (spilled n.thread.number n.thread.waiting old made.mid it told made.appends))
    (asks_untouched n.plan.me kept made.mid new made.asks))

-- a crash

some_first : (t q : ℕ) (waiting : List ℕ) (it : Content) (told : Option Content) → Spilled t (take q waiting) it told → Spilled t waiting it told
some_first t q waiting it told s =
    let c = take_twice s.count q waiting in record {
      now = s.now;
      tells = s.tells;
      count = c.0;
      files = s.files ∙ ap (λ (x : List ℕ). put_log (files_of it) t (log_in (files_of it) t ++ x)) c.1;
    }

crash_as : (n : Inst) (core : Core) (control : Control) (it : Kept) (old new : State) → is_live core n.plan.me ≡ true → KeepsAs n.plan.me (crash_bytes n control) it old new
    → Keeps n (lost n) core (crash_told_by n core control it) old new
crash_as n core control Nothing old new live made =
    stops n (lost n) core (crash_told_by n core control Nothing) old new (lost_is n) (lost_shared n core (loss.Crashed control.line) (Some n.thread.durable)) (untouched_same old new made.1)
crash_as n core control (Bytes Whole) old new live made =
    let q = kept_by control.wanted (length n.thread.waiting) in
    spills n (lost n) core (crash_told_by n core control (Bytes Whole)) old new (lost_is n) (lost_shared n core (loss.Crashed control.line) (Some (kept_to n control))) live
    (λ number it told. (let app = appended_all n.plan.me (crash_bytes n control) old new it told made in
    record { now = app.0; tells = app.1; count = q; files = app.2 }))
crash_as n core control (Bytes (Cut kept)) old new live made =
    let q = kept_by control.wanted (length n.thread.waiting) in
    spills n (lost n) core (crash_told_by n core control (Bytes (Cut kept))) old new (lost_is n) (lost_shared n (answering core control.line) (loss.Ended false) kept) live
    (λ number it told. some_first n.plan.me q n.thread.waiting it new.told (spilled_then n.plan.me (crash_bytes n control) it made.mid new
    (spilled n.plan.me (crash_bytes n control) old made.mid it told made.appends) (asks_untouched n.plan.me kept made.mid new made.asks)))

put_same : (f : Files) (t : ℕ) (bytes : List ℕ) → bytes ≡ [] → put_log f t (log_in f t ++ bytes) ≡ f
put_same f t bytes none =
    ap (λ (x : List ℕ). put_log f t x) (ap (λ (x : List ℕ). log_in f t ++ x) none ∙ append-nil (log_in f t))
    ∙ ap (λ (l : List LogState). record f { logs = l }) (set-get_or f.logs t no_log)

none_appended : (t : ℕ) (old new : State) → Appends t [] done old new → Untouched old new
none_appended t old new made it told =
    let app = appended_all t [] old new it told made in (app.0, app.1, app.2 ∙ put_same (files_of it) t [] refl)

none_left : (t : ℕ) (old new : State) → Appends t [] failed old new → Untouched old new
none_left t old new made it told =
    let s = spilled t [] old new it told made in (s.now, s.tells, s.files ∙ put_same (files_of it) t (take s.count []) (take_none s.count [] refl))

pub crash_keeps : (n : Inst) (core : Core) (o : Option Control) (it : Kept) (old new : State) → is_live core n.plan.me ≡ true → KeepsAs n.plan.me (bytes_if n o) it old new
    → Keeps n (crashed_by n o) core (crash_told_if n core o it) old new
crash_keeps n core None Nothing old new live made = rests n n core core old new refl refl (untouched_same old new made.1)
crash_keeps n core None (Bytes Whole) old new live made = rests n n core core old new refl refl (none_appended n.plan.me old new made)
crash_keeps n core None (Bytes (Cut kept)) old new live made =
    rests n n core core old new refl refl (untouched_then old made.mid new (none_left n.plan.me old made.mid made.appends) (asks_untouched n.plan.me kept made.mid new made.asks))
crash_keeps n core (Some control) it old new live made = crash_as n core control it old new live made

-- the end of a checkpoint

-- the thread of a live instance is open where the cluster runs
pub open_where_running : (s : Shared) (i : ℕ) → Members s → s.phase ≡ phase.Running → has s.live i ≡ true → open_in s i ≡ true
open_where_running s i members running lives =
    let none = no_former s members (λ e. (let no : phase.Running ≡ phase.Frozen = sym running ∙ e in absurd (cc))) i in
    λ k. lives k && not (none k)

-- the place before which recovery needs nothing is the end of a record that the disk has
position_behind : (f : Files) (i : ℕ) (n : Inst) → LogOf (log_in f i) i n.thread → AllByRecursion (IsEndIn (log_in f i ++ n.thread.waiting)) (places_of n)
    → IsEndIn (log_in f i) (position_now n)
position_behind f i n log places =
    let bytes = log_in f i ++ n.thread.waiting in
    let durable = log.durable in
    let size = length-append (log_in f i) n.thread.waiting in
    let last : IsEndIn bytes n.thread.durable = record {
      within = omega (arith, durable, size);
      whole = same_whole (log_in f i) (take n.thread.durable bytes) (sym (take_at (log_in f i) n.thread.waiting n.thread.durable (sym durable))) log.behind;
    } in
    let at = position_of n (IsEndIn bytes) last places in
    let before = position_within n in
    let within : position_now n ≤ length (log_in f i) = omega (arith, before, durable) in
    record {
      within = within;
      whole = same_whole (take (position_now n) bytes) (take (position_now n) (log_in f i)) (take-append-le (position_now n) (log_in f i) n.thread.waiting within) at.whole;
    }

pub check_keeps : (n : Inst) (core : Core) (number : ℕ) (it : Written) (old new : State) → is_live core n.plan.me ≡ true → core.members.phase ≡ phase.Running
    → WritesControlAs n.plan.me (bytes_of_entry (entry_now n)) it old new → Keeps n (checkpointed n number it) core (checkpoint_told n core number it) old new
check_keeps n core number it old new live running made owns i at small holds = by it made small
  where
    h : (c : Content) × (old.told ≡ Some c) × Logs (shared_of core) owns (files_of c)
    h = was core owns old holds

    s : Shared
    s = shared_of core

    f : Files
    f = files_of h.0

    here : AtOwn s f i (own_of n)
    here = h.2.each i (own_of n) at

    me : n.plan.me ≡ i
    me = here.names.0

    few : (i < s.instances) × (i < 8)
    few = few_insts s owns f i (own_of n) h.2 at

    bytes : List ℕ
    bytes = bytes_of_entry (entry_now n)

    opens : open_in s i ≡ true
    opens = open_where_running s i h.2.members running (ap (has s.live) (sym me) ∙ live)

    behind : IsEndIn (log_in f i) (position_now n)
    behind = position_behind f i n (here.log opens) (here.places opens)

    entry : EntryIs (log_in f i) bytes (open_in s i)
    entry = entry_running (log_in f i) (open_in s i) (entry_now n) bytes (bytes_are (entry_now n)) refl
        (let short = (h.2.threads i few.1).short in let within = behind.within in omega (arith, short, within)) behind.whole behind.within

    written_logs : Logs s owns (put_control f i bytes)
    written_logs = control_put s f owns i bytes h.2 few.1 entry

    after : (g : Files) → (g ≡ f) ⊎ (g ≡ put_control f n.plan.me bytes) → Logs s owns g
    after g (inl e) = subst (Logs s owns) (sym e) h.2
    after g (inr e) = subst (Logs s owns) (sym (e ∙ ap (λ (t : ℕ). put_control f t bytes) me)) written_logs

    by : (it : Written) → WritesControlAs n.plan.me bytes it old new → IsSmall (checkpoint_told n core number it).members.epoch
        → HoldsAt (shared_of (checkpoint_told n core number it)) (slice_set owns i (own_of (checkpointed n number it))) new.told
    by written.Done made small =
        let p = put_as n.plan.me bytes written.Done old new h.0 h.1 made in
        finish (checkpoint_ended n number) (checkpoint_told n core number written.Done) owns i new.told p.now s (own_of n) (files_of p.now) p.tells refl refl refl
        (logs_same s (files_of p.now) owns i (own_of n) at (after (files_of p.now) p.files))
    by written.Failed made small =
        let p = put_as n.plan.me bytes written.Failed old new h.0 h.1 made in
        let now = lost_core n core (loss.Ended false) (Some 0) in
        let is_left : shared_of now ≡ left_shared s i = lost_shared n core (loss.Ended false) (Some 0) ∙ ap (left_shared s) me in
        let epoch = ap (λ (x : Shared). x.epoch) is_left in
        finish (lost n) now owns i new.told p.now (left_shared s i) (lost_own (own_of n)) (files_of p.now) p.tells is_left (lost_is n) refl
        (inst_stopped s (files_of p.now) owns i (own_of n) (after (files_of p.now) p.files) at few.1 (subst IsSmall epoch small))
