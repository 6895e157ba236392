-- What the reads and the closes of dead threads leave of the logs.
use Rattle.std.proofs.Common.{◌≡◌, ℕ, ◌^◌, ◌<◌, ◌&&◌, ◌||◌, not, Bool, true, false, List, [], ◌∷◌, ◌++◌, take, Option, None, Some, if◌then◌else◌, refl, sym, ap, subst, ◌∙◌, ◌⊎◌, inl, inr, arith}
use Rattle.std.specs.Prelude.{IfSome, ◌==◌, slice_set, find, is_none, nat_lt, unwrap_or}
use Rattle.std.specs.List.{AllByRecursion}
use Rattle.std.proofs.lemmas.Bool.{and_parts, eqb-true}
use Rattle.rac_disk.specs.State.{State}
use Rattle.base_types.specs.declared.layout.Layout.{Layout}
use Rattle.inst_state.specs.Shared.{is_live, closed_of}
use Rattle.inst_state.specs.declared.inst.ReadThread.{ReadThread}
use Rattle.log_laws.proofs.Cluster.{AtOwn, Files, Logs, Own as OwnPart, ReadOf, Shared, own_of, shared_of, EntryIs, left as left_shared, log_in, lost_own, open_in, put_control, put_log, files_of, ThreadAt, control_in, telling_closed}
use Rattle.log_laws.proofs.Keeps.{Keeps, lost_is, stops, untouched_kept, HoldsAt, few_insts}
use Rattle.log_laws.proofs.Moves.{own_moved, control_put, log_cut, log_put, no_way}
use Rattle.log_laws.proofs.Thawing.{own_kept}
use Rattle.log_laws.proofs.Quiet.{lost_shared, records_shared}
use Rattle.inst_set.specs.Sets.{has}
use Rattle.inst_state.specs.declared.inst.Inst.{Inst}
use Rattle.inst_state.specs.declared.shared.Core.{Core}
use Rattle.inst_loss.specs.Lost.{lost}
use Rattle.inst_loss.specs.LostCore.{lost_core}
use Rattle.thread_steps.specs.Close.{thread_closed, closed_core_as, closed_entry, read_of, ClosesLogAs, is_of_thread, nothing_read, with_closing}
use Rattle.thread_steps.specs.Read.{records_entered, thread_read, thread_read_core}
use Rattle.thread_steps.specs.declared.closes.Closing.{Closing}
use Rattle.thread_steps.specs.declared.found.Found.{Found}
use Rattle.thread_steps.specs.declared.found.FoundLog.{FoundLog}
use Rattle.scn_clock.specs.declared.clock.Clock.{Clock}
use Rattle.rac_disk.specs.Content.{Content}
use Rattle.control_image.specs.declared.entry.ControlEntry.{ControlEntry}
use Rattle.control_image.specs.declared.entry.ThreadStatus.TheVariants.{Closed, Running}
use Rattle.control_image.specs.Entry.{entry_bytes}
use Rattle.log_laws.specs.Logs.{IsWhole}
use Rattle.log_laws.proofs.Files.{put_as, put_done, behind_small, cut_done, cut_failed, one_entry}
use Rattle.log_laws.proofs.Leaving.{IsSmall, inst_stopped}
use Rattle.std.proofs.lemmas.Option.{none-some, same_Some}
use Rattle.report_steps.specs.Recovering.{is_dead}
use Rattle.thread_steps.specs.Entries.{HasEntry, StandsIn, scns_of as scns_in}
use Rattle.thread_steps.specs.Found.{FindsThread, HoldsThread, IsClosed, IsRunning}
use Rattle.thread_steps.specs.declared.found.BlockVersion.{BlockVersion}
use Rattle.log_laws.proofs.Bytes.{nothing_whole, same_whole, whole_read}
use Rattle.log_laws.proofs.Coming.{closed_known}
use Rattle.log_laws.proofs.Sets.{found_fits}
use Rattle.log_laws.proofs.ByDisk.{finish, logs_same, was}
use Rattle.inst_loss.specs.declared.ends.Loss.TheVariants as loss
use Rattle.disk_calls.specs.declared.writes.Written.TheVariants as written
use Rattle.thread_steps.specs.declared.closes.Closing.TheVariants as closing
use Rattle.thread_steps.specs.declared.found.Found.TheVariants as found

-- a thread that is dead isn't open
pub dead_shut : (core : Core) (t : ℕ) → is_dead core t ≡ true → open_in (shared_of core) t ≡ false
dead_shut core t e =
    by (is_live core t) (has core.recovery.former t)
    (and_parts (nat_lt t core.layout.instances && is_none (closed_of core t)) (not (is_live core t) || has core.recovery.former t) e).1
  where
    by : (a b : Bool) → (not a || b) ≡ true → (a && not b) ≡ false
    by true true h = refl
    by true false h = absurd (let no : false ≡ true = h in cc)
    by false b h = refl

-- what an instance has once it has read more

reads_before : (n : Inst) (core : Core) (f : Files) (i : ℕ) → AtOwn (shared_of core) f i (own_of n)
    → AllByRecursion (ReadOf (shared_of core) f) (if n.leading.recovering.epoch == core.members.epoch then n.leading.recovering.threads else [])
reads_before n core f i here = by (n.leading.recovering.epoch == core.members.epoch) refl
  where
    by : (b : Bool) → (n.leading.recovering.epoch == core.members.epoch) ≡ b
        → AllByRecursion (ReadOf (shared_of core) f) (if b then n.leading.recovering.threads else [])
    by true e = here.reads (eqb-true n.leading.recovering.epoch core.members.epoch e)
    by false e = tt

-- what an instance has that has read these threads in this epoch
abbrev pub with_reads : Inst → Core → List ReadThread → OwnPart
with_reads n core rs = record (own_of n) { epoch = core.members.epoch; reads = rs }

own_reads : (n : Inst) (core : Core) (f : Files) (i : ℕ) (rs : List ReadThread) → AtOwn (shared_of core) f i (own_of n) → AllByRecursion (ReadOf (shared_of core) f) rs
    → AtOwn (shared_of core) f i (with_reads n core rs)
own_reads n core f i rs here all =
    own_kept (shared_of core) f i (own_of n) (with_reads n core rs) here refl refl (λ P a. a) (λ cl. ((here.idle cl).up, (here.idle cl).none)) (omega arith) (λ e. all)

-- the entry that a read found is the one that is there
pub found_entry : (s : Shared) (f : Files) (it : Content) (t : ℕ) (entry : ControlEntry) → files_of it ≡ f → ThreadAt s f t → HasEntry t entry it
    → (e : EntryIs (log_in f t) (control_in f t) (open_in s t)) × ((e.entry.status ≡ entry.status) × (e.entry.position ≡ entry.position))
found_entry s f it t entry same thread has_it =
    let e = thread.entry in
    let bytes : control_in (files_of it) t ≡ entry_bytes e.entry = ap (λ (g : Files). control_in g t) same ∙ e.bytes in
    (e, one_entry e.entry entry e.small (subst (λ (b : List ℕ). StandsIn b entry) bytes has_it.0))

abbrev before : Inst → Core → List ReadThread
before n core = if n.leading.recovering.epoch == core.members.epoch then n.leading.recovering.threads else []

-- a thread that was found closed
read_closed : (n : Inst) (core : Core) (thread : ℕ) (scns : Clock) (old new : State) → thread < 8 → open_in (shared_of core) thread ≡ false
    → FindsThread core.layout thread (found.Closed scns) old new → Keeps n (thread_read n core (found.Closed scns)) core (thread_read_core n core thread (found.Closed scns)) old new
read_closed n core thread scns old new few shut finds owns i at small holds =
    let h = was core owns old holds in
    let s = shared_of core in
    let f = files_of h.0 in
    let u = untouched_kept old new finds.told h.0 h.1 in
    let closed : IsClosed thread scns h.0 = subst (λ (o : Option Content). IfSome o (HoldsThread core.layout thread (found.Closed scns))) h.1 finds.holds in
    let e = found_entry s f h.0 thread closed.entry refl (h.2.threads thread few) closed.has in
    let whole = (e.0.closed (e.1.0 ∙ closed.closed)).1 in
    let here = h.2.each i (own_of n) at in
    finish (thread_read n core (found.Closed scns)) (thread_read_core n core thread (found.Closed scns)) owns i new.told u.0 (telling_closed s thread (Some scns)) (with_reads n core (before n core)) f u.1 refl refl u.2
    (closed_known s f (slice_set owns i (with_reads n core (before n core))) thread scns
    (own_moved s f owns i (with_reads n core (before n core)) h.2 (own_reads n core f i (before n core) here (reads_before n core f i here))) shut whole)

all_push : (s : Shared) (f : Files) (rs : List ReadThread) (r : ReadThread) → AllByRecursion (ReadOf s f) rs → ReadOf s f r → AllByRecursion (ReadOf s f) (rs ++ r ∷ [])
all_push s f [] r all one = (one, tt)
all_push s f (x ∷ rs) r all one = (all.0, all_push s f rs r all.1 one)

-- what was read of a thread that was found running
read_found : (s : Shared) (it : Content) (layout : Layout) (thread : ℕ) (log : FoundLog) (versions : List BlockVersion) → ThreadAt s (files_of it) thread
    → IsRunning layout thread (found.Whole log versions) it → ReadOf s (files_of it) log.read
read_found s it layout thread log versions old running =
    let f = files_of it in
    let entry = running.entry in
    let e = found_entry s f it thread entry refl old running.has in
    let records = log.read.records in
    let good = running.holds.1 in
    let bytes = log_in f thread in
    let same = ap (λ (l : FoundLog). l.read) running.holds.0 in
    let small : entry.position < 256 ^ 8 = subst (λ (k : ℕ). k < 256 ^ 8) e.1.1 e.0.small in
    let first : IsWhole (take entry.position bytes) = subst (λ (k : ℕ). IsWhole (take k bytes)) e.1.1 (e.0.running (e.1.0 ∙ running.running)) in
    let whole = whole_read bytes entry.position records good.are.rest first good.are.is_log.each good.are.is_log.spelled in
    subst (ReadOf s f) (sym same) (behind_small bytes entry.position records good.are.rest small old.short good.are.is_log.spelled, λ cl. whole)

read_whole : (n : Inst) (core : Core) (thread : ℕ) (log : FoundLog) (versions : List BlockVersion) (old new : State) → thread < 8
    → FindsThread core.layout thread (found.Whole log versions) old new
    → Keeps n (thread_read n core (found.Whole log versions)) core (thread_read_core n core thread (found.Whole log versions)) old new
read_whole n core thread log versions old new few finds owns i at small holds =
    let h = was core owns old holds in
    let s = shared_of core in
    let f = files_of h.0 in
    let u = untouched_kept old new finds.told h.0 h.1 in
    let running : IsRunning core.layout thread (found.Whole log versions) h.0 =
    subst (λ (o : Option Content). IfSome o (HoldsThread core.layout thread (found.Whole log versions))) h.1 finds.holds in
    let here = h.2.each i (own_of n) at in
    let rs = before n core ++ log.read ∷ [] in
    let all = all_push s f (before n core) log.read (reads_before n core f i here) (read_found s h.0 core.layout thread log versions (h.2.threads thread few) running) in
    finish (thread_read n core (found.Whole log versions)) (thread_read_core n core thread (found.Whole log versions)) owns i new.told u.0 s (with_reads n core rs) f u.1
    (records_shared thread log.position log.read.records core) refl u.2 (own_moved s f owns i (with_reads n core rs) h.2 (own_reads n core f i rs here all))

pub read_keeps : (n : Inst) (core : Core) (thread : ℕ) (it : Found) (old new : State) → thread < 8 → open_in (shared_of core) thread ≡ false
    → FindsThread core.layout thread it old new → Keeps n (thread_read n core it) core (thread_read_core n core thread it) old new
read_keeps n core thread (found.Closed scns) old new few shut finds = read_closed n core thread scns old new few shut finds
read_keeps n core thread (found.Whole log versions) old new few shut finds = read_whole n core thread log versions old new few finds
read_keeps n core thread (found.Unread bad) old new few shut finds =
    stops n (lost n) core (lost_core n core (loss.Ended bad) (Some 0)) old new (lost_is n) (lost_shared n core (loss.Ended bad) (Some 0)) (untouched_kept old new finds.told)
read_keeps n core thread (found.Stopped log bad) old new few shut finds =
    let mid = records_entered thread log.position log.read.records core in
    stops n (lost n) core (lost_core n mid (loss.Ended bad) (Some 0)) old new (lost_is n)
    (lost_shared n mid (loss.Ended bad) (Some 0) ∙ ap (λ (s : Shared). left_shared s n.plan.me) (records_shared thread log.position log.read.records core)) (untouched_kept old new finds.told)

-- a thread is closed

found_all : {A : Type 0} (P : A → Type 0) (p : A → Bool) (l : List A) (x : A) → find p l ≡ Some x → AllByRecursion P l → P x
found_all P p [] x e all = absurd (none-some x e)
found_all {A = A} P p (a ∷ l) x e all = by (λ at. found_all P p l x at all.1) (p a) e
  where
    by : (find p l ≡ Some x → P x) → (b : Bool) → (if b then Some a else find p l) ≡ Some x → P x
    by later true at = subst P (same_Some a x at) all.0
    by later false at = later at

-- what was read of a thread ends with a record
closing_place : (n : Inst) (core : Core) (f : Files) (i thread : ℕ) → AtOwn (shared_of core) f i (own_of n) → n.leading.recovering.epoch ≡ core.members.epoch
    → open_in (shared_of core) thread ≡ false → ((read_of n thread).behind < 256 ^ 8) × IsWhole (take (read_of n thread).behind (log_in f thread))
closing_place n core f i thread here epoch shut = by (find (is_of_thread thread) n.leading.recovering.threads) refl
  where
    by : (o : Option ReadThread) → find (is_of_thread thread) n.leading.recovering.threads ≡ o
        → ((unwrap_or o nothing_read).behind < 256 ^ 8) × IsWhole (take (unwrap_or o nothing_read).behind (log_in f thread))
    by None e = (omega arith, nothing_whole (take 0 (log_in f thread)) refl)
    by (Some r) e =
        let it = found_all (ReadOf (shared_of core) f) (is_of_thread thread) n.leading.recovering.threads r e (here.reads epoch) in
        let same = eqb-true r.thread thread (found_fits (is_of_thread thread) n.leading.recovering.threads r e) in
        (it.0, subst (λ (t : ℕ). IsWhole (take r.behind (log_in f t))) same (it.1 (ap (open_in (shared_of core)) same ∙ shut)))

-- the control entry of a thread that was closed behind its last record
entry_closed : (log : List ℕ) (opened : Bool) (e : ControlEntry) → e.status ≡ Closed → e.position < 256 ^ 8 → opened ≡ false → IsWhole log → EntryIs log (entry_bytes e) opened
entry_closed log opened e closed small shut whole = record {
  entry = e;
  bytes = refl;
  small = small;
  closed = λ c. (shut, whole);
  running = λ r. (let no : Closed ≡ Running = sym closed ∙ r in absurd (cc));
  within = λ op. absurd (no_way opened op shut);
}

pub close_keeps : (n : Inst) (core : Core) (thread : ℕ) (it : Closing) (old new : State) → thread < 8 → open_in (shared_of core) thread ≡ false
    → n.leading.recovering.epoch ≡ core.members.epoch → ClosesLogAs thread (closed_entry (read_of n thread)) it old new
    → Keeps n (thread_closed n it) core (closed_core_as n core thread (closed_entry (read_of n thread)) it) old new
close_keeps n core thread it old new few shut epoch made owns i at small holds = by it made small
  where
    h : (c : Content) × (old.told ≡ Some c) × Logs (shared_of core) owns (files_of c)
    h = was core owns old holds

    s : Shared
    s = shared_of core

    f : Files
    f = files_of h.0

    here : AtOwn s f i (own_of n)
    here = h.2.each i (own_of n) at

    entry : ControlEntry
    entry = closed_entry (read_of n thread)

    place : ((read_of n thread).behind < 256 ^ 8) × IsWhole (take (read_of n thread).behind (log_in f thread))
    place = closing_place n core f i thread here epoch shut

    q : ℕ
    q = (read_of n thread).behind

    g : Files
    g = put_log f thread (take q (log_in f thread))

    logs_cut : Logs s owns g
    logs_cut = log_cut s f owns thread q h.2 few shut place.1

    cut_log : log_in g thread ≡ take q (log_in f thread)
    cut_log = log_put f thread (take q (log_in f thread)) (let e = h.2.sizes.0 in omega (arith, few, e))

    whole : IsWhole (log_in g thread)
    whole = same_whole (take q (log_in f thread)) (log_in g thread) (sym cut_log) place.1

    new_entry : EntryIs (log_in g thread) (entry_bytes entry) (open_in s thread)
    new_entry = entry_closed (log_in g thread) (open_in s thread) entry refl place.0 shut whole

    logs_put : Logs s owns (put_control g thread (entry_bytes entry))
    logs_put = control_put s g owns thread (entry_bytes entry) logs_cut few new_entry

    after_cut : (k : Files) → (k ≡ f) ⊎ (k ≡ g) → Logs s owns k
    after_cut k (inl e) = subst (Logs s owns) (sym e) h.2
    after_cut k (inr e) = subst (Logs s owns) (sym e) logs_cut

    after_put : (m k : Files) → m ≡ g → (k ≡ m) ⊎ (k ≡ put_control m thread (entry_bytes entry)) → Logs s owns k
    after_put m k e (inl same) = subst (Logs s owns) (sym (same ∙ e)) logs_cut
    after_put m k e (inr put) = subst (Logs s owns) (sym (put ∙ ap (λ (x : Files). put_control x thread (entry_bytes entry)) e)) logs_put

    me : n.plan.me ≡ i
    me = here.names.0

    ends : Core
    ends = lost_core n core (loss.Ended false) (Some 0)

    is_left : shared_of ends ≡ left_shared s i
    is_left = lost_shared n core (loss.Ended false) (Some 0) ∙ ap (left_shared s) me

    ended_logs : IsSmall ends.members.epoch → (c : Content) → new.told ≡ Some c → Logs s owns (files_of c) → HoldsAt (shared_of ends) (slice_set owns i (own_of (lost n))) new.told
    ended_logs small c told logs =
        finish (lost n) ends owns i new.told c (left_shared s i) (lost_own (own_of n)) (files_of c) told is_left (lost_is n) refl
        (inst_stopped s (files_of c) owns i (own_of n) logs at (few_insts s owns f i (own_of n) h.2 at).1 (subst IsSmall (ap (λ (x : Shared). x.epoch) is_left) small))

    by : (it : Closing) → ClosesLogAs thread entry it old new → IsSmall (closed_core_as n core thread entry it).members.epoch
        → HoldsAt (shared_of (closed_core_as n core thread entry it)) (slice_set owns i (own_of (thread_closed n it))) new.told
    by closing.Uncut made small =
        let sh = cut_failed thread q old new h.0 h.1 made in ended_logs small sh.now sh.tells (after_cut (files_of sh.now) sh.files)
    by closing.Unwritten made small =
        let c = cut_done thread q old made.mid h.0 h.1 made.cuts in
        let p = put_as thread (entry_bytes entry) written.Failed made.mid new c.0 c.1 made.writes in
        ended_logs small p.now p.tells (after_put (files_of c.0) (files_of p.now) c.2 p.files)
    by closing.Done made small =
        let c = cut_done thread q old made.mid h.0 h.1 made.cuts in
        let p = put_done thread (entry_bytes entry) made.mid new c.0 c.1 made.writes in
        let logs = after_put (files_of c.0) (files_of p.0) c.2 (inr p.2) in
        let k = put_control g thread (entry_bytes entry) in
        finish n (with_closing core thread entry) owns i new.told p.0 (telling_closed s thread (Some (scns_in entry))) (own_of n) k p.1 refl refl
        (p.2 ∙ ap (λ (x : Files). put_control x thread (entry_bytes entry)) c.2)
        (logs_same (telling_closed s thread (Some (scns_in entry))) k owns i (own_of n) at (closed_known s k owns thread (scns_in entry) logs_put shut whole))
