-- How the cluster runs again, and what an instance does by itself.
use Rattle.std.proofs.Common.{◌≡◌, ℕ, ◌+◌, ◌^◌, ◌<◌, ◌≤◌, ◌&&◌, not, Bool, true, false, List, [], ◌∷◌, ◌++◌, length, take, Option, Some, None, slice_get, refl, sym, ap, subst, ◌∙◌, ◌⊎◌, inl, inr, arith, append_assoc}
use Rattle.std.specs.Prelude.{is_some, slice_set}
use Rattle.std.specs.List.{AllByRecursion}
use Rattle.std.proofs.lemmas.Bool.{cases_eq}
use Rattle.std.proofs.lemmas.List.{get_or-set_other, length-append, length-set, take_all, take-append-le}
use Rattle.inst_set.specs.Sets.{has, without_inst}
use Rattle.redo_types.specs.declared.redo.Redo.{Redo}
use Rattle.redo_record.specs.Redo.{IsRedo, redo_bytes}
use Rattle.redo_thread.specs.Thread.{ThreadState, appended, end_of}
use Rattle.scn_clock.specs.declared.clock.Clock.{Clock}
use Rattle.recovery.specs.declared.members.Phase.TheVariants as phase
use Rattle.inst_state.specs.declared.inst.ReadThread.{ReadThread}
use Rattle.log_laws.specs.Logs.{IsWhole}
use Rattle.log_laws.proofs.Bytes.{record_length, record_whole, same_whole, whole_append}
use Rattle.log_laws.proofs.Cluster.{Alone, AtOwn, Files, IsEndIn, LogOf, Logs, Members, Own, ReadOf, Shared, Thread, ThreadAt, control_in, is_settled, known_in, log_in, open_in, telling_closed}
use Rattle.log_laws.proofs.Places.{Fewer, OneMore, fewer_of_none}
use Rattle.log_laws.proofs.Sets.{has_still, has_without}
use Rattle.log_laws.proofs.Moves.{moved, no_way, open_by, other_on, reads_on, thread_on}
use Rattle.log_laws.proofs.Coming.{OpenEntry, no_former, open_log, open_thread, opened_own, unknown_at, unknown_still}

-- Each instance that isn't live has its thread closed.
abbrev pub AllKnown : Shared → Type 0
AllKnown s = (j : ℕ) → j < s.instances → has s.live j ≡ false → known_in s j ≡ true

-- the leader, which came in with nobody live, opens its thread and thaws the cluster
pub thawed_opening : (s : Shared) (f : Files) (owns : List Own) (i : ℕ) (o : Own) (adopts : ℕ) → Logs s owns f → slice_get owns i ≡ Some o → i < 8
    → has s.former i ≡ true → known_in s i ≡ true → AllKnown s → OpenEntry f i
    → Logs (telling_closed (record s { phase = phase.Thawed; former = without_inst s.former i }) i None)
    (slice_set owns i (record (opened_own f i o) { adopts = adopts })) f
thawed_opening s f owns i o adopts logs there few was_former known all entry =
    moved s now f f owns i (record (opened_own f i o) { adopts = adopts }) logs refl members logs.sizes (λ t small. thread t small (cases_eq t i)) own
    (λ j x apart was. other_on s now f f j x (λ op. refl) (same_open j apart) refl (inl (refl, reads)) was)
  where
    now : Shared
    now = telling_closed (record s { phase = phase.Thawed; former = without_inst s.former i }) i None

    m : Members s
    m = logs.members

    a : Alone s i
    a = m.former i was_former

    same_open : (j : ℕ) → (j ≡ i → ⊥) → open_in now j ≡ open_in s j
    same_open j apart = open_by s now j refl (has_still s.former i j apart)

    opens : open_in now i ≡ true
    opens = λ k. a.live k && not (has_without s.former i k)

    whole : IsWhole (log_in f i)
    whole = ((logs.threads i few).known known).1

    none : (j : ℕ) → (j ≡ i) ⊎ (j ≡ i → ⊥) → has now.former j ≡ true → ⊥
    none j (inl e) was = no_way (has now.former j) was (ap (has now.former) e ∙ has_without s.former i)
    none j (inr apart) was =
        let other = m.former j (sym (has_still s.former i j apart) ∙ was) in apart (sym (other.alone i a.live))

    members : Members now
    members = record {
      few = m.few;
      sizes = (m.sizes.0, length-set s.former.present i false ∙ m.sizes.1);
      dark = λ d. (let no : phase.Thawed ≡ phase.Dark = d in absurd (cc));
      former = λ j was. absurd (none j (cases_eq j i) was);
      settled = λ st j within gone.
          ap (λ (o : Option Clock). is_some o)
          (get_or-set_other s.closed i j None None (λ e. no_way (has s.live i) a.live (ap (has s.live) (sym e) ∙ gone)))
          ∙ all j within gone;
    }

    thread : (t : ℕ) → t < 8 → (t ≡ i) ⊎ (t ≡ i → ⊥) → ThreadAt now f t
    thread t small (inl e) = subst (λ (k : ℕ). ThreadAt now f k) (sym e)
        (subst (λ (b : Bool). Thread (log_in f i) (control_in f i) b (known_in now i)) (sym opens)
        (subst (λ (b : Bool). Thread (log_in f i) (control_in f i) true b) (sym (unknown_at s i)) (open_thread s f i (logs.threads i few) entry)))
    thread t small (inr apart) = thread_on s now f f t refl refl (same_open t apart) (λ k. unknown_still s i t k (inr apart)) (logs.threads t small)

    read_by : (r : ReadThread) → ReadOf s f r → (r.thread ≡ i) ⊎ (r.thread ≡ i → ⊥) → ReadOf now f r
    read_by r was (inl e) = (was.0, λ cl. absurd (no_way (open_in now i) opens (ap (open_in now) (sym e) ∙ cl)))
    read_by r was (inr apart) = (was.0, λ cl. was.1 (sym (same_open r.thread apart) ∙ cl))

    reads : (r : ReadThread) → ReadOf s f r → ReadOf now f r
    reads r was = read_by r was (cases_eq r.thread i)

    at : AtOwn s f i o
    at = logs.each i o there

    own : AtOwn now f i (record (opened_own f i o) { adopts = adopts })
    own = record {
      names = (at.names.0, at.names.0);
      log = λ op. open_log s f i o (logs.threads i few) whole;
      places = λ op. tt;
      idle = λ cl. absurd (no_way (open_in now i) opens cl);
      epoch = at.epoch;
      reads = reads_on s now f f o.epoch o.reads (inl (refl, reads)) at.epoch at.reads;
    }

-- the leader, whose thread is open, thaws the cluster
pub thawed_open : (s : Shared) (f : Files) (owns : List Own) (i : ℕ) (o : Own) (adopts : ℕ) (places : List ℕ) → Logs s owns f → slice_get owns i ≡ Some o
    → has s.live i ≡ true → has s.former i ≡ false → AllKnown s → Fewer o.places places
    → Logs (record s { phase = phase.Thawed; former = without_inst s.former i }) (slice_set owns i (record o { adopts = adopts; places = places })) f
thawed_open s f owns i o adopts places logs there lives was_open all fewer =
    moved s now f f owns i (record o { adopts = adopts; places = places }) logs refl members logs.sizes
    (λ t small. thread_on s now f f t refl refl (same_open t (cases_eq t i)) (λ k. k) (logs.threads t small)) own
    (λ j x apart was. other_on s now f f j x (λ op. refl) (same_open j (inr apart)) refl (inl (refl, reads)) was)
  where
    now : Shared
    now = record s { phase = phase.Thawed; former = without_inst s.former i }

    m : Members s
    m = logs.members

    same_open : (j : ℕ) → (j ≡ i) ⊎ (j ≡ i → ⊥) → open_in now j ≡ open_in s j
    same_open j (inl e) = open_by s now j refl (ap (has now.former) e ∙ has_without s.former i ∙ sym was_open ∙ ap (has s.former) (sym e))
    same_open j (inr apart) = open_by s now j refl (has_still s.former i j apart)

    opens : open_in s i ≡ true
    opens = λ k. lives k && not (was_open k)

    none : (j : ℕ) → (j ≡ i) ⊎ (j ≡ i → ⊥) → has now.former j ≡ true → ⊥
    none j (inl e) was = no_way (has now.former j) was (ap (has now.former) e ∙ has_without s.former i)
    none j (inr apart) was =
        let other = m.former j (sym (has_still s.former i j apart) ∙ was) in apart (sym (other.alone i lives))

    members : Members now
    members = record {
      few = m.few;
      sizes = (m.sizes.0, length-set s.former.present i false ∙ m.sizes.1);
      dark = λ d. (let no : phase.Thawed ≡ phase.Dark = d in absurd (cc));
      former = λ j was. absurd (none j (cases_eq j i) was);
      settled = λ st j within gone. all j within gone;
    }

    reads : (r : ReadThread) → ReadOf s f r → ReadOf now f r
    reads r was = (was.0, λ cl. was.1 (sym (same_open r.thread (cases_eq r.thread i)) ∙ cl))

    at : AtOwn s f i o
    at = logs.each i o there

    own : AtOwn now f i (record o { adopts = adopts; places = places })
    own = record {
      names = at.names;
      log = λ op. at.log opens;
      places = λ op. fewer (IsEndIn (log_in f i ++ o.thread.waiting)) (at.places opens);
      idle = λ cl. absurd (no_way (open_in s i) opens (sym (same_open i (inl refl)) ∙ cl));
      epoch = at.epoch;
      reads = reads_on s now f f o.epoch o.reads (inl (refl, reads)) at.epoch at.reads;
    }

-- the cluster runs again
pub reopened_again : (s : Shared) (f : Files) (owns : List Own) → Logs s owns f → s.phase ≡ phase.Thawed → Logs (record s { phase = phase.Running }) owns f
reopened_again s f owns logs thawed = record {
  count = logs.count;
  members = (let m = logs.members in record {
    few = m.few;
    sizes = m.sizes;
    dark = λ d. (let no : phase.Running ≡ phase.Dark = d in absurd (cc));
    former = λ j was. absurd (no_way (has s.former j) was (no_former s m (λ e. let no : phase.Thawed ≡ phase.Frozen = sym thawed ∙ e in absurd (cc)) j));
    settled = λ st j within gone. m.settled (ap is_settled thawed) j within gone;
  });
  sizes = logs.sizes;
  threads = logs.threads;
  each = λ j x there. (let was = logs.each j x there in record { names = was.names; log = was.log; places = was.places; idle = was.idle; epoch = was.epoch; reads = was.reads });
}

-- an instance with the same thread, and no more places
pub own_kept : (s : Shared) (f : Files) (i : ℕ) (o p : Own) → AtOwn s f i o → p.me ≡ o.me → p.thread ≡ o.thread → Fewer o.places p.places
    → (open_in s i ≡ false → (p.up ≡ false) × (p.adopts ≡ 0)) → p.epoch ≤ s.epoch → (p.epoch ≡ s.epoch → AllByRecursion (ReadOf s f) p.reads) → AtOwn s f i p
own_kept s f i o p at me thread fewer idle epoch reads = record {
  names = (me ∙ at.names.0, ap (λ (x : ThreadState). x.number) thread ∙ at.names.1);
  log = λ op. subst (LogOf (log_in f i) i) (sym thread) (at.log op);
  places = λ op. subst (λ (x : ThreadState). AllByRecursion (IsEndIn (log_in f i ++ x.waiting)) p.places) (sym thread)
      (fewer (IsEndIn (log_in f i ++ o.thread.waiting)) (at.places op));
  idle = λ cl. record {
    up = (idle cl).0;
    none = (idle cl).1;
    empty = ap (λ (x : ThreadState). x.waiting) thread ∙ (at.idle cl).empty;
    places = fewer_of_none o.places p.places fewer (at.idle cl).places;
  };
  epoch = epoch;
  reads = reads;
}

-- a place in bytes behind which there are more now
ends_on : (bytes more : List ℕ) (places : List ℕ) → AllByRecursion (IsEndIn bytes) places → AllByRecursion (IsEndIn (bytes ++ more)) places
ends_on bytes more [] a = tt
ends_on bytes more (place ∷ places) a = (
  record {
    within = (let h = a.0.within in omega (arith, h, length-append bytes more));
    whole = same_whole (take place bytes) (take place (bytes ++ more)) (sym (take-append-le place bytes more a.0.within)) a.0.whole;
  },
  ends_on bytes more places a.1,
)

-- an instance whose thread has one record more, which may add its place
pub own_records : (s : Shared) (f : Files) (i : ℕ) (o : Own) (redo : Redo) (places : List ℕ) → AtOwn s f i o → open_in s i ≡ true → IsRedo redo → end_of o.thread < 2 ^ 62
    → OneMore (end_of o.thread) o.places places → AtOwn s f i (record o { thread = appended o.thread redo; places = places })
own_records s f i o redo places at op is room more = record {
  names = at.names;
  log = λ op2. (let was = at.log op in
      let size = length-append o.thread.waiting (redo_bytes redo) in
      let long = record_length redo is in
      record {
        durable = was.durable;
        behind = was.behind;
        whole = same_whole ((log_in f i ++ o.thread.waiting) ++ redo_bytes redo) (log_in f i ++ (o.thread.waiting ++ redo_bytes redo))
            (append_assoc (log_in f i) o.thread.waiting (redo_bytes redo)) (whole_append (log_in f i ++ o.thread.waiting) (redo_bytes redo) was.whole (record_whole redo is));
        short = (let d = was.durable in omega (arith, room, size, long, d));
      });
  places = λ op2. (let was = at.log op in
      let bytes = log_in f i ++ o.thread.waiting in
      let size : length bytes ≡ end_of o.thread = length-append (log_in f i) o.thread.waiting ∙ ap (λ (n : ℕ). n + length o.thread.waiting) (sym was.durable) in
      let last : IsEndIn bytes (end_of o.thread) = record {
        within = omega (arith, size);
        whole = same_whole bytes (take (end_of o.thread) bytes) (sym (take_all (end_of o.thread) bytes (omega (arith, size)))) was.whole;
      } in
      subst (λ (b : List ℕ). AllByRecursion (IsEndIn b) places) (append_assoc (log_in f i) o.thread.waiting (redo_bytes redo))
      (ends_on bytes (redo_bytes redo) places (more (IsEndIn bytes) last (at.places op))));
  idle = λ cl. absurd (no_way (open_in s i) op cl);
  epoch = at.epoch;
  reads = at.reads;
}
