-- How logs grow, and how instances end.
use Rattle.std.proofs.Common.{◌≡◌, ℕ, zero, suc, ◌+◌, ◌-◌, ◌^◌, ◌<◌, Bool, true, false, List, [], ◌∷◌, ◌++◌, length, take, Some, slice_get, if◌then◌else◌, refl, sym, ap, subst, ◌∙◌, ◌⊎◌, inl, inr, arith}
use Rattle.std.specs.Prelude.{slice_index_or, slice_set}
use Rattle.std.proofs.lemmas.Bool.{cases_eq}
use Rattle.std.proofs.lemmas.List.{append-nil, length-append, length-set, length-take, take-append-le}
use Rattle.inst_set.specs.declared.set.InstSet.{InstSet}
use Rattle.inst_set.specs.Sets.{has, is_empty, without_inst}
use Rattle.rac_disk.specs.Content.{no_log}
use Rattle.redo_thread.specs.Thread.{forced as thread_forced}
use Rattle.recovery.specs.declared.members.Phase.TheVariants as phase
use Rattle.recovery.specs.Members.{next_epoch, phase_of}
use Rattle.inst_state.specs.declared.inst.ReadThread.{ReadThread}
use Rattle.log_laws.proofs.Bytes.{right_spilled, right_where_whole, same_whole}
use Rattle.std.specs.List.{AllByRecursion}
use Rattle.log_laws.proofs.Cluster.{Alone, AtOwn, Files, IsEndIn, Logs, Members, Own, ReadOf, Shared, Thread, ThreadAt, control_in, is_settled, known_in, left, log_in, lost_own, open_in, put_log}
use Rattle.log_laws.proofs.Sets.{dark_none, frozen_some, has_still, has_without}
use Rattle.log_laws.proofs.Moves.{closed_where, log_kept, log_put, moved, no_way, open_by, other_on, reads_on, thread_on}

-- a log to which its thread's redo is appended
pub log_forced : (s : Shared) (f : Files) (owns : List Own) (i : ℕ) (o : Own) → Logs s owns f → slice_get owns i ≡ Some o → i < 8 → has s.live i ≡ true
    → Logs s (slice_set owns i (record o { thread = thread_forced o.thread })) (put_log f i (log_in f i ++ o.thread.waiting))
log_forced s f owns i o logs there few live =
    moved s s f g owns i (record o { thread = thread_forced o.thread }) logs refl logs.members
    (length-set f.logs i (record { bytes = bytes; room = (slice_index_or f.logs i no_log).room }) ∙ logs.sizes.0, logs.sizes.1)
    (λ t small. thread t small (cases_eq t i)) own
    (λ j x apart was. other_on s s f g j x (λ op. log_kept f i bytes j apart) refl refl (inl (refl, reads)) was)
  where
    bytes : List ℕ
    bytes = log_in f i ++ o.thread.waiting

    g : Files
    g = put_log f i bytes

    is : log_in g i ≡ bytes
    is = log_put f i bytes (let e = logs.sizes.0 in omega (arith, few, e))

    at : AtOwn s f i o
    at = logs.each i o there

    old : ThreadAt s f i
    old = logs.threads i few

    size : length bytes ≡ length (log_in f i) + length o.thread.waiting
    size = length-append (log_in f i) o.thread.waiting

    idle_same : open_in s i ≡ false → bytes ≡ log_in f i
    idle_same cl = ap (λ (x : List ℕ). log_in f i ++ x) (at.idle cl).empty ∙ append-nil (log_in f i)

    grown : open_in s i ≡ true → Thread bytes (control_in f i) (open_in s i) (known_in s i)
    grown op = let was = at.log op in record {
      right = right_where_whole bytes was.whole;
      short = (let h = was.short in omega (arith, h, size));
      known = λ k. absurd (no_way (open_in s i) op (old.known k).0);
      entry = record {
        entry = old.entry.entry;
        bytes = old.entry.bytes;
        small = old.entry.small;
        closed = λ c. absurd (no_way (open_in s i) op (old.entry.closed c).0);
        running = λ r. same_whole (take old.entry.entry.position (log_in f i)) (take old.entry.entry.position bytes)
            (sym (take-append-le old.entry.entry.position (log_in f i) o.thread.waiting (old.entry.within op))) (old.entry.running r);
        within = λ op2. (let h = old.entry.within op in omega (arith, h, size));
      };
    }

    new : (b : Bool) → open_in s i ≡ b → ThreadAt s g i
    new true op = subst (λ (b : List ℕ). Thread b (control_in f i) (open_in s i) (known_in s i)) (sym is) (grown op)
    new false cl = thread_on s s f g i (is ∙ idle_same cl) refl refl (λ k. k) old

    thread : (t : ℕ) → t < 8 → (t ≡ i) ⊎ (t ≡ i → ⊥) → ThreadAt s g t
    thread t small (inl e) = subst (λ (k : ℕ). ThreadAt s g k) (sym e) (new (open_in s i) refl)
    thread t small (inr apart) = thread_on s s f g t (log_kept f i bytes t apart) refl refl (λ k. k) (logs.threads t small)

    read_by : (r : ReadThread) → ReadOf s f r → (r.thread ≡ i) ⊎ (r.thread ≡ i → ⊥) → ReadOf s g r
    read_by r was (inl e) = (
      was.0,
      λ cl. same_whole (take r.behind (log_in f r.thread)) (take r.behind (log_in g r.thread))
          (ap (take r.behind) (sym (ap (log_in g) e ∙ is ∙ idle_same (sym (ap (open_in s) e) ∙ cl) ∙ ap (log_in f) (sym e)))) (was.1 cl),
    )
    read_by r was (inr apart) = (
      was.0,
      λ cl. same_whole (take r.behind (log_in f r.thread)) (take r.behind (log_in g r.thread))
          (ap (take r.behind) (sym (log_kept f i bytes r.thread apart))) (was.1 cl),
    )

    reads : (r : ReadThread) → ReadOf s f r → ReadOf s g r
    reads r was = read_by r was (cases_eq r.thread i)

    own : AtOwn s g i (record o { thread = thread_forced o.thread })
    own = record {
      names = at.names;
      log = λ op. (let was = at.log op in record {
        durable = (let d = was.durable in let e = ap length is in omega (arith, d, size, e));
        behind = same_whole bytes (log_in g i) (sym is) was.whole;
        whole = same_whole bytes (log_in g i ++ []) (sym (append-nil (log_in g i) ∙ is)) was.whole;
        short = (let h = was.short in let e = ap length is in omega (arith, h, size, e));
      });
      places = λ op. subst (λ (b : List ℕ). AllByRecursion (IsEndIn b) o.places) (sym (append-nil (log_in g i) ∙ is)) (at.places op);
      idle = λ cl. (let was = at.idle cl in record { up = was.up; none = was.none; empty = refl; places = was.places });
      epoch = at.epoch;
      reads = reads_on s s f g o.epoch o.reads (inl (refl, reads)) at.epoch at.reads;
    }

-- the instances that are live once one has ended

abbrev pub IsSmall : ℕ → Type 0
IsSmall epoch = epoch < 2 ^ 32 - 1

pub epoch_up : (epoch : ℕ) → IsSmall (next_epoch epoch) → epoch < next_epoch epoch
epoch_up epoch small = omega (arith, small)

pub settled_not : (live : InstSet) → is_settled (phase_of live) ≡ false
settled_not live = by (is_empty live)
  where
    by : (b : Bool) → is_settled (if b then phase.Dark else phase.Frozen) ≡ false
    by true = refl
    by false = refl

pub members_left : (s : Shared) (i : ℕ) → Members s → Members (left s i)
members_left s i m = record {
  few = m.few;
  sizes = (length-set s.live.present i false ∙ m.sizes.0, length-set s.former.present i false ∙ m.sizes.1);
  dark = λ d j. dark_none (without_inst s.live i) d j;
  former = λ j was. former j was (cases_eq j i);
  settled = λ st j few gone. absurd (no_way (is_settled (left s i).phase) st (settled_not (without_inst s.live i)));
}
  where
    former : (j : ℕ) → has (without_inst s.former i) j ≡ true → (j ≡ i) ⊎ (j ≡ i → ⊥) → Alone (left s i) j
    former j was (inl e) = absurd (no_way (has (without_inst s.former i) j) was (ap (has (without_inst s.former i)) e ∙ has_without s.former i))
    former j was (inr apart) =
        let a = m.former j (sym (has_still s.former i j apart) ∙ was) in
        let live : has (without_inst s.live i) j ≡ true = has_still s.live i j apart ∙ a.live in
        record {
          frozen = frozen_some (without_inst s.live i) j live;
          live = live;
          alone = λ k there. still k there (cases_eq k i);
        }
      where
        still : (k : ℕ) → has (without_inst s.live i) k ≡ true → (k ≡ i) ⊎ (k ≡ i → ⊥) → k ≡ j
        still k there (inl e) = absurd (no_way (has (without_inst s.live i) k) there (ap (has (without_inst s.live i)) e ∙ has_without s.live i))
        still k there (inr away) = (m.former j (sym (has_still s.former i j apart) ∙ was)).alone k (sym (has_still s.live i k away) ∙ there)

-- what is left of the log of an instance that ends: as it was, or with some of what waits
abbrev pub Spills : Shared → Files → ℕ → Own → List ℕ → Type 0
Spills s f i o log = (log ≡ log_in f i) ⊎ ((has s.live i ≡ true) × ((count : ℕ) × (log ≡ log_in f i ++ take count o.thread.waiting)))

spilled_thread : (s : Shared) (f : Files) (i count : ℕ) (o : Own) → AtOwn s f i o → open_in s i ≡ true → ThreadAt s f i
    → Thread (log_in f i ++ take count o.thread.waiting) (control_in f i) false (known_in s i)
spilled_thread s f i count o at op old =
    let was = at.log op in
    let bytes = log_in f i ++ take count o.thread.waiting in
    let size : length bytes ≡ length (log_in f i) + length (take count o.thread.waiting) = length-append (log_in f i) (take count o.thread.waiting) in
    record {
      right = right_spilled (log_in f i) o.thread.waiting count was.whole;
      short = (let h = was.short in omega (arith, h, size, length-take count o.thread.waiting));
      known = λ k. absurd (no_way (open_in s i) op (old.known k).0);
      entry = record {
        entry = old.entry.entry;
        bytes = old.entry.bytes;
        small = old.entry.small;
        closed = λ c. absurd (no_way (open_in s i) op (old.entry.closed c).0);
        running = λ r. same_whole (take old.entry.entry.position (log_in f i)) (take old.entry.entry.position bytes)
            (sym (take-append-le old.entry.entry.position (log_in f i) (take count o.thread.waiting) (old.entry.within op))) (old.entry.running r);
        within = λ no. absurd (let wrong : false ≡ true = no in cc);
      };
    }

closed_thread : (log control : List ℕ) (opened known : Bool) → Thread log control opened known → Thread log control false known
closed_thread log control opened known it = record {
  right = it.right;
  short = it.short;
  known = λ k. (refl, (it.known k).1);
  entry = record {
    entry = it.entry.entry;
    bytes = it.entry.bytes;
    small = it.entry.small;
    closed = λ c. (refl, (it.entry.closed c).1);
    running = it.entry.running;
    within = λ no. absurd (let wrong : false ≡ true = no in cc);
  };
}

take_of_none : (n : ℕ) (l : List ℕ) → length l ≡ 0 → take n l ≡ []
take_of_none zero l e = refl
take_of_none (suc n) [] e = refl
take_of_none (suc n) (x ∷ l) e = absurd (omega (arith, e))

pub take_none : (n : ℕ) (l : List ℕ) → l ≡ [] → take n l ≡ []
take_none n l e = take_of_none n l (ap length e)

-- the thread of an instance that ends
left_thread : (s : Shared) (f : Files) (i : ℕ) (o : Own) (log : List ℕ) → AtOwn s f i o → ThreadAt s f i → Spills s f i o log
    → Thread log (control_in f i) false (known_in s i)
left_thread s f i o log at old (inl same) =
    subst (λ (b : List ℕ). Thread b (control_in f i) false (known_in s i)) (sym same) (closed_thread (log_in f i) (control_in f i) (open_in s i) (known_in s i) old)
left_thread s f i o log at old (inr it) = by (open_in s i) refl
  where
    by : (b : Bool) → open_in s i ≡ b → Thread log (control_in f i) false (known_in s i)
    by true op = subst (λ (b : List ℕ). Thread b (control_in f i) false (known_in s i)) (sym it.1.1) (spilled_thread s f i it.1.0 o at op old)
    by false cl =
        let none : take it.1.0 o.thread.waiting ≡ [] = take_none it.1.0 o.thread.waiting (at.idle cl).empty in
        let same : log ≡ log_in f i = it.1.1 ∙ ap (λ (x : List ℕ). log_in f i ++ x) none ∙ append-nil (log_in f i) in
        subst (λ (b : List ℕ). Thread b (control_in f i) false (known_in s i)) (sym same) (closed_thread (log_in f i) (control_in f i) (open_in s i) (known_in s i) old)

-- an instance ends
pub inst_left : (s : Shared) (f g : Files) (owns : List Own) (i : ℕ) (o : Own) → Logs s owns f → slice_get owns i ≡ Some o → i < 8 → IsSmall (next_epoch s.epoch)
    → (length g.logs ≡ 8) × (length g.controls ≡ 8) → ((t : ℕ) → control_in g t ≡ control_in f t)
    → ((t : ℕ) → (t ≡ i → ⊥) → log_in g t ≡ log_in f t) → Spills s f i o (log_in g i) → Logs (left s i) (slice_set owns i (lost_own o)) g
inst_left s f g owns i o logs there few small sizes controls others spills =
    moved s now f g owns i (lost_own o) logs refl (members_left s i logs.members) sizes
    (λ t within. thread t within (cases_eq t i)) own
    (λ j x apart was. other_on s now f g j x (λ op. others j apart) (same_open j apart) (has_still s.live i j apart) (inr (epoch_up s.epoch small)) was)
  where
    now : Shared
    now = left s i

    same_open : (j : ℕ) → (j ≡ i → ⊥) → open_in now j ≡ open_in s j
    same_open j apart = open_by s now j (has_still s.live i j apart) (has_still s.former i j apart)

    shut : open_in now i ≡ false
    shut = closed_where now i (has_without s.live i)

    thread : (t : ℕ) → t < 8 → (t ≡ i) ⊎ (t ≡ i → ⊥) → ThreadAt now g t
    thread t within (inl e) = subst (λ (k : ℕ). ThreadAt now g k) (sym e)
        (subst (λ (b : Bool). Thread (log_in g i) (control_in g i) b (known_in s i)) (sym shut)
        (subst (λ (c : List ℕ). Thread (log_in g i) c false (known_in s i)) (sym (controls i))
        (left_thread s f i o (log_in g i) (logs.each i o there) (logs.threads i few) spills)))
    thread t within (inr apart) = thread_on s now f g t (others t apart) (controls t) (same_open t apart) (λ k. k) (logs.threads t within)

    own : AtOwn now g i (lost_own o)
    own = record {
      names = (let me = (logs.each i o there).names.0 in (me, me));
      log = λ op. absurd (no_way (open_in now i) op shut);
      places = λ op. absurd (no_way (open_in now i) op shut);
      idle = λ cl. record { up = refl; none = refl; empty = refl; places = refl };
      epoch = omega arith;
      reads = λ e. tt;
    }

-- an instance ends, and the logs are as they were
pub inst_stopped : (s : Shared) (f : Files) (owns : List Own) (i : ℕ) (o : Own) → Logs s owns f → slice_get owns i ≡ Some o → i < 8 → IsSmall (next_epoch s.epoch)
    → Logs (left s i) (slice_set owns i (lost_own o)) f
inst_stopped s f owns i o logs there few small =
    inst_left s f f owns i o logs there few small logs.sizes (λ t. refl) (λ t apart. refl) (inl refl)

-- an instance ends, and some of what waited is left in its log
pub inst_spilled : (s : Shared) (f : Files) (owns : List Own) (i : ℕ) (o : Own) (count : ℕ) → Logs s owns f → slice_get owns i ≡ Some o → i < 8 → IsSmall (next_epoch s.epoch)
    → has s.live i ≡ true → Logs (left s i) (slice_set owns i (lost_own o)) (put_log f i (log_in f i ++ take count o.thread.waiting))
inst_spilled s f owns i o count logs there few small live =
    let bytes = log_in f i ++ take count o.thread.waiting in
    inst_left s f (put_log f i bytes) owns i o logs there few small
    (length-set f.logs i (record { bytes = bytes; room = (slice_index_or f.logs i no_log).room }) ∙ logs.sizes.0, logs.sizes.1) (λ t. refl)
    (λ t apart. log_kept f i bytes t apart) (inr (live, (count, log_put f i bytes (let e = logs.sizes.0 in omega (arith, few, e)))))
