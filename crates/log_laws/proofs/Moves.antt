-- What keeps the logs of a cluster as they are to be.
use Rattle.std.proofs.Common.{◌≡◌, ℕ, ◌<◌, ◌≤◌, ◌&&◌, not, Bool, true, false, List, [], ◌∷◌, ◌++◌, length, take, Some, slice_get, refl, sym, ap, subst, ◌∙◌, ◌⊎◌, inl, inr, arith}
use Rattle.std.specs.Prelude.{slice_index_or, slice_set}
use Rattle.std.specs.List.{AllByRecursion}
use Rattle.std.proofs.lemmas.Bool.{cases_eq}
use Rattle.std.proofs.lemmas.List.{get_or-set_other, get_or-set_same, length-set, length-take}
use Rattle.inst_set.specs.Sets.{has}
use Rattle.rac_disk.specs.Content.{LogState, no_log}
use Rattle.inst_state.specs.declared.inst.ReadThread.{ReadThread}
use Rattle.log_history.specs.Logs.{IsRight}
use Rattle.log_laws.specs.Logs.{IsWhole}
use Rattle.log_laws.proofs.Bytes.{right_where_whole, same_whole, whole_cut}
use Rattle.log_laws.proofs.Cluster.{AtOwn, EntryIs, Files, IsEndIn, Logs, Members, Own, ReadOf, Shared, Thread, ThreadAt, control_in, known_in, log_in, open_in, put_control, put_log}
use Rattle.log_laws.proofs.Sets.{set_at}

-- a thread whose log and entry are the same
pub thread_on : (s now : Shared) (f g : Files) (t : ℕ) → log_in g t ≡ log_in f t → control_in g t ≡ control_in f t → open_in now t ≡ open_in s t
    → (known_in now t ≡ true → known_in s t ≡ true) → ThreadAt s f t → ThreadAt now g t
thread_on s now f g t log control opened known it = record {
  right = subst IsRight (sym log) it.right;
  short = (let e : length (log_in g t) ≡ length (log_in f t) = ap length log in let h = it.short in omega (arith, e, h));
  known = λ k. (opened ∙ (it.known (known k)).0, same_whole (log_in f t) (log_in g t) (sym log) (it.known (known k)).1);
  entry = record {
    entry = it.entry.entry;
    bytes = control ∙ it.entry.bytes;
    small = it.entry.small;
    closed = λ c. (opened ∙ (it.entry.closed c).0, same_whole (log_in f t) (log_in g t) (sym log) (it.entry.closed c).1);
    running = λ r. same_whole (take it.entry.entry.position (log_in f t)) (take it.entry.entry.position (log_in g t)) (ap (take it.entry.entry.position) (sym log)) (it.entry.running r);
    within = λ op. (let e : length (log_in g t) ≡ length (log_in f t) = ap length log in let h = it.entry.within (sym opened ∙ op) in omega (arith, e, h));
  };
}

all_reads : (s now : Shared) (f g : Files) → ((r : ReadThread) → ReadOf s f r → ReadOf now g r) → (rs : List ReadThread) → AllByRecursion (ReadOf s f) rs → AllByRecursion (ReadOf now g) rs
all_reads s now f g on [] all = tt
all_reads s now f g on (r ∷ rs) all = (on r all.0, all_reads s now f g on rs all.1)

-- the epoch is the same, and what was read still was; or it is a later one
abbrev pub ReadsOn : Shared → Shared → Files → Files → Type 0
ReadsOn s now f g = ((now.epoch ≡ s.epoch) × ((r : ReadThread) → ReadOf s f r → ReadOf now g r)) ⊎ (s.epoch < now.epoch)

pub epoch_on : (s now : Shared) (f g : Files) → ReadsOn s now f g → s.epoch ≤ now.epoch
epoch_on s now f g (inl p) = (let e = p.0 in omega (arith, e))
epoch_on s now f g (inr h) = omega (arith, h)

pub reads_on : (s now : Shared) (f g : Files) (epoch : ℕ) (rs : List ReadThread) → ReadsOn s now f g → epoch ≤ s.epoch
    → (epoch ≡ s.epoch → AllByRecursion (ReadOf s f) rs) → epoch ≡ now.epoch → AllByRecursion (ReadOf now g) rs
reads_on s now f g epoch rs (inl p) le all e = all_reads s now f g p.1 rs (all (e ∙ p.0))
reads_on s now f g epoch rs (inr h) le all e = absurd (omega (arith, h, le, e))

-- what another instance has
pub other_on : (s now : Shared) (f g : Files) (j : ℕ) (o : Own) → (open_in s j ≡ true → log_in g j ≡ log_in f j) → open_in now j ≡ open_in s j → has now.live j ≡ has s.live j
    → ReadsOn s now f g → AtOwn s f j o → AtOwn now g j o
other_on s now f g j o logs opened live reads at = record {
  names = at.names;
  log = λ op. (let was = at.log (sym opened ∙ op) in let log = logs (sym opened ∙ op) in record {
    durable = was.durable ∙ ap length (sym log);
    behind = same_whole (log_in f j) (log_in g j) (sym log) was.behind;
    whole = same_whole (log_in f j ++ o.thread.waiting) (log_in g j ++ o.thread.waiting) (ap (λ (x : List ℕ). x ++ o.thread.waiting) (sym log)) was.whole;
    short = (let e : length (log_in g j) ≡ length (log_in f j) = ap length log in let h = was.short in omega (arith, e, h));
  });
  places = λ op. subst (λ (log : List ℕ). AllByRecursion (IsEndIn (log ++ o.thread.waiting)) o.places) (sym (logs (sym opened ∙ op))) (at.places (sym opened ∙ op));
  idle = λ cl. at.idle (sym opened ∙ cl);
  epoch = (let a = at.epoch in let b = epoch_on s now f g reads in omega (arith, a, b));
  reads = reads_on s now f g o.epoch o.reads reads at.epoch at.reads;
}

-- each instance after a move of one of them
owns_on : (s now : Shared) (f g : Files) (owns : List Own) (i : ℕ) (o : Own) → Logs s owns f → AtOwn now g i o
    → ((j : ℕ) (x : Own) → (j ≡ i → ⊥) → AtOwn s f j x → AtOwn now g j x) → (j : ℕ) (x : Own)
    → ((j ≡ i) × (x ≡ o)) ⊎ ((j ≡ i → ⊥) × (slice_get owns j ≡ Some x)) → AtOwn now g j x
owns_on s now f g owns i o logs own others j x (inl p) =
    subst (λ (k : ℕ). AtOwn now g k x) (sym p.0) (subst (λ (y : Own). AtOwn now g i y) (sym p.1) own)
owns_on s now f g owns i o logs own others j x (inr p) = others j x p.0 (logs.each j x p.1)

own_get : (owns : List Own) (i : ℕ) (o : Own) (j : ℕ) (x : Own) → slice_get (slice_set owns i o) j ≡ Some x
    → ((j ≡ i) × (x ≡ o)) ⊎ ((j ≡ i → ⊥) × (slice_get owns j ≡ Some x))
own_get owns i o j x e = set_at owns i o j x e

-- a move of one instance
pub moved : (s now : Shared) (f g : Files) (owns : List Own) (i : ℕ) (o : Own) → Logs s owns f → now.instances ≡ s.instances → Members now
    → (length g.logs ≡ 8) × (length g.controls ≡ 8) → ((t : ℕ) → t < 8 → ThreadAt now g t) → AtOwn now g i o
    → ((j : ℕ) (x : Own) → (j ≡ i → ⊥) → AtOwn s f j x → AtOwn now g j x) → Logs now (slice_set owns i o) g
moved s now f g owns i o logs insts members sizes threads own others = record {
  count = length-set owns i o ∙ logs.count ∙ sym insts;
  members = members;
  sizes = sizes;
  threads = threads;
  each = λ j x at. owns_on s now f g owns i o logs own others j x (own_get owns i o j x at);
}

-- an instance alone changed
pub own_moved : (s : Shared) (f : Files) (owns : List Own) (i : ℕ) (o : Own) → Logs s owns f → AtOwn s f i o → Logs s (slice_set owns i o) f
own_moved s f owns i o logs own = moved s s f f owns i o logs refl logs.members logs.sizes logs.threads own (λ j x apart at. at)

-- logs and entries that are put

pub log_put : (f : Files) (t : ℕ) (bytes : List ℕ) → t < length f.logs → log_in (put_log f t bytes) t ≡ bytes
log_put f t bytes within =
    ap (λ (l : LogState). l.bytes) (get_or-set_same f.logs t (record { bytes = bytes; room = (slice_index_or f.logs t no_log).room }) no_log within)

pub log_kept : (f : Files) (t : ℕ) (bytes : List ℕ) (u : ℕ) → (u ≡ t → ⊥) → log_in (put_log f t bytes) u ≡ log_in f u
log_kept f t bytes u apart =
    ap (λ (l : LogState). l.bytes) (get_or-set_other f.logs t u (record { bytes = bytes; room = (slice_index_or f.logs t no_log).room }) no_log apart)

pub open_by : (s now : Shared) (j : ℕ) → has now.live j ≡ has s.live j → has now.former j ≡ has s.former j → open_in now j ≡ open_in s j
open_by s now j live former = λ i. live i && not (former i)

pub closed_where : (s : Shared) (j : ℕ) → has s.live j ≡ false → open_in s j ≡ false
closed_where s j e = ap (λ (b : Bool). b && not (has s.former j)) e

pub closed_by_former : (s : Shared) (j : ℕ) → has s.former j ≡ true → open_in s j ≡ false
closed_by_former s j e = by (has s.live j) ∙ refl
  where
    by : (b : Bool) → (b && not (has s.former j)) ≡ false
    by true = ap not e
    by false = refl

-- an instance that is live and whose thread isn't open has its former thread to be closed
pub former_of : (s : Shared) (j : ℕ) → has s.live j ≡ true → open_in s j ≡ false → has s.former j ≡ true
former_of s j live cl = by (has s.former j) (sym (ap (λ (b : Bool). b && not (has s.former j)) live) ∙ cl)
  where
    by : (b : Bool) → not b ≡ false → b ≡ true
    by true e = refl
    by false e = absurd (let no : true ≡ false = e in cc)

pub no_way : (b : Bool) → b ≡ true → b ≡ false → ⊥
no_way b t f = absurd (let no : true ≡ false = sym t ∙ f in cc)

-- the control entry of a thread was written
pub control_put : (s : Shared) (f : Files) (owns : List Own) (t : ℕ) (bytes : List ℕ) → Logs s owns f → t < 8 → EntryIs (log_in f t) bytes (open_in s t)
    → Logs s owns (put_control f t bytes)
control_put s f owns t bytes logs few entry = record {
  count = logs.count;
  members = logs.members;
  sizes = (logs.sizes.0, length-set f.controls t bytes ∙ logs.sizes.1);
  threads = λ u small. at u small (cases_eq u t);
  each = λ j x there. (let at = logs.each j x there in record { names = at.names; log = at.log; places = at.places; idle = at.idle; epoch = at.epoch; reads = at.reads });
}
  where
    is : control_in (put_control f t bytes) t ≡ bytes
    is = get_or-set_same f.controls t bytes [] (let e = logs.sizes.1 in omega (arith, few, e))

    at : (u : ℕ) → u < 8 → (u ≡ t) ⊎ (u ≡ t → ⊥) → ThreadAt s (put_control f t bytes) u
    at u small (inl e) = subst (λ (k : ℕ). ThreadAt s (put_control f t bytes) k) (sym e)
        (let was = logs.threads t few in record {
          right = was.right;
          short = was.short;
          known = was.known;
          entry = subst (λ (b : List ℕ). EntryIs (log_in f t) b (open_in s t)) (sym is) entry;
        })
    at u small (inr apart) =
        thread_on s s f (put_control f t bytes) u refl (get_or-set_other f.controls t u bytes [] apart) refl (λ k. k) (logs.threads u small)

-- a thread that isn't open is cut behind a record
pub log_cut : (s : Shared) (f : Files) (owns : List Own) (t q : ℕ) → Logs s owns f → t < 8 → open_in s t ≡ false → IsWhole (take q (log_in f t))
    → Logs s owns (put_log f t (take q (log_in f t)))
log_cut s f owns t q logs few cl whole = record {
  count = logs.count;
  members = logs.members;
  sizes = (length-set f.logs t (record { bytes = take q (log_in f t); room = (slice_index_or f.logs t no_log).room }) ∙ logs.sizes.0, logs.sizes.1);
  threads = λ u small. at u small (cases_eq u t);
  each = λ j x there. other_on s s f g j x (λ op. log_kept f t (take q (log_in f t)) j (λ e. no_way (open_in s j) op (ap (open_in s) e ∙ cl))) refl refl
      (inl (refl, reads)) (logs.each j x there);
}
  where
    g : Files
    g = put_log f t (take q (log_in f t))

    is : log_in g t ≡ take q (log_in f t)
    is = log_put f t (take q (log_in f t)) (let e = logs.sizes.0 in omega (arith, few, e))

    new : Thread (take q (log_in f t)) (control_in f t) (open_in s t) (known_in s t)
    new = let was = logs.threads t few in record {
      right = right_where_whole (take q (log_in f t)) whole;
      short = (let h = was.short in omega (arith, h, length-take q (log_in f t)));
      known = λ k. (cl, whole);
      entry = record {
        entry = was.entry.entry;
        bytes = was.entry.bytes;
        small = was.entry.small;
        closed = λ c. (cl, whole);
        running = λ r. whole_cut was.entry.entry.position q (log_in f t) (was.entry.running r) whole;
        within = λ op. absurd (no_way (open_in s t) op cl);
      };
    }

    at : (u : ℕ) → u < 8 → (u ≡ t) ⊎ (u ≡ t → ⊥) → ThreadAt s g u
    at u small (inl e) = subst (λ (k : ℕ). ThreadAt s g k) (sym e) (subst (λ (b : List ℕ). Thread b (control_in f t) (open_in s t) (known_in s t)) (sym is) new)
    at u small (inr apart) = thread_on s s f g u (log_kept f t (take q (log_in f t)) u apart) refl refl (λ k. k) (logs.threads u small)

    read_cut : (r : ReadThread) → ReadOf s f r → (r.thread ≡ t) ⊎ (r.thread ≡ t → ⊥) → ReadOf s g r
    read_cut r was (inl e) = (
      was.0,
      λ cl2. same_whole (take r.behind (take q (log_in f t))) (take r.behind (log_in g r.thread)) (ap (take r.behind) (sym is ∙ ap (log_in g) (sym e)))
          (whole_cut r.behind q (log_in f t) (subst (λ (k : ℕ). IsWhole (take r.behind (log_in f k))) e (was.1 cl2)) whole),
    )
    read_cut r was (inr apart) = (
      was.0,
      λ cl2. same_whole (take r.behind (log_in f r.thread)) (take r.behind (log_in g r.thread))
          (ap (take r.behind) (sym (log_kept f t (take q (log_in f t)) r.thread apart))) (was.1 cl2),
    )

    reads : (r : ReadThread) → ReadOf s f r → ReadOf s g r
    reads r was = read_cut r was (cases_eq r.thread t)
