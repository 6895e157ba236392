-- How instances come in, and what is known of closed threads.
use Rattle.std.proofs.Common.{◌≡◌, ℕ, ◌<◌, ◌≤◌, ◌&&◌, not, Bool, true, false, List, [], ◌++◌, length, Option, Some, None, slice_get, get_or, refl, sym, ap, subst, ◌∙◌, ◌⊎◌, inl, inr, arith}
use Rattle.std.specs.Prelude.{is_some, slice_set}
use Rattle.std.proofs.lemmas.Bool.{cases_eq, cases_lt}
use Rattle.std.proofs.lemmas.List.{append-nil, get_or-set_other, get_or-set_same, length-set}
use Rattle.inst_set.specs.Sets.{has, with_inst}
use Rattle.rebuild_steps.specs.Open.{empty_thread}
use Rattle.scn_clock.specs.declared.clock.Clock.{Clock}
use Rattle.recovery.specs.declared.members.Phase.TheVariants as phase
use Rattle.recovery.specs.Members.{next_epoch}
use Rattle.log_laws.specs.Logs.{IsWhole}
use Rattle.log_laws.proofs.Bytes.{same_whole}
use Rattle.log_laws.proofs.Cluster.{Alone, AtOwn, EntryIs, Files, LogOf, Logs, Members, Own, Shared, Thread, ThreadAt, come, control_in, is_settled, known_in, log_in, open_in, telling_closed}
use Rattle.log_laws.proofs.Sets.{dark_none, frozen_some, get_set_default, has_other, has_with, set_beyond}
use Rattle.log_laws.proofs.Moves.{closed_where, moved, no_way, open_by, other_on, reads_on, thread_on}
use Rattle.log_laws.proofs.Leaving.{IsSmall, epoch_up, settled_not}

known_set : (s : Shared) (t : ℕ) (scns : Clock) (u : ℕ) → known_in s u ≡ true → (u ≡ t) ⊎ (u ≡ t → ⊥) → known_in (telling_closed s t (Some scns)) u ≡ true
known_set s t scns u was (inl e) = by (cases_lt t (length s.closed))
  where
    by : (t < length s.closed) ⊎ (length s.closed ≤ t) → known_in (telling_closed s t (Some scns)) u ≡ true
    by (inl within) = ap (known_in (telling_closed s t (Some scns))) e ∙ ap (λ (o : Option Clock). is_some o) (get_or-set_same s.closed t (Some scns) None within)
    by (inr past) = ap (λ (l : List (Option Clock)). is_some (get_or l u None)) (set_beyond s.closed t (Some scns) past) ∙ was
known_set s t scns u was (inr apart) = ap (λ (o : Option Clock). is_some o) (get_or-set_other s.closed t u (Some scns) None apart) ∙ was

-- a thread is known to be closed
pub closed_known : (s : Shared) (f : Files) (owns : List Own) (t : ℕ) (scns : Clock) → Logs s owns f → open_in s t ≡ false → IsWhole (log_in f t)
    → Logs (telling_closed s t (Some scns)) owns f
closed_known s f owns t scns logs cl whole = record {
  count = logs.count;
  members = (let m = logs.members in record {
    few = m.few;
    sizes = m.sizes;
    dark = m.dark;
    former = λ j was. (let a = m.former j was in record { frozen = a.frozen; live = a.live; alone = a.alone });
    settled = λ st j few gone. known_set s t scns j (m.settled st j few gone) (cases_eq j t);
  });
  sizes = logs.sizes;
  threads = λ u small. at u small (cases_eq u t);
  each = λ j x there. (let was = logs.each j x there in record { names = was.names; log = was.log; places = was.places; idle = was.idle; epoch = was.epoch; reads = was.reads });
}
  where
    at : (u : ℕ) → u < 8 → (u ≡ t) ⊎ (u ≡ t → ⊥) → ThreadAt (telling_closed s t (Some scns)) f u
    at u small (inl e) = let was = logs.threads u small in record {
      right = was.right;
      short = was.short;
      known = λ k. (ap (open_in s) e ∙ cl, subst (λ (v : ℕ). IsWhole (log_in f v)) (sym e) whole);
      entry = was.entry;
    }
    at u small (inr apart) =
        thread_on s (telling_closed s t (Some scns)) f f u refl refl refl
        (λ k. ap (λ (o : Option Clock). is_some o) (sym (get_or-set_other s.closed t u (Some scns) None apart)) ∙ k) (logs.threads u small)

pub unknown_still : (s : Shared) (t u : ℕ) → known_in (telling_closed s t None) u ≡ true → (u ≡ t) ⊎ (u ≡ t → ⊥) → known_in s u ≡ true
unknown_still s t u k (inl e) =
    absurd (no_way (known_in (telling_closed s t None) u) k
    (ap (known_in (telling_closed s t None)) e ∙ ap (λ (o : Option Clock). is_some o) (get_set_default s.closed t None)))
unknown_still s t u k (inr apart) = ap (λ (o : Option Clock). is_some o) (sym (get_or-set_other s.closed t u None None apart)) ∙ k

pub unknown_at : (s : Shared) (t : ℕ) → known_in (telling_closed s t None) t ≡ false
unknown_at s t = ap (λ (o : Option Clock). is_some o) (get_set_default s.closed t None)

-- a thread isn't known to be closed any more
pub closed_unknown : (s : Shared) (f : Files) (owns : List Own) (t : ℕ) → Logs s owns f → is_settled s.phase ≡ false → Logs (telling_closed s t None) owns f
closed_unknown s f owns t logs unsettled = record {
  count = logs.count;
  members = (let m = logs.members in record {
    few = m.few;
    sizes = m.sizes;
    dark = m.dark;
    former = λ j was. (let a = m.former j was in record { frozen = a.frozen; live = a.live; alone = a.alone });
    settled = λ st j few gone. absurd (no_way (is_settled s.phase) st unsettled);
  });
  sizes = logs.sizes;
  threads = λ u small. thread_on s (telling_closed s t None) f f u refl refl refl (λ k. unknown_still s t u k (cases_eq u t)) (logs.threads u small);
  each = λ j x there. (let was = logs.each j x there in record { names = was.names; log = was.log; places = was.places; idle = was.idle; epoch = was.epoch; reads = was.reads });
}

-- what is live once an instance has come in
come_alone : (s : Shared) (i : ℕ) → ((j : ℕ) → has s.live j ≡ false) → (j : ℕ) → has (with_inst s.live i) j ≡ true → (j ≡ i) ⊎ (j ≡ i → ⊥) → j ≡ i
come_alone s i none j there (inl e) = e
come_alone s i none j there (inr apart) = absurd (no_way (has s.live j) (sym (has_other s.live i j apart) ∙ there) (none j))

-- a thread that is open now: its log is whole, and its entry running
abbrev pub OpenEntry : Files → ℕ → Type 0
OpenEntry f i = EntryIs (log_in f i) (control_in f i) true

pub open_thread : (s : Shared) (f : Files) (i : ℕ) → ThreadAt s f i → OpenEntry f i → Thread (log_in f i) (control_in f i) true false
open_thread s f i old entry = record {
  right = old.right;
  short = old.short;
  known = λ no. absurd (let wrong : false ≡ true = no in cc);
  entry = entry;
}

-- the part of an instance whose thread was opened
abbrev pub opened_own : Files → ℕ → Own → Own
opened_own f i o = record o { thread = empty_thread o.me (length (log_in f i)); places = [] }

pub open_log : (s : Shared) (f : Files) (i : ℕ) (o : Own) → ThreadAt s f i → IsWhole (log_in f i) → LogOf (log_in f i) i (empty_thread o.me (length (log_in f i)))
open_log s f i o old whole = record {
  durable = refl;
  behind = whole;
  whole = same_whole (log_in f i) (log_in f i ++ []) (sym (append-nil (log_in f i))) whole;
  short = (let h = old.short in omega (arith, h));
}

pub no_former : (s : Shared) → Members s → (s.phase ≡ phase.Frozen → ⊥) → (j : ℕ) → has s.former j ≡ false
no_former s m apart j = by (has s.former j) refl
  where
    by : (b : Bool) → has s.former j ≡ b → has s.former j ≡ false
    by true e = absurd (apart (m.former j e).frozen)
    by false e = e

-- an instance comes in while the cluster runs: its thread is opened
pub inst_joined : (s : Shared) (f : Files) (owns : List Own) (i : ℕ) (o : Own) (up : Bool) → Logs s owns f → slice_get owns i ≡ Some o → i < s.instances → i < 8
    → IsSmall (next_epoch s.epoch) → s.phase ≡ phase.Running → has s.live i ≡ false → OpenEntry f i
    → Logs (telling_closed (come s i) i None) (slice_set owns i (record (opened_own f i o) { up = up })) f
inst_joined s f owns i o up logs there within few small running gone entry =
    moved s now f f owns i (record (opened_own f i o) { up = up }) logs refl members logs.sizes (λ t small. thread t small (cases_eq t i)) own
    (λ j x apart was. other_on s now f f j x (λ op. refl) (same_open j apart) (has_other s.live i j apart) (inr (epoch_up s.epoch small)) was)
  where
    now : Shared
    now = telling_closed (come s i) i None

    m : Members s
    m = logs.members

    none : (j : ℕ) → has s.former j ≡ false
    none = no_former s m (λ e. let no : phase.Running ≡ phase.Frozen = sym running ∙ e in absurd (cc))

    lives : has now.live i ≡ true
    lives = has_with s.live i (let e = m.sizes.0 in omega (arith, few, e))

    same_open : (j : ℕ) → (j ≡ i → ⊥) → open_in now j ≡ open_in s j
    same_open j apart = open_by s now j (has_other s.live i j apart) refl

    opens : open_in now i ≡ true
    opens = λ k. lives k && not (none i k)

    whole : IsWhole (log_in f i)
    whole = ((logs.threads i few).known (m.settled (ap is_settled running) i within gone)).1

    members : Members now
    members = record {
      few = m.few;
      sizes = (length-set s.live.present i true ∙ m.sizes.0, m.sizes.1);
      dark = λ d j. dark_none (with_inst s.live i) d j;
      former = λ j was. absurd (no_way (has s.former j) was (none j));
      settled = λ st j few2 gone2. absurd (no_way (is_settled now.phase) st (settled_not (with_inst s.live i)));
    }

    thread : (t : ℕ) → t < 8 → (t ≡ i) ⊎ (t ≡ i → ⊥) → ThreadAt now f t
    thread t small2 (inl e) = subst (λ (k : ℕ). ThreadAt now f k) (sym e)
        (subst (λ (b : Bool). Thread (log_in f i) (control_in f i) b (known_in now i)) (sym opens)
        (subst (λ (b : Bool). Thread (log_in f i) (control_in f i) true b) (sym (unknown_at s i)) (open_thread s f i (logs.threads i few) entry)))
    thread t small2 (inr apart) = thread_on s now f f t refl refl (same_open t apart) (λ k. unknown_still s i t k (inr apart)) (logs.threads t small2)

    at : AtOwn s f i o
    at = logs.each i o there

    own : AtOwn now f i (record (opened_own f i o) { up = up })
    own = record {
      names = (at.names.0, at.names.0);
      log = λ op. open_log s f i o (logs.threads i few) whole;
      places = λ op. tt;
      idle = λ cl. absurd (no_way (open_in now i) opens cl);
      epoch = (let a = at.epoch in let b = epoch_up s.epoch small in omega (arith, a, b));
      reads = reads_on s now f f o.epoch o.reads (inr (epoch_up s.epoch small)) at.epoch at.reads;
    }

-- an instance comes in with nobody live: its former thread is to be closed
pub inst_came_dark : (s : Shared) (f : Files) (owns : List Own) (i : ℕ) (o : Own) → Logs s owns f → slice_get owns i ≡ Some o → i < 8
    → IsSmall (next_epoch s.epoch) → s.phase ≡ phase.Dark
    → Logs (come (record s { former = with_inst s.former i }) i) (slice_set owns i (record o { up = false })) f
inst_came_dark s f owns i o logs there few small dark =
    moved s now f f owns i (record o { up = false }) logs refl members logs.sizes
    (λ t small2. thread_on s now f f t refl refl (same_open t (cases_eq t i)) (λ k. k) (logs.threads t small2)) own
    (λ j x apart was. other_on s now f f j x (λ op. refl) (same_open j (inr apart)) (has_other s.live i j apart) (inr (epoch_up s.epoch small)) was)
  where
    now : Shared
    now = come (record s { former = with_inst s.former i }) i

    m : Members s
    m = logs.members

    nobody : (j : ℕ) → has s.live j ≡ false
    nobody = m.dark dark

    none : (j : ℕ) → has s.former j ≡ false
    none = no_former s m (λ e. let no : phase.Dark ≡ phase.Frozen = sym dark ∙ e in absurd (cc))

    lives : has now.live i ≡ true
    lives = has_with s.live i (let e = m.sizes.0 in omega (arith, few, e))

    former : has now.former i ≡ true
    former = has_with s.former i (let e = m.sizes.1 in omega (arith, few, e))

    shut : open_in now i ≡ false
    shut = λ k. lives k && not (former k)

    was_shut : (j : ℕ) → open_in s j ≡ false
    was_shut j = closed_where s j (nobody j)

    same_open : (j : ℕ) → (j ≡ i) ⊎ (j ≡ i → ⊥) → open_in now j ≡ open_in s j
    same_open j (inl e) = ap (open_in now) e ∙ shut ∙ sym (was_shut i) ∙ ap (open_in s) (sym e)
    same_open j (inr apart) = open_by s now j (has_other s.live i j apart) (has_other s.former i j apart)

    alone : (j : ℕ) → (j ≡ i) ⊎ (j ≡ i → ⊥) → has now.former j ≡ true → Alone now j
    alone j (inl e) was = subst (Alone now) (sym e) (record {
      frozen = frozen_some (with_inst s.live i) i lives;
      live = lives;
      alone = λ k there. come_alone s i nobody k there (cases_eq k i);
    })
    alone j (inr apart) was = absurd (no_way (has s.former j) (sym (has_other s.former i j apart) ∙ was) (none j))

    members : Members now
    members = record {
      few = m.few;
      sizes = (length-set s.live.present i true ∙ m.sizes.0, length-set s.former.present i true ∙ m.sizes.1);
      dark = λ d j. dark_none (with_inst s.live i) d j;
      former = λ j was. alone j (cases_eq j i) was;
      settled = λ st j few2 gone2. absurd (no_way (is_settled now.phase) st (settled_not (with_inst s.live i)));
    }

    at : AtOwn s f i o
    at = logs.each i o there

    own : AtOwn now f i (record o { up = false })
    own = record {
      names = at.names;
      log = λ op. absurd (no_way (open_in now i) op shut);
      places = λ op. absurd (no_way (open_in now i) op shut);
      idle = λ cl. (let was = at.idle (was_shut i) in record { up = refl; none = was.none; empty = was.empty; places = was.places });
      epoch = (let a = at.epoch in let b = epoch_up s.epoch small in omega (arith, a, b));
      reads = reads_on s now f f o.epoch o.reads (inr (epoch_up s.epoch small)) at.epoch at.reads;
    }
