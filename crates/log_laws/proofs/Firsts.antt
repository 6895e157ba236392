-- The logs are right before the first step.
use Rattle.std.proofs.Common.{◌≡◌, ℕ, zero, suc, ◌+◌, ◌<◌, ◌≤◌, ◌&&◌, not, Bool, true, false, List, [], ◌∷◌, ◌++◌, length, map, take, Option, None, Some, slice_get, if◌then◌else◌, refl, sym, ap, subst, ◌∙◌, ◌⊎◌, inl, inr, arith}
use Rattle.std.specs.Prelude.{IsSomeAnd, is_some, nat_lt, slice_index_or}
use Rattle.std.proofs.lemmas.Bool.{cases_lt, lt-ltb, ltb-true}
use Rattle.std.proofs.lemmas.List.{append-nil, length-map}
use Rattle.std.proofs.lemmas.Option.{slice_get_within}
use Rattle.base_types.specs.declared.layout.Layout.{Layout}
use Rattle.control_image.specs.declared.entry.ThreadStatus.TheVariants.{Closed, Running}
use Rattle.control_image.specs.Entry.{entry_bytes}
use Rattle.rac_disk.specs.Content.{Content, IsDisk, LogState, no_log}
use Rattle.rac_disk.specs.State.{State, WhereTold}
use Rattle.scn_clock.specs.declared.clock.Clock.{Clock}
use Rattle.inst_set.specs.Sets.{all_insts, has, no_insts}
use Rattle.recovery.specs.declared.members.Phase.TheVariants as phase
use Rattle.wire_net.specs.declared.masters.Masters.{Masters}
use Rattle.script_text.specs.ScriptParts.{ScriptParts}
use Rattle.script_text.specs.WellFormed.{IsWellFormed}
use Rattle.inst_state.specs.declared.inst.Inst.{Inst}
use Rattle.inst_state.specs.Shared.{insts_below}
use Rattle.first_state.specs.declared.creation.Created.TheVariants as created
use Rattle.first_state.specs.Core.{closed_at, first_core}
use Rattle.first_state.specs.Create.{IsNew, LeavesNew, entry_bytes_of, first_entry, first_status}
use Rattle.first_state.specs.Inst.{first_inst}
use Rattle.first_state.specs.Plan.{PlanParts, layout_of}
use Rattle.std.specs.List.{AllByRecursion}
use Rattle.inst_state.specs.declared.plan.Plan.{Plan}
use Rattle.undo_segment.specs.New.{new_segment}
use Rattle.log_laws.proofs.Places.{clean_none, empty_none, places_of}
use Rattle.world_machine.specs.declared.worlds.World.{World}
use Rattle.cluster_run.specs.First.{IsFirst, IsFirstWorld}
use Rattle.cluster_run.specs.Runs.{IsCreated}
use Rattle.log_history.specs.Logs.{IsFirstWrong, IsRight}
use Rattle.line_laws.proofs.Worlds.{first_at_place}
use Rattle.log_laws.specs.Logs.{HasGoodLogs, HasRightLogs}
use Rattle.log_laws.proofs.Bytes.{not_wrong, nothing_whole, right_where_whole}
use Rattle.log_laws.proofs.Cluster.{AtOwn, Files, IsEndIn, Logs, Members, Own, Shared, ThreadAt, control_in, files_of, known_in, log_in, open_in, own_of, shared_of}
use Rattle.log_laws.proofs.Keeps.{and_some, some_and}
use Rattle.log_laws.proofs.Moves.{closed_where, no_way}
use Rattle.log_laws.proofs.Worlds.{Holds, get_map, map_get}
use Rattle.first_state.specs.Core.{start}

below_has : (n i : ℕ) → i < n → n ≤ 8 → has (insts_below n) i ≡ true
unfolding insts_below
below_has n zero h few = lt-ltb 0 n h
below_has n (suc zero) h few = lt-ltb 1 n h
below_has n (suc (suc zero)) h few = lt-ltb 2 n h
below_has n (suc (suc (suc zero))) h few = lt-ltb 3 n h
below_has n (suc (suc (suc (suc zero)))) h few = lt-ltb 4 n h
below_has n (suc (suc (suc (suc (suc zero))))) h few = lt-ltb 5 n h
below_has n (suc (suc (suc (suc (suc (suc zero)))))) h few = lt-ltb 6 n h
below_has n (suc (suc (suc (suc (suc (suc (suc zero))))))) h few = lt-ltb 7 n h
below_has n (suc (suc (suc (suc (suc (suc (suc (suc i)))))))) h few = absurd (omega (arith, h, few))

below_size : (n : ℕ) → length (insts_below n).present ≡ 8
unfolding insts_below
below_size n = refl

not_below : (i n : ℕ) → n ≤ i → nat_lt i n ≡ false
not_below i n h = by (nat_lt i n) refl
  where
    by : (b : Bool) → nat_lt i n ≡ b → nat_lt i n ≡ false
    by true e = absurd (let less = ltb-true i n e in omega (arith, h, less))
    by false e = e

below_hasnt : (n i : ℕ) → n ≤ i → i < 8 → has (insts_below n) i ≡ false
unfolding insts_below
below_hasnt n zero h few = not_below 0 n h
below_hasnt n (suc zero) h few = not_below 1 n h
below_hasnt n (suc (suc zero)) h few = not_below 2 n h
below_hasnt n (suc (suc (suc zero))) h few = not_below 3 n h
below_hasnt n (suc (suc (suc (suc zero)))) h few = not_below 4 n h
below_hasnt n (suc (suc (suc (suc (suc zero))))) h few = not_below 5 n h
below_hasnt n (suc (suc (suc (suc (suc (suc zero)))))) h few = not_below 6 n h
below_hasnt n (suc (suc (suc (suc (suc (suc (suc zero))))))) h few = not_below 7 n h
below_hasnt n (suc (suc (suc (suc (suc (suc (suc (suc i)))))))) h few = absurd (omega (arith, few))

nobody : (i : ℕ) → has no_insts i ≡ false
nobody zero = refl
nobody (suc zero) = refl
nobody (suc (suc zero)) = refl
nobody (suc (suc (suc zero))) = refl
nobody (suc (suc (suc (suc zero)))) = refl
nobody (suc (suc (suc (suc (suc zero))))) = refl
nobody (suc (suc (suc (suc (suc (suc zero)))))) = refl
nobody (suc (suc (suc (suc (suc (suc (suc zero))))))) = refl
nobody (suc (suc (suc (suc (suc (suc (suc (suc i)))))))) = refl

-- the thread of an instance that isn't there is known to be closed, and no other one
first_known : (n t : ℕ) → t < 8 → slice_index_or (map (closed_at n) all_insts) t None ≡ closed_at n t
first_known n zero h = refl
first_known n (suc zero) h = refl
first_known n (suc (suc zero)) h = refl
first_known n (suc (suc (suc zero))) h = refl
first_known n (suc (suc (suc (suc zero)))) h = refl
first_known n (suc (suc (suc (suc (suc zero))))) h = refl
first_known n (suc (suc (suc (suc (suc (suc zero)))))) h = refl
first_known n (suc (suc (suc (suc (suc (suc (suc zero))))))) h = refl
first_known n (suc (suc (suc (suc (suc (suc (suc (suc i)))))))) h = absurd (omega (arith, h))

-- the parts of the first world, for so many instances
abbrev First : ℕ → Shared
First n = record {
  instances = n;
  live = insts_below n;
  phase = phase.Running;
  epoch = 0;
  former = no_insts;
  closed = map (closed_at n) all_insts;
}

first_open : (n t : ℕ) → t < n → n ≤ 8 → open_in (First n) t ≡ true
first_open n t within few = λ k. below_has n t within few k && not (nobody t k)

first_shut : (n t : ℕ) → n ≤ t → t < 8 → open_in (First n) t ≡ false
first_shut n t past few = closed_where (First n) t (below_hasnt n t past few)

first_unknown : (n t : ℕ) → t < n → t < 8 → known_in (First n) t ≡ false
first_unknown n t within few =
    ap (λ (o : Option Clock). is_some o) (first_known n t few)
    ∙ ap (λ (b : Bool). is_some (if b then (the_none) else Some start)) (lt-ltb t n within)
  where
    the_none : Option Clock
    the_none = None

first_members : (n : ℕ) → n ≤ 8 → Members (First n)
first_members n few = record {
  few = few;
  sizes = (below_size n, refl);
  dark = λ d. (let no : phase.Running ≡ phase.Dark = d in absurd (cc));
  former = λ i e. absurd (no_way (has no_insts i) e (nobody i));
  settled = λ st i within gone. absurd (no_way (has (insts_below n) i) (below_has n i within few) gone);
}

status_in : (layout : Layout) (t : ℕ) → t < layout.instances → first_status layout t ≡ Running
status_in layout t within = ap (λ (b : Bool). if b then Running else Closed) (lt-ltb t layout.instances within)

entry_is : (layout : Layout) (t : ℕ) → entry_bytes_of layout t ≡ entry_bytes (first_entry layout t)
unfolding entry_bytes_of
entry_is layout t = refl

-- a thread in which nothing was recorded
first_thread : (layout : Layout) (t : ℕ) (f : Files) → layout.instances ≤ 8 → t < 8 → log_in f t ≡ [] → control_in f t ≡ entry_bytes_of layout t
    → (t < layout.instances) ⊎ (layout.instances ≤ t) → ThreadAt (First layout.instances) f t
first_thread layout t f few small none control (inl within) = record {
  right = right_where_whole (log_in f t) (nothing_whole (log_in f t) none);
  short = (let e = ap length none in omega (arith, e));
  known = λ k. absurd (no_way (known_in (First layout.instances) t) k (first_unknown layout.instances t within small));
  entry = record {
    entry = first_entry layout t;
    bytes = control ∙ entry_is layout t;
    small = omega arith;
    closed = λ c. (let no : Running ≡ Closed = sym (status_in layout t within) ∙ c in absurd (cc));
    running = λ r. nothing_whole (take 0 (log_in f t)) refl;
    within = λ op. omega arith;
  };
}
first_thread layout t f few small none control (inr past) = record {
  right = right_where_whole (log_in f t) (nothing_whole (log_in f t) none);
  short = (let e = ap length none in omega (arith, e));
  known = λ k. (first_shut layout.instances t past small, nothing_whole (log_in f t) none);
  entry = record {
    entry = first_entry layout t;
    bytes = control ∙ entry_is layout t;
    small = omega arith;
    closed = λ c. (first_shut layout.instances t past small, nothing_whole (log_in f t) none);
    running = λ r. nothing_whole (take 0 (log_in f t)) refl;
    within = λ op. omega arith;
  };
}

-- an instance that has made nothing
first_places : (sessions : ℕ) (masters : Masters) (plan : Plan) → places_of (first_inst sessions masters plan) ≡ []
first_places sessions masters plan =
    λ k. clean_none (1 + length (new_segment plan.layout plan.me).blocks) k ++ empty_none plan.frames plan.blocks k

first_own : (script : ScriptParts) (masters : Masters) (i : ℕ) (n : Inst) (f : Files) → script.settings.instances ≤ 8 → i < script.settings.instances
    → IsFirst script masters i n → log_in f i ≡ [] → AtOwn (First script.settings.instances) f i (own_of n)
first_own script masters i n f few within first none =
    let me : n.plan.me ≡ i = ap (λ (p : PlanParts). p.me) first.plan in
    let part = ap own_of first.part in
    subst (λ (o : Own). AtOwn (First script.settings.instances) f i o) (sym part) (record {
      names = (me, me);
      log = λ op. record {
        durable = ap length (sym none);
        behind = nothing_whole (log_in f i) none;
        whole = nothing_whole (log_in f i ++ []) (append-nil (log_in f i) ∙ none);
        short = (let e = ap length none in omega (arith, e));
      };
      places = λ op. subst (AllByRecursion (IsEndIn (log_in f i ++ []))) (sym (first_places (length script.names) masters n.plan)) tt;
      idle = λ cl. absurd (no_way (open_in (First script.settings.instances) i) (first_open script.settings.instances i within few) cl);
      epoch = omega arith;
      reads = λ e. tt;
    })

pub first_logs : (script : ScriptParts) (w : World) (it : Content) → IsWellFormed script → IsFirstWorld script w → IsDisk it → IsNew (layout_of script) it
    → Logs (shared_of w.core) (map own_of w.insts) (files_of it)
first_logs script w it fit first disk new =
    let n = script.settings.instances in
    let few : n ≤ 8 = fit.settings_fit.few_instances in
    subst (λ (s : Shared). Logs s (map own_of w.insts) (files_of it)) (sym (ap shared_of first.core)) (record {
      count = length-map w.insts own_of ∙ first.count;
      members = first_members n few;
      sizes = (disk.logs, disk.controls);
      threads = λ t small. first_thread (layout_of script) t (files_of it) few small (new.logs t small) (new.entries t small) (cases_lt t n);
      each = λ i o at. each i o (get_map w.insts i o at);
    })
  where
    each : (i : ℕ) (o : Own) → (m : Inst) × (slice_get w.insts i ≡ Some m) × (o ≡ own_of m) → AtOwn (First script.settings.instances) (files_of it) i o
    each i o p =
        let within = slice_get_within w.insts i p.0 p.1 in
        let count = first.count in
        let few : script.settings.instances ≤ 8 = fit.settings_fit.few_instances in
        let there : i < script.settings.instances = omega (arith, within, count) in
        subst (λ (x : Own). AtOwn (First script.settings.instances) (files_of it) i x) (sym p.2)
        (first_own script (first_core script).net.masters i p.0 (files_of it) few there
        (first_at_place script (first_core script).net.masters w.insts first.insts i p.0 p.1) (new.logs i (omega (arith, there, few))))

-- a database that was made anew on a disk that tells what it holds
made_new : (layout : Layout) (old new : Option Content) → WhereTold old new (LeavesNew layout created.Whole) → is_some old ≡ true
    → IsSomeAnd new (λ it. IsDisk it × IsNew layout it)
made_new layout None new h told = absurd (let no : false ≡ true = told in cc)
made_new layout (Some x) None h told = absurd h
made_new layout (Some x) (Some y) h told = (h.1, h.2)

pub first_holds : (script : ScriptParts) (w : World) (disk made : State) → IsWellFormed script → IsFirstWorld script w → is_some disk.told ≡ true
    → IsCreated (layout_of script) created.Whole disk made → Holds w made
first_holds script w disk made fit first told new =
    let it = some_and (λ (c : Content). IsDisk c × IsNew (layout_of script) c) made.told (made_new (layout_of script) disk.told made.told new.content told) in
    and_some (λ (c : Content). Logs (shared_of w.core) (map own_of w.insts) (files_of c)) made.told it.0 it.1 (first_logs script w it.0 fit first it.2.0 it.2.1)

-- what the logs are like

pub right_logs : (w : World) (it : Content) → Logs (shared_of w.core) (map own_of w.insts) (files_of it) → HasRightLogs w it
right_logs w it logs = record {
  opened = λ i n at op. (
      let here = logs.each i (own_of n) (map_get w.insts i n at) in
      let log = here.log op in
      record { number = here.names.1; durable = log.durable; whole = log.whole });
  right = λ t small. (logs.threads t small).right;
}

none_wrong : (l : List LogState) → ((k : ℕ) → k < length l → IsRight (slice_index_or l k no_log).bytes) → (thread place : ℕ) → IsFirstWrong (map (λ log. log.bytes) l) thread place → ⊥
none_wrong [] right thread place wrong = wrong
none_wrong (log ∷ l) right zero place wrong = not_wrong log.bytes place (right 0 (omega arith)) wrong
none_wrong (log ∷ l) right (suc thread) place wrong = none_wrong l (λ k h. right (suc k) (omega (arith, h))) thread place wrong.1

pub good_logs : (w : World) (it : Content) → Logs (shared_of w.core) (map own_of w.insts) (files_of it) → HasGoodLogs it
good_logs w it logs thread place wrong =
    none_wrong it.logs (λ k h. (logs.threads k (let e = logs.sizes.0 in omega (arith, h, e))).right) thread place wrong
