-- What holds of the control lines in each world of a run.
use Rattle.std.proofs.Common.{◌≡◌, ℕ, zero, suc, ◌<◌, ◌≤◌, true, List, [], ◌∷◌, ◌++◌, length, map, Some, slice_get, refl, sym, ap, subst, ◌∙◌, ◌⊎◌, inl, inr, arith}
use Rattle.std.specs.Prelude.{not, slice_set}
use Rattle.std.proofs.lemmas.Bool.{lt-ltb}
use Rattle.std.proofs.lemmas.Option.{slice_get_within}
use Rattle.rand_pcg.specs.Lcg.{Lcg}
use Rattle.rac_disk.specs.State.{State}
use Rattle.inst_set.specs.Sets.{has}
use Rattle.journal.specs.declared.entry.Entry.{Entry}
use Rattle.journal.specs.Past.{Past}
use Rattle.script_text.specs.declared.item.Item.{Item}
use Rattle.script_text.specs.declared.item.Item.TheVariants as item
use Rattle.script_text.specs.ScriptParts.{ScriptParts}
use Rattle.script_text.specs.WellFormed.{IsWellFormed}
use Rattle.inst_state.specs.declared.control.Control.{Control}
use Rattle.inst_state.specs.declared.inst.Begun.{Begun}
use Rattle.inst_state.specs.declared.inst.Inst.{Inst}
use Rattle.inst_state.specs.declared.inst.Life.{Life}
use Rattle.inst_state.specs.declared.inst.Life.TheVariants.{Up}
use Rattle.inst_state.specs.declared.shared.Core.{Core}
use Rattle.inst_state.specs.Shared.{insts_below}
use Rattle.inst_state.specs.State.{is_down, is_up}
use Rattle.first_state.specs.Controls.{controls_at, controls_in, controls_of}
use Rattle.first_state.specs.Core.{first_core}
use Rattle.first_state.specs.Plan.{PlanParts}
use Rattle.inst_node.specs.declared.actions.Action.{Action}
use Rattle.inst_node.specs.declared.actions.Step.{Step}
use Rattle.inst_node.specs.Moves.{core_after, counted, part_after, prepared}
use Rattle.world_machine.specs.declared.worlds.World.{World}
use Rattle.world_machine.specs.Runs.{IsRun}
use Rattle.cluster_run.specs.First.{IsFirst, IsFirstWorld}
use Rattle.run_laws.specs.Tells.{tells}
use Rattle.run_laws.proofs.Added.{made_adds}
use Rattle.run_laws.proofs.RunLemmas.{Made, made_of, run_keeps}
use Rattle.line_laws.proofs.Worlds.{first_at_place, first_lines, Lines, set_get, step_made}
use Rattle.wave_laws.proofs.ByKind.{prepared_keeps, ruled}
use Rattle.wave_laws.proofs.Closing.{fresh}
use Rattle.wave_laws.proofs.Losing.{next_loses, next_turns}
use Rattle.wave_laws.proofs.Ruled.{answers, comes, enters, IsOf, loses, rests, rises, Rule, rule_of, Ruled, turns}
use Rattle.wave_laws.proofs.Rules.{Holds, IsRuled}
use Rattle.wave_laws.proofs.Steps.{Next, next_answers, next_comes, next_enters, next_rests, next_rises, own_kept, up_not}

-- What holds in each world: of the lines of sessions, of the control lines, and of each instance.
pub record Commands (script : ScriptParts) (w : World) : Type 0 where
  pub lines : Lines script w
  pub holds : Holds script (rule_of w.core) w.core.journal
  pub insts : (i : ℕ) (n : Inst) → slice_get w.insts i ≡ Some n → IsRuled script (rule_of w.core) w.core.journal i n

-- the first world

fresh_at : (x : ℕ × Item) → map fresh (controls_at x) ≡ controls_at x
fresh_at (n, item.CrashAfter inst steps keep) = refl
fresh_at (n, item.CrashMark inst keep) = refl
fresh_at (n, item.Start inst) = refl
fresh_at (n, item.Remaster bucket to) = refl
fresh_at (n, item.Checkpoint inst) = refl
fresh_at (n, item.Session session inst) = refl
fresh_at (n, item.Stmt session what) = refl
fresh_at (n, item.Hold reader until) = refl

fresh_append : (xs ys : List Control) → map fresh (xs ++ ys) ≡ map fresh xs ++ map fresh ys
fresh_append [] ys = refl
fresh_append (x ∷ xs) ys = λ i. fresh x ∷ fresh_append xs ys i

fresh_in : (wave : List (ℕ × Item)) → map fresh (controls_in wave) ≡ controls_in wave
fresh_in [] = refl
fresh_in (x ∷ wave) = fresh_append (controls_at x) (controls_in wave) ∙ (λ i. fresh_at x i ++ fresh_in wave i)

fresh_of : (waves : List (List (ℕ × Item))) → map (map fresh) (controls_of waves) ≡ controls_of waves
fresh_of [] = refl
fresh_of (wave ∷ waves) = λ i. fresh_in wave i ∷ fresh_of waves i

eight_below : (n : ℕ) → length (insts_below n).present ≡ 8
unfolding insts_below
eight_below n = refl

below_has : (n y : ℕ) → y < n → y < 8 → has (insts_below n) y ≡ true
unfolding insts_below
below_has n zero less few = lt-ltb 0 n less
below_has n (suc zero) less few = lt-ltb 1 n less
below_has n (suc (suc zero)) less few = lt-ltb 2 n less
below_has n (suc (suc (suc zero))) less few = lt-ltb 3 n less
below_has n (suc (suc (suc (suc zero)))) less few = lt-ltb 4 n less
below_has n (suc (suc (suc (suc (suc zero))))) less few = lt-ltb 5 n less
below_has n (suc (suc (suc (suc (suc (suc zero)))))) less few = lt-ltb 6 n less
below_has n (suc (suc (suc (suc (suc (suc (suc zero))))))) less few = lt-ltb 7 n less
below_has n (suc (suc (suc (suc (suc (suc (suc (suc y)))))))) less few = absurd (omega arith)

first_holds : (script : ScriptParts) → IsWellFormed script → Holds script (rule_of (first_core script)) []
first_holds script fit = record {
  shape = fresh_of script.waves;
  first = omega arith;
  within = (let some : 0 < length script.waves = fit.has_wave in omega (arith, some));
  small = omega arith;
  done = λ j c here less. absurd (omega (arith, less));
  unanswered = λ j c here open_. refl;
  asked = tt;
  eight = eight_below script.settings.instances;
}

first_ruled : (script : ScriptParts) (i : ℕ) (n : Inst) → IsWellFormed script → i < script.settings.instances → IsFirst script (first_core script).net.masters i n
    → IsRuled script (rule_of (first_core script)) [] i n
first_ruled script i n fit within first =
    let few : script.settings.instances ≤ 8 = fit.settings_fit.few_instances in
    let life : n.life ≡ Up = ap (λ (x : Inst). x.life) first.part in
    record {
      me = ap (λ (p : PlanParts). p.me) first.plan;
      few = omega (arith, within, few);
      up = ap is_up (sym life);
      live = below_has script.settings.instances i within (omega (arith, within, few)) ∙ ap (λ (l : Life). not (is_down l)) (sym life);
      joining = λ line e. absurd (up_not line (sym life ∙ e));
      begun = λ line of. absurd (subst (λ (xs : List Begun). IsOf line (map (λ (begun : Begun). begun.line) xs)) (ap (λ (x : Inst). x.wave.checkpoints) first.part) of);
    }

pub first_commands : (script : ScriptParts) (w : World) → IsWellFormed script → IsFirstWorld script w → Commands script w
first_commands script w fit first = record {
  lines = first_lines script w fit first;
  holds = subst (λ (c : Core). Holds script (rule_of c) c.journal) (sym first.core) (first_holds script fit);
  insts = λ i n there. subst (λ (c : Core). IsRuled script (rule_of c) c.journal i n) (sym first.core)
      (first_ruled script i n fit (let known = slice_get_within w.insts i n there in let count = first.count in omega (arith, known, count))
      (first_at_place script (first_core script).net.masters w.insts first.insts i n there));
}

-- a step

next_of : (script : ScriptParts) (n m : Inst) (core now : Core) (past es : List Entry) (i : ℕ) → IsWellFormed script → core.waves.count ≡ length script.waves → m.plan.me ≡ i → Ruled n core m now es
    → Holds script (rule_of core) past → IsRuled script (rule_of core) past i n → Next script (rule_of core) (rule_of now) past es i m
next_of script n m core now past es i fit count mine (rests same rule q) h own = next_rests script (rule_of core) (rule_of now) past es i n m same rule q h own
next_of script n m core now past es i fit count mine (enters entered_ life begins rule q) h own =
    next_enters script n m core (rule_of now) past es i fit life (mine ∙ sym own.me) begins rule q h own
next_of script n m core now past es i fit count mine (comes entered_ c is start live life lines waves lives none) h own =
    subst (λ (l : List Entry). Next script (rule_of core) (rule_of now) past l i m) (sym none)
    (next_comes script n m core (rule_of now) past i c is start live life lines (mine ∙ sym own.me)
    (λ t. record { controls = (waves t).controls; wave = (waves t).wave; live = lives t }) h own)
next_of script n m core now past es i fit count mine (rises entered_ line was life lines rule told) h own =
    next_rises script (rule_of core) (rule_of now) past es i n m line fit was life lines mine rule told h own
next_of script n m core now past es i fit count mine (answers entered_ c e is life lines rule how_ told) h own =
    next_answers script n m core (rule_of now) past es i c e fit is life lines mine rule how_ told h own
next_of script n m core now past es i fit count mine (loses entered_ e later first life lines how_ wave live q1 q2 told) h own =
    next_loses script n m core (rule_of now) past es later first e i fit life lines mine how_ wave live q1 q2 told h own
next_of script n m core now past es i fit count mine (turns same all waves live none) h own =
    next_turns script n m core (rule_of now) past es i fit count same all (λ t. record { controls = (waves t).controls; wave = (waves t).wave; live = live t }) none h own

pub counted_rule : (core : Core) (me : ℕ) (action : Action) → rule_of (counted core me action) ≡ rule_of core
unfolding counted
counted_rule core me action = refl

counted_count : (core : Core) (me : ℕ) (action : Action) → (counted core me action).waves.count ≡ core.waves.count
unfolding counted
counted_count core me action = refl

-- what a step leaves of it
pub step_next : (script : ScriptParts) (old : World) (disk : State) (step : Step) (new : World) (disk_now : State) → IsWellFormed script
    → (made : Made old disk step new disk_now) → Commands script old → Lines script new
    → Next script (rule_of old.core) (rule_of new.core) old.core.journal (tells made.n old.core step.action made.how) step.inst
    (part_after made.n old.core step.action made.how)
step_next script old disk step new disk_now fit made was lines =
    let n = made.n in
    let i = step.inst in
    let core = old.core in
    let action = step.action in
    let k = prepared n core action in
    let core1 = counted core n.plan.me action in
    let m = part_after n core action made.how in
    let es = tells n core action made.how in
    let there : slice_get new.insts i ≡ Some m = ap (λ (l : List Inst). slice_get l i) made.moved.insts ∙ set_here old.insts i m made.within in
    let mine : m.plan.me ≡ i = ap (λ (p : PlanParts). p.me) (lines.insts i m there).plan in
    let same = counted_rule core n.plan.me action in
    let next = next_of script k m core1 (core_after n core action made.how) core.journal es i fit (counted_count core n.plan.me action ∙ was.lines.waves) mine (ruled n core action made.how made.needs)
    (subst (λ (r : Rule). Holds script r core.journal) (sym same) was.holds)
    (subst (λ (r : Rule). IsRuled script r core.journal i k) (sym same)
    (own_kept script (rule_of core) core.journal i n k (prepared_keeps n core action) (was.insts i n made.at))) in
    subst (λ (c : Core). Next script (rule_of core) (rule_of c) core.journal es i m) (sym made.moved.core)
    (subst (λ (r : Rule). Next script r (rule_of (core_after n core action made.how)) core.journal es i m) same next)
  where
    set_here : (xs : List Inst) (i : ℕ) (m : Inst) → i < length xs → slice_get (slice_set xs i m) i ≡ Some m
    set_here [] i m less = absurd (omega (arith, less))
    set_here (x ∷ xs) zero m less = refl
    set_here (x ∷ xs) (suc i) m less = set_here xs i m (omega (arith, less))

inst_next : (script : ScriptParts) (rule now : Rule) (past es : List Entry) (i : ℕ) (m : Inst) (insts : List Inst) → Next script rule now past es i m
    → ((y : ℕ) (x : Inst) → slice_get insts y ≡ Some x → IsRuled script rule past y x) → (y : ℕ) (x : Inst)
    → ((y ≡ i) × (x ≡ m)) ⊎ ((y ≡ i → ⊥) × (slice_get insts y ≡ Some x)) → IsRuled script now (es ++ past) y x
inst_next script rule now past es i m insts next was y x (inl is) =
    subst (λ (j : ℕ). IsRuled script now (es ++ past) j x) (sym is.0) (subst (λ (q : Inst). IsRuled script now (es ++ past) i q) (sym is.1) next.own)
inst_next script rule now past es i m insts next was y x (inr is) = next.others y x is.0 (was y x is.1)

pub step_commands : (script : ScriptParts) (old : World) (disk : State) (step : Step) (new : World) (disk_now : State) → IsWellFormed script
    → Made old disk step new disk_now → Commands script old → Commands script new
step_commands script old disk step new disk_now fit made was =
    let lines = step_made script old disk step new disk_now fit made was.lines in
    let m = part_after made.n old.core step.action made.how in
    let es = tells made.n old.core step.action made.how in
    let next = step_next script old disk step new disk_now fit made was lines in
    let told : new.core.journal ≡ es ++ old.core.journal = made_adds old disk step new disk_now made in
    record {
      lines = lines;
      holds = subst (λ (j : Past). Holds script (rule_of new.core) j) (sym told) next.holds;
      insts = λ y x there. subst (λ (j : Past). IsRuled script (rule_of new.core) j y x) (sym told)
          (inst_next script (rule_of old.core) (rule_of new.core) old.core.journal es step.inst m old.insts next was.insts y x
          (set_get old.insts step.inst m y x (subst (λ (l : List Inst). slice_get l y ≡ Some x) made.moved.insts there)));
    }

-- what holds of the control lines in each world of a run
pub run_commands : (script : ScriptParts) (g : Lcg) (old : World) (disk : State) (book : List Step) (h : Lcg) (new : World) (disk_now : State) → IsWellFormed script
    → IsFirstWorld script old → IsRun g old disk book h new disk_now → Commands script new
run_commands script g old disk book h new disk_now fit first run =
    run_keeps (λ (w : World) (d : State). Commands script w)
    (λ w d step v e made was. step_commands script w d step v e fit (made_of w d step v e made) was)
    g old disk book h new disk_now run (first_commands script old fit first)
