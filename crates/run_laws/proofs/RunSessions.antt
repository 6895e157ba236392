-- In a run the plans stay, and the sessions that are named are of the script.
use Rattle.std.proofs.Common.{◌≡◌, ◌<◌, ◌+◌, ℕ, suc, zero, List, [], ◌∷◌, ◌++◌, ◌∙◌, refl, ap, sym, subst, arith, length, Option, Some, unwrap_or}
use Rattle.std.specs.Prelude.{◌==◌, Bool, true, false, if◌then◌else◌, slice_get, slice_set}
use Rattle.std.specs.List.{AllByRecursion, enumerate_from, flat_map}
use Rattle.std.proofs.lemmas.List.FromFn.{length-map-range_with_len}
use Rattle.rand_pcg.specs.Lcg.{Lcg}
use Rattle.rac_disk.specs.State.{State}
use Rattle.journal.specs.declared.entry.Entry.{Entry}
use Rattle.wire_net.specs.declared.masters.Masters.{Masters}
use Rattle.script_text.specs.declared.item.Item.{Item}
use Rattle.script_text.specs.declared.item.Item.TheVariants as items
use Rattle.script_text.specs.ScriptParts.{ScriptParts}
use Rattle.script_text.specs.Reading.{joined}
use Rattle.script_text.specs.WellFormed.{IsItemWithin, IsWellFormed}
use Rattle.inst_state.specs.declared.inst.Inst.{Inst}
use Rattle.inst_state.specs.declared.plan.Opening.{Opening}
use Rattle.inst_state.specs.declared.plan.Plan.{Plan}
use Rattle.first_state.specs.Core.{first_core}
use Rattle.first_state.specs.Plan.{PlanParts, first_plan, lines_of, openings_at, openings_in, parts_of}
use Rattle.inst_node.specs.declared.actions.Step.{Step}
use Rattle.inst_node.specs.Moves.{part_after}
use Rattle.world_machine.specs.declared.worlds.World.{World}
use Rattle.world_machine.specs.Machine.{W}
use Rattle.world_machine.specs.Runs.{IsRun}
use Rattle.cluster_run.specs.First.{AreFirst, IsFirstWorld}
use Rattle.run_laws.specs.Runs.{Adds}
use Rattle.run_laws.specs.Sessions.{ArePlanned, NamesSession}
use Rattle.run_laws.specs.Tells.{tells}
use Rattle.run_laws.proofs.Added.{adds_then, made_adds}
use Rattle.run_laws.proofs.Named.{Named, named_both}
use Rattle.run_laws.proofs.NamedByKind.{IsOf, step_named}
use Rattle.run_laws.proofs.Plans.{plan_kept}
use Rattle.run_laws.proofs.RunEnds.{adds_alone}
use Rattle.run_laws.proofs.RunLemmas.{Made, made_of, run_keeps}

some_same : {A : Type 0} (x y : A) → Some x ≡ Some y → x ≡ y
some_same {A = A} x y e = ap (λ (o : Option A). unwrap_or o x) e

-- the plans of instances one of which has made a step
planned_set : (script : ScriptParts) (me : ℕ) (insts : List Inst) (i : ℕ) (n new : Inst) → slice_get insts i ≡ Some n → new.plan ≡ n.plan
    → ArePlanned script me insts → ArePlanned script me (slice_set insts i new)
planned_set script me [] i n new at same all = all
planned_set script me (one ∷ insts) zero n new at same all =
    (ap (λ (plan : Plan). parts_of plan) (same ∙ ap (λ (n : Inst). n.plan) (sym (some_same one n at))) ∙ all.0, all.1)
planned_set script me (one ∷ insts) (suc i) n new at same all = (all.0, planned_set script (me + 1) insts i n new at same all.1)

-- the plan of one of the instances
planned_at : (script : ScriptParts) (me : ℕ) (insts : List Inst) (i : ℕ) (n : Inst) → slice_get insts i ≡ Some n → ArePlanned script me insts
    → (inst : ℕ) × (parts_of n.plan ≡ first_plan script inst)
planned_at script me [] i n at all = absurd (cc)
planned_at script me (one ∷ insts) zero n at all = (me, subst (λ (m : Inst). parts_of m.plan ≡ first_plan script me) (some_same one n at) all.0)
planned_at script me (one ∷ insts) (suc i) n at all = planned_at script (me + 1) insts i n at all.1

step_keeps : (script : ScriptParts) (old : World) (disk : State) (step : Step) (new : World) (disk_now : State) → W old disk step new disk_now
    → ArePlanned script 0 old.insts → ArePlanned script 0 new.insts
step_keeps script old disk step new disk_now it all =
    let m = made_of old disk step new disk_now it in
    subst (λ (insts : List Inst). ArePlanned script 0 insts) (sym m.moved.insts)
    (planned_set script 0 old.insts step.inst m.n (part_after m.n old.core step.action m.how) m.at (plan_kept m.n old.core step.action m.how) all)

-- a run changes no plan
pub runs_keep_plans : (script : ScriptParts) (g : Lcg) (old : World) (disk : State) (book : List Step) (h : Lcg) (new : World) (disk_now : State)
    → IsRun g old disk book h new disk_now → ArePlanned script 0 old.insts → ArePlanned script 0 new.insts
runs_keep_plans script g old disk book h new disk_now run all =
    run_keeps (λ (w : World) (d : State). ArePlanned script 0 w.insts) (step_keeps script) g old disk book h new disk_now run all

-- what a well-formed script opens

-- Each of these sessions is one of the script.
abbrev OpensThere : ScriptParts → List Opening → Type 0
OpensThere script openings = AllByRecursion (λ (opening : Opening). opening.session < length script.names) openings

each_both : {A : Type 0} (P : A → Type 0) (xs ys : List A) → AllByRecursion P xs → AllByRecursion P ys → AllByRecursion P (xs ++ ys)
each_both {A = A} P [] ys first later = later
each_both {A = A} P (x ∷ xs) ys first later = (first.0, each_both P xs ys first.1 later)

each_first : {A : Type 0} (P : A → Type 0) (xs ys : List A) → AllByRecursion P (xs ++ ys) → AllByRecursion P xs
each_first {A = A} P [] ys all = tt
each_first {A = A} P (x ∷ xs) ys all = (all.0, each_first P xs ys all.1)

each_later : {A : Type 0} (P : A → Type 0) (xs ys : List A) → AllByRecursion P (xs ++ ys) → AllByRecursion P ys
each_later {A = A} P [] ys all = all
each_later {A = A} P (x ∷ xs) ys all = each_later P xs ys all.1

module _ (script : ScriptParts) (count : length script.names ≡ length script.homes) (me : ℕ) where
  opens_if : (here : Bool) (wave session : ℕ) → session < length script.homes
      → OpensThere script (if here then record { wave = wave; session = session } ∷ [] else [])
  opens_if true wave session there = (omega arith, tt)
  opens_if false wave session there = tt

  opens_one : (wave line : ℕ) (item : Item) → IsItemWithin script.settings script.homes item → OpensThere script (openings_at me wave (line, item))
  opens_one wave line (items.Session session inst) within = opens_if (inst == me) wave session within.1
  opens_one wave line _ within = tt

  opens_wave : (wave : ℕ) (lines : List (ℕ × Item)) → AllByRecursion (λ (item : ℕ × Item). IsItemWithin script.settings script.homes item.1) lines
      → OpensThere script (flat_map (openings_at me wave) lines)
  opens_wave wave [] all = tt
  opens_wave wave (item ∷ lines) all =
      each_both (λ (opening : Opening). opening.session < length script.names) (openings_at me wave item) (flat_map (openings_at me wave) lines)
      (opens_one wave item.0 item.1 all.0) (opens_wave wave lines all.1)

  opens_waves : (from : ℕ) (waves : List (List (ℕ × Item))) → AllByRecursion (λ (item : ℕ × Item). IsItemWithin script.settings script.homes item.1) (joined waves)
      → OpensThere script (flat_map (openings_in me) (enumerate_from from waves))
  opens_waves from [] all = tt
  opens_waves from (wave ∷ waves) all =
      each_both (λ (opening : Opening). opening.session < length script.names)
      (openings_in me (from, wave)) (flat_map (openings_in me) (enumerate_from (from + 1) waves))
      (opens_wave from wave (each_first (λ (item : ℕ × Item). IsItemWithin script.settings script.homes item.1) wave (joined waves) all))
      (opens_waves (from + 1) waves (each_later (λ (item : ℕ × Item). IsItemWithin script.settings script.homes item.1) wave (joined waves) all))

-- a plan that a well-formed script lays down
is_of : (script : ScriptParts) (inst : ℕ) (plan : Plan) → IsWellFormed script → parts_of plan ≡ first_plan script inst → IsOf script plan
is_of script inst plan well is = record {
  lines = ap (λ (it : PlanParts). length it.lines) is ∙ length-map-range_with_len (lines_of script inst) 0 (length script.names);
  openings = subst (λ (openings : List Opening). OpensThere script openings) (sym (ap (λ (it : PlanParts). it.openings) is))
      (opens_waves script well.sessions_are_named inst 1 script.waves well.items_within);
}

step_names : (script : ScriptParts) → IsWellFormed script → (old : World) (disk : State) (step : Step) (new : World) (disk_now : State)
    (m : Made old disk step new disk_now) → ArePlanned script 0 old.insts → Named script (tells m.n old.core step.action m.how)
step_names script well old disk step new disk_now m all =
    let planned = planned_at script 0 old.insts step.inst m.n m.at all in
    step_named script m.n old.core step.action m.how (is_of script planned.0 m.n.plan well planned.1) m.needs

run_named : (script : ScriptParts) → IsWellFormed script → (g : Lcg) (old : World) (disk : State) (book : List Step) (h : Lcg) (new : World) (disk_now : State)
    → IsRun g old disk book h new disk_now → ArePlanned script 0 old.insts
    → (entries : List Entry) × Adds old new entries × Named script entries × ArePlanned script 0 new.insts
run_named script well g old disk book h new disk_now run all =
    run_keeps (λ (w : World) (d : State). (entries : List Entry) × Adds old w entries × Named script entries × ArePlanned script 0 w.insts)
    (λ w d step w' d' made so_far.
    let m = made_of w d step w' d' made in
    let later = tells m.n w.core step.action m.how in (
      later ++ so_far.0,
      adds_then old w w' so_far.0 later so_far.1 (made_adds w d step w' d' m),
      named_both script later so_far.0 (step_names script well w d step w' d' m so_far.3) so_far.2,
      step_keeps script w d step w' d' made so_far.3,
    ))
    g old disk book h new disk_now run ([], refl, tt, all)

named_from : (script : ScriptParts) → IsWellFormed script → (g : Lcg) (old : World) (disk : State) (book : List Step) (h : Lcg) (new : World) (disk_now : State)
    → IsRun g old disk book h new disk_now → ArePlanned script 0 old.insts
    → (entries : List Entry) → Adds old new entries → AllByRecursion (NamesSession script) entries
named_from script well g old disk book h new disk_now run all entries adds =
    let it = run_named script well g old disk book h new disk_now run all in
    subst (λ (es : List Entry). Named script es) (adds_alone old new it.0 entries it.1 adds) it.2

planned_from : (script : ScriptParts) (masters : Masters) (me : ℕ) (insts : List Inst) → AreFirst script masters me insts → ArePlanned script me insts
planned_from script masters me [] first = tt
planned_from script masters me (n ∷ insts) first = (first.0.plan, planned_from script masters (me + 1) insts first.1)

-- before the first step the plans are those of the script
pub first_planned : (script : ScriptParts) (w : World) → IsFirstWorld script w → ArePlanned script 0 w.insts
first_planned script w first = planned_from script (first_core script).net.masters 0 w.insts first.insts

-- In a run each session that is opened, and each whose line starts, is one of the script.
pub runs_name_sessions : (script : ScriptParts) → IsWellFormed script → (g : Lcg) (old : World) (disk : State) (book : List Step) (h : Lcg) (new : World) (disk_now : State)
    → IsRun g old disk book h new disk_now → IsFirstWorld script old
    → (entries : List Entry) → Adds old new entries → AllByRecursion (NamesSession script) entries
runs_name_sessions script well g old disk book h new disk_now run first entries adds =
    named_from script well g old disk book h new disk_now run (first_planned script old first) entries adds
