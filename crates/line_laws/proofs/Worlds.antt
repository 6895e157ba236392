-- What holds of the lines in each world of a run.
use Rattle.std.proofs.Common.{◌≡◌, ℕ, zero, suc, ◌+◌, ◌<◌, ◌≤◌, ◌&&◌, not, true, false, List, [], ◌∷◌, ◌++◌, length, replicate, get_or, Some, slice_get, refl, sym, ap, subst, ◌∙◌, ◌⊎◌, inl, inr, arith}
use Rattle.std.specs.Prelude.{◌==◌, slice_set}
use Rattle.std.proofs.lemmas.Bool.{and_parts}
use Rattle.std.proofs.lemmas.List.{length-replicate, length-set}
use Rattle.std.proofs.lemmas.Option.{none-some, same_Some, slice_get_within}
use Rattle.rand_pcg.specs.Lcg.{Lcg}
use Rattle.rac_disk.specs.State.{State}
use Rattle.base_types.specs.declared.layout.Layout.{Layout}
use Rattle.inst_set.specs.Sets.{has, is_empty}
use Rattle.wire_net.specs.declared.masters.Masters.{Masters}
use Rattle.wire_net.specs.Links.{are_empty}
use Rattle.journal.specs.Past.{Past}
use Rattle.script_text.specs.ScriptParts.{ScriptParts}
use Rattle.script_text.specs.WellFormed.{IsWellFormed}
use Rattle.inst_state.specs.declared.inst.Inst.{Inst}
use Rattle.inst_state.specs.declared.line.Line.{Line}
use Rattle.inst_state.specs.declared.plan.Plan.{Plan}
use Rattle.inst_state.specs.declared.session.Session.{Session}
use Rattle.inst_state.specs.declared.shared.Core.{Core}
use Rattle.inst_state.specs.Sessions.{new_session}
use Rattle.inst_state.specs.Shared.{all_left, are_answered}
use Rattle.wave_steps.specs.WaveEnd.{is_settled, may_leave, may_rise}
use Rattle.first_state.specs.Core.{first_core}
use Rattle.first_state.specs.Plan.{first_plan, parts_of, PlanParts}
use Rattle.inst_node.specs.declared.actions.Action.{Action}
use Rattle.inst_node.specs.declared.actions.Action.TheVariants.{Plain}
use Rattle.inst_node.specs.declared.actions.PlainStep.TheVariants as plain
use Rattle.inst_node.specs.declared.actions.Step.{Step}
use Rattle.inst_node.specs.Allowed.{is_allowed}
use Rattle.inst_node.specs.Moves.{counted, part_after, prepared}
use Rattle.inst_node.specs.Needs.{needs, plain_needs}
use Rattle.world_machine.specs.declared.worlds.World.{World}
use Rattle.world_machine.specs.Runs.{IsRun}
use Rattle.run_laws.specs.Tells.{tells}
use Rattle.run_laws.proofs.Added.{made_adds}
use Rattle.run_laws.proofs.RunLemmas.{Made, made_of, run_keeps}
use Rattle.cluster_run.specs.First.{AreFirst, IsFirst, IsFirstWorld}
use Rattle.line_laws.specs.Turns.{AreInTurn}
use Rattle.line_laws.proofs.ByKind.{took}
use Rattle.line_laws.proofs.Courses.{Course, course_at, course_of, lines_in, same_count, same_course}
use Rattle.line_laws.proofs.Kept.{After, kept, Standing}
use Rattle.line_laws.proofs.Losses.{Placed}
use Rattle.line_laws.proofs.Parts.{prepared_stays}
use Rattle.line_laws.proofs.Places.{apart, placed}
use Rattle.line_laws.proofs.Rounds.{Round, round_after, round_by, round_of}
use Rattle.line_laws.proofs.ScriptLines.{AreLines}
use Rattle.line_laws.proofs.Stands.{Stands, stands_on, stands_without}
use Rattle.line_laws.proofs.Took.{Stays}
use Rattle.line_laws.proofs.Waits.{Awaits, awaits_leaving, awaits_left, awaits_on, awaits_risen, has_left, nobody}

-- An instance has its plan; its sessions have come as far as the journal says, and their lines wait for their waves.
pub record IsAt (script : ScriptParts) (core : Core) (i : ℕ) (n : Inst) : Type 0 where
  pub plan : parts_of n.plan ≡ first_plan script i
  pub count : length n.sessions ≡ length script.names
  pub stands : Standing script n core.journal
  pub waits : (z : ℕ) → Awaits (round_of core) i (lines_in n.plan z) (course_at n z).next

-- So it is of each instance, and each entry has its turn.
pub record Lines (script : ScriptParts) (w : World) : Type 0 where
  pub insts : (i : ℕ) (n : Inst) → slice_get w.insts i ≡ Some n → IsAt script w.core i n
  pub count : length w.insts ≡ script.settings.instances
  pub layout : w.core.layout.instances ≡ script.settings.instances
  pub waves : w.core.waves.count ≡ length script.waves
  pub turns : AreInTurn script w.core.journal

-- the first world

pub session_new : (count z : ℕ) → get_or (replicate count new_session) z new_session ≡ new_session
session_new zero z = refl
session_new (suc count) zero = refl
session_new (suc count) (suc z) = session_new count z

first_of : (script : ScriptParts) (masters : Masters) (me : ℕ) (insts : List Inst) → AreFirst script masters me insts → (i : ℕ) (n : Inst)
    → slice_get insts i ≡ Some n → IsFirst script masters (me + i) n
first_of script masters me [] first i n at = absurd (none-some n at)
first_of script masters me (m ∷ insts) first zero n at =
    let e : me ≡ me + zero = omega arith in
    subst (λ (k : ℕ). IsFirst script masters k n) e (subst (λ (x : Inst). IsFirst script masters me x) (same_Some m n at) first.0)
first_of script masters me (m ∷ insts) first (suc i) n at =
    let later = first_of script masters (me + 1) insts first.1 i n at in
    let e : me + 1 + i ≡ me + suc i = omega arith in subst (λ (k : ℕ). IsFirst script masters k n) e later

-- the instance at a place of the first world
pub first_at_place : (script : ScriptParts) (masters : Masters) (insts : List Inst) → AreFirst script masters 0 insts → (i : ℕ) (n : Inst) → slice_get insts i ≡ Some n
    → IsFirst script masters i n
first_at_place script masters insts first i n at =
    let e : 0 + i ≡ i = omega arith in subst (λ (k : ℕ). IsFirst script masters k n) e (first_of script masters 0 insts first i n at)

new_stands : (script : ScriptParts) (z : ℕ) (ls : List Line) → AreLines script z ls → Stands script z ls (course_of new_session) []
new_stands script z ls are = record {
  within = omega arith;
  started = λ busy. absurd (let no : true ≡ false = busy in cc);
  done = λ j at. absurd (omega (arith, at));
  open_ = λ j from at. are.above j at;
}

new_waits : (script : ScriptParts) (me z : ℕ) (ls : List Line) → AreLines script z ls → Awaits (round_of (first_core script)) me ls 0
new_waits script me z ls are = record {
  now = λ j from at. are.first j at;
  gone = λ out. absurd (nobody me out);
  none = λ over. absurd (let no : false ≡ true = over in cc);
}

first_at : (script : ScriptParts) (core : Core) (i : ℕ) (n : Inst) (masters : Masters) → IsWellFormed script → core ≡ first_core script → IsFirst script masters i n
    → IsAt script core i n
first_at script core i n masters fit is first =
    let sessions : n.sessions ≡ replicate (length script.names) new_session = ap (λ (x : Inst). x.sessions) first.part in
    let here = placed script n.plan i fit first.plan in
    let course : (z : ℕ) → course_at n z ≡ course_of new_session =
    λ z. ap (λ (l : List Session). course_of (get_or l z new_session)) sessions ∙ ap course_of (session_new (length script.names) z) in
    record {
      plan = first.plan;
      count = ap length sessions ∙ length-replicate (length script.names) new_session;
      stands = λ z. subst (λ (c : Course). Stands script z (lines_in n.plan z) c core.journal) (sym (course z))
          (subst (λ (x : Core). Stands script z (lines_in n.plan z) (course_of new_session) x.journal) (sym is) (new_stands script z (lines_in n.plan z) (here.lines z)));
      waits = λ z. subst (λ (c : Course). Awaits (round_of core) i (lines_in n.plan z) c.next) (sym (course z))
          (subst (λ (x : Core). Awaits (round_of x) i (lines_in n.plan z) 0) (sym is) (new_waits script i z (lines_in n.plan z) (here.lines z)));
    }

pub first_lines : (script : ScriptParts) (w : World) → IsWellFormed script → IsFirstWorld script w → Lines script w
first_lines script w fit first = record {
  insts = λ i n at. first_at script w.core i n (first_core script).net.masters fit first.core
      (first_at_place script (first_core script).net.masters w.insts first.insts i n at);
  count = first.count;
  layout = ap (λ (c : Core). c.layout.instances) first.core;
  waves = ap (λ (c : Core). c.waves.count) first.core;
  turns = subst (λ (c : Core). AreInTurn script c.journal) (sym first.core) tt;
}

-- a step

pub set_get : (xs : List Inst) (i : ℕ) (m : Inst) (y : ℕ) (x : Inst) → slice_get (slice_set xs i m) y ≡ Some x
    → ((y ≡ i) × (x ≡ m)) ⊎ ((y ≡ i → ⊥) × (slice_get xs y ≡ Some x))
set_get [] i m y x e = absurd (none-some x e)
set_get (a ∷ xs) zero m zero x e = inl (refl, sym (same_Some m x e))
set_get (a ∷ xs) zero m (suc y) x e = inr ((λ same. omega (arith, same)), e)
set_get (a ∷ xs) (suc i) m zero x e = inr ((λ same. omega (arith, same)), e)
set_get (a ∷ xs) (suc i) m (suc y) x e = by (set_get xs i m y x e)
  where
    by : ((y ≡ i) × (x ≡ m)) ⊎ ((y ≡ i → ⊥) × (slice_get xs y ≡ Some x)) → ((suc y ≡ suc i) × (x ≡ m)) ⊎ ((suc y ≡ suc i → ⊥) × (slice_get xs y ≡ Some x))
    by (inl p) = inl (ap suc p.0, p.1)
    by (inr p) = inr ((λ same. p.0 (omega (arith, same))), p.1)

rise_left : (n : Inst) (core : Core) → may_rise n core ≡ true → all_left core ≡ true
rise_left n core may =
    let a = and_parts (n.plan.me == 0 && not core.waves.over && all_left core && are_answered core && is_settled core && is_empty core.paused) (are_empty core.net.links) may in
    let b = and_parts (n.plan.me == 0 && not core.waves.over && all_left core && are_answered core && is_settled core) (is_empty core.paused) a.0 in
    let c = and_parts (n.plan.me == 0 && not core.waves.over && all_left core && are_answered core) (is_settled core) b.0 in
    let d = and_parts (n.plan.me == 0 && not core.waves.over && all_left core) (are_answered core) c.0 in
    (and_parts (n.plan.me == 0 && not core.waves.over) (all_left core) d.0).1

leave_may : (n : Inst) (core : Core) → needs n core (Plain plain.Leave) ≡ true → may_leave n core ≡ true
unfolding plain_needs
leave_may n core may = (and_parts (is_allowed n core (Plain plain.Leave)) (may_leave n core) may).1

wave_may : (n : Inst) (core : Core) → needs n core (Plain plain.Wave) ≡ true → may_rise n core ≡ true
unfolding plain_needs
wave_may n core may = (and_parts (is_allowed n core (Plain plain.Wave)) (may_rise n core) may).1

-- the lines of the instance that makes the step
waits_own : (script : ScriptParts) (n : Inst) (core : Core) (action : Action) (count z : ℕ) → needs n core action ≡ true → Placed script n.plan count
    → core.waves.count ≡ length script.waves → (all_left core ≡ true → has core.waves.left n.plan.me ≡ true)
    → Awaits (round_of core) n.plan.me (lines_in n.plan z) (course_at n z).next
    → Awaits (round_after (prepared n core action) (counted core n.plan.me action) action) n.plan.me (lines_in n.plan z) (course_at n z).next
unfolding prepared counted
waits_own script n core (Plain plain.Leave) count z may here waves out w = awaits_leaving script n core z count here (leave_may n core may) w
waits_own script n core (Plain plain.Wave) count z may here waves out w =
    awaits_risen script core n.plan.me z (lines_in n.plan z) (course_at n z).next (here.lines z) waves (out (rise_left n core (wave_may n core may))) w
waits_own script n core _ count z may here waves out w = w

-- the lines of another instance
waits_other : (script : ScriptParts) (n : Inst) (core : Core) (action : Action) (y z : ℕ) (ls : List Line) (next : ℕ) → needs n core action ≡ true
    → AreLines script z ls → core.waves.count ≡ length script.waves → (all_left core ≡ true → has core.waves.left y ≡ true) → (y ≡ n.plan.me → ⊥)
    → Awaits (round_of core) y ls next → Awaits (round_after (prepared n core action) (counted core n.plan.me action) action) y ls next
unfolding prepared counted
waits_other script n core (Plain plain.Leave) y z ls next may are waves out apart w = awaits_left n core y ls next apart w
waits_other script n core (Plain plain.Wave) y z ls next may are waves out apart w =
    awaits_risen script core y z ls next are waves (out (rise_left n core (wave_may n core may))) w
waits_other script n core _ y z ls next may are waves out apart w = w

counts_stay : (n : Inst) (core : Core) (action : Action) → (round_after (prepared n core action) (counted core n.plan.me action) action).count ≡ core.waves.count
unfolding prepared counted
counts_stay n core (Plain plain.Leave) = refl
counts_stay n core (Plain plain.Wave) = refl
counts_stay n core _ = refl

layout_stays : (n : Inst) (core : Core) (action : Action) → (round_after (prepared n core action) (counted core n.plan.me action) action).layout ≡ core.layout
unfolding prepared counted
layout_stays n core (Plain plain.Leave) = refl
layout_stays n core (Plain plain.Wave) = refl
layout_stays n core _ = refl

-- sessions that have come as far as before
pub stands_ready : (script : ScriptParts) (n k : Inst) (past : Past) → Stays n k → Standing script n past → Standing script k past
stands_ready script n k past same stands z =
    subst (λ (p : Plan). Stands script z (lines_in p z) (course_at k z) past) (sym same.plan)
    (subst (λ (c : Course). Stands script z (lines_in n.plan z) c past) (sym (same_course n k z same.course)) (stands z))

-- the instance that makes the step
own_at : (script : ScriptParts) (n k m : Inst) (core now : Core) (i : ℕ) (past : Past) → IsAt script core i n → Stays n k → After script k m past now.journal
    → ((z : ℕ) → Awaits (round_of now) i (lines_in n.plan z) (course_at n z).next) → IsAt script now i m
own_at script n k m core now i past at same after waits = record {
  plan = ap parts_of (after.plan ∙ same.plan) ∙ at.plan;
  count = after.count ∙ same_count n k same.course ∙ at.count;
  stands = λ z. subst (λ (p : Plan). Stands script z (lines_in p z) (course_at m z) now.journal) (sym after.plan) (after.stands z);
  waits = λ z. subst (λ (p : Plan). Awaits (round_of now) i (lines_in p z) (course_at m z).next) (sym (after.plan ∙ same.plan))
      (awaits_on (round_of now) i (lines_in n.plan z) (course_at n z).next (course_at m z).next
      (let e : (course_at k z).next ≡ (course_at n z).next = ap (λ (c : Course). c.next) (same_course n k z same.course) in let le = after.on z in omega (arith, e, le))
      (waits z));
}

stands_elsewhere : (script : ScriptParts) (k m x : Inst) (past now : Past) (z : ℕ) → After script k m past now → Stands script z (lines_in x.plan z) (course_at x z) past
    → (length (lines_in x.plan z) ≡ 0) ⊎ (length (lines_in k.plan z) ≡ 0) → Stands script z (lines_in x.plan z) (course_at x z) now
stands_elsewhere script k m x past now z after stands (inl none) = stands_without script z (lines_in x.plan z) (course_at x z) past now none stands
stands_elsewhere script k m x past now z after stands (inr none) =
    stands_on script z (lines_in x.plan z) (course_at x z) past now stands (after.others z none)

-- another instance
other_at : (script : ScriptParts) (k m x : Inst) (core now : Core) (i y : ℕ) → IsAt script core y x → parts_of k.plan ≡ first_plan script i → (y ≡ i → ⊥)
    → After script k m core.journal now.journal → ((z : ℕ) → Awaits (round_of now) y (lines_in x.plan z) (course_at x z).next) → IsAt script now y x
other_at script k m x core now i y at plan other after waits = record {
  plan = at.plan;
  count = at.count;
  stands = λ z. stands_elsewhere script k m x core.journal now.journal z after (at.stands z) (apart script k.plan x.plan i y z other plan at.plan);
  waits = waits;
}

-- each instance after a step
inst_kept : (script : ScriptParts) (n k m : Inst) (core now : Core) (action : Action) (i : ℕ) (insts : List Inst) → IsWellFormed script
    → needs n core action ≡ true → core.waves.count ≡ length script.waves → ((y : ℕ) (x : Inst) → slice_get insts y ≡ Some x → IsAt script core y x)
    → parts_of k.plan ≡ first_plan script i → n.plan.me ≡ i → After script k m core.journal now.journal
    → round_of now ≡ round_after (prepared n core action) (counted core n.plan.me action) action → IsAt script now i m
    → ((y : ℕ) (x : Inst) → slice_get insts y ≡ Some x → all_left core ≡ true → has core.waves.left y ≡ true) → (y : ℕ) (x : Inst)
    → ((y ≡ i) × (x ≡ m)) ⊎ ((y ≡ i → ⊥) × (slice_get insts y ≡ Some x)) → IsAt script now y x
inst_kept script n k m core now action i insts fit may waves at plan me after round own out y x (inl is) =
    subst (λ (j : ℕ). IsAt script now j x) (sym is.0) (subst (λ (q : Inst). IsAt script now i q) (sym is.1) own)
inst_kept script n k m core now action i insts fit may waves at plan me after round own out y x (inr is) =
    let was = at y x is.1 in
    let lines = (placed script x.plan y fit was.plan).lines in
    other_at script k m x core now i y was plan is.0 after
    (λ z. subst (λ (r : Round). Awaits r y (lines_in x.plan z) (course_at x z).next) (sym round)
    (waits_other script n core action y z (lines_in x.plan z) (course_at x z).next may (lines z) waves (out y x is.1) (λ same. is.0 (same ∙ me)) (was.waits z)))

-- what a step leaves true
pub step_made : (script : ScriptParts) (old : World) (disk : State) (step : Step) (new : World) (disk_now : State) → IsWellFormed script
    → Made old disk step new disk_now → Lines script old → Lines script new
step_made script old disk step new disk_now fit made lines =
    let n = made.n in
    let i = step.inst in
    let core = old.core in
    let action = step.action in
    let k = prepared n core action in
    let m = part_after n core action made.how in
    let es = tells n core action made.how in
    let at = lines.insts i n made.at in
    let same = prepared_stays n core action in
    let me : n.plan.me ≡ i = ap (λ (p : PlanParts). p.me) at.plan in
    let plan : parts_of k.plan ≡ first_plan script i = ap parts_of same.plan ∙ at.plan in
    let count : length k.sessions ≡ length script.names = same_count n k same.course ∙ at.count in
    let here : Placed script k.plan (length k.sessions) = subst (λ (c : ℕ). Placed script k.plan c) (sym count) (placed script k.plan i fit plan) in
    let after : After script k m core.journal (es ++ core.journal) =
    kept script k m core.journal es here (took n core action made.how made.needs) (stands_ready script n k core.journal same at.stands) lines.turns in
    let told : new.core.journal ≡ es ++ core.journal = made_adds old disk step new disk_now made in
    let after_now : After script k m core.journal new.core.journal = subst (λ (j : Past). After script k m core.journal j) (sym told) after in
    let round : round_of new.core ≡ round_after k (counted core n.plan.me action) action =
    ap round_of made.moved.core ∙ round_by k (counted core n.plan.me action) action made.how in
    let out : (y : ℕ) (x : Inst) → slice_get old.insts y ≡ Some x → all_left core ≡ true → has core.waves.left y ≡ true =
    λ y x there all. (
    let within : y < length old.insts = slice_get_within old.insts y x there in
    let few : script.settings.instances ≤ 8 = fit.settings_fit.few_instances in
    let same_count : length old.insts ≡ script.settings.instances = lines.count in
    let same_layout : core.layout.instances ≡ script.settings.instances = lines.layout in
    has_left core y all (omega (arith, within, same_count, same_layout)) (omega (arith, within, same_count, few))) in
    let own : IsAt script new.core i m = own_at script n k m core new.core i core.journal at same after_now
    (λ z. subst (λ (r : Round). Awaits r i (lines_in n.plan z) (course_at n z).next) (sym round)
    (subst (λ (y : ℕ). Awaits (round_after k (counted core n.plan.me action) action) y (lines_in n.plan z) (course_at n z).next) me
    (waits_own script n core action (length script.names) z made.needs (placed script n.plan i fit at.plan) lines.waves
    (λ all. subst (λ (y : ℕ). has core.waves.left y ≡ true) (sym me) (out i n made.at all))
    (subst (λ (y : ℕ). Awaits (round_of core) y (lines_in n.plan z) (course_at n z).next) (sym me) (at.waits z))))) in
    record {
      insts = λ y x there. inst_kept script n k m core new.core action i old.insts fit made.needs lines.waves lines.insts plan me after_now round own out y x
          (set_get old.insts i m y x (subst (λ (l : List Inst). slice_get l y ≡ Some x) made.moved.insts there));
      count = ap length made.moved.insts ∙ length-set old.insts i m ∙ lines.count;
      layout = ap (λ (r : Round). r.layout.instances) round ∙ ap (λ (l : Layout). l.instances) (layout_stays n core action) ∙ lines.layout;
      waves = ap (λ (r : Round). r.count) round ∙ counts_stay n core action ∙ lines.waves;
      turns = after_now.turns;
    }

-- what holds of each world of a run
pub run_lines : (script : ScriptParts) (g : Lcg) (old : World) (disk : State) (book : List Step) (h : Lcg) (new : World) (disk_now : State) → IsWellFormed script
    → IsFirstWorld script old → IsRun g old disk book h new disk_now → Lines script new
run_lines script g old disk book h new disk_now fit first run =
    run_keeps (λ (w : World) (d : State). Lines script w)
    (λ w d step v e made lines. step_made script w d step v e fit (made_of w d step v e made) lines)
    g old disk book h new disk_now run (first_lines script old fit first)
