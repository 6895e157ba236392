-- In each world of a run each opening, start and answer stands in its wave.
use Rattle.std.proofs.Common.{◌≡◌, ℕ, ◌-◌, ◌≤◌, Bool, true, false, ◌++◌, take, refl, sym, ap, subst, ◌∙◌, arith}
use Rattle.rac_disk.specs.State.{State}
use Rattle.journal.specs.Past.{Past}
use Rattle.script_text.specs.ScriptParts.{ScriptParts}
use Rattle.script_text.specs.Reading.{joined}
use Rattle.script_text.specs.WellFormed.{IsWellFormed}
use Rattle.inst_state.specs.declared.inst.Inst.{Inst}
use Rattle.inst_state.specs.declared.plan.Plan.{Plan}
use Rattle.inst_state.specs.declared.shared.Core.{Core}
use Rattle.first_state.specs.Plan.{first_plan, parts_of}
use Rattle.inst_node.specs.declared.actions.Action.{Action}
use Rattle.inst_node.specs.declared.actions.Step.{Step}
use Rattle.inst_node.specs.Moves.{counted, part_after, prepared}
use Rattle.world_machine.specs.declared.worlds.World.{World}
use Rattle.cluster_run.specs.First.{IsFirstWorld}
use Rattle.run_laws.specs.Tells.{tells as step_tells}
use Rattle.run_laws.proofs.Added.{made_adds}
use Rattle.run_laws.proofs.RunLemmas.{Made}
use Rattle.good_run.specs.Waves.{each_passes, wave_at}
use Rattle.line_laws.proofs.ByKind.{took}
use Rattle.line_laws.proofs.Courses.{Course, course_at, lines_in, same_course}
use Rattle.line_laws.proofs.Earlier.{earlier}
use Rattle.line_laws.proofs.Entered.{prepared_wave}
use Rattle.line_laws.proofs.Parts.{prepared_stays}
use Rattle.line_laws.proofs.ScriptLines.{wave_no}
use Rattle.line_laws.proofs.Timely.{first_timely, IsTimely, step_timely, Timely}
use Rattle.line_laws.proofs.Took.{Stays}
use Rattle.line_laws.proofs.Worlds.{stands_ready}
use Rattle.wave_laws.proofs.Begun.{AreTold, begins, IsIn, passes_told, speaks_told}
use Rattle.wave_laws.proofs.Current.{answered_grows}
use Rattle.wave_laws.proofs.Reached.{reached}
use Rattle.wave_laws.proofs.Ruled.{rule_of}
use Rattle.wave_laws.proofs.Speaks.{speaks}
use Rattle.wave_laws.proofs.Timed.{Fits}
use Rattle.wave_laws.proofs.Waved.{answered_later, effect_fits, first_waved, step_effect, step_waved, Waved}

-- What holds in each world: of the control lines, of when lines start, and that each stands in its wave, whatever is told later.
pub record Begins (script : ScriptParts) (w : World) : Type 0 where
  pub waved : Waved script w
  pub timely : Timely script w
  pub begins : (ever : ℕ → Bool) → Fits ever w.core.waves.controls w.core.journal → each_passes (begins ever script) w.core.journal ≡ true

in_wave_of : (core : Core) (n : Inst) → IsTimely core n → IsIn core.waves.wave n
in_wave_of core n at = record { entered = at.entered; busy = at.busy }

in_ready : (n k : Inst) (wave : ℕ) → Stays n k → k.wave.entered ≡ n.wave.entered → IsIn wave n → IsIn wave k
in_ready n k wave same entered is = record {
  entered = (let le = is.entered in omega (arith, le, entered));
  busy = λ z was. subst (λ (p : Plan). wave_no (lines_in p z) (course_at k z).next ≤ wave) (sym same.plan)
      (subst (λ (c : Course). c.idle ≡ false → wave_no (lines_in n.plan z) c.next ≤ wave) (sym (same_course n k z same.course)) (is.busy z) was);
}

counted_wave : (core : Core) (me : ℕ) (action : Action) → (counted core me action).waves.wave ≡ core.waves.wave
unfolding counted
counted_wave core me action = refl

-- what a step tells of sessions is of a wave up to the current one
pub step_told : (script : ScriptParts) (old : World) (disk : State) (step : Step) (new : World) (disk_now : State) → IsWellFormed script
    → (made : Made old disk step new disk_now) → Timely script old → AreTold script old.core.waves.wave (step_tells made.n old.core step.action made.how)
step_told script old disk step new disk_now fit made timely =
    let n = made.n in
    let i = step.inst in
    let core = old.core in
    let action = step.action in
    let k = prepared n core action in
    let m = part_after n core action made.how in
    let es = step_tells n core action made.how in
    let at = timely.lines.insts i n made.at in
    let same = prepared_stays n core action in
    let plan : parts_of k.plan ≡ first_plan script i = ap parts_of same.plan ∙ at.plan in
    let wave = counted_wave core n.plan.me action in
    let is : IsIn core.waves.wave k = in_ready n k core.waves.wave same (prepared_wave n core action) (in_wave_of core n (timely.insts i n made.at)) in
    subst (λ (q : ℕ). AreTold script q es) wave
    (speaks_told script k m (counted core n.plan.me action) i core.journal es fit plan (stands_ready script n k core.journal same at.stands)
    (subst (λ (q : ℕ). IsIn q k) (sym wave) is) (took n core action made.how made.needs) (speaks n core action made.how made.needs))

-- the wave that the journal tells after entries more of a step is the machine's before it at least
pub step_reached : (script : ScriptParts) (ever : ℕ → Bool) (old : World) (later : Past) → IsWellFormed script → Waved script old
    → Fits ever old.core.waves.controls old.core.journal → old.core.waves.wave - 1 ≤ wave_at ever script (later ++ old.core.journal)
step_reached script ever old later fit was fits =
    let core = old.core in
    let told = was.tells ever fits in
    reached script ever (rule_of core) (later ++ core.journal) core.journal was.commands.holds
    (answered_later (joined (take (core.waves.wave - 1) script.waves)) later core.journal (earlier script old fit was.commands.lines))
    (λ j c here done it stands. answered_grows ever script.waves later core.journal j c.line it (told.timed.done j c here done it stands))

pub step_begins : (script : ScriptParts) (old : World) (disk : State) (step : Step) (new : World) (disk_now : State) → IsWellFormed script
    → Made old disk step new disk_now → Begins script old → Begins script new
step_begins script old disk step new disk_now fit made was =
    let es = step_tells made.n old.core step.action made.how in
    let told : new.core.journal ≡ es ++ old.core.journal = made_adds old disk step new disk_now made in
    let effect = step_effect script old disk step new disk_now fit made was.waved.commands in
    record {
      waved = step_waved script old disk step new disk_now fit made was.waved;
      timely = step_timely script old disk step new disk_now fit made was.timely;
      begins = λ ever fits. (
          let before = effect_fits script ever (rule_of old.core) (rule_of new.core) old.core.journal es step.inst fit effect was.waved.commands.holds
          (subst (λ (j : Past). Fits ever new.core.waves.controls j) told fits) in
          subst (λ (j : Past). each_passes (begins ever script) j ≡ true) (sym told)
          (passes_told script ever old.core.journal es old.core.waves.wave fit (step_told script old disk step new disk_now fit made was.timely)
          (λ later. step_reached script ever old later fit was.waved before) (was.begins ever before)));
    }

pub first_begins : (script : ScriptParts) (w : World) → IsWellFormed script → IsFirstWorld script w → Begins script w
first_begins script w fit first = record {
  waved = first_waved script w fit first;
  timely = first_timely script w fit first;
  begins = λ ever fits. subst (λ (c : Core). each_passes (begins ever script) c.journal ≡ true) (sym first.core) refl;
}
