-- Once the last wave is over each line is answered.
use Rattle.std.proofs.Common.{◌≡◌, ℕ, zero, suc, ◌+◌, ◌-◌, ◌<◌, ◌≤◌, Bool, true, false, List, [], ◌∷◌, length, refl, sym, ap, subst, ◌∙◌, ◌⊎◌, inl, inr, arith}
use Rattle.std.specs.Prelude.{◌&&◌, ◌||◌, not, slice_index_or}
use Rattle.std.specs.List.{list_all}
use Rattle.std.proofs.lemmas.Bool.{and_from, cases_lt, leb-true, or_left, or_right}
use Rattle.rand_pcg.specs.Lcg.{Lcg}
use Rattle.rac_disk.specs.State.{State}
use Rattle.journal.specs.Past.{Past}
use Rattle.script_text.specs.declared.item.Item.{Item}
use Rattle.script_text.specs.declared.item.Item.TheVariants as item
use Rattle.script_text.specs.ScriptParts.{ScriptParts}
use Rattle.script_text.specs.GoodLines.{AllAnswered}
use Rattle.script_text.specs.Reading.{joined}
use Rattle.script_text.specs.WellFormed.{IsWellFormed}
use Rattle.inst_state.specs.declared.control.Control.{Control}
use Rattle.inst_state.specs.declared.inst.Inst.{Inst}
use Rattle.inst_state.specs.declared.shared.Core.{Core}
use Rattle.inst_state.specs.Shared.{are_answered, wave_controls}
use Rattle.wave_steps.specs.WaveEnd.{is_last}
use Rattle.inst_node.specs.declared.actions.Action.{Action}
use Rattle.inst_node.specs.declared.actions.Action.TheVariants.{Plain}
use Rattle.inst_node.specs.declared.actions.PlainStep.TheVariants as plain
use Rattle.inst_node.specs.declared.actions.Step.{Step}
use Rattle.inst_node.specs.Moves.{counted, prepared}
use Rattle.inst_node.specs.Needs.{needs}
use Rattle.world_machine.specs.declared.worlds.World.{World}
use Rattle.world_machine.specs.Runs.{IsRun}
use Rattle.cluster_run.specs.First.{IsFirstWorld}
use Rattle.run_report.specs.Ends.{answers_any, ended_in, is_answered, is_asked, is_done, is_ended}
use Rattle.run_laws.specs.Tells.{tells as step_tells}
use Rattle.run_laws.proofs.RunLemmas.{Made, made_of, run_keeps}
use Rattle.good_run.specs.ControlLines.{is_control}
use Rattle.good_run.specs.Good.{is_whole, waves_are_done}
use Rattle.line_laws.proofs.All.{all}
use Rattle.line_laws.proofs.Rounds.{Round, round_after, round_by, round_of}
use Rattle.wave_laws.proofs.ByKind.{allowed}
use Rattle.wave_laws.proofs.Closing.{all_done, at, was}
use Rattle.wave_laws.proofs.Current.{all_from, answered_in, stmt_any}
use Rattle.wave_laws.proofs.Effects.{Effect, ends_crash, ends_start, ends_up, leaves, moves_on, tells}
use Rattle.wave_laws.proofs.Items.{item_of, items_at, Stands, stands_joined}
use Rattle.wave_laws.proofs.Reached.{its_control}
use Rattle.wave_laws.proofs.Ruled.{closed, IsIn, Rule, rule_of}
use Rattle.wave_laws.proofs.Rules.{Holds}
use Rattle.wave_laws.proofs.Timed.{DoneBy}
use Rattle.wave_laws.proofs.Waved.{first_waved, fits_whole, step_effect, step_waved, Waved}

-- Each control line is done.
abbrev AllDone : List (List Control) → Type 0
AllDone controls = (j : ℕ) (c : Control) → IsIn c (at controls j) → c.done ≡ true

closed_all : (rule : Rule) (line : ℕ) → AllDone rule.controls → AllDone (closed rule line).controls
closed_all rule line done j c here = let w = was rule line j c here in w.keeps (done j w.old w.here)

effect_all : (script : ScriptParts) (rule now : Rule) (past es : Past) (i : ℕ) → Effect script rule now past es i → AllDone rule.controls → AllDone now.controls
effect_all script rule now past es i (leaves same wave q) done = subst AllDone (sym same) done
effect_all script rule now past es i (tells d e later first is names closes wave q1 q2 told) done = subst AllDone (sym closes) (closed_all rule d.line done)
effect_all script rule now past es i (ends_up bad later first up same wave q1 q2 told) done = subst AllDone (sym same) done
effect_all script rule now past es i (ends_start d bad later first is start down closes wave q1 q2 told) done = subst AllDone (sym closes) (closed_all rule d.line done)
effect_all script rule now past es i (ends_crash d when keep bad later first is crash up closes wave q1 q2 told) done = subst AllDone (sym closes) (closed_all rule d.line done)
effect_all script rule now past es i (moves_on all_ same wave none) done = subst AllDone (sym same) done

-- in the last wave, once its control lines are answered, all are
last_all : (script : ScriptParts) (core : Core) (past : Past) → IsWellFormed script → Holds script (rule_of core) past → core.waves.count ≡ length script.waves
    → are_answered core ≡ true → is_last core.waves ≡ true → AllDone core.waves.controls
last_all script core past fit h count answered last j c here = by (cases_lt (j + 1) core.waves.wave) (cases_lt core.waves.wave (j + 1))
  where
    first : 1 ≤ core.waves.wave
    first = h.first

    le : core.waves.count ≤ core.waves.wave
    le = leb-true core.waves.count core.waves.wave last

    none_at : (waves : List (List (ℕ × Item))) (j : ℕ) (x : ℕ × Item) → length waves ≤ j → Stands x (slice_index_or waves j []) → ⊥
    none_at [] j x le h = h
    none_at (w ∷ waves) zero x le h = omega (arith, le)
    none_at (w ∷ waves) (suc j) x le h = none_at waves j x (omega (arith, le)) h

    by : (j + 1 < core.waves.wave) ⊎ (core.waves.wave ≤ j + 1) → (core.waves.wave < j + 1) ⊎ (j + 1 ≤ core.waves.wave) → c.done ≡ true
    by (inl less) other = h.done j c here less
    by (inr low) (inl more) =
        let a = item_of script core.waves.controls j c fit h.shape here in
        absurd (none_at script.waves j (c.line, a.it) (omega (arith, more, le, count)) a.stands)
    by (inr low) (inr high) =
        let same : j ≡ core.waves.wave - 1 = omega (arith, low, high, first) in
        all_done (wave_controls core.waves) c answered (subst (λ (k : ℕ). IsIn c (at core.waves.controls k)) same here)

-- the last wave gets over where it was, or as the next one would rise
over_by : (n : Inst) (core : Core) (action : Action) → needs n core action ≡ true
    → (round_after (prepared n core action) (counted core n.plan.me action) action).over ≡ true
    → (core.waves.over ≡ true) ⊎ ((are_answered core ≡ true) × (is_last core.waves ≡ true))
unfolding prepared counted
over_by n core (Plain plain.Leave) e is = inl is
over_by n core (Plain plain.Wave) e is = by core.waves.over is (allowed n core (Plain plain.Wave) e)
  where
    by : (b : Bool) → (b || is_last core.waves) ≡ true → are_answered core ≡ true → (b ≡ true) ⊎ ((are_answered core ≡ true) × (is_last core.waves ≡ true))
    by true is answered = inl refl
    by false is answered = inr (answered, is)
over_by n core _ e is = inl is

-- What holds in each world: what the journal tells, and once the last wave is over each control line is done.
pub record Overs (script : ScriptParts) (w : World) : Type 0 where
  pub waved : Waved script w
  pub over : w.core.waves.over ≡ true → AllDone w.core.waves.controls

step_over : (script : ScriptParts) (old : World) (disk : State) (step : Step) (new : World) (disk_now : State) → IsWellFormed script
    → (made : Made old disk step new disk_now) → Overs script old → new.core.waves.over ≡ true → AllDone new.core.waves.controls
step_over script old disk step new disk_now fit made was over =
    let n = made.n in
    let core = old.core in
    let action = step.action in
    let round : round_of new.core ≡ round_after (prepared n core action) (counted core n.plan.me action) action =
    ap round_of made.moved.core ∙ round_by (prepared n core action) (counted core n.plan.me action) action made.how in
    let is : (round_after (prepared n core action) (counted core n.plan.me action) action).over ≡ true = sym (ap (λ (r : Round). r.over) round) ∙ over in
    effect_all script (rule_of core) (rule_of new.core) core.journal (step_tells n core action made.how) step.inst
    (step_effect script old disk step new disk_now fit made was.waved.commands) (by (over_by n core action made.needs is))
  where
    by : (old.core.waves.over ≡ true) ⊎ ((are_answered old.core ≡ true) × (is_last old.core.waves ≡ true)) → AllDone old.core.waves.controls
    by (inl is) = was.over is
    by (inr p) = last_all script old.core old.core.journal fit was.waved.commands.holds was.waved.commands.lines.waves p.0 p.1

pub run_overs : (script : ScriptParts) (g : Lcg) (old : World) (disk : State) (book : List Step) (h : Lcg) (new : World) (disk_now : State) → IsWellFormed script
    → IsFirstWorld script old → IsRun g old disk book h new disk_now → Overs script new
run_overs script g old disk book h new disk_now fit first run =
    run_keeps (λ (w : World) (d : State). Overs script w)
    (λ w d step v e made was. record {
      waved = step_waved script w d step v e fit (made_of w d step v e made) was.waved;
      over = step_over script w d step v e fit (made_of w d step v e made) was;
    })
    g old disk book h new disk_now run (record {
      waved = first_waved script old fit first;
      over = λ is. absurd (let no : false ≡ true = sym (ap (λ (c : Core). c.waves.over) first.core) ∙ is in cc);
    })

-- a line is done where all are answered
whole_line : (script : ScriptParts) (ever : ℕ → Bool) (rule : Rule) (past : Past) (j n : ℕ) (it : Item) → Holds script rule past → AllDone rule.controls
    → AllAnswered script past → DoneBy script ever rule.controls past → Stands (n, it) (items_at script j) → (kind : Bool) → is_control it ≡ kind
    → is_done ever past (ended_in ever script.waves past) j (n, it) ≡ true
whole_line script ever rule past j n it h all_ answered done stands true is =
    let c = its_control script rule.controls j n it h.shape stands is in
    or_right (not (is_asked it)) (is_answered ever past (ended_in ever script.waves past) j (n, it))
    (subst (λ (k : ℕ). is_answered ever past (ended_in ever script.waves past) j (k, it) ≡ true) c.2
    (done j c.0 c.1 (all_ j c.0 c.1) it (subst (λ (k : ℕ). Stands (k, it) (items_at script j)) (sym c.2) stands)))
whole_line script ever rule past j n (item.Session session inst) h all_ answered done stands false is = refl
whole_line script ever rule past j n (item.Hold reader until) h all_ answered done stands false is = refl
whole_line script ever rule past j n (item.Stmt z what) h all_ answered done stands false is =
    or_left (answers_any past n) (not (ever n) && is_ended (ended_in ever script.waves past) j (item.Stmt z what))
    (stmt_any n past (answered_in (joined script.waves) past n z what answered (stands_joined (n, item.Stmt z what) script.waves j stands)))
whole_line script ever rule past j n (item.CrashAfter inst steps keep) h all_ answered done stands false is = absurd (let no : true ≡ false = is in cc)
whole_line script ever rule past j n (item.CrashMark inst keep) h all_ answered done stands false is = absurd (let no : true ≡ false = is in cc)
whole_line script ever rule past j n (item.Start inst) h all_ answered done stands false is = absurd (let no : true ≡ false = is in cc)
whole_line script ever rule past j n (item.Remaster bucket to) h all_ answered done stands false is = absurd (let no : true ≡ false = is in cc)
whole_line script ever rule past j n (item.Checkpoint inst) h all_ answered done stands false is = absurd (let no : true ≡ false = is in cc)

whole_from : (script : ScriptParts) (past : Past) (first : ℕ) (waves : List (List (ℕ × Item)))
    → ((j : ℕ) (x : ℕ × Item) → Stands x (slice_index_or waves j [])
    → is_done (answers_any past) past (ended_in (answers_any past) script.waves past) (first + j) x ≡ true) → waves_are_done script past first waves ≡ true
whole_from script past first [] each = refl
whole_from script past first (w ∷ waves) each =
    let done = is_done (answers_any past) past (ended_in (answers_any past) script.waves past) in
    and_from (list_all (done first) w) (waves_are_done script past (first + 1) waves)
    (all_from (done first) w (λ x h. subst (λ (k : ℕ). done k x ≡ true) (zero_more first) (each 0 x h)))
    (whole_from script past (first + 1) waves (λ j x h. subst (λ (k : ℕ). done k x ≡ true) (one_more first j) (each (suc j) x h)))
  where
    zero_more : (n : ℕ) → n + 0 ≡ n
    zero_more n = omega arith

    one_more : (n j : ℕ) → n + suc j ≡ n + 1 + j
    one_more n j = omega arith

-- once the last wave is over the journal is whole
pub whole : (script : ScriptParts) (w : World) → IsWellFormed script → Overs script w → w.core.waves.over ≡ true → is_whole script w.core.journal ≡ true
whole script w fit was over =
    let past = w.core.journal in
    let ever = answers_any past in
    let told = was.waved.tells ever (fits_whole script w fit was.waved.commands) in
    whole_from script past 0 script.waves
    (λ j x stands. subst (λ (k : ℕ). is_done ever past (ended_in ever script.waves past) k x ≡ true) (from_zero j)
    (whole_line script ever (rule_of w.core) past j x.0 x.1 was.waved.commands.holds (was.over over) (all script w fit was.waved.commands.lines over)
    told.timed.done stands (is_control x.1) refl))
  where
    from_zero : (k : ℕ) → k ≡ 0 + k
    from_zero k = omega arith
