-- In each world of a run the journal tells the machine's wave where it answers control lines.
use Rattle.std.proofs.Common.{◌≡◌, ℕ, zero, suc, ◌+◌, ◌-◌, ◌<◌, ◌≤◌, Bool, true, false, List, [], ◌∷◌, ◌++◌, map, take, Option, None, refl, sym, ap, subst, ◌∙◌, ◌⊎◌, inl, inr, arith, append_assoc}
use Rattle.std.specs.Prelude.{◌==◌, slice_index_or}
use Rattle.std.specs.Option.{option_map_or}
use Rattle.std.proofs.Math.ListN.{get_or-map}
use Rattle.std.proofs.lemmas.Bool.{and_from, eq-eqb, ne_eqb, or_left, or_from}
use Rattle.rand_pcg.specs.Lcg.{Lcg}
use Rattle.rac_disk.specs.State.{State}
use Rattle.journal.specs.declared.entry.Entry.{Entry}
use Rattle.journal.specs.declared.entry.Entry.TheVariants as entry
use Rattle.journal.specs.Past.{Each, Past}
use Rattle.journal.specs.Stood.{stood}
use Rattle.script_text.specs.declared.item.Item.{Item}
use Rattle.script_text.specs.declared.item.Item.TheVariants as item
use Rattle.script_text.specs.ScriptParts.{ScriptParts}
use Rattle.script_text.specs.Lines.{answers_stmt, AreAnswered, IsAnswered}
use Rattle.script_text.specs.Reading.{joined}
use Rattle.script_text.specs.WellFormed.{IsWellFormed, RiseWithin}
use Rattle.inst_state.specs.declared.control.Control.{Control}
use Rattle.inst_state.specs.declared.shared.Core.{Core}
use Rattle.first_state.specs.Controls.{controls_at, controls_in, controls_of}
use Rattle.inst_node.specs.declared.actions.Step.{Step}
use Rattle.inst_node.specs.Moves.{core_after, counted, part_after, prepared}
use Rattle.world_machine.specs.declared.worlds.World.{World}
use Rattle.world_machine.specs.Runs.{IsRun}
use Rattle.cluster_run.specs.First.{IsFirstWorld}
use Rattle.run_report.specs.Ends.{answers_any}
use Rattle.run_laws.specs.Tells.{tells as step_tells}
use Rattle.run_laws.proofs.Added.{made_adds}
use Rattle.run_laws.proofs.RunLemmas.{Made, made_of, run_keeps}
use Rattle.good_run.specs.ControlLines.{control_line, is_asked_by, names_line}
use Rattle.good_run.specs.Waves.{each_passes}
use Rattle.line_laws.specs.Turns.{AreInTurn, IsInTurn}
use Rattle.line_laws.proofs.Earlier.{earlier}
use Rattle.wave_laws.proofs.ByKind.{prepared_keeps, ruled}
use Rattle.wave_laws.proofs.Closing.{at, becomes, fresh}
use Rattle.wave_laws.proofs.Commands.{Commands, counted_rule, first_commands, step_commands}
use Rattle.wave_laws.proofs.Current.{name_any, stood_grows}
use Rattle.wave_laws.proofs.Effects.{Effect, effect_of, ends_crash, ends_start, ends_up, IsHere, leaves, moves_on, tells}
use Rattle.wave_laws.proofs.Ending.{asked_now, Before, timed_crash, timed_named, timed_start, timed_up}
use Rattle.wave_laws.proofs.Items.{in_append, item_of, item_wants, items_at, rises_at, same_place, wants_some}
use Rattle.wave_laws.proofs.Reached.{not_answered}
use Rattle.wave_laws.proofs.Ruled.{Calms, closed, IsIn, Rule, rule_of}
use Rattle.wave_laws.proofs.Rules.{calm_names, calms, calms_up, Holds, IsRuled}
use Rattle.wave_laws.proofs.Steps.{own_kept}
use Rattle.wave_laws.proofs.Timed.{Fits, Timed, timed_calms}

-- a number stands once among the control lines of a wave

abbrev Rises : ℕ → List Control → Type 0
Rises before [] = Unit {0}
Rises before (c ∷ cs) = (before < c.line) × Rises c.line cs

rises_weaker : (a b : ℕ) (cs : List Control) → a ≤ b → Rises b cs → Rises a cs
rises_weaker a b [] le r = tt
rises_weaker a b (c ∷ cs) le r = let up : b < c.line = r.0 in (omega (arith, up, le), r.1)

rises_item : (before n : ℕ) (it : Item) (cs : List Control) → before < n → Rises n cs → Rises before (controls_at (n, it) ++ cs)
rises_item before n (item.Session session inst) cs up r = rises_weaker before n cs (omega (arith, up)) r
rises_item before n (item.Stmt session what) cs up r = rises_weaker before n cs (omega (arith, up)) r
rises_item before n (item.Hold reader until) cs up r = rises_weaker before n cs (omega (arith, up)) r
rises_item before n (item.CrashAfter inst steps keep) cs up r = (up, r)
rises_item before n (item.CrashMark inst keep) cs up r = (up, r)
rises_item before n (item.Start inst) cs up r = (up, r)
rises_item before n (item.Remaster bucket to) cs up r = (up, r)
rises_item before n (item.Checkpoint inst) cs up r = (up, r)

rises_items : (before most : ℕ) (items : List (ℕ × Item)) → RiseWithin before most items → Rises before (controls_in items)
rises_items before most [] r = tt
rises_items before most (x ∷ items) r = rises_item before x.0 x.1 (controls_in items) r.0 (rises_items x.0 most items r.2)

rises_fresh : (before : ℕ) (cs : List Control) → Rises before (map fresh cs) → Rises before cs
rises_fresh before [] r = tt
rises_fresh before (c ∷ cs) r = (r.0, rises_fresh c.line cs r.1)

rises_above : (before : ℕ) (cs : List Control) (c : Control) → Rises before cs → IsIn c cs → before < c.line
rises_above before [] c r h = absurd h
rises_above before (x ∷ cs) c r (inl same) = subst (λ (y : Control). before < y.line) same r.0
rises_above before (x ∷ cs) c r (inr h) = let up : before < x.line = r.0 in let more : x.line < c.line = rises_above x.line cs c r.1 h in omega (arith, up, more)

once : (before : ℕ) (cs : List Control) (c d : Control) → Rises before cs → IsIn c cs → IsIn d cs → c.line ≡ d.line → c ≡ d
once before [] c d r h k same = absurd h
once before (x ∷ cs) c d r (inl a) (inl b) same = sym a ∙ b
once before (x ∷ cs) c d r (inl a) (inr k) same =
    absurd (let up : x.line < d.line = rises_above x.line cs d r.1 k in let is : x.line ≡ c.line = ap (λ (y : Control). y.line) a in omega (arith, up, is, same))
once before (x ∷ cs) c d r (inr h) (inl b) same =
    absurd (let up : x.line < c.line = rises_above x.line cs c r.1 h in let is : x.line ≡ d.line = ap (λ (y : Control). y.line) b in omega (arith, up, is, same))
once before (x ∷ cs) c d r (inr h) (inr k) same = once x.line cs c d r.1 h k same

pub control_once : (script : ScriptParts) (controls : List (List Control)) (j : ℕ) (c d : Control) → IsWellFormed script
    → map (map fresh) controls ≡ controls_of script.waves → IsIn c (at controls j) → IsIn d (at controls j) → c.line ≡ d.line → c ≡ d
control_once script controls j c d fit shape h k same =
    let is : map fresh (at controls j) ≡ controls_in (items_at script j) =
    sym (get_or-map (map fresh) controls j []) ∙ ap (λ (xs : List (List Control)). slice_index_or xs j []) shape ∙ get_or-map controls_in script.waves j [] in
    let rises = rises_at 0 script.lines script.waves j fit.lines_rise in
    once rises.0 (at controls j) c d
    (rises_fresh rises.0 (at controls j) (subst (λ (xs : List Control). Rises rises.0 xs) (sym is) (rises_items rises.0 script.lines (items_at script j) rises.1))) h k same

-- what entries name

names_none : (n : ℕ) (e : Entry) → control_line e ≡ None → names_line n e ≡ false
names_none n e is = ap (λ (o : Option ℕ). option_map_or (λ named. named == n) o false) is

calms_named : (n : ℕ) (es past : Past) → Calms es → stood (names_line n) past ≡ false → stood (names_line n) (es ++ past) ≡ false
calms_named n [] past q none = none
calms_named n (e ∷ es) past q none =
    or_from (names_line n e) (stood (names_line n) (es ++ past)) (names_none n e (calm_names e q.0)) (calms_named n es past q.1 none)

one_named : (n : ℕ) (later first past : Past) (e : Entry) → Calms later → Calms first → names_line n e ≡ false → stood (names_line n) past ≡ false
    → stood (names_line n) (later ++ (e ∷ first ++ past)) ≡ false
one_named n later first past e q1 q2 not_by none =
    calms_named n later (e ∷ first ++ past) q1 (or_from (names_line n e) (stood (names_line n) (first ++ past)) not_by (calms_named n first past q2 none))

split : (es later first past : Past) (e : Entry) → es ≡ later ++ e ∷ first → es ++ past ≡ later ++ (e ∷ first ++ past)
split es later first past e is = ap (λ (l : Past). l ++ past) is ∙ append_assoc later (e ∷ first) past

-- what fits later fits earlier

fits_by : (script : ScriptParts) (ever : ℕ → Bool) (rule now : Rule) (past es : Past) → Fits ever now.controls (es ++ past)
    → ((j : ℕ) (c : Control) → IsIn c (at rule.controls j) → c.done ≡ true → stood (names_line c.line) past ≡ false
    → (d : Control) × IsIn d (at now.controls j) × (d.done ≡ true) × (d.line ≡ c.line) × (stood (names_line c.line) (es ++ past) ≡ false))
    → Fits ever rule.controls past
fits_by script ever rule now past es fits later = record {
  told = λ line is. fits.told line (stood_grows (names_line line) es past is);
  ended = λ j c here done none. (
      let d = later j c here done none in
      subst (λ (n : ℕ). ever n ≡ false) d.3
      (fits.ended j d.0 d.1 d.2 (subst (λ (n : ℕ). stood (names_line n) (es ++ past) ≡ false) (sym d.3) d.4)));
}

fits_same : (script : ScriptParts) (ever : ℕ → Bool) (rule now : Rule) (past es : Past) → now.controls ≡ rule.controls → Calms es
    → Fits ever now.controls (es ++ past) → Fits ever rule.controls past
fits_same script ever rule now past es is q fits =
    fits_by script ever rule now past es fits
    (λ j c here done none. (c, subst (λ (x : List (List Control)). IsIn c (at x j)) (sym is) here, done, refl, calms_named c.line es past q none))

fits_end : (script : ScriptParts) (ever : ℕ → Bool) (rule now : Rule) (past es later first : Past) (i : ℕ) (bad : Bool) → now.controls ≡ rule.controls
    → Calms later → Calms first → es ≡ later ++ entry.Ended i bad ∷ first → Fits ever now.controls (es ++ past) → Fits ever rule.controls past
fits_end script ever rule now past es later first i bad is q1 q2 told fits =
    fits_by script ever rule now past es fits
    (λ j c here done none. (
      c,
      subst (λ (x : List (List Control)). IsIn c (at x j)) (sym is) here,
      done,
      refl,
      subst (λ (p : Past). stood (names_line c.line) p ≡ false) (sym (split es later first past (entry.Ended i bad) told))
          (one_named c.line later first past (entry.Ended i bad) q1 q2 refl none),
    ))

fits_closed : (script : ScriptParts) (ever : ℕ → Bool) (rule now : Rule) (past es later first : Past) (d : Control) (e : Entry)
    → now.controls ≡ (closed rule d.line).controls → Calms later → Calms first → es ≡ later ++ e ∷ first
    → ((j : ℕ) (c : Control) → IsIn c (at rule.controls j) → c.done ≡ true → names_line c.line e ≡ false)
    → Fits ever now.controls (es ++ past) → Fits ever rule.controls past
fits_closed script ever rule now past es later first d e is q1 q2 told apart fits =
    fits_by script ever rule now past es fits
    (λ j c here done none. (
    let b = becomes rule d.line j c here in (
      b.now,
      subst (λ (x : List (List Control)). IsIn b.now (at x j)) (sym is) b.here,
      b.keeps done,
      b.number,
      subst (λ (p : Past). stood (names_line c.line) p ≡ false) (sym (split es later first past e told))
          (one_named c.line later first past e q1 q2 (apart j c here done) none),
    )))

-- a line that is done isn't the open one
other_line : (script : ScriptParts) (rule : Rule) (past : Past) (d : Control) (j : ℕ) (c : Control) → IsWellFormed script → Holds script rule past → IsHere rule d
    → IsIn c (at rule.controls j) → c.done ≡ true → c.line ≡ d.line → ⊥
other_line script rule past d j c fit h is here done same =
    let k = rule.wave - 1 in
    let place = same_place script j k c d fit (item_of script rule.controls j c fit h.shape here) (item_of script rule.controls k d fit h.shape is.here) same in
    let one = control_once script rule.controls k c d fit h.shape (subst (λ (q : ℕ). IsIn c (at rule.controls q)) place here) is.here same in
    let no : true ≡ false = sym done ∙ ap (λ (x : Control). x.done) one ∙ is.open_ in cc

-- tests of the entries

-- whether an entry that names a control line is asked for
abbrev pub asks : (ℕ → Bool) → ScriptParts → Past → Entry → Bool
asks ever script past e = option_map_or (is_asked_by ever script past e) (control_line e) true

asks_none : (ever : ℕ → Bool) (script : ScriptParts) (past : Past) (e : Entry) → control_line e ≡ None → asks ever script past e ≡ true
asks_none ever script past e is = ap (λ (o : Option ℕ). option_map_or (is_asked_by ever script past e) o true) is

passes_calm : (ever : ℕ → Bool) (script : ScriptParts) (es past : Past) → Calms es → each_passes (asks ever script) past ≡ true
    → each_passes (asks ever script) (es ++ past) ≡ true
passes_calm ever script [] past q is = is
passes_calm ever script (e ∷ es) past q is =
    and_from (asks ever script (es ++ past) e) (each_passes (asks ever script) (es ++ past)) (asks_none ever script (es ++ past) e (calm_names e q.0))
    (passes_calm ever script es past q.1 is)

-- What the journal tells: the machine's waves, and that control lines are asked for.
pub record Tells (script : ScriptParts) (ever : ℕ → Bool) (controls : List (List Control)) (wave : ℕ) (past : Past) : Type 0 where
  pub timed : Timed script ever controls wave past
  pub asked : each_passes (asks ever script) past ≡ true

each_later : (P : Past → Entry → Type 0) (es past : Past) → Each P (es ++ past) → Each P past
each_later P [] past all = all
each_later P (e ∷ es) past all = each_later P es past all.1

pub answered_later : (items : List (ℕ × Item)) (es past : Past) → AreAnswered items past → AreAnswered items (es ++ past)
answered_later [] es past all = tt
answered_later (x ∷ items) es past all = (one x.0 x.1 all.0, answered_later items es past all.1)
  where
    one : (n : ℕ) (it : Item) → IsAnswered n it past → IsAnswered n it (es ++ past)
    one n (item.Stmt session what) is = stood_grows (answers_stmt n) es past is
    one n (item.Session session inst) is = tt
    one n (item.Hold reader until) is = tt
    one n (item.CrashAfter inst steps keep) is = tt
    one n (item.CrashMark inst keep) is = tt
    one n (item.Start inst) is = tt
    one n (item.Remaster bucket to) is = tt
    one n (item.Checkpoint inst) is = tt

-- so it is before the entry that tells of a control line or of an end
before_entry : (script : ScriptParts) (ever : ℕ → Bool) (rule : Rule) (past es later first : Past) (e : Entry) → Calms first → es ≡ later ++ e ∷ first
    → Holds script rule past → AreAnswered (joined (take (rule.wave - 1) script.waves)) past → AreInTurn script (es ++ past)
    → Timed script ever rule.controls rule.wave past → Before script ever rule (first ++ past)
before_entry script ever rule past es later first e q told h answered turns t = record {
  holds = calms script rule past first q h;
  timed = timed_calms script ever rule.controls rule.wave past first q t;
  answered = answered_later (joined (take (rule.wave - 1) script.waves)) first past answered;
  turns = (each_later (IsInTurn script) later (e ∷ first ++ past) (subst (λ (p : Past). AreInTurn script p) (split es later first past e told) turns)).1;
}

-- and so it is behind it
tells_on : (script : ScriptParts) (ever : ℕ → Bool) (controls : List (List Control)) (rule now : Rule) (past es later first : Past) (e : Entry)
    → now.controls ≡ controls → now.wave ≡ rule.wave → Calms later → Calms first → es ≡ later ++ e ∷ first
    → Timed script ever controls rule.wave (e ∷ first ++ past) → asks ever script (first ++ past) e ≡ true → each_passes (asks ever script) past ≡ true
    → Tells script ever now.controls now.wave (es ++ past)
tells_on script ever controls rule now past es later first e is wave q1 q2 told t asked passes =
    subst (λ (p : Past). Tells script ever now.controls now.wave p) (sym (split es later first past e told))
    (subst (λ (x : List (List Control)). Tells script ever x now.wave (later ++ (e ∷ first ++ past))) (sym is)
    (subst (λ (k : ℕ). Tells script ever controls k (later ++ (e ∷ first ++ past))) (sym wave) (record {
      timed = timed_calms script ever controls rule.wave (e ∷ first ++ past) later q1 t;
      asked = passes_calm ever script later (e ∷ first ++ past) q1
          (and_from (asks ever script (first ++ past) e) (each_passes (asks ever script) (first ++ past)) asked (passes_calm ever script first past q2 passes));
    })))

-- a line that an end answered has no entry
never : (script : ScriptParts) (ever : ℕ → Bool) (rule now : Rule) (past es later first : Past) (i : ℕ) (bad : Bool) (d : Control) → IsHere rule d → Holds script rule past
    → now.controls ≡ (closed rule d.line).controls → Calms later → Calms first → es ≡ later ++ entry.Ended i bad ∷ first → Fits ever now.controls (es ++ past)
    → ever d.line ≡ false
never script ever rule now past es later first i bad d is h closes q1 q2 told fits =
    let b = becomes rule d.line (rule.wave - 1) d is.here in
    subst (λ (n : ℕ). ever n ≡ false) b.number
    (fits.ended (rule.wave - 1) b.now (subst (λ (x : List (List Control)). IsIn b.now (at x (rule.wave - 1))) (sym closes) b.here) (b.done refl refl)
    (subst (λ (n : ℕ). stood (names_line n) (es ++ past) ≡ false) (sym b.number)
    (subst (λ (p : Past). stood (names_line d.line) p ≡ false) (sym (split es later first past (entry.Ended i bad) told))
    (one_named d.line later first past (entry.Ended i bad) q1 q2 refl (h.unanswered (rule.wave - 1) d is.here is.open_)))))

-- what a step leaves of it
pub effect_tells : (script : ScriptParts) (ever : ℕ → Bool) (rule now : Rule) (past es : Past) (i : ℕ) → IsWellFormed script → Effect script rule now past es i
    → Holds script rule past → AreAnswered (joined (take (rule.wave - 1) script.waves)) past → AreInTurn script (es ++ past) → Fits ever now.controls (es ++ past)
    → (Fits ever rule.controls past → Tells script ever rule.controls rule.wave past) → Tells script ever now.controls now.wave (es ++ past)
effect_tells script ever rule now past es i fit (leaves same wave q) h answered turns fits was =
    let t = was (fits_same script ever rule now past es same q fits) in
    subst (λ (x : List (List Control)). Tells script ever x now.wave (es ++ past)) (sym same)
    (subst (λ (k : ℕ). Tells script ever rule.controls k (es ++ past)) (sym wave) (record {
      timed = timed_calms script ever rule.controls rule.wave past es q t.timed;
      asked = passes_calm ever script es past q t.asked;
    }))
effect_tells script ever rule now past es i fit (tells d e later first is names closes wave q1 q2 told) h answered turns fits was =
    let apart : (j : ℕ) (c : Control) → IsIn c (at rule.controls j) → c.done ≡ true → names_line c.line e ≡ false =
    λ j c here done. ap (λ (o : Option ℕ). option_map_or (λ n. n == c.line) o false) names.names
    ∙ ne_eqb d.line c.line (λ same. other_line script rule past d j c fit h is here done (sym same)) in
    let t = was (fits_closed script ever rule now past es later first d e closes q1 q2 told apart fits) in
    let b = before_entry script ever rule past es later first e q2 told h answered turns t.timed in
    let here : names_line d.line e ≡ true = ap (λ (o : Option ℕ). option_map_or (λ n. n == d.line) o false) names.names ∙ eq-eqb d.line d.line refl in
    let ever_ : ever d.line ≡ true =
    fits.told d.line (subst (λ (p : Past). stood (names_line d.line) p ≡ true) (sym (split es later first past e told))
    (stood_grows (names_line d.line) later (e ∷ first ++ past) (or_left (names_line d.line e) (stood (names_line d.line) (first ++ past)) here))) in
    tells_on script ever (closed rule d.line).controls rule now past es later first e closes wave q1 q2 told
    (timed_named script ever rule (first ++ past) d e fit b is names ever_)
    (ap (λ (o : Option ℕ). option_map_or (is_asked_by ever script (first ++ past) e) o true) names.names ∙ asked_now script ever rule (first ++ past) d e fit b is names ever_)
    t.asked
effect_tells script ever rule now past es i fit (ends_up bad later first up same wave q1 q2 told) h answered turns fits was =
    let t = was (fits_end script ever rule now past es later first i bad same q1 q2 told fits) in
    let b = before_entry script ever rule past es later first (entry.Ended i bad) q2 told h answered turns t.timed in
    tells_on script ever rule.controls rule now past es later first (entry.Ended i bad) same wave q1 q2 told
    (timed_up script ever rule (first ++ past) i bad (calms_up i first past q2 ∙ up) b) refl t.asked
effect_tells script ever rule now past es i fit (ends_start d bad later first is start down closes wave q1 q2 told) h answered turns fits was =
    let t = was (fits_closed script ever rule now past es later first d (entry.Ended i bad) closes q1 q2 told (λ j c here done. refl) fits) in
    let b = before_entry script ever rule past es later first (entry.Ended i bad) q2 told h answered turns t.timed in
    tells_on script ever (closed rule d.line).controls rule now past es later first (entry.Ended i bad) closes wave q1 q2 told
    (timed_start script ever rule (first ++ past) i bad d fit b is start (calms_up i first past q2 ∙ down)
    (never script ever rule now past es later first i bad d is h closes q1 q2 told fits)) refl t.asked
effect_tells script ever rule now past es i fit (ends_crash d when keep bad later first is crash up closes wave q1 q2 told) h answered turns fits was =
    let t = was (fits_closed script ever rule now past es later first d (entry.Ended i bad) closes q1 q2 told (λ j c here done. refl) fits) in
    let b = before_entry script ever rule past es later first (entry.Ended i bad) q2 told h answered turns t.timed in
    tells_on script ever (closed rule d.line).controls rule now past es later first (entry.Ended i bad) closes wave q1 q2 told
    (timed_crash script ever rule (first ++ past) i bad d when keep fit b is crash (calms_up i first past q2 ∙ up)
    (never script ever rule now past es later first i bad d is h closes q1 q2 told fits)) refl t.asked
effect_tells script ever rule now past es i fit (moves_on all same wave none) h answered turns fits was =
    let q : Calms es = subst (λ (l : Past). Calms l) (sym none) tt in
    let t = was (fits_same script ever rule now past es same q fits) in
    subst (λ (l : Past). Tells script ever now.controls now.wave (l ++ past)) (sym none)
    (subst (λ (x : List (List Control)). Tells script ever x now.wave past) (sym same) (record {
      timed = moved t.timed wave;
      asked = t.asked;
    }))
  where
    moved : Timed script ever rule.controls rule.wave past → (now.wave ≡ rule.wave) ⊎ (now.wave ≡ rule.wave + 1) → Timed script ever rule.controls now.wave past
    moved t (inl is) = subst (λ (k : ℕ). Timed script ever rule.controls k past) (sym is) t
    moved t (inr is) = record {
      done = t.done;
      up = λ y j up le ended. t.up y j up (omega (arith, le, is)) ended;
      down = λ y j le ended. absurd (let p : j + 1 ≡ rule.wave = (t.down y j (omega (arith, le, is)) ended).0 in omega (arith, p, le, is));
    }

-- what fits the journal after a step fits it before
pub effect_fits : (script : ScriptParts) (ever : ℕ → Bool) (rule now : Rule) (past es : Past) (i : ℕ) → IsWellFormed script → Effect script rule now past es i
    → Holds script rule past → Fits ever now.controls (es ++ past) → Fits ever rule.controls past
effect_fits script ever rule now past es i fit (leaves same wave q) h fits = fits_same script ever rule now past es same q fits
effect_fits script ever rule now past es i fit (tells d e later first is names closes wave q1 q2 told) h fits =
    fits_closed script ever rule now past es later first d e closes q1 q2 told
    (λ j c here done. ap (λ (o : Option ℕ). option_map_or (λ n. n == c.line) o false) names.names
    ∙ ne_eqb d.line c.line (λ same. other_line script rule past d j c fit h is here done (sym same))) fits
effect_fits script ever rule now past es i fit (ends_up bad later first up same wave q1 q2 told) h fits =
    fits_end script ever rule now past es later first i bad same q1 q2 told fits
effect_fits script ever rule now past es i fit (ends_start d bad later first is start down closes wave q1 q2 told) h fits =
    fits_closed script ever rule now past es later first d (entry.Ended i bad) closes q1 q2 told (λ j c here done. refl) fits
effect_fits script ever rule now past es i fit (ends_crash d when keep bad later first is crash up closes wave q1 q2 told) h fits =
    fits_closed script ever rule now past es later first d (entry.Ended i bad) closes q1 q2 told (λ j c here done. refl) fits
effect_fits script ever rule now past es i fit (moves_on all same wave none) h fits =
    fits_same script ever rule now past es same (subst (λ (l : Past). Calms l) (sym none) tt) fits

-- What holds in each world: of the control lines, and of what the journal tells, whatever is told later.
pub record Waved (script : ScriptParts) (w : World) : Type 0 where
  pub commands : Commands script w
  pub tells : (ever : ℕ → Bool) → Fits ever w.core.waves.controls w.core.journal → Tells script ever w.core.waves.controls w.core.waves.wave w.core.journal

first_tells : (script : ScriptParts) (ever : ℕ → Bool) (controls : List (List Control)) → ((j : ℕ) (c : Control) → IsIn c (at controls j) → c.done ≡ false) → (wave : ℕ)
    → Tells script ever controls wave []
first_tells script ever controls none wave = record {
  timed = record {
    done = λ j c here done it stands. absurd (let no : true ≡ false = sym done ∙ none j c here in cc);
    up = λ i j up le ended. absurd (let no : false ≡ true = ended in cc);
    down = λ i j le ended. absurd (let no : false ≡ true = ended in cc);
  };
  asked = refl;
}

first_open : (x : ℕ × Item) (c : Control) → IsIn c (controls_at x) → c.done ≡ false
first_open (n, item.CrashAfter inst steps keep) c (inl same) = ap (λ (y : Control). y.done) (sym same)
first_open (n, item.CrashMark inst keep) c (inl same) = ap (λ (y : Control). y.done) (sym same)
first_open (n, item.Start inst) c (inl same) = ap (λ (y : Control). y.done) (sym same)
first_open (n, item.Remaster bucket to) c (inl same) = ap (λ (y : Control). y.done) (sym same)
first_open (n, item.Checkpoint inst) c (inl same) = ap (λ (y : Control). y.done) (sym same)
first_open (n, item.CrashAfter inst steps keep) c (inr h) = absurd h
first_open (n, item.CrashMark inst keep) c (inr h) = absurd h
first_open (n, item.Start inst) c (inr h) = absurd h
first_open (n, item.Remaster bucket to) c (inr h) = absurd h
first_open (n, item.Checkpoint inst) c (inr h) = absurd h
first_open (n, item.Session session inst) c h = absurd h
first_open (n, item.Stmt session what) c h = absurd h
first_open (n, item.Hold reader until) c h = absurd h

open_in : (items : List (ℕ × Item)) (c : Control) → IsIn c (controls_in items) → c.done ≡ false
open_in [] c h = absurd h
open_in (x ∷ items) c h = by (in_append c (controls_at x) (controls_in items) h) (open_in items c)
  where
    by : IsIn c (controls_at x) ⊎ IsIn c (controls_in items) → (IsIn c (controls_in items) → c.done ≡ false) → c.done ≡ false
    by (inl a) later = first_open x c a
    by (inr b) later = later b

open_at : (waves : List (List (ℕ × Item))) (j : ℕ) (c : Control) → IsIn c (at (controls_of waves) j) → c.done ≡ false
open_at [] j c h = absurd h
open_at (w ∷ waves) zero c h = open_in w c h
open_at (w ∷ waves) (suc j) c h = open_at waves j c h

pub first_waved : (script : ScriptParts) (w : World) → IsWellFormed script → IsFirstWorld script w → Waved script w
first_waved script w fit first = record {
  commands = first_commands script w fit first;
  tells = λ ever fits. subst (λ (c : Core). Tells script ever c.waves.controls c.waves.wave c.journal) (sym first.core)
      (first_tells script ever (controls_of script.waves) (open_at script.waves) 1);
}

-- what a step does with the control lines
pub step_effect : (script : ScriptParts) (old : World) (disk : State) (step : Step) (new : World) (disk_now : State) → IsWellFormed script
    → (made : Made old disk step new disk_now) → Commands script old
    → Effect script (rule_of old.core) (rule_of new.core) old.core.journal (step_tells made.n old.core step.action made.how) step.inst
step_effect script old disk step new disk_now fit made was =
    let n = made.n in
    let i = step.inst in
    let core = old.core in
    let action = step.action in
    let k = prepared n core action in
    let core1 = counted core n.plan.me action in
    let m = part_after n core action made.how in
    let now = core_after n core action made.how in
    let es = step_tells n core action made.how in
    let same = counted_rule core n.plan.me action in
    let effect = effect_of script k m core1 now core.journal es i fit (ruled n core action made.how made.needs)
    (subst (λ (r : Rule). Holds script r core.journal) (sym same) was.holds)
    (subst (λ (r : Rule). IsRuled script r core.journal i k) (sym same)
    (own_kept script (rule_of core) core.journal i n k (prepared_keeps n core action) (was.insts i n made.at))) in
    subst (λ (c : Core). Effect script (rule_of core) (rule_of c) core.journal es i) (sym made.moved.core)
    (subst (λ (r : Rule). Effect script r (rule_of now) core.journal es i) same effect)

pub step_waved : (script : ScriptParts) (old : World) (disk : State) (step : Step) (new : World) (disk_now : State) → IsWellFormed script
    → Made old disk step new disk_now → Waved script old → Waved script new
step_waved script old disk step new disk_now fit made was =
    let commands = step_commands script old disk step new disk_now fit made was.commands in
    let es = step_tells made.n old.core step.action made.how in
    let told : new.core.journal ≡ es ++ old.core.journal = made_adds old disk step new disk_now made in
    record {
      commands = commands;
      tells = λ ever fits. subst (λ (j : Past). Tells script ever new.core.waves.controls new.core.waves.wave j) (sym told)
          (effect_tells script ever (rule_of old.core) (rule_of new.core) old.core.journal es step.inst fit
          (step_effect script old disk step new disk_now fit made was.commands) was.commands.holds
          (earlier script old fit was.commands.lines)
          (subst (λ (j : Past). AreInTurn script j) told commands.lines.turns)
          (subst (λ (j : Past). Fits ever new.core.waves.controls j) told fits) (was.tells ever));
    }

-- what the journal tells in each world of a run
pub run_waved : (script : ScriptParts) (g : Lcg) (old : World) (disk : State) (book : List Step) (h : Lcg) (new : World) (disk_now : State) → IsWellFormed script
    → IsFirstWorld script old → IsRun g old disk book h new disk_now → Waved script new
run_waved script g old disk book h new disk_now fit first run =
    run_keeps (λ (w : World) (d : State). Waved script w)
    (λ w d step v e made was. step_waved script w d step v e fit (made_of w d step v e made) was)
    g old disk book h new disk_now run (first_waved script old fit first)

-- the whole journal fits
pub fits_whole : (script : ScriptParts) (w : World) → IsWellFormed script → Commands script w → Fits (answers_any w.core.journal) w.core.waves.controls w.core.journal
fits_whole script w fit was = record {
  told = λ line is. name_any line w.core.journal is;
  ended = λ j c here done none. (
      let a = item_of script w.core.waves.controls j c fit was.holds.shape here in
      not_answered script w.core.journal c.line a.it was.lines.turns a.in_script (wants_some a.it c.wanted (item_wants script j c a)) none);
}

-- each control line is answered in its wave
pub asked_in_waves : (script : ScriptParts) (w : World) → IsWellFormed script → Waved script w
    → each_passes (asks (answers_any w.core.journal) script) w.core.journal ≡ true
asked_in_waves script w fit was = (was.tells (answers_any w.core.journal) (fits_whole script w fit was.commands)).asked
