-- What holds of the control lines as a step is made.
use Rattle.std.proofs.Common.{◌≡◌, ℕ, ◌+◌, ◌-◌, ◌^◌, ◌<◌, ◌≤◌, Bool, true, false, List, [], ◌∷◌, ◌++◌, length, map, Option, Some, None, refl, sym, ap, subst, ◌∙◌}
use Rattle.std.specs.Prelude.{◌==◌, not, IsSomeAnd, IfSome}
use Rattle.std.specs.Option.{option_map_or}
use Rattle.std.proofs.lemmas.Bool.{ne_eqb, or_from}
use Rattle.inst_set.specs.Sets.{has}
use Rattle.journal.specs.declared.entry.Entry.{Entry}
use Rattle.journal.specs.declared.entry.Entry.TheVariants as entry
use Rattle.journal.specs.Past.{is_up as is_told_up, Past, up_after}
use Rattle.journal.specs.Stood.{stood}
use Rattle.script_text.specs.ScriptParts.{ScriptParts}
use Rattle.script_text.specs.Reading.{item_at}
use Rattle.script_text.specs.WellFormed.{IsWellFormed}
use Rattle.inst_state.specs.declared.control.Control.{Control}
use Rattle.inst_state.specs.declared.control.Wanted.TheVariants.{Start}
use Rattle.inst_state.specs.declared.inst.Inst.{Inst}
use Rattle.inst_state.specs.declared.inst.Life.TheVariants.{Joining}
use Rattle.inst_state.specs.State.{is_down, is_up}
use Rattle.first_state.specs.Controls.{controls_of}
use Rattle.good_run.specs.ControlLines.{asks_checkpoint, asks_for, control_line, names_line}
use Rattle.wave_laws.specs.Controls.{AreControlsAsked, IsAskedOnce, IsControlAsked}
use Rattle.wave_laws.proofs.Closing.{at, becomes, closed_shape, fresh, was, Was}
use Rattle.wave_laws.proofs.Items.{item_of, same_place, same_wanted}
use Rattle.wave_laws.proofs.Ruled.{begun_lines, Calms, closed, is_calm, IsIn, IsOf, Rule}

-- What holds of the control lines: they are the script's, those of the earlier waves are done, no entry names one that is open, and
-- each entry that names one was asked for.
pub record Holds (script : ScriptParts) (rule : Rule) (past : Past) : Type 0 where
  pub shape : map (map fresh) rule.controls ≡ controls_of script.waves
  pub first : 1 ≤ rule.wave
  pub within : rule.wave ≤ length script.waves
  pub small : rule.wave ≤ 2 ^ 32 - 1
  pub done : (j : ℕ) (c : Control) → IsIn c (at rule.controls j) → j + 1 < rule.wave → c.done ≡ true
  pub unanswered : (j : ℕ) (c : Control) → IsIn c (at rule.controls j) → c.done ≡ false → stood (names_line c.line) past ≡ false
  pub asked : AreControlsAsked script past
  pub eight : length rule.live.present ≡ 8

-- The start line is open by which an instance is on its way up.
pub record IsJoining (rule : Rule) (i line : ℕ) : Type 0 where
  pub by : Control
  pub here : IsIn by (at rule.controls (rule.wave - 1))
  pub number : by.line ≡ line
  pub wanted : by.wanted ≡ Start i
  pub open_ : by.done ≡ false

-- What holds of an instance: the journal and the membership say whether it is up or live, and its checkpoints are asked for.
pub record IsRuled (script : ScriptParts) (rule : Rule) (past : Past) (i : ℕ) (n : Inst) : Type 0 where
  pub me : n.plan.me ≡ i
  pub few : i < 8
  pub up : is_told_up i past ≡ is_up n.life
  pub live : has rule.live i ≡ not (is_down n.life)
  pub joining : (line : ℕ) → n.life ≡ Joining line → IsJoining rule i line
  pub begun : (line : ℕ) → IsOf line (begun_lines n) → IsSomeAnd (item_at script line) (λ it. asks_checkpoint it ≡ true)

-- what entries name

pub calm_names : (e : Entry) → is_calm e ≡ true → control_line e ≡ None
calm_names (entry.Crashed line inst) q = absurd (let no : false ≡ true = q in cc)
calm_names (entry.Up line inst) q = absurd (let no : false ≡ true = q in cc)
calm_names (entry.Moved line) q = absurd (let no : false ≡ true = q in cc)
calm_names (entry.Checkpointed line) q = absurd (let no : false ≡ true = q in cc)
calm_names (entry.NotDone line) q = absurd (let no : false ≡ true = q in cc)
calm_names _ q = refl

pub calm_up : (i : ℕ) (e : Entry) (before : Bool) → is_calm e ≡ true → up_after i e before ≡ before
calm_up i (entry.Crashed line inst) before q = absurd (let no : false ≡ true = q in cc)
calm_up i (entry.Up line inst) before q = absurd (let no : false ≡ true = q in cc)
calm_up i (entry.Ended inst bad) before q = absurd (let no : false ≡ true = q in cc)
calm_up i _ before q = refl

pub calms_up : (i : ℕ) (es : List Entry) (past : Past) → Calms es → is_told_up i (es ++ past) ≡ is_told_up i past
calms_up i [] past q = refl
calms_up i (e ∷ es) past q = calm_up i e (is_told_up i (es ++ past)) q.0 ∙ calms_up i es past q.1

names_none : (line : ℕ) (e : Entry) → control_line e ≡ None → names_line line e ≡ false
names_none line e is = ap (λ (o : Option ℕ). option_map_or (λ named. named == line) o false) is

names_one : (line named : ℕ) (e : Entry) → control_line e ≡ Some named → names_line line e ≡ (named == line)
names_one line named e is = ap (λ (o : Option ℕ). option_map_or (λ n. n == line) o false) is

none_asked : (script : ScriptParts) (past : Past) (e : Entry) → control_line e ≡ None → IsControlAsked script past e
none_asked script past e is = subst (λ (o : Option ℕ). IfSome o (IsAskedOnce script past e)) (sym is) tt

-- what is told

pub quiet : (script : ScriptParts) (rule : Rule) (past : Past) (e : Entry) → control_line e ≡ None → Holds script rule past → Holds script rule (e ∷ past)
quiet script rule past e is h = record {
  shape = h.shape;
  first = h.first;
  within = h.within;
  small = h.small;
  done = h.done;
  unanswered = λ j c here open_. or_from (names_line c.line e) (stood (names_line c.line) past) (names_none c.line e is) (h.unanswered j c here open_);
  asked = (none_asked script past e is, h.asked);
  eight = h.eight;
}

pub calms : (script : ScriptParts) (rule : Rule) (past : Past) (es : List Entry) → Calms es → Holds script rule past → Holds script rule (es ++ past)
calms script rule past [] q h = h
calms script rule past (e ∷ es) q h = quiet script rule (es ++ past) e (calm_names e q.0) (calms script rule past es q.1 h)

pub tell : (script : ScriptParts) (rule : Rule) (past : Past) (e : Entry) (line : ℕ) → control_line e ≡ Some line
    → IsSomeAnd (item_at script line) (λ it. asks_for e it ≡ true) → stood (names_line line) past ≡ false
    → ((j : ℕ) (c : Control) → IsIn c (at rule.controls j) → c.done ≡ false → c.line ≡ line → ⊥) → Holds script rule past → Holds script rule (e ∷ past)
tell script rule past e line is asked_ new none h = record {
  shape = h.shape;
  first = h.first;
  within = h.within;
  small = h.small;
  done = h.done;
  unanswered = λ j c here open_. or_from (names_line c.line e) (stood (names_line c.line) past)
      (names_one c.line line e is ∙ ne_eqb line c.line (λ same. none j c here open_ (sym same))) (h.unanswered j c here open_);
  asked = (subst (λ (o : Option ℕ). IfSome o (IsAskedOnce script past e)) (sym is) (record { asked = asked_; first = new }), h.asked);
  eight = h.eight;
}

-- what is closed

closed_done : (script : ScriptParts) (rule : Rule) (past : Past) (line j : ℕ) (c : Control) → Holds script rule past → Was rule line j c → j + 1 < rule.wave → c.done ≡ true
closed_done script rule past line j c h w less = w.keeps (h.done j w.old w.here less)

pub close : (script : ScriptParts) (rule : Rule) (past : Past) (line : ℕ) → Holds script rule past → Holds script (closed rule line) past
close script rule past line h = record {
  shape = closed_shape rule line ∙ h.shape;
  first = h.first;
  within = h.within;
  small = h.small;
  done = λ j c here less. closed_done script rule past line j c h (was rule line j c here) less;
  unanswered = λ j c here open_. (
      let w = was rule line j c here in
      subst (λ (n : ℕ). stood (names_line n) past ≡ false) (sym w.number) (h.unanswered j w.old w.here (w.still open_)));
  asked = h.asked;
  eight = h.eight;
}

-- once a line of the current wave is answered, no open one has its number
pub none_open : (script : ScriptParts) (rule : Rule) (past : Past) (d : Control) → IsWellFormed script → Holds script rule past
    → IsIn d (at rule.controls (rule.wave - 1)) → (j : ℕ) (c : Control) → IsIn c (at (closed rule d.line).controls j) → c.done ≡ false → c.line ≡ d.line → ⊥
none_open script rule past d fit h here j c there open_ same =
    let w = was rule d.line j c there in
    w.other open_ (same_place script j (rule.wave - 1) w.old d fit (item_of script rule.controls j w.old fit h.shape w.here)
    (item_of script rule.controls (rule.wave - 1) d fit h.shape here) (sym w.number ∙ same)) same

-- the start line of an instance stays open as another line is answered
pub still_joining : (script : ScriptParts) (rule : Rule) (past : Past) (y line : ℕ) (d : Control) → IsWellFormed script → Holds script rule past
    → IsIn d (at rule.controls (rule.wave - 1)) → (d.line ≡ line → d.wanted ≡ Start y → ⊥) → IsJoining rule y line → IsJoining (closed rule d.line) y line
still_joining script rule past y line d fit h here away it =
    let b = becomes rule d.line (rule.wave - 1) it.by it.here in
    record {
      by = b.now;
      here = b.here;
      number = b.number ∙ it.number;
      wanted = b.wanted ∙ it.wanted;
      open_ = b.open_ it.open_ (λ same. away (sym same ∙ it.number) (
          same_wanted script (rule.wave - 1) (rule.wave - 1) d it.by (item_of script rule.controls (rule.wave - 1) d fit h.shape here)
          (item_of script rule.controls (rule.wave - 1) it.by fit h.shape it.here) (sym same) ∙ it.wanted));
    }
