-- What a step tells of control lines, and what it answers of them.
use Rattle.std.proofs.Common.{◌≡◌, ℕ, zero, suc, ◌+◌, ◌-◌, ◌^◌, ◌≤◌, min, Bool, true, false, List, [], ◌∷◌, ◌++◌, Some, if◌then◌else◌, refl, sym, ap, subst, ◌∙◌, ◌⊎◌, inl, inr, arith}
use Rattle.std.specs.Prelude.{◌==◌, not, IsSomeAnd, slice_index_or}
use Rattle.std.specs.List.{AllByRecursion, list_any}
use Rattle.std.proofs.lemmas.Bool.{cases_eq, eq-eqb, eqb-true, or_left, or_right}
use Rattle.inst_set.specs.Sets.{has}
use Rattle.journal.specs.declared.entry.Entry.{Entry}
use Rattle.journal.specs.declared.entry.Entry.TheVariants as entry
use Rattle.journal.specs.Past.{is_up as is_told_up, Past, up_after}
use Rattle.script_text.specs.declared.item.Item.{Item}
use Rattle.script_text.specs.declared.item.Item.TheVariants as item
use Rattle.script_text.specs.ScriptParts.{ScriptParts}
use Rattle.script_text.specs.Clashes.{clashes}
use Rattle.script_text.specs.Reading.{item_at}
use Rattle.script_text.specs.WellFormed.{AreApart, IsWellFormed}
use Rattle.inst_state.specs.declared.control.Control.{Control}
use Rattle.inst_state.specs.declared.control.When.{When}
use Rattle.script_text.specs.declared.item.Keep.{Keep}
use Rattle.inst_state.specs.declared.control.Wanted.TheVariants.{Crash, Start}
use Rattle.inst_state.specs.declared.inst.Inst.{Inst}
use Rattle.inst_state.specs.declared.inst.Life.{Life}
use Rattle.inst_state.specs.declared.inst.Life.TheVariants.{Down, Joining, Up}
use Rattle.inst_state.specs.declared.shared.Core.{Core}
use Rattle.inst_state.specs.Shared.{wave_controls}
use Rattle.inst_state.specs.State.{is_down, is_up}
use Rattle.wave_steps.specs.WaveEnd.{is_last, next_wave}
use Rattle.good_run.specs.ControlLines.{asks_crash, asks_for, control_line}
use Rattle.wave_laws.proofs.Closing.{all_done, at}
use Rattle.wave_laws.proofs.Items.{IsItem, item_of, item_wants, items_at, Stands, wants_crash, wants_start}
use Rattle.wave_laws.proofs.Losing.{due_wanted}
use Rattle.wave_laws.proofs.Ruled.{answers, Calms, closed, comes, crashes, cuts, enters, fails, IsIn, IsOpen, loses, Loses, rests, rises, Rule, rule_of, Ruled, start_closed, stays_out, turns}
use Rattle.wave_laws.proofs.Rules.{Holds, IsRuled}
use Rattle.wave_laws.proofs.Steps.{asked_at, told_by}

-- items that can't stand in one wave

any_of : (x y : ℕ × Item) (items : List (ℕ × Item)) → Stands y items → clashes x.1 y.1 ≡ true → list_any (λ later. clashes x.1 later.1) items ≡ true
any_of x y [] h e = absurd h
any_of x y (z ∷ items) (inl same) e =
    or_left (clashes x.1 z.1) (list_any (λ later. clashes x.1 later.1) items) (ap (λ (w : ℕ × Item). clashes x.1 w.1) same ∙ e)
any_of x y (z ∷ items) (inr h) e = or_right (clashes x.1 z.1) (list_any (λ later. clashes x.1 later.1) items) (any_of x y items h e)

one_item : (x y : ℕ × Item) (items : List (ℕ × Item)) → AreApart items → Stands x items → Stands y items → clashes x.1 y.1 ≡ true → clashes y.1 x.1 ≡ true → x ≡ y
one_item x y [] apart h k e f = absurd h
one_item x y (z ∷ items) apart (inl a) (inl b) e f = sym a ∙ b
one_item x y (z ∷ items) apart (inl a) (inr k) e f =
    absurd (let no : true ≡ false = sym (any_of x y items k e) ∙ subst (λ (w : ℕ × Item). list_any (λ later. clashes w.1 later.1) items ≡ false) a apart.0 in cc)
one_item x y (z ∷ items) apart (inr h) (inl b) e f =
    absurd (let no : true ≡ false = sym (any_of y x items h f) ∙ subst (λ (w : ℕ × Item). list_any (λ later. clashes w.1 later.1) items ≡ false) b apart.0 in cc)
one_item x y (z ∷ items) apart (inr h) (inr k) e f = one_item x y items apart.1 h k e f

apart_at : (waves : List (List (ℕ × Item))) (j : ℕ) → AllByRecursion AreApart waves → AreApart (slice_index_or waves j [])
apart_at [] j all = tt
apart_at (w ∷ waves) zero all = all.0
apart_at (w ∷ waves) (suc j) all = apart_at waves j all.1

crash_clashes : (it : Item) (i : ℕ) → asks_crash i it ≡ true → (clashes (item.Start i) it ≡ true) × (clashes it (item.Start i) ≡ true)
crash_clashes (item.CrashAfter inst steps keep) i e = (e, eq-eqb inst i (sym (eqb-true i inst e)))
crash_clashes (item.CrashMark inst keep) i e = (e, eq-eqb inst i (sym (eqb-true i inst e)))
crash_clashes (item.Start inst) i e = absurd (let no : false ≡ true = e in cc)
crash_clashes (item.Remaster bucket to) i e = absurd (let no : false ≡ true = e in cc)
crash_clashes (item.Checkpoint inst) i e = absurd (let no : false ≡ true = e in cc)
crash_clashes (item.Session session inst) i e = absurd (let no : false ≡ true = e in cc)
crash_clashes (item.Stmt session what) i e = absurd (let no : false ≡ true = e in cc)
crash_clashes (item.Hold reader until) i e = absurd (let no : false ≡ true = e in cc)

-- no wave both crashes and starts an instance
pub crash_no_start : (script : ScriptParts) (j n s i : ℕ) (it : Item) → IsWellFormed script → Stands (n, it) (items_at script j) → asks_crash i it ≡ true
    → Stands (s, item.Start i) (items_at script j) → ⊥
crash_no_start script j n s i it fit stands crash starts =
    let c = crash_clashes it i crash in
    let same = one_item (n, it) (s, item.Start i) (items_at script j) (apart_at script.waves j fit.items_apart) stands starts c.1 c.0 in
    let no : false ≡ true = ap (λ (x : ℕ × Item). asks_crash i x.1) (sym same) ∙ crash in cc

-- one line of a wave starts an instance
pub start_once : (script : ScriptParts) (j n s i : ℕ) → IsWellFormed script → Stands (n, item.Start i) (items_at script j) → Stands (s, item.Start i) (items_at script j) → n ≡ s
start_once script j n s i fit a b =
    ap (λ (x : ℕ × Item). x.0) (one_item (n, item.Start i) (s, item.Start i) (items_at script j) (apart_at script.waves j fit.items_apart) a b (eq-eqb i i refl) (eq-eqb i i refl))

-- a control line that starts an instance, as an item
pub start_stands : (script : ScriptParts) (j i : ℕ) (c : Control) → IsItem script j c → c.wanted ≡ Start i → Stands (c.line, item.Start i) (items_at script j)
start_stands script j i c a start =
    subst (λ (it : Item). Stands (c.line, it) (items_at script j)) (wants_start a.it i (item_wants script j c a ∙ ap Some start)) a.stands

-- A control line of the current wave is open.
pub record IsHere (rule : Rule) (d : Control) : Type 0 where
  pub here : IsIn d (at rule.controls (rule.wave - 1))
  pub open_ : d.done ≡ false

-- An entry names a control line that asks for it, and only where that starts an instance it is up by it.
pub record Names (script : ScriptParts) (d : Control) (e : Entry) : Type 0 where
  pub names : control_line e ≡ Some d.line
  pub asked : IsSomeAnd (item_at script d.line) (λ it. asks_for e it ≡ true)
  pub up : (y : ℕ) (before : Bool) → up_after y e before ≡ true → (before ≡ true) ⊎ (d.wanted ≡ Start y)

-- What a step of an instance does with the control lines: nothing; it answers one by an entry; its instance ends, which answers none, or
-- the start line by which it was on its way up, or the line by which it was to crash; or the next wave rises.
pub data Effect (script : ScriptParts) (rule now : Rule) (past : Past) (es : List Entry) (i : ℕ) : Type 0 where
  leaves : now.controls ≡ rule.controls → now.wave ≡ rule.wave → Calms es → Effect script rule now past es i
  tells : (d : Control) (e : Entry) (later first : List Entry) → IsHere rule d → Names script d e → now.controls ≡ (closed rule d.line).controls
      → now.wave ≡ rule.wave → Calms later → Calms first → es ≡ later ++ e ∷ first → Effect script rule now past es i
  ends_up : (bad : Bool) (later first : List Entry) → is_told_up i past ≡ true → now.controls ≡ rule.controls
      → now.wave ≡ rule.wave → Calms later → Calms first → es ≡ later ++ entry.Ended i bad ∷ first → Effect script rule now past es i
  ends_start : (d : Control) (bad : Bool) (later first : List Entry) → IsHere rule d → d.wanted ≡ Start i → is_told_up i past ≡ false
      → now.controls ≡ (closed rule d.line).controls → now.wave ≡ rule.wave → Calms later → Calms first → es ≡ later ++ entry.Ended i bad ∷ first
      → Effect script rule now past es i
  ends_crash : (d : Control) (when : When) (keep : Keep) (bad : Bool) (later first : List Entry) → IsHere rule d → d.wanted ≡ Crash i when keep
      → is_told_up i past ≡ true → now.controls ≡ (closed rule d.line).controls → now.wave ≡ rule.wave → Calms later → Calms first
      → es ≡ later ++ entry.Ended i bad ∷ first → Effect script rule now past es i
  moves_on : ((c : Control) → IsIn c (at rule.controls (rule.wave - 1)) → c.done ≡ true) → now.controls ≡ rule.controls
      → (now.wave ≡ rule.wave) ⊎ (now.wave ≡ rule.wave + 1) → es ≡ [] → Effect script rule now past es i

same_end : (es later first : List Entry) (me i : ℕ) (bad : Bool) (e : Entry) → es ≡ later ++ e ∷ first → e ≡ entry.Ended me bad → me ≡ i
    → es ≡ later ++ entry.Ended i bad ∷ first
same_end es later first me i bad e told is mine =
    told ∙ ap (λ (x : Entry). later ++ x ∷ first) (is ∙ ap (λ (k : ℕ). entry.Ended k bad) mine)

-- an instance that is live, and how its end answers a start line
by_life : (script : ScriptParts) (core : Core) (now : Rule) (past es later first : List Entry) (e : Entry) (n : Inst) (i : ℕ) (bad : Bool) (life : Life)
    → n.life ≡ life → is_down life ≡ false → now.controls ≡ (start_closed life (rule_of core)).controls
    → now.wave ≡ core.waves.wave → Calms later → Calms first → es ≡ later ++ entry.Ended i bad ∷ first
    → IsRuled script (rule_of core) past i n → Effect script (rule_of core) now past es i
by_life script core now past es later first e n i bad Up was live controls wave q1 q2 told own =
    ends_up bad later first (own.up ∙ ap is_up was) controls wave q1 q2 told
by_life script core now past es later first e n i bad Down was live controls wave q1 q2 told own = absurd (let no : true ≡ false = live in cc)
by_life script core now past es later first e n i bad (Joining line) was live controls wave q1 q2 told own =
    let j = own.joining line was in
    ends_start j.by bad later first (record { here = j.here; open_ = j.open_ }) j.wanted (own.up ∙ ap is_up was)
    (controls ∙ ap (λ (k : ℕ). (closed (rule_of core) k).controls) (sym j.number)) wave q1 q2 told

not_false : (b : Bool) → not b ≡ true → b ≡ false
not_false true e = absurd (let no : false ≡ true = e in cc)
not_false false e = refl

cut_life : (script : ScriptParts) (core : Core) (now : Rule) (past es later first : List Entry) (n : Inst) (i : ℕ) (c : Control) (bad : Bool) (when : When) (keep : Keep) (life : Life)
    → IsWellFormed script → n.life ≡ life → is_down life ≡ false → IsOpen core c → c.wanted ≡ Crash i when keep
    → now.controls ≡ (start_closed life (closed (rule_of core) c.line)).controls
    → now.wave ≡ core.waves.wave → Calms later → Calms first → es ≡ later ++ entry.Ended i bad ∷ first → Holds script (rule_of core) past
    → IsRuled script (rule_of core) past i n → Effect script (rule_of core) now past es i
cut_life script core now past es later first n i c bad when keep Up fit was live is wanted controls wave q1 q2 told h own =
    ends_crash c when keep bad later first (record { here = is.here; open_ = is.open_ }) wanted (own.up ∙ ap is_up was) controls wave q1 q2 told
cut_life script core now past es later first n i c bad when keep Down fit was live is wanted controls wave q1 q2 told h own = absurd (let no : true ≡ false = live in cc)
cut_life script core now past es later first n i c bad when keep (Joining line) fit was live is wanted controls wave q1 q2 told h own =
    let j = own.joining line was in
    let k = core.waves.wave - 1 in
    let a = item_of script core.waves.controls k c fit h.shape is.here in
    let b = item_of script core.waves.controls k j.by fit h.shape j.here in
    absurd (crash_no_start script k c.line j.by.line i a.it fit a.stands (wants_crash a.it i when keep (item_wants script k c a ∙ ap Some wanted))
    (start_stands script k i j.by b j.wanted))

crash_mine : (me i : ℕ) (when : When) (keep : Keep) (c : Control) → c.wanted ≡ Crash me when keep → me ≡ i → c.wanted ≡ Crash i when keep
crash_mine me i when keep c is mine = is ∙ ap (λ (k : ℕ). Crash k when keep) mine

effect_loses : (script : ScriptParts) (n : Inst) (core : Core) (now : Rule) (past es later first : List Entry) (e : Entry) (i : ℕ) → IsWellFormed script
    → now.wave ≡ core.waves.wave → Loses n core now.controls e → Calms later → Calms first → es ≡ later ++ e ∷ first
    → Holds script (rule_of core) past → IsRuled script (rule_of core) past i n → Effect script (rule_of core) now past es i
effect_loses script n core now past es later first e i fit wave (crashes c is due controls told) q1 q2 split h own =
    let k = core.waves.wave - 1 in
    let a = item_of script core.waves.controls k c fit h.shape is.here in
    let e1 = entry.Crashed c.line n.plan.me in
    tells c e1 later first (record { here = is.here; open_ = is.open_ }) (record {
      names = refl;
      asked = asked_at script c.line a.it (λ it. asks_for e1 it ≡ true) a.in_script
          (wants_crash a.it n.plan.me due.wants.0 due.wants.1 (item_wants script k c a ∙ ap Some (due_wanted script core past n.plan.me c fit h is due)));
      up = λ y before up. crash_up y n.plan.me before up;
    }) controls wave q1 q2 (split ∙ ap (λ (x : Entry). later ++ x ∷ first) told)
  where
    crash_by : (b before : Bool) → (if b then false else before) ≡ true → before ≡ true
    crash_by true before up = absurd (let no : false ≡ true = up in cc)
    crash_by false before up = up

    crash_up : (y me : ℕ) (before : Bool) → up_after y (entry.Crashed c.line me) before ≡ true → (before ≡ true) ⊎ (c.wanted ≡ Start y)
    crash_up y me before up = inl (crash_by (y == me) before up)
effect_loses script n core now past es later first e i fit wave (cuts c bad is due controls told) q1 q2 split h own =
    cut_life script core now past es later first n i c bad due.wants.0 due.wants.1 n.life fit refl
    (not_false (is_down n.life) (sym own.live ∙ ap (λ (k : ℕ). has core.members.live k) (sym own.me) ∙ due.live)) is
    (crash_mine n.plan.me i due.wants.0 due.wants.1 c (due_wanted script core past n.plan.me c fit h is due) own.me)
    controls wave q1 q2 (same_end es later first n.plan.me i bad e split told own.me) h own
effect_loses script n core now past es later first e i fit wave (fails bad live controls told) q1 q2 split h own =
    by_life script core now past es later first e n i bad n.life refl
    (not_false (is_down n.life) (sym own.live ∙ ap (λ (k : ℕ). has core.members.live k) (sym own.me) ∙ live))
    controls wave q1 q2 (same_end es later first n.plan.me i bad e split told own.me) own
effect_loses script n core now past es later first e i fit wave (stays_out c bad is start live controls told) q1 q2 split h own =
    ends_start c bad later first (record { here = is.here; open_ = is.open_ }) (start ∙ ap Start own.me)
    (own.up ∙ down_up n.life (sym own.live ∙ ap (λ (k : ℕ). has core.members.live k) (sym own.me) ∙ live))
    controls wave q1 q2 (same_end es later first n.plan.me i bad e split told own.me)
  where
    down_up : (life : Life) → not (is_down life) ≡ false → is_up life ≡ false
    down_up Down e = refl
    down_up Up e = absurd (let no : true ≡ false = e in cc)
    down_up (Joining line) e = refl

next_is : (wave : ℕ) (last : Bool) → wave ≤ 2 ^ 32 - 1 → ((if last then wave else min (wave + 1) (2 ^ 32 - 1)) ≡ wave) ⊎ ((if last then wave else min (wave + 1) (2 ^ 32 - 1)) ≡ wave + 1)
next_is wave true small = inl refl
next_is wave false small = by (cases_eq wave (2 ^ 32 - 1))
  where
    by : (wave ≡ 2 ^ 32 - 1) ⊎ (wave ≡ 2 ^ 32 - 1 → ⊥) → (min (wave + 1) (2 ^ 32 - 1) ≡ wave) ⊎ (min (wave + 1) (2 ^ 32 - 1) ≡ wave + 1)
    by (inl same) = inl (omega (arith, same))
    by (inr apart) = inr (omega (arith, small, apart))

joining_up : (y me line : ℕ) (before : Bool) (d : Control) → d.wanted ≡ Start me → (b : Bool) → (y == me) ≡ b → (if b then true else before) ≡ true
    → (before ≡ true) ⊎ (d.wanted ≡ Start y)
joining_up y me line before d start true is up = inr (start ∙ ap Start (sym (eqb-true y me is)))
joining_up y me line before d start false is up = inl up

-- what a step does with the control lines
pub effect_of : (script : ScriptParts) (n m : Inst) (core now : Core) (past es : List Entry) (i : ℕ) → IsWellFormed script → Ruled n core m now es
    → Holds script (rule_of core) past → IsRuled script (rule_of core) past i n → Effect script (rule_of core) (rule_of now) past es i
effect_of script n m core now past es i fit (rests same rule q) h own = leaves (ap (λ (r : Rule). r.controls) rule) (ap (λ (r : Rule). r.wave) rule) q
effect_of script n m core now past es i fit (enters entered_ life begins rule q) h own = leaves (ap (λ (r : Rule). r.controls) rule) (ap (λ (r : Rule). r.wave) rule) q
effect_of script n m core now past es i fit (comes entered_ c is start live life lines waves lives none) h own =
    leaves (λ t. (waves t).controls) (λ t. (waves t).wave) (subst (λ (l : List Entry). Calms l) (sym none) tt)
effect_of script n m core now past es i fit (rises entered_ line was life lines rule told) h own =
    let j = own.joining line was in
    let a = item_of script core.waves.controls (core.waves.wave - 1) j.by fit h.shape j.here in
    let it : a.it ≡ item.Start i = wants_start a.it i (item_wants script (core.waves.wave - 1) j.by a ∙ ap Some j.wanted) in
    let e1 = entry.Up j.by.line i in
    tells j.by e1 [] [] (record { here = j.here; open_ = j.open_ }) (record {
      names = refl;
      asked = asked_at script j.by.line a.it (λ it. asks_for e1 it ≡ true) a.in_script (ap (λ (x : Item). asks_for e1 x) it ∙ eq-eqb i i refl);
      up = λ y before up. joining_up y i j.by.line before j.by j.wanted (y == i) refl up;
    }) (ap (λ (r : Rule). r.controls) rule ∙ ap (λ (k : ℕ). (closed (rule_of core) k).controls) (sym j.number)) (ap (λ (r : Rule). r.wave) rule) tt tt
    (told ∙ (λ t. entry.Up (sym j.number t) (own.me t) ∷ []))
effect_of script n m core now past es i fit (answers entered_ c e is life lines rule how_ told) h own =
    let a = item_of script core.waves.controls (core.waves.wave - 1) c fit h.shape is.here in
    let t = told_by script n core past i c e a own how_ in
    tells c e [] [] (record { here = is.here; open_ = is.open_ }) (record {
      names = t.names;
      asked = t.asked;
      up = λ y before up. inl (sym (t.up y before) ∙ up);
    }) (ap (λ (r : Rule). r.controls) rule) (ap (λ (r : Rule). r.wave) rule) tt tt told
effect_of script n m core now past es i fit (loses entered_ e later first life lines how_ wave live q1 q2 told) h own =
    effect_loses script n core (rule_of now) past es later first e i fit wave how_ q1 q2 told h own
effect_of script n m core now past es i fit (turns same all waves live none) h own =
    moves_on (λ c here. all_done (wave_controls core.waves) c all here) (λ t. (waves t).controls)
    (next_to (λ t. (waves t).wave) (next_is core.waves.wave (is_last core.waves) h.small)) none
  where
    next_to : now.waves.wave ≡ (next_wave core.waves).wave → ((next_wave core.waves).wave ≡ core.waves.wave) ⊎ ((next_wave core.waves).wave ≡ core.waves.wave + 1)
        → (now.waves.wave ≡ core.waves.wave) ⊎ (now.waves.wave ≡ core.waves.wave + 1)
    next_to is (inl a) = inl (is ∙ a)
    next_to is (inr b) = inr (is ∙ b)
