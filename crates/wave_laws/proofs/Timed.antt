-- The wave that a journal tells at each place of a run.
use Rattle.std.proofs.Common.{◌≡◌, ℕ, ◌+◌, ◌≤◌, Bool, true, false, List, [], ◌∷◌, ◌++◌, refl, sym, ap, ◌∙◌, inl, inr}
use Rattle.journal.specs.declared.entry.Entry.{Entry}
use Rattle.journal.specs.Past.{is_up as is_told_up, Past}
use Rattle.journal.specs.Stood.{stood}
use Rattle.script_text.specs.declared.item.Item.{Item}
use Rattle.script_text.specs.declared.item.Item.TheVariants as item
use Rattle.script_text.specs.ScriptParts.{ScriptParts}
use Rattle.inst_state.specs.declared.control.Control.{Control}
use Rattle.inst_state.specs.declared.control.Wanted.TheVariants.{Start}
use Rattle.first_state.specs.Controls.{controls_at, controls_in}
use Rattle.run_report.specs.Ends.{ended_in, ends, is_answered}
use Rattle.good_run.specs.ControlLines.{is_control, names_line}
use Rattle.wave_laws.proofs.Closing.{at}
use Rattle.wave_laws.proofs.Current.{answered_grows, calm_ends, ended_same}
use Rattle.wave_laws.proofs.Items.{items_at, Stands}
use Rattle.wave_laws.proofs.Ruled.{Calms, IsIn}
use Rattle.wave_laws.proofs.Rules.{calms_up}

-- Each control line that is done is answered, by an entry or by an end.
abbrev pub DoneBy : ScriptParts → (ℕ → Bool) → List (List Control) → Past → Type 0
DoneBy script ever controls past =
    (j : ℕ) (c : Control) → IsIn c (at controls j) → c.done ≡ true → (it : Item) → Stands (c.line, it) (items_at script j)
    → is_answered ever past (ended_in ever script.waves past) j (c.line, it) ≡ true

-- Ends stand in the waves in which the machine has them: an instance that is up ended before in a wave from the current one on only
-- where that starts it, and one that ended on its way up has its start lines of the wave done.
pub record Timed (script : ScriptParts) (ever : ℕ → Bool) (controls : List (List Control)) (wave : ℕ) (past : Past) : Type 0 where
  pub done : DoneBy script ever controls past
  pub up : (i j : ℕ) → is_told_up i past ≡ true → wave ≤ j + 1 → ended_in ever script.waves past j false i ≡ true
      → (n : ℕ) × Stands (n, item.Start i) (items_at script j)
  pub down : (i j : ℕ) → wave ≤ j + 1 → ended_in ever script.waves past j true i ≡ true
      → (j + 1 ≡ wave) × ((c : Control) → IsIn c (at controls j) → c.wanted ≡ Start i → c.done ≡ true)

-- What some entry of the whole journal has: the numbers that were told, and those that never are as an end answered them.
pub record Fits (ever : ℕ → Bool) (controls : List (List Control)) (past : Past) : Type 0 where
  pub told : (line : ℕ) → stood (names_line line) past ≡ true → ever line ≡ true
  pub ended : (j : ℕ) (c : Control) → IsIn c (at controls j) → c.done ≡ true → stood (names_line c.line) past ≡ false → ever c.line ≡ false

-- entries that end nothing

timed_add : (script : ScriptParts) (ever : ℕ → Bool) (controls : List (List Control)) (wave : ℕ) (past : Past) (e : Entry) → ((i : ℕ) → ends e i ≡ false)
    → ((i : ℕ) → is_told_up i (e ∷ past) ≡ true → is_told_up i past ≡ true) → Timed script ever controls wave past → Timed script ever controls wave (e ∷ past)
timed_add script ever controls wave past e none up t = record {
  done = λ j c here is it stands. answered_grows ever script.waves (e ∷ []) past j c.line it (t.done j c here is it stands);
  up = λ i j was le is. t.up i j (up i was) le (sym (ended_same ever script.waves e past j false i (none i)) ∙ is);
  down = λ i j le is. t.down i j le (sym (ended_same ever script.waves e past j true i (none i)) ∙ is);
}

pub timed_calms : (script : ScriptParts) (ever : ℕ → Bool) (controls : List (List Control)) (wave : ℕ) (past es : Past) → Calms es
    → Timed script ever controls wave past → Timed script ever controls wave (es ++ past)
timed_calms script ever controls wave past [] q t = t
timed_calms script ever controls wave past (e ∷ es) q t =
    timed_add script ever controls wave (es ++ past) e (λ i. calm_ends e i q.0)
    (λ i is. calms_up i es past q.1 ∙ sym (calms_up i (e ∷ es) past q) ∙ is) (timed_calms script ever controls wave past es q.1 t)

-- which items stand in a wave

pub control_of : (cs : List Control) (items : List (ℕ × Item)) (n : ℕ) (it : Item) → Stands (n, it) items → is_control it ≡ true
    → ((c : Control) → IsIn c (controls_in items) → IsIn c cs) → (c : Control) × IsIn c cs × (c.line ≡ n)
control_of cs [] n it h is all = absurd h
control_of cs (x ∷ items) n it (inl same) is all =
    let one = first_of x.0 x.1 (ap (λ (y : ℕ × Item). is_control y.1) same ∙ is) in
    (one.0, all one.0 (in_left one.0 (controls_at x) (controls_in items) one.1), one.2 ∙ ap (λ (y : ℕ × Item). y.0) same)
  where
    in_left : (c : Control) (xs ys : List Control) → IsIn c xs → IsIn c (xs ++ ys)
    in_left c [] ys h = absurd h
    in_left c (x ∷ xs) ys (inl same) = inl same
    in_left c (x ∷ xs) ys (inr h) = inr (in_left c xs ys h)

    first_of : (n : ℕ) (it : Item) → is_control it ≡ true → (c : Control) × IsIn c (controls_at (n, it)) × (c.line ≡ n)
    first_of n (item.Session session inst) is = absurd (let no : false ≡ true = is in cc)
    first_of n (item.Stmt session what) is = absurd (let no : false ≡ true = is in cc)
    first_of n (item.Hold reader until) is = absurd (let no : false ≡ true = is in cc)
    first_of n (item.CrashAfter inst steps keep) is = (_, inl refl, refl)
    first_of n (item.CrashMark inst keep) is = (_, inl refl, refl)
    first_of n (item.Start inst) is = (_, inl refl, refl)
    first_of n (item.Remaster bucket to) is = (_, inl refl, refl)
    first_of n (item.Checkpoint inst) is = (_, inl refl, refl)
control_of cs (x ∷ items) n it (inr h) is all = control_of cs items n it h is (λ c here. all c (in_right c (controls_at x) (controls_in items) here))
  where
    in_right : (c : Control) (xs ys : List Control) → IsIn c ys → IsIn c (xs ++ ys)
    in_right c [] ys h = h
    in_right c (x ∷ xs) ys h = inr (in_right c xs ys h)
