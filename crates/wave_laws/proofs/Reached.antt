-- The wave that a journal tells is the current one, or a later one.
use Rattle.std.proofs.Common.{◌≡◌, ℕ, ◌+◌, ◌-◌, ◌<◌, ◌≤◌, Bool, true, false, List, [], ◌∷◌, length, map, take, Option, Some, refl, sym, ap, subst, ◌∙◌, ◌⊎◌, inl, inr, arith}
use Rattle.std.specs.Prelude.{◌==◌, ◌&&◌, not, IsSomeAnd, slice_index_or}
use Rattle.std.specs.List.{list_all}
use Rattle.std.specs.Option.{option_and_then}
use Rattle.std.proofs.Math.ListN.{get_or-map}
use Rattle.std.proofs.lemmas.Bool.{and_left, and_right, ne_eqb, or_left, or_right, or_from, or_parts, false_from_ne_true}
use Rattle.journal.specs.declared.entry.Entry.{Entry}
use Rattle.journal.specs.Past.{Past}
use Rattle.journal.specs.Stood.{stood}
use Rattle.script_text.specs.declared.item.Item.{Item}
use Rattle.script_text.specs.declared.item.Item.TheVariants as item
use Rattle.script_text.specs.declared.item.Stmt.{Stmt}
use Rattle.script_text.specs.ScriptParts.{ScriptParts}
use Rattle.script_text.specs.Lines.{answered, AreAnswered, stmt_at, stmt_in}
use Rattle.script_text.specs.Reading.{item_at, joined}
use Rattle.inst_state.specs.declared.control.Control.{Control}
use Rattle.first_state.specs.Controls.{controls_in, controls_of}
use Rattle.run_report.specs.Answers.{answers}
use Rattle.run_report.specs.Ends.{answers_any, ended_in, is_answered, is_asked, is_done, is_ended}
use Rattle.good_run.specs.ControlLines.{is_control, names_line}
use Rattle.good_run.specs.Waves.{wave_at}
use Rattle.line_laws.specs.Turns.{AreInTurn, IsAnsweredInTurn, IsInTurn}
use Rattle.wave_laws.proofs.Closing.{at, fresh, in_map}
use Rattle.wave_laws.proofs.Current.{all_from, answered_in, at_least, at_most, either_answer, stands_taken, stmt_any}
use Rattle.wave_laws.proofs.Items.{items_at, Stands}
use Rattle.wave_laws.proofs.Ruled.{IsIn, Rule}
use Rattle.wave_laws.proofs.Rules.{Holds}
use Rattle.wave_laws.proofs.Timed.{control_of, DoneBy}

-- each control line of the script is one of the machine's
pub its_control : (script : ScriptParts) (controls : List (List Control)) (j n : ℕ) (it : Item) → map (map fresh) controls ≡ controls_of script.waves
    → Stands (n, it) (items_at script j) → is_control it ≡ true → (c : Control) × IsIn c (at controls j) × (c.line ≡ n)
its_control script controls j n it shape stands is =
    let same : map fresh (at controls j) ≡ controls_in (items_at script j) =
    sym (get_or-map (map fresh) controls j []) ∙ ap (λ (xs : List (List Control)). slice_index_or xs j []) shape ∙ get_or-map controls_in script.waves j [] in
    let one = control_of (map fresh (at controls j)) (items_at script j) n it stands is (λ c here. subst (λ (xs : List Control). IsIn c xs) (sym same) here) in
    let old = in_map fresh (at controls j) one.0 one.1 in
    (old.0, old.1, ap (λ (c : Control). c.line) old.2 ∙ one.2)

-- a line of an earlier wave is done
line_is_done : (script : ScriptParts) (ever : ℕ → Bool) (rule : Rule) (past then_ : Past) (j n : ℕ) (it : Item) → Holds script rule then_
    → AreAnswered (joined (take (rule.wave - 1) script.waves)) past → DoneBy script ever rule.controls past → j < rule.wave - 1
    → Stands (n, it) (items_at script j) → (kind : Bool) → is_control it ≡ kind → is_done ever past (ended_in ever script.waves past) j (n, it) ≡ true
line_is_done script ever rule past then_ j n it h all done less stands true is =
    let c = its_control script rule.controls j n it h.shape stands is in
    or_right (not (is_asked it)) (is_answered ever past (ended_in ever script.waves past) j (n, it))
    (subst (λ (k : ℕ). is_answered ever past (ended_in ever script.waves past) j (k, it) ≡ true) c.2
    (done j c.0 c.1 (h.done j c.0 c.1 (omega (arith, less))) it (subst (λ (k : ℕ). Stands (k, it) (items_at script j)) (sym c.2) stands)))
line_is_done script ever rule past then_ j n (item.Session session inst) h all done less stands false is = refl
line_is_done script ever rule past then_ j n (item.Hold reader until) h all done less stands false is = refl
line_is_done script ever rule past then_ j n (item.Stmt z what) h all done less stands false is =
    or_left (answers_any past n) (not (ever n) && is_ended (ended_in ever script.waves past) j (item.Stmt z what))
    (stmt_any n past (answered_in (joined (take (rule.wave - 1) script.waves)) past n z what all (stands_taken (n, item.Stmt z what) script.waves j (rule.wave - 1) stands less)))
line_is_done script ever rule past then_ j n (item.CrashAfter inst steps keep) h all done less stands false is = absurd (let no : true ≡ false = is in cc)
line_is_done script ever rule past then_ j n (item.CrashMark inst keep) h all done less stands false is = absurd (let no : true ≡ false = is in cc)
line_is_done script ever rule past then_ j n (item.Start inst) h all done less stands false is = absurd (let no : true ≡ false = is in cc)
line_is_done script ever rule past then_ j n (item.Remaster bucket to) h all done less stands false is = absurd (let no : true ≡ false = is in cc)
line_is_done script ever rule past then_ j n (item.Checkpoint inst) h all done less stands false is = absurd (let no : true ≡ false = is in cc)

from_zero : (k : ℕ) → k ≡ 0 + k
from_zero k = omega arith

-- the wave that a journal tells is the machine's at least
pub reached : (script : ScriptParts) (ever : ℕ → Bool) (rule : Rule) (past then_ : Past) → Holds script rule then_
    → AreAnswered (joined (take (rule.wave - 1) script.waves)) past → DoneBy script ever rule.controls past → rule.wave - 1 ≤ wave_at ever script past
reached script ever rule past then_ h all done =
    subst (λ (k : ℕ). k ≤ wave_at ever script past) (sym (from_zero (rule.wave - 1)))
    (at_least (is_done ever past (ended_in ever script.waves past)) 0 script.waves (rule.wave - 1)
    (let first : 1 ≤ rule.wave = h.first in let within : rule.wave ≤ length script.waves = h.within in omega (arith, first, within))
    (λ j less. subst (λ (k : ℕ). list_all (is_done ever past (ended_in ever script.waves past) k) (items_at script j) ≡ true) (from_zero j)
    (all_from (is_done ever past (ended_in ever script.waves past) j) (items_at script j)
    (λ x stands. line_is_done script ever rule past then_ j x.0 x.1 h all done less stands (is_control x.1) refl))))

-- no entry has the number of a control line that none names

stmt_no_control : (script : ScriptParts) (n : ℕ) (it : Item) (P : ℕ × Stmt → Type 0) → item_at script n ≡ Some it → is_control it ≡ true
    → IsSomeAnd (stmt_at script n) P → ⊥
stmt_no_control script n it P is control some = by it (subst (λ (o : Option Item). IsSomeAnd (option_and_then stmt_in o) P) is some) control
  where
    by : (it : Item) → IsSomeAnd (stmt_in it) P → is_control it ≡ true → ⊥
    by (item.Stmt z what) some control = let no : false ≡ true = control in cc
    by (item.Session session inst) some control = let no : false ≡ true = control in cc
    by (item.Hold reader until) some control = let no : false ≡ true = control in cc
    by (item.CrashAfter inst steps keep) some control = absurd some
    by (item.CrashMark inst keep) some control = absurd some
    by (item.Start inst) some control = absurd some
    by (item.Remaster bucket to) some control = absurd some
    by (item.Checkpoint inst) some control = absurd some

entry_free : (script : ScriptParts) (past : Past) (e : Entry) (n : ℕ) (it : Item) → item_at script n ≡ Some it → is_control it ≡ true → IsInTurn script past e
    → names_line n e ≡ false → answers n e ≡ true → ⊥
entry_free script past e n it is control turn none answer = by (either_answer n e answer)
  where
    by : (names_line n e ≡ true) ⊎ (answered e ≡ Some n) → ⊥
    by (inl named) = let no : true ≡ false = sym named ∙ none in cc
    by (inr of) = stmt_no_control script n it _ is control (subst (λ (o : Option ℕ). IsAnsweredInTurn script past e o) of turn.0)

pub not_answered : (script : ScriptParts) (past : Past) (n : ℕ) (it : Item) → AreInTurn script past → item_at script n ≡ Some it → is_control it ≡ true
    → stood (names_line n) past ≡ false → answers_any past n ≡ false
not_answered script [] n it turns is control none = refl
not_answered script (e ∷ past) n it turns is control none =
    let parts = or_parts (names_line n e) (stood (names_line n) past) none in
    or_from (answers n e) (answers_any past n)
    (false_from_ne_true (answers n e) (entry_free script past e n it is control turns.0 parts.0))
    (not_answered script past n it turns.1 is control parts.1)

-- a line that isn't done keeps its wave

pub awaited : (ever : ℕ → Bool) (past : Past) (ended : ℕ → Bool → ℕ → Bool) (j n : ℕ) (it : Item) → is_control it ≡ true → answers_any past n ≡ false
    → (ever n ≡ true) ⊎ (is_ended ended j it ≡ false) → is_done ever past ended j (n, it) ≡ false
awaited ever past ended j n it control none (inl told) =
    or_from (not (is_asked it)) (is_answered ever past ended j (n, it)) (asked it control)
    (or_from (answers_any past n) (not (ever n) && is_ended ended j it) none (and_left (not (ever n)) (is_ended ended j it) (ap not told)))
  where
    asked : (it : Item) → is_control it ≡ true → not (is_asked it) ≡ false
    asked (item.Session session inst) is = absurd (let no : false ≡ true = is in cc)
    asked (item.Hold reader until) is = absurd (let no : false ≡ true = is in cc)
    asked _ is = refl
awaited ever past ended j n it control none (inr not_ended) =
    or_from (not (is_asked it)) (is_answered ever past ended j (n, it)) (asked it control)
    (or_from (answers_any past n) (not (ever n) && is_ended ended j it) none (and_right (not (ever n)) (is_ended ended j it) not_ended))
  where
    asked : (it : Item) → is_control it ≡ true → not (is_asked it) ≡ false
    asked (item.Session session inst) is = absurd (let no : false ≡ true = is in cc)
    asked (item.Hold reader until) is = absurd (let no : false ≡ true = is in cc)
    asked _ is = refl

pub not_past : (script : ScriptParts) (ever : ℕ → Bool) (past : Past) (k n : ℕ) (it : Item) → Stands (n, it) (items_at script k)
    → is_done ever past (ended_in ever script.waves past) k (n, it) ≡ false → wave_at ever script past ≤ k
not_past script ever past k n it stands none =
    subst (λ (q : ℕ). wave_at ever script past ≤ q) (sym (from_zero k))
    (at_most (is_done ever past (ended_in ever script.waves past)) 0 script.waves k (n, it) stands
    (subst (λ (q : ℕ). is_done ever past (ended_in ever script.waves past) q (n, it) ≡ false) (from_zero k) none))

-- before a line is answered by its number, no instance ended in a later wave
pub none_later : (script : ScriptParts) (ever : ℕ → Bool) (past : Past) (k n : ℕ) (it : Item) → Stands (n, it) (items_at script k) → is_control it ≡ true
    → answers_any past n ≡ false → ever n ≡ true → (j : ℕ) (down : Bool) (i : ℕ) → k < j → ended_in ever script.waves past j down i ≡ false
none_later script ever [] k n it stands control none told j down i less = refl
none_later script ever (e ∷ past) k n it stands control none told j down i less =
    let parts = or_parts (answers n e) (answers_any past n) none in
    let le : wave_at ever script past ≤ k =
    not_past script ever past k n it stands (awaited ever past (ended_in ever script.waves past) k n it control parts.1 (inl told)) in
    or_from (ended_in ever script.waves past j down i) _ (none_later script ever past k n it stands control parts.1 told j down i less)
    (and_right _ (wave_at ever script past == j) (ne_eqb (wave_at ever script past) j (λ same. omega (arith, same, le, less))))
