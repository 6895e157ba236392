-- A script has at most ten thousand lines, so a run tells of no more changes.
use Rattle.std.proofs.Common.{◌≡◌, ℕ, zero, suc, ◌+◌, ◌<◌, ◌≤◌, Bool, true, false, List, [], ◌∷◌, filter, length, Option, Some, None, if◌then◌else◌, refl, sym, ap, subst, ◌∙◌, ◌⊎◌, inl, inr, arith}
use Rattle.std.specs.Prelude.{◌==◌, cond, IsSomeAnd}
use Rattle.std.specs.List.{count_by}
use Rattle.std.specs.Option.{option_and_then, option_map_or}
use Rattle.std.proofs.Math.Nat.{le_trans}
use Rattle.std.proofs.lemmas.Bool.{cases_eq, eq-eqb, eqb-true}
use Rattle.std.proofs.lemmas.List.Sums.{length-filter}
use Rattle.std.proofs.lemmas.Option.{none-some}
use Rattle.undo_image.specs.Header.{HeaderContent, slot_at}
use Rattle.journal.specs.declared.entry.Entry.{Entry}
use Rattle.journal.specs.declared.entry.Entry.TheVariants as entry
use Rattle.journal.specs.Past.{Past}
use Rattle.script_text.specs.declared.item.Item.{Item}
use Rattle.script_text.specs.declared.item.Stmt.{Stmt}
use Rattle.script_text.specs.ScriptParts.{ScriptParts}
use Rattle.script_text.specs.GoodLines.{IsStarted}
use Rattle.script_text.specs.Lines.{answered, answers_stmt, stmt_in}
use Rattle.script_text.specs.Lines.{stmt_at as script_stmt}
use Rattle.script_text.specs.Reading.{item_in, items_of}
use Rattle.script_text.specs.WellFormed.{IsWellFormed, RiseWithin}
use Rattle.line_laws.specs.Turns.{AreAnsweredOnce, AreInTurn, IsAnsweredInTurn, IsInTurn, IsNext}
use Rattle.line_laws.proofs.Once.{once}
use Rattle.end_laws.proofs.Calmly.{HasWraps, Wraps, changes_told, weight}

item_low : (before most : ℕ) (items : List (ℕ × Item)) (m : ℕ) (found : Item) → RiseWithin before most items → item_in items m ≡ Some found → m ≤ most
item_low before most [] m found rises e = absurd (none-some found e)
item_low before most (x ∷ items) m found rises e = by (x.0 == m) refl (item_low x.0 most items m found rises.2)
  where
    by : (b : Bool) → (x.0 == m) ≡ b → (item_in items m ≡ Some found → m ≤ most) → m ≤ most
    by true is later = let same : x.0 ≡ m = eqb-true x.0 m is in let le : x.0 ≤ most = rises.1 in omega (arith, same, le)
    by false is later = later (sym (ap (λ (b : Bool). if b then Some x.1 else item_in items m) is) ∙ e)

-- a line of a script is one of ten thousand
line_low : (script : ScriptParts) (m : ℕ) (o : Option Item) (stmt : ℕ × Stmt) → IsWellFormed script → item_in (items_of script) m ≡ o → option_and_then stmt_in o ≡ Some stmt
    → m ≤ 10000
line_low script m None stmt fit is e = absurd (none-some stmt e)
line_low script m (Some found) stmt fit is e =
    let le : m ≤ script.lines = item_low 0 script.lines (items_of script) m found fit.lines_rise is in
    let few : script.lines ≤ 10000 = fit.lines_fit in omega (arith, le, few)

line_of : (script : ScriptParts) (m : ℕ) (o : Option (ℕ × Stmt)) (P : ℕ × Stmt → Type 0) → IsWellFormed script → script_stmt script m ≡ o → IsSomeAnd o P → m ≤ 10000
line_of script m None P fit is some = absurd some
line_of script m (Some stmt) P fit is some = line_low script m (item_in (items_of script) m) stmt fit refl is

-- how many answers a journal tells of the lines below a number
abbrev answers_below : ℕ → Past → ℕ
answers_below zero past = 0
answers_below (suc k) past = length (filter (answers_stmt k) past) + answers_below k past

few_answers : (past : Past) → AreAnsweredOnce past → (k : ℕ) → answers_below k past ≤ k
few_answers past ones zero = omega arith
few_answers past ones (suc k) =
    let is : length (filter (answers_stmt k) past) ≡ count_by (answers_stmt k) past = length-filter (answers_stmt k) past in
    let one : count_by (answers_stmt k) past ≤ 1 = ones k in
    let later : answers_below k past ≤ k = few_answers past ones k in
    omega (arith, is, one, later)

filter_more : (p : Entry → Bool) (e : Entry) (past : Past) → length (filter p past) ≤ length (filter p (e ∷ past))
filter_more p e past = by (p e)
  where
    by : (b : Bool) → length (filter p past) ≤ length (cond b (e ∷ filter p past) (filter p past))
    by true = omega arith
    by false = omega arith

filter_here : (p : Entry → Bool) (e : Entry) (past : Past) → p e ≡ true → length (filter p (e ∷ past)) ≡ suc (length (filter p past))
filter_here p e past is = ap (λ (b : Bool). length (cond b (e ∷ filter p past) (filter p past))) is

answers_more : (k : ℕ) (e : Entry) (past : Past) → answers_below k past ≤ answers_below k (e ∷ past)
answers_more zero e past = omega arith
answers_more (suc k) e past =
    let here : length (filter (answers_stmt k) past) ≤ length (filter (answers_stmt k) (e ∷ past)) = filter_more (answers_stmt k) e past in
    let later : answers_below k past ≤ answers_below k (e ∷ past) = answers_more k e past in
    omega (arith, here, later)

answers_here : (k n : ℕ) (e : Entry) (past : Past) → n < k → answers_stmt n e ≡ true → answers_below k past + 1 ≤ answers_below k (e ∷ past)
answers_here zero n e past less is = absurd (omega (arith, less))
answers_here (suc k) n e past less is = by (cases_eq n k) (λ (below : n < k). answers_here k n e past below is)
  where
    by : (n ≡ k) ⊎ (n ≡ k → ⊥) → (n < k → answers_below k past + 1 ≤ answers_below k (e ∷ past)) → answers_below (suc k) past + 1 ≤ answers_below (suc k) (e ∷ past)
    by (inl same) later =
        let here : length (filter (answers_stmt k) (e ∷ past)) ≡ suc (length (filter (answers_stmt k) past)) =
        filter_here (answers_stmt k) e past (subst (λ (m : ℕ). answers_stmt m e ≡ true) same is) in
        let more : answers_below k past ≤ answers_below k (e ∷ past) = answers_more k e past in
        omega (arith, here, more)
    by (inr apart) later =
        let below : n < k = omega (arith, less, apart) in
        let more : answers_below k past + 1 ≤ answers_below k (e ∷ past) = later below in
        let here : length (filter (answers_stmt k) past) ≤ length (filter (answers_stmt k) (e ∷ past)) = filter_more (answers_stmt k) e past in
        omega (arith, here, more)

-- a change answers a line of the script
change_answers : (most : ℕ) → 10000 < most → (script : ScriptParts) (past : Past) (e : Entry) (n : ℕ) → IsWellFormed script → answered e ≡ Some n → IsInTurn script past e
    → answers_below most past + 1 ≤ answers_below most (e ∷ past)
change_answers most above script past e n fit is turn =
    let it = subst (λ (o : Option ℕ). IsAnsweredInTurn script past e o) is turn.0 in
    let low : n ≤ 10000 = line_of script n (script_stmt script n) (λ stmt. IsNext script stmt.0 n past × IsStarted e n past) fit refl it in
    answers_here most n e past (omega (arith, low, above)) (ap (λ (o : Option ℕ). option_map_or (λ m. n == m) o false) is ∙ eq-eqb n n refl)

light_answers : (most : ℕ) (e : Entry) (past : Past) → answers_below most past + 0 ≤ answers_below most (e ∷ past)
light_answers most e past = let more : answers_below most past ≤ answers_below most (e ∷ past) = answers_more most e past in omega (arith, more)

weight_answers : (most : ℕ) → 10000 < most → (script : ScriptParts) (past : Past) (e : Entry) → IsWellFormed script → IsInTurn script past e
    → answers_below most past + weight e ≤ answers_below most (e ∷ past)
weight_answers most above script past (entry.Changed stmt x row found new) fit turn = change_answers most above script past (entry.Changed stmt x row found new) stmt fit refl turn
weight_answers most above script past (entry.Locked stmt x row) fit turn = change_answers most above script past (entry.Locked stmt x row) stmt fit refl turn
weight_answers most above script past e fit turn = light_answers most e past

changes_answer : (most : ℕ) → 10000 < most → (script : ScriptParts) (past : Past) → IsWellFormed script → AreInTurn script past → changes_told past ≤ answers_below most past
changes_answer most above script [] fit turns = omega arith
changes_answer most above script (e ∷ past) fit turns =
    let later : changes_told past ≤ answers_below most past = changes_answer most above script past fit turns.1 in
    let here : answers_below most past + weight e ≤ answers_below most (e ∷ past) = weight_answers most above script past e fit turns.0 in
    omega (arith, later, here)

few_below : (most : ℕ) → 10000 < most → (script : ScriptParts) (past : Past) → IsWellFormed script → AreInTurn script past → changes_told past ≤ most
few_below most above script past fit turns = le_trans (changes_answer most above script past fit turns) (few_answers past (once script past turns) most)

-- a run of a script tells of few changes
pub few_changes : (script : ScriptParts) (past : Past) → IsWellFormed script → AreInTurn script past → changes_told past ≤ 10001
few_changes script past fit turns = few_below 10001 (omega arith) script past fit turns

-- so slots have room for more transactions
pub has_wraps : (script : ScriptParts) (head : HeaderContent) (past : Past) → IsWellFormed script → AreInTurn script past → Wraps head past → HasWraps head
has_wraps script head past fit turns wraps k =
    let le : (slot_at head k).wrap ≤ changes_told past = wraps k in
    let few : changes_told past ≤ 10001 = few_changes script past fit turns in omega (arith, le, few)
