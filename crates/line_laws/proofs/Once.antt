-- Each line is answered once, where each answer has its turn.
use Rattle.std.proofs.Common.{◌≡◌, ℕ, suc, ◌<◌, ◌≤◌, Bool, true, false, List, [], ◌∷◌, filter, length, Option, Some, None, refl, sym, ap, subst, ◌∙◌, ◌⊎◌, inl, inr, arith}
use Rattle.std.specs.Prelude.{◌==◌, cond, IsSomeAnd}
use Rattle.std.specs.List.{count_by}
use Rattle.std.specs.Option.{option_map_or}
use Rattle.std.proofs.lemmas.Bool.{cases_eq, eqb-true}
use Rattle.std.proofs.lemmas.List.Sums.{length-filter}
use Rattle.std.proofs.lemmas.Option.{some_pair_parts}
use Rattle.journal.specs.declared.entry.Entry.{Entry}
use Rattle.journal.specs.Past.{Past}
use Rattle.script_text.specs.declared.item.Stmt.{Stmt}
use Rattle.script_text.specs.ScriptParts.{ScriptParts}
use Rattle.script_text.specs.GoodLines.{IsStarted}
use Rattle.script_text.specs.Lines.{answered, answers_stmt, last_after, last_answer}
use Rattle.script_text.specs.Lines.{stmt_at as script_stmt}
use Rattle.line_laws.specs.Turns.{AreAnsweredOnce, AreInTurn, IsAnsweredInTurn, IsNext}
use Rattle.line_laws.proofs.Entries.{other_apart, own_last}

-- what an entry that answers a line is: of a session's line that is next
record Answer (script : ScriptParts) (past : Past) (e : Entry) (n : ℕ) : Type 0 where
  z : ℕ
  what : Stmt
  is : answered e ≡ Some n
  line : script_stmt script n ≡ Some (z, what)
  next : IsNext script z n past

line_of : (script : ScriptParts) (past : Past) (e : Entry) (n : ℕ) → answered e ≡ Some n → (o : Option (ℕ × Stmt)) → script_stmt script n ≡ o
    → IsSomeAnd o (λ stmt. IsNext script stmt.0 n past × IsStarted e n past) → Answer script past e n
line_of script past e n is None line turn = absurd turn
line_of script past e n is (Some stmt) line turn = record { z = stmt.0; what = stmt.1; is = is; line = line; next = turn.0 }

-- an entry answers nothing, or a line that is next
turn_of : (script : ScriptParts) (past : Past) (e : Entry) (o : Option ℕ) → answered e ≡ o → IsAnsweredInTurn script past e o
    → (answered e ≡ None) ⊎ ((n : ℕ) × Answer script past e n)
turn_of script past e None is turn = inl is
turn_of script past e (Some n) is turn = inr (n, line_of script past e n is (script_stmt script n) refl turn)

same_line : (e : Entry) (m n : ℕ) → answered e ≡ Some m → answers_stmt n e ≡ true → n ≡ m
same_line e m n is e_is = eqb-true n m (sym (ap (λ (o : Option ℕ). option_map_or (λ k. n == k) o false) is) ∙ e_is)

same_stmt : (script : ScriptParts) (m n z y : ℕ) (what other : Stmt) → m ≡ n → script_stmt script m ≡ Some (z, what) → script_stmt script n ≡ Some (y, other) → z ≡ y
same_stmt script m n z y what other same first later =
    let both : Some (z, what) ≡ Some (y, other) = sym first ∙ ap (λ (k : ℕ). script_stmt script k) same ∙ later in (some_pair_parts z y what other both).0

counted : (p : Entry → Bool) (e : Entry) (es : List Entry) → p e ≡ true → count_by p (e ∷ es) ≡ suc (count_by p es)
counted p e es is =
    sym (length-filter p (e ∷ es)) ∙ ap (λ (b : Bool). length (cond b (e ∷ filter p es) (filter p es))) is ∙ ap suc (length-filter p es)

not_counted : (p : Entry → Bool) (e : Entry) (es : List Entry) → p e ≡ false → count_by p (e ∷ es) ≡ count_by p es
not_counted p e es is =
    sym (length-filter p (e ∷ es)) ∙ ap (λ (b : Bool). length (cond b (e ∷ filter p es) (filter p es))) is ∙ length-filter p es

-- a line behind all answers of its session isn't answered
unanswered : (script : ScriptParts) (n z : ℕ) (what : Stmt) → script_stmt script n ≡ Some (z, what) → (past : Past) → AreInTurn script past
    → last_answer script z past < n → count_by (answers_stmt n) past ≡ 0
unanswered script n z what line [] turns behind = refl
unanswered script n z what line (e ∷ past) turns behind =
    by (λ less. unanswered script n z what line past turns.1 less) (turn_of script past e (answered e) refl turns.0.0)
  where
    not_it : (b : Bool) → answers_stmt n e ≡ b → (answers_stmt n e ≡ true → ⊥) → count_by (answers_stmt n) past ≡ 0 → count_by (answers_stmt n) (e ∷ past) ≡ 0
    not_it true is miss later = absurd (miss is)
    not_it false is miss later = not_counted (answers_stmt n) e past is ∙ later

    other : (last_answer script z past < n → count_by (answers_stmt n) past ≡ 0) → (m : ℕ) (a : Answer script past e m) → (a.z ≡ z) ⊎ (a.z ≡ z → ⊥)
        → count_by (answers_stmt n) (e ∷ past) ≡ 0
    other later m a (inl same) =
        let last : last_answer script z (e ∷ past) ≡ m =
        subst (λ (x : ℕ). last_answer script x (e ∷ past) ≡ m) same (own_last script e m a.z a.what past a.is a.line) in
        let before : last_answer script z past < m = subst (λ (x : ℕ). last_answer script x past < m) same a.next.unanswered in
        not_it (answers_stmt n e) refl (λ hit. (let e_is : n ≡ m = same_line e m n a.is hit in omega (arith, e_is, last, behind))) (later (omega (arith, last, before, behind)))
    other later m a (inr apart) =
        let stays : last_answer script z (e ∷ past) ≡ last_answer script z past =
        other_apart script z e m a.z a.what a.is a.line (λ same. apart (sym same)) (last_answer script z past) in
        not_it (answers_stmt n e) refl (λ hit. apart (same_stmt script m n a.z z a.what what (sym (same_line e m n a.is hit)) a.line line)) (later (omega (arith, stays, behind)))

    by : (last_answer script z past < n → count_by (answers_stmt n) past ≡ 0) → (answered e ≡ None) ⊎ ((m : ℕ) × Answer script past e m)
        → count_by (answers_stmt n) (e ∷ past) ≡ 0
    by later (inl none) =
        let stays : last_answer script z (e ∷ past) ≡ last_answer script z past = ap (λ (o : Option ℕ). last_after script z o (last_answer script z past)) none in
        not_it (answers_stmt n e) refl (λ hit. (let no : false ≡ true = sym (ap (λ (o : Option ℕ). option_map_or (λ k. n == k) o false) none) ∙ hit in cc)) (later (omega (arith, stays, behind)))
    by later (inr a) = other later a.0 a.1 (cases_eq a.1.z z)

-- each line is answered at most once
pub once : (script : ScriptParts) (past : Past) → AreInTurn script past → AreAnsweredOnce past
once script [] turns n = omega arith
once script (e ∷ past) turns n = by (once script past turns.1 n) (answers_stmt n e) refl
  where
    hit : answers_stmt n e ≡ true → (answered e ≡ None) ⊎ ((m : ℕ) × Answer script past e m) → count_by (answers_stmt n) past ≡ 0
    hit is (inl none) = absurd (let no : false ≡ true = sym (ap (λ (o : Option ℕ). option_map_or (λ k. n == k) o false) none) ∙ is in cc)
    hit is (inr a) =
        let same : n ≡ a.0 = same_line e a.0 n a.1.is is in
        let line : script_stmt script n ≡ Some (a.1.z, a.1.what) = ap (λ (k : ℕ). script_stmt script k) same ∙ a.1.line in
        let behind : last_answer script a.1.z past < a.0 = a.1.next.unanswered in
        unanswered script n a.1.z a.1.what line past turns.1 (omega (arith, same, behind))

    by : count_by (answers_stmt n) past ≤ 1 → (b : Bool) → answers_stmt n e ≡ b → count_by (answers_stmt n) (e ∷ past) ≤ 1
    by before true is =
        let none : count_by (answers_stmt n) past ≡ 0 = hit is (turn_of script past e (answered e) refl turns.0.0) in
        let all : count_by (answers_stmt n) (e ∷ past) ≡ suc (count_by (answers_stmt n) past) = counted (answers_stmt n) e past is in
        omega (arith, all, none)
    by before false is =
        let all : count_by (answers_stmt n) (e ∷ past) ≡ count_by (answers_stmt n) past = not_counted (answers_stmt n) e past is in
        omega (arith, all, before)
