-- How far a session has come is what the journal says of its lines.
use Rattle.std.proofs.Common.{◌≡◌, ℕ, ◌+◌, ◌-◌, ◌^◌, ◌<◌, ◌≤◌, min, true, false, List, ◌∷◌, length, Option, Some, refl, sym, ap, subst, ◌⊎◌, inl, inr, arith}
use Rattle.std.specs.Prelude.{IsSome, IsSomeAnd}
use Rattle.std.proofs.lemmas.Bool.{cases_eq, cases_order, or_right}
use Rattle.journal.specs.declared.entry.Entry.{Entry}
use Rattle.journal.specs.declared.entry.Entry.TheVariants.{Started}
use Rattle.journal.specs.Past.{Past, start_of}
use Rattle.journal.specs.Stood.{stood}
use Rattle.script_text.specs.ScriptParts.{ScriptParts}
use Rattle.script_text.specs.GoodLines.{IsStarted}
use Rattle.script_text.specs.Lines.{answered, answers_stmt, last_answer}
use Rattle.script_text.specs.Lines.{stmt_at as script_stmt}
use Rattle.inst_state.specs.declared.line.Line.{Line}
use Rattle.line_laws.specs.Turns.{IsAnsweredInTurn, IsInTurn, IsNext}
use Rattle.line_laws.proofs.ScriptLines.{AreLines, stmt_no}
use Rattle.line_laws.proofs.Courses.{Course, passed, under_way}
use Rattle.line_laws.proofs.Entries.{answer_answers, answer_starts_none, Grows, own_last, start_starts}

-- The lines before a session's next one are answered, and neither that nor a later one is; where it is under way it has started.
pub record Stands (script : ScriptParts) (z : ℕ) (ls : List Line) (c : Course) (past : Past) : Type 0 where
  pub within : c.next ≤ length ls
  pub started : c.idle ≡ false → (c.next < length ls) × IsSome (start_of (stmt_no ls c.next) past)
  pub done : (j : ℕ) → j < c.next → stood (answers_stmt (stmt_no ls j)) past ≡ true
  pub open_ : (j : ℕ) → c.next ≤ j → j < length ls → last_answer script z past < stmt_no ls j

-- it still stands so where the journal grows otherwise
pub stands_on : (script : ScriptParts) (z : ℕ) (ls : List Line) (c : Course) (past now : Past) → Stands script z ls c past → Grows script z past now
    → Stands script z ls c now
stands_on script z ls c past now s g = record {
  within = s.within;
  started = λ busy. (let was = s.started busy in (was.0, g.started (stmt_no ls c.next) was.1));
  done = λ j at. g.answered (stmt_no ls j) (s.done j at);
  open_ = λ j from at. (let was : last_answer script z past < stmt_no ls j = s.open_ j from at in let same = g.last in omega (arith, was, same));
}

-- a session without lines
pub stands_without : (script : ScriptParts) (z : ℕ) (ls : List Line) (c : Course) (past now : Past) → length ls ≡ 0 → Stands script z ls c past
    → Stands script z ls c now
stands_without script z ls c past now none s =
    let few : c.next ≤ length ls = s.within in
    record {
      within = few;
      started = λ busy. absurd (let was : c.next < length ls = (s.started busy).0 in omega (arith, was, none));
      done = λ j at. absurd (omega (arith, at, few, none));
      open_ = λ j from at. absurd (omega (arith, at, none));
    }

place_before : (script : ScriptParts) (z : ℕ) (ls : List Line) (j k : ℕ) → AreLines script z ls → j < length ls → stmt_no ls j < stmt_no ls k
    → (j ≡ k) ⊎ ((j < k) ⊎ (k < j)) → j < k
place_before script z ls j k are at less (inl same) =
    absurd (let e : stmt_no ls j ≡ stmt_no ls k = ap (λ (i : ℕ). stmt_no ls i) same in omega (arith, e, less))
place_before script z ls j k are at less (inr (inl before)) = before
place_before script z ls j k are at less (inr (inr behind)) =
    absurd (let rises : stmt_no ls k < stmt_no ls j = are.rise k j behind at in omega (arith, rises, less))

earlier_at : (script : ScriptParts) (z : ℕ) (ls : List Line) (c : Course) (past : Past) → AreLines script z ls → Stands script z ls c past → c.next < length ls
    → (m : ℕ) → m < stmt_no ls c.next → (length ls ≡ 0) ⊎ ((j : ℕ) × (j < length ls) × (stmt_no ls j ≡ m)) → stood (answers_stmt m) past ≡ true
earlier_at script z ls c past are s at m less (inl none) = absurd (omega (arith, none, at))
earlier_at script z ls c past are s at m less (inr (j, within, is)) =
    subst (λ (k : ℕ). stood (answers_stmt k) past ≡ true) is
    (s.done j (place_before script z ls j c.next are within (omega (arith, is, less)) (cases_order j c.next)))

-- a session's next line is next
pub next_line : (script : ScriptParts) (z : ℕ) (ls : List Line) (c : Course) (past : Past) → AreLines script z ls → Stands script z ls c past → c.next < length ls
    → IsNext script z (stmt_no ls c.next) past
next_line script z ls c past are s at = record {
  unanswered = s.open_ c.next (omega arith) at;
  earlier = λ m what less is. earlier_at script z ls c past are s at m less (are.whole m what is);
}

some_and : {A : Type 0} (o : Option A) (x : A) (P : A → Type 0) → o ≡ Some x → P x → IsSomeAnd o P
some_and {A = A} o x P e p = subst (λ (q : Option A). IsSomeAnd q P) (sym e) p

-- a start of a session's next line has its turn
pub start_turn : (script : ScriptParts) (z : ℕ) (ls : List Line) (c : Course) (past : Past) (snapshot : ℕ) → AreLines script z ls → Stands script z ls c past
    → c.next < length ls → IsInTurn script past (Started (stmt_no ls c.next) z snapshot)
start_turn script z ls c past snapshot are s at =
    let line = are.are c.next at in (
      tt,
      (
        some_and (script_stmt script (stmt_no ls c.next)) (z, line.0) (λ stmt. stmt.0 ≡ z) line.1 refl,
        next_line script z ls c past are s at,
      ),
    )

-- the session after it
pub start_stands : (script : ScriptParts) (z : ℕ) (ls : List Line) (c : Course) (past : Past) (snapshot : ℕ) → Stands script z ls c past
    → c.next < length ls → Stands script z ls (under_way c) (Started (stmt_no ls c.next) z snapshot ∷ past)
start_stands script z ls c past snapshot s at = record {
  within = s.within;
  started = λ busy. (at, start_starts (stmt_no ls c.next) z snapshot past);
  done = s.done;
  open_ = s.open_;
}

-- an answer of a session's next line has its turn
pub answer_turn : (script : ScriptParts) (z : ℕ) (ls : List Line) (c : Course) (past : Past) (e : Entry) → AreLines script z ls → Stands script z ls c past
    → c.next < length ls → answered e ≡ Some (stmt_no ls c.next) → IsStarted e (stmt_no ls c.next) past → IsInTurn script past e
answer_turn script z ls c past e are s at is started =
    let n = stmt_no ls c.next in
    let line = are.are c.next at in (
      subst (λ (o : Option ℕ). IsAnsweredInTurn script past e o) (sym is)
          (some_and (script_stmt script n) (z, line.0) (λ stmt. IsNext script stmt.0 n past × IsStarted e n past) line.1
          (next_line script z ls c past are s at, started)),
      answer_starts_none script past e n is,
    )

next_more : (k : ℕ) → k < 10000 → min (k + 1) (2 ^ 64 - 1) ≡ k + 1
next_more k few = omega arith

done_more : (ls : List Line) (k : ℕ) (past : Past) (e : Entry) → ((j : ℕ) → j < k → stood (answers_stmt (stmt_no ls j)) (e ∷ past) ≡ true)
    → answered e ≡ Some (stmt_no ls k) → (j : ℕ) → j < k + 1 → (j ≡ k) ⊎ (j ≡ k → ⊥) → stood (answers_stmt (stmt_no ls j)) (e ∷ past) ≡ true
done_more ls k past e before is j at (inl same) =
    subst (λ (i : ℕ). stood (answers_stmt (stmt_no ls i)) (e ∷ past) ≡ true) (sym same) (answer_answers e (stmt_no ls k) past is)
done_more ls k past e before is j at (inr apart) = before j (omega (arith, at, apart))

-- the session after it
pub answer_stands : (script : ScriptParts) (z : ℕ) (ls : List Line) (c : Course) (past : Past) (e : Entry) → AreLines script z ls → Stands script z ls c past
    → c.next < length ls → answered e ≡ Some (stmt_no ls c.next) → Stands script z ls (passed c) (e ∷ past)
answer_stands script z ls c past e are s at is =
    let more : (passed c).next ≡ c.next + 1 = next_more c.next (are.few c.next at) in
    let line = are.are c.next at in
    let last : last_answer script z (e ∷ past) ≡ stmt_no ls c.next = own_last script e (stmt_no ls c.next) z line.0 past is line.1 in
    let stays : (j : ℕ) → j < c.next → stood (answers_stmt (stmt_no ls j)) (e ∷ past) ≡ true =
    λ j before. or_right (answers_stmt (stmt_no ls j) e) (stood (answers_stmt (stmt_no ls j)) past) (s.done j before) in
    record {
      within = omega (arith, more, at);
      started = λ busy. absurd (let no : true ≡ false = busy in cc);
      done = λ j before. done_more ls c.next past e stays is j (omega (arith, more, before)) (cases_eq j c.next);
      open_ = λ j from within. (let rises : stmt_no ls c.next < stmt_no ls j = are.rise c.next j (omega (arith, more, from)) within in omega (arith, rises, last));
    }
