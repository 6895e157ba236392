-- What entries of a journal say of lines.
use Rattle.std.proofs.Common.{◌≡◌, ℕ, Bool, true, false, List, [], ◌∷◌, ◌++◌, Option, Some, None, if◌then◌else◌, refl, sym, ap, subst, ◌∙◌}
use Rattle.std.specs.Prelude.{◌==◌, IsSome}
use Rattle.std.specs.Option.{option_map_or}
use Rattle.std.proofs.lemmas.Bool.{eq-eqb, ne_eqb, or_left, or_right}
use Rattle.std.proofs.lemmas.Option.{none-some}
use Rattle.journal.specs.declared.cause.Cause.{Cause}
use Rattle.journal.specs.declared.cause.Cause.TheVariants.{NotConnected}
use Rattle.journal.specs.declared.deeds.Start.{Start}
use Rattle.journal.specs.declared.entry.Entry.{Entry}
use Rattle.journal.specs.declared.entry.Entry.TheVariants.{Acked, Changed, Locked, Opened, Plain, Refused, Rows, Started}
use Rattle.journal.specs.Past.{Past, start_after, start_of}
use Rattle.journal.specs.Stood.{stood}
use Rattle.script_text.specs.declared.item.Stmt.{Stmt}
use Rattle.script_text.specs.ScriptParts.{ScriptParts}
use Rattle.script_text.specs.GoodLines.{IsStarted, IsStartedFor}
use Rattle.script_text.specs.Lines.{answered, answers_stmt, last_after, last_answer}
use Rattle.script_text.specs.Lines.{stmt_at as script_stmt}
use Rattle.line_laws.specs.Turns.{IsInTurn, IsStartedInTurn}

-- An entry neither starts nor answers a line.
abbrev pub is_quiet : Entry → Bool
is_quiet (Started stmt session snapshot) = false
is_quiet (Rows stmt rows) = false
is_quiet (Changed stmt xid row found new) = false
is_quiet (Locked stmt xid row) = false
is_quiet (Acked stmt xid scn) = false
is_quiet (Plain stmt) = false
is_quiet (Refused stmt cause) = false
is_quiet _ = true

-- Entries neither start nor answer a line.
abbrev pub Quiets : List Entry → Type 0
Quiets [] = Unit {0}
Quiets (e ∷ es) = (is_quiet e ≡ true) × Quiets es

-- An entry neither opens a session nor starts or answers a line.
abbrev pub is_silent : Entry → Bool
is_silent (Opened session inst) = false
is_silent e = is_quiet e

-- Entries neither open a session nor start or answer a line.
abbrev pub Silents : List Entry → Type 0
Silents [] = Unit {0}
Silents (e ∷ es) = (is_silent e ≡ true) × Silents es

silent_quiet : (e : Entry) → is_silent e ≡ true → is_quiet e ≡ true
silent_quiet (Opened session inst) s = refl
silent_quiet _ s = s

pub silents_quiet : (es : List Entry) → Silents es → Quiets es
silents_quiet [] s = tt
silents_quiet (e ∷ es) s = (silent_quiet e s.0, silents_quiet es s.1)

clash : {A : Type 0} → false ≡ true → A
clash e = absurd (let no : false ≡ true = e in cc)

pub quiet_answers : (e : Entry) → is_quiet e ≡ true → answered e ≡ None
quiet_answers (Rows stmt rows) q = clash q
quiet_answers (Changed stmt xid row found new) q = clash q
quiet_answers (Locked stmt xid row) q = clash q
quiet_answers (Acked stmt xid scn) q = clash q
quiet_answers (Plain stmt) q = clash q
quiet_answers (Refused stmt cause) q = clash q
quiet_answers _ q = refl

pub quiet_turn : (script : ScriptParts) (past : Past) (e : Entry) → is_quiet e ≡ true → IsInTurn script past e
quiet_turn script past (Started stmt session snapshot) q = clash q
quiet_turn script past (Rows stmt rows) q = clash q
quiet_turn script past (Changed stmt xid row found new) q = clash q
quiet_turn script past (Locked stmt xid row) q = clash q
quiet_turn script past (Acked stmt xid scn) q = clash q
quiet_turn script past (Plain stmt) q = clash q
quiet_turn script past (Refused stmt cause) q = clash q
quiet_turn script past _ q = (tt, tt)

-- an answer starts nothing
pub answer_starts_none : (script : ScriptParts) (past : Past) (e : Entry) (n : ℕ) → answered e ≡ Some n → IsStartedInTurn script past e
answer_starts_none script past (Started stmt session snapshot) n e = absurd (none-some n e)
answer_starts_none script past _ n e = tt

for_cause : (cause : Cause) (n : ℕ) (past : Past) → IsSome (start_of n past) → IsStartedFor cause n past
for_cause NotConnected n past s = tt
for_cause _ n past s = s

-- an answer stands after a start where there was one
pub after_start : (e : Entry) (n : ℕ) (past : Past) → IsSome (start_of n past) → IsStarted e n past
after_start (Refused stmt cause) n past s = for_cause cause n past s
after_start _ n past s = s

start_if : (b : Bool) (x : Start) (before : Option Start) → IsSome before → IsSome (if b then Some x else before)
start_if true x before s = refl
start_if false x before s = s

-- what was started stays so
pub start_stays : (n : ℕ) (e : Entry) (before : Option Start) → IsSome before → IsSome (start_after n e before)
start_stays n (Started stmt session snapshot) before s = start_if (n == stmt) (record { session = session; snapshot = snapshot }) before s
start_stays n _ before s = s

-- a start starts its line
pub start_starts : (n z s : ℕ) (past : Past) → IsSome (start_of n (Started n z s ∷ past))
start_starts n z s past =
    subst (λ (b : Bool). IsSome (if b then Some (record { session = z; snapshot = s }) else start_of n past)) (sym (eq-eqb n n refl)) refl

-- an answer answers its line
pub answer_answers : (e : Entry) (n : ℕ) (past : Past) → answered e ≡ Some n → stood (answers_stmt n) (e ∷ past) ≡ true
answer_answers e n past is =
    or_left (answers_stmt n e) (stood (answers_stmt n) past)
    (ap (λ (o : Option ℕ). option_map_or (λ m. n == m) o false) is ∙ eq-eqb n n refl)

-- An entry answers no line of a session.
abbrev pub IsApart : ScriptParts → ℕ → Entry → Type 0
IsApart script y e = (before : ℕ) → last_after script y (answered e) before ≡ before

pub quiet_apart : (script : ScriptParts) (y : ℕ) (e : Entry) → is_quiet e ≡ true → IsApart script y e
quiet_apart script y e q before = ap (λ (o : Option ℕ). last_after script y o before) (quiet_answers e q)

-- the last answer of a session, by whether the line is its own
last_by : (script : ScriptParts) (y n z before : ℕ) (what : Stmt) → script_stmt script n ≡ Some (z, what)
    → last_after script y (Some n) before ≡ (if z == y then n else before)
last_by script y n z before what is =
    ap (λ (o : Option (ℕ × Stmt)). if option_map_or (λ (stmt : ℕ × Stmt). stmt.0 == y) o false then n else before) is

-- an answer of a line of another session
pub other_apart : (script : ScriptParts) (y : ℕ) (e : Entry) (n z : ℕ) (what : Stmt) → answered e ≡ Some n → script_stmt script n ≡ Some (z, what)
    → (y ≡ z → ⊥) → IsApart script y e
other_apart script y e n z what is at apart before =
    ap (λ (o : Option ℕ). last_after script y o before) is ∙ last_by script y n z before what at
    ∙ ap (λ (b : Bool). if b then n else before) (ne_eqb z y (λ same. apart (sym same)))

-- an answer of a session's own line
pub own_last : (script : ScriptParts) (e : Entry) (n z : ℕ) (what : Stmt) (past : Past) → answered e ≡ Some n → script_stmt script n ≡ Some (z, what)
    → last_answer script z (e ∷ past) ≡ n
own_last script e n z what past is at =
    ap (λ (o : Option ℕ). last_after script z o (last_answer script z past)) is ∙ last_by script z n z (last_answer script z past) what at
    ∙ ap (λ (b : Bool). if b then n else last_answer script z past) (eq-eqb z z refl)

-- What a journal says of a session stays as it is or grows, but that no answer of it is added.
pub record Grows (script : ScriptParts) (y : ℕ) (past now : Past) : Type 0 where
  pub last : last_answer script y now ≡ last_answer script y past
  pub answered : (n : ℕ) → stood (answers_stmt n) past ≡ true → stood (answers_stmt n) now ≡ true
  pub started : (n : ℕ) → IsSome (start_of n past) → IsSome (start_of n now)

pub grows_not : (script : ScriptParts) (y : ℕ) (past : Past) → Grows script y past past
grows_not script y past = record { last = refl; answered = λ n a. a; started = λ n s. s }

pub grows_then : (script : ScriptParts) (y : ℕ) (past mid now : Past) → Grows script y past mid → Grows script y mid now → Grows script y past now
grows_then script y past mid now a b = record {
  last = b.last ∙ a.last;
  answered = λ n is. b.answered n (a.answered n is);
  started = λ n is. b.started n (a.started n is);
}

pub grows_by : (script : ScriptParts) (y : ℕ) (past : Past) (e : Entry) → IsApart script y e → Grows script y past (e ∷ past)
grows_by script y past e apart = record {
  last = apart (last_answer script y past);
  answered = λ n is. or_right (answers_stmt n e) (stood (answers_stmt n) past) is;
  started = λ n is. start_stays n e (start_of n past) is;
}

pub grows_quietly : (script : ScriptParts) (y : ℕ) (past : Past) (es : List Entry) → Quiets es → Grows script y past (es ++ past)
grows_quietly script y past [] q = grows_not script y past
grows_quietly script y past (e ∷ es) q =
    grows_then script y past (es ++ past) (e ∷ es ++ past) (grows_quietly script y past es q.1)
    (grows_by script y (es ++ past) e (quiet_apart script y e q.0))
