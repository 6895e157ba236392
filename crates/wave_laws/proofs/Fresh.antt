-- Each start of a journal is the first of its line, or of a line that may start again; and it is the next of its session.
use Rattle.std.proofs.Common.{◌≡◌, ℕ, zero, suc, ◌+◌, ◌<◌, ◌≤◌, Bool, true, false, List, [], ◌∷◌, ◌++◌, Option, Some, None, slice_get, if◌then◌else◌, refl, sym, ap, subst, ◌∙◌, ◌⊎◌, inl, inr, arith}
use Rattle.std.specs.Prelude.{◌==◌, ◌||◌, nat_eq, nat_le, IsSomeAnd}
use Rattle.std.specs.List.{AllByRecursion, enumerate_from, flat_map, list_all}
use Rattle.std.specs.Option.{option_and_then, option_map, option_map_or}
use Rattle.std.proofs.lemmas.Bool.{and_from, and_parts, cases_eq, cases_lt, eq-eqb, eqb-true, false_from_ne_true, le-leb, or_from, or_left, or_right}
use Rattle.std.proofs.lemmas.Option.{none-some, same_Some}
use Rattle.std.proofs.lemmas.Option.{some_pair_parts}
use Rattle.journal.specs.declared.entry.Entry.{Entry}
use Rattle.journal.specs.declared.entry.Entry.TheVariants.{Started}
use Rattle.journal.specs.Past.{Each, Past}
use Rattle.journal.specs.Stood.{stood}
use Rattle.script_text.specs.declared.item.Item.{Item}
use Rattle.script_text.specs.declared.item.Item.TheVariants as item
use Rattle.script_text.specs.declared.item.Stmt.{Stmt}
use Rattle.script_text.specs.declared.item.Stmt.TheVariants as stmt
use Rattle.script_text.specs.ScriptParts.{ScriptParts}
use Rattle.script_text.specs.Lines.{answered, answers_stmt, last_after, last_answer, stmt_at as script_stmt, stmt_in}
use Rattle.script_text.specs.Reading.{items_of, joined}
use Rattle.script_text.specs.Turns.{lines_of, turn_of as line_turn}
use Rattle.script_text.specs.GoodLines.{IsStarted}
use Rattle.script_text.specs.WellFormed.{IsWellFormed}
use Rattle.txn_engine.specs.declared.ask.Wish.{Wish}
use Rattle.inst_state.specs.declared.inst.Inst.{Inst}
use Rattle.inst_state.specs.declared.line.Asks.{Asks}
use Rattle.inst_state.specs.declared.line.Asks.TheVariants as asks
use Rattle.inst_state.specs.declared.line.Line.{Line}
use Rattle.inst_state.specs.declared.shared.Core.{Core}
use Rattle.inst_state.specs.State.{asks_at, line_at, stmt_at, stmt_of}
use Rattle.first_state.specs.Lines.{asks_of, lines_at, session_lines, turn_of, wave_lines}
use Rattle.first_state.specs.declared.turns.Turn.{Turn}
use Rattle.first_state.specs.Plan.{first_plan, numbered, parts_of}
use Rattle.good_run.specs.Turns.{is_next, may_start_again, starts}
use Rattle.line_laws.specs.Turns.{AreInTurn, IsAnsweredInTurn, IsNext}
use Rattle.line_laws.proofs.Courses.{course_at, line_is, lines_in}
use Rattle.line_laws.proofs.Entries.{is_silent, other_apart, own_last}
use Rattle.line_laws.proofs.Kept.{start_there, Standing}
use Rattle.line_laws.proofs.Losses.{next_stmt}
use Rattle.line_laws.proofs.Places.{elsewhere, here, Home, home}
use Rattle.line_laws.proofs.ScriptLines.{Gives, gives}
use Rattle.line_laws.proofs.ScriptLines.{none as gives_none, one as gives_one}
use Rattle.line_laws.proofs.Took.{MayStart, Took}
use Rattle.wave_laws.proofs.Begun.{no_end}
use Rattle.wave_laws.proofs.Items.{found, Stands, stands_left, stands_right}
use Rattle.wave_laws.proofs.Speaks.{answers, loses, opens, restarts, silent, Speaks}
use Rattle.wave_laws.proofs.Speaks.{starts as speaks_start}
use Rattle.wave_laws.proofs.Starting.{answer_no_start, AreNoStarts, IsNoStart, one_start, openings_no_start, silents_no_start, Unstarted}

-- what the lines of a session ask

abbrev IsAskedFor : ℕ → List (ℕ × Item) → Line → Type 0
IsAskedFor z items l = (what : Stmt) × Stands (l.stmt, item.Stmt z what) items × (l.asks ≡ asks_of what)

asked_more : (z : ℕ) (xs ys : List (ℕ × Item)) → ((x : ℕ × Item) → Stands x xs → Stands x ys) → (ls : List Line) → AllByRecursion (IsAskedFor z xs) ls
    → AllByRecursion (IsAskedFor z ys) ls
asked_more z xs ys f [] all = tt
asked_more z xs ys f (l ∷ ls) all = ((all.0.0, f (l.stmt, item.Stmt z all.0.0) all.0.1, all.0.2), asked_more z xs ys f ls all.1)

asked_append : (P : Line → Type 0) (xs ys : List Line) → AllByRecursion P xs → AllByRecursion P ys → AllByRecursion P (xs ++ ys)
asked_append P [] ys a b = b
asked_append P (x ∷ xs) ys a b = (a.0, asked_append P xs ys a.1 b)

asked_item : (turn : Turn) (n : ℕ) (it : Item) (items : List (ℕ × Item)) → Stands (n, it) items → Gives turn n it
    → AllByRecursion (IsAskedFor turn.session items) (lines_at turn (n, it))
asked_item turn n it items h (gives_none e) = subst (λ (ls : List Line). AllByRecursion (IsAskedFor turn.session items) ls) (sym e) tt
asked_item turn n it items h (gives_one what is e) =
    subst (λ (ls : List Line). AllByRecursion (IsAskedFor turn.session items) ls) (sym e)
    ((what, subst (λ (x : Item). Stands (n, x) items) is h, refl), tt)

asked_items : (turn : Turn) (items all_ : List (ℕ × Item)) → ((x : ℕ × Item) → Stands x items → Stands x all_)
    → AllByRecursion (IsAskedFor turn.session all_) (flat_map (lines_at turn) items)
asked_items turn [] all_ in_ = tt
asked_items turn (x ∷ items) all_ in_ =
    asked_append (IsAskedFor turn.session all_) (lines_at turn (x.0, x.1)) (flat_map (lines_at turn) items)
    (asked_item turn x.0 x.1 all_ (in_ (x.0, x.1) (inl refl)) (gives turn x.0 x.1)) (asked_items turn items all_ (λ y h. in_ y (inr h)))

asked_lines : (z k : ℕ) (waves : List (List (ℕ × Item))) → AllByRecursion (IsAskedFor z (joined waves)) (session_lines z (enumerate_from k waves))
asked_lines z k [] = tt
asked_lines z k (w ∷ waves) =
    asked_append (IsAskedFor z (joined (w ∷ waves))) (wave_lines z (k, w)) (session_lines z (enumerate_from (k + 1) waves))
    (asked_items (turn_of z (k, w)) w (w ++ joined waves) (λ x h. stands_left x w (joined waves) h))
    (asked_more z (joined waves) (w ++ joined waves) (λ x h. stands_right x w (joined waves) h) (session_lines z (enumerate_from (k + 1) waves)) (asked_lines z (k + 1) waves))

line_got : (P : Line → Type 0) (ls : List Line) (j : ℕ) (l : Line) → AllByRecursion P ls → slice_get ls j ≡ Some l → P l
line_got P [] j l all e = absurd (none-some l e)
line_got P (x ∷ ls) zero l all e = subst P (same_Some x l e) all.0
line_got P (x ∷ ls) (suc j) l all e = line_got P ls j l all.1 e

abbrev is_change : Asks → Bool
is_change (asks.Change row wish) = true
is_change _ = false

changes : (what : Stmt) (row : ℕ) (wish : Wish) → asks_of what ≡ asks.Change row wish → may_start_again what ≡ true
changes (stmt.Put r v) row wish e = refl
changes (stmt.Add r v) row wish e = refl
changes (stmt.Del r) row wish e = refl
changes (stmt.Lock r) row wish e = refl
changes (stmt.Get r) row wish e = absurd (let no : false ≡ true = ap is_change e in cc)
changes (stmt.Scan r l) row wish e = absurd (let no : false ≡ true = ap is_change e in cc)
changes stmt.Commit row wish e = absurd (let no : false ≡ true = ap is_change e in cc)
changes stmt.Rollback row wish e = absurd (let no : false ≡ true = ap is_change e in cc)
changes (stmt.Savepoint name) row wish e = absurd (let no : false ≡ true = ap is_change e in cc)
changes (stmt.RollbackTo name) row wish e = absurd (let no : false ≡ true = ap is_change e in cc)

-- a line that asks for a change may start again
again : (script : ScriptParts) (k : Inst) (i z row : ℕ) (wish : Wish) → IsWellFormed script → parts_of k.plan ≡ first_plan script i
    → asks_at k z ≡ Some (asks.Change row wish) → IsSomeAnd (script_stmt script (stmt_at k z)) (λ asked. may_start_again asked.1 ≡ true)
again script k i z row wish fit plan e = by (line_at k z) refl e
  where
    got : (l : Line) → slice_get (lines_in k.plan z) (course_at k z).next ≡ Some l → Home script k.plan i z → IsAskedFor z (items_of script) l
    got l is (elsewhere none) =
        absurd (none-some l (sym (ap (λ (ls : List Line). slice_get ls (course_at k z).next) none) ∙ is))
    got l is (here named there same) =
        line_got (IsAskedFor z (items_of script)) (session_lines z (numbered script)) (course_at k z).next l (asked_lines z 1 script.waves)
        (sym (ap (λ (ls : List Line). slice_get ls (course_at k z).next) same) ∙ is)

    by : (o : Option Line) → line_at k z ≡ o → option_map (λ (line : Line). line.asks) o ≡ Some (asks.Change row wish)
        → IsSomeAnd (script_stmt script (stmt_of o)) (λ asked. may_start_again asked.1 ≡ true)
    by None is e = absurd (none-some (asks.Change row wish) e)
    by (Some l) is e =
        let a = got l (sym (line_is k z) ∙ is) (home script k.plan i z plan) in
        let line : script_stmt script l.stmt ≡ Some (z, a.0) =
        ap (λ (o : Option Item). option_and_then stmt_in o) (found 0 script.lines (items_of script) l.stmt (item.Stmt z a.0) fit.lines_rise a.1) in
        subst (λ (o : Option (ℕ × Stmt)). IsSomeAnd o (λ asked. may_start_again asked.1 ≡ true)) (sym line)
        (changes a.0 row wish (sym a.2 ∙ same_Some l.asks (asks.Change row wish) e))

-- A start is the first of its line, or the line may start again.
abbrev pub IsFresh : ScriptParts → Past → Entry → Type 0
IsFresh script past (Started n z s) = (stood (starts n) past ≡ false) ⊎ IsSomeAnd (script_stmt script n) (λ asked. may_start_again asked.1 ≡ true)
IsFresh script past _ = Unit {0}

none_fresh : (script : ScriptParts) (past : Past) (e : Entry) → IsNoStart e → IsFresh script past e
none_fresh script past (Started n z s) none = absurd (let no : true ≡ false = sym (eq-eqb n n refl) ∙ none n in cc)
none_fresh script past _ none = tt

nones_fresh : (script : ScriptParts) (es past : Past) → AreNoStarts es → Each (IsFresh script) past → Each (IsFresh script) (es ++ past)
nones_fresh script [] past q fresh = fresh
nones_fresh script (e ∷ es) past q fresh = (none_fresh script (es ++ past) e q.0, nones_fresh script es past q.1 fresh)

-- what a step starts
pub speaks_fresh : (script : ScriptParts) (k m : Inst) (core : Core) (i : ℕ) (past es : Past) → IsWellFormed script → parts_of k.plan ≡ first_plan script i
    → Standing script k past → Unstarted k past → Took k m es → Speaks k core m.wave.entered es → Each (IsFresh script) past → Each (IsFresh script) (es ++ past)
speaks_fresh script k m core i past es fit plan stands u took_ (silent q) fresh = nones_fresh script es past (silents_no_start es q) fresh
speaks_fresh script k m core i past es fit plan stands u took_ (opens less now told) fresh =
    nones_fresh script es past (subst AreNoStarts (sym told) (openings_no_start k.plan.me core.waves.wave k.plan.openings [] tt)) fresh
speaks_fresh script k m core i past es fit plan stands u took_ (speaks_start z s idle now told) fresh =
    subst (λ (l : Past). Each (IsFresh script) (l ++ past)) (sym told) (
      inl (subst (λ (n : ℕ). stood (starts n) past ≡ false) (sym (next_stmt k z))
          (u z (course_at k z).next (start_there script k past z stands (inr now)) (omega arith) (λ busy. absurd (let no : true ≡ false = sym idle ∙ busy in cc)))),
      fresh,
    )
speaks_fresh script k m core i past es fit plan stands u took_ (restarts z s row wish busy asks told) fresh =
    subst (λ (l : Past). Each (IsFresh script) (l ++ past)) (sym told) (inr (again script k i z row wish fit plan asks), fresh)
speaks_fresh script k m core i past es fit plan stands u took_ (answers z e may of told) fresh =
    nones_fresh script es past (subst AreNoStarts (sym told) (answer_no_start e (stmt_at k z) of, tt)) fresh
speaks_fresh script k m core i past es fit plan stands u took_ (loses later first e split calm_ silent_) fresh = by (one_start k m es took_)
  where
    by : AreNoStarts es ⊎ ((z : ℕ) × (s : ℕ) × MayStart k z × (es ≡ Started (stmt_at k z) z s ∷ [])) → Each (IsFresh script) (es ++ past)
    by (inl none) = nones_fresh script es past none fresh
    by (inr p) = absurd (no_end es later first e split silent_ (subst (λ (l : Past). AllByRecursion (λ x. is_silent x ≡ false) l) (sym p.3) (refl, tt)))

-- a line behind all answers of its session isn't answered

same_line : (e : Entry) (m n : ℕ) → answered e ≡ Some m → answers_stmt n e ≡ true → n ≡ m
same_line e m n is hit = eqb-true n m (sym (ap (λ (o : Option ℕ). option_map_or (λ k. n == k) o false) is) ∙ hit)

unanswered : (script : ScriptParts) (n z : ℕ) (what : Stmt) → script_stmt script n ≡ Some (z, what) → (past : Past) → AreInTurn script past
    → last_answer script z past < n → stood (answers_stmt n) past ≡ false
unanswered script n z what line [] turns behind = refl
unanswered script n z what line (e ∷ past) turns behind = by (λ less. unanswered script n z what line past turns.1 less) (answered e) refl turns.0.0
  where
    miss : (answers_stmt n e ≡ true → ⊥) → stood (answers_stmt n) past ≡ false → stood (answers_stmt n) (e ∷ past) ≡ false
    miss not_ none = or_from (answers_stmt n e) (stood (answers_stmt n) past) (false_from_ne_true (answers_stmt n e) not_) none

    turn : (last_answer script z past < n → stood (answers_stmt n) past ≡ false) → (m : ℕ) → answered e ≡ Some m → (o : Option (ℕ × Stmt)) → script_stmt script m ≡ o
        → IsSomeAnd o (λ stmt. IsNext script stmt.0 m past × IsStarted e m past) → stood (answers_stmt n) (e ∷ past) ≡ false
    turn rest m is None at t = absurd t
    turn rest m is (Some other) at t = which (cases_eq other.0 z)
      where
        which : (other.0 ≡ z) ⊎ (other.0 ≡ z → ⊥) → stood (answers_stmt n) (e ∷ past) ≡ false
        which (inl same) =
            let last : last_answer script z (e ∷ past) ≡ m =
            subst (λ (x : ℕ). last_answer script x (e ∷ past) ≡ m) same (own_last script e m other.0 other.1 past is at) in
            let before : last_answer script z past < m = subst (λ (x : ℕ). last_answer script x past < m) same t.0.unanswered in
            miss (λ hit. (let number : n ≡ m = same_line e m n is hit in omega (arith, number, last, behind))) (rest (omega (arith, last, before, behind)))
        which (inr apart) =
            let stays : last_answer script z (e ∷ past) ≡ last_answer script z past =
            other_apart script z e m other.0 other.1 is at (λ same. apart (sym same)) (last_answer script z past) in
            miss (λ hit. apart (
            let both : Some (other.0, other.1) ≡ Some (z, what) = sym at ∙ ap (λ (k : ℕ). script_stmt script k) (sym (same_line e m n is hit)) ∙ line in
            (some_pair_parts other.0 z other.1 what both).0)) (rest (omega (arith, stays, behind)))

    by : (last_answer script z past < n → stood (answers_stmt n) past ≡ false) → (o : Option ℕ) → answered e ≡ o → IsAnsweredInTurn script past e o
        → stood (answers_stmt n) (e ∷ past) ≡ false
    by rest None none t =
        let stays : last_answer script z (e ∷ past) ≡ last_answer script z past = ap (λ (o : Option ℕ). last_after script z o (last_answer script z past)) none in
        miss (λ hit. (let no : false ≡ true = sym (ap (λ (o : Option ℕ). option_map_or (λ k. n == k) o false) none) ∙ hit in cc)) (rest (omega (arith, stays, behind)))
    by rest (Some m) is t = turn rest m is (script_stmt script m) refl t

pub not_answered_yet : (script : ScriptParts) (n z : ℕ) (what : Stmt) (past : Past) → script_stmt script n ≡ Some (z, what) → AreInTurn script past
    → IsNext script z n past → stood (answers_stmt n) past ≡ false
not_answered_yet script n z what past line turns next = unanswered script n z what line past turns next.unanswered

-- the earlier lines of a session are answered
pub next_of : (script : ScriptParts) (n z : ℕ) (past : Past) → IsWellFormed script → IsNext script z n past → is_next script z n past ≡ true
next_of script n z past fit next = all_lines (items_of script) (λ x h. h)
  where
    passes : (line : ℕ) (what : Stmt) → Stands (line, item.Stmt z what) (items_of script) → (n ≤ line) ⊎ (line < n) → (nat_le n line || stood (answers_stmt line) past) ≡ true
    passes line what h (inl le) = or_left (nat_le n line) (stood (answers_stmt line) past) (le-leb n line le)
    passes line what h (inr less) =
        or_right (nat_le n line) (stood (answers_stmt line) past)
        (next.earlier line what less (ap (λ (o : Option Item). option_and_then stmt_in o) (found 0 script.lines (items_of script) line (item.Stmt z what) fit.lines_rise h)))

    order : (line : ℕ) → (n ≤ line) ⊎ (line < n)
    order line = by (cases_lt line n)
      where
        by : (line < n) ⊎ (n ≤ line) → (n ≤ line) ⊎ (line < n)
        by (inl less) = inr less
        by (inr le) = inl le

    all_append : (xs ys : List ℕ) → list_all (λ line. nat_le n line || stood (answers_stmt line) past) xs ≡ true
        → list_all (λ line. nat_le n line || stood (answers_stmt line) past) ys ≡ true → list_all (λ line. nat_le n line || stood (answers_stmt line) past) (xs ++ ys) ≡ true
    all_append [] ys a b = b
    all_append (x ∷ xs) ys a b =
        let p = and_parts (nat_le n x || stood (answers_stmt x) past) (list_all (λ line. nat_le n line || stood (answers_stmt line) past) xs) a in
        and_from (nat_le n x || stood (answers_stmt x) past) (list_all (λ line. nat_le n line || stood (answers_stmt line) past) (xs ++ ys)) p.0 (all_append xs ys p.1 b)

    if_own : (line session : ℕ) (what : Stmt) (b : Bool) → nat_eq session z ≡ b → Stands (line, item.Stmt session what) (items_of script)
        → list_all (λ line. nat_le n line || stood (answers_stmt line) past) (if b then line ∷ [] else []) ≡ true
    if_own line session what true is h =
        and_from (nat_le n line || stood (answers_stmt line) past) true
        (passes line what (subst (λ (s : ℕ). Stands (line, item.Stmt s what) (items_of script)) (eqb-true session z is) h) (order line)) refl
    if_own line session what false is h = refl

    one : (line : ℕ) (it : Item) → Stands (line, it) (items_of script) → list_all (λ line. nat_le n line || stood (answers_stmt line) past) (line_turn z line it) ≡ true
    one line (item.Stmt session what) h = if_own line session what (nat_eq session z) refl h
    one line _ h = refl

    all_lines : (items : List (ℕ × Item)) → ((x : ℕ × Item) → Stands x items → Stands x (items_of script))
        → list_all (λ line. nat_le n line || stood (answers_stmt line) past) (lines_of z items) ≡ true
    all_lines [] in_ = refl
    all_lines (x ∷ items) in_ =
        all_append (line_turn z x.0 x.1) (lines_of z items) (one x.0 x.1 (in_ (x.0, x.1) (inl refl))) (all_lines items (λ y h. in_ y (inr h)))
