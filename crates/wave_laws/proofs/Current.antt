-- Which wave is current, and what an entry more changes of it.
use Rattle.std.proofs.Common.{◌≡◌, ℕ, zero, suc, ◌+◌, ◌<◌, ◌≤◌, Bool, true, false, List, [], ◌∷◌, ◌++◌, length, take, Some, None, if◌then◌else◌, refl, sym, ap, subst, ◌∙◌, ◌⊎◌, inl, inr, arith}
use Rattle.std.specs.Prelude.{◌==◌, ◌&&◌, ◌||◌, not, slice_index_or}
use Rattle.std.specs.List.{list_all, list_any}
use Rattle.std.proofs.lemmas.Bool.{and_from, and_left, and_right, eq-eqb, eqb-true, or_left, or_right}
use Rattle.journal.specs.declared.entry.Entry.{Entry}
use Rattle.journal.specs.declared.entry.Entry.TheVariants as entry
use Rattle.journal.specs.Past.{is_up as is_told_up, Past}
use Rattle.journal.specs.Stood.{stood}
use Rattle.script_text.specs.declared.item.Item.{Item}
use Rattle.script_text.specs.declared.item.Item.TheVariants as item
use Rattle.script_text.specs.declared.item.Stmt.{Stmt}
use Rattle.script_text.specs.Lines.{answered, answers_stmt, AreAnswered, current_wave, IsAnswered}
use Rattle.script_text.specs.Reading.{joined}
use Rattle.run_report.specs.Answers.{answers}
use Rattle.run_report.specs.Ends.{answers_any, ended_in, ends, is_answered, is_done, is_ended}
use Rattle.good_run.specs.ControlLines.{control_line, names_line}
use Rattle.wave_laws.proofs.Items.{Stands, stands_left, stands_right}
use Rattle.wave_laws.proofs.Ruled.{is_calm}

-- the first wave that isn't done

ge_first : (done : ℕ → ℕ × Item → Bool) (first : ℕ) (waves : List (List (ℕ × Item))) → first ≤ current_wave done (first + 1) waves
ge_first done first [] = omega arith
ge_first done first (w ∷ waves) = by (list_all (done (first + 1)) w) (ge_first done (first + 1) waves)
  where
    by : (b : Bool) → first + 1 ≤ current_wave done (first + 1 + 1) waves → first ≤ (if b then current_wave done (first + 1 + 1) waves else first + 1)
    by true le = omega (arith, le)
    by false le = omega arith

pub at_least : (done : ℕ → ℕ × Item → Bool) (first : ℕ) (waves : List (List (ℕ × Item))) (k : ℕ) → k < length waves
    → ((j : ℕ) → j < k → list_all (done (first + j)) (slice_index_or waves j []) ≡ true) → first + k ≤ current_wave done first waves
at_least done first [] k less all = absurd (omega (arith, less))
at_least done first (w ∷ waves) zero less all = by (list_all (done first) w) (ge_first done first waves)
  where
    by : (b : Bool) → first ≤ current_wave done (first + 1) waves → first + 0 ≤ (if b then current_wave done (first + 1) waves else first)
    by true le = omega (arith, le)
    by false le = omega arith
at_least done first (w ∷ waves) (suc k) less all =
    let here : list_all (done first) w ≡ true = subst (λ (n : ℕ). list_all (done n) w ≡ true) (zero_more first) (all 0 (omega arith)) in
    let later : first + 1 + k ≤ current_wave done (first + 1) waves =
    at_least done (first + 1) waves k (omega (arith, less))
    (λ j lower. subst (λ (n : ℕ). list_all (done n) (slice_index_or waves j []) ≡ true) (one_more first j) (all (suc j) (omega (arith, lower)))) in
    subst (λ (n : ℕ). first + suc k ≤ n) (sym (ap (λ (b : Bool). if b then current_wave done (first + 1) waves else first) here)) (omega (arith, later))
  where
    zero_more : (n : ℕ) → n + 0 ≡ n
    zero_more n = omega arith

    one_more : (n j : ℕ) → n + suc j ≡ n + 1 + j
    one_more n j = omega arith

pub all_from : (p : ℕ × Item → Bool) (xs : List (ℕ × Item)) → ((x : ℕ × Item) → Stands x xs → p x ≡ true) → list_all p xs ≡ true
all_from p [] each = refl
all_from p (x ∷ xs) each = and_from (p x) (list_all p xs) (each x (inl refl)) (all_from p xs (λ y h. each y (inr h)))

not_all : (p : ℕ × Item → Bool) (xs : List (ℕ × Item)) (x : ℕ × Item) → Stands x xs → p x ≡ false → list_all p xs ≡ false
not_all p [] x h e = absurd h
not_all p (y ∷ xs) x (inl same) e = and_left (p y) (list_all p xs) (ap p same ∙ e)
not_all p (y ∷ xs) x (inr h) e = and_right (p y) (list_all p xs) (not_all p xs x h e)

pub at_most : (done : ℕ → ℕ × Item → Bool) (first : ℕ) (waves : List (List (ℕ × Item))) (k : ℕ) (x : ℕ × Item) → Stands x (slice_index_or waves k [])
    → done (first + k) x ≡ false → current_wave done first waves ≤ first + k
at_most done first [] k x h e = absurd h
at_most done first (w ∷ waves) zero x h e =
    let is : current_wave done first (w ∷ waves) ≡ first =
    ap (λ (b : Bool). if b then current_wave done (first + 1) waves else first) (not_all (done first) w x h (subst (λ (n : ℕ). done n x ≡ false) (zero_more first) e)) in
    omega (arith, is)
  where
    zero_more : (n : ℕ) → n + 0 ≡ n
    zero_more n = omega arith
at_most done first (w ∷ waves) (suc k) x h e =
    by (list_all (done first) w) (at_most done (first + 1) waves k x h (subst (λ (n : ℕ). done n x ≡ false) (one_more first k) e))
  where
    one_more : (n j : ℕ) → n + suc j ≡ n + 1 + j
    one_more n j = omega arith

    by : (b : Bool) → current_wave done (first + 1) waves ≤ first + 1 + k → (if b then current_wave done (first + 1) waves else first) ≤ first + suc k
    by true le = omega (arith, le)
    by false le = omega arith

-- ends

or_none : (a b : Bool) → b ≡ false → (a || b) ≡ a
or_none true b e = refl
or_none false b e = e

-- an entry that ends an instance not
pub ended_same : (ever : ℕ → Bool) (waves : List (List (ℕ × Item))) (e : Entry) (past : Past) (j : ℕ) (down : Bool) (i : ℕ) → ends e i ≡ false
    → ended_in ever waves (e ∷ past) j down i ≡ ended_in ever waves past j down i
ended_same ever waves e past j down i none =
    or_none (ended_in ever waves past j down i) (ends e i && not (down && is_told_up i past) && (current_wave (is_done ever past (ended_in ever waves past)) 0 waves == j))
    (and_left (ends e i && not (down && is_told_up i past)) (current_wave (is_done ever past (ended_in ever waves past)) 0 waves == j)
    (and_left (ends e i) (not (down && is_told_up i past)) none))

pub ended_grows : (ever : ℕ → Bool) (waves : List (List (ℕ × Item))) (es : List Entry) (past : Past) (j : ℕ) (down : Bool) (i : ℕ)
    → ended_in ever waves past j down i ≡ true → ended_in ever waves (es ++ past) j down i ≡ true
ended_grows ever waves [] past j down i is = is
ended_grows ever waves (e ∷ es) past j down i is =
    or_left (ended_in ever waves (es ++ past) j down i)
    (ends e i && not (down && is_told_up i (es ++ past)) && (current_wave (is_done ever (es ++ past) (ended_in ever waves (es ++ past))) 0 waves == j))
    (ended_grows ever waves es past j down i is)

pub calm_ends : (e : Entry) (i : ℕ) → is_calm e ≡ true → ends e i ≡ false
calm_ends (entry.Ended inst bad) i q = absurd (let no : false ≡ true = q in cc)
calm_ends _ i q = refl

pub named_ends : (e : Entry) (i line : ℕ) → control_line e ≡ Some line → ends e i ≡ false
named_ends (entry.Crashed l inst) i line is = refl
named_ends (entry.Up l inst) i line is = refl
named_ends (entry.Moved l) i line is = refl
named_ends (entry.Checkpointed l) i line is = refl
named_ends (entry.NotDone l) i line is = refl
named_ends (entry.Ended inst bad) i line is = absurd (let no : None ≡ Some line = is in cc)
named_ends _ i line is = refl

-- answers

any_grows : (p : Entry → Bool) (es past : List Entry) → list_any p past ≡ true → list_any p (es ++ past) ≡ true
any_grows p [] past is = is
any_grows p (e ∷ es) past is = or_right (p e) (list_any p (es ++ past)) (any_grows p es past is)

pub stood_grows : (p : Entry → Bool) (es past : List Entry) → stood p past ≡ true → stood p (es ++ past) ≡ true
stood_grows p es past is = any_grows p es past is

ended_item_grows : (a b : ℕ → Bool → ℕ → Bool) (j : ℕ) (it : Item) → ((down : Bool) (i : ℕ) → a j down i ≡ true → b j down i ≡ true)
    → is_ended a j it ≡ true → is_ended b j it ≡ true
ended_item_grows a b j (item.CrashAfter inst steps keep) grows is = grows false inst is
ended_item_grows a b j (item.CrashMark inst keep) grows is = grows false inst is
ended_item_grows a b j (item.Start inst) grows is = grows true inst is
ended_item_grows a b j _ grows is = absurd (let no : false ≡ true = is in cc)

or_map : (a b c d : Bool) → (a ≡ true → c ≡ true) → (b ≡ true → d ≡ true) → (a || b) ≡ true → (c || d) ≡ true
or_map true b c d f g is = or_left c d (f refl)
or_map false b c d f g is = or_right c d (g is)

and_map : (a b d : Bool) → (b ≡ true → d ≡ true) → (a && b) ≡ true → (a && d) ≡ true
and_map true b d g is = g is
and_map false b d g is = is

-- what is answered stays so
pub answered_grows : (ever : ℕ → Bool) (waves : List (List (ℕ × Item))) (es past : List Entry) (j n : ℕ) (it : Item)
    → is_answered ever past (ended_in ever waves past) j (n, it) ≡ true → is_answered ever (es ++ past) (ended_in ever waves (es ++ past)) j (n, it) ≡ true
answered_grows ever waves es past j n it is =
    or_map (answers_any past n) (not (ever n) && is_ended (ended_in ever waves past) j it)
    (answers_any (es ++ past) n) (not (ever n) && is_ended (ended_in ever waves (es ++ past)) j it)
    (λ a. any_grows (answers n) es past a)
    (λ b. and_map (not (ever n)) (is_ended (ended_in ever waves past) j it) (is_ended (ended_in ever waves (es ++ past)) j it)
    (λ c. ended_item_grows (ended_in ever waves past) (ended_in ever waves (es ++ past)) j it (λ down i d. ended_grows ever waves es past j down i d) c) b) is

flip : (a b : ℕ) → (a == b) ≡ true → (b == a) ≡ true
flip a b e = eq-eqb b a (sym (eqb-true a b e))

stmt_answers : (n : ℕ) (e : Entry) → answers_stmt n e ≡ true → answers n e ≡ true
stmt_answers n (entry.Rows m rows) e = flip n m e
stmt_answers n (entry.Changed m x row f new) e = flip n m e
stmt_answers n (entry.Locked m x row) e = flip n m e
stmt_answers n (entry.Acked m x c) e = flip n m e
stmt_answers n (entry.Plain m) e = flip n m e
stmt_answers n (entry.Refused m cause) e = flip n m e
stmt_answers n _ e = absurd (let no : false ≡ true = e in cc)

any_map : (p q : Entry → Bool) (past : List Entry) → ((e : Entry) → p e ≡ true → q e ≡ true) → list_any p past ≡ true → list_any q past ≡ true
any_map p q [] f is = is
any_map p q (e ∷ past) f is = or_map (p e) (list_any p past) (q e) (list_any q past) (f e) (any_map p q past f) is

pub stmt_any : (n : ℕ) (past : Past) → stood (answers_stmt n) past ≡ true → answers_any past n ≡ true
stmt_any n past is = any_map (answers_stmt n) (answers n) past (stmt_answers n) is

name_answers : (n : ℕ) (e : Entry) → names_line n e ≡ true → answers n e ≡ true
name_answers n (entry.Crashed l inst) e = e
name_answers n (entry.Up l inst) e = e
name_answers n (entry.Moved l) e = e
name_answers n (entry.Checkpointed l) e = e
name_answers n (entry.NotDone l) e = e
name_answers n _ e = absurd (let no : false ≡ true = e in cc)

pub name_any : (n : ℕ) (past : Past) → stood (names_line n) past ≡ true → answers_any past n ≡ true
name_any n past is = any_map (names_line n) (answers n) past (name_answers n) is

-- an entry with a number names a control line, or answers a statement
pub either_answer : (n : ℕ) (e : Entry) → answers n e ≡ true → (names_line n e ≡ true) ⊎ (answered e ≡ Some n)
either_answer n (entry.Rows m rows) e = inr (ap Some (eqb-true m n e))
either_answer n (entry.Changed m x row f new) e = inr (ap Some (eqb-true m n e))
either_answer n (entry.Locked m x row) e = inr (ap Some (eqb-true m n e))
either_answer n (entry.Acked m x c) e = inr (ap Some (eqb-true m n e))
either_answer n (entry.Plain m) e = inr (ap Some (eqb-true m n e))
either_answer n (entry.Refused m cause) e = inr (ap Some (eqb-true m n e))
either_answer n (entry.Crashed l inst) e = inl e
either_answer n (entry.Up l inst) e = inl e
either_answer n (entry.Moved l) e = inl e
either_answer n (entry.Checkpointed l) e = inl e
either_answer n (entry.NotDone l) e = inl e
either_answer n _ e = absurd (let no : false ≡ true = e in cc)

-- statements of the earlier waves

pub stands_taken : (x : ℕ × Item) (waves : List (List (ℕ × Item))) (j k : ℕ) → Stands x (slice_index_or waves j []) → j < k → Stands x (joined (take k waves))
stands_taken x [] j k h less = absurd h
stands_taken x (w ∷ waves) j zero h less = absurd (omega (arith, less))
stands_taken x (w ∷ waves) zero (suc k) h less = stands_left x w (joined (take k waves)) h
stands_taken x (w ∷ waves) (suc j) (suc k) h less = stands_right x w (joined (take k waves)) (stands_taken x waves j k h (omega (arith, less)))

pub answered_in : (items : List (ℕ × Item)) (past : Past) (n z : ℕ) (what : Stmt) → AreAnswered items past → Stands (n, item.Stmt z what) items
    → stood (answers_stmt n) past ≡ true
answered_in [] past n z what all h = absurd h
answered_in (x ∷ items) past n z what all (inl same) = subst (λ (y : ℕ × Item). IsAnswered y.0 y.1 past) same all.0
answered_in (x ∷ items) past n z what all (inr h) = answered_in items past n z what all.1 h
