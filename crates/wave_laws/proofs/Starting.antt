-- A line starts once, but that a change or a lock may start again.
use Rattle.std.proofs.Common.{◌≡◌, ℕ, ◌+◌, ◌-◌, ◌^◌, ◌<◌, ◌≤◌, min, Bool, true, false, List, [], ◌∷◌, ◌++◌, length, Some, if◌then◌else◌, refl, sym, ap, subst, ◌∙◌, ◌⊎◌, inl, inr, arith}
use Rattle.std.specs.Prelude.{◌==◌}
use Rattle.std.specs.List.{AllByRecursion, fold}
use Rattle.std.proofs.lemmas.Bool.{cases_eq, ne_eqb, or_from}
use Rattle.std.proofs.lemmas.Option.{none-some}
use Rattle.std.proofs.lemmas.Option.{some_pair_parts}
use Rattle.journal.specs.declared.cause.Cause.TheVariants.{Lost}
use Rattle.journal.specs.declared.entry.Entry.{Entry}
use Rattle.journal.specs.declared.entry.Entry.TheVariants.{Opened, Refused, Started}
use Rattle.journal.specs.Past.{Past}
use Rattle.journal.specs.Stood.{stood}
use Rattle.script_text.specs.ScriptParts.{ScriptParts}
use Rattle.script_text.specs.Lines.{answered, stmt_at as script_stmt}
use Rattle.script_text.specs.WellFormed.{IsWellFormed}
use Rattle.inst_state.specs.declared.inst.Inst.{Inst}
use Rattle.inst_state.specs.declared.line.Line.{Line}
use Rattle.inst_state.specs.declared.plan.Opening.{Opening}
use Rattle.inst_state.specs.declared.plan.Plan.{Plan}
use Rattle.inst_state.specs.Sessions.{is_idle}
use Rattle.inst_state.specs.State.{session_at, stmt_at}
use Rattle.inst_loss.specs.LostCore.{with_refusal}
use Rattle.wave_steps.specs.Enter.{told_if}
use Rattle.first_state.specs.Plan.{first_plan, parts_of}
use Rattle.good_run.specs.Turns.{starts}
use Rattle.line_laws.proofs.Courses.{Course, course_at, halted, lines_in, other_course, passed, same_course, set_course, under_way}
use Rattle.line_laws.proofs.Entries.{is_silent, Silents}
use Rattle.line_laws.proofs.Kept.{answer_there, start_there, Standing}
use Rattle.line_laws.proofs.Losses.{lost_at, next_stmt, Placed}
use Rattle.line_laws.proofs.Places.{apart, placed}
use Rattle.line_laws.proofs.ScriptLines.{AreLines, stmt_no}
use Rattle.line_laws.proofs.Took.{MayStart, Took}
use Rattle.line_laws.proofs.Took.{answers as took_answers, loses as took_loses, opens as took_opens, rests as took_rests, starts as took_starts}

-- entries that start nothing

abbrev pub IsNoStart : Entry → Type 0
IsNoStart e = (q : ℕ) → starts q e ≡ false

abbrev pub AreNoStarts : List Entry → Type 0
AreNoStarts es = AllByRecursion IsNoStart es

silent_no_start : (e : Entry) → is_silent e ≡ true → IsNoStart e
silent_no_start (Started n z s) q = absurd (let no : false ≡ true = q in cc)
silent_no_start _ q = λ k. refl

pub silents_no_start : (es : List Entry) → Silents es → AreNoStarts es
silents_no_start [] q = tt
silents_no_start (e ∷ es) q = (silent_no_start e q.0, silents_no_start es q.1)

pub answer_no_start : (e : Entry) (n : ℕ) → answered e ≡ Some n → IsNoStart e
answer_no_start (Started m z s) n is = absurd (none-some n is)
answer_no_start _ n is = λ k. refl

pub openings_no_start : (me wave : ℕ) (os : List Opening) (es : List Entry) → AreNoStarts es → AreNoStarts (fold (told_if me wave) es os)
openings_no_start me wave [] es q = q
openings_no_start me wave (o ∷ os) es q = openings_no_start me wave os (told_if me wave es o) (by (o.wave == wave))
  where
    by : (b : Bool) → AreNoStarts (if b then Opened o.session me ∷ es else es)
    by true = ((λ k. refl), q)
    by false = q

refusals_no_start : (k : Inst) (zs : List ℕ) (es : List Entry) → AreNoStarts es → AreNoStarts (fold (with_refusal k) es zs)
refusals_no_start k [] es q = q
refusals_no_start k (z ∷ zs) es q = refusals_no_start k zs (with_refusal k es z) (by (is_idle (session_at k z).doing))
  where
    by : (b : Bool) → AreNoStarts (if b then es else Refused (stmt_at k z) Lost ∷ es)
    by true = q
    by false = ((λ k. refl), q)

no_starts_append : (xs ys : List Entry) → AreNoStarts xs → AreNoStarts ys → AreNoStarts (xs ++ ys)
no_starts_append [] ys a b = b
no_starts_append (x ∷ xs) ys a b = (a.0, no_starts_append xs ys a.1 b)

-- a step starts nothing, or one line
pub one_start : (k m : Inst) (es : List Entry) → Took k m es
    → AreNoStarts es ⊎ ((z : ℕ) × (s : ℕ) × MayStart k z × (es ≡ Started (stmt_at k z) z s ∷ []))
one_start k m es (took_rests same q) = inl (silents_no_start es q)
one_start k m es (took_opens same told) = inl (subst AreNoStarts (sym told) (openings_no_start k.plan.me m.wave.entered k.plan.openings [] tt))
one_start k m es (took_starts z s same may set told) = inr (z, s, may, told)
one_start k m es (took_answers z e same may set of told) = inl (subst AreNoStarts (sym told) (answer_no_start e (stmt_at k z) of, tt))
one_start k m es (took_loses q quiet same is silents told) =
    inl (subst AreNoStarts (sym told) (no_starts_append (fold (with_refusal q) [] q.plan.mine) quiet (refusals_no_start q q.plan.mine [] tt) (silents_no_start quiet silents)))

pub not_started : (n : ℕ) (es past : Past) → AreNoStarts es → stood (starts n) past ≡ false → stood (starts n) (es ++ past) ≡ false
not_started n [] past q none = none
not_started n (e ∷ es) past q none = or_from (starts n e) (stood (starts n) (es ++ past)) (q.0 n) (not_started n es past q.1 none)

-- The lines of a session that weren't begun yet haven't started.
abbrev pub AreUnstarted : List Line → Course → Past → Type 0
AreUnstarted ls c past = (j : ℕ) → j < length ls → c.next ≤ j → (c.idle ≡ false → c.next < j) → stood (starts (stmt_no ls j)) past ≡ false

abbrev pub Unstarted : Inst → Past → Type 0
Unstarted n past = (z : ℕ) → AreUnstarted (lines_in n.plan z) (course_at n z) past

unstarted_as : (k m : Inst) (past : Past) (z : ℕ) (c : Course) → m.plan ≡ k.plan → course_at m z ≡ c → AreUnstarted (lines_in k.plan z) c past
    → AreUnstarted (lines_in m.plan z) (course_at m z) past
unstarted_as k m past z c plan course u =
    subst (λ (p : Plan). AreUnstarted (lines_in p z) (course_at m z) past) (sym plan)
    (subst (λ (d : Course). AreUnstarted (lines_in k.plan z) d past) (sym course) u)

grown : (ls : List Line) (c : Course) (es past : Past) → AreNoStarts es → AreUnstarted ls c past → AreUnstarted ls c (es ++ past)
grown ls c es past q u j at from busy = not_started (stmt_no ls j) es past q (u j at from busy)

-- lines with one number are of one session
one_session : (script : ScriptParts) (y z i j : ℕ) (ls ms : List Line) → AreLines script y ls → AreLines script z ms → i < length ls → j < length ms
    → stmt_no ls i ≡ stmt_no ms j → y ≡ z
one_session script y z i j ls ms a b within at same =
    let first = a.are i within in
    let later = b.are j at in
    let both : Some (y, first.0) ≡ Some (z, later.0) = sym first.1 ∙ ap (λ (k : ℕ). script_stmt script k) same ∙ later.1 in
    (some_pair_parts y z first.0 later.0 both).0

-- one number is at one place of a session
one_place : (script : ScriptParts) (z i j : ℕ) (ls : List Line) → AreLines script z ls → i < j → j < length ls → stmt_no ls j ≡ stmt_no ls i → ⊥
one_place script z i j ls a less at same = let up : stmt_no ls i < stmt_no ls j = a.rise i j less at in omega (arith, up, same)

-- the lines of an instance after one of them has started
started_other : (script : ScriptParts) (k x : Inst) (past : Past) (z s y : ℕ) (c : Course) → ((w : ℕ) → AreLines script w (lines_in k.plan w))
    → ((w : ℕ) → AreLines script w (lines_in x.plan w)) → (course_at k z).next < length (lines_in k.plan z)
    → ((j : ℕ) → j < length (lines_in x.plan y) → c.next ≤ j → (c.idle ≡ false → c.next < j) → y ≡ z → (stmt_no (lines_in x.plan y) j ≡ stmt_no (lines_in k.plan z) (course_at k z).next) → ⊥)
    → AreUnstarted (lines_in x.plan y) c past → AreUnstarted (lines_in x.plan y) c (Started (stmt_at k z) z s ∷ past)
started_other script k x past z s y c a b at other u j within from busy =
    or_from (starts (stmt_no (lines_in x.plan y) j) (Started (stmt_at k z) z s)) (stood (starts (stmt_no (lines_in x.plan y) j)) past)
    (ne_eqb (stmt_no (lines_in x.plan y) j) (stmt_at k z) (λ same. (
    let equal : stmt_no (lines_in x.plan y) j ≡ stmt_no (lines_in k.plan z) (course_at k z).next = same ∙ next_stmt k z in
    other j within from busy (one_session script y z j (course_at k z).next (lines_in x.plan y) (lines_in k.plan z) (b y) (a z) within at equal) equal)))
    (u j within from busy)

next_within : (next len : ℕ) → next < len → len ≤ 10000 → min (next + 1) (2 ^ 64 - 1) ≡ next + 1
next_within next len less few = omega (arith, less, few)

-- what a step of an instance leaves of it
pub took_unstarted : (script : ScriptParts) (k m : Inst) (past es : Past) → Placed script k.plan (length k.sessions) → Standing script k past → Took k m es
    → Unstarted k past → Unstarted m (es ++ past)
took_unstarted script k m past es here_ stands (took_rests same q) u z =
    unstarted_as k m (es ++ past) z (course_at k z) same.plan (same_course k m z same.course) (grown (lines_in k.plan z) (course_at k z) es past (silents_no_start es q) (u z))
took_unstarted script k m past es here_ stands (took_opens same told) u z =
    unstarted_as k m (es ++ past) z (course_at k z) same.plan (same_course k m z same.course) (grown (lines_in k.plan z) (course_at k z) es past
    (subst AreNoStarts (sym told) (openings_no_start k.plan.me m.wave.entered k.plan.openings [] tt)) (u z))
took_unstarted script k m past es here_ stands (took_starts y s plan may set told) u z =
    subst (λ (l : Past). AreUnstarted (lines_in m.plan z) (course_at m z) (l ++ past)) (sym told) (by (cases_eq z y))
  where
    at : (course_at k y).next < length (lines_in k.plan y)
    at = start_there script k past y stands may

    there : y < length k.sessions
    there = here_.there y (omega (arith, at))

    by : (z ≡ y) ⊎ (z ≡ y → ⊥) → AreUnstarted (lines_in m.plan z) (course_at m z) (Started (stmt_at k y) y s ∷ past)
    by (inl same) =
        subst (λ (w : ℕ). AreUnstarted (lines_in m.plan w) (course_at m w) (Started (stmt_at k y) y s ∷ past)) (sym same)
        (unstarted_as k m (Started (stmt_at k y) y s ∷ past) y (under_way (course_at k y)) plan (set_course k m y (under_way (course_at k y)) set there)
        (started_other script k k past y s y (under_way (course_at k y)) here_.lines here_.lines at
        (λ j within from busy is equal. one_place script y (course_at k y).next j (lines_in k.plan y) (here_.lines y) (busy refl) within equal)
        (λ j within from busy. u y j within from (λ idle. busy refl))))
    by (inr other) =
        unstarted_as k m (Started (stmt_at k y) y s ∷ past) z (course_at k z) plan (other_course k m y (under_way (course_at k y)) z set other)
        (started_other script k k past y s z (course_at k z) here_.lines here_.lines at (λ j within from busy is equal. other is) (u z))
took_unstarted script k m past es here_ stands (took_answers y e plan may set of told) u z =
    subst (λ (l : Past). AreUnstarted (lines_in m.plan z) (course_at m z) (l ++ past)) (sym told) (by (cases_eq z y))
  where
    at : (course_at k y).next < length (lines_in k.plan y)
    at = answer_there script k past y e stands may

    there : y < length k.sessions
    there = here_.there y (omega (arith, at))

    by : (z ≡ y) ⊎ (z ≡ y → ⊥) → AreUnstarted (lines_in m.plan z) (course_at m z) (e ∷ past)
    by (inl same) =
        subst (λ (w : ℕ). AreUnstarted (lines_in m.plan w) (course_at m w) (e ∷ past)) (sym same)
        (unstarted_as k m (e ∷ past) y (passed (course_at k y)) plan (set_course k m y (passed (course_at k y)) set there)
        (grown (lines_in k.plan y) (passed (course_at k y)) (e ∷ []) past (answer_no_start e (stmt_at k y) of, tt)
        (λ j within from busy. (
        let few : j < 10000 = (here_.lines y).few j within in
        let up : (course_at k y).next < j = passed_up (course_at k y).next j few from in
        u y j within (omega (arith, up)) (λ idle. up)))))
      where
        passed_up : (next j : ℕ) → j < 10000 → min (next + 1) (2 ^ 64 - 1) ≤ j → next < j
        passed_up next j few le = omega (arith, few, le)
    by (inr other) =
        unstarted_as k m (e ∷ past) z (course_at k z) plan (other_course k m y (passed (course_at k y)) z set other)
        (grown (lines_in k.plan z) (course_at k z) (e ∷ []) past (answer_no_start e (stmt_at k y) of, tt) (u z))
took_unstarted script k m past es here_ stands (took_loses q quiet same is silents told) u z =
    subst (λ (n : Inst). AreUnstarted (lines_in n.plan z) (course_at n z) (es ++ past)) (sym is)
    (subst (λ (c : Course). AreUnstarted (lines_in q.plan z) c (es ++ past)) (sym (lost_at q z))
    (subst (λ (p : Plan). AreUnstarted (lines_in p z) (halted (course_at q z)) (es ++ past)) (sym same.plan)
    (subst (λ (c : Course). AreUnstarted (lines_in k.plan z) (halted c) (es ++ past)) (sym (same_course k q z same.course))
    (grown (lines_in k.plan z) (halted (course_at k z)) es past none (by (course_at k z).idle refl)))))
  where
    none : AreNoStarts es
    none = subst AreNoStarts (sym told) (no_starts_append (fold (with_refusal q) [] q.plan.mine) quiet (refusals_no_start q q.plan.mine [] tt) (silents_no_start quiet silents))

    passed_up : (next j : ℕ) → j < 10000 → min (next + 1) (2 ^ 64 - 1) ≤ j → next < j
    passed_up next j few le = omega (arith, few, le)

    halted_next : (b : Bool) → (course_at k z).idle ≡ b → (halted (course_at k z)).next ≡ (if b then (course_at k z).next else min ((course_at k z).next + 1) (2 ^ 64 - 1))
    halted_next b e = ap (λ (x : Bool). if x then (course_at k z).next else min ((course_at k z).next + 1) (2 ^ 64 - 1)) e

    by : (b : Bool) → (course_at k z).idle ≡ b → AreUnstarted (lines_in k.plan z) (halted (course_at k z)) past
    by true e j within from busy =
        let n = halted_next true e in u z j within (omega (arith, n, from)) (λ idle. absurd (let no : true ≡ false = sym e ∙ idle in cc))
    by false e j within from busy =
        let n = halted_next false e in
        let few : j < 10000 = (here_.lines z).few j within in
        let up : (course_at k z).next < j = passed_up (course_at k z).next j few (omega (arith, n, from)) in
        u z j within (omega (arith, up)) (λ idle. up)

-- and of it in the others
pub other_unstarted : (script : ScriptParts) (k m x : Inst) (i y : ℕ) (past es : Past) → IsWellFormed script → (y ≡ i → ⊥) → parts_of k.plan ≡ first_plan script i
    → parts_of x.plan ≡ first_plan script y → Standing script k past → Took k m es → Unstarted x past → Unstarted x (es ++ past)
other_unstarted script k m x i y past es fit other plan plan_x stands took_ u z = by (one_start k m es took_)
  where
    by : AreNoStarts es ⊎ ((w : ℕ) × (s : ℕ) × MayStart k w × (es ≡ Started (stmt_at k w) w s ∷ [])) → AreUnstarted (lines_in x.plan z) (course_at x z) (es ++ past)
    by (inl none) = grown (lines_in x.plan z) (course_at x z) es past none (u z)
    by (inr p) =
        let at : (course_at k p.0).next < length (lines_in k.plan p.0) = start_there script k past p.0 stands p.2 in
        subst (λ (l : Past). AreUnstarted (lines_in x.plan z) (course_at x z) (l ++ past)) (sym p.3)
        (started_other script k x past p.0 p.1 z (course_at x z) (placed script k.plan i fit plan).lines (placed script x.plan y fit plan_x).lines at
        (λ j within from busy is equal. away p.0 at j within is (apart script k.plan x.plan i y p.0 other plan plan_x)) (u z))
      where
        away : (w : ℕ) → (course_at k w).next < length (lines_in k.plan w) → (j : ℕ) → j < length (lines_in x.plan z) → z ≡ w
            → (length (lines_in x.plan w) ≡ 0) ⊎ (length (lines_in k.plan w) ≡ 0) → ⊥
        away w at j within is (inl none) =
            let len : length (lines_in x.plan z) ≡ 0 = ap (λ (v : ℕ). length (lines_in x.plan v)) is ∙ none in omega (arith, within, len)
        away w at j within is (inr none) = omega (arith, at, none)
