-- Each opening, start and answer stands in its wave or behind it.
use Rattle.std.proofs.Common.{◌≡◌, ℕ, zero, suc, ◌+◌, ◌-◌, ◌<◌, ◌≤◌, Bool, true, false, List, [], ◌∷◌, ◌++◌, length, take, Option, Some, None, if◌then◌else◌, refl, sym, ap, subst, ◌∙◌, ◌⊎◌, inl, inr, arith}
use Rattle.std.specs.Prelude.{◌==◌, ◌||◌, IsSomeAnd, is_some, slice_index_or}
use Rattle.std.specs.List.{AllByRecursion, enumerate_from, flat_map, fold, list_all, list_any}
use Rattle.std.specs.Option.{option_map_or}
use Rattle.std.proofs.lemmas.Bool.{and_from, eq-eqb, eqb-true, ne_eqb, or_left, or_right}
use Rattle.std.proofs.lemmas.Option.{none-some, same_Some}
use Rattle.journal.specs.declared.cause.Cause.TheVariants.{Lost}
use Rattle.journal.specs.declared.entry.Entry.{Entry}
use Rattle.journal.specs.declared.entry.Entry.TheVariants.{Opened, Refused, Started}
use Rattle.journal.specs.Past.{Past}
use Rattle.script_text.specs.declared.item.Item.{Item}
use Rattle.script_text.specs.declared.item.Item.TheVariants as item
use Rattle.script_text.specs.ScriptParts.{ScriptParts}
use Rattle.script_text.specs.Lines.{answered, current_wave, opening, opening_in}
use Rattle.script_text.specs.Reading.{items_of, joined}
use Rattle.script_text.specs.WellFormed.{AreOpened, IsOpened, IsWellFormed, opened_after}
use Rattle.inst_state.specs.declared.inst.Inst.{Inst}
use Rattle.inst_state.specs.declared.line.Line.{Line}
use Rattle.inst_state.specs.declared.plan.Opening.{Opening}
use Rattle.inst_state.specs.declared.plan.Plan.{Plan}
use Rattle.inst_state.specs.declared.shared.Core.{Core}
use Rattle.inst_state.specs.Sessions.{is_idle}
use Rattle.inst_state.specs.State.{in_wave, line_at, session_at, stmt_at}
use Rattle.inst_loss.specs.LostCore.{with_refusal}
use Rattle.wave_steps.specs.Enter.{told_if}
use Rattle.first_state.specs.Lines.{session_lines, turn_of, wave_lines}
use Rattle.first_state.specs.Plan.{first_plan, numbered, openings_at, openings_in, parts_of, PlanParts}
use Rattle.run_report.specs.Ends.{ended_in, is_done}
use Rattle.good_run.specs.Waves.{each_passes, has_begun, wave_at}
use Rattle.line_laws.proofs.Courses.{Course, course_at, line_is, lines_in, same_course}
use Rattle.line_laws.proofs.Entries.{is_quiet, is_silent, quiet_answers, Silents}
use Rattle.line_laws.proofs.Kept.{start_there, Standing}
use Rattle.line_laws.proofs.Losses.{next_stmt}
use Rattle.line_laws.proofs.Places.{elsewhere, here, Home, home}
use Rattle.line_laws.proofs.ScriptLines.{HasLine, line_at_place, line_in_wave, line_split, stmt_no, wave_no, wave_of}
use Rattle.line_laws.proofs.Timely.{number_below, number_from, number_here, number_later, wave_number}
use Rattle.line_laws.proofs.Took.{MayStart, Stays, Took}
use Rattle.line_laws.proofs.Took.{answers as took_answers, loses as took_loses, opens as took_opens, rests as took_rests, starts as took_starts}
use Rattle.wave_laws.proofs.Items.{Stands, stands_joined}
use Rattle.wave_laws.proofs.Speaks.{answers, loses, opens, restarts, silent, Speaks, starts}

-- a line of a wave up to the current one has begun

any_left : (p : ℕ × Item → Bool) (xs ys : List (ℕ × Item)) → list_any p xs ≡ true → list_any p (xs ++ ys) ≡ true
any_left p [] ys e = absurd (let no : false ≡ true = e in cc)
any_left p (x ∷ xs) ys e = by (p x) (any_left p xs ys) e
  where
    by : (b : Bool) → (list_any p xs ≡ true → list_any p (xs ++ ys) ≡ true) → (b || list_any p xs) ≡ true → (b || list_any p (xs ++ ys)) ≡ true
    by true rest e = refl
    by false rest e = rest e

any_right : (p : ℕ × Item → Bool) (xs ys : List (ℕ × Item)) → list_any p ys ≡ true → list_any p (xs ++ ys) ≡ true
any_right p [] ys e = e
any_right p (x ∷ xs) ys e = or_right (p x) (list_any p (xs ++ ys)) (any_right p xs ys e)

named_in : (n k d : ℕ) (waves : List (List (ℕ × Item))) → wave_number n k waves < k + d → d ≤ length waves
    → list_any (λ x. x.0 == n) (joined (take d waves)) ≡ true
named_in n k d [] less few = absurd (omega (arith, less, few))
named_in n k zero (w ∷ waves) less few = absurd (let from : k ≤ wave_number n k (w ∷ waves) = number_from n k (w ∷ waves) in omega (arith, less, from))
named_in n k (suc d) (w ∷ waves) less few = by (list_any (λ x. x.0 == n) w) refl less (λ later. named_in n (k + 1) d waves later (omega (arith, few)))
  where
    by : (b : Bool) → list_any (λ x. x.0 == n) w ≡ b → (if b then k else wave_number n (k + 1) waves) < k + suc d
        → (wave_number n (k + 1) waves < k + 1 + d → list_any (λ x. x.0 == n) (joined (take d waves)) ≡ true)
        → list_any (λ x. x.0 == n) (w ++ joined (take d waves)) ≡ true
    by true is less rest = any_left (λ x. x.0 == n) w (joined (take d waves)) is
    by false is less rest = any_right (λ x. x.0 == n) w (joined (take d waves)) (rest (omega (arith, less)))

below : (done : ℕ → ℕ × Item → Bool) (first : ℕ) (waves : List (List (ℕ × Item))) → 0 < length waves → current_wave done first waves < first + length waves
below done first [] some = absurd (omega (arith, some))
below done first (w ∷ []) some = by (list_all (done first) w)
  where
    by : (b : Bool) → (if b then first + 1 - 1 else first) < first + 1
    by true = omega arith
    by false = omega arith
below done first (w ∷ v ∷ waves) some = by (list_all (done first) w) (below done (first + 1) (v ∷ waves) (omega arith))
  where
    by : (b : Bool) → current_wave done (first + 1) (v ∷ waves) < first + 1 + suc (length waves)
        → (if b then current_wave done (first + 1) (v ∷ waves) else first) < first + suc (suc (length waves))
    by true less = omega (arith, less)
    by false less = omega arith

pub begun_by : (script : ScriptParts) (ever : ℕ → Bool) (past : Past) (n wave : ℕ) → IsWellFormed script → wave_number n 1 script.waves ≤ wave
    → wave - 1 ≤ wave_at ever script past → has_begun ever script past n ≡ true
begun_by script ever past n wave fit le reached =
    let less : wave_at ever script past < 0 + length script.waves = below (is_done ever past (ended_in ever script.waves past)) 0 script.waves fit.has_wave in
    named_in n 1 (wave_at ever script past + 1) script.waves (omega (arith, le, reached)) (omega (arith, less))

-- whether an opening, a start or an answer stands in its wave or behind it
abbrev pub begins : (ℕ → Bool) → ScriptParts → Past → Entry → Bool
begins ever script past (Opened session inst) = option_map_or (λ line. has_begun ever script past line.0) (opening session (items_of script)) false
begins ever script past (Started stmt session snapshot) = has_begun ever script past stmt
begins ever script past e = option_map_or (has_begun ever script past) (answered e) true

-- An entry that opens a session, starts a line or answers one does so with a line of a wave up to this one.
abbrev pub IsTold : ScriptParts → ℕ → Entry → Type 0
IsTold script wave (Opened session inst) = IsSomeAnd (opening session (items_of script)) (λ line. wave_number line.0 1 script.waves ≤ wave)
IsTold script wave (Started stmt session snapshot) = wave_number stmt 1 script.waves ≤ wave
IsTold script wave e = (n : ℕ) → answered e ≡ Some n → wave_number n 1 script.waves ≤ wave

abbrev pub AreTold : ScriptParts → ℕ → List Entry → Type 0
AreTold script wave [] = Unit {0}
AreTold script wave (e ∷ es) = IsTold script wave e × AreTold script wave es

opened_begins : (script : ScriptParts) (ever : ℕ → Bool) (past : Past) (wave : ℕ) (o : Option (ℕ × ℕ)) → IsWellFormed script
    → IsSomeAnd o (λ line. wave_number line.0 1 script.waves ≤ wave) → wave - 1 ≤ wave_at ever script past
    → option_map_or (λ line. has_begun ever script past line.0) o false ≡ true
opened_begins script ever past wave None fit told reached = absurd told
opened_begins script ever past wave (Some line) fit told reached = begun_by script ever past line.0 wave fit told reached

answer_begins : (script : ScriptParts) (ever : ℕ → Bool) (past : Past) (wave : ℕ) (o : Option ℕ) → IsWellFormed script
    → ((n : ℕ) → o ≡ Some n → wave_number n 1 script.waves ≤ wave) → wave - 1 ≤ wave_at ever script past
    → option_map_or (has_begun ever script past) o true ≡ true
answer_begins script ever past wave None fit told reached = refl
answer_begins script ever past wave (Some n) fit told reached = begun_by script ever past n wave fit (told n refl) reached

told_begins : (script : ScriptParts) (ever : ℕ → Bool) (past : Past) (wave : ℕ) (e : Entry) → IsWellFormed script → IsTold script wave e
    → wave - 1 ≤ wave_at ever script past → begins ever script past e ≡ true
told_begins script ever past wave (Opened session inst) fit told reached = opened_begins script ever past wave (opening session (items_of script)) fit told reached
told_begins script ever past wave (Started stmt session snapshot) fit told reached = begun_by script ever past stmt wave fit told reached
told_begins script ever past wave e fit told reached = answer_begins script ever past wave (answered e) fit told reached

pub passes_told : (script : ScriptParts) (ever : ℕ → Bool) (past es : Past) (wave : ℕ) → IsWellFormed script → AreTold script wave es
    → ((later : Past) → wave - 1 ≤ wave_at ever script (later ++ past)) → each_passes (begins ever script) past ≡ true
    → each_passes (begins ever script) (es ++ past) ≡ true
passes_told script ever past [] wave fit told reached passes = passes
passes_told script ever past (e ∷ es) wave fit told reached passes =
    and_from (begins ever script (es ++ past) e) (each_passes (begins ever script) (es ++ past))
    (told_begins script ever (es ++ past) wave e fit told.0 (reached es)) (passes_told script ever past es wave fit told.1 reached passes)

-- the line of a session

now_wave : (wave : ℕ) (o : Option Line) → is_some (in_wave wave o) ≡ true → wave_of o ≡ wave
now_wave wave None e = absurd (let no : false ≡ true = e in cc)
now_wave wave (Some line) e = by (line.wave == wave) refl e
  where
    by : (b : Bool) → (line.wave == wave) ≡ b → is_some (if b then Some line else None) ≡ true → line.wave ≡ wave
    by true is e = eqb-true line.wave wave is
    by false is e = absurd (let no : false ≡ true = e in cc)

-- The lines of an instance that are under way are of a wave up to this one, and so is the wave that it has entered.
pub record IsIn (wave : ℕ) (n : Inst) : Type 0 where
  pub entered : n.wave.entered ≤ wave
  pub busy : (z : ℕ) → (course_at n z).idle ≡ false → wave_no (lines_in n.plan z) (course_at n z).next ≤ wave

may_wave : (n : Inst) (wave z : ℕ) → IsIn wave n → MayStart n z → wave_no (lines_in n.plan z) (course_at n z).next ≤ wave
may_wave n wave z is (inl was) = is.busy z was
may_wave n wave z is (inr now) =
    let same : wave_no (lines_in n.plan z) (course_at n z).next ≡ n.wave.entered = ap wave_of (sym (line_is n z)) ∙ now_wave n.wave.entered (line_at n z) now in
    let le = is.entered in omega (arith, same, le)

-- a session's next line that may start, or has started, is of a wave up to the current one
line_told : (script : ScriptParts) (k : Inst) (i wave : ℕ) (past : Past) (z : ℕ) → parts_of k.plan ≡ first_plan script i → Standing script k past → IsIn wave k
    → MayStart k z → wave_number (stmt_at k z) 1 script.waves ≤ wave
line_told script k i wave past z plan stands is may =
    subst (λ (n : ℕ). wave_number n 1 script.waves ≤ wave) (sym (next_stmt k z)) (by (home script k.plan i z plan))
  where
    at : (course_at k z).next < length (lines_in k.plan z)
    at = start_there script k past z stands may

    le : wave_no (lines_in k.plan z) (course_at k z).next ≤ wave
    le = may_wave k wave z is may

    by : Home script k.plan i z → wave_number (stmt_no (lines_in k.plan z) (course_at k z).next) 1 script.waves ≤ wave
    by (elsewhere none) = absurd (let no : length (lines_in k.plan z) ≡ 0 = ap length none in omega (arith, at, no))
    by (here named there same) =
        let ls = session_lines z (numbered script) in
        let within : (course_at k z).next < length ls = subst (λ (l : List Line). (course_at k z).next < length l) same at in
        let low : wave_no ls (course_at k z).next ≤ wave = subst (λ (l : List Line). wave_no l (course_at k z).next ≤ wave) same le in
        let up : wave_number (stmt_no ls (course_at k z).next) 1 script.waves ≤ wave_no ls (course_at k z).next =
        number_below z (stmt_no ls (course_at k z).next) (wave_no ls (course_at k z).next) 1 script.waves (line_at_place ls (course_at k z).next within) in
        subst (λ (l : List Line). wave_number (stmt_no l (course_at k z).next) 1 script.waves ≤ wave) (sym same) (omega (arith, low, up))

-- the openings of a plan

pub opening_of : (opened : ℕ) (items : List (ℕ × Item)) (n z me : ℕ) → AreOpened opened items → Stands (n, item.Session z me) items
    → (opening z items ≡ Some (n, me)) × (opened ≤ z)
opening_of opened [] n z me each h = absurd h
opening_of opened (x ∷ items) n z me each (inl same) =
    let it : x.1 ≡ item.Session z me = ap (λ (y : ℕ × Item). y.1) same in
    let number : z ≡ opened = subst (λ (y : Item). IsOpened opened y) it each.0 in (
      ap (λ (y : Item). opening_in z x.0 y (opening z items)) it ∙ ap (λ (b : Bool). if b then Some (x.0, me) else opening z items) (eq-eqb z z refl)
          ∙ ap (λ (y : ℕ × Item). Some (y.0, me)) same,
      omega (arith, number),
    )
opening_of opened (x ∷ items) n z me each (inr h) =
    let later = opening_of (opened_after opened x.1) items n z me each.1 h in
    let skipped = skip x.0 x.1 (opening z items) each.0 later.1 in
    (skipped.0 ∙ later.0, skipped.1)
  where
    skip : (m : ℕ) (it : Item) (more : Option (ℕ × ℕ)) → IsOpened opened it → opened_after opened it ≤ z → (opening_in z m it more ≡ more) × (opened ≤ z)
    skip m (item.Session session inst) more is le =
        (ap (λ (b : Bool). if b then Some (m, inst) else more) (ne_eqb z session (λ same. omega (arith, same, is, le))), omega (arith, le))
    skip m _ more is le = (refl, le)

-- An opening is an item of its wave.
pub record IsPlanned (waves : List (List (ℕ × Item))) (me k : ℕ) (o : Opening) : Type 0 where
  pub n : ℕ
  pub j : ℕ
  pub stands : Stands (n, item.Session o.session me) (slice_index_or waves j [])
  pub wave : o.wave ≡ k + j

planned_append : (P : Opening → Type 0) (xs ys : List Opening) → AllByRecursion P xs → AllByRecursion P ys → AllByRecursion P (xs ++ ys)
planned_append P [] ys a b = b
planned_append P (x ∷ xs) ys a b = (a.0, planned_append P xs ys a.1 b)

pub planned_map : (P Q : Opening → Type 0) → ((o : Opening) → P o → Q o) → (xs : List Opening) → AllByRecursion P xs → AllByRecursion Q xs
planned_map P Q f [] a = tt
planned_map P Q f (x ∷ xs) a = (f x a.0, planned_map P Q f xs a.1)

planned_in : (me k : ℕ) (items all_ : List (ℕ × Item)) → ((x : ℕ × Item) → Stands x items → Stands x all_)
    → AllByRecursion (λ (o : Opening). (n : ℕ) × Stands (n, item.Session o.session me) all_ × (o.wave ≡ k)) (flat_map (openings_at me k) items)
planned_in me k [] all_ in_ = tt
planned_in me k (x ∷ items) all_ in_ =
    planned_append (λ (o : Opening). (n : ℕ) × Stands (n, item.Session o.session me) all_ × (o.wave ≡ k)) (openings_at me k (x.0, x.1)) (flat_map (openings_at me k) items)
    (one x.0 x.1 (in_ (x.0, x.1) (inl refl))) (planned_in me k items all_ (λ y h. in_ y (inr h)))
  where
    if_here : (n session inst : ℕ) (b : Bool) → (inst == me) ≡ b → Stands (n, item.Session session inst) all_
        → AllByRecursion (λ (o : Opening). (n : ℕ) × Stands (n, item.Session o.session me) all_ × (o.wave ≡ k)) (if b then record { wave = k; session = session } ∷ [] else [])
    if_here n session inst true is h = ((n, subst (λ (i : ℕ). Stands (n, item.Session session i) all_) (eqb-true inst me is) h, refl), tt)
    if_here n session inst false is h = tt

    one : (n : ℕ) (it : Item) → Stands (n, it) all_ → AllByRecursion (λ (o : Opening). (n : ℕ) × Stands (n, item.Session o.session me) all_ × (o.wave ≡ k)) (openings_at me k (n, it))
    one n (item.Session session inst) h = if_here n session inst (inst == me) refl h
    one n _ h = tt

planned : (me k : ℕ) (waves : List (List (ℕ × Item))) → AllByRecursion (IsPlanned waves me k) (flat_map (openings_in me) (enumerate_from k waves))
planned me k [] = tt
planned me k (w ∷ waves) =
    planned_append (IsPlanned (w ∷ waves) me k) (openings_in me (k, w)) (flat_map (openings_in me) (enumerate_from (k + 1) waves))
    (planned_map (λ (o : Opening). (n : ℕ) × Stands (n, item.Session o.session me) w × (o.wave ≡ k)) (IsPlanned (w ∷ waves) me k)
    (λ o p. record { n = p.0; j = 0; stands = p.1; wave = here_wave o.wave k p.2 }) (flat_map (openings_at me k) w) (planned_in me k w w (λ x h. h)))
    (planned_map (IsPlanned waves me (k + 1)) (IsPlanned (w ∷ waves) me k)
    (λ o p. record { n = p.n; j = suc p.j; stands = p.stands; wave = later_wave o.wave k p.j p.wave }) (flat_map (openings_in me) (enumerate_from (k + 1) waves)) (planned me (k + 1) waves))
  where
    here_wave : (a k : ℕ) → a ≡ k → a ≡ k + 0
    here_wave a k e = omega (arith, e)

    later_wave : (a k j : ℕ) → a ≡ k + 1 + j → a ≡ k + suc j
    later_wave a k j e = omega (arith, e)

pub planned_openings : (script : ScriptParts) (plan : Plan) (i : ℕ) → parts_of plan ≡ first_plan script i → AllByRecursion (IsPlanned script.waves plan.me 1) plan.openings
planned_openings script plan i same =
    subst (λ (me : ℕ). AllByRecursion (IsPlanned script.waves me 1) plan.openings) (sym (ap (λ (p : PlanParts). p.me) same))
    (subst (λ (os : List Opening). AllByRecursion (IsPlanned script.waves i 1) os) (sym (ap (λ (p : PlanParts). p.openings) same)) (planned i 1 script.waves))

number_at : (n k : ℕ) (it : Item) (waves : List (List (ℕ × Item))) (j : ℕ) → Stands (n, it) (slice_index_or waves j []) → wave_number n k waves ≤ k + j
number_at n k it [] j h = absurd h
number_at n k it (w ∷ waves) zero h = number_here k (wave_number n (k + 1) waves) (k + 0) (list_any (λ x. x.0 == n) w) (named w h) (zero_more k)
  where
    zero_more : (k : ℕ) → k + 0 ≡ k
    zero_more k = omega arith

    named : (xs : List (ℕ × Item)) → Stands (n, it) xs → list_any (λ x. x.0 == n) xs ≡ true
    named [] h = absurd h
    named (x ∷ xs) (inl same) = or_left (x.0 == n) (list_any (λ y. y.0 == n) xs) (eq-eqb x.0 n (ap (λ (y : ℕ × Item). y.0) same))
    named (x ∷ xs) (inr h) = or_right (x.0 == n) (list_any (λ y. y.0 == n) xs) (named xs h)
number_at n k it (w ∷ waves) (suc j) h =
    let later : wave_number n (k + 1) waves ≤ k + 1 + j = number_at n (k + 1) it waves j h in
    number_later k (wave_number n (k + 1) waves) (k + suc j) (list_any (λ x. x.0 == n) w) (number_from n (k + 1) waves) (omega (arith, later))

openings_told : (script : ScriptParts) (me wave : ℕ) (os : List Opening) (es : List Entry) → IsWellFormed script → AllByRecursion (IsPlanned script.waves me 1) os
    → AreTold script wave es → AreTold script wave (fold (told_if me wave) es os)
openings_told script me wave [] es fit planned_ told = told
openings_told script me wave (o ∷ os) es fit planned_ told =
    openings_told script me wave os (told_if me wave es o) fit planned_.1 (by (o.wave == wave) refl)
  where
    by : (b : Bool) → (o.wave == wave) ≡ b → AreTold script wave (if b then Opened o.session me ∷ es else es)
    by true is =
        let p = planned_.0 in
        let found = opening_of 0 (items_of script) p.n o.session me fit.items_opened (stands_joined (p.n, item.Session o.session me) script.waves p.j p.stands) in
        let low : wave_number p.n 1 script.waves ≤ 1 + p.j = number_at p.n 1 (item.Session o.session me) script.waves p.j p.stands in
        let now : o.wave ≡ wave = eqb-true o.wave wave is in
        let at : o.wave ≡ 1 + p.j = p.wave in
        (subst (λ (q : Option (ℕ × ℕ)). IsSomeAnd q (λ line. wave_number line.0 1 script.waves ≤ wave)) (sym found.0) (omega (arith, low, now, at)), told)
    by false is = told

-- what is told

silent_told : (script : ScriptParts) (wave : ℕ) (e : Entry) → is_silent e ≡ true → IsTold script wave e
silent_told script wave (Opened session inst) q = absurd (let no : false ≡ true = q in cc)
silent_told script wave (Started stmt session snapshot) q = absurd (let no : false ≡ true = q in cc)
silent_told script wave e q = λ n is. absurd (none-some n (sym (quiet_answers e (silent_quiet_one e q)) ∙ is))
  where
    silent_quiet_one : (e : Entry) → is_silent e ≡ true → is_quiet e ≡ true
    silent_quiet_one (Opened session inst) s = refl
    silent_quiet_one _ s = s

silents_told : (script : ScriptParts) (wave : ℕ) (es : List Entry) → Silents es → AreTold script wave es
silents_told script wave [] q = tt
silents_told script wave (e ∷ es) q = (silent_told script wave e q.0, silents_told script wave es q.1)

told_append : (script : ScriptParts) (wave : ℕ) (xs ys : List Entry) → AreTold script wave xs → AreTold script wave ys → AreTold script wave (xs ++ ys)
told_append script wave [] ys a b = b
told_append script wave (x ∷ xs) ys a b = (a.0, told_append script wave xs ys a.1 b)

answer_told : (script : ScriptParts) (wave : ℕ) (e : Entry) (n : ℕ) → answered e ≡ Some n → wave_number n 1 script.waves ≤ wave → IsTold script wave e
answer_told script wave (Opened session inst) n is le = absurd (none-some n is)
answer_told script wave (Started stmt session snapshot) n is le = absurd (none-some n is)
answer_told script wave e n is le = λ m same. subst (λ (k : ℕ). wave_number k 1 script.waves ≤ wave) (same_Some n m (sym is ∙ same)) le

refusals_told : (script : ScriptParts) (wave : ℕ) (k : Inst) (zs : List ℕ) (es : List Entry)
    → ((z : ℕ) → (course_at k z).idle ≡ false → wave_number (stmt_at k z) 1 script.waves ≤ wave) → AreTold script wave es → AreTold script wave (fold (with_refusal k) es zs)
refusals_told script wave k [] es each told = told
refusals_told script wave k (z ∷ zs) es each told =
    refusals_told script wave k zs (with_refusal k es z) each (by (is_idle (session_at k z).doing) refl)
  where
    by : (b : Bool) → is_idle (session_at k z).doing ≡ b → AreTold script wave (if b then es else Refused (stmt_at k z) Lost ∷ es)
    by true is = told
    by false is = (answer_told script wave (Refused (stmt_at k z) Lost) (stmt_at k z) refl (each z is), told)

same_stmt_at : (k m : Inst) (z : ℕ) → Stays k m → stmt_at m z ≡ stmt_at k z
same_stmt_at k m z same =
    next_stmt m z ∙ ap (λ (p : Plan). stmt_no (lines_in p z) (course_at m z).next) same.plan
    ∙ ap (λ (c : Course). stmt_no (lines_in k.plan z) c.next) (same_course k m z same.course) ∙ sym (next_stmt k z)

-- an entry of an end among entries that all speak of sessions
pub no_end : (es later first : List Entry) (e : Entry) → es ≡ later ++ e ∷ first → is_silent e ≡ true → AllByRecursion (λ x. is_silent x ≡ false) es → ⊥
no_end es later first e split is all =
    let no : true ≡ false = sym is ∙ at later (subst (λ (l : List Entry). AllByRecursion (λ x. is_silent x ≡ false) l) split all) in cc
  where
    at : (later : List Entry) → AllByRecursion (λ x. is_silent x ≡ false) (later ++ e ∷ first) → is_silent e ≡ false
    at [] all = all.0
    at (x ∷ later) all = at later all.1

pub answer_speaks : (e : Entry) (n : ℕ) → answered e ≡ Some n → is_silent e ≡ false
answer_speaks e n is = by (is_silent e) refl
  where
    quiet_of : (e : Entry) → is_silent e ≡ true → is_quiet e ≡ true
    quiet_of (Opened session inst) s = refl
    quiet_of _ s = s

    by : (b : Bool) → is_silent e ≡ b → b ≡ false
    by true q = absurd (none-some n (sym (quiet_answers e (quiet_of e q)) ∙ is))
    by false q = refl

pub openings_speak : (me wave : ℕ) (os : List Opening) (es : List Entry) → AllByRecursion (λ x. is_silent x ≡ false) es
    → AllByRecursion (λ x. is_silent x ≡ false) (fold (told_if me wave) es os)
openings_speak me wave [] es all = all
openings_speak me wave (o ∷ os) es all = openings_speak me wave os (told_if me wave es o) (by (o.wave == wave))
  where
    by : (b : Bool) → AllByRecursion (λ x. is_silent x ≡ false) (if b then Opened o.session me ∷ es else es)
    by true = (refl, all)
    by false = all

loss_told : (script : ScriptParts) (k m : Inst) (i wave : ℕ) (past : Past) (es later first : List Entry) (e : Entry) → parts_of k.plan ≡ first_plan script i
    → Standing script k past → IsIn wave k → es ≡ later ++ e ∷ first → is_silent e ≡ true → Took k m es → AreTold script wave es
loss_told script k m i wave past es later first e plan stands is split silent_ (took_rests same q) = silents_told script wave es q
loss_told script k m i wave past es later first e plan stands is split silent_ (took_opens same told) =
    absurd (no_end es later first e split silent_ (subst (λ (l : List Entry). AllByRecursion (λ x. is_silent x ≡ false) l) (sym told) (openings_speak k.plan.me m.wave.entered k.plan.openings [] tt)))
loss_told script k m i wave past es later first e plan stands is split silent_ (took_starts z s same begins_ set told) =
    absurd (no_end es later first e split silent_ (subst (λ (l : List Entry). AllByRecursion (λ x. is_silent x ≡ false) l) (sym told) (refl, tt)))
loss_told script k m i wave past es later first e plan stands is split silent_ (took_answers z x same begins_ set of told) =
    absurd (no_end es later first e split silent_ (subst (λ (l : List Entry). AllByRecursion (λ x. is_silent x ≡ false) l) (sym told) (answer_speaks x (stmt_at k z) of, tt)))
loss_told script k m i wave past es later first e plan stands is split silent_ (took_loses q quiet same is_lost silents_ told) =
    subst (λ (l : List Entry). AreTold script wave l) (sym told)
    (told_append script wave (fold (with_refusal q) [] q.plan.mine) quiet
    (refusals_told script wave q q.plan.mine [] (λ z busy. subst (λ (n : ℕ). wave_number n 1 script.waves ≤ wave) (sym (same_stmt_at k q z same))
    (line_told script k i wave past z plan stands is (inl (sym (ap (λ (c : Course). c.idle) (same_course k q z same.course)) ∙ busy)))) tt)
    (silents_told script wave quiet silents_))

-- all that a step tells of sessions is of a wave up to the current one
pub speaks_told : (script : ScriptParts) (k m : Inst) (core : Core) (i : ℕ) (past : Past) (es : List Entry) → IsWellFormed script → parts_of k.plan ≡ first_plan script i
    → Standing script k past → IsIn core.waves.wave k → Took k m es → Speaks k core m.wave.entered es → AreTold script core.waves.wave es
speaks_told script k m core i past es fit plan stands is took_ (silent q) = silents_told script core.waves.wave es q
speaks_told script k m core i past es fit plan stands is took_ (opens less now told) =
    subst (λ (l : List Entry). AreTold script core.waves.wave l) (sym told)
    (openings_told script k.plan.me core.waves.wave k.plan.openings [] fit (planned_openings script k.plan i plan) tt)
speaks_told script k m core i past es fit plan stands is took_ (starts z s idle now told) =
    subst (λ (l : List Entry). AreTold script core.waves.wave l) (sym told) (line_told script k i core.waves.wave past z plan stands is (inr now), tt)
speaks_told script k m core i past es fit plan stands is took_ (restarts z s row wish busy asks told) =
    subst (λ (l : List Entry). AreTold script core.waves.wave l) (sym told) (line_told script k i core.waves.wave past z plan stands is (inl busy), tt)
speaks_told script k m core i past es fit plan stands is took_ (answers z e may of told) =
    subst (λ (l : List Entry). AreTold script core.waves.wave l) (sym told)
    (answer_told script core.waves.wave e (stmt_at k z) of (line_told script k i core.waves.wave past z plan stands is may), tt)
speaks_told script k m core i past es fit plan stands is took_ (loses later first e split calm_ silent_) =
    loss_told script k m i core.waves.wave past es later first e plan stands is split silent_ took_
