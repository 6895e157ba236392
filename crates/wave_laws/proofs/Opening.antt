-- Each session is opened once.
use Rattle.std.proofs.Common.{◌≡◌, ℕ, ◌+◌, ◌<◌, ◌≤◌, Bool, true, false, List, [], ◌∷◌, ◌++◌, Some, if◌then◌else◌, refl, sym, ap, subst, ◌∙◌, ◌⊎◌, inl, inr, arith}
use Rattle.std.specs.Prelude.{◌==◌}
use Rattle.std.specs.List.{AllByRecursion, enumerate_from, flat_map, fold}
use Rattle.std.proofs.lemmas.Bool.{eq-eqb, eqb-true, ne_eqb, or_from}
use Rattle.std.proofs.lemmas.Option.{none-some, some_pair_parts}
use Rattle.journal.specs.declared.cause.Cause.TheVariants.{Lost}
use Rattle.journal.specs.declared.entry.Entry.{Entry}
use Rattle.journal.specs.declared.entry.Entry.TheVariants.{Opened, Refused}
use Rattle.journal.specs.Past.{Each, Past}
use Rattle.journal.specs.Stood.{stood}
use Rattle.script_text.specs.declared.item.Item.{Item}
use Rattle.script_text.specs.declared.item.Item.TheVariants as item
use Rattle.script_text.specs.ScriptParts.{ScriptParts}
use Rattle.script_text.specs.Lines.{answered, opening}
use Rattle.script_text.specs.Reading.{items_of, joined}
use Rattle.script_text.specs.WellFormed.{AreOpened, IsOpened, IsWellFormed, opened_after}
use Rattle.inst_state.specs.declared.inst.Inst.{Inst}
use Rattle.inst_state.specs.declared.plan.Opening.{Opening}
use Rattle.inst_state.specs.declared.plan.Plan.{Plan}
use Rattle.inst_state.specs.declared.shared.Core.{Core}
use Rattle.inst_state.specs.Sessions.{is_idle}
use Rattle.inst_state.specs.State.{session_at, stmt_at}
use Rattle.inst_loss.specs.LostCore.{with_refusal}
use Rattle.wave_steps.specs.Enter.{told_if, with_openings_told}
use Rattle.first_state.specs.Plan.{first_plan, openings_at, openings_in, parts_of, PlanParts}
use Rattle.good_run.specs.Turns.{opens}
use Rattle.line_laws.proofs.Entries.{is_silent, Silents}
use Rattle.line_laws.proofs.Took.{Took}
use Rattle.line_laws.proofs.Took.{answers as took_answers, loses as took_loses, opens as took_opens, rests as took_rests, starts as took_starts}
use Rattle.wave_laws.proofs.Begun.{IsPlanned, no_end, opening_of, openings_speak, planned_map, planned_openings}
use Rattle.wave_laws.proofs.Items.{stands_joined, wave_once}
use Rattle.wave_laws.proofs.Speaks.{answers, loses, opens as speaks_open, restarts, silent, Speaks, starts}

-- entries that open nothing

abbrev IsNoOpening : Entry → Type 0
IsNoOpening e = (z : ℕ) → opens z e ≡ false

abbrev AreNoOpenings : List Entry → Type 0
AreNoOpenings es = AllByRecursion IsNoOpening es

silent_no_opening : (e : Entry) → is_silent e ≡ true → IsNoOpening e
silent_no_opening (Opened session inst) q = absurd (let no : false ≡ true = q in cc)
silent_no_opening _ q = λ z. refl

silents_no_opening : (es : List Entry) → Silents es → AreNoOpenings es
silents_no_opening [] q = tt
silents_no_opening (e ∷ es) q = (silent_no_opening e q.0, silents_no_opening es q.1)

answer_no_opening : (e : Entry) (n : ℕ) → answered e ≡ Some n → IsNoOpening e
answer_no_opening (Opened session inst) n is = absurd (none-some n is)
answer_no_opening _ n is = λ z. refl

refusals_no_opening : (k : Inst) (zs : List ℕ) (es : List Entry) → AreNoOpenings es → AreNoOpenings (fold (with_refusal k) es zs)
refusals_no_opening k [] es q = q
refusals_no_opening k (z ∷ zs) es q = refusals_no_opening k zs (with_refusal k es z) (by (is_idle (session_at k z).doing))
  where
    by : (b : Bool) → AreNoOpenings (if b then es else Refused (stmt_at k z) Lost ∷ es)
    by true = q
    by false = ((λ y. refl), q)

no_openings_append : (xs ys : List Entry) → AreNoOpenings xs → AreNoOpenings ys → AreNoOpenings (xs ++ ys)
no_openings_append [] ys a b = b
no_openings_append (x ∷ xs) ys a b = (a.0, no_openings_append xs ys a.1 b)

loss_no_opening : (k m : Inst) (es later first : List Entry) (e : Entry) → es ≡ later ++ e ∷ first → is_silent e ≡ true → Took k m es → AreNoOpenings es
loss_no_opening k m es later first e split silent_ (took_rests same q) = silents_no_opening es q
loss_no_opening k m es later first e split silent_ (took_opens same told) =
    absurd (no_end es later first e split silent_ (subst (λ (l : List Entry). AllByRecursion (λ x. is_silent x ≡ false) l) (sym told) (openings_speak k.plan.me m.wave.entered k.plan.openings [] tt)))
loss_no_opening k m es later first e split silent_ (took_starts z s same may set told) = subst AreNoOpenings (sym told) ((λ y. refl), tt)
loss_no_opening k m es later first e split silent_ (took_answers z x same may set of told) = subst AreNoOpenings (sym told) (answer_no_opening x (stmt_at k z) of, tt)
loss_no_opening k m es later first e split silent_ (took_loses q quiet same is silents told) =
    subst AreNoOpenings (sym told) (no_openings_append (fold (with_refusal q) [] q.plan.mine) quiet (refusals_no_opening q q.plan.mine [] tt) (silents_no_opening quiet silents))

-- a step opens nothing, or the sessions of the wave that its instance enters
pub data Enters (k m : Inst) (core : Core) (es : List Entry) : Type 0 where
  nothing : AreNoOpenings es → Enters k m core es
  enters : k.wave.entered < core.waves.wave → m.wave.entered ≡ core.waves.wave → es ≡ with_openings_told k core.waves.wave [] → Enters k m core es

pub enters_of : (k m : Inst) (core : Core) (es : List Entry) → Took k m es → Speaks k core m.wave.entered es → Enters k m core es
enters_of k m core es took_ (silent q) = nothing (silents_no_opening es q)
enters_of k m core es took_ (speaks_open less now told) = enters less now told
enters_of k m core es took_ (starts z s idle now told) = nothing (subst AreNoOpenings (sym told) ((λ y. refl), tt))
enters_of k m core es took_ (restarts z s row wish busy asks told) = nothing (subst AreNoOpenings (sym told) ((λ y. refl), tt))
enters_of k m core es took_ (answers z e may of told) = nothing (subst AreNoOpenings (sym told) (answer_no_opening e (stmt_at k z) of, tt))
enters_of k m core es took_ (loses later first e split calm_ silent_) = nothing (loss_no_opening k m es later first e split silent_ took_)

-- the sessions of openings rise

abbrev Rises : ℕ → List Opening → Type 0
Rises from [] = Unit {0}
Rises from (o ∷ os) = (from ≤ o.session) × Rises (o.session + 1) os

rises_weaker : (a b : ℕ) (os : List Opening) → a ≤ b → Rises b os → Rises a os
rises_weaker a b [] le r = tt
rises_weaker a b (o ∷ os) le r = let up : b ≤ o.session = r.0 in (omega (arith, up, le), r.1)

rises_item : (me k opened n : ℕ) (it : Item) (os : List Opening) → IsOpened opened it → Rises (opened_after opened it) os → Rises opened (openings_at me k (n, it) ++ os)
rises_item me k opened n (item.Session session inst) os is r = by (inst == me)
  where
    by : (b : Bool) → Rises opened ((if b then record { wave = k; session = session } ∷ [] else []) ++ os)
    by true = (omega (arith, is), subst (λ (s : ℕ). Rises (s + 1) os) (sym is) r)
    by false = rises_weaker opened (opened + 1) os (omega arith) r
rises_item me k opened n (item.Stmt session what) os is r = r
rises_item me k opened n (item.Hold reader until) os is r = r
rises_item me k opened n (item.CrashAfter inst steps keep) os is r = r
rises_item me k opened n (item.CrashMark inst keep) os is r = r
rises_item me k opened n (item.Start inst) os is r = r
rises_item me k opened n (item.Remaster bucket to) os is r = r
rises_item me k opened n (item.Checkpoint inst) os is r = r

more_of : (xs ys zs : List Opening) → (xs ++ ys) ++ zs ≡ xs ++ (ys ++ zs)
more_of [] ys zs = refl
more_of (x ∷ xs) ys zs = λ i. x ∷ more_of xs ys zs i

rises_items : (me k opened : ℕ) (items rest : List (ℕ × Item)) (os : List Opening) → AreOpened opened (items ++ rest)
    → ((b : ℕ) → AreOpened b rest → Rises b os) → Rises opened (flat_map (openings_at me k) items ++ os)
rises_items me k opened [] rest os all later = later opened all
rises_items me k opened (x ∷ items) rest os all later =
    subst (λ (l : List Opening). Rises opened l) (sym (more_of (openings_at me k (x.0, x.1)) (flat_map (openings_at me k) items) os))
    (rises_item me k opened x.0 x.1 (flat_map (openings_at me k) items ++ os) all.0 (rises_items me k (opened_after opened x.1) items rest os all.1 later))

rises_waves : (me k opened : ℕ) (waves : List (List (ℕ × Item))) → AreOpened opened (joined waves) → Rises opened (flat_map (openings_in me) (enumerate_from k waves))
rises_waves me k opened [] all = tt
rises_waves me k opened (w ∷ waves) all =
    rises_items me k opened w (joined waves) (flat_map (openings_in me) (enumerate_from (k + 1) waves)) all (λ b later. rises_waves me (k + 1) b waves later)

plan_rises : (script : ScriptParts) (plan : Plan) (i : ℕ) → IsWellFormed script → parts_of plan ≡ first_plan script i → Rises 0 plan.openings
plan_rises script plan i fit same =
    subst (λ (os : List Opening). Rises 0 os) (sym (ap (λ (p : PlanParts). p.openings) same)) (rises_waves i 1 0 script.waves fit.items_opened)

-- what the openings of a wave leave

-- an opening of a session that no entry opened before
abbrev pub IsFirst : Past → Entry → Type 0
IsFirst past (Opened z i) = stood (opens z) past ≡ false
IsFirst past _ = Unit {0}

in_front : (me wave : ℕ) (os : List Opening) (first rest : Past) → fold (told_if me wave) first os ++ rest ≡ fold (told_if me wave) (first ++ rest) os
in_front me wave [] first rest = refl
in_front me wave (o ∷ os) first rest =
    in_front me wave os (told_if me wave first o) rest ∙ ap (λ (j : Past). fold (told_if me wave) j os) (by (o.wave == wave))
  where
    by : (b : Bool) → (if b then Opened o.session me ∷ first else first) ++ rest ≡ (if b then Opened o.session me ∷ (first ++ rest) else first ++ rest)
    by true = refl
    by false = refl

stood_fold : (z me wave : ℕ) (os : List Opening) (j : Past) → AllByRecursion (λ o. o.wave ≡ wave → o.session ≡ z → ⊥) os → stood (opens z) j ≡ false
    → stood (opens z) (fold (told_if me wave) j os) ≡ false
stood_fold z me wave [] j apart none = none
stood_fold z me wave (o ∷ os) j apart none = stood_fold z me wave os (told_if me wave j o) apart.1 (by (o.wave == wave) refl)
  where
    by : (b : Bool) → (o.wave == wave) ≡ b → stood (opens z) (if b then Opened o.session me ∷ j else j) ≡ false
    by true is = or_from (opens z (Opened o.session me)) (stood (opens z) j) (ne_eqb z o.session (λ same. apart.0 (eqb-true o.wave wave is) (sym same))) none
    by false is = none

push : (me wave s : ℕ) (os : List Opening) (j : Past) → Rises (s + 1) os → AllByRecursion (λ o. o.wave ≡ wave → stood (opens o.session) j ≡ false) os
    → AllByRecursion (λ o. o.wave ≡ wave → stood (opens o.session) (Opened s me ∷ j) ≡ false) os
push me wave s [] j r all = tt
push me wave s (o ∷ os) j r all =
    let up : s + 1 ≤ o.session = r.0 in (
      (λ at. or_from (opens o.session (Opened s me)) (stood (opens o.session) j) (ne_eqb o.session s (λ same. omega (arith, same, up))) (all.0 at)),
      push me wave s os j (rises_weaker (s + 1) (o.session + 1) os (omega (arith, up)) r.1) all.1,
    )

fold_first : (me wave from : ℕ) (os : List Opening) (j : Past) → Rises from os → AllByRecursion (λ o. o.wave ≡ wave → stood (opens o.session) j ≡ false) os
    → Each IsFirst j → Each IsFirst (fold (told_if me wave) j os)
fold_first me wave from [] j r all first = first
fold_first me wave from (o ∷ os) j r all first = by (o.wave == wave) refl (λ i s f. fold_first me wave (o.session + 1) os i r.1 s f)
  where
    by : (b : Bool) → (o.wave == wave) ≡ b
        → ((i : Past) → AllByRecursion (λ o. o.wave ≡ wave → stood (opens o.session) i ≡ false) os → Each IsFirst i → Each IsFirst (fold (told_if me wave) i os))
        → Each IsFirst (fold (told_if me wave) (if b then Opened o.session me ∷ j else j) os)
    by true is rest = rest (Opened o.session me ∷ j) (push me wave o.session os j r.1 all.1) (all.0 (eqb-true o.wave wave is), first)
    by false is rest = rest j all.1 first

none_first : (past : Past) (e : Entry) → IsNoOpening e → IsFirst past e
none_first past (Opened z i) none = absurd (let no : true ≡ false = sym (eq-eqb z z refl) ∙ none z in cc)
none_first past _ none = tt

nones_first : (es past : Past) → AreNoOpenings es → Each IsFirst past → Each IsFirst (es ++ past)
nones_first [] past q first = first
nones_first (e ∷ es) past q first = (none_first (es ++ past) e q.0, nones_first es past q.1 first)

not_opened : (z : ℕ) (es past : Past) → AreNoOpenings es → stood (opens z) past ≡ false → stood (opens z) (es ++ past) ≡ false
not_opened z [] past q none = none
not_opened z (e ∷ es) past q none = or_from (opens z e) (stood (opens z) (es ++ past)) (q.0 z) (not_opened z es past q.1 none)

-- The sessions of the waves that an instance hasn't entered weren't opened.
abbrev pub Unopened : Inst → Past → Type 0
Unopened n past = AllByRecursion (λ o. n.wave.entered < o.wave → stood (opens o.session) past ≡ false) n.plan.openings

-- two openings of one session are one, of one instance
same_opening : (script : ScriptParts) (a b : ℕ) (o p : Opening) → IsWellFormed script → IsPlanned script.waves a 1 o → IsPlanned script.waves b 1 p
    → o.session ≡ p.session → (a ≡ b) × (o.wave ≡ p.wave)
same_opening script a b o p fit x y same =
    let first = (opening_of 0 (items_of script) x.n o.session a fit.items_opened (stands_joined (x.n, item.Session o.session a) script.waves x.j x.stands)).0 in
    let later = (opening_of 0 (items_of script) y.n p.session b fit.items_opened (stands_joined (y.n, item.Session p.session b) script.waves y.j y.stands)).0 in
    let both : Some (x.n, a) ≡ Some (y.n, b) = sym first ∙ ap (λ (z : ℕ). opening z (items_of script)) same ∙ later in
    let parts : (x.n ≡ y.n) × (a ≡ b) = some_pair_parts x.n y.n a b both in
    let wave : x.j ≡ y.j = wave_once 0 script.lines script.waves x.j y.j (x.n, item.Session o.session a) (y.n, item.Session p.session b) fit.lines_rise x.stands y.stands parts.0 in
    let one : o.wave ≡ 1 + x.j = x.wave in
    let two : p.wave ≡ 1 + y.j = y.wave in
    (parts.1, omega (arith, one, two, wave))

-- what a step leaves of it

all_both : (P Q R : Opening → Type 0) → ((o : Opening) → P o → Q o → R o) → (os : List Opening) → AllByRecursion P os → AllByRecursion Q os → AllByRecursion R os
all_both P Q R f [] a b = tt
all_both P Q R f (o ∷ os) a b = (f o a.0 b.0, all_both P Q R f os a.1 b.1)

pub own_unopened : (script : ScriptParts) (k m : Inst) (core : Core) (i : ℕ) (past es : Past) → IsWellFormed script → parts_of k.plan ≡ first_plan script i → m.plan ≡ k.plan
    → (m.wave.entered ≡ k.wave.entered) ⊎ (m.wave.entered ≡ core.waves.wave) → k.wave.entered ≤ core.waves.wave
    → Enters k m core es → Unopened k past → Unopened m (es ++ past)
own_unopened script k m core i past es fit plan same entered le (nothing none) u =
    subst (λ (p : Plan). AllByRecursion (λ o. m.wave.entered < o.wave → stood (opens o.session) (es ++ past) ≡ false) p.openings) (sym same)
    (planned_map (λ o. k.wave.entered < o.wave → stood (opens o.session) past ≡ false) (λ o. m.wave.entered < o.wave → stood (opens o.session) (es ++ past) ≡ false)
    (λ o was less. not_opened o.session es past none (was (lower o.wave entered less))) k.plan.openings u)
  where
    lower : (w : ℕ) → (m.wave.entered ≡ k.wave.entered) ⊎ (m.wave.entered ≡ core.waves.wave) → m.wave.entered < w → k.wave.entered < w
    lower w (inl e) less = omega (arith, e, less)
    lower w (inr e) less = omega (arith, e, less, le)
own_unopened script k m core i past es fit plan same entered le (enters less now told) u =
    subst (λ (p : Plan). AllByRecursion (λ o. m.wave.entered < o.wave → stood (opens o.session) (es ++ past) ≡ false) p.openings) (sym same)
    (subst (λ (j : Past). AllByRecursion (λ o. m.wave.entered < o.wave → stood (opens o.session) j ≡ false) k.plan.openings)
    (sym (ap (λ (l : Past). l ++ past) told ∙ in_front k.plan.me core.waves.wave k.plan.openings [] past))
    (all_both (λ o. k.wave.entered < o.wave → stood (opens o.session) past ≡ false) (IsPlanned script.waves k.plan.me 1)
    (λ o. m.wave.entered < o.wave → stood (opens o.session) (fold (told_if k.plan.me core.waves.wave) past k.plan.openings) ≡ false)
    (λ o was planned_ above. stood_fold o.session k.plan.me core.waves.wave k.plan.openings past
    (planned_map (IsPlanned script.waves k.plan.me 1) (λ p. p.wave ≡ core.waves.wave → p.session ≡ o.session → ⊥)
    (λ p other at one. (let both : p.wave ≡ o.wave = (same_opening script k.plan.me k.plan.me p o fit other planned_ one).1 in omega (arith, both, at, now, above)))
    k.plan.openings (planned_openings script k.plan i plan)) (was (omega (arith, less, now, above))))
    k.plan.openings u (planned_openings script k.plan i plan)))

pub other_unopened : (script : ScriptParts) (k m x : Inst) (core : Core) (i y : ℕ) (past es : Past) → IsWellFormed script → (y ≡ i → ⊥)
    → parts_of k.plan ≡ first_plan script i → parts_of x.plan ≡ first_plan script y → Enters k m core es → Unopened x past → Unopened x (es ++ past)
other_unopened script k m x core i y past es fit other plan plan_x (nothing none) u =
    planned_map (λ o. x.wave.entered < o.wave → stood (opens o.session) past ≡ false) (λ o. x.wave.entered < o.wave → stood (opens o.session) (es ++ past) ≡ false)
    (λ o was less. not_opened o.session es past none (was less)) x.plan.openings u
other_unopened script k m x core i y past es fit other plan plan_x (enters less now told) u =
    let me : k.plan.me ≡ i = ap (λ (p : PlanParts). p.me) plan in
    let me_x : x.plan.me ≡ y = ap (λ (p : PlanParts). p.me) plan_x in
    subst (λ (j : Past). AllByRecursion (λ o. x.wave.entered < o.wave → stood (opens o.session) j ≡ false) x.plan.openings)
    (sym (ap (λ (l : Past). l ++ past) told ∙ in_front k.plan.me core.waves.wave k.plan.openings [] past))
    (all_both (λ o. x.wave.entered < o.wave → stood (opens o.session) past ≡ false) (IsPlanned script.waves x.plan.me 1)
    (λ o. x.wave.entered < o.wave → stood (opens o.session) (fold (told_if k.plan.me core.waves.wave) past k.plan.openings) ≡ false)
    (λ o was planned_ above. stood_fold o.session k.plan.me core.waves.wave k.plan.openings past
    (planned_map (IsPlanned script.waves k.plan.me 1) (λ p. p.wave ≡ core.waves.wave → p.session ≡ o.session → ⊥)
    (λ p mine at one. other (sym me_x ∙ sym (same_opening script k.plan.me x.plan.me p o fit mine planned_ one).0 ∙ me))
    k.plan.openings (planned_openings script k.plan i plan)) (was above))
    x.plan.openings u (planned_openings script x.plan y plan_x))

pub enters_first : (script : ScriptParts) (k m : Inst) (core : Core) (i : ℕ) (past es : Past) → IsWellFormed script → parts_of k.plan ≡ first_plan script i
    → Enters k m core es → Unopened k past → Each IsFirst past → Each IsFirst (es ++ past)
enters_first script k m core i past es fit plan (nothing none) u first = nones_first es past none first
enters_first script k m core i past es fit plan (enters less now told) u first =
    subst (λ (j : Past). Each IsFirst j) (sym (ap (λ (l : Past). l ++ past) told ∙ in_front k.plan.me core.waves.wave k.plan.openings [] past))
    (fold_first k.plan.me core.waves.wave 0 k.plan.openings past (plan_rises script k.plan i fit plan)
    (planned_map (λ o. k.wave.entered < o.wave → stood (opens o.session) past ≡ false) (λ o. o.wave ≡ core.waves.wave → stood (opens o.session) past ≡ false)
    (λ o was at. was (omega (arith, at, less))) k.plan.openings u) first)
