-- A session is opened as the script asks, once the lines of the earlier waves are answered.
use Rattle.std.proofs.Common.{◌≡◌, ℕ, ◌+◌, ◌<◌, ◌≤◌, Bool, true, false, List, [], ◌∷◌, ◌++◌, Option, Some, if◌then◌else◌, refl, sym, ap, subst, ◌∙◌, ◌⊎◌, inl, inr, arith}
use Rattle.std.specs.Prelude.{◌==◌, IsSomeAnd}
use Rattle.std.specs.List.{AllByRecursion, enumerate_from, flat_map, fold, list_any}
use Rattle.std.proofs.lemmas.Bool.{eq-eqb, eqb-true, ne_eqb, or_left, or_right}
use Rattle.std.proofs.lemmas.Option.{none-some}
use Rattle.rand_pcg.specs.Lcg.{Lcg}
use Rattle.rac_disk.specs.State.{State}
use Rattle.journal.specs.declared.cause.Cause.TheVariants.{Lost}
use Rattle.journal.specs.declared.entry.Entry.{Entry}
use Rattle.journal.specs.declared.entry.Entry.TheVariants.{Opened, Refused, Started}
use Rattle.journal.specs.Past.{Each, Past}
use Rattle.journal.specs.Stood.{stood}
use Rattle.script_text.specs.declared.item.Item.{Item}
use Rattle.script_text.specs.declared.item.Item.TheVariants.{Session}
use Rattle.script_text.specs.ScriptParts.{ScriptParts}
use Rattle.script_text.specs.GoodLines.{IsAsked}
use Rattle.script_text.specs.Lines.{answered, answers_stmt, AreAnswered, earlier, opening, opening_in}
use Rattle.script_text.specs.Reading.{items_of, joined}
use Rattle.script_text.specs.WellFormed.{AreOpened, IsOpened, IsWellFormed, opened_after}
use Rattle.inst_state.specs.declared.inst.Inst.{Inst}
use Rattle.inst_state.specs.declared.plan.Opening.{Opening}
use Rattle.inst_state.specs.declared.shared.Core.{Core}
use Rattle.inst_state.specs.Sessions.{is_idle}
use Rattle.inst_state.specs.State.{session_at, stmt_at}
use Rattle.inst_loss.specs.LostCore.{with_refusal}
use Rattle.wave_steps.specs.Enter.{told_if}
use Rattle.first_state.specs.Lines.{session_lines}
use Rattle.first_state.specs.Plan.{first_plan, numbered, openings_at, openings_in, parts_of, PlanParts}
use Rattle.inst_node.specs.declared.actions.Step.{Step}
use Rattle.inst_node.specs.Moves.{part_after, prepared}
use Rattle.world_machine.specs.declared.worlds.World.{World}
use Rattle.world_machine.specs.Runs.{IsRun}
use Rattle.run_laws.specs.Tells.{tells}
use Rattle.run_laws.proofs.Added.{made_adds}
use Rattle.run_laws.proofs.RunLemmas.{Made, made_of, run_keeps}
use Rattle.cluster_run.specs.First.{IsFirstWorld}
use Rattle.line_laws.specs.Turns.{AreInTurn, IsInTurn}
use Rattle.line_laws.proofs.ByKind.{took}
use Rattle.line_laws.proofs.Earlier.{line_before}
use Rattle.line_laws.proofs.Entered.{entered_within}
use Rattle.line_laws.proofs.Entries.{is_silent, Silents}
use Rattle.line_laws.proofs.Kept.{loss_told}
use Rattle.line_laws.proofs.Parts.{prepared_stays}
use Rattle.line_laws.proofs.ScriptLines.{HasLine}
use Rattle.line_laws.proofs.Timely.{AreStartedInWaves, earlier_done, first_timely, IsStartedInWave, number_from, number_here, number_later, step_timely, Timely, wave_number}
use Rattle.line_laws.proofs.Took.{answers, loses, opens, rests, starts, Took}

-- an item opens a session on an instance, by its number
abbrev HasOpening : ℕ → ℕ → ℕ → List (ℕ × Item) → Type 0
HasOpening n z me [] = ⊥
HasOpening n z me (x ∷ items) = ((x.0 ≡ n) × (x.1 ≡ Session z me)) ⊎ HasOpening n z me items

opening_first : (n z me : ℕ) (xs ys : List (ℕ × Item)) → HasOpening n z me xs → HasOpening n z me (xs ++ ys)
opening_first n z me [] ys h = absurd h
opening_first n z me (x ∷ xs) ys (inl p) = inl p
opening_first n z me (x ∷ xs) ys (inr h) = inr (opening_first n z me xs ys h)

opening_later : (n z me : ℕ) (xs ys : List (ℕ × Item)) → HasOpening n z me ys → HasOpening n z me (xs ++ ys)
opening_later n z me [] ys h = h
opening_later n z me (x ∷ xs) ys h = inr (opening_later n z me xs ys h)

skip : (opened n z : ℕ) (it : Item) (more : Option (ℕ × ℕ)) → IsOpened opened it → opened_after opened it ≤ z → (opening_in z n it more ≡ more) × (opened ≤ z)
skip opened n z (Session session inst) more is le =
    (ap (λ (b : Bool). if b then Some (n, inst) else more) (ne_eqb z session (λ same. omega (arith, same, is, le))), omega (arith, le))
skip opened n z _ more is le = (refl, le)

-- the item that opens a session is the first that does
opening_found : (opened : ℕ) (items : List (ℕ × Item)) (n z me : ℕ) → AreOpened opened items → HasOpening n z me items → (opening z items ≡ Some (n, me)) × (opened ≤ z)
opening_found opened [] n z me each h = absurd h
opening_found opened (x ∷ items) n z me each (inl p) =
    let number : z ≡ opened = subst (λ (it : Item). IsOpened opened it) p.1 each.0 in (
      ap (λ (it : Item). opening_in z x.0 it (opening z items)) p.1 ∙ ap (λ (b : Bool). if b then Some (x.0, me) else opening z items) (eq-eqb z z refl)
          ∙ ap (λ (k : ℕ). Some (k, me)) p.0,
      omega (arith, number),
    )
opening_found opened (x ∷ items) n z me each (inr h) =
    let later = opening_found (opened_after opened x.1) items n z me each.1 h in
    let skipped = skip opened x.0 z x.1 (opening z items) each.0 later.1 in
    (skipped.0 ∙ later.0, skipped.1)

-- an opening of a plan is an item of a wave up to its own
record IsLaid (me k : ℕ) (waves : List (List (ℕ × Item))) (o : Opening) : Type 0 where
  n : ℕ
  item : HasOpening n o.session me (joined waves)
  wave : wave_number n k waves ≤ o.wave

-- an opening is an item of this wave
record IsIn (me k : ℕ) (items : List (ℕ × Item)) (o : Opening) : Type 0 where
  n : ℕ
  item : HasOpening n o.session me items
  named : list_any (λ line. line.0 == n) items ≡ true
  wave : o.wave ≡ k

each_append : (P : Opening → Type 0) (xs ys : List Opening) → AllByRecursion P xs → AllByRecursion P ys → AllByRecursion P (xs ++ ys)
each_append P [] ys a b = b
each_append P (x ∷ xs) ys a b = (a.0, each_append P xs ys a.1 b)

each_weaker : (P Q : Opening → Type 0) → ((o : Opening) → P o → Q o) → (xs : List Opening) → AllByRecursion P xs → AllByRecursion Q xs
each_weaker P Q f [] a = tt
each_weaker P Q f (x ∷ xs) a = (f x a.0, each_weaker P Q f xs a.1)

opened_here : (me k line session inst : ℕ) (items : List (ℕ × Item)) (b : Bool) → (inst == me) ≡ b
    → AllByRecursion (IsIn me k ((line, Session session inst) ∷ items)) (if b then record { wave = k; session = session } ∷ [] else [])
opened_here me k line session inst items true is = (
  record {
    n = line;
    item = inl (refl, ap (λ (i : ℕ). Session session i) (eqb-true inst me is));
    named = or_left (line == line) (list_any (λ x. x.0 == line) items) (eq-eqb line line refl);
    wave = refl;
  },
  tt,
)
opened_here me k line session inst items false is = tt

opened_item : (me k line : ℕ) (it : Item) (items : List (ℕ × Item)) → AllByRecursion (IsIn me k ((line, it) ∷ items)) (openings_at me k (line, it))
opened_item me k line (Session session inst) items = opened_here me k line session inst items (inst == me) refl
opened_item me k line _ items = tt

in_more : (me k : ℕ) (x : ℕ × Item) (items : List (ℕ × Item)) (o : Opening) → IsIn me k items o → IsIn me k (x ∷ items) o
in_more me k x items o p = record {
  n = p.n;
  item = inr p.item;
  named = or_right (x.0 == p.n) (list_any (λ line. line.0 == p.n) items) p.named;
  wave = p.wave;
}

wave_openings : (me k : ℕ) (items : List (ℕ × Item)) → AllByRecursion (IsIn me k items) (flat_map (openings_at me k) items)
wave_openings me k [] = tt
wave_openings me k (x ∷ items) =
    each_append (IsIn me k (x ∷ items)) (openings_at me k (x.0, x.1)) (flat_map (openings_at me k) items) (opened_item me k x.0 x.1 items)
    (each_weaker (IsIn me k items) (IsIn me k (x ∷ items)) (in_more me k x items) (flat_map (openings_at me k) items) (wave_openings me k items))

laid_here : (me k : ℕ) (wave : List (ℕ × Item)) (more : List (List (ℕ × Item))) (o : Opening) → IsIn me k wave o → IsLaid me k (wave ∷ more) o
laid_here me k wave more o p = record {
  n = p.n;
  item = opening_first p.n o.session me wave (joined more) p.item;
  wave = number_here k (wave_number p.n (k + 1) more) o.wave (list_any (λ line. line.0 == p.n) wave) p.named p.wave;
}

laid_later : (me k : ℕ) (wave : List (ℕ × Item)) (more : List (List (ℕ × Item))) (o : Opening) → IsLaid me (k + 1) more o → IsLaid me k (wave ∷ more) o
laid_later me k wave more o p = record {
  n = p.n;
  item = opening_later p.n o.session me wave (joined more) p.item;
  wave = number_later k (wave_number p.n (k + 1) more) o.wave (list_any (λ line. line.0 == p.n) wave) (number_from p.n (k + 1) more) p.wave;
}

-- the openings of a plan are items of the script
laid_openings : (me k : ℕ) (waves : List (List (ℕ × Item))) → AllByRecursion (IsLaid me k waves) (flat_map (openings_in me) (enumerate_from k waves))
laid_openings me k [] = tt
laid_openings me k (wave ∷ more) =
    each_append (IsLaid me k (wave ∷ more)) (openings_in me (k, wave)) (flat_map (openings_in me) (enumerate_from (k + 1) more))
    (each_weaker (IsIn me k wave) (IsLaid me k (wave ∷ more)) (laid_here me k wave more) (flat_map (openings_at me k) wave) (wave_openings me k wave))
    (each_weaker (IsLaid me (k + 1) more) (IsLaid me k (wave ∷ more)) (laid_later me k wave more) (flat_map (openings_in me) (enumerate_from (k + 1) more)) (laid_openings me (k + 1) more))

-- A session is opened as an item asks, once the lines of the earlier waves are answered.
abbrev IsOpenedInWave : ScriptParts → Past → Entry → Type 0
IsOpenedInWave script past (Opened z i) = IsSomeAnd (opening z (items_of script)) (λ line. (line.1 ≡ i) × AreAnswered (earlier line.0 script.waves) past)
IsOpenedInWave script past _ = Unit {0}

abbrev AreOpenedInWaves : ScriptParts → Past → Type 0
AreOpenedInWaves script past = Each (IsOpenedInWave script) past

-- The lines of the waves below a number are answered.
abbrev AreDone : ScriptParts → ℕ → Past → Type 0
AreDone script most past = (z m v : ℕ) → HasLine m v (session_lines z (numbered script)) → v < most → stood (answers_stmt m) past ≡ true

opened_turn : (script : ScriptParts) (me most : ℕ) (o : Opening) (past : Past) → IsWellFormed script → IsLaid me 1 script.waves o → o.wave ≤ most → AreDone script most past
    → IsOpenedInWave script past (Opened o.session me)
opened_turn script me most o past fit laid le done =
    let found = opening_found 0 (items_of script) laid.n o.session me fit.items_opened laid.item in
    let number : wave_number laid.n 1 script.waves ≤ o.wave = laid.wave in
    subst (λ (q : Option (ℕ × ℕ)). IsSomeAnd q (λ line. (line.1 ≡ me) × AreAnswered (earlier line.0 script.waves) past)) (sym found.0)
    (refl, earlier_done laid.n most 1 script.waves past done (omega (arith, number, le)))

opened_all : (script : ScriptParts) (me wave most : ℕ) (openings : List Opening) (past : Past) → IsWellFormed script → AllByRecursion (IsLaid me 1 script.waves) openings
    → wave ≤ most → AreDone script most past → AreOpenedInWaves script past → AreOpenedInWaves script (fold (told_if me wave) past openings)
opened_all script me wave most [] past fit laid le done so_far = so_far
opened_all script me wave most (o ∷ openings) past fit laid le done so_far = by (o.wave == wave) refl
    (λ j. opened_all script me wave most openings j fit laid.1 le)
  where
    by : (b : Bool) → (o.wave == wave) ≡ b
        → ((j : Past) → AreDone script most j → AreOpenedInWaves script j → AreOpenedInWaves script (fold (told_if me wave) j openings))
        → AreOpenedInWaves script (fold (told_if me wave) (if b then Opened o.session me ∷ past else past) openings)
    by true is rest =
        rest (Opened o.session me ∷ past) done
        (opened_turn script me most o past fit laid.0 (let same : o.wave ≡ wave = eqb-true o.wave wave is in omega (arith, same, le)) done, so_far)
    by false is rest = rest past done so_far

front_if : (b : Bool) (e : Entry) (first rest : Past) → (if b then e ∷ first else first) ++ rest ≡ (if b then e ∷ (first ++ rest) else first ++ rest)
front_if true e first rest = refl
front_if false e first rest = refl

openings_in_front : (me wave : ℕ) (openings : List Opening) (first rest : Past) → fold (told_if me wave) first openings ++ rest ≡ fold (told_if me wave) (first ++ rest) openings
openings_in_front me wave [] first rest = refl
openings_in_front me wave (o ∷ openings) first rest =
    openings_in_front me wave openings (told_if me wave first o) rest
    ∙ ap (λ (j : Past). fold (told_if me wave) j openings) (front_if (o.wave == wave) (Opened o.session me) first rest)

silent_opening : (script : ScriptParts) (past : Past) (e : Entry) → is_silent e ≡ true → IsOpenedInWave script past e
silent_opening script past (Opened session inst) q = absurd (let clash : false ≡ true = q in cc)
silent_opening script past _ q = tt

answer_opening : (script : ScriptParts) (past : Past) (e : Entry) (n : ℕ) → answered e ≡ Some n → IsOpenedInWave script past e
answer_opening script past (Opened session inst) n e = absurd (none-some n e)
answer_opening script past _ n e = tt

silent_openings : (script : ScriptParts) (past : Past) (es : List Entry) → Silents es → AreOpenedInWaves script past → AreOpenedInWaves script (es ++ past)
silent_openings script past [] q so_far = so_far
silent_openings script past (e ∷ es) q so_far = (silent_opening script (es ++ past) e q.0, silent_openings script past es q.1 so_far)

refusal_opening : (script : ScriptParts) (k : Inst) (j : Past) (z : ℕ) (b : Bool) → AreOpenedInWaves script j
    → AreOpenedInWaves script (if b then j else Refused (stmt_at k z) Lost ∷ j)
refusal_opening script k j z true so_far = so_far
refusal_opening script k j z false so_far = (tt, so_far)

refusal_openings : (script : ScriptParts) (k : Inst) (zs : List ℕ) (j : Past) → AreOpenedInWaves script j → AreOpenedInWaves script (fold (with_refusal k) j zs)
refusal_openings script k [] j so_far = so_far
refusal_openings script k (z ∷ zs) j so_far =
    refusal_openings script k zs (with_refusal k j z) (refusal_opening script k j z (is_idle (session_at k z).doing) so_far)

took_openings : (script : ScriptParts) (n m : Inst) (past : Past) (es : List Entry) (most : ℕ) → IsWellFormed script
    → AllByRecursion (IsLaid n.plan.me 1 script.waves) n.plan.openings → m.wave.entered ≤ most → AreDone script most past → Took n m es
    → AreOpenedInWaves script past → AreOpenedInWaves script (es ++ past)
took_openings script n m past es most fit laid le done (rests same q) so_far = silent_openings script past es q so_far
took_openings script n m past es most fit laid le done (opens same is) so_far =
    subst (λ (j : Past). AreOpenedInWaves script j) (sym (ap (λ (l : List Entry). l ++ past) is ∙ openings_in_front n.plan.me m.wave.entered n.plan.openings [] past))
    (opened_all script n.plan.me m.wave.entered most n.plan.openings past fit laid le done so_far)
took_openings script n m past es most fit laid le done (starts z s plan begins set is) so_far =
    subst (λ (l : List Entry). AreOpenedInWaves script (l ++ past)) (sym is) (tt, so_far)
took_openings script n m past es most fit laid le done (answers z e plan begins set told is) so_far =
    subst (λ (l : List Entry). AreOpenedInWaves script (l ++ past)) (sym is) (answer_opening script past e (stmt_at n z) told, so_far)
took_openings script n m past es most fit laid le done (loses k quiet same is q told) so_far =
    subst (λ (j : Past). AreOpenedInWaves script j) (sym (loss_told k past es quiet told))
    (refusal_openings script k k.plan.mine (quiet ++ past) (silent_openings script past quiet q so_far))

-- Each start and each opening stands behind the answers of the earlier waves.
record IsAskedFor (script : ScriptParts) (w : World) : Type 0 where
  timely : Timely script w
  opened : AreOpenedInWaves script w.core.journal

step_asked : (script : ScriptParts) (old : World) (disk : State) (step : Step) (new : World) (disk_now : State) → IsWellFormed script
    → Made old disk step new disk_now → IsAskedFor script old → IsAskedFor script new
step_asked script old disk step new disk_now fit made asked =
    let timely = asked.timely in
    let n = made.n in
    let core = old.core in
    let action = step.action in
    let k = prepared n core action in
    let m = part_after n core action made.how in
    let es = tells n core action made.how in
    let at = timely.lines.insts step.inst n made.at in
    let same = prepared_stays n core action in
    let plan : parts_of k.plan ≡ first_plan script step.inst = ap parts_of same.plan ∙ at.plan in
    let me : k.plan.me ≡ step.inst = ap (λ (p : PlanParts). p.me) plan in
    let openings : k.plan.openings ≡ flat_map (openings_in step.inst) (numbered script) = ap (λ (p : PlanParts). p.openings) plan in
    let laid : AllByRecursion (IsLaid k.plan.me 1 script.waves) k.plan.openings =
    subst (λ (i : ℕ). AllByRecursion (IsLaid i 1 script.waves) k.plan.openings) (sym me)
    (subst (λ (l : List Opening). AllByRecursion (IsLaid step.inst 1 script.waves) l) (sym openings) (laid_openings step.inst 1 script.waves)) in
    let entered : m.wave.entered ≤ core.waves.wave = entered_within n core action made.how (timely.insts step.inst n made.at).entered in
    let done : AreDone script core.waves.wave core.journal = λ z v w h less. line_before script old z v w fit timely.lines h (omega (arith, less)) in
    record {
      timely = step_timely script old disk step new disk_now fit made timely;
      opened = subst (λ (j : Past). AreOpenedInWaves script j) (sym (made_adds old disk step new disk_now made))
          (took_openings script k m core.journal es core.waves.wave fit laid entered done (took n core action made.how made.needs) asked.opened);
    }

asked_entry : (script : ScriptParts) (past : Past) (e : Entry) → IsInTurn script past e → IsStartedInWave script past e → IsOpenedInWave script past e → IsAsked script past e
asked_entry script past (Started n z s) turn start open_ = (turn.1.0, start)
asked_entry script past (Opened z i) turn start open_ = open_
asked_entry script past _ turn start open_ = tt

asked_each : (script : ScriptParts) (past : Past) → AreInTurn script past → AreStartedInWaves script past → AreOpenedInWaves script past → Each (IsAsked script) past
asked_each script [] turns started opened = tt
asked_each script (e ∷ past) turns started opened =
    (asked_entry script past e turns.0 started.0 opened.0, asked_each script past turns.1 started.1 opened.1)

-- in each world of a run what is opened and what starts is asked for
pub run_asked : (script : ScriptParts) (g : Lcg) (old : World) (disk : State) (book : List Step) (h : Lcg) (new : World) (disk_now : State) → IsWellFormed script
    → IsFirstWorld script old → IsRun g old disk book h new disk_now → Each (IsAsked script) new.core.journal
run_asked script g old disk book h new disk_now fit first run =
    let asked = run_keeps (λ (w : World) (d : State). IsAskedFor script w)
    (λ w d step v e made asked. step_asked script w d step v e fit (made_of w d step v e made) asked)
    g old disk book h new disk_now run (record {
      timely = first_timely script old fit first;
      opened = subst (λ (c : Core). AreOpenedInWaves script c.journal) (sym first.core) tt;
    }) in
    asked_each script new.core.journal asked.timely.lines.turns asked.timely.started asked.opened
