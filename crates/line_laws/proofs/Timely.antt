-- A line starts once the lines of the earlier waves are answered.
use Rattle.std.proofs.Common.{◌≡◌, ℕ, ◌+◌, ◌-◌, ◌^◌, ◌<◌, ◌≤◌, min, Bool, true, false, List, [], ◌∷◌, ◌++◌, length, get_or, replicate, Option, Some, None, slice_get, if◌then◌else◌, refl, sym, ap, subst, ◌∙◌, ◌⊎◌, inl, inr, arith}
use Rattle.std.specs.Prelude.{◌==◌, is_some, slice_set}
use Rattle.std.specs.List.{enumerate_from, fold, list_any}
use Rattle.std.proofs.lemmas.Bool.{cases_eq, eqb-true}
use Rattle.std.proofs.lemmas.Option.{none-some}
use Rattle.rac_disk.specs.State.{State}
use Rattle.journal.specs.declared.cause.Cause.TheVariants.{Lost}
use Rattle.journal.specs.declared.entry.Entry.{Entry}
use Rattle.journal.specs.declared.entry.Entry.TheVariants.{Refused, Started}
use Rattle.journal.specs.Past.{Each, Past}
use Rattle.journal.specs.Stood.{stood}
use Rattle.script_text.specs.declared.item.Item.{Item}
use Rattle.script_text.specs.ScriptParts.{ScriptParts}
use Rattle.script_text.specs.Lines.{answered, answers_stmt, AreAnswered, earlier}
use Rattle.script_text.specs.WellFormed.{IsWellFormed}
use Rattle.inst_state.specs.declared.inst.Inst.{Inst}
use Rattle.inst_state.specs.declared.line.Line.{Line}
use Rattle.inst_state.specs.declared.plan.Plan.{Plan}
use Rattle.inst_state.specs.declared.session.Session.{Session}
use Rattle.inst_state.specs.declared.shared.Core.{Core}
use Rattle.wire_net.specs.declared.masters.Masters.{Masters}
use Rattle.inst_state.specs.Sessions.{is_idle, new_session}
use Rattle.inst_state.specs.State.{in_wave, line_at, session_at, stmt_at}
use Rattle.inst_loss.specs.LostCore.{with_refusal}
use Rattle.wave_steps.specs.WaveEnd.{is_last}
use Rattle.first_state.specs.Core.{first_core}
use Rattle.first_state.specs.Lines.{session_lines, turn_of, wave_lines}
use Rattle.first_state.specs.Plan.{first_plan, numbered, parts_of}
use Rattle.inst_node.specs.declared.actions.Action.{Action}
use Rattle.inst_node.specs.declared.actions.Action.TheVariants.{Plain}
use Rattle.inst_node.specs.declared.actions.PlainStep.TheVariants as plain
use Rattle.inst_node.specs.declared.actions.Step.{Step}
use Rattle.inst_node.specs.Moves.{counted, part_after, prepared}
use Rattle.world_machine.specs.declared.worlds.World.{World}
use Rattle.run_laws.specs.Tells.{tells}
use Rattle.run_laws.proofs.Added.{made_adds}
use Rattle.run_laws.proofs.RunLemmas.{Made}
use Rattle.cluster_run.specs.First.{IsFirst, IsFirstWorld}
use Rattle.line_laws.proofs.ByKind.{took}
use Rattle.line_laws.proofs.Courses.{Course, course_at, course_of, courses, line_is, lines_in, other_course, passed, same_count, same_course, set_course, under_way}
use Rattle.line_laws.proofs.Earlier.{both_answered, line_before, wave_done}
use Rattle.line_laws.proofs.Entered.{entered_within, prepared_wave}
use Rattle.line_laws.proofs.Entries.{is_quiet, Quiets, silents_quiet}
use Rattle.line_laws.proofs.Kept.{answer_there, loss_told, openings_quiet, Standing, start_there}
use Rattle.line_laws.proofs.Losses.{lost_at, next_stmt, Placed}
use Rattle.line_laws.proofs.Parts.{prepared_stays}
use Rattle.line_laws.proofs.Places.{elsewhere, here, Home, home, placed}
use Rattle.line_laws.proofs.Rounds.{Round, round_after, round_by, round_of}
use Rattle.line_laws.proofs.ScriptLines.{HasLine, line_at_place, line_first, line_in_wave, line_later, line_split, stmt_no, wave_no, wave_of}
use Rattle.line_laws.proofs.Took.{answers, loses, MayStart, opens, rests, starts, Stays, Took}
use Rattle.line_laws.proofs.Worlds.{first_at_place, first_lines, Lines, session_new, set_get, stands_ready, step_made}

-- A line starts once each statement line of the waves before its own is answered.
abbrev pub IsStartedInWave : ScriptParts → Past → Entry → Type 0
IsStartedInWave script past (Started n z s) = AreAnswered (earlier n script.waves) past
IsStartedInWave script past _ = Unit {0}

-- Each start of a journal stands so.
abbrev pub AreStartedInWaves : ScriptParts → Past → Type 0
AreStartedInWaves script past = Each (IsStartedInWave script) past

-- the number of the wave that has a line, where these waves are numbered from k on
abbrev pub wave_number : ℕ → ℕ → List (List (ℕ × Item)) → ℕ
wave_number n k [] = k
wave_number n k (wave ∷ more) = if list_any (λ line. line.0 == n) wave then k else wave_number n (k + 1) more

number_if : (k v : ℕ) (b : Bool) → k + 1 ≤ v → k ≤ (if b then k else v)
number_if k v true le = omega arith
number_if k v false le = omega (arith, le)

pub number_from : (n k : ℕ) (waves : List (List (ℕ × Item))) → k ≤ wave_number n k waves
number_from n k [] = omega arith
number_from n k (wave ∷ more) = number_if k (wave_number n (k + 1) more) (list_any (λ line. line.0 == n) wave) (number_from n (k + 1) more)

pub number_here : (k v w : ℕ) (b : Bool) → b ≡ true → w ≡ k → (if b then k else v) ≤ w
number_here k v w true is same = omega (arith, same)
number_here k v w false is same = absurd (let clash : false ≡ true = is in cc)

pub number_later : (k v w : ℕ) (b : Bool) → k + 1 ≤ v → v ≤ w → (if b then k else v) ≤ w
number_later k v w true from le = omega (arith, from, le)
number_later k v w false from le = le

-- the wave that has a line is at most the line's
pub number_below : (z n w k : ℕ) (waves : List (List (ℕ × Item))) → HasLine n w (session_lines z (enumerate_from k waves)) → wave_number n k waves ≤ w
number_below z n w k [] h = absurd h
number_below z n w k (wave ∷ more) h =
    by (λ later. number_below z n w (k + 1) more later) (line_split n w (wave_lines z (k, wave)) (session_lines z (enumerate_from (k + 1) more)) h)
  where
    by : (HasLine n w (session_lines z (enumerate_from (k + 1) more)) → wave_number n (k + 1) more ≤ w)
        → HasLine n w (wave_lines z (k, wave)) ⊎ HasLine n w (session_lines z (enumerate_from (k + 1) more)) → wave_number n k (wave ∷ more) ≤ w
    by rest (inl a) =
        let here = line_in_wave (turn_of z (k, wave)) wave n w a in
        number_here k (wave_number n (k + 1) more) w (list_any (λ line. line.0 == n) wave) here.0 here.1
    by rest (inr b) = number_later k (wave_number n (k + 1) more) w (list_any (λ line. line.0 == n) wave) (number_from n (k + 1) more) (rest b)

-- the waves before the one that has a line are answered, where those below a number are
pub earlier_done : (n most k : ℕ) (waves : List (List (ℕ × Item))) (past : Past)
    → ((z m v : ℕ) → HasLine m v (session_lines z (enumerate_from k waves)) → v < most → stood (answers_stmt m) past ≡ true) → wave_number n k waves ≤ most
    → AreAnswered (earlier n waves) past
earlier_done n most k [] past done le = tt
earlier_done n most k (wave ∷ more) past done le =
    by (list_any (λ line. line.0 == n) wave) le
    (λ less. both_answered wave (earlier n more) past
    (wave_done k wave wave past (λ z m h. done z m k (line_first m k (wave_lines z (k, wave)) (session_lines z (enumerate_from (k + 1) more)) h) (let from : k + 1 ≤ wave_number n (k + 1) more = number_from n (k + 1) more in omega (arith, from, less))))
    (earlier_done n most (k + 1) more past (λ z m v h. done z m v (line_later m v (wave_lines z (k, wave)) (session_lines z (enumerate_from (k + 1) more)) h)) less))
  where
    by : (b : Bool) → (if b then k else wave_number n (k + 1) more) ≤ most → (wave_number n (k + 1) more ≤ most → AreAnswered (wave ++ earlier n more) past)
        → AreAnswered (if b then [] else wave ++ earlier n more) past
    by true le later = tt
    by false le later = later le

-- the waves before that of a line of the current wave, or of an earlier one, are answered
line_waves : (script : ScriptParts) (w : World) (z j : ℕ) → IsWellFormed script → Lines script w → j < length (session_lines z (numbered script))
    → wave_no (session_lines z (numbered script)) j ≤ w.core.waves.wave → AreAnswered (earlier (stmt_no (session_lines z (numbered script)) j) script.waves) w.core.journal
line_waves script w z j fit lines at le =
    let ls = session_lines z (numbered script) in
    let below : wave_number (stmt_no ls j) 1 script.waves ≤ wave_no ls j = number_below z (stmt_no ls j) (wave_no ls j) 1 script.waves (line_at_place ls j at) in
    earlier_done (stmt_no ls j) w.core.waves.wave 1 script.waves w.core.journal
    (λ y m v h less. line_before script w y m v fit lines h (omega (arith, less))) (omega (arith, below, le))

-- The lines under way of an instance are of a wave up to this one.
abbrev Busy : ℕ → Inst → Type 0
Busy wave n = (z : ℕ) → (course_at n z).idle ≡ false → wave_no (lines_in n.plan z) (course_at n z).next ≤ wave

-- The lines that may start are of a wave up to this one.
abbrev MayBegin : ℕ → Inst → Type 0
MayBegin wave n = (z : ℕ) → MayStart n z → wave_no (lines_in n.plan z) (course_at n z).next ≤ wave

now_wave : (wave : ℕ) (o : Option Line) → is_some (in_wave wave o) ≡ true → wave_of o ≡ wave
now_wave wave None e = absurd (let clash : false ≡ true = e in cc)
now_wave wave (Some line) e = by (line.wave == wave) refl e
  where
    by : (b : Bool) → (line.wave == wave) ≡ b → is_some (if b then Some line else None) ≡ true → line.wave ≡ wave
    by true is e = eqb-true line.wave wave is
    by false is e = absurd (let clash : false ≡ true = e in cc)

begin_wave : (n : Inst) (wave z : ℕ) → Busy wave n → n.wave.entered ≤ wave → MayStart n z → wave_no (lines_in n.plan z) (course_at n z).next ≤ wave
begin_wave n wave z busy le (inl was) = busy z was
begin_wave n wave z busy le (inr now) =
    let same : wave_no (lines_in n.plan z) (course_at n z).next ≡ n.wave.entered =
    ap wave_of (sym (line_is n z)) ∙ now_wave n.wave.entered (line_at n z) now in
    omega (arith, same, le)

busy_ready : (n k : Inst) (wave : ℕ) → Stays n k → Busy wave n → Busy wave k
busy_ready n k wave same busy z was =
    subst (λ (p : Plan). wave_no (lines_in p z) (course_at k z).next ≤ wave) (sym same.plan)
    (subst (λ (c : Course). c.idle ≡ false → wave_no (lines_in n.plan z) c.next ≤ wave) (sym (same_course n k z same.course)) (busy z) was)

busy_moved : (n m : Inst) (wave z : ℕ) (c : Course) → m.plan ≡ n.plan → courses m ≡ slice_set (courses n) z c → z < length n.sessions → Busy wave n
    → (c.idle ≡ false → wave_no (lines_in n.plan z) c.next ≤ wave) → (y : ℕ) → (y ≡ z) ⊎ (y ≡ z → ⊥) → (course_at m y).idle ≡ false
    → wave_no (lines_in m.plan y) (course_at m y).next ≤ wave
busy_moved n m wave z c plan set within busy own y (inl same) =
    subst (λ (x : ℕ). (course_at m x).idle ≡ false → wave_no (lines_in m.plan x) (course_at m x).next ≤ wave) (sym same)
    (subst (λ (p : Plan). (course_at m z).idle ≡ false → wave_no (lines_in p z) (course_at m z).next ≤ wave) (sym plan)
    (subst (λ (d : Course). d.idle ≡ false → wave_no (lines_in n.plan z) d.next ≤ wave) (sym (set_course n m z c set within)) own))
busy_moved n m wave z c plan set within busy own y (inr apart) =
    subst (λ (p : Plan). (course_at m y).idle ≡ false → wave_no (lines_in p y) (course_at m y).next ≤ wave) (sym plan)
    (subst (λ (d : Course). d.idle ≡ false → wave_no (lines_in n.plan y) d.next ≤ wave) (sym (other_course n m z c y set apart)) (busy y))

true_busy : {A : Type 0} → true ≡ false → A
true_busy e = absurd (let clash : true ≡ false = e in cc)

-- a step leaves the lines under way so
took_busy : (script : ScriptParts) (n m : Inst) (past : Past) (es : List Entry) (wave : ℕ) → Placed script n.plan (length n.sessions) → Standing script n past
    → Took n m es → Busy wave n → MayBegin wave n → Busy wave m
took_busy script n m past es wave owned stands (rests same q) busy may = busy_ready n m wave same busy
took_busy script n m past es wave owned stands (opens same is) busy may = busy_ready n m wave same busy
took_busy script n m past es wave owned stands (starts z s plan begins set is) busy may =
    λ y. busy_moved n m wave z (under_way (course_at n z)) plan set
    (owned.there z (let at = start_there script n past z stands begins in omega (arith, at))) busy (λ was. may z begins) y (cases_eq y z)
took_busy script n m past es wave owned stands (answers z e plan begins set told is) busy may =
    λ y. busy_moved n m wave z (passed (course_at n z)) plan set
    (owned.there z (let at = answer_there script n past z e stands begins in omega (arith, at))) busy (λ was. true_busy was) y (cases_eq y z)
took_busy script n m past es wave owned stands (loses k quiet same is q told) busy may =
    λ y was. true_busy (subst (λ (c : Course). c.idle ≡ false) (lost_at k y) (subst (λ (x : Inst). (course_at x y).idle ≡ false) is was))

quiet_start : (script : ScriptParts) (past : Past) (e : Entry) → is_quiet e ≡ true → IsStartedInWave script past e
quiet_start script past (Started stmt session snapshot) q = absurd (let clash : false ≡ true = q in cc)
quiet_start script past _ q = tt

answer_start : (script : ScriptParts) (past : Past) (e : Entry) (n : ℕ) → answered e ≡ Some n → IsStartedInWave script past e
answer_start script past (Started stmt session snapshot) n e = absurd (none-some n e)
answer_start script past _ n e = tt

quiet_starts : (script : ScriptParts) (past : Past) (es : List Entry) → Quiets es → AreStartedInWaves script past → AreStartedInWaves script (es ++ past)
quiet_starts script past [] q so_far = so_far
quiet_starts script past (e ∷ es) q so_far = (quiet_start script (es ++ past) e q.0, quiet_starts script past es q.1 so_far)

refusal_start : (script : ScriptParts) (k : Inst) (j : Past) (z : ℕ) (b : Bool) → AreStartedInWaves script j
    → AreStartedInWaves script (if b then j else Refused (stmt_at k z) Lost ∷ j)
refusal_start script k j z true so_far = so_far
refusal_start script k j z false so_far = (tt, so_far)

refusals_start : (script : ScriptParts) (k : Inst) (zs : List ℕ) (j : Past) → AreStartedInWaves script j → AreStartedInWaves script (fold (with_refusal k) j zs)
refusals_start script k [] j so_far = so_far
refusals_start script k (z ∷ zs) j so_far =
    refusals_start script k zs (with_refusal k j z) (refusal_start script k j z (is_idle (session_at k z).doing) so_far)

-- a step's starts stand behind the answers of the earlier waves
took_starts : (script : ScriptParts) (n m : Inst) (past : Past) (es : List Entry) → Took n m es
    → ((z : ℕ) → MayStart n z → AreAnswered (earlier (stmt_at n z) script.waves) past) → AreStartedInWaves script past → AreStartedInWaves script (es ++ past)
took_starts script n m past es (rests same q) done so_far = quiet_starts script past es (silents_quiet es q) so_far
took_starts script n m past es (opens same is) done so_far =
    quiet_starts script past es (subst (λ (l : List Entry). Quiets l) (sym is) (openings_quiet n.plan.me m.wave.entered n.plan.openings [] tt)) so_far
took_starts script n m past es (starts z s plan begins set is) done so_far =
    subst (λ (l : List Entry). AreStartedInWaves script (l ++ past)) (sym is) (done z begins, so_far)
took_starts script n m past es (answers z e plan begins set told is) done so_far =
    subst (λ (l : List Entry). AreStartedInWaves script (l ++ past)) (sym is) (answer_start script past e (stmt_at n z) told, so_far)
took_starts script n m past es (loses k quiet same is q told) done so_far =
    subst (λ (j : Past). AreStartedInWaves script j) (sym (loss_told k past es quiet told))
    (refusals_start script k k.plan.mine (quiet ++ past) (quiet_starts script past quiet (silents_quiet quiet q) so_far))

-- An instance's wave, and its lines under way, are of a wave up to the current one.
pub record IsTimely (core : Core) (n : Inst) : Type 0 where
  pub entered : n.wave.entered ≤ core.waves.wave
  pub busy : Busy core.waves.wave n

-- So it is of each instance, and each start stands behind the answers of the earlier waves.
pub record Timely (script : ScriptParts) (w : World) : Type 0 where
  pub lines : Lines script w
  pub insts : (i : ℕ) (n : Inst) → slice_get w.insts i ≡ Some n → IsTimely w.core n
  pub small : w.core.waves.wave ≤ 2 ^ 32 - 1
  pub started : AreStartedInWaves script w.core.journal

risen_wave : (wave : ℕ) (last : Bool) → wave ≤ 2 ^ 32 - 1 → (wave ≤ (if last then wave else min (wave + 1) (2 ^ 32 - 1))) × ((if last then wave else min (wave + 1) (2 ^ 32 - 1)) ≤ 2 ^ 32 - 1)
risen_wave wave true small = (omega arith, small)
risen_wave wave false small = (omega (arith, small), omega arith)

wave_on : (n : Inst) (core : Core) (action : Action) → core.waves.wave ≤ 2 ^ 32 - 1
    → (core.waves.wave ≤ (round_after (prepared n core action) (counted core n.plan.me action) action).wave)
    × ((round_after (prepared n core action) (counted core n.plan.me action) action).wave ≤ 2 ^ 32 - 1)
unfolding prepared counted
wave_on n core (Plain plain.Leave) small = (omega arith, small)
wave_on n core (Plain plain.Wave) small = risen_wave core.waves.wave (is_last core.waves) small
wave_on n core _ small = (omega arith, small)

timely_on : (core now : Core) (x : Inst) → core.waves.wave ≤ now.waves.wave → IsTimely core x → IsTimely now x
timely_on core now x le at = record {
  entered = (let was = at.entered in omega (arith, le, was));
  busy = λ z was. (let up = at.busy z was in omega (arith, le, up));
}

timely_each : (core now : Core) (m : Inst) (i : ℕ) (insts : List Inst) → ((y : ℕ) (x : Inst) → slice_get insts y ≡ Some x → IsTimely core x)
    → core.waves.wave ≤ now.waves.wave → IsTimely core m → (y : ℕ) (x : Inst)
    → ((y ≡ i) × (x ≡ m)) ⊎ ((y ≡ i → ⊥) × (slice_get insts y ≡ Some x)) → IsTimely now x
timely_each core now m i insts at le own y x (inl is) = subst (λ (q : Inst). IsTimely now q) (sym is.1) (timely_on core now m le own)
timely_each core now m i insts at le own y x (inr is) = timely_on core now x le (at y x is.1)

-- the waves before that of a line that starts are answered
begun_after : (script : ScriptParts) (w : World) (k : Inst) (i z : ℕ) → IsWellFormed script → Lines script w → parts_of k.plan ≡ first_plan script i
    → (course_at k z).next < length (lines_in k.plan z) → wave_no (lines_in k.plan z) (course_at k z).next ≤ w.core.waves.wave
    → AreAnswered (earlier (stmt_at k z) script.waves) w.core.journal
begun_after script w k i z fit lines plan at le =
    subst (λ (n : ℕ). AreAnswered (earlier n script.waves) w.core.journal) (sym (next_stmt k z)) (by (home script k.plan i z plan))
  where
    by : Home script k.plan i z → AreAnswered (earlier (stmt_no (lines_in k.plan z) (course_at k z).next) script.waves) w.core.journal
    by (elsewhere is) = absurd (let none : length (lines_in k.plan z) ≡ 0 = ap length is in omega (arith, at, none))
    by (here named there is) =
        subst (λ (ls : List Line). AreAnswered (earlier (stmt_no ls (course_at k z).next) script.waves) w.core.journal) (sym is)
        (line_waves script w z (course_at k z).next fit lines
        (subst (λ (ls : List Line). (course_at k z).next < length ls) is at)
        (subst (λ (ls : List Line). wave_no ls (course_at k z).next ≤ w.core.waves.wave) is le))

pub step_timely : (script : ScriptParts) (old : World) (disk : State) (step : Step) (new : World) (disk_now : State) → IsWellFormed script
    → Made old disk step new disk_now → Timely script old → Timely script new
step_timely script old disk step new disk_now fit made timely =
    let lines = timely.lines in
    let n = made.n in
    let i = step.inst in
    let core = old.core in
    let action = step.action in
    let k = prepared n core action in
    let m = part_after n core action made.how in
    let es = tells n core action made.how in
    let at = lines.insts i n made.at in
    let time = timely.insts i n made.at in
    let same = prepared_stays n core action in
    let plan : parts_of k.plan ≡ first_plan script i = ap parts_of same.plan ∙ at.plan in
    let count : length k.sessions ≡ length script.names = same_count n k same.course ∙ at.count in
    let owned : Placed script k.plan (length k.sessions) = subst (λ (c : ℕ). Placed script k.plan c) (sym count) (placed script k.plan i fit plan) in
    let stands = stands_ready script n k core.journal same at.stands in
    let took_it = took n core action made.how made.needs in
    let busy : Busy core.waves.wave k = busy_ready n k core.waves.wave same time.busy in
    let entered : k.wave.entered ≤ core.waves.wave = (let e = prepared_wave n core action in let le = time.entered in omega (arith, e, le)) in
    let may : MayBegin core.waves.wave k = λ z begins. begin_wave k core.waves.wave z busy entered begins in
    let told : new.core.journal ≡ es ++ core.journal = made_adds old disk step new disk_now made in
    let round : round_of new.core ≡ round_after k (counted core n.plan.me action) action =
    ap round_of made.moved.core ∙ round_by k (counted core n.plan.me action) action made.how in
    let wave : new.core.waves.wave ≡ (round_after k (counted core n.plan.me action) action).wave = ap (λ (r : Round). r.wave) round in
    let on = wave_on n core action timely.small in
    let up : core.waves.wave ≤ new.core.waves.wave = (let le = on.0 in omega (arith, wave, le)) in
    let own : IsTimely core m = record {
      entered = entered_within n core action made.how time.entered;
      busy = took_busy script k m core.journal es core.waves.wave owned stands took_it busy may;
    } in
    record {
      lines = step_made script old disk step new disk_now fit made lines;
      insts = λ y x there. timely_each core new.core m i old.insts timely.insts up own y x
          (set_get old.insts i m y x (subst (λ (l : List Inst). slice_get l y ≡ Some x) made.moved.insts there));
      small = (let le = on.1 in omega (arith, wave, le));
      started = subst (λ (j : Past). AreStartedInWaves script j) (sym told)
          (took_starts script k m core.journal es took_it
          (λ z begins. begun_after script old k i z fit lines plan (start_there script k core.journal z stands begins) (may z begins)) timely.started);
    }

first_time : (script : ScriptParts) (core : Core) (n : Inst) (masters : Masters) (i : ℕ) → core ≡ first_core script → IsFirst script masters i n → IsTimely core n
first_time script core n masters i is first =
    let entered : n.wave.entered ≡ 0 = ap (λ (x : Inst). x.wave.entered) first.part in
    let sessions : n.sessions ≡ replicate (length script.names) new_session = ap (λ (x : Inst). x.sessions) first.part in
    record {
      entered = omega (arith, entered);
      busy = λ z was. true_busy (subst (λ (c : Course). c.idle ≡ false)
          (ap (λ (l : List Session). course_of (get_or l z new_session)) sessions ∙ ap course_of (session_new (length script.names) z)) was);
    }

pub first_timely : (script : ScriptParts) (w : World) → IsWellFormed script → IsFirstWorld script w → Timely script w
first_timely script w fit first = record {
  lines = first_lines script w fit first;
  insts = λ i n at. first_time script w.core n (first_core script).net.masters i first.core
      (first_at_place script (first_core script).net.masters w.insts first.insts i n at);
  small = (let wave : w.core.waves.wave ≡ 1 = ap (λ (c : Core). c.waves.wave) first.core in omega (arith, wave));
  started = subst (λ (c : Core). AreStartedInWaves script c.journal) (sym first.core) tt;
}
