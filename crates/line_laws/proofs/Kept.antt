-- What each kind of step leaves true of an instance's lines.
use Rattle.std.proofs.Common.{◌≡◌, ℕ, zero, suc, ◌<◌, ◌≤◌, Bool, true, false, List, [], ◌∷◌, ◌++◌, length, Option, Some, slice_get, if◌then◌else◌, refl, sym, ap, subst, ◌∙◌, ◌⊎◌, inl, inr, arith, append_assoc}
use Rattle.std.specs.Prelude.{◌==◌, is_some, slice_set}
use Rattle.std.specs.List.{fold}
use Rattle.std.proofs.lemmas.Bool.{cases_eq}
use Rattle.std.proofs.lemmas.List.{length-map}
use Rattle.base_types.specs.declared.names.Scn.{Scn}
use Rattle.journal.specs.declared.entry.Entry.{Entry}
use Rattle.journal.specs.declared.entry.Entry.TheVariants.{Opened, Started}
use Rattle.journal.specs.Past.{Past}
use Rattle.script_text.specs.ScriptParts.{ScriptParts}
use Rattle.script_text.specs.GoodLines.{IsStarted}
use Rattle.script_text.specs.Lines.{answered}
use Rattle.inst_state.specs.declared.inst.Inst.{Inst}
use Rattle.inst_state.specs.declared.line.Line.{Line}
use Rattle.inst_state.specs.declared.plan.Opening.{Opening}
use Rattle.inst_state.specs.declared.plan.Plan.{Plan}
use Rattle.wave_steps.specs.Enter.{told_if}
use Rattle.inst_state.specs.State.{line_at, stmt_at}
use Rattle.inst_loss.specs.Lost.{lost, lost_session}
use Rattle.inst_loss.specs.LostCore.{with_refusal}
use Rattle.line_laws.specs.Turns.{AreInTurn}
use Rattle.line_laws.proofs.ScriptLines.{stmt_no}
use Rattle.line_laws.proofs.Courses.{Course, course_at, courses, halted, line_is, line_of_now, lines_in, other_course, passed, same_count, same_course, set_count, set_course, under_way}
use Rattle.line_laws.proofs.Entries.{after_start, Grows, grows_by, grows_quietly, grows_then, other_apart, is_quiet, quiet_turn, Quiets, silents_quiet}
use Rattle.line_laws.proofs.Losses.{halts, lost_at, next_stmt, Placed, refusals_in_front}
use Rattle.line_laws.proofs.Stands.{answer_stands, answer_turn, Stands, stands_on, start_stands, start_turn}
use Rattle.line_laws.proofs.Took.{MayAnswer, MayStart, Stays, Took, opens, rests, starts, answers, loses}

-- each session of an instance has come as far as the journal says
abbrev pub Standing : ScriptParts → Inst → Past → Type 0
Standing script n past = (z : ℕ) → Stands script z (lines_in n.plan z) (course_at n z) past

-- What a step of an instance leaves: its lines by the lines before it, in its turn, and what the journal says of others' lines.
pub record After (script : ScriptParts) (n m : Inst) (past now : Past) : Type 0 where
  pub plan : m.plan ≡ n.plan
  pub count : length m.sessions ≡ length n.sessions
  pub stands : (z : ℕ) → Stands script z (lines_in n.plan z) (course_at m z) now
  pub turns : AreInTurn script now
  pub others : (y : ℕ) → length (lines_in n.plan y) ≡ 0 → Grows script y past now
  pub on : (z : ℕ) → (course_at n z).next ≤ (course_at m z).next

pub turns_quietly : (script : ScriptParts) (past : Past) (es : List Entry) → Quiets es → AreInTurn script past → AreInTurn script (es ++ past)
turns_quietly script past [] q turns = turns
turns_quietly script past (e ∷ es) q turns = (quiet_turn script (es ++ past) e q.0, turns_quietly script past es q.1 turns)

kept_resting : (script : ScriptParts) (n m : Inst) (past : Past) (es : List Entry) → Stays n m → Quiets es → Standing script n past → AreInTurn script past
    → After script n m past (es ++ past)
kept_resting script n m past es same q stands turns = record {
  plan = same.plan;
  count = same_count n m same.course;
  stands = λ z. subst (λ (c : Course). Stands script z (lines_in n.plan z) c (es ++ past)) (sym (same_course n m z same.course))
      (stands_on script z (lines_in n.plan z) (course_at n z) past (es ++ past) (stands z) (grows_quietly script z past es q));
  turns = turns_quietly script past es q turns;
  others = λ y none. grows_quietly script y past es q;
  on = λ z. (let e : (course_at m z).next ≡ (course_at n z).next = ap (λ (c : Course). c.next) (same_course n m z same.course) in omega (arith, e));
}

some_within : (xs : List Line) (k : ℕ) → is_some (slice_get xs k) ≡ true → k < length xs
some_within [] k e = absurd (let no : false ≡ true = e in cc)
some_within (x ∷ xs) zero e = omega arith
some_within (x ∷ xs) (suc k) e = let at : k < length xs = some_within xs k e in omega arith

-- a session's next line is there
there : (n : Inst) (z : ℕ) → is_some (line_at n z) ≡ true → (course_at n z).next < length (lines_in n.plan z)
there n z e =
    some_within (lines_in n.plan z) (course_at n z).next (subst (λ (o : Option Line). is_some o ≡ true) (line_is n z) e)

pub start_there : (script : ScriptParts) (n : Inst) (past : Past) (z : ℕ) → Standing script n past → MayStart n z
    → (course_at n z).next < length (lines_in n.plan z)
start_there script n past z stands (inl busy) = ((stands z).started busy).0
start_there script n past z stands (inr e) = there n z (line_of_now n z e)

pub answer_there : (script : ScriptParts) (n : Inst) (past : Past) (z : ℕ) (e : Entry) → Standing script n past → MayAnswer n z e
    → (course_at n z).next < length (lines_in n.plan z)
answer_there script n past z e stands (inl busy) = ((stands z).started busy).0
answer_there script n past z e stands (inr p) = there n z p.0

answer_begun : (script : ScriptParts) (n : Inst) (past : Past) (z : ℕ) (e : Entry) → Standing script n past → MayAnswer n z e
    → IsStarted e (stmt_no (lines_in n.plan z) (course_at n z).next) past
answer_begun script n past z e stands (inl busy) =
    after_start e (stmt_no (lines_in n.plan z) (course_at n z).next) past ((stands z).started busy).1
answer_begun script n past z e stands (inr p) =
    subst (λ (x : Entry). IsStarted x (stmt_no (lines_in n.plan z) (course_at n z).next) past) (sym p.1) tt

-- the sessions of an instance, one of which has come on
moved_stands : (script : ScriptParts) (n m : Inst) (past now : Past) (z : ℕ) (c : Course) → courses m ≡ slice_set (courses n) z c
    → z < length n.sessions → Standing script n past → Stands script z (lines_in n.plan z) c now → ((y : ℕ) → (y ≡ z → ⊥) → Grows script y past now)
    → (y : ℕ) → (y ≡ z) ⊎ (y ≡ z → ⊥) → Stands script y (lines_in n.plan y) (course_at m y) now
moved_stands script n m past now z c set within stands here grows y (inl same) =
    subst (λ (x : ℕ). Stands script x (lines_in n.plan x) (course_at m x) now) (sym same)
    (subst (λ (d : Course). Stands script z (lines_in n.plan z) d now) (sym (set_course n m z c set within)) here)
moved_stands script n m past now z c set within stands here grows y (inr apart) =
    subst (λ (d : Course). Stands script y (lines_in n.plan y) d now) (sym (other_course n m z c y set apart))
    (stands_on script y (lines_in n.plan y) (course_at n y) past now (stands y) (grows y apart))

moved_on : (n m : Inst) (z : ℕ) (c : Course) → courses m ≡ slice_set (courses n) z c → z < length n.sessions → (course_at n z).next ≤ c.next
    → (y : ℕ) → (y ≡ z) ⊎ (y ≡ z → ⊥) → (course_at n y).next ≤ (course_at m y).next
moved_on n m z c set within le y (inl same) =
    subst (λ (x : ℕ). (course_at n x).next ≤ (course_at m x).next) (sym same)
    (let e : (course_at m z).next ≡ c.next = ap (λ (d : Course). d.next) (set_course n m z c set within) in omega (arith, e, le))
moved_on n m z c set within le y (inr apart) =
    let e : (course_at m y).next ≡ (course_at n y).next = ap (λ (d : Course). d.next) (other_course n m z c y set apart) in omega (arith, e)

-- a session with lines isn't one without
lines_apart : (n : Inst) (z y : ℕ) → (course_at n z).next < length (lines_in n.plan z) → length (lines_in n.plan y) ≡ 0 → y ≡ z → ⊥
lines_apart n z y at none same =
    let lack : length (lines_in n.plan z) ≡ 0 = subst (λ (x : ℕ). length (lines_in n.plan x) ≡ 0) same none in omega (arith, at, lack)

kept_starting : (script : ScriptParts) (n m : Inst) (past : Past) (z : ℕ) (s : Scn) → Placed script n.plan (length n.sessions) → m.plan ≡ n.plan → MayStart n z
    → courses m ≡ slice_set (courses n) z (under_way (course_at n z)) → Standing script n past → AreInTurn script past
    → After script n m past (Started (stmt_at n z) z s ∷ past)
kept_starting script n m past z s placed plan may set stands turns =
    let ls = lines_in n.plan z in
    let c = course_at n z in
    let at = start_there script n past z stands may in
    let within : z < length n.sessions = placed.there z (omega (arith, at)) in
    subst (λ (k : ℕ). After script n m past (Started k z s ∷ past)) (sym (next_stmt n z)) (
    let e = Started (stmt_no ls c.next) z s in
    let grows : (y : ℕ) → Grows script y past (e ∷ past) = λ y. grows_by script y past e (λ before. refl) in
    record {
      plan = plan;
      count = set_count n m z (under_way c) set;
      stands = λ y. moved_stands script n m past (e ∷ past) z (under_way c) set within stands (start_stands script z ls c past s (stands z) at) (λ y apart. grows y) y (cases_eq y z);
      turns = (start_turn script z ls c past s (placed.lines z) (stands z) at, turns);
      others = λ y none. grows y;
      on = λ y. moved_on n m z (under_way c) set within (omega arith) y (cases_eq y z);
    })

kept_answering : (script : ScriptParts) (n m : Inst) (past : Past) (z : ℕ) (e : Entry) → Placed script n.plan (length n.sessions) → m.plan ≡ n.plan → MayAnswer n z e
    → courses m ≡ slice_set (courses n) z (passed (course_at n z)) → answered e ≡ Some (stmt_at n z) → Standing script n past → AreInTurn script past
    → After script n m past (e ∷ past)
kept_answering script n m past z e placed plan may set is stands turns =
    let ls = lines_in n.plan z in
    let c = course_at n z in
    let at = answer_there script n past z e stands may in
    let within : z < length n.sessions = placed.there z (omega (arith, at)) in
    let told : answered e ≡ Some (stmt_no ls c.next) = is ∙ ap Some (next_stmt n z) in
    let line = (placed.lines z).are c.next at in
    let few : c.next < 10000 = (placed.lines z).few c.next at in
    let grows : (y : ℕ) → (y ≡ z → ⊥) → Grows script y past (e ∷ past) =
    λ y apart. grows_by script y past e (other_apart script y e (stmt_no ls c.next) z line.0 told line.1 apart) in
    record {
      plan = plan;
      count = set_count n m z (passed c) set;
      stands = λ y. moved_stands script n m past (e ∷ past) z (passed c) set within stands (answer_stands script z ls c past e (placed.lines z) (stands z) at told) grows y (cases_eq y z);
      turns = (answer_turn script z ls c past e (placed.lines z) (stands z) at told (answer_begun script n past z e stands may), turns);
      others = λ y none. grows y (lines_apart n z y at none);
      on = λ y. moved_on n m z (passed c) set within (omega (arith, few)) y (cases_eq y z);
    }

halted_on : (c : Course) (idle : Bool) → c.idle ≡ idle → (c.idle ≡ false → c.next < 10000) → c.next ≤ (halted c).next
halted_on c true e few = let same : (halted c).next ≡ c.next = ap (λ (b : Bool). if b then c.next else (passed c).next) e in omega (arith, same)
halted_on c false e few =
    let same : (halted c).next ≡ (passed c).next = ap (λ (b : Bool). if b then c.next else (passed c).next) e in
    let small : c.next < 10000 = few e in
    omega (arith, same, small)

-- the journal that a loss leaves
pub loss_told : (k : Inst) (past : Past) (es quiet : List Entry) → es ≡ fold (with_refusal k) [] k.plan.mine ++ quiet
    → es ++ past ≡ fold (with_refusal k) (quiet ++ past) k.plan.mine
loss_told k past es quiet is =
    ap (λ (l : List Entry). l ++ past) is ∙ append_assoc (fold (with_refusal k) [] k.plan.mine) quiet past
    ∙ refusals_in_front k k.plan.mine [] (quiet ++ past)

kept_lost : (script : ScriptParts) (n k : Inst) (past : Past) (quiet : List Entry) → Placed script n.plan (length n.sessions) → Stays n k → Quiets quiet
    → Standing script n past → AreInTurn script past → After script n (lost k) past (fold (with_refusal k) (quiet ++ past) k.plan.mine)
kept_lost script n k past quiet placed same q stands turns =
    let mid = kept_resting script n k past quiet same q stands turns in
    let count = same_count n k same.course in
    let now = fold (with_refusal k) (quiet ++ past) k.plan.mine in
    let placed_k : Placed script k.plan (length n.sessions) = subst (λ (p : Plan). Placed script p (length n.sessions)) (sym same.plan) placed in
    let left = halts script k (quiet ++ past) (length n.sessions) placed_k
    (λ y. subst (λ (p : Plan). Stands script y (lines_in p y) (course_at k y) (quiet ++ past)) (sym same.plan) (mid.stands y)) mid.turns in
    record {
      plan = same.plan;
      count = length-map k.sessions lost_session ∙ count;
      stands = λ z. subst (λ (c : Course). Stands script z (lines_in n.plan z) c now) (sym (lost_at k z))
          (subst (λ (p : Plan). Stands script z (lines_in p z) (halted (course_at k z)) now) same.plan (left.stands z));
      turns = left.turns;
      others = λ y none. grows_then script y past (quiet ++ past) now (grows_quietly script y past quiet q)
          (left.others y (ap (λ (p : Plan). length (lines_in p y)) same.plan ∙ none));
      on = λ z. (
          let e : (course_at k z).next ≡ (course_at n z).next = ap (λ (c : Course). c.next) (same_course n k z same.course) in
          let h : (course_at (lost k) z).next ≡ (halted (course_at k z)).next = ap (λ (c : Course). c.next) (lost_at k z) in
          let le : (course_at k z).next ≤ (halted (course_at k z)).next =
          halted_on (course_at k z) (course_at k z).idle refl (λ busy. (placed_k.lines z).few (course_at k z).next ((subst (λ (p : Plan). Stands script z (lines_in p z) (course_at k z) (quiet ++ past)) (sym same.plan) (mid.stands z)).started busy).0) in
          omega (arith, e, h, le));
    }

quiet_if : (b : Bool) (e : Entry) (es : List Entry) → is_quiet e ≡ true → Quiets es → Quiets (if b then e ∷ es else es)
quiet_if true e es is q = (is, q)
quiet_if false e es is q = q

-- openings are told quietly
pub openings_quiet : (me wave : ℕ) (openings : List Opening) (es : List Entry) → Quiets es → Quiets (fold (told_if me wave) es openings)
openings_quiet me wave [] es q = q
openings_quiet me wave (opening ∷ openings) es q =
    openings_quiet me wave openings (told_if me wave es opening) (quiet_if (opening.wave == wave) (Opened opening.session me) es refl q)

-- what a step leaves, whatever it does to the lines
pub kept : (script : ScriptParts) (n m : Inst) (past : Past) (es : List Entry) → Placed script n.plan (length n.sessions) → Took n m es
    → Standing script n past → AreInTurn script past → After script n m past (es ++ past)
kept script n m past es placed (rests same q) stands turns = kept_resting script n m past es same (silents_quiet es q) stands turns
kept script n m past es placed (opens same is) stands turns =
    kept_resting script n m past es same (subst (λ (l : List Entry). Quiets l) (sym is) (openings_quiet n.plan.me m.wave.entered n.plan.openings [] tt)) stands turns
kept script n m past es placed (starts z s plan may set is) stands turns =
    subst (λ (l : List Entry). After script n m past (l ++ past)) (sym is) (kept_starting script n m past z s placed plan may set stands turns)
kept script n m past es placed (answers z e plan may set told is) stands turns =
    subst (λ (l : List Entry). After script n m past (l ++ past)) (sym is) (kept_answering script n m past z e placed plan may set told stands turns)
kept script n m past es placed (loses k quiet same is q told) stands turns =
    subst (λ (j : Past). After script n m past j) (sym (loss_told k past es quiet told))
    (subst (λ (x : Inst). After script n x past (fold (with_refusal k) (quiet ++ past) k.plan.mine)) (sym is)
    (kept_lost script n k past quiet placed same (silents_quiet quiet q) stands turns))
