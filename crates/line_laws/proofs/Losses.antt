-- The lines of an instance that ends.
use Rattle.std.proofs.Common.{◌≡◌, ℕ, ◌+◌, ◌<◌, ◌≤◌, Bool, true, false, List, [], ◌∷◌, ◌++◌, length, Some, if◌then◌else◌, refl, sym, ap, subst, ◌∙◌, ◌⊎◌, inl, inr, arith}
use Rattle.std.specs.List.{fold}
use Rattle.std.proofs.Math.ListN.{get_or-map}
use Rattle.std.proofs.lemmas.Bool.{cases_eq}
use Rattle.journal.specs.declared.cause.Cause.TheVariants.{Lost}
use Rattle.journal.specs.declared.entry.Entry.{Entry}
use Rattle.journal.specs.declared.entry.Entry.TheVariants.{Refused}
use Rattle.journal.specs.Past.{Past}
use Rattle.script_text.specs.ScriptParts.{ScriptParts}
use Rattle.inst_state.specs.declared.inst.Inst.{Inst}
use Rattle.inst_state.specs.declared.plan.Plan.{Plan}
use Rattle.inst_state.specs.declared.session.Session.{Session}
use Rattle.inst_state.specs.Sessions.{is_idle, new_session}
use Rattle.inst_state.specs.State.{session_at, stmt_at, stmt_of}
use Rattle.inst_loss.specs.Lost.{lost, lost_session}
use Rattle.inst_state.specs.Sessions.{answered as session_answered}
use Rattle.inst_loss.specs.LostCore.{with_refusal}
use Rattle.line_laws.specs.Turns.{AreInTurn}
use Rattle.line_laws.proofs.ScriptLines.{AreLines, stmt_no}
use Rattle.line_laws.proofs.Courses.{Course, course_at, course_of, halted, line_is, lines_in, passed}
use Rattle.line_laws.proofs.Entries.{after_start, Grows, grows_by, grows_not, grows_then, other_apart}
use Rattle.line_laws.proofs.Stands.{answer_stands, answer_turn, Stands, stands_on}

-- A number is in a list.
abbrev pub In : ℕ → List ℕ → Type 0
In z [] = ⊥
In z (x ∷ xs) = (x ≡ z) ⊎ In z xs

-- The numbers of a list rise strictly, from `from` on.
abbrev pub Ascends : ℕ → List ℕ → Type 0
Ascends from [] = Unit {0}
Ascends from (x ∷ xs) = (from ≤ x) × Ascends (x + 1) xs

pub in_above : (from z : ℕ) (xs : List ℕ) → Ascends from xs → In z xs → from ≤ z
in_above from z [] up h = absurd h
in_above from z (x ∷ xs) up (inl same) = let le : from ≤ x = up.0 in omega (arith, same)
in_above from z (x ∷ xs) up (inr h) = let le : from ≤ x = up.0 in let more : x + 1 ≤ z = in_above (x + 1) z xs up.1 h in omega arith

-- An instance's sessions with lines are its own ones, and are there.
pub record Placed (script : ScriptParts) (plan : Plan) (count : ℕ) : Type 0 where
  pub lines : (z : ℕ) → AreLines script z (lines_in plan z)
  pub own : (z : ℕ) → 0 < length (lines_in plan z) → In z plan.mine
  pub ascend : Ascends 0 plan.mine
  pub there : (z : ℕ) → 0 < length (lines_in plan z) → z < count

-- While the lines under way are refused, those of these sessions are still to be.
record Mid (script : ScriptParts) (k : Inst) (past : Past) (zs : List ℕ) (j : Past) : Type 0 where
  due : (y : ℕ) → In y zs → Stands script y (lines_in k.plan y) (course_at k y) j
  done : (y : ℕ) → (In y zs → ⊥) → Stands script y (lines_in k.plan y) (halted (course_at k y)) j
  turns : AreInTurn script j
  others : (y : ℕ) → length (lines_in k.plan y) ≡ 0 → Grows script y past j

-- a session that is idle is left
halted_idle : (c : Course) → c.idle ≡ true → halted c ≡ c
halted_idle c e = λ i. record {
  next = (ap (λ (b : Bool). if b then c.next else (passed c).next) e) i;
  idle = (sym e) i;
}

halted_busy : (c : Course) → c.idle ≡ false → halted c ≡ passed c
halted_busy c e = λ i. record {
  next = (ap (λ (b : Bool). if b then c.next else (passed c).next) e) i;
  idle = true;
}

done_idle : (script : ScriptParts) (k : Inst) (past : Past) (z : ℕ) (zs : List ℕ) (j : Past) → Mid script k past (z ∷ zs) j
    → (course_at k z).idle ≡ true → (y : ℕ) → (In y zs → ⊥) → (y ≡ z) ⊎ (y ≡ z → ⊥) → Stands script y (lines_in k.plan y) (halted (course_at k y)) j
done_idle script k past z zs j mid idle y out (inl same) =
    subst (λ (x : ℕ). Stands script x (lines_in k.plan x) (halted (course_at k x)) j) (sym same)
    (subst (λ (c : Course). Stands script z (lines_in k.plan z) c j) (sym (halted_idle (course_at k z) idle)) (mid.due z (inl refl)))
done_idle script k past z zs j mid idle y out (inr apart) = mid.done y (out_of z y zs apart out)
  where
    out_of : (z y : ℕ) (zs : List ℕ) → (y ≡ z → ⊥) → (In y zs → ⊥) → In y (z ∷ zs) → ⊥
    out_of z y zs apart out (inl same) = apart (sym same)
    out_of z y zs apart out (inr h) = out h

refuse_idle : (script : ScriptParts) (k : Inst) (past : Past) (z : ℕ) (zs : List ℕ) (j : Past) → Mid script k past (z ∷ zs) j
    → (course_at k z).idle ≡ true → Mid script k past zs j
refuse_idle script k past z zs j mid idle = record {
  due = λ y h. mid.due y (inr h);
  done = λ y out. done_idle script k past z zs j mid idle y out (cases_eq y z);
  turns = mid.turns;
  others = mid.others;
}

-- the number of a session's next line
pub next_stmt : (k : Inst) (z : ℕ) → stmt_at k z ≡ stmt_no (lines_in k.plan z) (course_at k z).next
next_stmt k z = ap stmt_of (line_is k z)

done_busy : (script : ScriptParts) (k : Inst) (past : Past) (z : ℕ) (zs : List ℕ) (j : Past) (e : Entry) → Mid script k past (z ∷ zs) j
    → Stands script z (lines_in k.plan z) (halted (course_at k z)) (e ∷ j)
    → ((y : ℕ) → (y ≡ z → ⊥) → Grows script y j (e ∷ j)) → (y : ℕ) → (In y zs → ⊥) → (y ≡ z) ⊎ (y ≡ z → ⊥)
    → Stands script y (lines_in k.plan y) (halted (course_at k y)) (e ∷ j)
done_busy script k past z zs j e mid now grows y out (inl same) =
    subst (λ (x : ℕ). Stands script x (lines_in k.plan x) (halted (course_at k x)) (e ∷ j)) (sym same) now
done_busy script k past z zs j e mid now grows y out (inr apart) =
    stands_on script y (lines_in k.plan y) (halted (course_at k y)) j (e ∷ j) (mid.done y (out_of z y zs apart out)) (grows y apart)
  where
    out_of : (z y : ℕ) (zs : List ℕ) → (y ≡ z → ⊥) → (In y zs → ⊥) → In y (z ∷ zs) → ⊥
    out_of z y zs apart out (inl same) = apart (sym same)
    out_of z y zs apart out (inr h) = out h

refuse_busy : (script : ScriptParts) (k : Inst) (past : Past) (from z : ℕ) (zs : List ℕ) (j : Past) (count : ℕ) → Placed script k.plan count
    → Ascends from (z ∷ zs) → Mid script k past (z ∷ zs) j → (course_at k z).idle ≡ false → Mid script k past zs (Refused (stmt_at k z) Lost ∷ j)
refuse_busy script k past from z zs j count placed up mid busy =
    let ls = lines_in k.plan z in
    let c = course_at k z in
    let e = Refused (stmt_at k z) Lost in
    let stands = mid.due z (inl refl) in
    let began = stands.started busy in
    let is = ap Some (next_stmt k z) in
    let line = (placed.lines z).are c.next began.0 in
    let grows : (y : ℕ) → (y ≡ z → ⊥) → Grows script y j (e ∷ j) =
    λ y apart. grows_by script y j e (other_apart script y e (stmt_no ls c.next) z line.0 is line.1 apart) in
    let now : Stands script z ls (halted c) (e ∷ j) =
    subst (λ (d : Course). Stands script z ls d (e ∷ j)) (sym (halted_busy c busy)) (answer_stands script z ls c j e (placed.lines z) stands began.0 is) in
    record {
      due = λ y h. stands_on script y (lines_in k.plan y) (course_at k y) j (e ∷ j) (mid.due y (inr h))
          (grows y (λ same. (let above : z + 1 ≤ y = in_above (z + 1) y zs up.1 h in omega (arith, above, same))));
      done = λ y out. done_busy script k past z zs j e mid now grows y out (cases_eq y z);
      turns = (answer_turn script z ls c j e (placed.lines z) stands began.0 is (after_start e (stmt_no ls c.next) j began.1), mid.turns);
      others = λ y none. grows_then script y past j (e ∷ j) (mid.others y none)
          (grows y (λ same. (let at : c.next < length ls = began.0 in let lack : length ls ≡ 0 = subst (λ (x : ℕ). length (lines_in k.plan x) ≡ 0) same none in omega (arith, at, lack))));
    }

refuse_one : (script : ScriptParts) (k : Inst) (past : Past) (from z : ℕ) (zs : List ℕ) (j : Past) (count : ℕ) → Placed script k.plan count
    → Ascends from (z ∷ zs) → Mid script k past (z ∷ zs) j → (idle : Bool) → (course_at k z).idle ≡ idle → Mid script k past zs (with_refusal k j z)
refuse_one script k past from z zs j count placed up mid true e =
    subst (λ (b : Bool). Mid script k past zs (if b then j else Refused (stmt_at k z) Lost ∷ j)) (sym e) (refuse_idle script k past z zs j mid e)
refuse_one script k past from z zs j count placed up mid false e =
    subst (λ (b : Bool). Mid script k past zs (if b then j else Refused (stmt_at k z) Lost ∷ j)) (sym e) (refuse_busy script k past from z zs j count placed up mid e)

refuse_all : (script : ScriptParts) (k : Inst) (past : Past) (from : ℕ) (zs : List ℕ) (j : Past) (count : ℕ) → Placed script k.plan count
    → Ascends from zs → Mid script k past zs j → Mid script k past [] (fold (with_refusal k) j zs)
refuse_all script k past from [] j count placed up mid = mid
refuse_all script k past from (z ∷ zs) j count placed up mid =
    refuse_all script k past (z + 1) zs (with_refusal k j z) count placed up.1
    (refuse_one script k past from z zs j count placed up mid (course_at k z).idle refl)

-- a session that isn't the instance's own one is idle
out_halted : (script : ScriptParts) (k : Inst) (j : Past) (count y : ℕ) → Placed script k.plan count → Stands script y (lines_in k.plan y) (course_at k y) j
    → (In y k.plan.mine → ⊥) → (idle : Bool) → (course_at k y).idle ≡ idle → Stands script y (lines_in k.plan y) (halted (course_at k y)) j
out_halted script k j count y placed stands out true e =
    subst (λ (c : Course). Stands script y (lines_in k.plan y) c j) (sym (halted_idle (course_at k y) e)) stands
out_halted script k j count y placed stands out false e =
    absurd (out (placed.own y (let at : (course_at k y).next < length (lines_in k.plan y) = (stands.started e).0 in omega (arith, at))))

-- the lines of an instance once those under way are refused
pub record Halts (script : ScriptParts) (k : Inst) (past now : Past) : Type 0 where
  pub stands : (y : ℕ) → Stands script y (lines_in k.plan y) (halted (course_at k y)) now
  pub turns : AreInTurn script now
  pub others : (y : ℕ) → length (lines_in k.plan y) ≡ 0 → Grows script y past now

pub halts : (script : ScriptParts) (k : Inst) (past : Past) (count : ℕ) → Placed script k.plan count
    → ((y : ℕ) → Stands script y (lines_in k.plan y) (course_at k y) past) → AreInTurn script past
    → Halts script k past (fold (with_refusal k) past k.plan.mine)
halts script k past count placed stands turns =
    let mid = refuse_all script k past 0 k.plan.mine past count placed placed.ascend (record {
      due = λ y h. stands y;
      done = λ y out. out_halted script k past count y placed (stands y) out (course_at k y).idle refl;
      turns = turns;
      others = λ y none. grows_not script y past;
    }) in
    record { stands = λ y. mid.done y (λ h. h); turns = mid.turns; others = mid.others }

lost_course_as : (s : Session) (idle : Bool) → is_idle s.doing ≡ idle → course_of (if idle then s else session_answered s) ≡ halted (record { next = s.next; idle = idle })
lost_course_as s true e = λ i. record { next = s.next; idle = e i }
lost_course_as s false e = refl

lost_course : (s : Session) → course_of (lost_session s) ≡ halted (course_of s)
lost_course s = lost_course_as s (is_idle s.doing) refl

-- how far a session has come whose instance has ended
pub lost_at : (k : Inst) (y : ℕ) → course_at (lost k) y ≡ halted (course_at k y)
lost_at k y = ap course_of (get_or-map lost_session k.sessions y new_session) ∙ lost_course (session_at k y)

-- refusals in front of what was told
pub refusals_in_front : (k : Inst) (zs : List ℕ) (first rest : Past) → fold (with_refusal k) first zs ++ rest ≡ fold (with_refusal k) (first ++ rest) zs
refusals_in_front k [] first rest = refl
refusals_in_front k (z ∷ zs) first rest =
    refusals_in_front k zs (with_refusal k first z) rest
    ∙ ap (λ (j : Past). fold (with_refusal k) j zs) (one (is_idle (session_at k z).doing))
  where
    one : (b : Bool) → (if b then first else Refused (stmt_at k z) Lost ∷ first) ++ rest ≡ (if b then first ++ rest else Refused (stmt_at k z) Lost ∷ (first ++ rest))
    one true = refl
    one false = refl
