-- The lines that wait are of the current wave or a later one.
use Rattle.std.proofs.Common.{◌≡◌, ℕ, zero, suc, ◌+◌, ◌-◌, ◌^◌, ◌<◌, ◌≤◌, ◌&&◌, ◌||◌, min, not, Bool, true, false, List, [], ◌∷◌, length, get_or, replicate, Option, Some, None, slice_get, if◌then◌else◌, refl, sym, ap, subst, ◌∙◌, ◌⊎◌, inl, inr, arith}
use Rattle.std.specs.Prelude.{◌==◌, is_none}
use Rattle.std.specs.List.{list_all}
use Rattle.std.proofs.lemmas.Bool.{and_parts, cases_lt, eqb-false, eqb-true, leb-true, lt-ltb, or_cases}
use Rattle.std.proofs.lemmas.List.{get_or-set_other}
use Rattle.std.proofs.lemmas.List.Folds.{list_all_at}
use Rattle.inst_set.specs.declared.set.InstSet.{InstSet}
use Rattle.inst_set.specs.Sets.{all_insts, has, has_if, holds_all, no_insts, with_inst}
use Rattle.script_text.specs.ScriptParts.{ScriptParts}
use Rattle.inst_state.specs.declared.inst.Inst.{Inst}
use Rattle.inst_state.specs.declared.line.Line.{Line}
use Rattle.inst_state.specs.declared.shared.Core.{Core}
use Rattle.inst_state.specs.Shared.{all_left, insts_below}
use Rattle.inst_state.specs.State.{in_wave, line_at, line_now}
use Rattle.wave_steps.specs.WaveEnd.{has_answered_all, is_last, left, may_leave, risen}
use Rattle.line_laws.proofs.Courses.{course_at, line_is, lines_in}
use Rattle.line_laws.proofs.Losses.{In, Placed}
use Rattle.line_laws.proofs.Rounds.{Round, round_of}
use Rattle.line_laws.proofs.ScriptLines.{AreLines, wave_no, wave_of}

-- A session's lines from its next one on are of the current wave or a later one, of a later one where its instance has left the
-- wave, and there are none where the last wave is over.
pub record Awaits (r : Round) (me : ℕ) (ls : List Line) (next : ℕ) : Type 0 where
  pub now : (j : ℕ) → next ≤ j → j < length ls → r.wave ≤ wave_no ls j
  pub gone : has r.left me ≡ true → (j : ℕ) → next ≤ j → j < length ls → r.wave < wave_no ls j
  pub none : r.over ≡ true → length ls ≤ next

pub awaits_on : (r : Round) (me : ℕ) (ls : List Line) (a b : ℕ) → a ≤ b → Awaits r me ls a → Awaits r me ls b
awaits_on r me ls a b le w = record {
  now = λ j from at. w.now j (omega (arith, le, from)) at;
  gone = λ is j from at. w.gone is j (omega (arith, le, from)) at;
  none = λ over. (let all : length ls ≤ a = w.none over in omega (arith, le, all));
}

-- an instance leaves

still_there : (set : InstSet) (me y : ℕ) → (y ≡ me → ⊥) → has (with_inst set me) y ≡ has set y
still_there it me y apart = get_or-set_other it.present me y true false apart

pub awaits_left : (n : Inst) (core : Core) (y : ℕ) (ls : List Line) (next : ℕ) → (y ≡ n.plan.me → ⊥) → Awaits (round_of core) y ls next
    → Awaits (round_of (left n core)) y ls next
awaits_left n core y ls next apart w = record {
  now = w.now;
  gone = λ is. w.gone (sym (still_there core.waves.left n.plan.me y apart) ∙ is);
  none = w.none;
}

wave_apart : (wave : ℕ) (o : Option Line) (line : Line) → o ≡ Some line → is_none (in_wave wave o) ≡ true → (line.wave == wave) ≡ false
wave_apart wave o line is none = by (line.wave == wave) (subst (λ (q : Option Line). is_none (in_wave wave q) ≡ true) is none)
  where
    by : (b : Bool) → is_none (if b then Some line else None) ≡ true → b ≡ false
    by true e = absurd (let no : false ≡ true = e in cc)
    by false e = refl

all_at : (p : ℕ → Bool) (zs : List ℕ) (z : ℕ) → list_all p zs ≡ true → In z zs → p z ≡ true
all_at p [] z all h = absurd h
all_at p (x ∷ zs) z all (inl same) = sym (ap p same) ∙ (and_parts (p x) (list_all p zs) all).0
all_at p (x ∷ zs) z all (inr h) = all_at p zs z (and_parts (p x) (list_all p zs) all).1 h

line_there : (ls : List Line) (k : ℕ) → k < length ls → (line : Line) × (slice_get ls k ≡ Some line)
line_there [] k at = absurd (omega arith)
line_there (l ∷ ls) zero at = (l, refl)
line_there (l ∷ ls) (suc k) at = line_there ls k (omega arith)

-- where its lines of the wave are answered, its next one is of a later wave
later_wave : (script : ScriptParts) (n : Inst) (core : Core) (z j : ℕ) (count : ℕ) → Placed script n.plan count → has_answered_all n ≡ true
    → n.wave.entered ≡ core.waves.wave → core.waves.wave ≤ wave_no (lines_in n.plan z) (course_at n z).next
    → (course_at n z).next ≤ j → j < length (lines_in n.plan z) → core.waves.wave < wave_no (lines_in n.plan z) j
later_wave script n core z j count placed all entered now from at =
    let ls = lines_in n.plan z in
    let next = (course_at n z).next in
    let mine = placed.own z (omega (arith, at)) in
    let none : is_none (line_now n z) ≡ true = all_at (λ (y : ℕ). is_none (line_now n y)) n.plan.mine z all mine in
    let there = line_there ls next (omega (arith, from, at)) in
    let apart = wave_apart n.wave.entered (line_at n z) there.0 (line_is n z ∙ there.1) none in
    let wave : wave_no ls next ≡ there.0.wave = ap wave_of there.1 in
    let other : there.0.wave ≡ n.wave.entered → ⊥ = eqb-false there.0.wave n.wave.entered apart in
    let rises : wave_no ls next ≤ wave_no ls j = (placed.lines z).waves next j from at in
    by (cases_lt core.waves.wave (wave_no ls next)) rises (λ same. other (sym wave ∙ same ∙ sym entered)) now
  where
    by : (core.waves.wave < wave_no (lines_in n.plan z) (course_at n z).next) ⊎ (wave_no (lines_in n.plan z) (course_at n z).next ≤ core.waves.wave)
        → wave_no (lines_in n.plan z) (course_at n z).next ≤ wave_no (lines_in n.plan z) j
        → (wave_no (lines_in n.plan z) (course_at n z).next ≡ core.waves.wave → ⊥) → core.waves.wave ≤ wave_no (lines_in n.plan z) (course_at n z).next
        → core.waves.wave < wave_no (lines_in n.plan z) j
    by (inl less) rises apart now = omega arith
    by (inr le) rises apart now = absurd (apart (omega arith))

pub awaits_leaving : (script : ScriptParts) (n : Inst) (core : Core) (z count : ℕ) → Placed script n.plan count → may_leave n core ≡ true
    → Awaits (round_of core) n.plan.me (lines_in n.plan z) (course_at n z).next → Awaits (round_of (left n core)) n.plan.me (lines_in n.plan z) (course_at n z).next
awaits_leaving script n core z count placed may w =
    let ls = lines_in n.plan z in
    let a = and_parts (n.wave.entered == core.waves.wave && not core.waves.over && not (has core.waves.left n.plan.me)) (has_answered_all n) may in
    let b = and_parts (n.wave.entered == core.waves.wave && not core.waves.over) (not (has core.waves.left n.plan.me)) a.0 in
    let c = and_parts (n.wave.entered == core.waves.wave) (not core.waves.over) b.0 in
    let entered = eqb-true n.wave.entered core.waves.wave c.0 in
    record {
      now = w.now;
      gone = λ is j from at. later_wave script n core z j count placed a.1 entered (w.now (course_at n z).next (omega arith) (omega (arith, from, at))) from at;
      none = w.none;
    }

-- the next wave rises

below_has : (n y : ℕ) → y < n → y < 8 → has (insts_below n) y ≡ true
unfolding insts_below
below_has n zero less few = lt-ltb 0 n less
below_has n (suc zero) less few = lt-ltb 1 n less
below_has n (suc (suc zero)) less few = lt-ltb 2 n less
below_has n (suc (suc (suc zero))) less few = lt-ltb 3 n less
below_has n (suc (suc (suc (suc zero)))) less few = lt-ltb 4 n less
below_has n (suc (suc (suc (suc (suc zero))))) less few = lt-ltb 5 n less
below_has n (suc (suc (suc (suc (suc (suc zero)))))) less few = lt-ltb 6 n less
below_has n (suc (suc (suc (suc (suc (suc (suc zero))))))) less few = lt-ltb 7 n less
below_has n (suc (suc (suc (suc (suc (suc (suc (suc y)))))))) less few = absurd (omega arith)

all_is : (y : ℕ) → y < 8 → get_or all_insts y 0 ≡ y
all_is zero few = refl
all_is (suc zero) few = refl
all_is (suc (suc zero)) few = refl
all_is (suc (suc (suc zero))) few = refl
all_is (suc (suc (suc (suc zero)))) few = refl
all_is (suc (suc (suc (suc (suc zero))))) few = refl
all_is (suc (suc (suc (suc (suc (suc zero)))))) few = refl
all_is (suc (suc (suc (suc (suc (suc (suc zero))))))) few = refl
all_is (suc (suc (suc (suc (suc (suc (suc (suc y)))))))) few = absurd (omega arith)

left_by : (it below : InstSet) (y : ℕ) → holds_all it below ≡ true → y < 8 → has below y ≡ true → (b : Bool) → has it y ≡ b → has it y ≡ true
left_by it below y all few there true e = e
left_by it below y all few there false e =
    let lacks : has_if it below y ≡ false = ap (λ (b : Bool). not (has below y) || b) e ∙ ap (λ (b : Bool). not b || false) there in
    let none = list_all_at (has_if it below) all_insts y 0 few (ap (has_if it below) (all_is y few) ∙ lacks) in
    absurd (let no : false ≡ true = sym none ∙ all in cc)

pub has_left : (core : Core) (y : ℕ) → all_left core ≡ true → y < core.layout.instances → y < 8 → has core.waves.left y ≡ true
has_left core y all less few =
    left_by core.waves.left (insts_below core.layout.instances) y all few (below_has core.layout.instances y less few) (has core.waves.left y) refl

nobody_by : (count y : ℕ) → get_or (replicate count false) y false ≡ false
nobody_by zero y = refl
nobody_by (suc count) zero = refl
nobody_by (suc count) (suc y) = nobody_by count y

pub nobody : (y : ℕ) → has no_insts y ≡ true → ⊥
nobody y is = let no : false ≡ true = sym (nobody_by 8 y) ∙ is in cc

rises_to : (last : Bool) (wave : ℕ) → (if last then wave else min (wave + 1) (2 ^ 32 - 1)) ≤ wave + 1
rises_to true wave = omega arith
rises_to false wave = omega arith

none_left : (ls : List Line) (next wave : ℕ) → ((j : ℕ) → next ≤ j → j < length ls → wave < wave_no ls j) → ((j : ℕ) → j < length ls → wave_no ls j ≤ wave)
    → (next < length ls) ⊎ (length ls ≤ next) → length ls ≤ next
none_left ls next wave above below (inl more) =
    absurd (let up : wave < wave_no ls next = above next (omega arith) more in let down : wave_no ls next ≤ wave = below next more in omega (arith, up, down))
none_left ls next wave above below (inr le) = le

over_by : (script : ScriptParts) (core : Core) (z : ℕ) (ls : List Line) (next : ℕ) → AreLines script z ls → core.waves.count ≡ length script.waves
    → ((j : ℕ) → next ≤ j → j < length ls → core.waves.wave < wave_no ls j) → (core.waves.over ≡ true → length ls ≤ next)
    → (core.waves.over ≡ true) ⊎ (is_last core.waves ≡ true) → length ls ≤ next
over_by script core z ls next are count gone none (inl over) = none over
over_by script core z ls next are count gone none (inr last) =
    let most : core.waves.count ≤ core.waves.wave = leb-true core.waves.count core.waves.wave last in
    none_left ls next core.waves.wave gone (λ j at. (let top : wave_no ls j ≤ length script.waves = are.last j at in omega (arith, top, most, count))) (cases_lt next (length ls))

pub awaits_risen : (script : ScriptParts) (core : Core) (me z : ℕ) (ls : List Line) (next : ℕ) → AreLines script z ls → core.waves.count ≡ length script.waves
    → has core.waves.left me ≡ true → Awaits (round_of core) me ls next → Awaits (round_of (risen core)) me ls next
awaits_risen script core me z ls next are count out w =
    let gone = w.gone out in
    record {
      now = λ j from at. (let up : core.waves.wave < wave_no ls j = gone j from at in let to = rises_to (is_last core.waves) core.waves.wave in omega (arith, up, to));
      gone = λ is. absurd (nobody me is);
      none = λ over. over_by script core z ls next are count gone w.none (or_cases core.waves.over (is_last core.waves) over);
    }
