-- Where the lines of a session are.
use Rattle.std.proofs.Common.{◌≡◌, ℕ, zero, suc, ◌+◌, ◌<◌, ◌≤◌, Bool, true, false, List, [], ◌∷◌, length, get_or, map, filter, Option, Some, None, slice_get, if◌then◌else◌, refl, sym, ap, subst, ◌∙◌, ◌⊎◌, inl, inr, arith}
use Rattle.std.specs.Prelude.{cond}
use Rattle.std.specs.List.{range_with_len}
use Rattle.std.proofs.lemmas.Bool.{cases_lt, eq-eqb, eqb-true}
use Rattle.std.proofs.lemmas.List.{get_or_past}
use Rattle.std.proofs.lemmas.List.FromFn.{get_or-map-range_with_len, length-map-range_with_len}
use Rattle.script_text.specs.ScriptParts.{ScriptParts}
use Rattle.script_text.specs.WellFormed.{IsWellFormed}
use Rattle.inst_state.specs.declared.line.Line.{Line}
use Rattle.inst_state.specs.declared.plan.Plan.{Plan}
use Rattle.first_state.specs.Lines.{session_lines}
use Rattle.first_state.specs.Plan.{first_plan, is_home, is_inst, lines_of, numbered, parts_of, PlanParts}
use Rattle.line_laws.proofs.Courses.{lines_in}
use Rattle.line_laws.proofs.Losses.{Ascends, In, Placed}
use Rattle.line_laws.proofs.ScriptLines.{AreLines, lines_are, no_lines}

-- whether a session's lines are at an instance
pub data Home (script : ScriptParts) (plan : Plan) (me z : ℕ) : Type 0 where
  elsewhere : lines_in plan z ≡ [] → Home script plan me z
  here : z < length script.names → is_home script me z ≡ true → lines_in plan z ≡ session_lines z (numbered script) → Home script plan me z

home_by : (script : ScriptParts) (plan : Plan) (me z : ℕ) → z < length script.names → lines_in plan z ≡ lines_of script me z
    → (b : Bool) → is_home script me z ≡ b → Home script plan me z
home_by script plan me z within is true e =
    here within e (is ∙ ap (λ (b : Bool). if b then session_lines z (numbered script) else []) e)
home_by script plan me z within is false e =
    elsewhere (is ∙ ap (λ (b : Bool). if b then session_lines z (numbered script) else []) e)

laid : (script : ScriptParts) (plan : Plan) (me : ℕ) → parts_of plan ≡ first_plan script me → plan.lines ≡ map (lines_of script me) (range_with_len 0 (length script.names))
laid script plan me e = ap (λ (p : PlanParts). p.lines) e

home_of : (script : ScriptParts) (plan : Plan) (me z : ℕ) → parts_of plan ≡ first_plan script me → (z < length script.names) ⊎ (length script.names ≤ z)
    → Home script plan me z
home_of script plan me z e (inl within) =
    home_by script plan me z within
    (ap (λ (l : List (List Line)). get_or l z []) (laid script plan me e) ∙ get_or-map-range_with_len (lines_of script me) 0 (length script.names) z z [] within (omega arith))
    (is_home script me z) refl
home_of script plan me z e (inr past) =
    elsewhere (ap (λ (l : List (List Line)). get_or l z []) (laid script plan me e)
    ∙ get_or_past (map (lines_of script me) (range_with_len 0 (length script.names))) z []
    (let len = length-map-range_with_len (lines_of script me) 0 (length script.names) in omega (arith, len, past)))

pub home : (script : ScriptParts) (plan : Plan) (me z : ℕ) → parts_of plan ≡ first_plan script me → Home script plan me z
home script plan me z e = home_of script plan me z e (cases_lt z (length script.names))

in_range : (a n z : ℕ) → a ≤ z → z < a + n → In z (range_with_len a n)
in_range a zero z from to = absurd (omega arith)
in_range a (suc n) z from to = by (λ less. in_range (a + 1) n z (omega (arith, less)) (omega (arith, to))) (cases_lt a z)
  where
    by : (a < z → In z (range_with_len (a + 1) n)) → (a < z) ⊎ (z ≤ a) → In z (range_with_len a (suc n))
    by later (inl less) = inr (later less)
    by later (inr le) = inl (omega arith)

in_filter : (p : ℕ → Bool) (xs : List ℕ) (z : ℕ) → In z xs → p z ≡ true → In z (filter p xs)
in_filter p [] z h is = h
in_filter p (x ∷ xs) z (inl same) is =
    subst (λ (b : Bool). In z (cond b (x ∷ filter p xs) (filter p xs))) (sym (ap p same ∙ is)) (inl same)
in_filter p (x ∷ xs) z (inr h) is = by (in_filter p xs z h is) (p x)
  where
    by : In z (filter p xs) → (b : Bool) → In z (cond b (x ∷ filter p xs) (filter p xs))
    by later true = inr later
    by later false = later

ascends_weaker : (a b : ℕ) (xs : List ℕ) → a ≤ b → Ascends b xs → Ascends a xs
ascends_weaker a b [] le up = tt
ascends_weaker a b (x ∷ xs) le up = let from : b ≤ x = up.0 in (omega arith, up.1)

ascends_if : (a : ℕ) (xs : List ℕ) (b : Bool) → Ascends (a + 1) xs → Ascends a (cond b (a ∷ xs) xs)
ascends_if a xs true up = (omega arith, up)
ascends_if a xs false up = ascends_weaker a (a + 1) xs (omega arith) up

range_ascends : (p : ℕ → Bool) (a n : ℕ) → Ascends a (filter p (range_with_len a n))
range_ascends p a zero = tt
range_ascends p a (suc n) = ascends_if a (filter p (range_with_len (a + 1) n)) (p a) (range_ascends p (a + 1) n)

own : (script : ScriptParts) (plan : Plan) (me : ℕ) → parts_of plan ≡ first_plan script me
    → plan.mine ≡ filter (is_home script me) (range_with_len 0 (length script.names))
own script plan me e = ap (λ (p : PlanParts). p.mine) e

lines_at_home : (script : ScriptParts) (plan : Plan) (me z : ℕ) → IsWellFormed script → Home script plan me z → AreLines script z (lines_in plan z)
lines_at_home script plan me z fit (elsewhere is) = subst (λ (l : List Line). AreLines script z l) (sym is) (no_lines script z)
lines_at_home script plan me z fit (here within at is) = subst (λ (l : List Line). AreLines script z l) (sym is) (lines_are script z fit)

own_at_home : (script : ScriptParts) (plan : Plan) (me z : ℕ) → parts_of plan ≡ first_plan script me → 0 < length (lines_in plan z) → Home script plan me z
    → In z plan.mine × (z < length script.names)
own_at_home script plan me z e some (elsewhere is) = absurd (let none : length (lines_in plan z) ≡ 0 = ap length is in omega (arith, some, none))
own_at_home script plan me z e some (here within at is) = (
  subst (λ (l : List ℕ). In z l) (sym (own script plan me e))
      (in_filter (is_home script me) (range_with_len 0 (length script.names)) z (in_range 0 (length script.names) z (omega arith) (omega arith)) at),
  within,
)

-- an instance's sessions with lines are its own ones
pub placed : (script : ScriptParts) (plan : Plan) (me : ℕ) → IsWellFormed script → parts_of plan ≡ first_plan script me → Placed script plan (length script.names)
placed script plan me fit e = record {
  lines = λ z. lines_at_home script plan me z fit (home script plan me z e);
  own = λ z some. (own_at_home script plan me z e some (home script plan me z e)).0;
  ascend = subst (λ (l : List ℕ). Ascends 0 l) (sym (own script plan me e)) (range_ascends (is_home script me) 0 (length script.names));
  there = λ z some. (own_at_home script plan me z e some (home script plan me z e)).1;
}

one_home : (a b : ℕ) (o : Option ℕ) → is_inst a o ≡ true → is_inst b o ≡ true → a ≡ b
one_home a b None first later = absurd (let no : false ≡ true = first in cc)
one_home a b (Some home) first later = sym (eqb-true home a first) ∙ eqb-true home b later

-- a session with lines at one instance has none at another
apart_by : (script : ScriptParts) (first later : Plan) (a b z : ℕ) → (b ≡ a → ⊥) → Home script first a z → Home script later b z
    → (length (lines_in later z) ≡ 0) ⊎ (length (lines_in first z) ≡ 0)
apart_by script first later a b z other (elsewhere is) at = inr (ap length is)
apart_by script first later a b z other (here within at is) (elsewhere none) = inl (ap length none)
apart_by script first later a b z other (here within at is) (here there_too at_too is_too) =
    absurd (other (one_home b a (slice_get script.homes z) at_too at))

pub apart : (script : ScriptParts) (first later : Plan) (a b z : ℕ) → (b ≡ a → ⊥) → parts_of first ≡ first_plan script a → parts_of later ≡ first_plan script b
    → (length (lines_in later z) ≡ 0) ⊎ (length (lines_in first z) ≡ 0)
apart script first later a b z other e f = apart_by script first later a b z other (home script first a z e) (home script later b z f)

-- the lines of a session at its home
pub at_home : (script : ScriptParts) (plan : Plan) (me z : ℕ) → parts_of plan ≡ first_plan script me → slice_get script.homes z ≡ Some me → z < length script.names
    → lines_in plan z ≡ session_lines z (numbered script)
at_home script plan me z e is within =
    ap (λ (l : List (List Line)). get_or l z []) (laid script plan me e) ∙ get_or-map-range_with_len (lines_of script me) 0 (length script.names) z z [] within (omega arith)
    ∙ ap (λ (b : Bool). if b then session_lines z (numbered script) else []) (ap (is_inst me) is ∙ eq-eqb me me refl)
