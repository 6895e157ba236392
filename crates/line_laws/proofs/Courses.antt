-- How far the sessions of an instance have come.
use Rattle.std.proofs.Common.{◌≡◌, ℕ, zero, suc, ◌+◌, ◌-◌, ◌^◌, ◌<◌, min, Bool, true, false, List, [], ◌∷◌, length, map, get_or, Option, Some, None, slice_get, if◌then◌else◌, refl, sym, ap, ◌∙◌, arith}
use Rattle.std.specs.Prelude.{is_some, slice_index_or, slice_set}
use Rattle.std.specs.Option.{option_and_then}
use Rattle.std.proofs.Math.ListN.{get_or-map}
use Rattle.std.proofs.lemmas.List.{get_or-set_other, get_or-set_same, length-map, length-set}
use Rattle.inst_state.specs.declared.inst.Inst.{Inst}
use Rattle.inst_state.specs.declared.line.Line.{Line}
use Rattle.inst_state.specs.declared.plan.Plan.{Plan}
use Rattle.inst_state.specs.declared.session.Session.{Session}
use Rattle.inst_state.specs.Sessions.{is_idle, new_session}
use Rattle.run_laws.proofs.Looks.{other_look, same_look, set_look}
use Rattle.inst_state.specs.State.{in_wave, line_at, line_now, session_at}

-- how far a session has come: its next line, and whether that hasn't started
pub record Course : Type 0 where
  pub next : ℕ
  pub idle : Bool

abbrev pub course_of : Session → Course
course_of s = record { next = s.next; idle = is_idle s.doing }

abbrev pub course_at : Inst → ℕ → Course
course_at n z = course_of (session_at n z)

abbrev pub courses : Inst → List Course
courses n = map course_of n.sessions

-- the lines of a session of an instance
abbrev pub lines_in : Plan → ℕ → List Line
lines_in plan z = slice_index_or plan.lines z []

-- a session whose line is under way
abbrev pub under_way : Course → Course
under_way c = record { next = c.next; idle = false }

-- a session whose line was answered
abbrev pub passed : Course → Course
passed c = record { next = min (c.next + 1) (2 ^ 64 - 1); idle = true }

-- a session whose instance has ended
abbrev pub halted : Course → Course
halted c = record { next = if c.idle then c.next else min (c.next + 1) (2 ^ 64 - 1); idle = true }

item_at : (xs : List (List Line)) (z k : ℕ) → option_and_then (λ (l : List Line). slice_get l k) (slice_get xs z) ≡ slice_get (slice_index_or xs z []) k
item_at [] z k = refl
item_at (x ∷ xs) zero k = refl
item_at (x ∷ xs) (suc z) k = item_at xs z k

-- a session's next line is the one of its lines to which it has come
pub line_is : (n : Inst) (z : ℕ) → line_at n z ≡ slice_get (lines_in n.plan z) (course_at n z).next
line_is n z = item_at n.plan.lines z (session_at n z).next

pub same_course : (n m : Inst) (z : ℕ) → courses m ≡ courses n → course_at m z ≡ course_at n z
same_course n m z e = same_look course_of n m z e

pub set_course : (n m : Inst) (z : ℕ) (c : Course) → courses m ≡ slice_set (courses n) z c → z < length n.sessions → course_at m z ≡ c
set_course n m z c e within = set_look course_of n m z c e within

pub other_course : (n m : Inst) (z : ℕ) (c : Course) (y : ℕ) → courses m ≡ slice_set (courses n) z c → (y ≡ z → ⊥) → course_at m y ≡ course_at n y
other_course n m z c y e apart = other_look course_of n m z c y e apart

pub same_count : (n m : Inst) → courses m ≡ courses n → length m.sessions ≡ length n.sessions
same_count n m e = sym (length-map m.sessions course_of) ∙ ap length e ∙ length-map n.sessions course_of

pub set_count : (n m : Inst) (z : ℕ) (c : Course) → courses m ≡ slice_set (courses n) z c → length m.sessions ≡ length n.sessions
set_count n m z c e =
    sym (length-map m.sessions course_of) ∙ ap length e ∙ length-set (courses n) z c ∙ length-map n.sessions course_of

now_there : (wave : ℕ) (o : Option Line) → is_some (in_wave wave o) ≡ true → is_some o ≡ true
now_there wave None e = e
now_there wave (Some line) e = refl

-- a session's line of the wave is there
pub line_of_now : (n : Inst) (z : ℕ) → is_some (line_now n z) ≡ true → is_some (line_at n z) ≡ true
line_of_now n z e = now_there n.wave.entered (line_at n z) e
