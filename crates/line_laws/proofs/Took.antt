-- What a step does to the lines of an instance's sessions.
use Rattle.std.proofs.Common.{◌≡◌, ℕ, true, false, List, [], ◌∷◌, ◌++◌, Some, refl, ◌∙◌, ◌⊎◌}
use Rattle.std.specs.Prelude.{is_some, slice_set}
use Rattle.std.specs.List.{fold}
use Rattle.base_types.specs.declared.names.Scn.{Scn}
use Rattle.journal.specs.declared.cause.Cause.TheVariants.{NotConnected}
use Rattle.journal.specs.declared.entry.Entry.{Entry}
use Rattle.journal.specs.declared.entry.Entry.TheVariants.{Refused, Started}
use Rattle.script_text.specs.Lines.{answered}
use Rattle.inst_state.specs.declared.inst.Inst.{Inst}
use Rattle.inst_state.specs.State.{line_at, line_now, stmt_at}
use Rattle.inst_loss.specs.Lost.{lost}
use Rattle.inst_loss.specs.LostCore.{with_refusal}
use Rattle.wave_steps.specs.Enter.{with_openings_told}
use Rattle.line_laws.proofs.Courses.{course_at, courses, passed, under_way}
use Rattle.line_laws.proofs.Entries.{Silents}

-- A step leaves an instance's plan, and how far its sessions have come.
pub record Stays (n m : Inst) : Type 0 where
  pub plan : m.plan ≡ n.plan
  pub course : courses m ≡ courses n

pub stays : (n : Inst) → Stays n n
stays n = record { plan = refl; course = refl }

pub stays_then : (a b c : Inst) → Stays a b → Stays b c → Stays a c
stays_then a b c first later = record { plan = later.plan ∙ first.plan; course = later.course ∙ first.course }

-- A session's line has started, or it is there and of the wave.
abbrev pub MayStart : Inst → ℕ → Type 0
MayStart n z = ((course_at n z).idle ≡ false) ⊎ (is_some (line_now n z) ≡ true)

-- A session's line has started, or it is refused as its session isn't connected.
abbrev pub MayAnswer : Inst → ℕ → Entry → Type 0
MayAnswer n z e =
    ((course_at n z).idle ≡ false) ⊎ ((is_some (line_at n z) ≡ true) × (e ≡ Refused (stmt_at n z) NotConnected))

-- A step of an instance that tells these entries leaves its sessions where they are, opens some, starts a line, answers one, or ends the
-- instance.
pub data Took (n m : Inst) (es : List Entry) : Type 0 where
  rests : Stays n m → Silents es → Took n m es
  opens : Stays n m → es ≡ with_openings_told n m.wave.entered [] → Took n m es
  starts : (z : ℕ) (s : Scn) → m.plan ≡ n.plan → MayStart n z → courses m ≡ slice_set (courses n) z (under_way (course_at n z))
      → es ≡ Started (stmt_at n z) z s ∷ [] → Took n m es
  answers : (z : ℕ) (e : Entry) → m.plan ≡ n.plan → MayAnswer n z e → courses m ≡ slice_set (courses n) z (passed (course_at n z))
      → answered e ≡ Some (stmt_at n z) → es ≡ e ∷ [] → Took n m es
  loses : (k : Inst) (quiet : List Entry) → Stays n k → m ≡ lost k → Silents quiet
      → es ≡ fold (with_refusal k) [] k.plan.mine ++ quiet → Took n m es
