-- What a step does to the control lines of the wave, and to its instance's life.
use Rattle.std.proofs.Common.{◌≡◌, ℕ, Bool, true, false, List, [], ◌∷◌, ◌++◌, map, refl, ◌∙◌, ◌⊎◌}
use Rattle.inst_set.specs.declared.set.InstSet.{InstSet}
use Rattle.inst_set.specs.Sets.{with_inst, without_inst}
use Rattle.journal.specs.declared.entry.Entry.{Entry}
use Rattle.journal.specs.declared.entry.Entry.TheVariants.{Checkpointed, Crashed, Ended, Moved, NotDone, Up as IsUp}
use Rattle.inst_state.specs.declared.control.Control.{Control}
use Rattle.inst_state.specs.declared.control.Wanted.TheVariants.{Crash, Move, Start}
use Rattle.inst_state.specs.declared.control.When.{When}
use Rattle.script_text.specs.declared.item.Keep.{Keep}
use Rattle.inst_state.specs.declared.inst.Begun.{Begun}
use Rattle.inst_state.specs.declared.inst.Inst.{Inst}
use Rattle.inst_state.specs.declared.inst.Life.{Life}
use Rattle.inst_state.specs.declared.inst.Life.TheVariants.{Down, Joining, Up}
use Rattle.inst_state.specs.declared.shared.Core.{Core}
use Rattle.inst_state.specs.Controls.{maker}
use Rattle.inst_state.specs.Shared.{answered_if, are_answered, is_live, wave_controls}
use Rattle.std.specs.Prelude.{◌-◌, slice_index_or, slice_set}
use Rattle.wave_steps.specs.Begins.{begun_in}
use Rattle.wave_steps.specs.WaveEnd.{finds_nothing, next_wave}

-- An entry is none of a control line, and doesn't tell that an instance has ended.
abbrev pub is_calm : Entry → Bool
is_calm (Crashed line inst) = false
is_calm (IsUp line inst) = false
is_calm (Moved line) = false
is_calm (Checkpointed line) = false
is_calm (NotDone line) = false
is_calm (Ended inst bad) = false
is_calm _ = true

abbrev pub Calms : List Entry → Type 0
Calms [] = Unit {0}
Calms (e ∷ es) = (is_calm e ≡ true) × Calms es

-- the control lines of the waves, which wave is the current one, and who is live
pub record Rule : Type 0 where
  pub controls : List (List Control)
  pub wave : ℕ
  pub live : InstSet

abbrev pub rule_of : Core → Rule
rule_of core = record { controls = core.waves.controls; wave = core.waves.wave; live = core.members.live }

-- the same with a control line of the current wave answered
abbrev pub closed : Rule → ℕ → Rule
closed rule line = record rule {
  controls = slice_set rule.controls (rule.wave - 1) (map (answered_if line) (slice_index_or rule.controls (rule.wave - 1) []));
}

-- the lines of an instance's checkpoints
abbrev pub begun_lines : Inst → List ℕ
begun_lines n = map (λ (begun : Begun). begun.line) n.wave.checkpoints

-- An instance lives on, with the same checkpoints.
pub record Keeps (n m : Inst) : Type 0 where
  pub life : m.life ≡ n.life
  pub lines : begun_lines m ≡ begun_lines n
  pub me : m.plan.me ≡ n.plan.me
  pub entered : m.wave.entered ≡ n.wave.entered

pub keeps : (n : Inst) → Keeps n n
keeps n = record { life = refl; lines = refl; me = refl; entered = refl }

pub keeps_then : (a b c : Inst) → Keeps a b → Keeps b c → Keeps a c
keeps_then a b c first later = record { life = later.life ∙ first.life; lines = later.lines ∙ first.lines; me = later.me ∙ first.me; entered = later.entered ∙ first.entered }

-- A control line is among these.
abbrev pub IsIn : Control → List Control → Type 0
IsIn c [] = ⊥
IsIn c (x ∷ xs) = (x ≡ c) ⊎ IsIn c xs

-- a number is among these
abbrev pub IsOf : ℕ → List ℕ → Type 0
IsOf line [] = ⊥
IsOf line (x ∷ xs) = (x ≡ line) ⊎ IsOf line xs

-- A control line of the wave isn't answered.
pub record IsOpen (core : Core) (c : Control) : Type 0 where
  pub here : IsIn c (wave_controls core.waves)
  pub open_ : c.done ≡ false

-- A line of the wave with a number asks that a live instance crash now.
pub record IsDue (core : Core) (me line : ℕ) : Type 0 where
  pub by : Control
  pub is : IsOpen core by
  pub number : by.line ≡ line
  pub wants : (when : When) × (keep : Keep) × (by.wanted ≡ Crash me when keep)
  pub live : is_live core me ≡ true

-- An entry answers a control line that is done or finds nothing to do.
pub data Answers (n : Inst) (core : Core) (c : Control) (e : Entry) : Type 0 where
  skips : maker c.wanted ≡ n.plan.me → finds_nothing n core c.line c.wanted ≡ true → e ≡ NotDone c.line → Answers n core c e
  moves : (bucket to : ℕ) → c.wanted ≡ Move bucket to → e ≡ Moved c.line → Answers n core c e
  checks : IsOf c.line (begun_lines n) → e ≡ Checkpointed c.line → Answers n core c e

-- the same with the start line answered by which an instance is on its way up, if it is
abbrev pub start_closed : Life → Rule → Rule
start_closed (Joining line) rule = closed rule line
start_closed _ rule = rule

-- how an instance ends: as a line asks, by the failure of a step or of such a crash, or on its way up
pub data Loses (n : Inst) (core : Core) (controls : List (List Control)) (e : Entry) : Type 0 where
  crashes : (c : Control) → IsOpen core c → IsDue core n.plan.me c.line → controls ≡ (closed (rule_of core) c.line).controls
      → e ≡ Crashed c.line n.plan.me → Loses n core controls e
  cuts : (c : Control) (bad : Bool) → IsOpen core c → IsDue core n.plan.me c.line
      → controls ≡ (start_closed n.life (closed (rule_of core) c.line)).controls → e ≡ Ended n.plan.me bad → Loses n core controls e
  fails : (bad : Bool) → is_live core n.plan.me ≡ true → controls ≡ (start_closed n.life (rule_of core)).controls → e ≡ Ended n.plan.me bad
      → Loses n core controls e
  stays_out : (c : Control) (bad : Bool) → IsOpen core c → c.wanted ≡ Start n.plan.me → is_live core n.plan.me ≡ false
      → controls ≡ (closed (rule_of core) c.line).controls → e ≡ Ended n.plan.me bad → Loses n core controls e

-- A step of an instance does nothing of this, lets it enter the wave, brings it on its way up or up, answers a control line, ends it, or
-- lets the next wave rise.
pub data Ruled (n : Inst) (core : Core) (m : Inst) (now : Core) (es : List Entry) : Type 0 where
  rests : Keeps n m → rule_of now ≡ rule_of core → Calms es → Ruled n core m now es
  enters : m.wave.entered ≡ core.waves.wave → m.life ≡ n.life → m.wave.checkpoints ≡ begun_in n (wave_controls core.waves) → rule_of now ≡ rule_of core → Calms es
      → Ruled n core m now es
  comes : m.wave.entered ≡ n.wave.entered → (c : Control) → IsOpen core c → c.wanted ≡ Start n.plan.me → is_live core n.plan.me ≡ false → m.life ≡ Joining c.line
      → begun_lines m ≡ begun_lines n → now.waves ≡ core.waves → now.members.live ≡ with_inst core.members.live n.plan.me
      → es ≡ [] → Ruled n core m now es
  rises : m.wave.entered ≡ n.wave.entered → (line : ℕ) → n.life ≡ Joining line → m.life ≡ Up → begun_lines m ≡ begun_lines n
      → rule_of now ≡ closed (rule_of core) line → es ≡ IsUp line n.plan.me ∷ [] → Ruled n core m now es
  answers : m.wave.entered ≡ n.wave.entered → (c : Control) (e : Entry) → IsOpen core c → m.life ≡ n.life → ((line : ℕ) → IsOf line (begun_lines m) → IsOf line (begun_lines n))
      → rule_of now ≡ closed (rule_of core) c.line → Answers n core c e → es ≡ e ∷ [] → Ruled n core m now es
  loses : m.wave.entered ≡ n.wave.entered → (e : Entry) (later first : List Entry) → m.life ≡ Down → begun_lines m ≡ begun_lines n → Loses n core now.waves.controls e
      → now.waves.wave ≡ core.waves.wave → now.members.live ≡ without_inst core.members.live n.plan.me → Calms later → Calms first
      → es ≡ later ++ e ∷ first → Ruled n core m now es
  turns : Keeps n m → are_answered core ≡ true → now.waves ≡ next_wave core.waves → now.members.live ≡ core.members.live → es ≡ [] → Ruled n core m now es
