-- The control lines of the waves.
use Rattle.std.specs.Prelude.{ℕ, false, List, [], ◌∷◌, map}
use Rattle.std.specs.List.{flat_map}
use Rattle.script_text.specs.declared.item.Item.{Item}
use Rattle.script_text.specs.declared.item.Item.TheVariants as item
use Rattle.inst_state.specs.declared.control.Control.{Control}
use Rattle.inst_state.specs.declared.control.Wanted.{Wanted}
use Rattle.inst_state.specs.declared.control.Wanted.TheVariants.{Checkpoint, Crash, Move, Start}
use Rattle.inst_state.specs.declared.control.When.TheVariants.{After, AtMark}

-- a control line that isn't answered yet
abbrev pub open_line : ℕ → Wanted → Control
open_line line wanted = record { line = line; wanted = wanted; done = false }

-- the control line that an item is, if it is one
abbrev pub controls_at : ℕ × Item → List Control
controls_at (line, item.CrashAfter inst steps keep) = open_line line (Crash inst (After steps) keep) ∷ []
controls_at (line, item.CrashMark inst keep) = open_line line (Crash inst AtMark keep) ∷ []
controls_at (line, item.Start inst) = open_line line (Start inst) ∷ []
controls_at (line, item.Remaster bucket to) = open_line line (Move bucket to) ∷ []
controls_at (line, item.Checkpoint inst) = open_line line (Checkpoint inst) ∷ []
controls_at _ = []

-- the control lines of a wave
abbrev pub controls_in : List (ℕ × Item) → List Control
controls_in wave = flat_map controls_at wave

-- the control lines of each wave
abbrev pub controls_of : List (List (ℕ × Item)) → List (List Control)
controls_of waves = map controls_in waves
