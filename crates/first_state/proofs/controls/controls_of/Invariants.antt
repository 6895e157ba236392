use Rattle.std.proofs.Common.{◌≡◌, map, take}
use Rattle.first_state.specs.Controls.{controls_in}
use Rattle.first_state.proofs.controls.controls_of.Given as goal

abbrev pub invariant-loop-wave : goal.invariant-loop-wave
invariant-loop-wave l = l.controls ≡ map controls_in (take l.wave-index l.waves)
