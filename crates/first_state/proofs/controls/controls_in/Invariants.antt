use Rattle.std.proofs.Common.{◌≡◌, take}
use Rattle.std.specs.List.{flat_map}
use Rattle.first_state.specs.Controls.{controls_at}
use Rattle.first_state.proofs.controls.controls_in.Given as goal

abbrev pub invariant-loop-line : goal.invariant-loop-line
invariant-loop-line l = l.controls ≡ flat_map controls_at (take l.line-index l.wave)
