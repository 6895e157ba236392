use Rattle.std.proofs.Common.{◌≡◌, take}
use Rattle.wave_steps.specs.Begins.{begun_in}
use Rattle.wave_steps.proofs.begins.begun_in.Given as goal

abbrev pub invariant-loop-control : goal.invariant-loop-control
invariant-loop-control l = l.begun ≡ begun_in l.inst (take l.control-index l.controls)
