use Rattle.std.proofs.Common.{◌≡◌, ◌++◌, take}
use Rattle.std.specs.List.{flat_map}
use Rattle.first_state.specs.Lines.{lines_at}
use Rattle.first_state.proofs.turns.add_each.Given as goal

abbrev pub invariant-loop-line : goal.invariant-loop-line
invariant-loop-line l = l.lines ≡ l.initial.lines ++ flat_map (lines_at l.turn) (take l.line-index l.wave)
