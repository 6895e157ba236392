use Rattle.std.proofs.Common.{◌≡◌, ◌++◌, take}
use Rattle.std.specs.List.{flat_map}
use Rattle.inst_state.specs.declared.control.Control.{Control}
use Rattle.inst_node.specs.declared.actions.Action.TheVariants.{Line}
use Rattle.inst_node.specs.Choices.{offer}
use Rattle.inst_node.proofs.choosing.offer_lines.Given as goal

abbrev pub invariant-loop-control : goal.invariant-loop-control
invariant-loop-control l = l.out ≡ l.fn.out ++ flat_map (λ (control : Control). offer l.me l.inst l.core (Line l.kind control.line)) (take l.control-index l.controls)
