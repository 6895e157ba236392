use Rattle.std.proofs.Common.{◌≡◌, ◌++◌, take}
use Rattle.std.specs.List.{flat_map}
use Rattle.inst_node.specs.declared.actions.Action.TheVariants.{Session}
use Rattle.inst_node.specs.Choices.{offer}
use Rattle.inst_node.proofs.choosing.offer_sessions.Given as goal

abbrev pub invariant-loop-session : goal.invariant-loop-session
invariant-loop-session l = l.out ≡ l.fn.out ++ flat_map (λ z. offer l.me l.inst l.core (Session l.kind z)) (take l.session-index l.sessions)
