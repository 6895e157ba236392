-- Each phase has its part of the invariant.
use Rattle.block_protocol.proofs.ClusterClaims.{Holds-first, Located-first}
use Rattle.block_protocol.proofs.TurnSteps.{Holds-turn}
use Rattle.block_protocol.proofs.PositionTurns.{Located-turn}
use Rattle.block_protocol.proofs.laws.a_turn_keeps_the_invariant.Goals as goal

pub returns-clause-first : goal.returns-clause-first
returns-clause-first c n master = record { holds = Holds-first n master; located = Located-first n master }

pub returns-clause-turn : goal.returns-clause-turn
returns-clause-turn c before after turn m = record { holds = Holds-turn turn m.holds m.located; located = Located-turn turn m.holds m.located }
