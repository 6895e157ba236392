use Rattle.std.specs.Prelude.{None}
use Rattle.undo_segment.specs.declared.look.Look.TheVariants.{Active}
use Rattle.board_slots.proofs.Refusing.{held, no-itl, slots-differ}
use Rattle.board_slots.proofs.laws.refusals_name_who_stands.Goals as goal

pub returns-clause-busy : goal.returns-clause-busy
returns-clause-busy c = λ records block seen me look r y sound lt e. held records sound me look block seen r y lt e

pub returns-clause-no_itl : goal.returns-clause-no_itl
returns-clause-no_itl c = λ records block seen me look holders k sound e low high. no-itl records sound me look block seen holders e k low high

pub returns-clause-differ : goal.returns-clause-differ
returns-clause-differ c = λ records j k sound used same. slots-differ records sound None (λ x. Active) j k used same
