use Rattle.std.proofs.Common.{arith}
use Rattle.block_image.proofs.ChangeLemmas.{slots_taken_back, values_taken_back}
use Rattle.block_image.proofs.block.a_change_is_taken_back.Goals as goal

pub returns-clause-itl : goal.returns-clause-itl
returns-clause-itl c = λ b four eight. slots_taken_back b c.args.change.now c.args.scn

pub returns-clause-values : goal.returns-clause-values
returns-clause-values c = λ b four eight. values_taken_back b c.args.change.now c.args.scn (omega (arith, c.requires.row))
