-- By induction on the instances.
use Rattle.block_protocol.proofs.Made.{are-grants, made-shared, made-alone}
use Rattle.block_protocol.proofs.laws.a_thaw_lists_the_images.Goals as goal

pub returns-clause-grants : goal.returns-clause-grants
returns-clause-grants c frame n all = are-grants frame n all

pub returns-clause-shared : goal.returns-clause-shared
returns-clause-shared c frame n low all i = made-shared frame n low all i

pub returns-clause-alone : goal.returns-clause-alone
returns-clause-alone c frame n a f e m only lt i = made-alone frame n a f e m only lt i
