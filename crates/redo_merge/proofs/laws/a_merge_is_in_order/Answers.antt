use Rattle.redo_merge.proofs.Orders.{in_order}
use Rattle.redo_merge.proofs.laws.a_merge_is_in_order.Goals as goal

pub returns : goal.returns
returns c = in_order
