use Rattle.redo_merge.proofs.Orders.{order_kept}
use Rattle.redo_merge.proofs.laws.a_merge_keeps_the_order_of_a_thread.Goals as goal

pub returns : goal.returns
returns c = order_kept
