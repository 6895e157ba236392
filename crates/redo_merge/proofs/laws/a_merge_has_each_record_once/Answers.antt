use Rattle.redo_merge.proofs.Orders.{each_once}
use Rattle.redo_merge.proofs.laws.a_merge_has_each_record_once.Goals as goal

pub returns : goal.returns
returns c = each_once
