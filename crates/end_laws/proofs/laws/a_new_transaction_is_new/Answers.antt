use Rattle.end_laws.proofs.CalmWorlds.{next_unnamed, run_known}
use Rattle.end_laws.proofs.laws.a_new_transaction_is_new.Goals as goal

pub returns : goal.returns
returns c script g first disk book h w disk_now fit starts run =
    next_unnamed script w fit (run_known script g first disk book h w disk_now fit starts run)
