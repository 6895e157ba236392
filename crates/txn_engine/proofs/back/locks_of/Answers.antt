use Rattle.txn_engine.proofs.BackLemmas.{eight_locks}
use Rattle.txn_engine.proofs.back.locks_of.Goals as goal

pub returns : goal.returns
returns c =
    rw (c.lock.ensures, c.lock-2.ensures, c.lock-3.ensures, c.lock-4.ensures, c.lock-5.ensures, c.lock-6.ensures, c.lock-7.ensures, c.lock-8.ensures)
    (eight_locks c.args.image.now.rows c.always_is_block.ensures.eight_rows)
