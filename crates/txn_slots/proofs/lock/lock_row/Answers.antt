use Rattle.std.proofs.Common.{sym}
use Rattle.std.specs.Prelude.{Some}
use Rattle.undo_segment.specs.Segment.{look}
use Rattle.txn_slots.proofs.LockLemmas.{lock_tells}
use Rattle.txn_slots.proofs.lock.lock_row.Goals as goal

pub returns-in-Some-clause-tells : goal.returns-in-Some-clause-tells
returns-in-Some-clause-tells c =
    rw (c.lock_of.ensures, sym c.locker.ensures.value, c.in-Some.is)
    (lock_tells c.args.me.now (look c.args.segment.now c.args.handed.now) 0 (Some c.in-Some.xid))
