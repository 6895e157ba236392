use Rattle.std.proofs.Common.{sym, subst}
use Rattle.undo_image.specs.Header.{IsHeader}
use Rattle.txn_engine.specs.End.{may_end}
use Rattle.txn_engine.proofs.EndLemmas.{end_fits}
use Rattle.txn_engine.proofs.end.decide_end.Goals as goal

pub returns-then-may_end-clause-fits : goal.returns-then-may_end-clause-fits
returns-then-may_end-clause-fits c =
    let head : IsHeader c.args.segment.now.head = subst IsHeader c.header-head.ensures c.always_is_header.ensures in
    rw (c.end_record.ensures, c.get.ensures, c.header-head.ensures)
    (end_fits c.args.xid.now c.args.end c.args.segment.now c.args.clock.now c.always_is_segment.ensures head (rw c.header-head.ensures at (sym c.if-may_end.ensures)))
