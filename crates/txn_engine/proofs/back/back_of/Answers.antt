use Rattle.std.proofs.Common.{sym, subst}
use Rattle.undo_image.specs.Header.{IsHeader}
use Rattle.txn_engine.proofs.BackLemmas.{back_fits}
use Rattle.txn_engine.proofs.back.back_of.Goals as goal

pub returns-then-may_step_back-clause-fits : goal.returns-then-may_step_back-clause-fits
returns-then-may_step_back-clause-fits c =
    let head : IsHeader c.args.segment.now.head = subst IsHeader c.header-head.ensures c.always_is_header.ensures in
    rw (c.back_record.ensures, c.get.ensures, c.header-head.ensures)
    (back_fits c.args.xid.now c.args.undo.now c.args.segment.now c.args.image.now c.args.clock.now c.always_is_segment.ensures head c.requires.under_way c.requires.undo c.always_is_block.ensures
    (rw c.header-head.ensures at (sym c.if-may_step_back.ensures)))
