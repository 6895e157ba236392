use Rattle.std.proofs.Common.{◌≡◌, ℕ, ap, subst, ◌∙◌}
use Rattle.undo_image.specs.Header.{HeaderContent, IsHeader}
use Rattle.undo_image.specs.UndoBlock.{IsUndoBlock}
use Rattle.txn_engine.proofs.ChangeLemmas.{change_fits}
use Rattle.txn_engine.specs.Parts.{undo_block_at}
use Rattle.txn_engine.proofs.change.made.Goals as goal

pub returns-clause-fits : goal.returns-clause-fits
returns-clause-fits c =
    let segment = c.args.segment.now in
    let head : IsHeader segment.head = subst IsHeader c.header-head.ensures c.always_is_header.ensures in
    let next : c.next.result ≡ segment.head.front.next = c.next.ensures ∙ ap (λ (h : HeaderContent). h.front.next) c.header-head.ensures in
    let at = c.undo_block_at-undo.ensures in
    let undo : IsUndoBlock (undo_block_at segment segment.head.front.next) =
    subst (λ (n : ℕ). IsUndoBlock (undo_block_at segment n)) next (subst IsUndoBlock at.value at.is) in
    rw (c.change_record.ensures, c.get.ensures)
    (change_fits c.args.ask.now c.args.plan.now c.args.image.now segment c.args.clock.now c.always_is_segment.ensures head c.always_is_block.ensures undo
    (record { limits = c.requires.limits; xid = c.requires.xid; some_itl = c.requires.some_itl; itl = c.requires.itl; value = c.requires.value }))
