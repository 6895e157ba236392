use Rattle.std.proofs.Common.{ap, Ok, Result}
use Rattle.std.proofs.lemmas.Result.{err_from_is_err_and}
use Rattle.redo_types.specs.declared.blocks.BadBlock.{BadBlock}
use Rattle.undo_image.specs.UndoBlock.{UndoContent, IsUndoBlock}
use Rattle.part_image.proofs.Numbers.{IsBytes}
use Rattle.undo_image.proofs.UndoBlocks.{undo_where_parts_stand, no_undo_block, one_undo_block, wrong_end, wrong_undo_front, wrong_places}
use Rattle.undo_image.proofs.undo_block.UndoBlock.read.Goals as goal

pub returns-in_err-front-clause-only : goal.returns-in_err-front-clause-only
returns-in_err-front-clause-only c = λ h is same.
    absurd (no_undo_block c.args.bytes.now c.in_err-front.field-0.0.field h (wrong_undo_front c.args.bytes.now c.in_err-front.field-0.0.field c.in_err-front.ensures.err) is same)

pub returns-in_err-front-clause-err : goal.returns-in_err-front-clause-err
returns-in_err-front-clause-err c =
    let p = err_from_is_err_and c.from_residual.result c.from_residual.ensures.1 in
    rw (p.1, p.2) (wrong_undo_front c.args.bytes.now c.in_err-front.field-0.0.field c.in_err-front.ensures.err)

pub returns-in_default-clause-only : goal.returns-in_default-clause-only
returns-in_default-clause-only c = λ h is same.
    absurd (no_undo_block c.args.bytes.now 8 h (wrong_places c.args.bytes.now c.in_ok-front.front c.in_ok-front.ensures.ok.0 c.in_ok-front.ensures.ok.1 c.in_default.ensures) is same)

pub returns-in_default-clause-err : goal.returns-in_default-clause-err
returns-in_default-clause-err c = wrong_places c.args.bytes.now c.in_ok-front.front c.in_ok-front.ensures.ok.0 c.in_ok-front.ensures.ok.1 c.in_default.ensures

pub returns-then-not-are_zeros-clause-only : goal.returns-then-not-are_zeros-clause-only
returns-then-not-are_zeros-clause-only c = λ h is same.
    absurd (no_undo_block c.args.bytes.now 9 h (wrong_end c.args.bytes.now c.in_ok-front.front c.in-Some.places c.in_ok-front.ensures.ok.0 c.in-Some.ensures.0 c.in_ok-front.ensures.ok.1 c.in-Some.ensures.1
    (λ clear. let told = c.are_zeros.ensures.1 clear in cc (told, c.if-not-are_zeros.true))) is same)

pub returns-then-not-are_zeros-clause-err : goal.returns-then-not-are_zeros-clause-err
returns-then-not-are_zeros-clause-err c =
    wrong_end c.args.bytes.now c.in_ok-front.front c.in-Some.places c.in_ok-front.ensures.ok.0 c.in-Some.ensures.0 c.in_ok-front.ensures.ok.1 c.in-Some.ensures.1
    (λ clear. let told = c.are_zeros.ensures.1 clear in cc (told, c.if-not-are_zeros.true))

pub returns-clause-ok : goal.returns-clause-ok
returns-clause-ok c = (
  record { front = c.in_ok-front.ensures.ok.0; places = c.in-Some.ensures.0 },
  undo_where_parts_stand c.args.bytes.now c.in_ok-front.front c.in-Some.places c.told-bytes c.in-Some.ensures.0 c.in_ok-front.ensures.ok.1 c.in-Some.ensures.1 (c.are_zeros.ensures.0 c.if-not-are_zeros.false),
)

pub returns-clause-only : goal.returns-clause-only
returns-clause-only c = λ h is same.
    let mine : UndoContent = record { front = c.in_ok-front.front; places = c.in-Some.places } in
    let fits : IsBytes c.args.bytes.now = c.fits-bytes in
    let stands = undo_where_parts_stand c.args.bytes.now c.in_ok-front.front c.in-Some.places c.told-bytes c.in-Some.ensures.0 c.in_ok-front.ensures.ok.1 c.in-Some.ensures.1 (c.are_zeros.ensures.0 c.if-not-are_zeros.false) in
    let mine_is : IsUndoBlock mine = record { front = c.in_ok-front.ensures.ok.0; places = c.in-Some.ensures.0 } in
    ap (λ (x : UndoContent). let result : Result UndoContent BadBlock = Ok x in result) (one_undo_block c.args.bytes.now mine h fits c.told-bytes mine_is is stands same)
