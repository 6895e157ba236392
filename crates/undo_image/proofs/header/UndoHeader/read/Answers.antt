use Rattle.std.proofs.Common.{ap, Ok, Result}
use Rattle.std.proofs.lemmas.Result.{err_from_is_err_and}
use Rattle.redo_types.specs.declared.blocks.BadBlock.{BadBlock}
use Rattle.undo_image.specs.Header.{HeaderContent, IsHeader}
use Rattle.part_image.proofs.Numbers.{IsBytes}
use Rattle.undo_image.proofs.Headers.{header_where_parts_stand, no_header, one_header, wrong_end, wrong_header_front, wrong_slots}
use Rattle.undo_image.proofs.header.UndoHeader.read.Goals as goal

pub returns-in_err-front-clause-only : goal.returns-in_err-front-clause-only
returns-in_err-front-clause-only c = λ h is same.
    absurd (no_header c.args.bytes.now c.in_err-front.field-0.0.field h (wrong_header_front c.args.bytes.now c.in_err-front.field-0.0.field c.in_err-front.ensures.err) is same)

pub returns-in_err-front-clause-err : goal.returns-in_err-front-clause-err
returns-in_err-front-clause-err c =
    let p = err_from_is_err_and c.from_residual.result c.from_residual.ensures.1 in
    rw (p.1, p.2) (wrong_header_front c.args.bytes.now c.in_err-front.field-0.0.field c.in_err-front.ensures.err)

pub returns-in_default-clause-only : goal.returns-in_default-clause-only
returns-in_default-clause-only c = λ h is same.
    absurd (no_header c.args.bytes.now 8 h (wrong_slots c.args.bytes.now c.in_ok-front.front c.in_ok-front.ensures.ok.0 c.in_ok-front.ensures.ok.1 c.in_default.ensures) is same)

pub returns-in_default-clause-err : goal.returns-in_default-clause-err
returns-in_default-clause-err c = wrong_slots c.args.bytes.now c.in_ok-front.front c.in_ok-front.ensures.ok.0 c.in_ok-front.ensures.ok.1 c.in_default.ensures

pub returns-then-not-are_zeros-clause-only : goal.returns-then-not-are_zeros-clause-only
returns-then-not-are_zeros-clause-only c = λ h is same.
    absurd (no_header c.args.bytes.now 9 h (wrong_end c.args.bytes.now c.in_ok-front.front c.in-Some.slots c.in_ok-front.ensures.ok.0 c.in-Some.ensures.0 c.in_ok-front.ensures.ok.1 c.in-Some.ensures.1
    (λ clear. let told = c.are_zeros.ensures.1 clear in cc (told, c.if-not-are_zeros.true))) is same)

pub returns-then-not-are_zeros-clause-err : goal.returns-then-not-are_zeros-clause-err
returns-then-not-are_zeros-clause-err c =
    wrong_end c.args.bytes.now c.in_ok-front.front c.in-Some.slots c.in_ok-front.ensures.ok.0 c.in-Some.ensures.0 c.in_ok-front.ensures.ok.1 c.in-Some.ensures.1
    (λ clear. let told = c.are_zeros.ensures.1 clear in cc (told, c.if-not-are_zeros.true))

pub returns-clause-ok : goal.returns-clause-ok
returns-clause-ok c = (
  record { front = c.in_ok-front.ensures.ok.0; slots = c.in-Some.ensures.0 },
  header_where_parts_stand c.args.bytes.now c.in_ok-front.front c.in-Some.slots c.told-bytes c.in-Some.ensures.0 c.in_ok-front.ensures.ok.1 c.in-Some.ensures.1 (c.are_zeros.ensures.0 c.if-not-are_zeros.false),
)

pub returns-clause-only : goal.returns-clause-only
returns-clause-only c = λ h is same.
    let mine : HeaderContent = record { front = c.in_ok-front.front; slots = c.in-Some.slots } in
    let fits : IsBytes c.args.bytes.now = c.fits-bytes in
    let stands = header_where_parts_stand c.args.bytes.now c.in_ok-front.front c.in-Some.slots c.told-bytes c.in-Some.ensures.0 c.in_ok-front.ensures.ok.1 c.in-Some.ensures.1 (c.are_zeros.ensures.0 c.if-not-are_zeros.false) in
    let mine_is : IsHeader mine = record { front = c.in_ok-front.ensures.ok.0; slots = c.in-Some.ensures.0 } in
    ap (λ (x : HeaderContent). let result : Result HeaderContent BadBlock = Ok x in result) (one_header c.args.bytes.now mine h fits c.told-bytes mine_is is stands same)
