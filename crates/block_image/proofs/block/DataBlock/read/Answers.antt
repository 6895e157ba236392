use Rattle.std.proofs.Common.{Ok, ap, arith}
use Rattle.std.proofs.lemmas.Result.{err_from_is_err_and}
use Rattle.block_image.specs.Block.{BlockContent}
use Rattle.block_image.proofs.BlockLemmas.{block_of_parts, block_read, no_block, only_block, wrong_front, wrong_rows, wrong_slots, wrong_zeros}
use Rattle.block_image.proofs.block.DataBlock.read.Goals as goal

pub returns-in_err-front-clause-only : goal.returns-in_err-front-clause-only
returns-in_err-front-clause-only c = λ b is same. absurd (no_block c.args.bytes.now _ (wrong_front c.args.bytes.now _ c.in_err-front.ensures.err) b is same)

pub returns-in_err-front-clause-err : goal.returns-in_err-front-clause-err
returns-in_err-front-clause-err c =
    let p = err_from_is_err_and c.from_residual.result c.from_residual.ensures.1 in
    rw (p.1, p.2) (wrong_front c.args.bytes.now _ c.in_err-front.ensures.err)

pub returns-in_default-clause-only : goal.returns-in_default-clause-only
returns-in_default-clause-only c = λ b is same.
    absurd (no_block c.args.bytes.now 8 (wrong_slots c.args.bytes.now c.in_ok-front.front c.in_ok-front.ensures.ok.0 c.in_ok-front.ensures.ok.1 c.in_default.ensures) b is same)

pub returns-in_default-clause-err : goal.returns-in_default-clause-err
returns-in_default-clause-err c = wrong_slots c.args.bytes.now c.in_ok-front.front c.in_ok-front.ensures.ok.0 c.in_ok-front.ensures.ok.1 c.in_default.ensures

pub returns-in_default-read_rows-clause-only : goal.returns-in_default-read_rows-clause-only
returns-in_default-read_rows-clause-only c = λ b is same.
    let front = c.in_ok-front.ensures.ok in
    let slots = c.in-Some.ensures in
    absurd (no_block c.args.bytes.now 9 (wrong_rows c.args.bytes.now c.in_ok-front.front c.in-Some.itl front.0 front.1 slots.0 slots.1 c.in_default-read_rows.ensures) b is same)

pub returns-in_default-read_rows-clause-err : goal.returns-in_default-read_rows-clause-err
returns-in_default-read_rows-clause-err c =
    let front = c.in_ok-front.ensures.ok in
    let slots = c.in-Some.ensures in
    wrong_rows c.args.bytes.now c.in_ok-front.front c.in-Some.itl front.0 front.1 slots.0 slots.1 c.in_default-read_rows.ensures

pub returns-then-not-are_zeros-clause-only : goal.returns-then-not-are_zeros-clause-only
returns-then-not-are_zeros-clause-only c = λ b is same.
    let front = c.in_ok-front.ensures.ok in
    let slots = c.in-Some.ensures in
    let rows = c.in-Some-read_rows.ensures in
    let wrong = wrong_zeros c.args.bytes.now c.in_ok-front.front c.in-Some.itl c.in-Some-read_rows.rows front.0 front.1 slots.0 slots.1 rows.0 rows.1 (λ zeros. let told = c.are_zeros.ensures.1 zeros in cc (told, c.if-not-are_zeros.true)) in
    absurd (no_block c.args.bytes.now 10 wrong b is same)

pub returns-then-not-are_zeros-clause-err : goal.returns-then-not-are_zeros-clause-err
returns-then-not-are_zeros-clause-err c =
    let front = c.in_ok-front.ensures.ok in
    let slots = c.in-Some.ensures in
    let rows = c.in-Some-read_rows.ensures in
    wrong_zeros c.args.bytes.now c.in_ok-front.front c.in-Some.itl c.in-Some-read_rows.rows front.0 front.1 slots.0 slots.1 rows.0 rows.1 (λ zeros. let told = c.are_zeros.ensures.1 zeros in cc (told, c.if-not-are_zeros.true))

pub invariant_of-result : goal.invariant_of-result
invariant_of-result c = block_of_parts c.in_ok-front.front c.in-Some.itl c.in-Some-read_rows.rows c.in_ok-front.ensures.ok.0 c.in-Some.ensures.0 c.in-Some-read_rows.ensures.0

pub returns-clause-ok : goal.returns-clause-ok
returns-clause-ok c =
    let front = c.in_ok-front.ensures.ok in
    let slots = c.in-Some.ensures in
    let rows = c.in-Some-read_rows.ensures in
    block_read c.args.bytes.now c.in_ok-front.front c.in-Some.itl c.in-Some-read_rows.rows (omega arith) front.0 front.1 slots.0 slots.1 rows.0 rows.1 (c.are_zeros.ensures.0 c.if-not-are_zeros.false)

pub returns-clause-only : goal.returns-clause-only
returns-clause-only c = λ b is same.
    let front = c.in_ok-front.ensures.ok in
    let slots = c.in-Some.ensures in
    let rows = c.in-Some-read_rows.ensures in
    let read = block_read c.args.bytes.now c.in_ok-front.front c.in-Some.itl c.in-Some-read_rows.rows (omega arith) front.0 front.1 slots.0 slots.1 rows.0 rows.1 (c.are_zeros.ensures.0 c.if-not-are_zeros.false) in
    ap (λ (block : BlockContent). Ok block) (only_block c.args.bytes.now _ b read.0 read.1 is same)
