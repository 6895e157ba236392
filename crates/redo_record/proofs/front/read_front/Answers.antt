use Rattle.std.proofs.Common.{arith}
use Rattle.redo_record.proofs.FrontLemmas.{same_whole, whole_at_front}
use Rattle.redo_record.proofs.front.read_front.Goals as goal

pub returns-then-bytes-from-clause-whole : goal.returns-then-bytes-from-clause-whole
returns-then-bytes-from-clause-whole c = λ r begins.
    let long = whole_at_front c.args.bytes.now r begins in
    absurd (omega arith)

pub returns-in-Some-clause-whole : goal.returns-in-Some-clause-whole
returns-in-Some-clause-whole c = λ r begins.
    same_whole c.args.bytes.now c.in-Some.redo r c.get_u16-length.result (λ i. omega (arith, c.type_inv.bytes i)) c.in-Some.ensures c.get_u16-length.ensures begins
