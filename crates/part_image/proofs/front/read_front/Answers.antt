use Rattle.std.proofs.Common.{◌∙◌, arith, refl, sym, subst}
use Rattle.part_image.specs.Front.{HasNext}
use Rattle.part_image.proofs.Numbers.{IsBytes}
use Rattle.part_image.proofs.FrontLemmas.{front_read, wrong_format, wrong_kind, wrong_next, wrong_scn, wrong_segment}
use Rattle.part_image.proofs.front.read_front.Goals as goal

pub returns-then-bytes-number_of-clause-err : goal.returns-then-bytes-number_of-clause-err
returns-then-bytes-number_of-clause-err c = wrong_kind c.args.kind c.args.bytes.now (λ is. c.if-bytes-number_of.true (is ∙ sym c.number_of.ensures))

pub returns-then-bytes-ne1-clause-err : goal.returns-then-bytes-ne1-clause-err
returns-then-bytes-ne1-clause-err c =
    let fits : IsBytes c.args.bytes.now = λ i. omega (arith, c.type_inv.bytes i) in
    wrong_format c.args.kind c.args.bytes.now fits c.requires (c.if-bytes-number_of.false ∙ c.number_of.ensures) c.if-bytes-ne1.true

pub returns-then-not-has_segment-clause-err : goal.returns-then-not-has_segment-clause-err
returns-then-not-has_segment-clause-err c =
    let fits : IsBytes c.args.bytes.now = λ i. omega (arith, c.type_inv.bytes i) in
    wrong_segment c.args.kind c.args.bytes.now fits c.requires (c.if-bytes-number_of.false ∙ c.number_of.ensures) c.if-bytes-ne1.false
    (λ has. let told = c.has_segment.ensures.1 has in cc (told, c.if-not-has_segment.true))

pub returns-then-not-has_scn-clause-err : goal.returns-then-not-has_scn-clause-err
returns-then-not-has_scn-clause-err c =
    let fits : IsBytes c.args.bytes.now = λ i. omega (arith, c.type_inv.bytes i) in
    wrong_scn c.args.kind c.args.bytes.now fits c.requires (c.if-bytes-number_of.false ∙ c.number_of.ensures) c.if-bytes-ne1.false
    (c.has_segment.ensures.0 c.if-not-has_segment.false)
    (λ has. let told = c.has_scn.ensures.1 (rw (c.get_u64.ensures, c.get_u64-2.ensures) has) in cc (told, c.if-not-has_scn.true))

pub returns-then-not-has_next-clause-err : goal.returns-then-not-has_next-clause-err
returns-then-not-has_next-clause-err c =
    let fits : IsBytes c.args.bytes.now = λ i. omega (arith, c.type_inv.bytes i) in
    wrong_next c.args.kind c.args.bytes.now fits c.requires (c.if-bytes-number_of.false ∙ c.number_of.ensures) c.if-bytes-ne1.false
    (c.has_segment.ensures.0 c.if-not-has_segment.false)
    (rw (← c.get_u64.ensures, ← c.get_u64-2.ensures) (c.has_scn.ensures.0 c.if-not-has_scn.false))
    (λ has. let told = c.has_next.ensures.1 (subst (HasNext c.args.kind) (sym c.get_u64-3.ensures) has) in cc (told, c.if-not-has_next.true))

pub returns-clause-ok : goal.returns-clause-ok
returns-clause-ok c =
    let fits : IsBytes c.args.bytes.now = λ i. omega (arith, c.type_inv.bytes i) in
    front_read c.args.kind c.args.bytes.now _ (rw (c.get_u16.ensures, c.get_u64.ensures, c.get_u64-2.ensures, c.get_u64-3.ensures) refl) fits c.requires
    (c.if-bytes-number_of.false ∙ c.number_of.ensures) c.if-bytes-ne1.false (c.has_segment.ensures.0 c.if-not-has_segment.false)
    (c.has_scn.ensures.0 c.if-not-has_scn.false) (c.has_next.ensures.0 c.if-not-has_next.false)
