use Rattle.std.proofs.Common.{arith, sym, subst, ◌∙◌}
use Rattle.redo_types.specs.declared.redo.RedoKind.{RedoKind}
use Rattle.part_image.proofs.Numbers.{IsBytes}
use Rattle.redo_record.specs.declared.start.Start.{Start}
use Rattle.redo_record.specs.Parts.{HasForm, HasRanges}
use Rattle.redo_record.proofs.StartLemmas.{StartParts, same_kind, start_parts, start_read, start_same}
use Rattle.redo_record.proofs.start.read_start.Goals.{else-has_form-via-then-has_form+else-has_ranges, else-has_form-via-else-has_form}
use Rattle.redo_record.proofs.start.read_start.Goals as goal

pub returns-then-has_ranges : goal.returns-then-has_ranges
returns-then-has_ranges c =
    let bytes = c.args.bytes.now in
    let fits : IsBytes bytes = λ i. omega (arith, c.type_inv.bytes i) in
    let start : Start = record { kind = c.in-Some.kind; xid = c.get_xid.result; scn = c.get_u64.result; seq = c.get_u64-2.result } in
    let parts : StartParts bytes start = record { kind = c.in-Some.ensures; form = c.has_form.ensures.0 c.if-has_form.true; xid = sym c.get_xid.ensures; scn = sym c.get_u64.ensures; seq = sym c.get_u64-2.ensures } in
    start_read bytes start fits c.requires parts (c.has_ranges.ensures.0 c.if-has_ranges.true)

pub returns-else-has_form : goal.returns-else-has_form
returns-else-has_form c = λ v is begins.
    let bytes = c.args.bytes.now in
    let parts = start_parts bytes v is begins in
    let start : Start = record { kind = c.in-Some.kind; xid = c.get_xid.result; scn = c.get_u64.result; seq = c.get_u64-2.result } in
    let kind = same_kind c.in-Some.kind v.kind (sym c.in-Some.ensures ∙ parts.kind) in
    let same = start_same start v kind (c.get_xid.ensures ∙ parts.xid) (c.get_u64.ensures ∙ parts.scn) (c.get_u64-2.ensures ∙ parts.seq) in
    elim c.else-has_form.branch [
      | else-has_form-via-then-has_form+else-has_ranges w ↦ absurd (let told = w.has_ranges.ensures.1 (subst HasRanges (sym same) is.ranges) in cc (told, w.if-has_ranges.false))
      | else-has_form-via-else-has_form w ↦ absurd (let told = c.has_form.ensures.1 (subst (λ (k : RedoKind). HasForm k bytes) (sym kind) parts.form) in cc (told, w.if-has_form.false))
    ]
