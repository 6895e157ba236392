use Rattle.std.proofs.Common.{◌≡◌, arith, refl, sym, ◌∙◌, subst}
use Rattle.redo_types.specs.declared.undo.TxnSlot.{TxnSlot}
use Rattle.part_image.specs.Undo.{HasState, NamesEndBefore, txn_slot_cells}
use Rattle.part_image.proofs.CellLemmas.{AllStand, all_stand_where_spelled, fit_where_all_stand, spelled_where_all_stand}
use Rattle.part_image.proofs.Numbers.{IsBytes}
use Rattle.part_image.proofs.UndoLemmas.{same_state}
use Rattle.part_image.proofs.txn_slot.first_txn_slot.Goals.{else-are_zeros-via-then-are_zeros+then-has_state+else-names_end_before, else-are_zeros-via-then-are_zeros+else-has_state, else-are_zeros-via-else-are_zeros}
use Rattle.part_image.proofs.txn_slot.first_txn_slot.Goals as goal

pub returns-then-names_end_before : goal.returns-then-names_end_before
returns-then-names_end_before c =
    let bytes = c.args.bytes.now in
    let slot : TxnSlot = record { wrap = c.get_u32.result; state = c.in-Some.state; first = c.get_u64.result; last = c.get_u64-2.result; scn = c.get_u64-3.result; prev = c.get_u64-4.result } in
    let all : AllStand bytes 0 (txn_slot_cells slot) =
    (sym c.get_u32.ensures, (c.in-Some.ensures, (c.are_zeros.ensures.0 c.if-are_zeros.true, (sym c.get_u64.ensures, (sym c.get_u64-2.ensures, (sym c.get_u64-3.ensures, (sym c.get_u64-4.ensures, tt))))))) in
    let fits : IsBytes bytes = λ i. omega (arith, c.type_inv.bytes i) in (
      record { fits = fit_where_all_stand bytes 0 (txn_slot_cells slot) fits all; state = c.has_state.ensures.0 c.if-has_state.true; prev = c.names_end_before.ensures.0 c.if-names_end_before.true },
      spelled_where_all_stand bytes 0 (txn_slot_cells slot) fits c.requires all,
    )

pub returns-else-are_zeros : goal.returns-else-are_zeros
returns-else-are_zeros c = λ v is begins.
    let bytes = c.args.bytes.now in
    let all = all_stand_where_spelled bytes 0 (txn_slot_cells v) is.fits begins in
    let slot : TxnSlot = record { wrap = c.get_u32.result; state = c.in-Some.state; first = c.get_u64.result; last = c.get_u64-2.result; scn = c.get_u64-3.result; prev = c.get_u64-4.result } in
    let wrap = c.get_u32.ensures ∙ all.0 in
    let state = same_state c.in-Some.state v.state (sym c.in-Some.ensures ∙ all.1.0) in
    let first = c.get_u64.ensures ∙ all.1.1.1.0 in
    let last = c.get_u64-2.ensures ∙ all.1.1.1.1.0 in
    let scn = c.get_u64-3.ensures ∙ all.1.1.1.1.1.0 in
    let prev = c.get_u64-4.ensures ∙ all.1.1.1.1.1.1.0 in
    let same : slot ≡ v = rw (wrap, state, first, last, scn, prev) refl in
    elim c.else-are_zeros.branch [
      | else-are_zeros-via-then-are_zeros+then-has_state+else-names_end_before w ↦ absurd (let told = w.names_end_before.ensures.1 (subst NamesEndBefore (sym same) is.prev) in cc (told, w.if-names_end_before.false))
      | else-are_zeros-via-then-are_zeros+else-has_state w ↦ absurd (let told = w.has_state.ensures.1 (subst (λ (s : TxnSlot). HasState s.state s) (sym same) is.state) in cc (told, w.if-has_state.false))
      | else-are_zeros-via-else-are_zeros w ↦ absurd (let told = c.are_zeros.ensures.1 all.1.1.0 in cc (told, w.if-are_zeros.false))
    ]
