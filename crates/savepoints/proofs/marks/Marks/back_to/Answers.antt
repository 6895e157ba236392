use Rattle.std.proofs.Common.{sym, ◌∙◌, arith}
use Rattle.savepoints.proofs.Lists.{all_up_to, mark_found, no_mark, taken_up_to}
use Rattle.savepoints.proofs.marks.Marks.back_to.Goals as goal

pub returns-in_err-place-clause-count : goal.returns-in_err-place-clause-count
returns-in_err-place-clause-count c = c.from_residual.ensures ∙ sym (no_mark c.args.name.now c.args.self.now c.in_err-place.ensures)

pub returns-in_err-place-clause-marks : goal.returns-in_err-place-clause-marks
returns-in_err-place-clause-marks c = all_up_to c.args.name.now c.args.self.now c.in_err-place.ensures

pub returns-clause-count : goal.returns-clause-count
returns-clause-count c =
    let mark = c.index.result.now in
    let is = c.index.ensures ∙ c.truncate.ensures.by_index c.in_ok-place.place mark (omega arith) in
    sym (mark_found c.args.name.now c.args.self.now c.in_ok-place.place mark c.in_ok-place.ensures (rw (← c.self.view_is) is))

pub returns-clause-marks : goal.returns-clause-marks
returns-clause-marks c =
    rw (← c.self.view_is)
    (c.truncate.ensures.items ∙ taken_up_to c.args.name.now c.self.inside.items.items c.in_ok-place.place (rw c.self.view_is c.in_ok-place.ensures))
