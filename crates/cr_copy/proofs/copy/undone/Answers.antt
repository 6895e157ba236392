use Rattle.std.proofs.Common.{◌≡◌, sym, ap, ◌∙◌}
use Rattle.std.specs.Prelude.{None, Ok, Err, Some}
use Rattle.undo_segment.specs.Segment.{fetch, look}
use Rattle.cr_copy.specs.Copy.{falling, round, work_of}
use Rattle.cr_copy.proofs.CopyLemmas.{goes_further, goes_to_end, goes_to_halt}
use Rattle.cr_copy.proofs.copy.undone.Goals as goal

pub loop-pick-preserved : goal.loop-pick-preserved
loop-pick-preserved c =
    let one = round c.args.snapshot c.args.me.now (look c.args.segment.now c.args.handed.now) (fetch c.args.segment.now c.args.handed.now) c.number-number.result in
    let next : falling c.loop-pick.last (one c.loop-pick.work.itl) ≡ Ok (Some c.in-Ok-Some.pick) = cc in
    let back = rw c.in-Ok-Some.field-0-is at c.in-Ok-Some.ensures.back in
    rw c.take_back.ensures
    (goes_further one c.args.image.now.front.version (work_of c.args.image.now) c.loop-pick.last c.loop-pick.work c.in-Ok-Some.pick c.loop-pick.invariant next
    back.0 back.1 back.2)

pub returns-in-Ok-None : goal.returns-in-Ok-None
returns-in-Ok-None c =
    let one = round c.args.snapshot c.args.me.now (look c.args.segment.now c.args.handed.now) (fetch c.args.segment.now c.args.handed.now) c.number-number.result in
    let next : falling c.loop-pick.last (one c.loop-pick.work.itl) ≡ Ok None = cc in
    rw (sym c.number-number.ensures)
    (goes_to_end one c.args.image.now.front.version (work_of c.args.image.now) c.loop-pick.last c.loop-pick.work c.loop-pick.invariant next)

pub returns-in-Err : goal.returns-in-Err
returns-in-Err c =
    let one = round c.args.snapshot c.args.me.now (look c.args.segment.now c.args.handed.now) (fetch c.args.segment.now c.args.handed.now) c.number-number.result in
    let next : falling c.loop-pick.last (one c.loop-pick.work.itl) ≡ Err c.in-Err.halt = cc in
    rw (sym c.number-number.ensures)
    (goes_to_halt one c.args.image.now.front.version (work_of c.args.image.now) c.loop-pick.last c.loop-pick.work c.in-Err.halt c.loop-pick.invariant next)
