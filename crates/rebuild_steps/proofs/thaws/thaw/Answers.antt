use Rattle.std.proofs.Common.{◌∙◌, ap, sym, Vec}
use Rattle.std.specs.Global.{Global}
use Rattle.scn_clock.specs.declared.clock.Clock.{Clock}
use Rattle.undo_segment.specs.Segment.{SegmentState}
use Rattle.rebuild_steps.specs.Open.{scns_of}
use Rattle.rebuild_steps.specs.Thaw.{opened_core_if, opened_if, thaw_core, thaw_part}
use Rattle.rebuild_steps.proofs.thaws.thaw.Goals as goal

pub returns-in-Ok-clause-part : goal.returns-in-Ok-clause-part
returns-in-Ok-clause-part g c =
    let n = c.args.inst.now in
    let core = opened_core_if c.args.core.now n.plan.me c.open_own-opening.result in
    c.in_ok-settle-in-Ok.ensures.part
    ∙ ap (λ (scns : Clock). thaw_part (opened_if n scns c.open_own-opening.result) core c.in-Ok.read.items) c.scns_of-scns.ensures
    ∙ ap (λ (owns : Vec SegmentState Global). thaw_part (opened_if n (scns_of n c.args.core.now) c.open_own-opening.result) core owns.items) (sym c.of-owns.ensures)

pub returns-in-Ok-clause-core : goal.returns-in-Ok-clause-core
returns-in-Ok-clause-core g c =
    let n = c.args.inst.now in
    let core = opened_core_if c.args.core.now n.plan.me c.open_own-opening.result in
    c.in_ok-settle-in-Ok.ensures.core
    ∙ ap (λ (scns : Clock). thaw_core (opened_if n scns c.open_own-opening.result) core) c.scns_of-scns.ensures
