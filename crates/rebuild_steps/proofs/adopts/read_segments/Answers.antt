use Rattle.std.proofs.lemmas.Result.{err_from_is_err_and}
use Rattle.rebuild_steps.proofs.ReadSegments.{fails, one_more_taken}
use Rattle.rebuild_steps.proofs.adopts.read_segments.Goals as goal

pub returns-in_err-segment-clause-err : goal.returns-in_err-segment-clause-err
returns-in_err-segment-clause-err g c =
    let p = err_from_is_err_and c.from_residual.result c.from_residual.ensures.1 in
    rw (p.1, p.2)
    (fails c.args.layout.now c.args.segs.now _ c.loop-seg.seg-index c.seg-item.result c.loop-seg.read.items c.in_err-segment.field-0.0
    (g.D.SharedDisk.state c.args.disk.now) (g.D.SharedDisk.state c.loop-seg.disk) (g.D.SharedDisk.state c.load.new.disk)
    c.seg-item.is c.loop-seg-test.true c.loop-seg.invariant c.in_err-segment.ensures.disk)

pub loop-seg-preserved : goal.loop-seg-preserved
loop-seg-preserved g c =
    one_more_taken c.args.layout.now c.args.segs.now c.loop-seg.seg-index c.seg-item.result c.loop-seg.read.items c.push.new.self.items c.in_ok-segment.segment
    (g.D.SharedDisk.state c.args.disk.now) (g.D.SharedDisk.state c.loop-seg.disk) (g.D.SharedDisk.state c.load.new.disk)
    c.seg-item.is c.loop-seg-test.true c.loop-seg.invariant c.in_ok-push.ensures.items
    (record { clean = c.in_ok-segment.ensures.clean; seg = c.in_ok-segment.ensures.seg; tame = c.in_ok-segment.ensures.tame })
    c.in_ok-segment.ensures.disk
