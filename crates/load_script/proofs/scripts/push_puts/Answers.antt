use Rattle.load_script.proofs.Steps.{moved_on, range_first}
use Rattle.load_script.specs.Scripts.{put_text}
use Rattle.load_script.proofs.scripts.push_puts.Goals as goal

pub loop-place-preserved : goal.loop-place-preserved
loop-place-preserved c =
    moved_on _ _ _ _ _ _ (range_first (put_text c.args.session) c.loop-place.place c.args.count c.loop-place-test.true) c.in_ok-push_put.ensures c.loop-place.invariant
