use Rattle.load_script.proofs.Steps.{moved_on, range_first}
use Rattle.load_script.specs.Scripts.{filling_text}
use Rattle.load_script.proofs.scripts.push_fillings.Goals as goal

pub loop-session-preserved : goal.loop-session-preserved
loop-session-preserved c =
    moved_on _ _ _ _ _ _ (range_first filling_text c.loop-session.session c.args.count c.loop-session-test.true) c.in_ok-push_filling.ensures c.loop-session.invariant
