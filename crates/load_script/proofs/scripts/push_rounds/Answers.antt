use Rattle.load_script.proofs.Steps.{moved_on, rounds_text_first}
use Rattle.load_script.proofs.scripts.push_rounds.Goals as goal

pub loop-round-preserved : goal.loop-round-preserved
loop-round-preserved c =
    rw c.in_ok-push_round.ensures.words (moved_on _ _ _ _ _ _ (rounds_text_first c.loop-round.round c.args.rounds c.loop-round.words c.loop-round-test.true) c.in_ok-push_round.ensures.text c.loop-round.invariant)
