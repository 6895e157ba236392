use Rattle.std.proofs.Common.{arith}
use Rattle.std.proofs.lemmas.Grind.{common_steps}
use Rattle.run_report.specs.Answers.{answers}
use Rattle.run_report.proofs.Finds.{place-more}
use Rattle.run_report.proofs.places.first_answers.Goals as goal

pub loop-at-preserved : goal.loop-at-preserved
loop-at-preserved c = λ line.
    let more = place-more (answers line) c.args.journal.now c.loop-at.at c.index-journal-at.result (omega arith) c.index-journal-at.is in
    grind (arith, common_steps, more, c.loop-at.invariant line)
