use Rattle.std.proofs.Common.{◌∙◌, ap}
use Rattle.thread_steps.specs.Found.{HoldsRecords, RunsAs}
use Rattle.thread_steps.specs.Records.{GivesLog, log_from}
use Rattle.thread_steps.proofs.FoundWhole.{found_more, log_holds}
use Rattle.thread_steps.proofs.finding.find_running.Goals as goal

pub returns-in-Ok : goal.returns-in-Ok
returns-in-Ok g c =
    let layout = c.args.layout.now in
    let entry = c.args.entry.now in
    let bytes = c.as_slice.result.now in
    found_more (GivesLog c.args.thread c.get.result c.in-Ok.bytes) (HoldsRecords layout c.args.thread entry bytes) (RunsAs layout c.args.thread entry) c.find_records.result _ _ _
    (λ it found is holds. log_holds layout c.args.thread entry bytes it (c.as_slice.ensures.value ∙ is ∙ ap (λ n. log_from c.args.thread n it) c.get.ensures) found holds)
    c.in-Ok.ensures c.find_records.ensures
