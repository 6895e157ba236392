use Rattle.thread_steps.specs.Entries.{HasEntry}
use Rattle.thread_steps.specs.Found.{HoldsThread, RunsAs}
use Rattle.thread_steps.proofs.FoundWhole.{entry_holds, found_more}
use Rattle.thread_steps.proofs.finding.find_thread.Goals as goal

pub returns-in-Running : goal.returns-in-Running
returns-in-Running g c =
    let layout = c.args.layout.now in
    let thread = c.args.thread in
    let entry = c.in-Ok.entry in
    found_more (HasEntry thread entry) (RunsAs layout thread entry) (HoldsThread layout thread) c.find_running.result _ _ _
    (λ it found has runs. entry_holds layout thread entry it has c.in-Running.is found runs)
    c.in-Ok.ensures.disk c.find_running.ensures
