use Rattle.std.proofs.Common.{◌≡◌, subst}
use Rattle.rac_disk.specs.Content.{control_at}
use Rattle.thread_steps.specs.Entries.{HasBadEntry, IsBadEntry}
use Rattle.thread_steps.proofs.Observing.{observed, observes_weaker}
use Rattle.thread_steps.proofs.entries.read_entry.Goals as goal

pub returns-in-None-clause-disk : goal.returns-in-None-clause-disk
returns-in-None-clause-disk g c =
    let bytes = c.read_control.new.out in
    observes_weaker _ (λ it. bytes ≡ control_at it c.args.thread) (HasBadEntry c.args.thread) _ _
    (λ it same. subst IsBadEntry same c.in-None.ensures.entry)
    (observed (λ _ it. bytes ≡ control_at it c.args.thread) _ _ _ c.in_ok-read_control.ensures)
