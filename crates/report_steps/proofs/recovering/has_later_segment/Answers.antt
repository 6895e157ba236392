use Rattle.std.proofs.Common.{◌∙◌, ap, sym}
use Rattle.recovery.specs.RecoverySet.{changes_segment, is_segment_to_recover}
use Rattle.report_steps.specs.Recovering.{is_of_epoch, lost_records}
use Rattle.report_steps.proofs.Records.{any_lost}
use Rattle.report_steps.proofs.recovering.has_later_segment.Goals as goal

pub returns-then-is_of_epoch : goal.returns-then-is_of_epoch
returns-then-is_of_epoch c =
    let n = c.args.inst.now in
    let core = c.args.core.now in
    c.some_changes_segment.ensures
    ∙ any_lost (is_of_epoch n core) (λ redo. changes_segment redo c.args.block c.version_read.result) n.leading.recovering.threads (sym c.is_of_epoch.ensures ∙ c.if-is_of_epoch.true)
    ∙ ap (λ disk. is_segment_to_recover (lost_records n core) c.args.block disk) c.version_read.ensures
