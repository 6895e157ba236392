use Rattle.std.proofs.Common.{ℕ, None, Option, ap, map}
use Rattle.wire_net.specs.declared.report.Report.{Report}
use Rattle.recovery.specs.Reports.{past_of}
use Rattle.recovery.proofs.Changes.{eight}
use Rattle.recovery.proofs.reports.Reports.pasts_of.Goals as goal

pub returns : goal.returns
returns c =
    let past : Option Report → Option ℕ = λ report. past_of report c.args.block in
    rw (c.past_at.ensures, c.past_at-2.ensures, c.past_at-3.ensures, c.past_at-4.ensures, c.past_at-5.ensures, c.past_at-6.ensures, c.past_at-7.ensures, c.past_at-8.ensures)
    (ap (map past) (eight c.args.self.now None c.are_of_eight.ensures))
