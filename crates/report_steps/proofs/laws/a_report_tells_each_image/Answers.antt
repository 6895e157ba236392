use Rattle.report_steps.proofs.Told.{told}
use Rattle.report_steps.proofs.laws.a_report_tells_each_image.Goals as goal

pub returns : goal.returns
returns c = told
