use Rattle.report_steps.proofs.TakenOver.{keeps-images}
use Rattle.report_steps.proofs.laws.a_take_over_keeps_images.Goals as goal

pub returns : goal.returns
returns c = keeps-images
