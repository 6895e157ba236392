use Rattle.std.proofs.Common.{◌∙◌, ap}
use Rattle.inst_state.specs.declared.inst.Inst.{Inst}
use Rattle.report_steps.specs.TakeOver.{taken_over}
use Rattle.rebuild_steps.specs.Thaw.{led}
use Rattle.rebuild_steps.proofs.thaws.lead.Goals as goal

pub returns : goal.returns
unfolding led
returns c = c.in_ok-take_over.ensures ∙ ap (λ (n : Inst). taken_over n c.args.core.now) c.in_ok-adopt_read.ensures
