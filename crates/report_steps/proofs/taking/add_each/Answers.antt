use Rattle.std.proofs.Common.{◌≡◌, ◌++◌, subst}
use Rattle.std.specs.Option.{option_to_list}
use Rattle.std.specs.Result.{OnOk}
use Rattle.report_steps.specs.TakeOver.{told_by}
use Rattle.report_steps.proofs.Numbers.{told_step}
use Rattle.report_steps.proofs.taking.add_each.Goals as goal

pub loop-inst-preserved : goal.loop-inst-preserved
loop-inst-preserved c =
    let value = told_by c.args.reports.now in
    let told = c.loop-inst.told in
    let inst = c.inst-item.result in
    let adds = subst (λ result. OnOk result (c.add_told.new.told ≡ told ++ option_to_list (value inst))) c.in_ok-add_told.was c.add_told.ensures in
    told_step value c.args.insts.now c.loop-inst.inst-index inst c.args.told.now told _ c.loop-inst-test.true c.inst-item.is c.loop-inst.invariant adds
