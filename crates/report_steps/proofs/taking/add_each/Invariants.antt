use Rattle.std.proofs.Common.{◌≡◌, ◌++◌, filter_map, take}
use Rattle.report_steps.specs.TakeOver.{told_by}
use Rattle.report_steps.proofs.taking.add_each.Given as goal

abbrev pub invariant-loop-inst : goal.invariant-loop-inst
invariant-loop-inst l = l.told ≡ l.initial.told ++ filter_map (told_by l.reports) (take l.inst-index l.insts)
