use Rattle.std.proofs.Common.{rules, ◌≡◌, subst, sym}
use Rattle.log_history.specs.LogHistory.{IsInOrder, entered}
use Rattle.log_history.proofs.OrderLemmas.{entered-in_order}
use Rattle.log_history.proofs.history.enter.Goals as goal

pub returns-clause-ordered : goal.returns-clause-ordered
returns-clause-ordered c =
    let is : c.insert.new.self.items ≡ entered c.args.line c.args.lines.now.items = search rules in
    subst IsInOrder (sym is) (entered-in_order c.args.line c.args.lines.now.items c.requires)
