use Rattle.std.proofs.Common.{◌≡◌, ◌<◌, ◌∙◌, ◌++◌, ◌-◌, suc, List, ap, arith, drop, false, length, subst, sym, take}
use Rattle.log_history.specs.LogHistory.{entered, is_after}
use Rattle.log_history.specs.declared.line.HistoryLine.{HistoryLine}
use Rattle.log_history.proofs.OrderLemmas.{entered-behind}
use Rattle.log_history.proofs.history.place_among.Goals as goal

pub returns-else-is_after-clause-entered : goal.returns-else-is_after-clause-entered
returns-else-is_after-clause-entered c =
    let line = c.args.line.now in
    let lines = c.args.lines.now in
    let at = c.loop-at.at in
    let other = c.index-lines-at.result in
    let last : suc (at - 1) ≡ at = omega arith in
    let within : at - 1 < length lines = omega arith in
    let before : is_after other line ≡ false = sym c.if-is_after.ensures in
    let behind : entered line lines ≡ take at lines ++ entered line (drop at lines) =
    subst (λ n. entered line lines ≡ take n lines ++ entered line (drop n lines)) last
    (entered-behind line lines (at - 1) other within c.index-lines-at.is c.requires before) in
    behind ∙ ap (λ (more : List HistoryLine). take at lines ++ more) c.loop-at.invariant.before
