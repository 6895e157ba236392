use Rattle.std.proofs.Common.{◌≡◌, nat_eq, false, arith}
use Rattle.std.specs.HashMap.{get}
use Rattle.std.proofs.lemmas.Grind.{common_steps}
use Rattle.std.proofs.lemmas.List.Folds.{list_all_at}
use Rattle.run_report.specs.Found.{is_settled, kept}
use Rattle.run_report.proofs.waves.first_open.Goals as goal

pub returns-then-not-is_settled-clause-unsettled : goal.returns-then-not-is_settled-clause-unsettled
returns-then-not-is_settled-clause-unsettled c = λ within.
    let settled = is_settled (get nat_eq c.args.known.now.places.now) c.args.known.now.at (kept c.args.known.now.ends.now) c.args.wave in
    let fails : settled c.index-lines-at.result ≡ false = grind (arith, common_steps, c.is_settled.ensures) in
    list_all_at settled c.args.lines.now c.loop-at.at c.index-lines-at.result within (rw (← c.index-lines-at.is) fails)
