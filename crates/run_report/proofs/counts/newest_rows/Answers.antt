use Rattle.std.proofs.Common.{reverse, ap, sym, ◌∙◌}
use Rattle.std.proofs.lemmas.List.{reverse-reverse}
use Rattle.run_report.specs.Summaries.{newest_rows}
use Rattle.run_report.proofs.counts.newest_rows.Goals as goal

pub loop-last-init : goal.loop-last-init
loop-last-init c =
    ap newest_rows (sym (reverse-reverse c.args.journal.now)) ∙ ap (λ entries. newest_rows (reverse entries)) (sym c.as_slice-left.ensures)
