use Rattle.run_report.proofs.texts.CauseTextDisplay.fmt.Goals as goal

pub returns-in-NoUndo-clause-writes : goal.returns-in-NoUndo-clause-writes
returns-in-NoUndo-clause-writes g c =
    λ plain is_ok. let wrote = c.write-in-NoUndo.ensures.writes plain is_ok in
    rw c.in-NoUndo.is wrote
