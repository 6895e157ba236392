-- A sound board's journal is good, and every run leaves a sound board.
use Rattle.board_rows.proofs.Runs.{good-rows, good-journal, good-history, run-sound}
use Rattle.board_rows.proofs.laws.journals_of_runs_are_good.Goals as goal

pub returns-clause-runs : goal.returns-clause-runs
returns-clause-runs c = run-sound

pub returns-clause-rows : goal.returns-clause-rows
returns-clause-rows c = good-rows

pub returns-clause-journal : goal.returns-clause-journal
returns-clause-journal c = good-journal

pub returns-clause-history : goal.returns-clause-history
returns-clause-history c = good-history
