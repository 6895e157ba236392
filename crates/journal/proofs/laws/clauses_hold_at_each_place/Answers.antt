use Rattle.journal.specs.Good.{RowsAreSeen, FoundIsSeen, CommitIsProper, AckIsProper, StartIsProper, RowIsFree}
use Rattle.journal.proofs.EachLemmas.{Each-places}
use Rattle.journal.proofs.laws.clauses_hold_at_each_place.Goals as goal

pub returns-clause-rows : goal.returns-clause-rows
returns-clause-rows c asked commits past = Each-places (RowsAreSeen asked commits) past

pub returns-clause-found : goal.returns-clause-found
returns-clause-found c commits past = Each-places (FoundIsSeen commits) past

pub returns-clause-commits : goal.returns-clause-commits
returns-clause-commits c past = Each-places CommitIsProper past

pub returns-clause-acknowledgements : goal.returns-clause-acknowledgements
returns-clause-acknowledgements c past = Each-places AckIsProper past

pub returns-clause-starts : goal.returns-clause-starts
returns-clause-starts c past = Each-places StartIsProper past

pub returns-clause-row_locks : goal.returns-clause-row_locks
returns-clause-row_locks c past = Each-places RowIsFree past
