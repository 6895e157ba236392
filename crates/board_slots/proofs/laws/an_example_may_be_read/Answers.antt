use Rattle.board_slots.proofs.ExampleLemmas.{follows, is_example, may_read, shows}
use Rattle.board_slots.proofs.laws.an_example_may_be_read.Goals as goal

pub returns-clause-read : goal.returns-clause-read
returns-clause-read c = may_read

pub returns-clause-follows : goal.returns-clause-follows
returns-clause-follows c = follows

pub returns-clause-shows : goal.returns-clause-shows
returns-clause-shows c = shows

pub returns-clause-made : goal.returns-clause-made
returns-clause-made c = is_example
