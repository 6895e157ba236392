use Rattle.board_slots.proofs.Follows.{follows-kept, follows-grows, follows-none}
use Rattle.board_slots.proofs.laws.readers_follow_commits.Goals as goal

pub returns-clause-record_kept : goal.returns-clause-record_kept
returns-clause-record_kept c = follows-kept

pub returns-clause-later : goal.returns-clause-later
returns-clause-later c = λ past s t me deeds le h. follows-grows past past s t me deeds le (λ x P i. i) h

pub returns-clause-none : goal.returns-clause-none
returns-clause-none c = follows-none
