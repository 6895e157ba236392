-- By the clauses on segments, transactions and numbers.
use Rattle.std.proofs.Common.{◌≡◌, Bool, true, false, refl, inl}
use Rattle.board_rows.specs.Sound.{has_end}
use Rattle.board_rows.proofs.laws.transactions_are_what_the_journal_says.Goals as goal

pub returns-clause-open : goal.returns-clause-open
returns-clause-open c asked insts board xid sound up is = sound.segments.active xid is up

pub returns-clause-active : goal.returns-clause-active
returns-clause-active c asked insts board xid sound is = (sound.segments.lives xid is, (sound.txns.each xid).active is)

pub returns-clause-standing : goal.returns-clause-standing
returns-clause-standing c asked insts board xid sound is = (sound.txns.each xid).stands (inl is)

pub returns-clause-new : goal.returns-clause-new
returns-clause-new c asked insts board xid sound fresh = here (has_end xid board.past) refl
  where
    here : (t : Bool) → has_end xid board.past ≡ t → t ≡ false
    here false e = refl
    here true e = absurd (sound.numbers.ended xid e fresh)
