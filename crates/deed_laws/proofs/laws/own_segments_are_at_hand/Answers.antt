use Rattle.deed_laws.proofs.HandLemmas.{own-at-hand}
use Rattle.deed_laws.proofs.laws.own_segments_are_at_hand.Goals as goal

pub returns : goal.returns
returns c own handed number ended deed written turns own_is turned ends holds there = own-at-hand own handed number ended deed written turns own_is turned ends holds there
