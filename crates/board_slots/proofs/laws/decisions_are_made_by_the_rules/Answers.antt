use Rattle.board_slots.proofs.Deciding.{decides, goes-on, slot-chosen, row-free, newest-free}
use Rattle.board_slots.proofs.laws.decisions_are_made_by_the_rules.Goals as goal

pub returns-clause-record_made : goal.returns-clause-record_made
returns-clause-record_made c = λ records block seen me x look s scn prev seq r k fresh puts value sound may lt named goes takes. decides records sound me x look s scn may block seen prev seq r k fresh puts value lt named goes takes

pub returns-clause-slot_anew : goal.returns-clause-slot_anew
returns-clause-slot_anew c = λ records block seen me x look s scn k fresh sound may takes. (slot-chosen records sound me x look s scn may block seen k fresh takes).2

pub returns-clause-row_free : goal.returns-clause-row_free
returns-clause-row_free c = λ records block seen me x look s scn r sound may lt goes follows. row-free records sound me x look s scn may r (goes-on records sound me x look s scn may block seen r lt goes) follows

pub returns-clause-newest_free : goal.returns-clause-newest_free
returns-clause-newest_free c = λ records block seen me x look s scn r sound may lt goes. newest-free records sound me x look s scn may r (goes-on records sound me x look s scn may block seen r lt goes)

pub returns-clause-found : goal.returns-clause-found
returns-clause-found c = λ records r sound. sound.shows.values r
