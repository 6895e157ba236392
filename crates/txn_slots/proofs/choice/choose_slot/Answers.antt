use Rattle.std.proofs.Common.{◌≡◌, ℕ, length, sym, rules, subst, ◌∙◌, ap}
use Rattle.std.specs.Prelude.{Option, None, Some}
use Rattle.std.specs.List.{position}
use Rattle.redo_types.specs.declared.blocks.ItlSlot.{ItlSlot}
use Rattle.undo_segment.specs.Segment.{look}
use Rattle.txn_slots.specs.Choice.{TakesWhatItMay, is_own_slot, is_unused}
use Rattle.txn_slots.proofs.ChoiceLemmas.{takes_ended, takes_own, takes_unused}
use Rattle.txn_slots.proofs.choice.choose_slot.Goals as goal

pub returns-in-Some-clause-taken : goal.returns-in-Some-clause-taken
returns-in-Some-clause-taken c =
    rw (sym c.slots_of-slots.ensures.itl)
    (takes_own c.args.me.now (look c.args.segment.now c.args.handed.now) c.slots_of-slots.result c.in-Some.at c.slots_of-slots.ensures.four
    (sym c.own_place.ensures.value ∙ c.in-Some.is))

pub returns-in-Some-unused_place-clause-taken : goal.returns-in-Some-unused_place-clause-taken
returns-in-Some-unused_place-clause-taken c =
    let none : c.own_place.result ≡ None = search rules in
    rw (sym c.slots_of-slots.ensures.itl)
    (takes_unused c.args.me.now (look c.args.segment.now c.args.handed.now) c.slots_of-slots.result c.in-Some-unused_place.at
    c.slots_of-slots.ensures.four (sym c.own_place.ensures.value ∙ none) (sym c.unused_place.ensures.value ∙ c.in-Some-unused_place.is))

pub returns-clause-taken : goal.returns-clause-taken
returns-clause-taken c =
    let none : c.own_place.result ≡ None = search rules in
    rw (c.take_ended.ensures, c.looks_at.ensures, sym c.slots_of-slots.ensures.itl)
    (takes_ended c.args.me.now (look c.args.segment.now c.args.handed.now) c.slots_of-slots.result c.slots_of-slots.ensures.four
    (sym c.own_place.ensures.value ∙ none))
