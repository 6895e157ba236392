use Rattle.std.proofs.Common.{◌∙◌}
use Rattle.txn_slots.proofs.SlotLemmas.{each_slot, four_slots}
use Rattle.part_image.specs.Slots.{IsItl}
use Rattle.txn_slots.proofs.slots.slots_of.Goals as goal

pub returns-clause-itl : goal.returns-clause-itl
returns-clause-itl c =
    rw (c.itl.ensures, c.itl-2.ensures, c.itl-3.ensures, c.itl-4.ensures, c.copy-block.ensures.equal)
    (four_slots c.args.image.now.itl c.copy-block.ensures.block.four_slots)

pub returns-clause-each : goal.returns-clause-each
returns-clause-each c =
    let each = each_slot IsItl c.args.image.now.itl c.copy-block.ensures.block.four_slots c.copy-block.ensures.block.slots in
    rw (c.itl.ensures, c.itl-2.ensures, c.itl-3.ensures, c.itl-4.ensures, c.copy-block.ensures.equal)
    (each.0, (each.1.0, (each.1.1.0, (each.1.1.1, tt))))
