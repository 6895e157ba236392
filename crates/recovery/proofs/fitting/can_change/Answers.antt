use Rattle.std.proofs.Common.{◌≡◌, rules, sym, true, ◌∙◌}
use Rattle.recovery.proofs.Changes.{applied_is}
use Rattle.recovery.proofs.fitting.can_change.Goals as goal

pub returns-then-is_itl-clause-sound : goal.returns-then-is_itl-clause-sound
returns-then-is_itl-clause-sound c = λ names version.
    let range = c.is_in_range.ensures in
    let in_range : c.is_in_range.result ≡ true = search rules in
    applied_is c.args.block.now c.args.change.now c.args.scn c.always_is_block.ensures (range.row in_range) (c.is_itl.ensures.sound c.if-is_itl.true) c.always_is_value.ensures
    (range.some_scn in_range) range.scn version (sym c.locks_name_slots.ensures ∙ names)
