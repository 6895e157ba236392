use Rattle.std.proofs.Common.{◌++◌}
use Rattle.base_types.specs.Layout.{total_of}
use Rattle.first_state.specs.Create.{empties, for_each, puts_block, puts_entry}
use Rattle.first_state.proofs.Made.{failed_then, made_then}
use Rattle.first_state.proofs.creation.make.Goals as goal

pub returns-in-Whole : goal.returns-in-Whole
returns-in-Whole g c =
    made_then (for_each empties 8) (for_each (puts_block c.args.layout.now) (total_of c.args.layout.now) ++ for_each (puts_entry c.args.layout.now) 8) _ _ _ _ c.in-Whole.ensures c.go_on.ensures

pub returns-in-Failed : goal.returns-in-Failed
returns-in-Failed g c =
    failed_then (for_each empties 8) (for_each (puts_block c.args.layout.now) (total_of c.args.layout.now) ++ for_each (puts_entry c.args.layout.now) 8) _ _ c.in-Failed.ensures
