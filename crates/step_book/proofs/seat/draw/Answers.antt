use Rattle.std.proofs.Common.{rules}
use mathlib.Core.Option.{none}
use Rattle.atomic_table.specs.Table.{step}
use Rattle.step_book.proofs.Kept.{draws}
use Rattle.step_book.proofs.Owned.{own_there}
use Rattle.step_book.proofs.seat.draw.Goals as goal

pub fetch_add-requires : goal.fetch_add-requires
fetch_add-requires g c = let o = own_there c.args.place.now.me.0.own c.args.top.now.key c.requires.table.0.1 in
    (search rules, search rules, draws g.M.Machine.rules c.args.top.now.key _ _ _ o.0 (step c.args.top.now.table_id.slots 0 1 0 none) (search rules) o.1)
