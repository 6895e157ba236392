use Rattle.std.proofs.Common.{rules, ap, ◌∙◌}
use mathlib.Core.Option.{none}
use Rattle.atomic_table.specs.Table.{step}
use Rattle.step_book.proofs.Owned.{own_there}
use Rattle.step_book.proofs.Kept.{joins, compares}
use Rattle.step_book.proofs.seat.Seat.join.Goals as goal

pub join_seat-requires : goal.join_seat-requires
join_seat-requires g c =
    let v = c.args.self.now.place.me.0 in let w = c.args.other.place.me.0 in
    let o = own_there v.own c.args.book.now.table.shared.key c.requires.seat.1 in let o2 = own_there w.own c.args.book.now.table.shared.key c.requires.other.1 in
    (search rules, search rules, search rules, search rules, joins g.M.Machine.rules c.args.book.now.table.shared.key _ _ v w o.0 o2.0 c.args.self.now.seated.1 c.args.other.seated.1 o.1 o2.1)

pub load-requires : goal.load-requires
load-requires g c =
    let v = c.args.self.now.place.me.0 in
    let o = own_there v.own c.args.book.now.table.shared.key c.requires.seat.1 in
    (search rules, search rules, compares g.M.Machine.rules c.args.book.now.table.shared.key _ _ _ o.0 (step c.args.book.now.table.shared.table_id.slots 0 0 0 none) (ap (λ m. m.0.own) c.join_seat.ensures.2 ∙ o.1))
