use Rattle.std.proofs.Common.{rules, ◌<◌, length, sym, ap, ◌∙◌, subst}
use Rattle.step_book.proofs.Owned.{own_there, new_began, split_knows}
use Rattle.step_book.proofs.Kept.{splits}
use Rattle.step_book.specs.Seats.{BeganAt}
use Rattle.step_book.proofs.seat.Seat.split.Goals as goal

pub split_seat-place-requires : goal.split_seat-place-requires
split_seat-place-requires g c =
    let v = c.args.self.now.place.me.0 in let o = own_there v.own c.args.book.now.table.shared.key c.requires.seat.1 in (
      search rules,
      search rules,
      splits g.M.Machine.rules c.args.book.now.table.shared.key _ v o.0 c.args.self.now.seated.1 o.1 c.requires.first
          (subst (λ z. v.made < length z.parts.value.items) (sym o.2) c.requires.left),
    )

pub returns-clause-new : goal.returns-clause-new
returns-clause-new g c =
    let v = c.args.self.now.place.me.0 in let start = c.args.book.now.table.shared.key in let o = own_there v.own start c.requires.seat.1 in
    let is = ap (λ m. m.0) c.split_seat-place.ensures.4 ∙ split_knows v o.0 start o.1 o.2 in
    (search rules, subst (λ k. BeganAt k.own start) (sym is) (new_began start v.made c.requires.left))
