use Rattle.std.proofs.Common.{◌≡◌, sym, ◌∙◌, subst}
use mathlib.Core.Option.{some-injective}
use Rattle.step_book.specs.Seats.{Closing}
use Rattle.step_book.proofs.Owned.{own_there}
use Rattle.step_book.proofs.Kept.{closes}
use Rattle.step_book.proofs.book.last_board.Goals as goal

pub unreachable-requires : goal.unreachable-requires
unreachable-requires g c =
    let v = c.args.place.me.0 in let o = own_there v.own c.args.table.shared.key c.requires.table.0.1 in
    let k = closes g.M.Machine.rules c.args.table.shared.key c.args.place.id v o.0 _ _ c.requires.idle.1 o.1 c.requires.all c.close_with-closed.ensures.values.2 in
    c.in_default.not-Some k.0 (some-injective _ _ (sym c.take-board.ensures.value ∙ k.1))

pub returns : goal.returns
returns g c =
    let v = c.args.place.me.0 in let o = own_there v.own c.args.table.shared.key c.requires.table.0.1 in
    let k = closes g.M.Machine.rules c.args.table.shared.key c.args.place.id v o.0 _ _ c.requires.idle.1 o.1 c.requires.all c.close_with-closed.ensures.values.2 in
    let found = some-injective _ _ (sym c.take-board.ensures.value ∙ k.1) in
    let same : c.in-Some.board ≡ k.0 = (let q = sym c.in-Some.is ∙ found in cc) in
    subst (λ b. Closing g.M.Machine.rules c.args.table.shared.key v b) (sym same) k.2
