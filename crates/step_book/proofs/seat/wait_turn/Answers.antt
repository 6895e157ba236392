use Rattle.std.proofs.Common.{rules, ap, ◌∙◌}
use mathlib.Core.Option.{none}
use Rattle.atomic_table.specs.Table.{step}
use Rattle.step_book.proofs.Kept.{looks}
use Rattle.step_book.proofs.Owned.{own_there}
use Rattle.step_book.proofs.seat.wait_turn.Goals as goal

pub load-served-requires : goal.load-served-requires
load-served-requires g c = let o = own_there c.args.place.now.me.0.own c.args.top.now.key c.requires.table.0.1 in let d = c.requires.drew in
    let same = c.loop.invariant.1 in (
      search rules,
      search rules,
      looks g.M.Machine.rules c.args.top.now.key _ _ _ o.0 d.0 (step c.args.top.now.table_id.slots 1 0 0 none)
          (ap (λ z. z.1) same ∙ d.3) (ap (λ z. z.0.stage) same ∙ d.2) (ap (λ z. z.0.own) same ∙ o.1),
    )
