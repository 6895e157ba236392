use Rattle.std.proofs.Common.{◌≡◌, ◌++◌, [], ◌∷◌, All, List, arith, sym, subst}
use Rattle.node_threads.specs.Ends.{Tells}
use Rattle.node_threads.specs.Players.{IsAlone}
use Rattle.node_threads.specs.declared.threads.Player.{Player}
use Rattle.step_book.specs.Seats.{IsOf}
use Rattle.node_threads.proofs.Ending.{all_butlast, all_last, tells_left, tells_earlier}
use Rattle.node_threads.proofs.threads.gather.Goals as goal

pub loop-player-preserved : goal.loop-player-preserved
loop-player-preserved g c =
    let A : Type 0 = Player g.row.M.Denot g.row.G-No.Denot g.row.M-Part.Denot g.row.M-Shared.Denot g.row.M-Step.Denot g.M.Machine in
    let inv = c.loop-player.invariant in let t = c.take_in-end.ensures in
    let xs : List A = c.pop.new.self.items in let x : A = c.in-Some.player in
    let items : c.loop-player.others.items ≡ xs ++ x ∷ [] = c.in-Some.ensures.items in
    let len = c.in-Some.ensures.len in
    let seats : All (λ (y : A). IsOf c.args.book.now.table.shared.table_id c.args.book.now.table.shared.key y.seat.place) (xs ++ x ∷ []) = subst (λ (z : List A). All (λ (y : A). IsOf c.args.book.now.table.shared.table_id c.args.book.now.table.shared.key y.seat.place) z) items inv.seats in
    let alone : All (λ (y : A). IsAlone y.seat.place.me.0) (xs ++ x ∷ []) = subst (λ (z : List A). All (λ (y : A). IsAlone y.seat.place.me.0) z) items inv.alone in
    let ends : All (λ (y : A). Tells (λ actor refusal. g.G.Gate.gave c.args.gate.now actor refusal) y.seat.place.me.0.ended y.end) (xs ++ x ∷ []) = subst (λ (z : List A). All (λ (y : A). Tells (λ actor refusal. g.G.Gate.gave c.args.gate.now actor refusal) y.seat.place.me.0.ended y.end) z) items inv.ends in
    let one = all_last (λ (y : A). IsAlone y.seat.place.me.0) xs x alone in
    let m = t.counts.0 in let j = t.counts.1 in let m0 = inv.made in let j0 = inv.joined in let o0 = one.0 in let o1 = one.1 in record {
      whole = t.whole;
      made = omega arith;
      joined = omega arith;
      seats = all_butlast (λ (y : A). IsOf c.args.book.now.table.shared.table_id c.args.book.now.table.shared.key y.seat.place) xs x seats;
      alone = all_butlast (λ (y : A). IsAlone y.seat.place.me.0) xs x alone;
      ends = all_butlast (λ (y : A). Tells (λ actor refusal. g.G.Gate.gave c.args.gate.now actor refusal) y.seat.place.me.0.ended y.end) xs x ends;
      first = subst (λ b. Tells (λ actor refusal. g.G.Gate.gave c.args.gate.now actor refusal) b c.args.first_end) (sym t.ended) (tells_left (λ actor refusal. g.G.Gate.gave c.args.gate.now actor refusal) _ _ _ inv.first);
      end = t.end;
    }

pub returns-clause-end : goal.returns-clause-end
returns-clause-end g c = subst (λ z. Tells (λ actor refusal. g.G.Gate.gave c.args.gate.now actor refusal) c.loop-player.whole.place.me.0.ended z) (sym c.first_of.ensures)
    (tells_earlier (λ actor refusal. g.G.Gate.gave c.args.gate.now actor refusal) _ _ _ c.loop-player.invariant.first c.loop-player.invariant.end)
