use Rattle.std.proofs.Common.{◌≡◌, ◌+◌, ◌++◌, ℕ, suc, [], ◌∷◌, All, List, Some, reverse, slice_get, arith, sym, ap, ◌∙◌, subst}
use Rattle.std.proofs.lemmas.List.{reverse-append}
use Rattle.std.proofs.lemmas.List.Elements.{All-append, All-cons, All-nil}
use Rattle.node_threads.specs.Players.{IsAlone, Plays}
use Rattle.node_threads.specs.declared.threads.Player.{Player}
use Rattle.step_book.specs.Actors.{MayWork}
use Rattle.node_threads.proofs.threads.seat_others.Goals as goal

pub next_player-player-requires-clause-part : goal.next_player-player-requires-clause-part
next_player-player-requires-clause-part g c κs w =
    let items : c.loop-part.parts.items ≡ c.pop.new.self.items ++ c.in-Some.part ∷ [] = c.in-Some.ensures.items in
    let rev : reverse c.loop-part.parts.items ≡ c.in-Some.part ∷ reverse c.pop.new.self.items = ap reverse items ∙ reverse-append c.pop.new.self.items (c.in-Some.part ∷ []) in
    let h = c.loop-part.invariant.parts 0 c.in-Some.part (ap (λ z. slice_get z 0) rev) in
    let z : c.loop-part.whole.place.me.0.made + 0 ≡ c.loop-part.whole.place.me.0.made = omega arith in
    subst (λ (k : ℕ). slice_get c.args.book.now.table.shared.key.parts.value.items k ≡ Some c.in-Some.part) z h.0

pub next_player-player-requires-clause-work : goal.next_player-player-requires-clause-work
next_player-player-requires-clause-work g c κs w =
    let items : c.loop-part.parts.items ≡ c.pop.new.self.items ++ c.in-Some.part ∷ [] = c.in-Some.ensures.items in
    let rev : reverse c.loop-part.parts.items ≡ c.in-Some.part ∷ reverse c.pop.new.self.items = ap reverse items ∙ reverse-append c.pop.new.self.items (c.in-Some.part ∷ []) in
    let h = c.loop-part.invariant.parts 0 c.in-Some.part (ap (λ z. slice_get z 0) rev) in
    let z : c.loop-part.whole.place.me.0.made + 0 ≡ c.loop-part.whole.place.me.0.made = omega arith in
    subst (λ (k : ℕ). MayWork g.M.Machine.rules k c.in-Some.part) z h.1

pub loop-part-preserved : goal.loop-part-preserved
loop-part-preserved g c =
    let A : Type 0 = Player g.row.M.Denot g.row.N.Denot g.row.M-Part.Denot g.row.M-Shared.Denot g.row.M-Step.Denot g.M.Machine in
    let items : c.loop-part.parts.items ≡ c.pop.new.self.items ++ c.in-Some.part ∷ [] = c.in-Some.ensures.items in
    let rev : reverse c.loop-part.parts.items ≡ c.in-Some.part ∷ reverse c.pop.new.self.items = ap reverse items ∙ reverse-append c.pop.new.self.items (c.in-Some.part ∷ []) in
    let inv = c.loop-part.invariant in let n = c.next_player-player.ensures in let p = c.push_reserved.ensures in let len = c.in-Some.ensures.len in
    let made : c.next_player-player.new.whole.place.me.0.made ≡ c.loop-part.whole.place.me.0.made + 1 = ap (λ v. v.made) n.whole.1 in
    let m0 = inv.made in let l0 = p.len in let c0 = p.capacity in let r0 = inv.room in
    let one : (Q : A → Type 0) → All Q c.loop-part.players.items → Q c.next_player-player.result → All Q c.push_reserved.new.self.items =
    λ Q all q. subst (λ (z : List A). All Q z) (sym p.items) (All-append Q c.loop-part.players.items (c.next_player-player.result ∷ []) all (All-cons Q c.next_player-player.result [] q (All-nil Q))) in record {
      whole = n.whole.0;
      number = ap (λ v. v.number) n.whole.1 ∙ inv.number;
      same = (ap (λ v. v.own) n.whole.1 ∙ inv.same.0, ap (λ v. v.joined) n.whole.1 ∙ inv.same.1);
      made = omega arith;
      room = omega arith;
      parts = λ i part at. let h = inv.parts (suc i) part (ap (λ z. slice_get z (suc i)) rev ∙ at) in
          let z : c.loop-part.whole.place.me.0.made + suc i ≡ c.next_player-player.new.whole.place.me.0.made + i = omega arith in
          (subst (λ (k : ℕ). slice_get c.args.book.now.table.shared.key.parts.value.items k ≡ Some part) z h.0, subst (λ (k : ℕ). MayWork g.M.Machine.rules k part) z h.1);
      plays = one (λ (y : A). Plays g.M.Machine.rules c.args.book.now.table.shared.table_id c.args.book.now.table.shared.key y.seat.place.me.0.number y.seat.place y.part) inv.plays n.plays;
      alone = one (λ (y : A). IsAlone y.seat.place.me.0) inv.alone n.alone;
    }
