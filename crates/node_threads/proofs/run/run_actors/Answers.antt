use Rattle.std.proofs.Common.{◌≡◌, ◌+◌, ◌++◌, ℕ, suc, [], ◌∷◌, List, Some, reverse, slice_get, arith, refl, sym, ap, ◌∙◌, subst}
use Rattle.std.proofs.lemmas.List.{reverse-append, reverse-reverse}
use Rattle.node_threads.specs.Ends.{Tells}
use Rattle.step_book.specs.Actors.{MayWork}
use Rattle.step_book.specs.Seats.{Comes}
use Rattle.step_book.specs.Turns.{own_of}
use Rattle.node_threads.proofs.run.run_actors.Goals as goal

pub seat_others-players-requires-clause-parts : goal.seat_others-players-requires-clause-parts
seat_others-players-requires-clause-parts g c κs w = λ i part at.
    let items : c.reverse.new.self.items ≡ c.pop.new.self.items ++ c.in-Some.part ∷ [] = c.in-Some.ensures.items in
    let back : reverse c.args.parts.items ≡ c.pop.new.self.items ++ c.in-Some.part ∷ [] = sym c.reverse.ensures.items ∙ items in
    let all : c.args.parts.items ≡ c.in-Some.part ∷ reverse c.pop.new.self.items = sym (reverse-reverse c.args.parts.items) ∙ (ap reverse back ∙ reverse-append c.pop.new.self.items (c.in-Some.part ∷ [])) in
    let here : slice_get c.args.parts.items (suc i) ≡ Some part = ap (λ z. slice_get z (suc i)) all ∙ at in
    let made : c.args.seat.place.me.0.made ≡ 1 = ap (λ v. v.made) c.requires.seat.1 in
    let k : suc i ≡ c.args.seat.place.me.0.made + i = omega arith in (
      subst (λ (n : ℕ). slice_get c.args.book.now.table.shared.key.parts.value.items n ≡ Some part) k (subst (λ (z : List g.row.M-Part.Denot). slice_get z (suc i) ≡ Some part) c.requires.parts here),
      subst (λ (n : ℕ). MayWork g.M.Machine.rules n part) k (c.requires.work (suc i) part here),
    )

pub play_all-first-requires-clause-first : goal.play_all-first-requires-clause-first
play_all-first-requires-clause-first g c κs w =
    let items : c.reverse.new.self.items ≡ c.pop.new.self.items ++ c.in-Some.part ∷ [] = c.in-Some.ensures.items in
    let back : reverse c.args.parts.items ≡ c.pop.new.self.items ++ c.in-Some.part ∷ [] = sym c.reverse.ensures.items ∙ items in
    let all : c.args.parts.items ≡ c.in-Some.part ∷ reverse c.pop.new.self.items = sym (reverse-reverse c.args.parts.items) ∙ (ap reverse back ∙ reverse-append c.pop.new.self.items (c.in-Some.part ∷ [])) in
    let here : slice_get c.args.parts.items 0 ≡ Some c.in-Some.part = ap (λ z. slice_get z 0) all in
    let start = c.args.book.now.table.shared.key in
    let there : slice_get start.parts.value.items 0 ≡ Some c.in-Some.part = subst (λ (z : List g.row.M-Part.Denot). slice_get z 0 ≡ Some c.in-Some.part) c.requires.parts here in
    let e = c.seat_others-players.ensures in
    let own = e.same.0 ∙ (ap (λ v. v.own) c.requires.seat.1 ∙ ap (λ o. own_of o start) there) in
    record {
      seat_is = e.whole.0;
      actor_is = refl;
      comes = subst (λ o. Comes g.M.Machine.rules o c.seat_others-players.new.whole.place.me.0.number c.in-Some.part) (sym own) (λ origin q. q);
      works = subst (λ (n : ℕ). MayWork g.M.Machine.rules n c.in-Some.part) (sym e.whole.1) (c.requires.work 0 c.in-Some.part here);
    }

pub returns-in-Finished-clause-ended : goal.returns-in-Finished-clause-ended
returns-in-Finished-clause-ended g c = subst (λ z. Tells (λ actor refusal. g.G.Gate.gave c.args.gate.now actor refusal) c.gather-end.new.whole.place.me.0.ended z) c.in-Finished.is c.gather-end.ensures.end

pub returns-in-Failed-clause-why : goal.returns-in-Failed-clause-why
returns-in-Failed-clause-why g c = subst (λ z. Tells (λ actor refusal. g.G.Gate.gave c.args.gate.now actor refusal) c.gather-end.new.whole.place.me.0.ended z) c.in-Failed.is c.gather-end.ensures.end
