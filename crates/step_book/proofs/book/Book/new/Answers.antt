use Rattle.std.proofs.Common.{rules, ◌≡◌, ◌<◌, ℕ, [], ◌∷◌, length, false, List, sym, ap, ◌∙◌, refl, subst, slice_get, Some}
use Rattle.atomic_table.specs.Table.{opening}
use Rattle.step_book.specs.Actors.{IsBare}
use Rattle.step_book.specs.Turns.{InTurn, first_known}
use Rattle.step_book.specs.declared.board.Board.{Board}
use Rattle.step_book.specs.declared.board.Start.{Start}
use Rattle.step_book.proofs.Kept.{opens}
use Rattle.step_book.proofs.Walks.{all_get, bare_ready}
use Rattle.step_book.proofs.book.Book.new.Goals as goal

pub new-requires-2 : goal.new-requires-2
new-requires-2 g c =
    let start : Start g.row.M-Part.Denot g.row.M-Shared.Denot = record { parts = c.of.result; shared = c.of-2.result } in
    let b : Board g.row.M-Part.Denot g.row.M-Shared.Denot g.row.M-Step.Denot = record { shared = c.args.shared; steps = c.new.result; spoilt = false; finished = false; left = c.of-3.result } in
    let one : c.push_reserved.new.self.items ≡ Some b ∷ [] = search rules in
    let parts_are : c.of.result.value.items ≡ c.args.parts.now.items = ap (λ v. v.items) c.of.ensures in
    let parts_are' : start.parts.value.items ≡ c.args.parts.now.items = parts_are in
    subst (λ xs. InTurn g.M.Machine.rules start (opening (0 ∷ 0 ∷ []) xs (first_known start))) (sym one)
    (opens g.M.Machine.rules start b
    (subst (λ (xs : List g.row.M-Part.Denot). 0 < length xs) (sym parts_are') (search rules))
    (subst (λ (xs : List g.row.M-Part.Denot). length xs < 4294967296) (sym parts_are') (search rules))
    (subst (λ (xs : List g.row.M-Part.Denot). (k : ℕ) (p : g.row.M-Part.Denot) → slice_get xs k ≡ Some p → IsBare g.M.Machine.rules p) (sym parts_are')
    (λ k p. all_get g.M.Machine.rules (IsBare g.M.Machine.rules) c.args.parts.now.items k p c.requires.bare))
    (subst (λ (z : List g.row.M-Part.Denot × g.row.M-Shared.Denot). g.M.Machine.rules.sound z.0 z.1) (λ i. (sym parts_are' i, sym c.of-2.ensures i)) c.requires.sound)
    (sym c.of-2.ensures) c.new.ensures refl)

pub shared_of-requires : goal.shared_of-requires
shared_of-requires g c =
    let b : Board g.row.M-Part.Denot g.row.M-Shared.Denot g.row.M-Step.Denot = record { shared = c.args.shared; steps = c.new.result; spoilt = false; finished = false; left = c.of-3.result } in
    let one : c.push_reserved.new.self.items ≡ Some b ∷ [] = search rules in
    (b, c.in-Err.ensures.err ∙ one)

pub returns-clause-err : goal.returns-clause-err
returns-clause-err g c =
    let b : Board g.row.M-Part.Denot g.row.M-Shared.Denot g.row.M-Step.Denot = record { shared = c.args.shared; steps = c.new.result; spoilt = false; finished = false; left = c.of-3.result } in
    let one : c.push_reserved.new.self.items ≡ Some b ∷ [] = search rules in
    c.shared_of.ensures b (c.in-Err.ensures.err ∙ one)

pub returns-in-Ok-clause-ready : goal.returns-in-Ok-clause-ready
returns-in-Ok-clause-ready g c = λ actor part at. bare_ready g.M.Machine.rules c.args.parts.now.items c.args.shared actor part c.requires.bare c.requires.sound at
