use Rattle.std.proofs.Common.{rules, ◌≡◌, ◌∷◌, sym, ap, ◌∙◌, subst, Some}
use Rattle.atomic_table.specs.Table.{rest}
use Rattle.step_book.specs.Seats.{Advanced}
use Rattle.step_book.specs.declared.board.Board.{Board}
use Rattle.step_book.specs.declared.board.Stage.TheVariants.{Holding}
use Rattle.step_book.proofs.Owned.{top_or, the_none}
use Rattle.step_book.proofs.seat.advance_held.Goals as goal

pub exchange-requires : goal.exchange-requires
exchange-requires g c = let h = c.requires.held in (search rules, (Some h.1, h.3 ∙ ap (λ cs. (0, Some h.1) ∷ rest cs) (sym h.3)))

pub returns-clause-turned : goal.returns-clause-turned
returns-clause-turned g c = λ t b holds.
    let h = c.requires.held in
    let same : h.1 ≡ b = (let q : Holding h.0 h.1 ≡ Holding t b = sym h.2 ∙ holds in cc) in
    let found : Some h.1 ≡ Some c.in-Some.board = ap (top_or (Some h.1)) (sym h.3 ∙ c.exchange.ensures.2) ∙ c.in-Some.is in
    let board : c.in-Some.board ≡ b = (let q = found in cc) in
    let first = ap (λ m. m.1) c.exchange.ensures.3 ∙ ap (λ cs. (0, the_none {A = Board g.row.M-Part.Denot g.row.M-Shared.Denot g.row.M-Step.Denot}) ∷ rest cs) h.3 in
    let last = ap (λ m. m.1) c.exchange-2.ensures.3 ∙ ap (λ cs. (0, Some c.advance-answer.new.board) ∷ rest cs) first in
    (c.advance-answer.new.board, last, subst (λ z. Advanced g.M.Machine.rules c.args.me c.args.part.now c.advance-answer.new.part z c.advance-answer.new.board c.advance-answer.result) board c.advance-answer.ensures)
