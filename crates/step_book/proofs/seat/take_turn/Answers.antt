use Rattle.std.proofs.Common.{rules, ℕ, ◌++◌, [], sym, ap, ◌∙◌, subst}
use mathlib.Core.Option.{none}
use Rattle.atomic_table.specs.Table.{step}
use Rattle.step_book.specs.Seats.{Comes, Advanced}
use Rattle.step_book.specs.Turns.{Found, Gives}
use Rattle.step_book.specs.declared.board.Stage.TheVariants.{Waiting, Holding}
use Rattle.step_book.proofs.Owned.{own_there}
use Rattle.step_book.proofs.Kept.{serves}
use Rattle.step_book.proofs.Turning.{comes_ready, gives_of, took}
use Rattle.step_book.proofs.seat.take_turn.Goals as goal

pub advance_held-answer-requires-clause-held : goal.advance_held-answer-requires-clause-held
advance_held-answer-requires-clause-held g c κs within =
    let v = c.args.place.now.me.0 in let d = c.draw-ticket.ensures.drew in
    let f : Found g.M.Machine.rules d.0 (record v { stage = Waiting d.0 }, []) c.wait_turn.new.place.me =
    subst (λ z. Found g.M.Machine.rules d.0 z c.wait_turn.new.place.me) d.2 (c.wait_turn.ensures.found d.0 (ap (λ z. z.0.stage) d.2)) in (
      d.0,
      f.board,
      ap (λ z. z.0.stage) f.held,
      ap (λ z. z.1) f.held,
      λ e. comes_ready g.M.Machine.rules v.own c.args.me c.args.part.now f.board.shared c.requires.part (rw (← c.requires.number) (f.ready e)),
    )

pub fetch_add-requires : goal.fetch_add-requires
fetch_add-requires g c =
    let v = c.args.place.now.me.0 in let d = c.draw-ticket.ensures.drew in
    let f : Found g.M.Machine.rules d.0 (record v { stage = Waiting d.0 }, []) c.wait_turn.new.place.me =
    subst (λ z. Found g.M.Machine.rules d.0 z c.wait_turn.new.place.me) d.2 (c.wait_turn.ensures.found d.0 (ap (λ z. z.0.stage) d.2)) in
    let o = own_there v.own c.args.top.now.key c.requires.table.0.1 in
    let h = c.advance_held-answer.ensures.turned d.0 f.board (ap (λ z. z.0.stage) f.held) in
    let same = c.advance_held-answer.ensures.same.1 ∙ ap (λ z. z.0) f.held in (
      search rules,
      search rules,
      serves g.M.Machine.rules c.args.top.now.key g.met.M.Machine.keeps_sound g.met.M.Machine.keeps_over _ _ _ o.0 d.0 f.board h.0 (step c.args.top.now.table_id.slots 1 1 0 none) h.1
          (ap (λ z. z.stage) same) (ap (λ z. z.own) same ∙ o.1)
          (subst (λ z. Gives g.M.Machine.rules z z.own f.board h.0) (sym same)
          (gives_of g.M.Machine.rules (record v { stage = Holding d.0 f.board; seen = v.seen ++ f.between }) v.own c.args.part.now c.advance_held-answer.new.part f.board h.0 c.advance_held-answer.result
          (subst (λ (k : ℕ). Comes g.M.Machine.rules v.own k c.args.part.now) (sym c.requires.number) c.requires.part)
          (subst (λ (k : ℕ). Advanced g.M.Machine.rules k c.args.part.now c.advance_held-answer.new.part f.board h.0 c.advance_held-answer.result) (sym c.requires.number) h.2)))
          h.2.still,
    )

pub returns-clause-took : goal.returns-clause-took
returns-clause-took g c =
    let v = c.args.place.now.me.0 in let d = c.draw-ticket.ensures.drew in
    let f : Found g.M.Machine.rules d.0 (record v { stage = Waiting d.0 }, []) c.wait_turn.new.place.me =
    subst (λ z. Found g.M.Machine.rules d.0 z c.wait_turn.new.place.me) d.2 (c.wait_turn.ensures.found d.0 (ap (λ z. z.0.stage) d.2)) in
    let o = own_there v.own c.args.top.now.key c.requires.table.0.1 in
    let h = c.advance_held-answer.ensures.turned d.0 f.board (ap (λ z. z.0.stage) f.held) in
    took g.M.Machine.rules v o.0 d.0 c.wait_turn.new.place.me c.advance_held-answer.new.place.me c.fetch_add.new.seat.me c.args.part.now c.advance_held-answer.new.part h.0 c.advance_held-answer.result
    (step c.args.top.now.table_id.slots 1 1 0 none) c.fetch_add.result f c.advance_held-answer.ensures.same.1 h.1
    (subst (λ (k : ℕ). Advanced g.M.Machine.rules k c.args.part.now c.advance_held-answer.new.part f.board h.0 c.advance_held-answer.result) (sym c.requires.number) h.2) o.1 c.fetch_add.ensures.2

pub returns-clause-hand : goal.returns-clause-hand
returns-clause-hand g c =
    let v = c.args.place.now.me.0 in let d = c.draw-ticket.ensures.drew in
    let f : Found g.M.Machine.rules d.0 (record v { stage = Waiting d.0 }, []) c.wait_turn.new.place.me =
    subst (λ z. Found g.M.Machine.rules d.0 z c.wait_turn.new.place.me) d.2 (c.wait_turn.ensures.found d.0 (ap (λ z. z.0.stage) d.2)) in
    let h = c.advance_held-answer.ensures.turned d.0 f.board (ap (λ z. z.0.stage) f.held) in
    let same = c.advance_held-answer.ensures.same.1 ∙ ap (λ z. z.0) f.held in
    ap (λ z. z.1) (c.fetch_add.ensures.2 d.0 f.board h.0 (ap (λ z. z.stage) same) h.1).0
