use Rattle.std.proofs.Common.{◌≤◌, ◌++◌, [], ◌∷◌, List, arith, sym, ap, ◌∙◌, subst, append_assoc}
use Rattle.step_book.specs.Actors.{Turns}
use Rattle.step_book.specs.declared.answer.Turn.TheVariants.{Did, Nothing, Finished}
use Rattle.token_ring.specs.Ring.{ring, waiting_by}
use Rattle.token_ring.specs.declared.ring.Step.{Step}
use Rattle.token_ring.specs.declared.ring.Counter.{Counter}
use Rattle.token_ring.specs.declared.ring.Token.{Token}
use Rattle.token_ring.specs.declared.ring.Step.TheVariants.{Passed}
use Rattle.token_ring.proofs.Turned.{finishes, waits_on, passes}
use Rattle.token_ring.proofs.machine.RingMachine.turn.Goals as goal

pub returns-then-token-ge-PASSES : goal.returns-then-token-ge-PASSES
returns-then-token-ge-PASSES c = λ _. let e = c.in-Ok.ensures in let over : 100 ≤ c.enter.new.token.passes = omega arith in
    (waiting_by c.args.part.now.mark, e.book, subst (λ q. Turns ring Finished c.args.me c.args.part.now c.args.token.now (waiting_by c.args.part.now.mark) q c.enter.new.token) (sym e.part) (finishes c.args.me c.args.part.now c.args.token.now c.enter.new.token e.none e.some over))

pub returns-then-token-me : goal.returns-then-token-me
returns-then-token-me c = λ _. let e = c.in-Ok.ensures in
    (waiting_by c.args.part.now.mark, e.book, subst (λ q. Turns ring Nothing c.args.me c.args.part.now c.args.token.now (waiting_by c.args.part.now.mark) q c.enter.new.token) (sym e.part) (waits_on c.args.me c.args.part.now c.args.token.now c.enter.new.token e.none e.some (λ o. omega arith) c.if-token-me.true))

pub returns : goal.returns
returns c = λ _. let e = c.in-Ok.ensures in let o = c.in-Ok-push.ensures in let w : List Step = waiting_by c.args.part.now.mark in (
  w ++ Passed c.args.me ∷ [],
  o.ok ∙ (ap (λ z. z ++ Passed c.args.me ∷ []) e.book ∙ append_assoc c.args.book.now w (Passed c.args.me ∷ [])),
  subst (λ (q : Counter × Token). Turns ring Did c.args.me c.args.part.now c.args.token.now (w ++ Passed c.args.me ∷ []) q.0 q.1) (λ i. (sym e.part i, sym c.pass.ensures i))
      (passes c.args.me c.args.part.now c.args.token.now c.enter.new.token e.none e.some (λ o. omega arith) c.if-token-me.false),
)
