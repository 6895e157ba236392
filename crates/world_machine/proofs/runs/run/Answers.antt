use Rattle.std.proofs.Common.{inr, arith, ap, ◌∙◌, length, length-append}
use Rattle.world_machine.specs.Runs.{words}
use Rattle.world_machine.proofs.RunLemmas.{run_then, run_same}
use Rattle.world_machine.proofs.runs.run.Goals as goal

pub loop-made-preserved : goal.loop-made-preserved
loop-made-preserved g c =
    let state = λ (d : g.row.D.Denot). g.D.SharedDisk.state d in
    let turn = rw c.in-Some.is at c.in_ok-step.ensures.turns in
    let pushed = c.in_ok-push-in-Some.ensures.ok in (
      run_then (words c.args.seed) c.args.world.now (state c.args.disk.now) c.loop-made.book c.push.new.self c.loop-made.words c.turn.new.words c.loop-made.world
          (state c.loop-made.disk) c.in-Some.step c.turn.new.world (state c.turn.new.disk) c.loop-made.invariant.0 turn pushed,
      simp length-append at (ap length pushed) ∙ omega arith,
    )

pub returns-in-None-clause-run : goal.returns-in-None-clause-run
returns-in-None-clause-run g c =
    let state = λ (d : g.row.D.Denot). g.D.SharedDisk.state d in
    let none = rw c.in-None.is at c.in_ok-step.ensures.none in
    run_same (words c.args.seed) c.args.world.now (state c.args.disk.now) c.loop-made.book c.loop-made.words c.turn.new.words c.loop-made.world c.turn.new.world
    (state c.loop-made.disk) (state c.turn.new.disk) c.loop-made.invariant.0 none.1 none.2 none.3

pub returns-clause-ends : goal.returns-clause-ends
returns-clause-ends g c = inr (omega arith)
