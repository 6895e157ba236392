-- What a run and an audit promise, each as one record.
use Rattle.std.proofs.Common.{◌≡◌, ◌⊎◌, ap, map, string_bytes, subst, sym}
use Rattle.cli_words.specs.Orders.{order_in}
use Rattle.rac_top.specs.declared.exit.End.TheVariants.{NoMemory, WrongWords}
use Rattle.rac_top.specs.declared.exit.Exit.{Exit}
use Rattle.rac_top.specs.Audits.{Audits}
use Rattle.rac_top.specs.Calls.{ByOrder}
use Rattle.rac_top.specs.Runs.{Runs}
use Rattle.rac_top.proofs.NothingRun.{nothing-done}
use Rattle.rac_top.proofs.top.rac.Goals as goal

pub returns-in-Ok-Run-clause-does : goal.returns-in-Ok-Run-clause-does
returns-in-Ok-Run-clause-does g c =
    rw (c.in-Ok-Run.ensures.order, c.in-Ok-Run.field-0-is) (record {
      cause = c.run.ensures.cause;
      read_fault = c.run.ensures.read_fault;
      reads = c.run.ensures.reads;
      ran = c.run.ensures.ran;
      not_good = c.run.ensures.not_good;
      silent = λ no. ((c.run.ensures.silent no).0, (c.run.ensures.silent no).1, ap g.K.Sink.holds (c.run.ensures.silent no).2);
      untouched = λ no. ap g.D.SharedDisk.state (c.run.ensures.untouched no);
      uncreated = c.run.ensures.uncreated;
      calm = c.run.ensures.calm;
      completes = c.run.ensures.completes;
    })

pub returns-in-Ok-Audit-clause-does : goal.returns-in-Ok-Audit-clause-does
returns-in-Ok-Audit-clause-does g c =
    rw (c.in-Ok-Audit.ensures.order, c.in-Ok-Audit.field-0-is) (record {
      cause = c.audit.ensures.cause;
      unread = c.audit.ensures.unread;
      told = c.audit.ensures.told;
      good_logs = c.audit.ensures.good_logs;
      silent = λ no. ap g.K.Sink.holds (c.audit.ensures.silent no);
      kept = c.audit.ensures.kept;
      full = c.audit.ensures.full;
      no_run = c.audit.ensures.no_run;
      completes = c.audit.ensures.completes;
    })

pub returns-clause-does : goal.returns-clause-does
returns-clause-does g c =
    let source = c.args.source.now in
    let sink = c.args.sink.now in
    let left = g.S.Source.left source in
    let held = g.K.Sink.holds sink in
    let wrote = g.K.Sink.faults sink in
    let stalled = g.K.Sink.stalls sink in
    let read = g.S.Source.faults source in
    let disk = g.D.SharedDisk.state c.args.disk.now in
    let order = order_in (map string_bytes c.args.words.now) in
    subst (λ (exit : Exit). ByOrder order (λ options. Runs options left left read read held held wrote wrote stalled stalled disk disk exit)
    (Audits held held wrote wrote stalled stalled disk disk exit) ((exit.end ≡ WrongWords) ⊎ (exit.end ≡ NoMemory)))
    (sym c.without_run-in-Err-NoMemory.ensures) (nothing-done order left read held wrote stalled disk)
