-- What was run and told, as one record.
use Rattle.std.proofs.Common.{◌≡◌, ◌∙◌, ap₂, refl, subst, Bool}
use Rattle.rac_top.specs.Failures.{has_failed, have_risen}
use Rattle.rac_top.specs.Runs.{TellsRun}
use Rattle.rac_top.proofs.RanLemmas.{has-run, not-good}
use Rattle.rac_top.proofs.run_command.run.Goals as goal

pub returns-in-Ok-Ran-clause-ran : goal.returns-in-Ok-Ran-clause-ran
returns-in-Ok-Ran-clause-ran g c = λ is.
    let fails = c.have_risen-failed.ensures ∙ ap₂ have_risen c.failures_of-before.ensures c.failures_of.ensures in
    record {
      parts = c.in-Ok.script;
      run = c.in-Ok-Ran.run';
      ran = has-run c.in-Ok.script c.in-Ok-Ran.run' _ _ _ _ c.in-Ok.ensures.well_formed c.in-Ok.ensures.says (c.in-Ok.ensures.ended refl) (rw c.in-Ok-Ran.field-0-is at c.in-Ok-Ran.ensures);
      tells = subst (λ (failed : Bool). TellsRun c.args.options c.in-Ok.script c.in-Ok-Ran.run' failed (g.K.Sink.holds c.args.sink.now) (g.K.Sink.holds c.tell_run.new.sink) c.tell_run.result)
          fails (c.tell_run.ensures.told is);
    }

pub returns-in-Ok-Ran-clause-not_good : goal.returns-in-Ok-Ran-clause-not_good
returns-in-Ok-Ran-clause-not_good g c = λ is.
    not-good c.args.options c.in-Ok.script c.in-Ok-Ran.run' _ _ _ _ c.tell_run.result.end
    (has-run c.in-Ok.script c.in-Ok-Ran.run' _ _ _ _ c.in-Ok.ensures.well_formed c.in-Ok.ensures.says (c.in-Ok.ensures.ended refl) (rw c.in-Ok-Ran.field-0-is at c.in-Ok-Ran.ensures))
    c.tell_run.ensures.untold is
