use Rattle.std.proofs.Common.{◌∙◌, refl, subst, sym}
use Rattle.log_history.specs.declared.reading.Met.{Met}
use Rattle.log_history.specs.Logs.{TakesNext}
use Rattle.log_history.proofs.LogLemmas.{next_record, no_bytes, some_bytes, torn_read, whole_read, wrong_here}
use Rattle.log_history.proofs.reading.read_log.Goals as goal

pub behind-rest-requires : goal.behind-rest-requires
behind-rest-requires c =
    let met = subst (λ (met : Met). TakesNext c.loop-rest.rest.now c.loop-rest.records c.take_next.new.records met) c.in-Whole.is c.in_ok-len.ensures in
    met.0

pub loop-rest-preserved : goal.loop-rest-preserved
loop-rest-preserved c =
    let met = subst (λ (met : Met). TakesNext c.loop-rest.rest.now c.loop-rest.records c.take_next.new.records met) c.in-Whole.is c.in_ok-len.ensures in
    let more = next_record c.args.bytes.now c.loop-rest.rest.now c.behind-rest.result.now c.loop-rest.records c.take_next.new.records met.1.0 c.in-Whole.len met.1.1 c.behind-rest.ensures c.loop-rest.invariant.each c.loop-rest.invariant.spelled met.1.2 met.1.3 in
    record { each = more.0; spelled = more.1 }

pub returns-in-Torn-clause-ok : goal.returns-in-Torn-clause-ok
returns-in-Torn-clause-ok c =
    let met = subst (λ (met : Met). TakesNext c.loop-rest.rest.now c.loop-rest.records c.take_next.new.records met) c.in-Torn.is c.in_ok-len.ensures in
    rw met.0 (torn_read c.args.bytes.now c.loop-rest.rest.now _ refl refl c.loop-rest.invariant.each c.loop-rest.invariant.spelled (some_bytes c.loop-rest.rest.now (sym c.loop-rest-test.true ∙ c.is_empty.ensures)) met.1)

pub returns-in-Bad-clause-bad : goal.returns-in-Bad-clause-bad
returns-in-Bad-clause-bad c =
    let met = subst (λ (met : Met). TakesNext c.loop-rest.rest.now c.loop-rest.records c.take_next.new.records met) c.in-Bad.is c.in_ok-len.ensures in
    wrong_here c.args.bytes.now c.loop-rest.rest.now c.loop-rest.records _ refl c.loop-rest.invariant.each c.loop-rest.invariant.spelled (some_bytes c.loop-rest.rest.now (sym c.loop-rest-test.true ∙ c.is_empty.ensures)) met.1 met.2

pub returns-clause-ok : goal.returns-clause-ok
returns-clause-ok c =
    whole_read c.args.bytes.now c.loop-rest.rest.now _ refl refl c.loop-rest.invariant.each c.loop-rest.invariant.spelled (no_bytes c.loop-rest.rest.now (sym c.loop-rest-test.false ∙ c.is_empty.ensures))
