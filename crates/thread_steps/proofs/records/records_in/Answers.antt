use Rattle.std.proofs.Common.{◌∙◌, refl, subst, sym}
use Rattle.log_history.proofs.LogLemmas.{next_record, no_bytes, some_bytes}
use Rattle.thread_steps.specs.declared.records.Met.{Met}
use Rattle.thread_steps.specs.Records.{TakesNext}
use Rattle.thread_steps.proofs.WholeRecords.{bad_end, torn_end, whole_end}
use Rattle.thread_steps.proofs.records.records_in.Goals as goal

pub behind-rest-requires : goal.behind-rest-requires
behind-rest-requires c =
    let met = subst (λ (met : Met). TakesNext c.loop-rest.rest.now c.loop-rest.records c.take_next.new.records met) c.in-Whole.is c.in_ok-len.ensures in
    met.0

pub loop-rest-preserved : goal.loop-rest-preserved
loop-rest-preserved c =
    let met = subst (λ (met : Met). TakesNext c.loop-rest.rest.now c.loop-rest.records c.take_next.new.records met) c.in-Whole.is c.in_ok-len.ensures in
    let more = next_record c.args.bytes.now c.loop-rest.rest.now c.behind-rest.result.now c.loop-rest.records c.take_next.new.records met.1.0 c.in-Whole.len met.1.1 c.behind-rest.ensures c.loop-rest.invariant.each c.loop-rest.invariant.spelled met.1.2 met.1.3 in
    record { each = more.0; spelled = more.1 }

pub returns-in-Torn : goal.returns-in-Torn
returns-in-Torn c =
    let met = subst (λ (met : Met). TakesNext c.loop-rest.rest.now c.loop-rest.records c.take_next.new.records met) c.in-Torn.is c.in_ok-len.ensures in
    rw met.0 (torn_end c.args.bytes.now c.loop-rest.rest.now _ refl refl c.loop-rest.invariant.each c.loop-rest.invariant.spelled met.1)

pub returns-in-Bad : goal.returns-in-Bad
returns-in-Bad c =
    let met = subst (λ (met : Met). TakesNext c.loop-rest.rest.now c.loop-rest.records c.take_next.new.records met) c.in-Bad.is c.in_ok-len.ensures in
    rw met.0 (bad_end c.args.bytes.now c.loop-rest.rest.now _ refl refl c.loop-rest.invariant.each c.loop-rest.invariant.spelled (some_bytes c.loop-rest.rest.now (sym c.loop-rest-test.true ∙ c.is_empty.ensures)) met.1 met.2)

pub returns : goal.returns
returns c =
    whole_end c.args.bytes.now c.loop-rest.rest.now _ refl refl c.loop-rest.invariant.each c.loop-rest.invariant.spelled (no_bytes c.loop-rest.rest.now (sym c.loop-rest-test.false ∙ c.is_empty.ensures))
