-- Each turn takes one message up, and leaves the same to be come to and sent.
use Rattle.std.proofs.Common.{◌≡◌, ◌∙◌, ◌++◌, ℕ, List, ap, sym}
use Rattle.std.proofs.lemmas.List.{append-nil}
use Rattle.wire_net.specs.declared.message.Message.{Message}
use Rattle.wire_net.specs.declared.entry.Entry.{Entry}
use Rattle.resource_dir.specs.Taken.{Taken}
use Rattle.resource_dir.proofs.DrainLemmas.{IsTurn, drain-stays, turn-entry, turn-sends, turn-shorter}
use Rattle.resource_dir.proofs.takes.drain.Goals as goal

pub loop-entry-smaller : goal.loop-entry-smaller
loop-entry-smaller c =
    turn-shorter c.loop-entry.entry c.take_up.new.entry c.in-Some.waiting c.take.new.self c.loop-entry.out c.take_up.new.out (record {
      free = c.loop-entry-test.ensures;
      first = sym c.in-Some.ensures.first;
      rest = c.in-Some.ensures.rest;
      taken = c.in_ok-take_up.ensures.entry;
      sends = c.in_ok-take_up.ensures.sends;
    })

pub loop-entry-preserved : goal.loop-entry-preserved
loop-entry-preserved c =
    let turn : IsTurn c.loop-entry.entry c.take_up.new.entry c.in-Some.waiting c.take.new.self c.loop-entry.out c.take_up.new.out = record {
      free = c.loop-entry-test.ensures;
      first = sym c.in-Some.ensures.first;
      rest = c.in-Some.ensures.rest;
      taken = c.in_ok-take_up.ensures.entry;
      sends = c.in_ok-take_up.ensures.sends;
    } in
    record {
      entry = turn-entry _ _ _ _ _ _ turn ∙ c.loop-entry.invariant.entry;
      sends = turn-sends _ _ _ _ _ _ turn ∙ c.loop-entry.invariant.sends;
    }

pub returns-clause-entry : goal.returns-clause-entry
returns-clause-entry c =
    sym (ap (λ (it : Taken). it.entry) (drain-stays c.loop-entry.entry c.loop-entry-test.ensures)) ∙ c.loop-entry.invariant.entry

pub returns-clause-sends : goal.returns-clause-sends
returns-clause-sends c =
    sym (append-nil c.loop-entry.out)
    ∙ (sym (ap (λ (it : Taken). c.loop-entry.out ++ it.sends) (drain-stays c.loop-entry.entry c.loop-entry-test.ensures))
    ∙ c.loop-entry.invariant.sends)
