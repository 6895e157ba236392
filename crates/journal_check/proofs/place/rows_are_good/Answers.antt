-- The changes that are seen say what the session sees.
use Rattle.std.proofs.Common.{◌∙◌, ap, subst, List, map, IsTrue, ◌↔◌}
use Rattle.journal.specs.declared.deeds.Change.{Change}
use Rattle.journal.specs.History.{value_by}
use Rattle.journal_check.specs.Checked.{AreListed}
use Rattle.journal_check.proofs.place.rows_are_good.Goals as goal

pub returns-in_ok-seen-in-Some : goal.returns-in_ok-seen-in-Some
returns-in_ok-seen-in-Some c =
    let listed = subst (λ (changes : List Change). IsTrue c.are_listed.result ↔ AreListed (value_by changes) 0 c.args.rows.now)
    (c.as_slice.ensures.value ∙ c.in_ok-seen-in-Some.ensures) c.are_listed.ensures in
    rw (← c.in-Some.ensures)
    (λ yes. (c.are_below.ensures.0 c.if-are_below.true, listed.0 yes), λ parts. listed.1 parts.1)
