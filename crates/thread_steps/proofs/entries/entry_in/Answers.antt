use Rattle.std.proofs.Common.{◌∙◌, inr, sym}
use Rattle.thread_steps.proofs.entries.entry_in.Goals as goal

pub returns-else-has_small_numbers-clause-entry : goal.returns-else-has_small_numbers-clause-entry
returns-else-has_small_numbers-clause-entry c =
    inr (c.in-Some.entry, c.in-Some.ensures, sym c.has_small_numbers.ensures ∙ c.if-has_small_numbers.false)
