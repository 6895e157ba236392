use Rattle.std.proofs.Common.{◌≡◌, reverse, take}
use Rattle.std.specs.Option.{option_map}
use Rattle.base_types.specs.declared.names.InstNo.{InstNo}
use Rattle.journal.specs.Past.{home_of}
use Rattle.journal_check.proofs.past.home_of.Given as goal

abbrev pub invariant-loop-entry : goal.invariant-loop-entry
invariant-loop-entry l = option_map (λ (i : InstNo). i) l.home ≡ home_of l.session (reverse (take l.entry-index l.past))
