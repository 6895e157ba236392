-- What a call of the program asks, by its words.
use Rattle.std.specs.Prelude.{Option, Some, None}
use Rattle.cli_words.specs.declared.order.Order.{Order}
use Rattle.cli_words.specs.declared.order.RunOptions.{RunOptions}
use Rattle.cli_words.specs.declared.order.Order.TheVariants.{Run, Load, Audit}

-- A fact of each order that the words may give: of a run, by what it does beside its report, of an audit, and of words
-- that give neither.
abbrev pub ByOrder : Option Order → (RunOptions → Type 0) → Type 0 → Type 0 → Type 0
ByOrder None OfRun OfAudit OfNone = OfNone
ByOrder (Some (Run options folder)) OfRun OfAudit OfNone = OfRun options
ByOrder (Some (Load seed rounds folder)) OfRun OfAudit OfNone = OfNone
ByOrder (Some (Audit folder)) OfRun OfAudit OfNone = OfAudit
