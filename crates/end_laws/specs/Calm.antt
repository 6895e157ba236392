-- Runs in which no instance is lost.
use Rattle.std.specs.Prelude.{Bool, true, false, not}
use Rattle.journal.specs.declared.entry.Entry.{Entry}
use Rattle.journal.specs.declared.entry.Entry.TheVariants.{Crashed, Ended}
use Rattle.journal.specs.Past.{Past}
use Rattle.journal.specs.Stood.{stood}

-- An entry tells of the loss of an instance: it crashed, or ended by a fault.
abbrev pub is_loss : Entry → Bool
is_loss (Crashed line inst) = true
is_loss (Ended inst bad) = true
is_loss _ = false

-- No instance was lost.
abbrev pub is_calm : Past → Bool
is_calm past = not (stood is_loss past)
