-- Which transaction is the one that asks.
use Rattle.std.specs.Prelude.{Bool, false, Option, None, Some}
use Rattle.base_types.specs.declared.names.Xid.{Xid}
use Rattle.journal.specs.Past.{same_xid}

-- Whether a transaction is the one that asks, which may have begun none.
abbrev pub is_own : Option Xid → Xid → Bool
is_own None x = false
is_own (Some me) x = same_xid me x
