-- What always holds of an entry.
use Rattle.std.specs.Prelude.{◌≡◌, ℕ, Bool, false, [], Option, None, Some}
use Rattle.wire_net.specs.declared.entry.Operation.{Operation}
use Rattle.wire_net.specs.declared.entry.Entry.{Entry}
use Rattle.resource_dir.specs.Asks.{is_clear}

-- An operation that is under way has its grant, or waits for somebody.
abbrev pub IsHeldUp : Option Operation → Type 0
IsHeldUp None = Unit {0}
IsHeldUp (Some op) = is_clear op ≡ false

-- Messages wait only for the end of an operation.
abbrev pub WaitsFor : Option Operation → Entry → Type 0
WaitsFor None entry = entry.queue ≡ []
WaitsFor (Some op) entry = Unit {0}
