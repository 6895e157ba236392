-- What a master does with messages: the entry that it comes to, and what it sends.
use Rattle.std.specs.Prelude.{ℕ, List, [], ◌∷◌, ◌++◌, Option, None, Some}
use Rattle.wire_net.specs.declared.message.Message.{Message}
use Rattle.wire_net.specs.declared.message.Waiting.{Waiting}
use Rattle.wire_net.specs.declared.entry.Operation.{Operation}
use Rattle.wire_net.specs.declared.entry.Entry.{Entry}

-- an entry after messages were taken, and what was sent to whom
pub record Taken : Type 0 where
  pub entry : Entry
  pub sends : List (ℕ × Message)

-- nothing is sent
abbrev pub silent : Entry → Taken
silent entry = record { entry = entry; sends = [] }

-- a message is sent to an instance
abbrev pub telling : Entry → ℕ → Message → Taken
telling entry to message = record { entry = entry; sends = (to, message) ∷ [] }

-- one thing is done after another
abbrev pub and_then : Taken → (Entry → Taken) → Taken
and_then first next = record { entry = (next first.entry).entry; sends = first.sends ++ (next first.entry).sends }

-- the first where an operation is under way, else the second
abbrev pub where_busy : Option Operation → Taken → Taken → Taken
where_busy None waits goes = goes
where_busy (Some op) waits goes = waits

-- a message waits behind the others
abbrev pub queued : Entry → Waiting → Taken
queued entry waiting = silent (record entry { queue = entry.queue ++ waiting ∷ [] })
