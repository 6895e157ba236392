-- What a master does with a message on a block.
use Rattle.std.specs.Prelude.{ℕ, List, [], ◌∷◌, Option, None, Some}
use Rattle.wire_net.specs.declared.message.Message.{Message}
use Rattle.wire_net.specs.declared.message.Message.TheVariants.{Ask, Gone, Done, GaveUp, Back, Wrote, WritePlease}
use Rattle.wire_net.specs.declared.message.Unfound.{Unfound}
use Rattle.wire_net.specs.declared.message.Unfound.TheVariants as unfound
use Rattle.wire_net.specs.declared.message.Waiting.{Waiting}
use Rattle.wire_net.specs.declared.message.Waiting.TheVariants as waiting
use Rattle.wire_net.specs.declared.entry.Entry.{Entry}
use Rattle.resource_dir.specs.Taken.{Taken, silent, and_then, where_busy}
use Rattle.resource_dir.specs.Asks.{ask, answer}
use Rattle.resource_dir.specs.Pasts.{answer_plea, wrote, write_please}
use Rattle.resource_dir.specs.Ends.{done, gave_up, gone, hear_back}

-- a message is taken up that waited for the end of an operation
abbrev pub take_up : Waiting → Entry → Taken
take_up (waiting.Ask block mode held asker) entry = answer block mode held asker entry
take_up (waiting.WritePlease block version holder) entry = answer_plea block version holder entry

-- the messages that wait, these ones, are taken up in their order as long as no operation is under way
abbrev pub drain_all : List Waiting → Entry → Taken
drain_all [] entry = silent (record entry { queue = [] })
drain_all (first ∷ rest) entry = where_busy entry.op
    (silent (record entry { queue = first ∷ rest }))
    (and_then (take_up first (record entry { queue = rest })) (drain_all rest))

-- the messages that wait are taken up as long as no operation is under way
abbrev pub drain : Entry → Taken
drain entry = drain_all entry.queue entry

-- what comes from a past image's holder bears no grant; what bears one is no message to a master
abbrev pub hear_plea : Option ℕ → ℕ → ℕ → ℕ → Entry → Taken
hear_plea None block version holder entry = write_please block version holder entry
hear_plea (Some grant) block version holder entry = silent entry

-- what the master does with a message itself; one that isn't for a master is dropped
abbrev pub react : Message → Entry → Taken
react (Ask block mode held asker) entry = ask block mode held asker entry
react (Gone block grant) entry = gone block grant entry
react (Done block grant mode kept) entry = done block grant kept entry
react (GaveUp block grant) entry = gave_up block grant entry
react (Back unfound) entry = hear_back unfound entry
react (Wrote block version) entry = wrote block version entry
react (WritePlease block version holder grant) entry = hear_plea grant block version holder entry
react _ entry = silent entry

-- the entry after a message, with the messages that waited and could be taken up, and what is sent
abbrev pub takes : Entry → Message → Taken
takes entry message = and_then (react message entry) drain
