-- What a master does with what ends an operation or a hold.
use Rattle.std.specs.Prelude.{ℕ, if◌then◌else◌, Bool, true, false, Option, None, Some}
use Rattle.wire_net.specs.declared.message.Mode.{Mode}
use Rattle.wire_net.specs.declared.message.Mode.TheVariants.{Null, Shared, Exclusive}
use Rattle.wire_net.specs.declared.message.Unfound.{Unfound}
use Rattle.wire_net.specs.declared.message.Unfound.TheVariants.{CopyTo, ShareTo, ShipTo, WritePlease}
use Rattle.wire_net.specs.declared.entry.PastHolder.{PastHolder}
use Rattle.wire_net.specs.declared.entry.Operation.{Operation}
use Rattle.wire_net.specs.declared.entry.Entry.{Entry}
use Rattle.wire_net.specs.Entry.{no_grants, with_grant}
use Rattle.resource_dir.specs.Holders.{is_granting, is_number, taken_out}
use Rattle.resource_dir.specs.Taken.{Taken, silent, and_then}
use Rattle.resource_dir.specs.Asks.{ask, answer, go_on}
use Rattle.resource_dir.specs.Pasts.{keep_any, keep_any_newer, write_please}

-- a grant is given up: its holder is taken out, and who waited for it goes on
abbrev pub gone : ℕ → ℕ → Entry → Taken
gone block grant entry = go_on block (taken_out grant entry)

-- the operation ends
abbrev pub ended : Entry → Entry
ended entry = record entry { op = None }

-- an instance holds the block in a mode, with a grant; alone where the mode is exclusive
abbrev pub entered : Mode → ℕ → ℕ → Entry → Entry
entered Null inst grant entry = entry
entered Shared inst grant entry = record entry { shared = with_grant entry.shared inst (Some grant) }
entered Exclusive inst grant entry = record entry { x = Some (record { inst = inst; grant = grant }); shared = no_grants }

-- a Done comes while an operation is under way: if it is the operation's, its asker is entered and it ends
abbrev pub done_if : Bool → Operation → ℕ → ℕ → Option PastHolder → Entry → Taken
done_if true op block grant kept entry = keep_any block kept (ended (entered op.mode op.asker grant entry))
done_if false op block grant kept entry = keep_any_newer block kept entry

-- a Done comes: of any that isn't the operation's the past image alone is dealt with
abbrev pub done_as : Option Operation → ℕ → ℕ → Option PastHolder → Entry → Taken
done_as None block grant kept entry = keep_any_newer block kept entry
done_as (Some op) block grant kept entry = done_if (is_number op.grant grant) op block grant kept entry

-- a Done comes
abbrev pub done : ℕ → ℕ → Option PastHolder → Entry → Taken
done block grant kept entry = done_as entry.op block grant kept entry

-- a GaveUp comes: the operation's new grant ends it with nobody entered, another grant's holder is taken out
abbrev pub gave_up : ℕ → ℕ → Entry → Taken
gave_up block grant entry = if is_granting entry.op grant then silent (ended entry) else gone block grant entry

-- the operation of a new grant ends, and its asker is served again, before the messages that wait
abbrev pub ask_anew : ℕ → Mode → ℕ → ℕ → Entry → Taken
ask_anew block mode new_grant asker entry =
    if is_granting entry.op new_grant then answer block mode Null asker (ended entry) else silent entry

-- a message that found no current image is taken again, after the holder that it names was taken out
abbrev pub hear_back : Unfound → Entry → Taken
hear_back (CopyTo block grant reader) entry = and_then (gave_up block grant entry) (ask block Shared Null reader)
hear_back (ShareTo block grant new_grant asker) entry = and_then (gave_up block grant entry) (ask_anew block Shared new_grant asker)
hear_back (ShipTo block grant new_grant asker) entry = and_then (gave_up block grant entry) (ask_anew block Exclusive new_grant asker)
hear_back (WritePlease block grant version holder) entry = and_then (gave_up block grant entry) (write_please block version holder)
