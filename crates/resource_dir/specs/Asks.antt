-- What a master does with an Ask.
use Rattle.std.specs.Prelude.{ℕ, if◌then◌else◌, Bool, true, false, not, List, [], ◌∷◌, flat_map, Option, None, Some, is_none, ◌&&◌, unwrap_or}
use Rattle.wire_net.specs.declared.message.Mode.{Mode}
use Rattle.wire_net.specs.declared.message.Mode.TheVariants.{Null, Shared, Exclusive}
use Rattle.wire_net.specs.declared.message.Message.{Message}
use Rattle.wire_net.specs.declared.message.Message.TheVariants.{CopyTo, ShareTo, ShipTo, Grant, Invalidate}
use Rattle.wire_net.specs.declared.message.Waiting.{Waiting}
use Rattle.wire_net.specs.declared.message.Waiting.TheVariants as waiting
use Rattle.wire_net.specs.declared.entry.Holder.{Holder}
use Rattle.wire_net.specs.declared.entry.Grants.{Grants}
use Rattle.wire_net.specs.declared.entry.Operation.{Operation}
use Rattle.wire_net.specs.declared.entry.Entry.{Entry}
use Rattle.inst_set.specs.Sets.{all_insts, no_insts, is_empty}
use Rattle.wire_net.specs.Entry.{grant_of, with_grant}
use Rattle.resource_dir.specs.Holders.{other_than, first_sharer, has_other_sharer, is_other_sharer, is_sharer, other_sharers, grant_after}
use Rattle.resource_dir.specs.Taken.{Taken, silent, telling, where_busy, queued}

-- an asker that holds nothing is taken out of the holders, since what it held is given up
abbrev pub stepped_out : ℕ → Mode → Entry → Entry
stepped_out asker Null entry = record entry { x = other_than asker entry.x; shared = with_grant entry.shared asker None }
stepped_out asker Shared entry = entry
stepped_out asker Exclusive entry = entry

-- an operation begins, for which a new grant is drawn
abbrev pub granting : ℕ → Mode → Mode → Entry → Entry
granting asker mode held entry = record entry {
  op = Some (record { asker = asker; mode = mode; held = held; grant = Some entry.next_grant; waits = no_insts });
  next_grant = grant_after entry.next_grant;
}

-- the asker gets a new grant, for the disk's image or for the one that it has
abbrev pub granted : ℕ → ℕ → Mode → Mode → Bool → Entry → Taken
granted block asker mode held from_disk entry =
    telling (granting asker mode held entry) asker (Grant block entry.next_grant mode from_disk)

-- the exclusive holder is to ship its image
abbrev pub shipped_from : Holder → ℕ → ℕ → Mode → Entry → Taken
shipped_from holder block asker held entry =
    telling (granting asker Exclusive held entry) holder.inst (ShipTo block holder.grant entry.next_grant asker)

-- an instance that shares the block is to share it with the asker; without one the disk has it
abbrev pub shared_from : Option ℕ → ℕ → ℕ → Mode → Entry → Taken
shared_from None block asker held entry = granted block asker Shared held true entry
shared_from (Some sharer) block asker held entry =
    telling (granting asker Shared held entry) sharer
    (ShareTo block (unwrap_or (grant_of entry.shared sharer) 0) entry.next_grant asker)

-- a reader gets a copy from another exclusive holder, else it shares the block
abbrev pub read_beside : Option Holder → ℕ → ℕ → Mode → Entry → Taken
read_beside (Some holder) block asker held entry = telling entry holder.inst (CopyTo block holder.grant asker)
read_beside None block asker held entry = shared_from (first_sharer entry.shared) block asker held entry

-- an Invalidate to an instance, if it shares the block and isn't the asker
abbrev pub invalidates_to : ℕ → ℕ → Grants → ℕ → List (ℕ × Message)
invalidates_to block asker shared inst =
    if is_other_sharer shared asker inst then (inst, Invalidate block (unwrap_or (grant_of shared inst) 0)) ∷ [] else []

-- an Invalidate to each instance but the asker that shares the block
abbrev pub invalidates : ℕ → ℕ → Grants → List (ℕ × Message)
invalidates block asker shared = flat_map (invalidates_to block asker shared) all_insts

-- an operation begins, which waits for all that share the block but the asker
abbrev pub clearing : ℕ → Mode → Entry → Entry
clearing asker held entry = record entry {
  op = Some (record { asker = asker; mode = Exclusive; held = held; grant = None; waits = other_sharers entry.shared asker });
}

-- the asker gets the block alone: at once where nobody else shares it
abbrev pub cleared : Bool → ℕ → ℕ → Mode → Entry → Taken
cleared true block asker held entry = record { entry = clearing asker held entry; sends = invalidates block asker entry.shared }
cleared false block asker held entry = granted block asker Exclusive held (not (is_sharer entry.shared asker)) entry

-- a writer gets the image from another exclusive holder, else the others that share the block have to give it up
abbrev pub written_beside : Option Holder → ℕ → ℕ → Mode → Entry → Taken
written_beside (Some holder) block asker held entry = shipped_from holder block asker held entry
written_beside None block asker held entry = cleared (has_other_sharer entry.shared asker) block asker held entry

-- the asker gets the block in the mode that it asks for
abbrev pub serve : Mode → ℕ → ℕ → Mode → Entry → Taken
serve Null block asker held entry = silent entry
serve Shared block asker held entry = read_beside (other_than asker entry.x) block asker held entry
serve Exclusive block asker held entry = written_beside (other_than asker entry.x) block asker held entry

-- an Ask is answered, no operation being under way
abbrev pub answer : ℕ → Mode → Mode → ℕ → Entry → Taken
answer block mode held asker entry = serve mode block asker held (stepped_out asker held entry)

-- an Ask comes: it waits for the end of the operation that is under way
abbrev pub ask : ℕ → Mode → Mode → ℕ → Entry → Taken
ask block mode held asker entry =
    where_busy entry.op (queued entry (waiting.Ask block mode held asker)) (answer block mode held asker entry)

-- whether an operation waits for nobody and has no grant yet
abbrev pub is_clear : Operation → Bool
is_clear op = is_none op.grant && is_empty op.waits

-- an operation that waits for nobody any more gives its asker the block alone
abbrev pub go_on_if : Bool → Operation → ℕ → Entry → Taken
go_on_if true op block entry = granted block op.asker Exclusive op.held (not (is_sharer entry.shared op.asker)) entry
go_on_if false op block entry = silent entry

-- where an operation is under way, it goes on once it waits for nobody
abbrev pub go_on_as : Option Operation → ℕ → Entry → Taken
go_on_as None block entry = silent entry
go_on_as (Some op) block entry = go_on_if (is_clear op) op block entry

-- the operation of an entry goes on once it waits for nobody
abbrev pub go_on : ℕ → Entry → Taken
go_on block entry = go_on_as entry.op block entry
