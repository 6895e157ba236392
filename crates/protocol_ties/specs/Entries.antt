-- The program's entry of a block, beside a state of the protocol.
use Rattle.std.specs.Prelude.{◌≡◌, ◌≤◌, ◌<◌, ◌==◌, ◌++◌, ◌&&◌, not, if◌then◌else◌, List, length, is_some, Option, None, Some}
use Rattle.std.specs.List.{AllByRecursion}
use Rattle.wire_net.specs.declared.message.Waiting.{Waiting}
use Rattle.wire_net.specs.declared.message.Waiting.TheVariants as waiting
use Rattle.wire_net.specs.declared.entry.Holder.{Holder}
use Rattle.wire_net.specs.declared.entry.Grants.{Grants}
use Rattle.wire_net.specs.declared.entry.Operation.{Operation}
use Rattle.wire_net.specs.declared.entry.Entry.{Entry}
use Rattle.inst_set.specs.Sets.{has}
use Rattle.wire_net.specs.Entry.{grant_of}
use Rattle.block_protocol.specs.Block.{Inst, Version, GrantNo, Shared, Exclusive, Hold, Want, Idle, Clears, Grants as GrantsTo, Operation as ProtocolOperation, Block}
use Rattle.block_protocol.specs.Sound.{Listing}
use Rattle.block_protocol.specs.Wire.{Wire, of_waiting, gather, flights, Same}
use Rattle.protocol_ties.specs.Messages.{instances, want_of, hold_of, asks_of, pleas_of}

-- how an instance is listed that shares a block under a grant, if it does
abbrev pub shared_hold : Option GrantNo → Option Hold
shared_hold None = None
shared_hold (Some grant) = Some (record { mode = Shared; grant = grant })

-- how an instance is listed beside an exclusive holder
abbrev pub listed_beside : Option Holder → Option GrantNo → Inst → Option Hold
listed_beside None grant inst = shared_hold grant
listed_beside (Some holder) grant inst = if holder.inst == inst then Some (record { mode = Exclusive; grant = holder.grant }) else shared_hold grant

-- whom an entry lists
abbrev pub listing_of : Option Holder → Grants → Listing
listing_of x shared inst = listed_beside x (grant_of shared inst) inst

-- an operation of the program waits for those that are listed but for its asker
abbrev pub IsAwaited : Operation → Listing → Type 0
IsAwaited op lists = (inst : Inst) → has op.waits inst ≡ is_some (lists inst) && not (inst == op.asker)

-- it waits until nobody else is listed
pub record IsClearing (op : Operation) (asker : Inst) (want : Want) (lists : Listing) : Type 0 where
  pub serves : op.asker ≡ asker
  pub instance : asker < instances
  pub wants : want_of op.mode op.held ≡ Some want
  pub undrawn : op.grant ≡ None
  pub waits : IsAwaited op lists

-- it has drawn its grant
pub record IsGranting (op : Operation) (asker : Inst) (hold : Hold) : Type 0 where
  pub serves : op.asker ≡ asker
  pub instance : asker < instances
  pub grants : hold_of op.mode hold.grant ≡ Some hold
  pub drawn : op.grant ≡ Some hold.grant

-- The operation under way is the protocol's. Which message carries its grant the entry doesn't tell.
abbrev pub IsOperation : Option Operation → ProtocolOperation → Listing → Type 0
IsOperation None Idle lists = Unit {0}
IsOperation (Some op) (Clears asker want) lists = IsClearing op asker want lists
IsOperation (Some op) (GrantsTo asker hold carrier) lists = IsGranting op asker hold
IsOperation _ _ lists = ⊥

-- the holders, the next grant and the operation are the protocol's, and what is known to be written is known there too
pub record Tied (x : Option Holder) (shared : Grants) (next : GrantNo) (op : Option Operation) (written : Version) (block : Block) : Type 0 where
  pub lists : (inst : Inst) → block.lists inst ≡ listing_of x shared inst
  pub alone : (holder : Holder) → x ≡ Some holder → (inst : Inst) → grant_of shared inst ≡ None
  pub sized : length shared.by_inst ≡ instances
  pub draws : block.next ≡ next
  pub operation : IsOperation op block.op block.lists
  pub known : written ≤ block.written

-- an Ask waits for what may be asked for
abbrev pub IsProper : Waiting → Type 0
IsProper (waiting.Ask block mode held asker) = (want : Want) × (want_of mode held ≡ Some want)
IsProper (waiting.WritePlease block version holder) = Unit {0}

-- An entry and the messages on its block that are under way show a state of the protocol: the requests that wait are
-- those of the queue, and the messages under way are these and the pleas of the queue, in any order.
pub record Shows (wires : List Wire) (entry : Entry) (block : Block) : Type 0 where
  pub tied : Tied entry.x entry.shared entry.next_grant entry.op entry.written block
  pub messages : Same (wires ++ pleas_of entry.queue) (flights instances block)
  pub requests : Same (asks_of entry.queue) (gather of_waiting instances block.request)
  pub proper : AllByRecursion IsProper entry.queue
