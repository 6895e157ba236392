-- The messages of the program, as those of the protocol of one block.
use Rattle.std.specs.Prelude.{ℕ, Bool, true, false, List, [], ◌∷◌, flat_map, option_map, option_to_list, Option, None, Some}
use Rattle.wire_net.specs.declared.message.Mode.{Mode}
use Rattle.wire_net.specs.declared.message.Mode.TheVariants as modes
use Rattle.wire_net.specs.declared.message.Unfound.{Unfound}
use Rattle.wire_net.specs.declared.message.Unfound.TheVariants as unfound
use Rattle.wire_net.specs.declared.message.Waiting.{Waiting}
use Rattle.wire_net.specs.declared.message.Waiting.TheVariants as waiting
use Rattle.wire_net.specs.declared.message.Message.{Message}
use Rattle.wire_net.specs.declared.message.Message.TheVariants as messages
use Rattle.block_protocol.specs.Block.{Inst, Scn, GrantNo, Shared, Exclusive, Hold, Want, Read, Write, Upgrade}
use Rattle.block_protocol.specs.Wire.{Wire, Ask, CopyToWire, BackCopyWire, CopyWire, ShipToWire, BackShipWire, ShippedWire, GrantWire, DoneWire, InvalidateWire, GoneWire, GaveUpWire, WritePleaseWire, BackWriteWire, PleaseWire, WroteWire, DropPastWire}

-- the number of instances: each has a number below it
abbrev pub instances : ℕ
instances = 8

-- what is asked for, by the mode that is wanted and the one that is held; no other two are asked for
abbrev pub want_of : Mode → Mode → Option Want
want_of modes.Shared modes.Null = Some Read
want_of modes.Exclusive modes.Null = Some Write
want_of modes.Exclusive modes.Shared = Some Upgrade
want_of _ _ = None

-- a grant in a mode, where something is granted
abbrev pub hold_of : Mode → GrantNo → Option Hold
hold_of modes.Null grant = None
hold_of modes.Shared grant = Some (record { mode = Shared; grant = grant })
hold_of modes.Exclusive grant = Some (record { mode = Exclusive; grant = grant })

-- the grant that is shipped with an image
abbrev pub shipped_hold : Bool → GrantNo → Hold
shipped_hold true grant = record { mode = Shared; grant = grant }
shipped_hold false grant = record { mode = Exclusive; grant = grant }

-- a message that found no current image at its receiver, on its way back
abbrev pub back_of : Scn → Unfound → Wire
back_of scn (unfound.CopyTo block grant reader) = BackCopyWire grant reader scn
back_of scn (unfound.ShareTo block grant new_grant asker) = BackShipWire grant asker (record { mode = Shared; grant = new_grant }) scn
back_of scn (unfound.ShipTo block grant new_grant asker) = BackShipWire grant asker (record { mode = Exclusive; grant = new_grant }) scn
back_of scn (unfound.WritePlease block grant version holder) = BackWriteWire grant scn

-- a wish that a block be written: to its master, or to its exclusive holder
abbrev pub plea_of : Inst → Option GrantNo → ℕ → Wire
plea_of to None version = PleaseWire version
plea_of to (Some grant) version = WritePleaseWire to grant

-- a message to an instance, in a packet of a clock; what isn't about one data block is no message of the protocol
abbrev pub wire_of : Inst → Scn → Message → Option Wire
wire_of to scn (messages.Ask block mode held asker) = option_map (λ want. Ask asker want scn) (want_of mode held)
wire_of to scn (messages.CopyTo block grant reader) = Some (CopyToWire to grant reader)
wire_of to scn (messages.ShareTo block grant new_grant asker) = Some (ShipToWire to grant asker (record { mode = Shared; grant = new_grant }))
wire_of to scn (messages.ShipTo block grant new_grant asker) = Some (ShipToWire to grant asker (record { mode = Exclusive; grant = new_grant }))
wire_of to scn (messages.Invalidate block grant) = Some (InvalidateWire to grant)
wire_of to scn (messages.Grant block grant mode from_disk) = option_map (λ hold. GrantWire to hold from_disk scn) (hold_of mode grant)
wire_of to scn (messages.Shipped shipment) = Some (ShippedWire to (shipped_hold shipment.shared shipment.grant) shipment.image.front.version shipment.dirty scn)
wire_of to scn (messages.Copy image upto) = Some (CopyWire to image.front.version upto scn)
wire_of to scn (messages.Gone block grant) = Some (GoneWire grant scn)
wire_of to scn (messages.Done block grant mode past) = Some (DoneWire grant)
wire_of to scn (messages.GaveUp block grant) = Some (GaveUpWire grant scn)
wire_of to scn (messages.Back unfound) = Some (back_of scn unfound)
wire_of to scn (messages.Wrote block version) = Some (WroteWire version)
wire_of to scn (messages.WritePlease block version holder grant) = Some (plea_of to grant version)
wire_of to scn (messages.DropPast block version) = Some (DropPastWire to version)
wire_of to scn _ = None

-- what is sent to whom, in packets of a clock, as messages of the protocol
abbrev pub wires_of : Scn → List (ℕ × Message) → List Wire
wires_of scn sends = flat_map (λ sent. option_to_list (wire_of sent.0 scn sent.1)) sends

-- a message that waits at the master for the end of an operation, as a request that waits
abbrev pub ask_of : Waiting → List (Inst × Want)
ask_of (waiting.Ask block mode held asker) = option_to_list (option_map (λ want. (asker, want)) (want_of mode held))
ask_of (waiting.WritePlease block version holder) = []

-- or as a plea, which the protocol has under way still
abbrev pub waiting_plea : Waiting → List Wire
waiting_plea (waiting.Ask block mode held asker) = []
waiting_plea (waiting.WritePlease block version holder) = PleaseWire version ∷ []

-- the requests that wait in a queue
abbrev pub asks_of : List Waiting → List (Inst × Want)
asks_of queue = flat_map ask_of queue

-- the pleas that wait in a queue
abbrev pub pleas_of : List Waiting → List Wire
pleas_of queue = flat_map waiting_plea queue

-- the block that an unfound message is about
abbrev pub block_of_unfound : Unfound → ℕ
block_of_unfound (unfound.CopyTo block grant reader) = block
block_of_unfound (unfound.ShareTo block grant new_grant asker) = block
block_of_unfound (unfound.ShipTo block grant new_grant asker) = block
block_of_unfound (unfound.WritePlease block grant version holder) = block

-- the data block that a message is about, if it is about one
abbrev pub block_of : Message → Option ℕ
block_of (messages.Ask block mode held asker) = Some block
block_of (messages.CopyTo block grant reader) = Some block
block_of (messages.ShareTo block grant new_grant asker) = Some block
block_of (messages.ShipTo block grant new_grant asker) = Some block
block_of (messages.Invalidate block grant) = Some block
block_of (messages.Grant block grant mode from_disk) = Some block
block_of (messages.Shipped shipment) = Some shipment.block
block_of (messages.Copy image upto) = Some image.front.number
block_of (messages.Gone block grant) = Some block
block_of (messages.Done block grant mode past) = Some block
block_of (messages.GaveUp block grant) = Some block
block_of (messages.Back unfound) = Some (block_of_unfound unfound)
block_of (messages.Wrote block version) = Some block
block_of (messages.WritePlease block version holder grant) = Some block
block_of (messages.DropPast block version) = Some block
block_of _ = None

-- the block that a waiting message is about
abbrev pub block_of_waiting : Waiting → ℕ
block_of_waiting (waiting.Ask block mode held asker) = block
block_of_waiting (waiting.WritePlease block version holder) = block
