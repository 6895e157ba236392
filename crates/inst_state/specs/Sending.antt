-- What is sent, and what is first on a link.
use Rattle.std.specs.Prelude.{ℕ, Option, None, Some}
use Rattle.std.specs.Option.{option_map}
use Rattle.base_types.specs.declared.names.Scn.{Scn}
use Rattle.wire_net.specs.declared.message.Lane.{Lane}
use Rattle.wire_net.specs.declared.message.Message.{Message}
use Rattle.wire_net.specs.declared.message.Packet.{Packet}
use Rattle.wire_net.specs.Links.{first_on, sent, taken}
use Rattle.wire_net.specs.Masters.{master_of}
use Rattle.inst_state.specs.declared.shared.Core.{Core}

-- the shared part after an instance with this clock's SCN sent a message
abbrev pub sending : Core → ℕ → Scn → ℕ → Message → Core
sending core from scn to message =
    record core { net = record core.net { links = sent core.net.links from to (record { scn = scn; message = message }) } }

-- the shared part after a message was sent to the master of a block
abbrev pub sending_to_master : Core → ℕ → Scn → ℕ → Message → Core
sending_to_master core from scn block message = sending core from scn (master_of core.net.masters block) message

-- the packet that is first on the link from an instance
abbrev pub first_from : Core → ℕ → ℕ → Lane → Option Packet
first_from core from me lane = first_on core.net.links from me lane

-- the shared part without the packet that was first on a link
abbrev pub without_first : Core → ℕ → ℕ → Lane → Core
without_first core from me lane = record core { net = record core.net { links = taken core.net.links from me lane } }
