-- What is first on a link is read and taken.
use Rattle.std.specs.Prelude.{ℕ, Option, None, Some}
use Rattle.std.specs.Option.{option_map}
use Rattle.scn_clock.specs.declared.clock.Clock.{Clock}
use Rattle.scn_clock.specs.Clock.{raised}
use Rattle.wire_net.specs.declared.message.Lane.{Lane}
use Rattle.wire_net.specs.declared.message.Message.{Message}
use Rattle.wire_net.specs.declared.message.Packet.{Packet}
use Rattle.inst_state.specs.declared.inst.Inst.{Inst}
use Rattle.inst_state.specs.declared.shared.Core.{Core}
use Rattle.inst_state.specs.Sending.{first_from, without_first}

-- the message that is first on a link to an instance
abbrev pub first_message : Inst → Core → ℕ → Lane → Option Message
first_message n core from lane = option_map (λ packet. packet.message) (first_from core from n.plan.me lane)

-- a clock after a packet was heard, if there is one
abbrev pub clock_heard : Clock → Option Packet → Clock
clock_heard clock None = clock
clock_heard clock (Some packet) = raised clock packet.scn

-- an instance that has taken what is first on a link
abbrev pub hears : Inst → Core → ℕ → Lane → Inst
hears n core from lane = record n { clock = clock_heard n.clock (first_from core from n.plan.me lane) }

-- the shared part after an instance took what is first on a link
abbrev pub heard : Inst → Core → ℕ → Lane → Core
heard n core from lane = without_first core from n.plan.me lane
