-- What an instance sends, with its own clock.
use Rattle.std.specs.Prelude.{ℕ}
use Rattle.wire_net.specs.declared.message.Message.{Message}
use Rattle.inst_state.specs.declared.inst.Inst.{Inst}
use Rattle.inst_state.specs.declared.shared.Core.{Core}
use Rattle.inst_state.specs.Sending.{sending, sending_to_master}

-- the shared part after an instance sent a message
abbrev pub sends : Inst → Core → ℕ → Message → Core
sends n core to message = sending core n.plan.me n.clock.scn to message

-- the shared part after an instance sent a message to the master of a block
abbrev pub sends_to_master : Inst → Core → ℕ → Message → Core
sends_to_master n core block message = sending_to_master core n.plan.me n.clock.scn block message
