-- A copy is served.
use Rattle.std.specs.Prelude.{ℕ, ◌&&◌, Bool, Option, None, Some, is_some}
use Rattle.block_image.specs.Block.{BlockContent}
use Rattle.wire_net.specs.declared.message.Lane.TheVariants.{Main}
use Rattle.wire_net.specs.declared.message.Message.{Message}
use Rattle.wire_net.specs.declared.message.Message.TheVariants.{Back, Copy, CopyTo}
use Rattle.wire_net.specs.declared.message.Unfound.TheVariants as unfound
use Rattle.inst_state.specs.declared.inst.Inst.{Inst}
use Rattle.inst_state.specs.declared.shared.Core.{Core}
use Rattle.inst_state.specs.Hand.{current_image}
use Rattle.inst_state.specs.State.{is_forced}
use Rattle.image_steps.specs.declared.copying.CopyOrder.{CopyOrder}
use Rattle.image_steps.specs.Hear.{first_message, heard, hears}
use Rattle.image_steps.specs.Sends.{sends, sends_to_master}

-- what a CopyTo orders
abbrev pub copy_order_of : Option Message → Option CopyOrder
copy_order_of (Some (CopyTo block grant reader)) = Some (record { block = block; grant = grant; reader = reader })
copy_order_of _ = None

-- the copy that is ordered by the message that is first on a link
abbrev pub first_copy_order : Inst → Core → ℕ → Option CopyOrder
first_copy_order n core from = copy_order_of (first_message n core from Main)

-- A copy is served, or sent back for where there is no image, once no redo waits.
abbrev pub may_serve_copy : Inst → Core → ℕ → Bool
may_serve_copy n core from = is_some (first_copy_order n core from) && is_forced n

-- the shared part after a copy was served of an image, if there is one: it shows all up to the clock's SCN
abbrev pub copy_sent_of : Inst → Core → CopyOrder → Option BlockContent → Core
copy_sent_of n core order None =
    sends_to_master n core order.block (Back (unfound.CopyTo order.block order.grant order.reader))
copy_sent_of n core order (Some image) = sends n core order.reader (Copy image n.clock.scn)

-- the shared part after a copy was served, if one is ordered
abbrev pub copy_sent_by : Inst → Core → Option CopyOrder → Core
copy_sent_by n core None = core
copy_sent_by n core (Some order) = copy_sent_of n core order (current_image n order.block)

-- the shared part after a copy was served
abbrev pub copy_sent : Inst → Core → ℕ → Core
copy_sent n core from = copy_sent_by (hears n core from Main) (heard n core from Main) (first_copy_order n core from)
