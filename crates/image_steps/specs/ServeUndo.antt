-- A header or an undo block is served.
use Rattle.std.specs.Prelude.{ℕ, ◌-◌, ◌/◌, ◌==◌, ◌&&◌, nat_le, if◌then◌else◌, Bool, Option, None, Some, is_some}
use Rattle.std.specs.Option.{option_map}
use Rattle.wire_net.specs.declared.message.Lane.TheVariants.{Undo}
use Rattle.wire_net.specs.declared.message.Message.{Message}
use Rattle.wire_net.specs.declared.message.Message.TheVariants.{NeedUndo, UndoIs}
use Rattle.wire_net.specs.declared.message.UndoImage.{UndoImage}
use Rattle.wire_net.specs.declared.message.UndoImage.TheVariants.{Block, Head}
use Rattle.undo_segment.specs.Segment.{SegmentState, ring_block}
use Rattle.inst_state.specs.declared.inst.Inst.{Inst}
use Rattle.inst_state.specs.declared.shared.Core.{Core}
use Rattle.inst_state.specs.State.{is_forced}
use Rattle.image_steps.specs.declared.undo_serving.UndoOrder.{UndoOrder}
use Rattle.image_steps.specs.Hear.{first_message, heard, hears}
use Rattle.image_steps.specs.Sends.{sends}

-- what a NeedUndo orders
abbrev pub undo_order_of : Option Message → Option UndoOrder
undo_order_of (Some (NeedUndo block job)) = Some (record { block = block; job = job })
undo_order_of _ = None

-- the undo that is ordered by the message that is first on a link
abbrev pub first_undo_order : Inst → Core → ℕ → Option UndoOrder
first_undo_order n core from = undo_order_of (first_message n core from Undo)

-- Undo is served once no redo waits.
abbrev pub may_serve_undo : Inst → Core → ℕ → Bool
may_serve_undo n core from = is_some (first_undo_order n core from) && is_forced n

-- the place of a block in a segment, 0 for the header, if it is one of its blocks
abbrev pub place_in : SegmentState → ℕ → Option ℕ
place_in segment block =
    let head = segment.head.front.number in
    if nat_le head block && nat_le (block - head) (segment.layout.undo / 4) then Some (block - head) else None

-- the header of a segment, for place 0, or the undo block at a place
abbrev pub undo_at : SegmentState → ℕ → UndoImage
undo_at segment place = if place == 0 then Head segment.head else Block (ring_block segment (place - 1))

-- the header or the undo block of a segment with a number
abbrev pub undo_image : SegmentState → ℕ → Option UndoImage
undo_image segment block = option_map (undo_at segment) (place_in segment block)

-- the shared part after a header or an undo block was sent to who asked for it, if there is one
abbrev pub undo_sent_of : Inst → Core → ℕ → ℕ → Option UndoImage → Core
undo_sent_of n core to job None = core
undo_sent_of n core to job (Some image) = sends n core to (UndoIs image job)

-- the shared part after undo was served, if it is ordered
abbrev pub undo_sent_by : Inst → Core → ℕ → Option UndoOrder → Core
undo_sent_by n core to None = core
undo_sent_by n core to (Some order) = undo_sent_of n core to order.job (undo_image n.segment order.block)

-- the shared part after undo was served
abbrev pub undo_sent : Inst → Core → ℕ → Core
undo_sent n core from = undo_sent_by (hears n core from Undo) (heard n core from Undo) from (first_undo_order n core from)
