-- A current image is shipped.
use Rattle.std.specs.Prelude.{ℕ, ◌&&◌, ◌||◌, not, if◌then◌else◌, Bool, true, false, Option, None, Some, is_none}
use Rattle.std.specs.Option.{option_map}
use Rattle.block_image.specs.Block.{BlockContent}
use Rattle.wire_net.specs.declared.entry.PastHolder.{PastHolder}
use Rattle.wire_net.specs.declared.message.Lane.TheVariants.{Main}
use Rattle.wire_net.specs.declared.message.Message.{Message}
use Rattle.wire_net.specs.declared.message.Message.TheVariants.{Back, ShareTo, ShipTo, Shipped}
use Rattle.wire_net.specs.declared.message.Shipment.{Shipment}
use Rattle.wire_net.specs.declared.message.Unfound.TheVariants as unfound
use Rattle.buffer_cache.specs.declared.place.Current.{Current}
use Rattle.buffer_cache.specs.Cache.{at_place, place_at}
use Rattle.buffer_cache.specs.Place.{given_up, shareable}
use Rattle.inst_state.specs.declared.inst.Inst.{Inst}
use Rattle.inst_state.specs.declared.shared.Core.{Core}
use Rattle.inst_state.specs.Needs.{is_used}
use Rattle.inst_state.specs.State.{is_forced}
use Rattle.image_steps.specs.declared.shipping.Order.{Order}
use Rattle.image_steps.specs.Frames.{wave_without}
use Rattle.image_steps.specs.Hear.{first_message, heard, hears}
use Rattle.image_steps.specs.Sends.{sends, sends_to_master}

-- what a ShipTo or a ShareTo orders
abbrev pub order_of : Option Message → Option Order
order_of (Some (ShipTo block grant new_grant asker)) =
    Some (record { block = block; grant = grant; new_grant = new_grant; asker = asker; shared = false })
order_of (Some (ShareTo block grant new_grant asker)) =
    Some (record { block = block; grant = grant; new_grant = new_grant; asker = asker; shared = true })
order_of _ = None

-- what is ordered by the message that is first on a link
abbrev pub first_order : Inst → Core → ℕ → Option Order
first_order n core from = order_of (first_message n core from Main)

-- A block, if one is ordered, is in no use, and no wish to write it is noted.
abbrev pub is_shippable : Inst → Option Order → Bool
is_shippable n None = false
is_shippable n (Some order) = not (is_used n order.block) && not (place_at n.cache order.block).wish

-- An image is shipped, or sent back for where there is none, once no redo waits and the block is in no use and isn't
-- wished to be written.
abbrev pub may_ship : Inst → Core → ℕ → Bool
may_ship n core from = is_forced n && is_shippable n (first_order n core from)

-- the past image that the sender of a current image keeps
abbrev pub kept_behind : ℕ → Current → Option PastHolder
kept_behind me now =
    if now.dirty then Some (record { inst = me; version = now.image.front.version }) else None

-- a current image as it moves to an asker
abbrev pub moving : ℕ → Order → Current → Shipment
moving me order now = record {
  block = order.block;
  grant = order.new_grant;
  image = now.image;
  shared = false;
  dirty = now.dirty;
  past = kept_behind me now;
}

-- an equal of a shared image as it goes to an asker
abbrev pub sharing : Order → BlockContent → Shipment
sharing order image = record {
  block = order.block;
  grant = order.new_grant;
  image = image;
  shared = true;
  dirty = false;
  past = None;
}

-- what is shipped by an order, if there is an image
abbrev pub shipment : Inst → Order → Option Shipment
shipment n order =
    let current = (place_at n.cache order.block).current in
    if order.shared then option_map (sharing order) (shareable current) else option_map (moving n.plan.me order) current

-- an instance after an order was followed, if there is one: an image that moves leaves its frame, and where it is dirty it
-- stays as the past image
abbrev pub followed : Inst → Option Order → Inst
followed n None = n
followed n (Some order) = record n {
  cache = if order.shared then n.cache else at_place given_up n.cache order.block;
  wave =
      if order.shared || is_none (place_at n.cache order.block).current then n.wave
      else wave_without n.wave order.block;
}

-- an instance that has shipped an image
abbrev pub shipped : Inst → Core → ℕ → Inst
shipped n core from = followed (hears n core from Main) (first_order n core from)

-- an order that found no image
abbrev pub sent_back : Order → Message
sent_back order =
    if order.shared then Back (unfound.ShareTo order.block order.grant order.new_grant order.asker)
    else Back (unfound.ShipTo order.block order.grant order.new_grant order.asker)

-- the shared part after a shipment was sent, or the order was sent back to the master
abbrev pub sent_for : Inst → Core → Order → Option Shipment → Core
sent_for n core order None = sends_to_master n core order.block (sent_back order)
sent_for n core order (Some shipment) = sends n core order.asker (Shipped shipment)

-- the shared part after an order was followed, if there is one
abbrev pub follow_sent : Inst → Core → Option Order → Core
follow_sent n core None = core
follow_sent n core (Some order) = sent_for n core order (shipment n order)

-- the shared part after an image was shipped
abbrev pub ship_sent : Inst → Core → ℕ → Core
ship_sent n core from = follow_sent (hears n core from Main) (heard n core from Main) (first_order n core from)
