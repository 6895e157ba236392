-- A past image may go, or the current image is to be written.
use Rattle.std.specs.Prelude.{ℕ, if◌then◌else◌, Bool, Option, None, Some, is_some}
use Rattle.wire_net.specs.declared.message.Lane.TheVariants.{Main}
use Rattle.wire_net.specs.declared.message.Message.{Message}
use Rattle.wire_net.specs.declared.message.Message.TheVariants.{Back, DropPast, WritePlease, Wrote}
use Rattle.wire_net.specs.declared.message.Unfound.TheVariants as unfound
use Rattle.buffer_cache.specs.declared.place.Current.{Current}
use Rattle.buffer_cache.specs.Cache.{CacheState, at_place, place_at}
use Rattle.buffer_cache.specs.Place.{holds_dirty, with_wish, without_past}
use Rattle.inst_state.specs.declared.inst.Inst.{Inst}
use Rattle.inst_state.specs.declared.shared.Core.{Core}
use Rattle.image_steps.specs.declared.pasts.Plea.{Plea}
use Rattle.image_steps.specs.declared.pasts.PastOrder.{PastOrder}
use Rattle.image_steps.specs.declared.pasts.PastOrder.TheVariants.{Drop, Write}
use Rattle.image_steps.specs.Hear.{first_message, heard, hears}
use Rattle.image_steps.specs.Sends.{sends_to_master}

-- what a DropPast, or a WritePlease with a grant, orders
abbrev pub past_order_of : Option Message → Option PastOrder
past_order_of (Some (DropPast block version)) = Some (Drop block version)
past_order_of (Some (WritePlease block version holder (Some grant))) =
    Some (Write (record { block = block; version = version; holder = holder; grant = grant }))
past_order_of _ = None

-- what is ordered by the message that is first on a link
abbrev pub first_past_order : Inst → Core → ℕ → Option PastOrder
first_past_order n core from = past_order_of (first_message n core from Main)

-- What is ordered of past images is done at once.
abbrev pub may_drop_past : Inst → Core → ℕ → Bool
may_drop_past n core from = is_some (first_past_order n core from)

-- A cache after an order, if there is one: past images up to the version are dropped; or, where the current image is dirty,
-- the wish to write it is noted.
abbrev pub cache_ordered : CacheState → Option PastOrder → CacheState
cache_ordered cache None = cache
cache_ordered cache (Some (Drop block version)) = at_place (without_past version) cache block
cache_ordered cache (Some (Write plea)) =
    if holds_dirty (place_at cache plea.block).current then at_place with_wish cache plea.block else cache

-- an instance that has done what was ordered of past images
abbrev pub past_dropped : Inst → Core → ℕ → Inst
past_dropped n core from =
    record (hears n core from Main) { cache = cache_ordered n.cache (first_past_order n core from) }

-- the shared part after a plea to write a block came: where its image is clean it is known to be written, and without one the
-- plea goes back
abbrev pub plea_answered : Inst → Core → Plea → Option Current → Core
plea_answered n core plea None =
    sends_to_master n core plea.block (Back (unfound.WritePlease plea.block plea.grant plea.version plea.holder))
plea_answered n core plea (Some now) =
    if now.dirty then core else sends_to_master n core plea.block (Wrote plea.block now.image.front.version)

-- the shared part after an order of past images was followed, if there is one
abbrev pub past_order_sent : Inst → Core → Option PastOrder → Core
past_order_sent n core None = core
past_order_sent n core (Some (Drop block version)) = core
past_order_sent n core (Some (Write plea)) = plea_answered n core plea (place_at n.cache plea.block).current

-- the shared part after what was ordered of past images was done
abbrev pub past_sent : Inst → Core → ℕ → Core
past_sent n core from =
    past_order_sent (hears n core from Main) (heard n core from Main) (first_past_order n core from)
