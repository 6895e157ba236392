-- A shared image has to go.
use Rattle.std.specs.Prelude.{ℕ, ◌==◌, ◌&&◌, not, if◌then◌else◌, Bool, false, Option, None, Some}
use Rattle.wire_net.specs.declared.message.Lane.TheVariants.{Main}
use Rattle.wire_net.specs.declared.message.Message.{Message}
use Rattle.wire_net.specs.declared.message.Message.TheVariants.{Gone, Invalidate}
use Rattle.buffer_cache.specs.declared.place.Current.{Current}
use Rattle.buffer_cache.specs.Cache.{at_place, place_at}
use Rattle.buffer_cache.specs.Place.{without_grant}
use Rattle.inst_state.specs.declared.inst.Inst.{Inst}
use Rattle.inst_state.specs.declared.shared.Core.{Core}
use Rattle.inst_state.specs.Needs.{is_used}
use Rattle.image_steps.specs.declared.invalidating.Granted.{Granted}
use Rattle.image_steps.specs.Frames.{wave_without}
use Rattle.image_steps.specs.Hear.{first_message, heard, hears}
use Rattle.image_steps.specs.Sends.{sends_to_master}

-- the image that an Invalidate names
abbrev pub image_to_go : Option Message → Option Granted
image_to_go (Some (Invalidate block grant)) = Some (record { block = block; grant = grant })
image_to_go _ = None

-- the image that is to go by the message that is first on a link
abbrev pub first_to_go : Inst → Core → ℕ → Option Granted
first_to_go n core from = image_to_go (first_message n core from Main)

-- A current image, if there is one, is held by this grant.
abbrev pub bears : ℕ → Option Current → Bool
bears grant None = false
bears grant (Some now) = now.grant == grant

-- An instance holds an image of a block by its grant.
abbrev pub has_granted : Inst → Granted → Bool
has_granted n image = bears image.grant (place_at n.cache image.block).current

-- An image, if there is one to go, is in no use by its grant.
abbrev pub may_go : Inst → Option Granted → Bool
may_go n None = false
may_go n (Some image) = not (has_granted n image && is_used n image.block)

-- An Invalidate is obeyed once no image that bears its grant is in use.
abbrev pub may_invalidate : Inst → Core → ℕ → Bool
may_invalidate n core from = may_go n (first_to_go n core from)

-- an instance without an image, if there is one to go
abbrev pub without_image : Inst → Option Granted → Inst
without_image n None = n
without_image n (Some image) = record n {
  cache = at_place (without_grant image.grant) n.cache image.block;
  wave = if has_granted n image then wave_without n.wave image.block else n.wave;
}

-- an instance that has obeyed an Invalidate: the image is dropped where it bears the grant, and any other stays
abbrev pub invalidated : Inst → Core → ℕ → Inst
invalidated n core from = without_image (hears n core from Main) (first_to_go n core from)

-- the shared part after the master was told that an image has gone, if there is one to go
abbrev pub gone_sent : Inst → Core → Option Granted → Core
gone_sent n core None = core
gone_sent n core (Some image) = sends_to_master n core image.block (Gone image.block image.grant)

-- the shared part after an Invalidate was obeyed
abbrev pub invalidate_sent : Inst → Core → ℕ → Core
invalidate_sent n core from = gone_sent (hears n core from Main) (heard n core from Main) (first_to_go n core from)
