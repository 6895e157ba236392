-- What an instance has of each block after a take-over.
use Rattle.std.proofs.Common.{◌≡◌, ◌<◌, ◌≤◌, ◌==◌, ℕ, Bool, true, false, length, Option, None, Some, if◌then◌else◌, ap, sym, ◌∙◌, refl, arith}
use Rattle.std.specs.Option.{option_map}
use Rattle.std.proofs.lemmas.List.{get_or_past}
use Rattle.std.proofs.lemmas.List.FromFn.{get_or-map-range_with_len, length-map-range_with_len}
use Rattle.block_image.specs.Block.{BlockContent}
use Rattle.wire_net.specs.declared.message.Role.{Role}
use Rattle.buffer_cache.specs.declared.place.Current.{Current}
use Rattle.buffer_cache.specs.declared.place.Place.{Place}
use Rattle.buffer_cache.specs.Cache.{CacheState, place_at}
use Rattle.buffer_cache.specs.Place.{empty_place, with_grant}
use Rattle.inst_state.specs.declared.shared.Core.{Core}
use Rattle.report_steps.specs.TakeOver.{TakeOverKeepsImages, TakeOverMeetsEachBlock, thawed, thawed_by, thawed_cache, without_rebuilt}

-- what a cache has of a block after a Thaw
pub thawed_at : (me : ℕ) (core : Core) (cache : CacheState) (block : ℕ) → block < length cache.places
    → place_at (thawed_cache me core cache) block ≡ thawed me core block (place_at cache block)
thawed_at me core cache block within =
    get_or-map-range_with_len (λ other. thawed me core other (place_at cache other)) 0 (length cache.places) block block empty_place within (omega arith)

-- the cache that counts, by whether it was taken over already
pub unless_taken : (taken : Bool) (old new : CacheState) → taken ≡ false → (if taken then old else new) ≡ new
unless_taken true old new is = search
unless_taken false old new is = refl

pub meets-each-block : TakeOverMeetsEachBlock
meets-each-block n core block is within =
    ap (λ (cache : CacheState). place_at cache block) (unless_taken (n.mastering.taken == core.members.epoch) n.cache (thawed_cache n.plan.me core n.cache) is)
    ∙ thawed_at n.plan.me core n.cache block within

-- the image of a current image, if there is one
abbrev pub image_of : Place → Option BlockContent
image_of place = option_map (λ (now : Current). now.image) place.current

-- a new grant and role keep the image
pub granted_keeps : (grant : ℕ) (role : Role) (current : Option Current) → option_map (λ (now : Current). now.image) (option_map (with_grant grant role) current) ≡ option_map (λ (now : Current). now.image) current
granted_keeps grant role None = refl
granted_keeps grant role (Some now) = refl

-- so does the loss of a past image
pub unpast_keeps : (version : Option ℕ) (place : Place) → (without_rebuilt version place).current ≡ place.current
unpast_keeps None place = refl
unpast_keeps (Some version) place = refl

pub thawed_keeps : (grant : ℕ) (role : Role) (version : Option ℕ) (place : Place) → image_of (thawed_by grant role version place) ≡ image_of place
thawed_keeps grant role version place =
    granted_keeps grant role (without_rebuilt version place).current ∙ ap (λ (current : Option Current). option_map (λ (now : Current). now.image) current) (unpast_keeps version place)

-- a cache keeps its images in a Thaw
pub cache_keeps : (me : ℕ) (core : Core) (cache : CacheState) (block : ℕ) → image_of (place_at (thawed_cache me core cache) block) ≡ image_of (place_at cache block)
cache_keeps me core cache block =
    let new = place_at (thawed_cache me core cache) block in
    let old = place_at cache block in
    let within : block < length cache.places → image_of new ≡ image_of old =
    λ lt. ap image_of (thawed_at me core cache block lt) ∙ thawed_keeps _ _ _ old in
    let past : length cache.places ≤ block → image_of new ≡ image_of old =
    λ le. ap image_of (get_or_past (thawed_cache me core cache).places block empty_place (rw (length-map-range_with_len (λ other. thawed me core other (place_at cache other)) 0 (length cache.places)) le) ∙ sym (get_or_past cache.places block empty_place le)) in
    grind arith

pub keeps-images : TakeOverKeepsImages
keeps-images n core block = go (n.mastering.taken == core.members.epoch)
  where
    go : (taken : Bool) → image_of (place_at (if taken then n.cache else thawed_cache n.plan.me core n.cache) block) ≡ image_of (place_at n.cache block)
    go true = refl
    go false = cache_keeps n.plan.me core n.cache block
