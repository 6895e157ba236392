-- What the instances have of a block in their caches, beside a state of the protocol.
use Rattle.std.specs.Prelude.{◌≡◌, ◌≢◌, ◌≤◌, Bool, true, false, List, option_map, Option, None, Some}
use Rattle.base_types.specs.declared.names.RedoAt.{RedoAt}
use Rattle.base_types.specs.declared.names.Scn.{Scn as RecordScn}
use Rattle.redo_types.specs.declared.blocks.RowChange.{RowChange}
use Rattle.block_image.specs.Block.{BlockContent}
use Rattle.wire_net.specs.declared.message.Mode.{Mode}
use Rattle.wire_net.specs.declared.message.Role.{Role}
use Rattle.wire_net.specs.declared.message.Shipment.{Shipment}
use Rattle.buffer_cache.specs.declared.place.Current.{Current}
use Rattle.buffer_cache.specs.declared.place.PastImage.{PastImage}
use Rattle.buffer_cache.specs.declared.place.Place.{Place}
use Rattle.buffer_cache.specs.Place.{empty_place, regranted, given_up, read_from_disk, shipped, upgraded, with_change, with_current, with_written, without_clean, without_grant, without_past}
use Rattle.block_protocol.specs.Block.{Inst, Scn, Version, GrantNo, Mode as ProtocolMode, Shared, Exclusive, Hold, Quiet, ShipTo, Shipped, Grant, Grants, Invalidate, Note, DropPast, Memo, Record, Block, put, Takes}
use Rattle.block_protocol.specs.Steps.{Step, IsForced, ServesNot, changes, writes, evicts, invalidates, was_gone, ships, installs_shipped, installs_from_disk, installs_held, drops_past}
use Rattle.block_protocol.specs.Sound.{Sound}
use Rattle.block_protocol.specs.Runs.{start}
use Rattle.block_protocol.specs.Members.{after_loss}
use Rattle.block_protocol.specs.Turns.{thawed}
use Rattle.protocol_ties.specs.Messages.{hold_of, shipped_hold}
use Rattle.protocol_ties.specs.MasterRuns.{LeavesRest}

-- by which grant a current image is held
abbrev pub hold_at : Option Current → Option Hold
hold_at None = None
hold_at (Some now) = hold_of now.mode now.grant

-- the version of a past image
abbrev pub past_version_of : PastImage → Version
past_version_of past = past.image.front.version

-- a hold, a version, a mark and a past version of the protocol are those of a place in a cache; the version and the mark of an
-- image that isn't there may be any
pub record IsPlaceOf (hold : Option Hold) (version : Version) (dirty : Bool) (past_version : Option Version) (current : Option Current) (past : Option PastImage) : Type 0 where
  pub held : hold ≡ hold_at current
  pub there : (now : Current) → current ≡ Some now → hold ≢ None
  pub numbered : (now : Current) → current ≡ Some now → version ≡ now.image.front.version
  pub marked : (now : Current) → current ≡ Some now → dirty ≡ now.dirty
  pub kept : past_version ≡ option_map past_version_of past

-- the places of a block in the caches of all instances show its images
abbrev pub ArePlaces : (Inst → Place) → Block → Type 0
ArePlaces places block = (inst : Inst) → IsPlaceOf (block.frame inst) (block.version inst) (block.dirty inst) (block.past inst) (places inst).current (places inst).past

-- the state that a step leads to
abbrev pub led_to : {before after : Block} → Step before after → Block
led_to {after = after} step = after

-- a call on the place of one instance does to the images what a step does
abbrev pub Follows : (Inst → Place) → Inst → Place → {before after : Block} → Step before after → Type 0
Follows places inst place step = ArePlaces (put places inst place) (led_to step)

-- the image changes by a record
abbrev pub CacheChanges : Type 0
CacheChanges = (block : Block) (places : Inst → Place) (inst : Inst) (hold : Hold) (image : block.frame inst ≡ Some hold) (mode : hold.mode ≡ Exclusive) (change : RowChange) (scn : RecordScn) (at : RedoAt)
    → ArePlaces places block → Follows places inst (with_change change scn at (places inst)) (changes block inst hold image mode)

-- it was written
abbrev pub CacheWrites : Type 0
CacheWrites = (block : Block) (places : Inst → Place) (inst : Inst) (hold : Hold) (image : block.frame inst ≡ Some hold) (dirty : block.dirty inst ≡ true) (forced : IsForced block inst)
    → ArePlaces places block → Follows places inst (with_written (places inst)) (writes block inst hold image dirty forced)

-- a clean one leaves its frame
abbrev pub CacheEvicts : Type 0
CacheEvicts = (block : Block) (places : Inst → Place) (inst : Inst) (hold : Hold) (image : block.frame inst ≡ Some hold) (clean : block.dirty inst ≡ false) (quiet : block.request inst ≡ Quiet)
    (free : ServesNot block.op inst) → ArePlaces places block → Follows places inst (without_clean (places inst)) (evicts block inst hold image clean quiet free)

-- an Invalidate comes, and the image bears its grant, or doesn't
abbrev pub CacheInvalidates : Type 0
CacheInvalidates = (block : Block) (places : Inst → Place) (inst : Inst) (hold : Hold) (rest : List Note) (takes : Takes (Invalidate inst hold.grant) block.notes rest) (image : block.frame inst ≡ Some hold)
    → ArePlaces places block → Follows places inst (without_grant hold.grant (places inst)) (invalidates block inst hold rest takes image)

-- an Invalidate for another grant finds no image, and leaves the place as it is
abbrev pub CacheHasNone : Type 0
CacheHasNone = (block : Block) (places : Inst → Place) (inst : Inst) (grant : GrantNo) (rest : List Note) (takes : Takes (Invalidate inst grant) block.notes rest)
    (another : (hold : Hold) → block.frame inst ≡ Some hold → hold.grant ≢ grant)
    → ArePlaces places block → Follows places inst (without_grant grant (places inst)) (was_gone block inst grant rest takes another)

-- the image is shipped: an exclusive one moves out, of a shared one an equal goes
abbrev pub place_shipped : ProtocolMode → Place → Place
place_shipped Shared place = place
place_shipped Exclusive place = given_up place

-- the place of an instance follows the protocol as it ships its image
abbrev pub CacheShips : Type 0
CacheShips = (block : Block) (places : Inst → Place) (asker : Inst) (granted : Hold) (inst : Inst) (grant : GrantNo) (hold : Hold) (ordered : block.op ≡ Grants asker granted (ShipTo inst grant))
    (image : block.frame inst ≡ Some hold) (forced : IsForced block inst)
    → ArePlaces places block → Follows places inst (place_shipped granted.mode (places inst)) (ships block asker granted inst grant hold ordered image forced)

-- a shipment comes
abbrev pub CacheInstalls : Type 0
CacheInstalls = (block : Block) (places : Inst → Place) (inst : Inst) (shipment : Shipment) (scn : Scn)
    (comes : block.op ≡ Grants inst (shipped_hold shipment.shared shipment.grant) (Shipped shipment.image.front.version shipment.dirty scn)) (le : scn ≤ block.clock inst)
    → ArePlaces places block
    → Follows places inst (with_current (Some (shipped shipment)) (places inst)) (installs_shipped block inst (shipped_hold shipment.shared shipment.grant) shipment.image.front.version shipment.dirty scn comes le)

-- a Grant comes, for the disk's image or for the one that is held
abbrev pub CacheReads : Type 0
CacheReads = (block : Block) (places : Inst → Place) (inst : Inst) (mode : Mode) (granted : Hold) (content : BlockContent) (scn : Scn) (comes : block.op ≡ Grants inst granted (Grant true scn))
    (le : scn ≤ block.clock inst) → hold_of mode granted.grant ≡ Some granted → content.front.version ≡ block.disk
    → ArePlaces places block → Follows places inst (with_current (Some (read_from_disk granted.grant mode content)) (places inst)) (installs_from_disk block inst granted scn comes le)

-- its place follows the protocol as the image that it has becomes exclusive
abbrev pub CacheUpgrades : Type 0
CacheUpgrades = (block : Block) (places : Inst → Place) (inst : Inst) (granted : Hold) (scn : Scn) (comes : block.op ≡ Grants inst granted (Grant false scn)) (le : scn ≤ block.clock inst)
    → Sound block → granted.mode ≡ Exclusive
    → ArePlaces places block → Follows places inst (with_current (option_map (upgraded granted.grant) (places inst).current) (places inst)) (installs_held block inst granted scn comes le)

-- past images up to a version are dropped
abbrev pub CacheDropsPast : Type 0
CacheDropsPast = (block : Block) (places : Inst → Place) (inst : Inst) (version : Version) (rest : List Memo) (takes : Takes (DropPast inst version) block.memos rest)
    → ArePlaces places block → Follows places inst (without_past version (places inst)) (drops_past block inst version rest takes)

-- what a master does leaves the caches
abbrev pub MastersLeaveCaches : Type 0
MastersLeaveCaches = (before after : Block) (places : Inst → Place) → LeavesRest before after → ArePlaces places before → ArePlaces places after

-- of a new block there is no image
abbrev pub NoCacheHasNewBlock : Type 0
NoCacheHasNewBlock = (master : Inst) → ArePlaces (λ inst. empty_place) (start master)

-- an instance that is lost, or comes, has nothing in its cache
abbrev pub LostCacheIsEmpty : Type 0
LostCacheIsEmpty = (block : Block) (places : Inst → Place) (actual : Inst → Scn) (inst : Inst) (kept : List Record) (bound scn : Scn)
    → ArePlaces places block → ArePlaces (put places inst empty_place) (after_loss block actual inst kept bound scn)

-- after a Thaw each image has its new grant, whatever its role
abbrev pub CachesAreRegranted : Type 0
CachesAreRegranted = (block : Block) (places : Inst → Place) (number : Inst → GrantNo) (next : GrantNo) (bound : Scn) (role : Inst → Role)
    → ArePlaces places block → ArePlaces (λ inst. regranted (number inst) (role inst) (places inst)) (thawed block number next bound)
