-- What an instance has of a data block, and what becomes of it.
use Rattle.std.specs.Prelude.{◌≡◌, ℕ, ◌+◌, ◌-◌, ◌≤◌, ◌<◌, ◌^◌, ◌==◌, Bool, true, false, not, ◌||◌, ◌&&◌, List, ◌++◌, Option, Some, None, is_some, unwrap_or, option_map, nat_le}
use Rattle.std.specs.Bool.{if◌then◌else◌}
use Rattle.std.specs.Option.{option_and_then, option_or, option_to_list}
use Rattle.base_types.specs.declared.names.RedoAt.{RedoAt}
use Rattle.base_types.specs.declared.names.Scn.{Scn}
use Rattle.redo_types.specs.declared.blocks.RowChange.{RowChange}
use Rattle.block_image.specs.Block.{BlockContent, IsBlock}
use Rattle.block_image.specs.Changes.{applied}
use Rattle.wire_net.specs.declared.message.Mode.{Mode}
use Rattle.wire_net.specs.declared.message.Mode.TheVariants.{Null, Shared, Exclusive}
use Rattle.wire_net.specs.declared.message.Role.{Role}
use Rattle.wire_net.specs.declared.message.Role.TheVariants.{Local, Global}
use Rattle.wire_net.specs.declared.message.Shipment.{Shipment}
use Rattle.buffer_cache.specs.declared.place.Current.{Current}
use Rattle.buffer_cache.specs.declared.place.Held.{Held}
use Rattle.buffer_cache.specs.declared.place.PastImage.{PastImage}
use Rattle.buffer_cache.specs.declared.place.Place.{Place}

-- the place of a block of which the instance has nothing
abbrev pub empty_place : Place
empty_place = record { current = None; past = None; asked = None; wish = false }

-- the mode is Shared
abbrev pub is_shared : Mode → Bool
is_shared Null = false
is_shared Shared = true
is_shared Exclusive = false

-- the mode is Exclusive
abbrev pub is_exclusive : Mode → Bool
is_exclusive Null = false
is_exclusive Shared = false
is_exclusive Exclusive = true

-- how a current image is held
abbrev pub held_of : Current → Held
held_of now = record {
  mode = now.mode;
  role = now.role;
  dirty = now.dirty;
  mine = now.mine;
  grant = now.grant;
  version = now.image.front.version;
}

-- One frame is taken for the current image or for its reservation, and one for the past image.
abbrev pub frames_of : Place → ℕ
frames_of place =
    (if is_some place.current || is_some place.asked then 1 else 0) + (if is_some place.past then 1 else 0)

-- an image is held in S
abbrev pub holds_shared : Option Current → Bool
holds_shared None = false
holds_shared (Some now) = is_shared now.mode

-- an image is held that the disk doesn't have
abbrev pub holds_dirty : Option Current → Bool
holds_dirty None = false
holds_dirty (Some now) = now.dirty

-- an image is held that the disk has too
abbrev pub holds_clean : Option Current → Bool
holds_clean None = false
holds_clean (Some now) = not now.dirty

-- A reservation is made for an image in this mode, or ends.
abbrev pub with_ask : Option Mode → Place → Place
with_ask mode place = record place { asked = mode }

-- the place of the first own record that may be missing in the disk's image, as the past image has it
abbrev pub past_mine : Option PastImage → Option RedoAt
past_mine past = option_and_then (λ past. past.mine) past

-- An image that the disk lacks, and with it those own records from this place on.
abbrev pub lacking : Option RedoAt → Current → Current
lacking first now = record now { mine = if now.dirty then option_or now.mine first else now.mine }

-- A current image came: the reservation and the past image go. Where the disk lacks the image, it lacks the own records of the past image still.
abbrev pub with_current : Option Current → Place → Place
with_current current place =
    record place { current = option_map (lacking (past_mine place.past)) current; past = None; asked = None }

-- the image of a shipment, as it is held then
abbrev pub shipped : Shipment → Current
shipped shipment = record {
  mode = if shipment.shared then Shared else Exclusive;
  role = if shipment.dirty then Global else Local;
  dirty = shipment.dirty;
  grant = shipment.grant;
  mine = None;
  image = shipment.image;
}

-- an image that was read from the disk
abbrev pub read_from_disk : ℕ → Mode → BlockContent → Current
read_from_disk grant mode block =
    record { mode = mode; role = Local; dirty = false; grant = grant; mine = None; image = block }

-- the image, held in X from now on
abbrev pub upgraded : ℕ → Current → Current
upgraded grant now = record now { mode = Exclusive; grant = grant }

-- An image that is held in X after a change by the record at this place. Its first own record keeps its place.
abbrev pub changed : RowChange → Scn → RedoAt → Current → Current
changed change scn at now = record now {
  dirty = now.dirty || is_exclusive now.mode;
  mine = if is_exclusive now.mode then Some (unwrap_or now.mine at) else now.mine;
  image = if is_exclusive now.mode then applied now.image change scn else now.image;
}

-- The current image changes, where it is held in X.
abbrev pub with_change : RowChange → Scn → RedoAt → Place → Place
with_change change scn at place = record place { current = option_map (changed change scn at) place.current }

-- A block can take a change of a row by a record with this SCN.
pub record CanApply (change : RowChange) (scn : Scn) (block : BlockContent) : Type 0 where
  pub row : change.row < 8
  pub some_itl : 1 ≤ change.itl
  pub itl : change.itl ≤ 4
  pub version : block.front.version < 2 ^ 64 - 1
  pub numbered : 1 ≤ scn
  pub is_block : IsBlock (applied block change scn)

-- An image that is held in X can take a change.
abbrev pub CanChange : RowChange → Scn → Current → Type 0
CanChange change scn now = is_exclusive now.mode ≡ true → CanApply change scn now.image

-- A dirty current image that goes leaves an equal of it behind as the past image.
abbrev pub left_behind : Option Current → Option PastImage → Option PastImage
left_behind None past = past
left_behind (Some now) past =
    if now.dirty then Some (record { image = now.image; mine = now.mine; asked = false }) else past

-- The current image moves out.
abbrev pub given_up : Place → Place
given_up place = record place { current = None; past = left_behind place.current place.past }

-- the image, where it is clean and held in S
abbrev pub shareable : Option Current → Option BlockContent
shareable None = None
shareable (Some now) = if is_shared now.mode && not now.dirty then Some now.image else None

-- the current image, unless it bears this grant
abbrev pub unless_granted : ℕ → Option Current → Option Current
unless_granted grant None = None
unless_granted grant (Some now) = if now.grant == grant then None else Some now

-- The current image is dropped where it bears this grant.
abbrev pub without_grant : ℕ → Place → Place
without_grant grant place = record place { current = unless_granted grant place.current }

-- the grant of the image, where it is clean
abbrev pub clean_grant : Option Current → Option ℕ
clean_grant None = None
clean_grant (Some now) = if now.dirty then None else Some now.grant

-- the current image, unless it is clean
abbrev pub unless_clean : Option Current → Option Current
unless_clean None = None
unless_clean (Some now) = if now.dirty then Some now else None

-- The current image is dropped where it is clean.
abbrev pub without_clean : Place → Place
without_clean place = record place { current = unless_clean place.current }

-- the image after it was written
abbrev pub written : Current → Current
written now = record now { role = Local; dirty = false; mine = None }

-- The current image was written: what was wished is done.
abbrev pub with_written : Place → Place
with_written place = record place { current = option_map written place.current; wish = false }

-- A wish to write the block came.
abbrev pub with_wish : Place → Place
with_wish place = record place { wish = true }

-- the past image, unless its version is at most this
abbrev pub past_above : ℕ → Option PastImage → Option PastImage
past_above version None = None
past_above version (Some past) = if nat_le past.image.front.version version then None else Some past

-- Past images up to a version are dropped.
abbrev pub without_past : ℕ → Place → Place
without_past version place = record place { past = past_above version place.past }

-- the past image, with this mark
abbrev pub marked : Bool → PastImage → PastImage
marked asked past = record past { asked = asked }

-- a write was asked for that lets the past image go
abbrev pub is_marked : Option PastImage → Bool
is_marked None = false
is_marked (Some past) = past.asked

-- A write was asked for that lets the past image go.
abbrev pub with_past_asked : Place → Place
with_past_asked place = record place { past = option_map (marked true) place.past }

-- The place after a report: nothing is asked for any more.
abbrev pub forgotten : Place → Place
forgotten place = record place { past = option_map (marked false) place.past; asked = None; wish = false }

-- the image with a new grant and role
abbrev pub with_grant : ℕ → Role → Current → Current
with_grant grant role now = record now { role = role; grant = grant }

-- The current image gets a new grant and a role.
abbrev pub regranted : ℕ → Role → Place → Place
regranted grant role place = record place { current = option_map (with_grant grant role) place.current }

-- the places of the first own records that may be missing in the disk's image
abbrev pub mine_of : Place → List RedoAt
mine_of place =
    option_to_list (option_and_then (λ now. now.mine) place.current)
    ++ option_to_list (option_and_then (λ past. past.mine) place.past)
