-- The image that a read has in hand, and the undo that was handed in for it.
use Rattle.std.specs.Prelude.{ℕ, ◌==◌, ◌&&◌, if◌then◌else◌, not, Bool, false, Option, None, Some, is_some, is_none, unwrap_or}
use Rattle.std.specs.Option.{option_and_then, option_map}
use Rattle.base_types.specs.declared.names.Scn.{Scn}
use Rattle.block_image.specs.Block.{BlockContent}
use Rattle.undo_segment.specs.Handed.{HandedState}
use Rattle.buffer_cache.specs.Cache.{copy_at, place_at}
use Rattle.buffer_cache.specs.Place.{is_exclusive}
use Rattle.inst_state.specs.declared.inst.Inst.{Inst}
use Rattle.inst_state.specs.declared.needs.Needed.{Needed}
use Rattle.inst_state.specs.declared.session.CameCopy.{CameCopy}
use Rattle.inst_state.specs.declared.session.ImageName.{ImageName}
use Rattle.inst_state.specs.declared.session.Job.{Job}
use Rattle.inst_state.specs.Needs.{holds, needed}
use Rattle.inst_state.specs.Sessions.{snapshot_of}
use Rattle.inst_state.specs.State.{session_at}

-- the current image of a block
abbrev pub current_image : Inst → ℕ → Option BlockContent
current_image n block = option_map (λ now. now.image) (place_at n.cache block).current

-- the image of a copy that came for a statement, if it is of this block
abbrev pub image_if_of : ℕ → Option CameCopy → Option BlockContent
image_if_of block None = None
image_if_of block (Some copy) = if copy.image.front.number == block then Some copy.image else None

-- the image of a block that came for a session's line
abbrev pub came : Inst → ℕ → ℕ → Option BlockContent
came n z block = image_if_of block (session_at n z).job.copy

-- the SCN up to which a session's line sees; 0 where it isn't under way
abbrev pub snapshot_at : Inst → ℕ → Scn
snapshot_at n z = unwrap_or (snapshot_of (session_at n z).doing) 0

-- the kept copy of a block that serves a session's line
abbrev pub kept : Inst → ℕ → ℕ → Option BlockContent
kept n z block = copy_at n.cache block (snapshot_at n z)

-- the first image, or else the second
abbrev pub first_of : Option BlockContent → Option BlockContent → Option BlockContent
first_of None later = later
first_of (Some image) later = Some image

-- The image of a needed block that is in hand: the current one where it is held as needed, else, of a reader, the copy that
-- came for it, else the kept copy that serves it.
abbrev pub image_for : Inst → ℕ → Needed → Option BlockContent
image_for n z need =
    if holds n need.block need.mode then current_image n need.block
    else if is_exclusive need.mode then None
    else first_of (came n z need.block) (kept n z need.block)

-- the image that a session's line has in hand
abbrev pub image_in_hand : Inst → ℕ → Option BlockContent
image_in_hand n z = option_and_then (image_for n z) (needed n z)

-- A reader has a kept copy in hand, if it has any image.
abbrev pub reads_kept : Inst → ℕ → Needed → Bool
reads_kept n z need =
    not (holds n need.block need.mode) && not (is_exclusive need.mode) && is_none (came n z need.block)

-- the name of an image
abbrev pub name_of : BlockContent → ImageName
name_of image = record { block = image.front.number; version = image.front.version }

-- the name of the image that a session's line has in hand
abbrev pub name_in_hand : Inst → ℕ → Option ImageName
name_in_hand n z = option_map name_of (image_in_hand n z)

-- Two names are of one image, if there are both.
abbrev pub same_name : Option ImageName → Option ImageName → Bool
same_name (Some a) (Some b) = a.block == b.block && a.version == b.version
same_name _ _ = false

-- what was handed in, if it was for the image that is in hand
abbrev pub handed_if : Bool → Job → HandedState → HandedState
handed_if fits job nothing = if fits then job.handed else nothing

-- the headers and undo blocks of other segments that were handed in for the image in hand
abbrev pub handed_at : Inst → ℕ → HandedState
handed_at n z =
    let job = (session_at n z).job in handed_if (same_name job.handed_for (name_in_hand n z)) job n.plan.nothing
