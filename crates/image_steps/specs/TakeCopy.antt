-- A copy or a block of undo has come.
use Rattle.std.specs.Prelude.{ℕ, ◌==◌, ◌&&◌, nat_le, not, if◌then◌else◌, Bool, true, false, List, [], ◌∷◌, Option, None, Some, map, slice_index_or, slice_set}
use Rattle.std.specs.List.{filter, fold}
use Rattle.base_types.specs.declared.names.Scn.{Scn}
use Rattle.block_image.specs.Block.{BlockContent}
use Rattle.wire_net.specs.declared.message.Lane.{Lane}
use Rattle.wire_net.specs.declared.message.Message.{Message}
use Rattle.wire_net.specs.declared.message.Message.TheVariants.{Copy, UndoIs}
use Rattle.wire_net.specs.declared.message.Mode.TheVariants.{Shared}
use Rattle.wire_net.specs.declared.message.UndoImage.{UndoImage}
use Rattle.wire_net.specs.declared.message.UndoImage.TheVariants.{Block, Head}
use Rattle.undo_segment.specs.Handed.{HandedState}
use Rattle.buffer_cache.specs.Cache.{CacheState, at_place, with_copy}
use Rattle.buffer_cache.specs.Place.{is_shared, with_ask}
use Rattle.inst_state.specs.declared.inst.Inst.{Inst}
use Rattle.inst_state.specs.declared.needs.Needed.{Needed}
use Rattle.inst_state.specs.declared.session.CameCopy.{CameCopy}
use Rattle.inst_state.specs.declared.session.ImageName.{ImageName}
use Rattle.inst_state.specs.declared.session.Job.{Job}
use Rattle.inst_state.specs.declared.session.Session.{Session}
use Rattle.inst_state.specs.declared.shared.Core.{Core}
use Rattle.inst_state.specs.Hand.{name_in_hand, same_name, snapshot_at}
use Rattle.inst_state.specs.Needs.{holds, needed}
use Rattle.inst_state.specs.Sessions.{new_session}
use Rattle.inst_state.specs.State.{session_at, with_session}
use Rattle.image_steps.specs.Hear.{first_message, hears}

-- A copy or a block of undo has come.
abbrev pub has_come : Option Message → Bool
has_come (Some (Copy image upto)) = true
has_come (Some (UndoIs image job)) = true
has_come _ = false

-- A copy or a block of undo is taken at once.
abbrev pub may_take_copy : Inst → Core → ℕ → Lane → Bool
may_take_copy n core from lane = has_come (first_message n core from lane)

-- A block is needed to be read.
abbrev pub is_to_read : ℕ → Option Needed → Bool
is_to_read block None = false
is_to_read block (Some need) = is_shared need.mode && need.block == block

-- A session's line waits to read a block, and what was changed up to an SCN is all that it sees.
abbrev pub waits_for_copy : Inst → ℕ → Scn → ℕ → Bool
waits_for_copy n block upto z =
    is_to_read block (needed n z) && nat_le (snapshot_at n z) upto && not (holds n block Shared)

-- the sessions whose lines wait to read a block and are served by a copy
abbrev pub waiting : Inst → ℕ → Scn → List ℕ
waiting n block upto = filter (waits_for_copy n block upto) n.plan.mine

-- a session for which a copy came
abbrev pub with_came : BlockContent → Scn → Session → Session
with_came image upto s =
    record s { job = record s.job { copy = Some (record { image = image; upto = upto }) } }

-- sessions of which one gets a copy
abbrev pub came_at : BlockContent → Scn → List Session → ℕ → List Session
came_at image upto sessions z = slice_set sessions z (with_came image upto (slice_index_or sessions z new_session))

-- sessions of which some get a copy
abbrev pub came_for : BlockContent → Scn → List Session → List ℕ → List Session
came_for image upto sessions whose = fold (came_at image upto) sessions whose

-- a cache after a copy came: the reservation for its block ends, and the copy is kept
abbrev pub copy_kept : CacheState → BlockContent → Scn → CacheState
copy_kept cache image upto = with_copy (at_place (with_ask None) cache image.front.number) image upto

-- an instance to which a copy came: each session's line gets it that waits for it
abbrev pub copy_came : Inst → BlockContent → Scn → Inst
copy_came n image upto = record n {
  cache = copy_kept n.cache image upto;
  sessions = came_for image upto n.sessions (waiting n image.front.number upto);
}

-- what was handed in, and a header or an undo block more
abbrev pub with_undo : HandedState → UndoImage → HandedState
with_undo handed (Head head) = record handed { heads = head ∷ handed.heads }
with_undo handed (Block block) = record handed { blocks = block ∷ handed.blocks }

-- what was handed in for an image, if it is the one with this name; else nothing
abbrev pub handed_for : Job → Option ImageName → HandedState
handed_for job name = if same_name job.handed_for name then job.handed else record { heads = []; blocks = [] }

-- what a statement has at hand once a header or an undo block was handed in for an image
abbrev pub handing : Option ImageName → UndoImage → Job → Job
handing name image job = record job { handed = with_undo (handed_for job name) image; handed_for = name }

-- a session to which a header or an undo block was handed in for an image
abbrev pub handed_to : Option ImageName → UndoImage → Session → Session
handed_to name image s = record s { job = handing name image s.job }

-- an instance where a header or an undo block was handed in for the image that a session's line has in hand
abbrev pub handed_in : Inst → ℕ → UndoImage → Inst
handed_in n z image = with_session n z (handed_to (name_in_hand n z) image (session_at n z))

-- what a statement has at hand once undo came: it is handed in where the image that it was asked for is in hand still
abbrev pub job_with_undo : Option ImageName → UndoImage → Job → Job
job_with_undo name image job = record job {
  handed = if same_name job.undo_out name then (handing name image job).handed else job.handed;
  handed_for = if same_name job.undo_out name then name else job.handed_for;
  undo_out = None;
}

-- a session to which undo came, by the name of the image that it has in hand
abbrev pub undo_came_to : Option ImageName → UndoImage → Session → Session
undo_came_to name image s = record s { job = job_with_undo name image s.job }

-- an instance to which undo came for a session
abbrev pub undo_came : Inst → ℕ → UndoImage → Inst
undo_came n z image = with_session n z (undo_came_to (name_in_hand n z) image (session_at n z))

-- an instance to which a message came, if it is a copy or undo
abbrev pub came_by : Inst → Option Message → Inst
came_by n (Some (Copy image upto)) = copy_came n image upto
came_by n (Some (UndoIs image job)) = undo_came n job image
came_by n _ = n

-- an instance that has taken a copy or a block of undo
abbrev pub copy_taken : Inst → Core → ℕ → Lane → Inst
copy_taken n core from lane = came_by (hears n core from lane) (first_message n core from lane)

-- A copy that came, if there is one, is of a block.
abbrev pub is_copy_of : ℕ → Option CameCopy → Bool
is_copy_of block None = false
is_copy_of block (Some copy) = copy.image.front.number == block

-- a session without a copy that came of a block
abbrev pub without_came : ℕ → Session → Session
without_came block s =
    record s { job = record s.job { copy = if is_copy_of block s.job.copy then None else s.job.copy } }

-- an instance without copies of a block that came for statements
abbrev pub came_dropped : Inst → ℕ → Inst
came_dropped n block = record n { sessions = map (without_came block) n.sessions }
