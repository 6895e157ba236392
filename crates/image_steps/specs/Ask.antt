-- A block is asked for.
use Rattle.std.specs.Prelude.{ℕ, ◌==◌, ◌&&◌, ◌||◌, not, nat_lt, if◌then◌else◌, Bool, false, Option, None, Some, is_none, is_some}
use Rattle.std.specs.List.{list_any}
use Rattle.wire_net.specs.declared.message.Message.TheVariants.{Ask}
use Rattle.wire_net.specs.declared.message.Mode.{Mode}
use Rattle.wire_net.specs.declared.message.Mode.TheVariants.{Exclusive, Null, Shared}
use Rattle.buffer_cache.specs.declared.place.Current.{Current}
use Rattle.buffer_cache.specs.Cache.{at_place, free, place_at}
use Rattle.buffer_cache.specs.Place.{with_ask}
use Rattle.inst_state.specs.declared.inst.Inst.{Inst}
use Rattle.inst_state.specs.declared.needs.Needed.{Needed}
use Rattle.inst_state.specs.declared.shared.Core.{Core}
use Rattle.inst_state.specs.Hand.{image_in_hand}
use Rattle.inst_state.specs.Needs.{dead_needed, holds, needed, serves}
use Rattle.image_steps.specs.Frames.{all_blocks}
use Rattle.image_steps.specs.Sends.{sends_to_master}

-- A block is the one that is needed, in this mode or a stronger one.
abbrev pub is_need : ℕ → Mode → Option Needed → Bool
is_need block mode None = false
is_need block mode (Some need) = need.block == block && serves need.mode mode

-- A session's line needs a block in a mode, and has no image of it in hand.
abbrev pub lacks : Inst → ℕ → Mode → ℕ → Bool
lacks n block mode z = is_need block mode (needed n z) && is_none (image_in_hand n z)

-- The dead transaction needs a block in a mode, and the block isn't held exclusively.
abbrev pub dead_lacks : Inst → ℕ → Mode → Bool
dead_lacks n block mode = is_need block mode (dead_needed n) && not (holds n block Exclusive)

-- A block is lacked in a mode, by a session's line or by the dead transaction.
abbrev pub is_lacked : Inst → ℕ → Mode → Bool
is_lacked n block mode = list_any (lacks n block mode) n.plan.mine || dead_lacks n block mode

-- in which mode a block is lacked: exclusively where one of those that lack it needs it so
abbrev pub lacked : Inst → ℕ → Option Mode
lacked n block =
    if is_lacked n block Exclusive then Some Exclusive else if is_lacked n block Shared then Some Shared else None

-- A block is lacked, it isn't asked for, and it isn't held.
abbrev pub wants_frame : Inst → ℕ → Bool
wants_frame n block =
    is_none (place_at n.cache block).asked && is_none (place_at n.cache block).current && is_some (lacked n block)

-- A frame is needed: none is free, and an Ask that isn't an upgrade lacks nothing else.
abbrev pub needs_frame : Inst → Bool
needs_frame n = not (nat_lt 0 (free n.cache)) && list_any (wants_frame n) (all_blocks n)

-- There is a frame for a block: that of its current image, or a free one.
abbrev pub has_frame : Inst → ℕ → Bool
has_frame n block = is_some (place_at n.cache block).current || nat_lt 0 (free n.cache)

-- A block is asked for that is lacked and wasn't asked for, once there is a frame for it.
abbrev pub may_ask : Inst → ℕ → Bool
may_ask n block = is_none (place_at n.cache block).asked && has_frame n block && is_some (lacked n block)

-- an instance that has asked for a block in a mode, if there is one
abbrev pub asked_in : Inst → ℕ → Option Mode → Inst
asked_in n block None = n
asked_in n block (Some mode) = record n { cache = at_place (with_ask (Some mode)) n.cache block }

-- an instance that has asked for a block
abbrev pub asked : Inst → ℕ → Inst
asked n block = asked_in n block (lacked n block)

-- the mode that an Ask says the block is held in: an image is held in S as an upgrade is asked for
abbrev pub held_mode : Option Current → Mode
held_mode None = Null
held_mode (Some now) = Shared

-- the shared part after a block was asked for in a mode, if there is one
abbrev pub ask_sent_in : Inst → Core → ℕ → Option Mode → Core
ask_sent_in n core block None = core
ask_sent_in n core block (Some mode) =
    sends_to_master n core block (Ask block mode (held_mode (place_at n.cache block).current) n.plan.me)

-- the shared part after a block was asked for
abbrev pub ask_sent : Inst → Core → ℕ → Core
ask_sent n core block = ask_sent_in n core block (lacked n block)
