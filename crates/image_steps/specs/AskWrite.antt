-- The holder of a past image asks that the block be written.
use Rattle.std.specs.Prelude.{ℕ, ◌==◌, ◌&&◌, ◌||◌, not, Bool, false, Option, None, Some, slice_index_or}
use Rattle.std.specs.List.{list_any}
use Rattle.std.specs.Option.{option_map}
use Rattle.wire_net.specs.declared.message.Message.TheVariants.{WritePlease}
use Rattle.buffer_cache.specs.Cache.{at_place, place_at}
use Rattle.buffer_cache.specs.Place.{is_marked, with_past_asked}
use Rattle.inst_state.specs.declared.inst.Begun.{Begun}
use Rattle.inst_state.specs.declared.inst.Inst.{Inst}
use Rattle.inst_state.specs.declared.shared.Core.{Core}
use Rattle.image_steps.specs.Ask.{needs_frame}
use Rattle.image_steps.specs.Evict.{can_evict}
use Rattle.image_steps.specs.Frames.{has_idle_dirty}
use Rattle.image_steps.specs.Sends.{sends_to_master}

-- the version of the past image of a block
abbrev pub past_version : Inst → ℕ → Option ℕ
past_version n block = option_map (λ past. past.image.front.version) (place_at n.cache block).past

-- A version, if there is one, is this one.
abbrev pub is_version : ℕ → Option ℕ → Bool
is_version version None = false
is_version version (Some other) = other == version

-- A begun checkpoint waits for the past image of a block at a version to go.
abbrev pub waits_for_past : ℕ → ℕ → Begun → Bool
waits_for_past block version begun = is_version version (slice_index_or begun.pasts block None)

-- Some begun checkpoint waits for the past image of a block at a version to go.
abbrev pub is_past_waited_for : Inst → ℕ → ℕ → Bool
is_past_waited_for n block version = list_any (waits_for_past block version) n.wave.checkpoints

-- A frame is needed, and no current image can go for it, not even once it is written.
abbrev pub needs_past_frame : Inst → Bool
needs_past_frame n = needs_frame n && not (can_evict n) && not (has_idle_dirty n)

-- The past image of a block at a version, if there is one, is to go.
abbrev pub is_to_go : Inst → ℕ → Option ℕ → Bool
is_to_go n block None = false
is_to_go n block (Some version) = is_past_waited_for n block version || needs_past_frame n

-- A write is asked for that lets a past image go which is to go, unless one was asked for.
abbrev pub may_ask_write : Inst → ℕ → Bool
may_ask_write n block = not (is_marked (place_at n.cache block).past) && is_to_go n block (past_version n block)

-- an instance that has asked for a write of a block
abbrev pub write_asked : Inst → ℕ → Inst
write_asked n block = record n { cache = at_place with_past_asked n.cache block }

-- the shared part after a write was asked for that lets a past image of this version go, if there is one
abbrev pub plea_sent : Inst → Core → ℕ → Option ℕ → Core
plea_sent n core block None = core
plea_sent n core block (Some version) = sends_to_master n core block (WritePlease block version n.plan.me None)

-- the shared part after a write of a block was asked for
abbrev pub write_plea_sent : Inst → Core → ℕ → Core
write_plea_sent n core block = plea_sent n core block (past_version n block)
