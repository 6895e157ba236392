-- A clean image is dropped for a frame.
use Rattle.std.specs.Prelude.{ℕ, ◌&&◌, not, Bool, Option, None, Some, is_none}
use Rattle.std.specs.List.{list_any}
use Rattle.wire_net.specs.declared.message.Message.TheVariants.{GaveUp}
use Rattle.buffer_cache.specs.Cache.{at_place, place_at}
use Rattle.buffer_cache.specs.Place.{clean_grant, holds_clean, without_clean}
use Rattle.inst_state.specs.declared.inst.Inst.{Inst}
use Rattle.inst_state.specs.declared.shared.Core.{Core}
use Rattle.inst_state.specs.Needs.{is_used}
use Rattle.image_steps.specs.Ask.{needs_frame}
use Rattle.image_steps.specs.Frames.{all_blocks, wave_without}
use Rattle.image_steps.specs.Sends.{sends_to_master}

-- A current image may go for a frame: it is clean and in no use, and no Ask is out.
abbrev pub is_free_to_go : Inst → ℕ → Bool
is_free_to_go n block =
    holds_clean (place_at n.cache block).current && is_none (place_at n.cache block).asked && not (is_used n block)

-- Some current image may go for a frame.
abbrev pub can_evict : Inst → Bool
can_evict n = list_any (is_free_to_go n) (all_blocks n)

-- An image is dropped that may go, where a frame is needed.
abbrev pub may_evict : Inst → ℕ → Bool
may_evict n block = is_free_to_go n block && needs_frame n

-- an instance that has dropped the clean image of a block
abbrev pub evicted : Inst → ℕ → Inst
evicted n block = record n { cache = at_place without_clean n.cache block; wave = wave_without n.wave block }

-- the shared part after the master was told that an image of a grant was given up, if there is one
abbrev pub gave_up : Inst → Core → ℕ → Option ℕ → Core
gave_up n core block None = core
gave_up n core block (Some grant) = sends_to_master n core block (GaveUp block grant)

-- the shared part after the clean image of a block was dropped
abbrev pub evict_sent : Inst → Core → ℕ → Core
evict_sent n core block = gave_up n core block (clean_grant (place_at n.cache block).current)
