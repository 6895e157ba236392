-- What a checkpoint waits for that begins.
use Rattle.std.specs.Prelude.{ℕ, ◌/◌, ◌&&◌, if◌then◌else◌, nat_le, not, Bool, List, [], ◌∷◌, map, Option, None}
use Rattle.std.specs.List.{flat_map, range_with_len}
use Rattle.std.specs.Option.{option_map}
use Rattle.undo_segment.specs.Dirty.{is_dirty}
use Rattle.buffer_cache.specs.Cache.{place_at}
use Rattle.buffer_cache.specs.Place.{holds_dirty}
use Rattle.inst_state.specs.declared.control.Control.{Control}
use Rattle.inst_state.specs.declared.inst.Begun.{Begun}
use Rattle.inst_state.specs.declared.inst.Inst.{Inst}
use Rattle.inst_state.specs.Controls.{is_checkpoint_of}
use Rattle.inst_state.specs.State.{is_down}

-- A checkpoint waits for a data block: its current image is dirty.
abbrev pub waits_for_block : Inst → ℕ → Bool
waits_for_block n block = not (is_down n.life) && holds_dirty (place_at n.cache block).current

-- A checkpoint waits for a block of the own segment, 0 for the header: it is dirty.
abbrev pub waits_for_undo : Inst → ℕ → Bool
waits_for_undo n k = not (is_down n.life) && nat_le k (n.segment.layout.undo / 4) && is_dirty n.segment k

-- the version of the past image of a data block for which a checkpoint waits
abbrev pub waits_for_past : Inst → ℕ → Option ℕ
waits_for_past n block =
    if is_down n.life then None else option_map (λ past. past.image.front.version) (place_at n.cache block).past

-- What a checkpoint waits for that begins now: all that is dirty, and each past image.
unfoldable pub begun_now : Inst → ℕ → Begun
begun_now n line = record {
  line = line;
  blocks = map (waits_for_block n) (range_with_len 0 64);
  segment = map (waits_for_undo n) (range_with_len 0 17);
  pasts = map (waits_for_past n) (range_with_len 0 64);
}

-- A checkpoint begins by a control line that asks this instance for one and isn't answered yet.
abbrev pub begins_by : Inst → Control → Bool
begins_by n control = not control.done && is_checkpoint_of n.plan.me control.wanted

-- the checkpoint that begins by a control line, if one does
abbrev pub begun_by : Inst → Control → List Begun
begun_by n control =
    if begins_by n control then begun_now n control.line ∷ [] else []

-- the checkpoints that begin by control lines
abbrev pub begun_in : Inst → List Control → List Begun
begun_in n controls = flat_map (begun_by n) controls
