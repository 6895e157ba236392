-- What data blocks are there, and what becomes of begun checkpoints as one leaves its frame.
use Rattle.std.specs.Prelude.{ℕ, ◌&&◌, not, Bool, false, List, length, map, slice_set}
use Rattle.std.specs.List.{list_any, range_with_len}
use Rattle.buffer_cache.specs.Cache.{place_at}
use Rattle.buffer_cache.specs.Place.{holds_dirty}
use Rattle.inst_state.specs.declared.inst.Begun.{Begun}
use Rattle.inst_state.specs.declared.inst.Inst.{Inst}
use Rattle.inst_state.specs.declared.inst.OwnWave.{OwnWave}
use Rattle.inst_state.specs.Needs.{is_used}

-- the numbers of all data blocks
abbrev pub all_blocks : Inst → List ℕ
all_blocks n = range_with_len 0 (length n.cache.places)

-- A dirty current image is in no use.
abbrev pub is_idle_dirty : Inst → ℕ → Bool
is_idle_dirty n block = holds_dirty (place_at n.cache block).current && not (is_used n block)

-- Some dirty current image is in no use.
abbrev pub has_idle_dirty : Inst → Bool
has_idle_dirty n = list_any (is_idle_dirty n) (all_blocks n)

-- a begun checkpoint that doesn't wait for a data block
abbrev pub without_block : ℕ → Begun → Begun
without_block block begun = record begun { blocks = slice_set begun.blocks block false }

-- a wave whose begun checkpoints don't wait for a data block
abbrev pub wave_without : OwnWave → ℕ → OwnWave
wave_without wave block = record wave { checkpoints = map (without_block block) wave.checkpoints }

-- an instance of which a data block was written or has left its frame
abbrev pub left_frame : Inst → ℕ → Inst
left_frame n block = record n { wave = wave_without n.wave block }
