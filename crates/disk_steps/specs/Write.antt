-- A dirty block is written.
use Rattle.std.specs.Prelude.{ℕ, ◌-◌, ◌==◌, ◌&&◌, ◌||◌, not, nat_le, nat_lt, if◌then◌else◌, Bool, true, false, List, length, map, Option, None, Some, is_some, replicate, slice_get, slice_index_or, slice_set}
use Rattle.std.specs.List.{list_any, position}
use Rattle.std.specs.Option.{option_map}
use Rattle.block_image.specs.Block.{BlockContent, block_bytes}
use Rattle.inst_set.specs.Sets.{has}
use Rattle.undo_segment.specs.Dirty.{bytes_of, cleaned, is_dirty}
use Rattle.undo_segment.specs.Segment.{SegmentState, ring_block}
use Rattle.wire_net.specs.declared.message.Message.TheVariants.{Wrote}
use Rattle.wire_net.specs.declared.message.Role.{Role}
use Rattle.wire_net.specs.declared.message.Role.TheVariants.{Global, Local}
use Rattle.buffer_cache.specs.declared.place.Current.{Current}
use Rattle.buffer_cache.specs.Cache.{at_place, place_at}
use Rattle.buffer_cache.specs.Place.{holds_dirty, with_written}
use Rattle.inst_state.specs.declared.inst.Begun.{Begun}
use Rattle.inst_state.specs.declared.inst.Inst.{Inst}
use Rattle.inst_state.specs.declared.inst.Leading.{Leading}
use Rattle.inst_state.specs.declared.inst.OwnWave.{OwnWave}
use Rattle.inst_state.specs.declared.shared.Core.{Core}
use Rattle.inst_state.specs.Hand.{current_image}
use Rattle.inst_state.specs.Shared.{is_dark, is_frozen, is_led_by, is_thawed}
use Rattle.inst_state.specs.State.{is_durable, is_forced}
use Rattle.image_steps.specs.Ask.{needs_frame}
use Rattle.image_steps.specs.Evict.{can_evict}
use Rattle.image_steps.specs.Frames.{is_idle_dirty, left_frame, wave_without}
use Rattle.image_steps.specs.Sends.{sends_to_master}
use Rattle.image_steps.specs.ServeUndo.{place_in}
use Rattle.inst_loss.specs.Lost.{lost}
use Rattle.inst_loss.specs.LostCore.{lost_core}
use Rattle.inst_loss.specs.declared.ends.Loss.TheVariants as loss
use Rattle.disk_calls.specs.declared.writes.Written.{Written}
use Rattle.disk_calls.specs.declared.writes.Written.TheVariants.{Done, Failed}
use Rattle.disk_steps.specs.declared.writing.Target.{Target}
use Rattle.disk_steps.specs.declared.writing.Target.TheVariants.{Adopted, Data, Own}

-- A segment has a block.
abbrev pub has_block : ℕ → SegmentState → Bool
has_block block segment = is_some (place_in segment block)

-- a block is one of an adopted segment, at a place, or else of the own one
abbrev pub undo_target : Option ℕ → Target
undo_target (Some at) = Adopted at
undo_target None = Own

-- what a block is that may be written: a data block, one of an adopted segment, or one of the own segment
abbrev pub target : Inst → ℕ → Target
target n block =
    if nat_lt block (length n.cache.places) then Data else undo_target (position (has_block block) n.leading.adopted)

-- An instance leads a recovery whose phase is Thawed.
abbrev pub leads : Inst → Core → Bool
leads n core = is_thawed core.members.phase && is_led_by core n.plan.me

-- An instance goes on, or leads.
abbrev pub goes_on_or_leads : Inst → Core → Bool
goes_on_or_leads n core = not n.paused || leads n core

-- Past images may be kept elsewhere.
abbrev pub is_global_role : Role → Bool
is_global_role Global = true
is_global_role Local = false

-- The role of a current image is global, if there is one.
abbrev pub is_global : Option Current → Bool
is_global None = false
is_global (Some current) = is_global_role current.role

-- A begun checkpoint waits for a data block.
abbrev pub is_waited_for : Inst → ℕ → Bool
is_waited_for n block = list_any (λ (begun : Begun). slice_index_or begun.blocks block false) n.wave.checkpoints

-- A dirty image goes to the disk before its instance reports, where a past image of it may be kept elsewhere.
abbrev pub goes_before_report : Inst → Core → ℕ → Bool
goes_before_report n core block =
    is_frozen core.members.phase && not (has core.members.reported n.plan.me)
    && is_global (place_at n.cache block).current

-- A dirty image is in no use, and its frame is needed.
abbrev pub gives_frame : Inst → ℕ → Bool
gives_frame n block = is_idle_dirty n block && needs_frame n && not (can_evict n)

-- A dirty data block is to be written.
abbrev pub is_data_due : Inst → Core → ℕ → Bool
is_data_due n core block =
    holds_dirty (place_at n.cache block).current
    && ((place_at n.cache block).wish || goes_before_report n core block
    || goes_on_or_leads n core && (is_waited_for n block || gives_frame n block))

-- A begun checkpoint waits for a block of the own segment.
abbrev pub is_undo_waited_for : Inst → ℕ → Bool
is_undo_waited_for n k = list_any (λ (begun : Begun). slice_index_or begun.segment k false) n.wave.checkpoints

-- A dirty block of the own segment is to be written, if it is one of its blocks.
abbrev pub is_own_due : Inst → Core → Option ℕ → Bool
is_own_due n core None = false
is_own_due n core (Some k) =
    goes_on_or_leads n core && not (is_dark core.members.phase) && is_dirty n.segment k && is_undo_waited_for n k

-- A block of a segment is dirty, if it is one of its blocks.
abbrev pub is_dirty_in : SegmentState → Option ℕ → Bool
is_dirty_in segment None = false
is_dirty_in segment (Some k) = is_dirty segment k

-- A block of an adopted segment is dirty, if there is the segment.
abbrev pub is_dirty_at : Option SegmentState → ℕ → Bool
is_dirty_at None block = false
is_dirty_at (Some segment) block = is_dirty_in segment (place_in segment block)

-- What was adopted is written by the leader while the phase is Thawed, and also while it is Frozen.
abbrev pub goes_on_adopted : Inst → Core → Bool
goes_on_adopted n core = leads n core || is_frozen core.members.phase

-- A dirty block is to be written, by what it is.
abbrev pub is_due_as : Inst → Core → ℕ → Target → Bool
is_due_as n core block Data = is_data_due n core block
is_due_as n core block (Adopted at) = goes_on_adopted n core && is_dirty_at (slice_get n.leading.adopted at) block
is_due_as n core block Own = is_own_due n core (place_in n.segment block)

-- A dirty block is to be written, once its redo is on the disk.
abbrev pub is_due : Inst → Core → ℕ → Bool
is_due n core block = is_due_as n core block (target n block)

-- the SCN of the last record on a block of a segment, the header first
abbrev pub scn_at : SegmentState → ℕ → ℕ
scn_at segment k = if k == 0 then segment.head.front.scn else (ring_block segment (k - 1)).front.scn

-- The redo of a block of a segment is on the disk, if it is one of its blocks.
abbrev pub undo_is_durable : Inst → SegmentState → Option ℕ → Bool
undo_is_durable n segment None = false
undo_is_durable n segment (Some k) = is_forced n || nat_le (scn_at segment k) n.thread.durable_scn

-- The redo of a block of an adopted segment is on the disk, if there is the segment.
abbrev pub adopted_is_durable : Inst → Option SegmentState → ℕ → Bool
adopted_is_durable n None block = false
adopted_is_durable n (Some segment) block = undo_is_durable n segment (place_in segment block)

-- The redo of a block is on the disk, by what the block is.
abbrev pub redo_is_durable_as : Inst → ℕ → Target → Bool
redo_is_durable_as n block Data = is_durable n block
redo_is_durable_as n block (Adopted at) = adopted_is_durable n (slice_get n.leading.adopted at) block
redo_is_durable_as n block Own = undo_is_durable n n.segment (place_in n.segment block)

-- The redo of a block is on the disk.
abbrev pub redo_is_durable : Inst → ℕ → Bool
redo_is_durable n block = redo_is_durable_as n block (target n block)

-- A block is written that is due, once its redo is on the disk.
abbrev pub may_write_block : Inst → Core → ℕ → Bool
may_write_block n core block = nat_lt block 200 && is_due n core block && redo_is_durable n block

-- the bytes of no block
unfoldable pub no_bytes : List ℕ
no_bytes = replicate 512 0

-- the bytes of an image, if there is one
abbrev pub image_bytes : Option BlockContent → List ℕ
image_bytes None = no_bytes
image_bytes (Some image) = block_bytes image

-- the bytes of a block of a segment, if it is one of its blocks
abbrev pub undo_bytes_in : SegmentState → Option ℕ → List ℕ
undo_bytes_in segment None = no_bytes
undo_bytes_in segment (Some k) = bytes_of segment k

-- the bytes of a block of an adopted segment, if there is the segment
abbrev pub undo_bytes_at : Option SegmentState → ℕ → List ℕ
undo_bytes_at None block = no_bytes
undo_bytes_at (Some segment) block = undo_bytes_in segment (place_in segment block)

-- the bytes of a block, by what it is
abbrev pub bytes_as : Inst → ℕ → Target → List ℕ
bytes_as n block Data = image_bytes (current_image n block)
bytes_as n block (Adopted at) = undo_bytes_at (slice_get n.leading.adopted at) block
bytes_as n block Own = undo_bytes_in n.segment (place_in n.segment block)

-- the bytes of a block
abbrev pub bytes_to_write : Inst → ℕ → List ℕ
bytes_to_write n block = bytes_as n block (target n block)

-- a segment of which a block was written, if it is one of its blocks
abbrev pub cleaned_in : SegmentState → Option ℕ → SegmentState
cleaned_in segment None = segment
cleaned_in segment (Some k) = cleaned segment k

-- the adopted segments with another one at a place, if there is one
abbrev pub with_segment : List SegmentState → ℕ → Option SegmentState → List SegmentState
with_segment adopted at None = adopted
with_segment adopted at (Some segment) = slice_set adopted at segment

-- the adopted segments after a block of the one at a place was written
abbrev pub adopted_cleaned : List SegmentState → ℕ → ℕ → List SegmentState
adopted_cleaned adopted at block =
    with_segment adopted at (option_map (λ segment. cleaned_in segment (place_in segment block)) (slice_get adopted at))

-- a begun checkpoint that doesn't wait for a block of the own segment
abbrev pub without_undo : ℕ → Begun → Begun
without_undo k begun = record begun { segment = slice_set begun.segment k false }

-- the wave once a block of the own segment was written, if it is one of its blocks
abbrev pub undo_left : OwnWave → Option ℕ → OwnWave
undo_left wave None = wave
undo_left wave (Some k) = record wave { checkpoints = map (without_undo k) wave.checkpoints }

-- an instance of which a block was written, by what it is
abbrev pub written_as : Inst → ℕ → Target → Inst
written_as n block Data =
    record n { cache = at_place with_written n.cache block; wave = wave_without n.wave block }
written_as n block (Adopted at) =
    record n { leading = record n.leading { adopted = adopted_cleaned n.leading.adopted at block } }
written_as n block Own =
    record n {
      segment = cleaned_in n.segment (place_in n.segment block);
      wave = undo_left n.wave (place_in n.segment block);
    }

-- an instance after a write of a block that went so
abbrev pub block_written : Inst → ℕ → Written → Inst
block_written n block Done = written_as n block (target n block)
block_written n block Failed = lost n

-- The master is told of a write of an image whose role was global or of which a write was asked for, but not before a report.
abbrev pub tells_of : Inst → Core → ℕ → Bool
tells_of n core block =
    not (is_frozen core.members.phase)
    && (is_global (place_at n.cache block).current || (place_at n.cache block).wish)

-- the shared part once the master was told of a written image, if there is one
abbrev pub wrote_sent : Inst → Core → ℕ → Option BlockContent → Core
wrote_sent n core block None = core
wrote_sent n core block (Some image) =
    if tells_of n core block then sends_to_master n core block (Wrote block image.front.version) else core

-- the shared part after a write, by what the block is
abbrev pub write_told_as : Inst → Core → ℕ → Target → Core
write_told_as n core block Data = wrote_sent n core block (current_image n block)
write_told_as n core block _ = core

-- the shared part after a write of a block that went so
abbrev pub write_told : Inst → Core → ℕ → Written → Core
write_told n core block Done = write_told_as n core block (target n block)
write_told n core block Failed = lost_core n core (loss.Ended false) (Some 0)
