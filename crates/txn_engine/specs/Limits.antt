-- What each decision asks of what is at hand. Content that no run leaves is refused here.
use Rattle.std.specs.Prelude.{ℕ, ◌^◌, ◌/◌, ◌==◌, ◌&&◌, nat_le, nat_lt, Bool, true, Option, None, Some}
use Rattle.base_types.specs.declared.names.RowNo.{RowNo}
use Rattle.base_types.specs.declared.names.Xid.{Xid}
use Rattle.block_image.specs.Block.{BlockContent}
use Rattle.undo_image.specs.Header.{HeaderContent, slot_at}
use Rattle.undo_segment.specs.Look.{is_active}

-- A number has room to rise, as each does in a run.
abbrev pub may_rise : ℕ → Bool
may_rise n = nat_lt n (2 ^ 63)

-- A transaction is active in its slot of this header.
abbrev pub is_under_way : HeaderContent → Xid → Bool
is_under_way head x =
    x.seg == head.front.seg && nat_lt x.slot 8 && (slot_at head x.slot).wrap == x.wrap && is_active (slot_at head x.slot).state

-- An image is of one of the 64 data blocks.
abbrev pub is_data_block : BlockContent → Bool
is_data_block image = nat_lt image.front.number 64

-- An image is of the block of a row.
abbrev pub has_row : BlockContent → RowNo → Bool
has_row image row = is_data_block image && image.front.number == row / 8

-- A transaction's first undo record isn't above the next one of its segment.
abbrev pub began_before : HeaderContent → Xid → Bool
began_before head x = nat_le (slot_at head x.slot).first head.front.next

-- The transaction that a change goes on with is under way, if there is one.
abbrev pub may_go_on : HeaderContent → Option Xid → Bool
may_go_on head None = true
may_go_on head (Some x) = is_under_way head x && began_before head x
