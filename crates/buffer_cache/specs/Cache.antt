-- What an instance has of all data blocks, and what becomes of it.
use Rattle.std.specs.Prelude.{ℕ, ◌-◌, Bool, List, [], ◌++◌, Option, Some, None, ◌||◌, fold, map, min, is_some, nat_eq, nat_le, nat_lt, replicate, slice_index_or, slice_set, sum_by}
use Rattle.std.specs.Bool.{if◌then◌else◌}
use Rattle.std.specs.List.{flat_map}
use Rattle.std.specs.Map.{lookup, remove_entry}
use Rattle.std.specs.Option.{option_to_list}
use Rattle.base_types.specs.declared.names.RedoAt.{RedoAt}
use Rattle.base_types.specs.declared.names.Scn.{Scn}
use Rattle.block_image.specs.Block.{BlockContent}
use Rattle.lru.specs.LruCache.{lru_cache, promoted, put_entries}
use Rattle.buffer_cache.specs.declared.copy.KeptCopy.{KeptCopy}
use Rattle.buffer_cache.specs.declared.place.Current.{Current}
use Rattle.buffer_cache.specs.declared.place.Place.{Place}
use Rattle.buffer_cache.specs.Place.{empty_place, forgotten, frames_of, holds_shared, mine_of, with_current}

-- How many frames there are, what the instance has of each block by its number, and the kept copies by block, the one
-- used last first.
pub record CacheState : Type 0 where
  pub frames : ℕ
  pub places : List Place
  pub copies : List (ℕ × KeptCopy)

-- a cache with nothing in it
abbrev pub empty_cache : ℕ → ℕ → CacheState
empty_cache frames blocks =
    record { frames = frames; places = replicate blocks empty_place; copies = [] }

-- what the instance has of a block
abbrev pub place_at : CacheState → ℕ → Place
place_at cache block = slice_index_or cache.places block empty_place

-- What the instance has of a block becomes what `change` makes of it.
abbrev pub at_place : (Place → Place) → CacheState → ℕ → CacheState
at_place change cache block =
    record cache { places = slice_set cache.places block (change (place_at cache block)) }

-- how many frames are taken
abbrev pub taken : CacheState → ℕ
taken cache = sum_by frames_of cache.places

-- how many frames are free
abbrev pub free : CacheState → ℕ
free cache = cache.frames - taken cache

-- there is a frame for an ask: a free one, or that of the image in S
abbrev pub may_ask : CacheState → ℕ → Bool
may_ask cache block = nat_lt (taken cache) cache.frames || holds_shared (place_at cache block).current

-- A current image of a block came: its past image, its kept copy and its reservation go.
abbrev pub installed : CacheState → ℕ → Option Current → CacheState
installed cache block current = record (at_place (with_current current) cache block) {
  copies = remove_entry (nat_eq block) cache.copies;
}

-- Nothing is asked for any more, and no copy is kept.
abbrev pub forgets : CacheState → CacheState
forgets cache = record cache { places = map forgotten cache.places; copies = [] }

-- the kept copy's image, where it serves statements of this SCN
abbrev pub fitting : Scn → Option KeptCopy → Option BlockContent
fitting scn None = None
fitting scn (Some copy) = if nat_le scn copy.upto then Some copy.image else None

-- the image of the kept copy of a block that serves statements of this SCN
abbrev pub copy_at : CacheState → ℕ → Scn → Option BlockContent
copy_at cache block scn = fitting scn (lookup (nat_eq block) cache.copies)

-- A copy is kept and goes first: in the place of the block's own, else, where there are too many, of the one used longest
-- ago.
abbrev pub with_copy : CacheState → BlockContent → Scn → CacheState
with_copy cache image upto = record cache {
  copies = put_entries nat_eq (lru_cache cache.copies cache.frames) image.front.number (record { image = image; upto = upto });
}

-- The kept copy of a block goes first, where it serves statements of this SCN.
abbrev pub with_copy_used : CacheState → ℕ → Scn → CacheState
with_copy_used cache block scn = record cache {
  copies = if is_some (copy_at cache block scn) then promoted (nat_eq block) cache.copies else cache.copies;
}

-- The kept copy of a block goes.
abbrev pub without_copy : CacheState → ℕ → CacheState
without_copy cache block = record cache { copies = remove_entry (nat_eq block) cache.copies }

-- The least place of an own record that may be missing in the disk's image of a block. Also the first record of the undo
-- segment that isn't on disk counts, and the end of what is durable.
abbrev pub position : CacheState → Option RedoAt → RedoAt → RedoAt
position cache first durable = fold min durable (option_to_list first ++ flat_map mine_of cache.places)
