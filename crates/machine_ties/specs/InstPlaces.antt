-- What the instances of the cluster have of a block.
use Rattle.std.specs.Prelude.{ℕ, List, Option, None, Some, slice_get}
use Rattle.buffer_cache.specs.declared.place.Place.{Place}
use Rattle.buffer_cache.specs.Cache.{place_at}
use Rattle.buffer_cache.specs.Place.{empty_place}
use Rattle.inst_state.specs.declared.inst.Inst.{Inst}

-- what an instance has of a block, if there is the instance
abbrev pub place_of : Option Inst → ℕ → Place
place_of None block = empty_place
place_of (Some n) block = place_at n.cache block

-- what the instance with a number has of a block
abbrev pub place_in : List Inst → ℕ → ℕ → Place
place_in insts block i = place_of (slice_get insts i) block
