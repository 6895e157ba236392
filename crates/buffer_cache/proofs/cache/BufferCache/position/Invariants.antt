use Rattle.std.proofs.Common.{◌≡◌, ◌++◌, take, fold, min}
use Rattle.std.specs.List.{flat_map}
use Rattle.std.specs.Option.{option_to_list}
use Rattle.buffer_cache.specs.Place.{mine_of}
use Rattle.buffer_cache.proofs.cache.BufferCache.position.Given as goal

abbrev pub invariant-loop-place : goal.invariant-loop-place
invariant-loop-place l =
    l.lowest ≡ fold min l.fn.durable (option_to_list l.fn.first ++ flat_map mine_of (take l.place-index l.place-items))
