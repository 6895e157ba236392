use Rattle.std.proofs.Common.{◌≡◌, replicate}
use Rattle.buffer_cache.specs.Place.{empty_place}
use Rattle.buffer_cache.proofs.cache.empty_places.Given as goal

abbrev pub invariant-loop-block : goal.invariant-loop-block
invariant-loop-block l = l.places.items ≡ replicate l._block empty_place
