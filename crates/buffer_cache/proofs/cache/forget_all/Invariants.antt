use Rattle.std.proofs.Common.{◌≡◌, ◌++◌, drop, map, take}
use Rattle.buffer_cache.specs.Place.{forgotten}
use Rattle.buffer_cache.proofs.cache.forget_all.Given as goal

abbrev pub invariant-loop-place : goal.invariant-loop-place
invariant-loop-place l = l.places ≡ map forgotten (take l.place-index l.initial.places) ++ drop l.place-index l.initial.places
