use Rattle.std.proofs.Common.{◌≡◌, ◌*◌, ◌≤◌, take, sum_by}
use Rattle.buffer_cache.specs.Place.{frames_of}
use Rattle.buffer_cache.proofs.cache.BufferCache.taken.Given as goal

abbrev pub invariant-loop-place : goal.invariant-loop-place
invariant-loop-place l = record {
  counted : l.taken ≡ sum_by frames_of (take l.place-index l.place-items);
  few : l.taken ≤ 2 * l.place-index;
}
