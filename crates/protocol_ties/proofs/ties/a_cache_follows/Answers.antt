-- A cache follows the steps.
use Rattle.protocol_ties.proofs.Places.{cache-changes, cache-writes, cache-evicts, cache-invalidates, cache-has-none, cache-ships, cache-installs, cache-reads, cache-upgrades, cache-drops-past, masters-leave-caches, no-cache-has-new-block, lost-cache-is-empty, caches-are-regranted}
use Rattle.protocol_ties.proofs.ties.a_cache_follows.Goals as goal

pub returns : goal.returns
returns c = record { changes = cache-changes; writes = cache-writes; evicts = cache-evicts; invalidates = cache-invalidates; has_none = cache-has-none; ships = cache-ships; installs = cache-installs; reads = cache-reads; upgrades = cache-upgrades; drops_past = cache-drops-past; masters = masters-leave-caches; new = no-cache-has-new-block; lost = lost-cache-is-empty; regranted = caches-are-regranted }
