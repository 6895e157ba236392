use Rattle.std.proofs.Common.{◌≡◌, replicate, []}
use Rattle.wire_net.proofs.links.Links.new.Given as goal

abbrev pub invariant-loop : goal.invariant-loop
invariant-loop l = l.lanes.items ≡ replicate l.counter []
