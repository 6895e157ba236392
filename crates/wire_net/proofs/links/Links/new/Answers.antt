-- After as many pushes there are 128 links.
use Rattle.std.proofs.Common.{◌≡◌, ◌∙◌, ap, [], length, arith, replicate}
use Rattle.std.proofs.lemmas.List.{length-replicate}
use Rattle.wire_net.proofs.links.Links.new.Goals as goal

pub invariant_of-result : goal.invariant_of-result
invariant_of-result c =
    let full : length c.loop.lanes.items ≡ 128 = ap length c.loop.invariant ∙ (length-replicate _ _ ∙ omega arith) in
    omega (arith, c.loop.lanes.ok)
