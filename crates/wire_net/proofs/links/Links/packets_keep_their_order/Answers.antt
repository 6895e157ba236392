-- What is put on a link is there.
use Rattle.std.proofs.Common.{◌≡◌, length, ap, arith}
use Rattle.wire_net.specs.Links.{lane_for}
use Rattle.wire_net.proofs.PlaceLemmas.{put-is-there}
use Rattle.wire_net.proofs.links.Links.packets_keep_their_order.Goals as goal

pub returns-clause-last : goal.returns-clause-last
returns-clause-last c =
    let all : length c.args.self.now ≡ 128 = omega (arith, ap length c.self.view_is, c.self.inside.lanes.ok, c.self.invariant) in
    put-is-there c.args.self.now c.args.from c.args.to (lane_for c.args.packet.now.message) _ all c.requires.from c.requires.to

pub returns-clause-rest : goal.returns-clause-rest
returns-clause-rest c =
    let all : length c.args.self.now ≡ 128 = omega (arith, ap length c.self.view_is, c.self.inside.lanes.ok, c.self.invariant) in
    put-is-there c.args.self.now c.args.from c.args.to c.args.lane _ all c.requires.from c.requires.to
