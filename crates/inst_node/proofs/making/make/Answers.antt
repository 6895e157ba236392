use Rattle.std.proofs.Common.{◌≡◌, subst}
use Rattle.std.specs.Result.{OnOk}
use Rattle.inst_node.specs.Moves.{prepared}
use Rattle.inst_node.proofs.May.{ready_may}
use Rattle.inst_node.proofs.making.make.Goals as goal

pub make_ready-requires : goal.make_ready-requires
make_ready-requires g c =
    let n = c.args.inst.now in
    let core = c.args.core.now in
    let action = c.args.action.now in
    let ready = subst (λ result. OnOk result (c.prepare.new.inst ≡ prepared n core action)) c.in_ok-prepare.was c.prepare.ensures in
    rw (ready, c.count.ensures) (ready_may n core action c.requires)
