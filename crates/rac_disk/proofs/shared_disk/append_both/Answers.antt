use Rattle.rac_disk.proofs.Two.{two_appends}
use Rattle.rac_disk.proofs.shared_disk.append_both.Goals as goal

pub returns : goal.returns
returns g c = two_appends _ _ _ _ _ c.args.t c.args.first.now c.args.second.now c.requires c.in_ok-append.ensures c.append-2.ensures
