use Rattle.std.proofs.Common.{refl}
use Rattle.resource_dir.proofs.Anew.{op-rebuilt}
use Rattle.resource_dir.proofs.laws.a_new_entry_has_no_operation.Goals as goal

pub returns : goal.returns
returns c = record { empty = refl; rebuilt = op-rebuilt }
