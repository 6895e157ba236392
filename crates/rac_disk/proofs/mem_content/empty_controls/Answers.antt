use Rattle.std.proofs.Common.{refl}
use Rattle.rac_disk.specs.Memory.{zero_entry}
use Rattle.rac_disk.proofs.mem_content.empty_controls.Goals as goal

pub returns : goal.returns
unfolding zero_entry
returns c = refl
