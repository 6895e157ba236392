-- What the top call does over the disk that was opened, the program does.
use Rattle.std.proofs.Common.{inr, refl}
use Rattle.rac_program.proofs.over_disk.program.Goals as goal

pub returns-in-Ok : goal.returns-in-Ok
returns-in-Ok g c = inr (record { disk = _; disk_now = _; tells = refl; new = (c.in-Ok.ensures.faults, c.in-Ok.ensures.full); does = c.rac.ensures.does })

pub returns-in-Ok-new : goal.returns-in-Ok-new
returns-in-Ok-new g c = inr (record { disk = _; disk_now = _; tells = refl; new = rw c.in-Ok-new.ensures (refl, refl); does = c.rac-in-Ok-new.ensures.does })
