use Rattle.rac_disk.proofs.New.{new_content-IsDisk}
use Rattle.rac_disk.proofs.mem_content.MemContent.new.Goals as goal

pub invariant_of-result : goal.invariant_of-result
invariant_of-result c = rw (c.in_ok-new.ensures, c.in_ok-empty_logs.ensures, c.empty_controls.ensures) (new_content-IsDisk c.args.log_bytes)

pub returns-clause-is_disk : goal.returns-clause-is_disk
returns-clause-is_disk c = rw (c.in_ok-new.ensures, c.in_ok-empty_logs.ensures, c.empty_controls.ensures) (new_content-IsDisk c.args.log_bytes)
