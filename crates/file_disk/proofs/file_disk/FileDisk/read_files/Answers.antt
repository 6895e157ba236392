use Rattle.std.proofs.Common.{ap, ◌∙◌}
use Rattle.rac_disk.specs.Content.{Content, log_at}
use Rattle.file_disk.proofs.file_disk.FileDisk.read_files.Goals as goal

pub read_logs-requires-clause-empty : goal.read_logs-requires-clause-empty
read_logs-requires-clause-empty g c = λ thread from below.
    ap (λ (it : Content). log_at it thread) c.read_controls.ensures.others ∙ ap (λ (it : Content). log_at it thread) c.read_blocks.ensures.others ∙ c.requires thread from below
