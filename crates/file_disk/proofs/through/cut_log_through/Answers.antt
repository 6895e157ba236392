use Rattle.std.proofs.Common.{◌≡◌, ap, sym, ◌∙◌, arith}
use Rattle.std.proofs.lemmas.Grind.{common_steps}
use Rattle.file_disk.specs.Files.{Cut, synced}
use Rattle.file_disk.proofs.LogFiles.{of_log-changed, of_log-other, of_log-file}
use Rattle.file_disk.proofs.through.cut_log_through.Goals as goal

pub returns-in-Ok-clause-file : goal.returns-in-Ok-clause-file
returns-in-Ok-clause-file g c =
    let at : c.from.result ≡ c.args.thread = grind (arith, common_steps) in
    of_log-changed g.F.DiskFile.calls c.args.files.now c.from.result c.args.thread c.cut_through.new.file at c.requires
    ∙ c.in-Ok.ensures
    ∙ ap (synced (Cut c.args.len)) (sym (of_log-file g.F.DiskFile.calls c.args.files.now c.from.result c.args.thread c.index-files-from.result at c.requires))

pub returns-in-Ok-clause-others : goal.returns-in-Ok-clause-others
returns-in-Ok-clause-others g c =
    of_log-other g.F.DiskFile.calls c.args.files.now c.from.result c.args.thread c.cut_through.new.file (grind (arith, common_steps))

pub returns-in-Err-clause-others : goal.returns-in-Err-clause-others
returns-in-Err-clause-others g c =
    of_log-other g.F.DiskFile.calls c.args.files.now c.from.result c.args.thread c.is_cut.new.file (grind (arith, common_steps))
