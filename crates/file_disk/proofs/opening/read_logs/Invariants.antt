use Rattle.std.proofs.Common.{◌≡◌, map}
use Rattle.rac_disk.specs.Content.{IsDisk}
use Rattle.file_disk.specs.Opening.{HasEmptyLogs, HasLogs}
use Rattle.file_disk.proofs.opening.read_logs.Given as goal

-- the first logs are read, the others are empty, and all else is as it was
abbrev pub invariant-loop-thread : goal.invariant-loop-thread
invariant-loop-thread g l = record {
  read : HasLogs l.thread (map g.F.DiskFile.holds l.fn.files) l.content;
  rest : HasEmptyLogs l.thread l.content;
  others : l.content ≡ record l.fn.content { logs = l.content.logs };
  holds : map g.F.DiskFile.holds l.files ≡ map g.F.DiskFile.holds l.fn.files;
  is_disk : IsDisk l.content;
}
