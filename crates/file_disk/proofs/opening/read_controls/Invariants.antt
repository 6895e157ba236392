use Rattle.std.proofs.Common.{◌≡◌, IfSome}
use Rattle.rac_disk.specs.Content.{IsDisk}
use Rattle.file_disk.specs.Opening.{HasControls}
use Rattle.file_disk.proofs.opening.read_controls.Given as goal

-- so much was read, and nothing else changed
abbrev pub invariant-loop-thread : goal.invariant-loop-thread
invariant-loop-thread g l = record {
  read : IfSome (g.F.DiskFile.holds l.fn.file) (λ bytes. HasControls l.thread bytes l.content.controls);
  others : l.content ≡ record l.fn.content { controls = l.content.controls };
  holds : g.F.DiskFile.holds l.file ≡ g.F.DiskFile.holds l.fn.file;
  is_disk : IsDisk l.content;
}
