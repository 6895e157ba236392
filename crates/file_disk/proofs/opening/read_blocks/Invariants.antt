use Rattle.std.proofs.Common.{◌≡◌, IfSome}
use Rattle.rac_disk.specs.Content.{IsDisk}
use Rattle.file_disk.specs.Opening.{HasBlocks}
use Rattle.file_disk.proofs.opening.read_blocks.Given as goal

-- so much was read, and nothing else changed
abbrev pub invariant-loop-block : goal.invariant-loop-block
invariant-loop-block g l = record {
  read : IfSome (g.F.DiskFile.holds l.fn.file) (λ bytes. HasBlocks l.block bytes l.content.blocks);
  others : l.content ≡ record l.fn.content { blocks = l.content.blocks };
  holds : g.F.DiskFile.holds l.file ≡ g.F.DiskFile.holds l.fn.file;
  is_disk : IsDisk l.content;
}
