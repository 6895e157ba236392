use Rattle.std.proofs.Math.Seq.{take-set-lt}
use Rattle.rac_disk.proofs.mem_blocks.MemBlocks.write.Goals as goal

pub returns : goal.returns
returns c = rw (← c.self.view_is, c.from.ensures) (take-set-lt 200 c.self.inside.blocks.items c.args.block c.args.bytes.now c.requires)
