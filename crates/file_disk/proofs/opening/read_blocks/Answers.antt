use Rattle.std.proofs.Common.{rules, arith, ◌<◌, length}
use Rattle.file_disk.proofs.OpeningLemmas.{one_block_more}
use Rattle.file_disk.proofs.opening.read_blocks.Goals as goal

pub loop-block-preserved : goal.loop-block-preserved
loop-block-preserved g c =
    let inside : c.loop-block.block < length c.loop-block.content.blocks = omega (arith, c.loop-block.invariant.is_disk.blocks, c.loop-block-test.true) in
    record {
      read = one_block_more (g.F.DiskFile.holds c.args.file.now) (g.F.DiskFile.holds c.loop-block.file) c.loop-block.block c.loop-block.content c.read_block.new.content c.loop-block.invariant.holds inside c.loop-block.invariant.read c.in_ok-read_block.ensures.block;
      others = search rules;
      holds = search rules;
      is_disk = search rules;
    }
