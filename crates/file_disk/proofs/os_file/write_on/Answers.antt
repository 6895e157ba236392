use Rattle.std.proofs.Common.{rules}
use Rattle.rac_io.proofs.Known.{appends_piece}
use Rattle.file_disk.proofs.os_file.write_on.Goals as goal

pub loop-count-preserved : goal.loop-count-preserved
loop-count-preserved g c = record {
  within = search rules;
  wrote = appends_piece _ _ _ c.args.bytes.now c.loop-count.count c.in_ok-more.more c.loop-count.invariant.wrote c.in_ok-more.ensures.bytes;
}
