use Rattle.std.proofs.Common.{rules}
use Rattle.file_disk.proofs.Room.{reads_piece}
use Rattle.file_disk.proofs.os_file.read_on.Goals as goal

pub loop-count-preserved : goal.loop-count-preserved
loop-count-preserved g c = record {
  within = search rules;
  room = search rules;
  took = reads_piece _ _ _ c.loop-count.out c.read.new.buf c.loop-count.count c.in_ok-more.more c.loop-count.invariant.within c.in_ok-more.ensures.bound.0 c.loop-count.invariant.took c.in_ok-more.ensures.bytes.0;
}
