use Rattle.std.proofs.Common.{arith}
use Rattle.std.proofs.lemmas.Grind.{common_steps}
use Rattle.rac_io.proofs.Known.{appends_piece}
use Rattle.rac_io.proofs.write.write_whole.Goals as goal

pub loop-written-preserved : goal.loop-written-preserved
loop-written-preserved g c = record {
  within = grind (arith, common_steps);
  wrote = appends_piece _ _ _ c.args.bytes.now c.loop-written.written c.in_ok-written.field-0 c.loop-written.invariant.wrote c.in_ok-written.ensures.ok;
  faults = grind (arith, common_steps);
  stalls = grind (arith, common_steps);
  begun = grind (arith, common_steps);
}
