use Rattle.std.proofs.Common.{◌≡◌, filter_map}
use Rattle.std.specs.List.{range_with_len}
use Rattle.report_steps.specs.Report.{frame_at}
use Rattle.report_steps.proofs.reporting.frames_of.Given as goal

abbrev pub invariant-loop-block : goal.invariant-loop-block
invariant-loop-block l = l.frames ≡ filter_map (frame_at l.inst) (range_with_len 0 l.block)
