use Rattle.std.proofs.Common.{◌≡◌, ◌++◌, All, length}
use Rattle.redo_record.specs.Front.{log_bytes}
use Rattle.redo_record.specs.Redo.{IsRedo}
use Rattle.thread_steps.proofs.records.records_in.Given as goal

abbrev pub invariant-loop-rest : goal.invariant-loop-rest
invariant-loop-rest l = record {
  each : All IsRedo l.records;
  spelled : l.bytes ≡ log_bytes l.records ++ l.rest;
}

abbrev pub decreases-loop-rest : goal.decreases-loop-rest
decreases-loop-rest l = length l.rest
