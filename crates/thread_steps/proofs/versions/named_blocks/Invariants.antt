use Rattle.std.proofs.Common.{◌≡◌, ◌<◌, All}
use Rattle.std.specs.List.{filter, range_with_len}
use Rattle.thread_steps.specs.Versions.{is_named}
use Rattle.thread_steps.proofs.versions.named_blocks.Given as goal

abbrev pub invariant-loop-number : goal.invariant-loop-number
invariant-loop-number l = record {
  named : l.blocks ≡ filter (is_named l.records) (range_with_len 0 l.number);
  few : All (λ block. block < 200) l.blocks;
}
