use Rattle.std.proofs.Common.{◌≡◌, ◌++◌, drop, map}
use Rattle.std.specs.List.{range_with_len}
use Rattle.buffer_cache.specs.Cache.{place_at}
use Rattle.report_steps.specs.TakeOver.{thawed}
use Rattle.report_steps.proofs.taking.thaw_cache.Given as goal

abbrev pub invariant-loop-block : goal.invariant-loop-block
invariant-loop-block l = l.cache ≡ record l.initial.cache {
  places = map (λ block. thawed l.me l.core block (place_at l.initial.cache block)) (range_with_len 0 l.block) ++ drop l.block l.initial.cache.places;
}
