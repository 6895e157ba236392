use Rattle.std.proofs.Common.{◌<◌, ◌∙◌, ℕ, subst}
use Rattle.report_steps.specs.TakeOver.{thawed}
use Rattle.report_steps.proofs.Places.{cache_more}
use Rattle.report_steps.proofs.taking.thaw_cache.Goals as goal

pub loop-block-preserved : goal.loop-block-preserved
loop-block-preserved c =
    let within = subst (λ (n : ℕ). c.loop-block.block < n) c.blocks-block-end.ensures c.loop-block-test.true in
    c.thaw_place.ensures ∙ cache_more (λ block. thawed c.args.me c.args.core.now block) c.args.cache.now c.loop-block.cache c.loop-block.block within c.loop-block.invariant
