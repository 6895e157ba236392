use Rattle.std.proofs.Common.{◌∙◌, ap}
use Rattle.buffer_cache.specs.Cache.{CacheState, at_place}
use Rattle.buffer_cache.specs.Place.{regranted}
use Rattle.report_steps.specs.TakeOver.{without_rebuilt}
use Rattle.report_steps.proofs.Places.{at_twice}
use Rattle.report_steps.proofs.taking.change_place.Goals as goal

pub returns : goal.returns
returns c =
    let change = regranted c.args.grant c.args.role in
    c.regrant.ensures ∙ ap (λ (cache : CacheState). at_place change cache c.args.block) c.drop_rebuilt.ensures
    ∙ at_twice (without_rebuilt c.args.version) change c.args.cache.now c.args.block
