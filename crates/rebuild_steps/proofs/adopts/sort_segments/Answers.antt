use Rattle.std.proofs.Common.{rules}
use Rattle.redo_merge.proofs.Sorting.{sorted-from_sort_by_key}
use Rattle.rebuild_steps.specs.Adopt.{seg_of}
use Rattle.rebuild_steps.proofs.adopts.sort_segments.Goals as goal

pub returns : goal.returns
returns c =
    sorted-from_sort_by_key seg_of _ _ c.in_ok-sort_by_key.ensures.sorted c.in_ok-sort_by_key.ensures.stable (λ a r q k. search rules)
