use Rattle.std.proofs.Common.{rules}
use Rattle.redo_merge.specs.Merge.{scn_of}
use Rattle.redo_merge.proofs.Sorting.{sorted-from_sort_by_key}
use Rattle.redo_merge.proofs.merging.sort_by_scn.Goals as goal

pub returns : goal.returns
returns c =
    sorted-from_sort_by_key scn_of _ _ c.in_ok-sort_by_key.ensures.sorted c.in_ok-sort_by_key.ensures.stable (λ a r q k. search rules)
