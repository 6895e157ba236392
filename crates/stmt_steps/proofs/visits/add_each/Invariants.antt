use Rattle.std.proofs.Common.{◌≡◌, ◌+◌, ◌*◌, ◌++◌, slice_index_or, take}
use Rattle.std.specs.List.{flat_map}
use Rattle.base_types.specs.declared.value.Value.TheVariants.{Absent}
use Rattle.stmt_steps.specs.Visit.{row_if}
use Rattle.stmt_steps.proofs.visits.add_each.Given as goal

abbrev pub invariant-loop-place : goal.invariant-loop-place
invariant-loop-place l = l.rows ≡ l.fn.rows ++ flat_map (λ place. row_if l.range (8 * l.block + place) (slice_index_or l.values place Absent)) (take l.place-index l.places)
