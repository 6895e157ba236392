-- Each segment that a leader adopts is one of the layout.
use Rattle.std.proofs.Common.{◌≡◌, ℕ, ◌<◌, true, arith}
use Rattle.std.specs.List.{All}
use Rattle.std.proofs.lemmas.List.Elements.{All-weaker, filter_passes}
use Rattle.inst_set.specs.Sets.{all_insts}
use Rattle.inst_state.specs.declared.inst.Inst.{Inst}
use Rattle.inst_state.specs.declared.shared.Core.{Core}
use Rattle.rebuild_steps.specs.Adopt.{is_to_adopt, to_adopt}

within : (n : Inst) (core : Core) (seg : ℕ) → is_to_adopt n core seg ≡ true → seg < n.plan.layout.instances
within n core seg is = grind (arith, is)

pub to_adopt_in_range : (n : Inst) (core : Core) → All (λ seg. seg < n.plan.layout.instances) (to_adopt n core)
unfolding to_adopt
to_adopt_in_range n core =
    All-weaker (λ seg. is_to_adopt n core seg ≡ true) (λ seg. seg < n.plan.layout.instances) (within n core) (to_adopt n core)
    (filter_passes (is_to_adopt n core) all_insts)
