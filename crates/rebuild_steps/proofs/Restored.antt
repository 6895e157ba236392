-- A recovery is done but for the thaw.
use Rattle.std.proofs.Common.{◌≡◌, ◌&&◌, ◌∙◌, Bool, true, false, ap, sym}
use Rattle.inst_state.specs.declared.inst.Inst.{Inst}
use Rattle.inst_state.specs.declared.shared.Core.{Core}
use Rattle.report_steps.specs.Recovering.{all_closed, are_rebuilt}
use Rattle.rebuild_steps.specs.Thaw.{is_restored}

pub with_closed : (n : Inst) (core : Core) (closed rebuilt : Bool) → closed ≡ all_closed core → closed ≡ true → rebuilt ≡ are_rebuilt n core → rebuilt ≡ is_restored n core
unfolding is_restored
with_closed n core closed rebuilt is is_true is_rebuilt = is_rebuilt ∙ sym (ap (λ (b : Bool). b && are_rebuilt n core) (sym is ∙ is_true))

pub without_closed : (n : Inst) (core : Core) (closed : Bool) → closed ≡ all_closed core → closed ≡ false → false ≡ is_restored n core
unfolding is_restored
without_closed n core closed is is_false = sym (ap (λ (b : Bool). b && are_rebuilt n core) (sym is ∙ is_false))
