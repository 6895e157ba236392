use Rattle.std.proofs.Common.{◌≡◌, ℕ, zero, suc, false, get_or, replicate, refl}
use Rattle.run_report.proofs.losses.none_down.Goals as goal

none_set : (n inst : ℕ) → get_or (replicate n false) inst false ≡ false
none_set zero inst = refl
none_set (suc n) zero = refl
none_set (suc n) (suc inst) = none_set n inst

pub returns-clause-none : goal.returns-clause-none
returns-clause-none c = λ inst. none_set 256 inst
