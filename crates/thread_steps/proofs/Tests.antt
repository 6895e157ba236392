-- Two tests, the second of which is made where the first holds.
use Rattle.std.proofs.Common.{◌≡◌, ◌∙◌, Bool, true, false, ap, sym}
use Rattle.std.specs.Prelude.{◌&&◌}

-- the first holds
pub and_then : (first one two value : Bool) → first ≡ one → first ≡ true → value ≡ two → value ≡ (one && two)
and_then first one two value is holds same = same ∙ sym (ap (λ (b : Bool). b && two) (sym is ∙ holds))

-- the first doesn't
pub and_else : (first one two : Bool) → first ≡ one → first ≡ false → first ≡ (one && two)
and_else first one two is fails = fails ∙ sym (ap (λ (b : Bool). b && two) (sym is ∙ fails))
