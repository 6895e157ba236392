-- Sequence numbers with one place in a ring.
use Rattle.std.proofs.Common.{◌≡◌, ℕ, ◌-◌, ◌%◌, ◌<◌, ◌≤◌, sym, ap, ◌∙◌, arith}
use Rattle.std.proofs.Math.Nat.{div-add-mod, mod-eq-sub-mod}

-- two numbers with one remainder are as far apart as the divisor, or farther
pub apart : (u a b : ℕ) → a < b → a % u ≡ b % u → u ≤ b - a
apart u a b less same = grind (arith, div-add-mod)

-- a ring's length before the next sequence number comes the one with its place
pub ring_before : (undo next : ℕ) → undo < next → (next - undo - 1) % undo ≡ (next - 1) % undo
ring_before undo next long =
    let before : next - undo - 1 ≡ next - 1 - undo = omega arith in
    ap (λ n. n % undo) before ∙ sym (mod-eq-sub-mod {n = next - 1} {m = undo} (omega arith))
