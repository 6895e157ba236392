-- What is seen of all threads and blocks holds of each.
use Rattle.std.proofs.Common.{◌≡◌, ◌<◌, ◌≤◌, ◌*◌, ℕ, Bool, true, false, ◌||◌, not, get_or, ap, sym, ◌∙◌, refl, arith}
use Rattle.std.specs.List.{list_all, range_with_len}
use Rattle.std.proofs.Math.Nat.{mul-le-mul_right}
use Rattle.std.proofs.lemmas.List.Sums.{AllPass-from_list_all}
use Rattle.std.proofs.lemmas.List.FromFn.{get_or-range_with_len, length-range_with_len}
use Rattle.base_types.specs.declared.layout.Layout.{Layout}
use Rattle.base_types.specs.Layout.{IsLayout, segment_blocks, total_of}
use Rattle.inst_state.specs.declared.shared.Core.{Core}
use Rattle.report_steps.specs.Recovering.{RecoveryIsSeenWhole, is_dead, is_read, is_rebuilt, is_to_rebuild}

-- what holds of all numbers below one holds of each
pub at_number : (p : ℕ → Bool) (count : ℕ) → list_all p (range_with_len 0 count) ≡ true → (k : ℕ) → k < count → p k ≡ true
at_number p count all k within =
    let number : get_or (range_with_len 0 count) k 0 ≡ k = get_or-range_with_len 0 count k 0 within ∙ omega arith in
    sym (ap p number) ∙ AllPass-from_list_all p (range_with_len 0 count) all k 0 (rw (length-range_with_len 0 count) within)

-- of two of which the first is turned round, one holds
pub other_holds : (a b : Bool) → (not a || b) ≡ true → a ≡ true → b ≡ true
other_holds true b either is = either
other_holds false b either is = search

-- what is turned round doesn't hold
pub fails : (a : Bool) → not a ≡ true → a ≡ false
fails true is = search
fails false is = refl

-- a dead thread is one of eight
pub is_low : (core : Core) → IsLayout core.layout → (thread : ℕ) → is_dead core thread ≡ true → thread < 8
is_low core layout thread dead =
    let few = layout.few_instances in
    grind arith

-- a disk has at most 200 blocks
pub few_blocks : (l : Layout) → IsLayout l → total_of l ≤ 200
few_blocks l layout =
    let size = segment_blocks l in
    let product : l.instances * size ≤ 8 * size = mul-le-mul_right size layout.few_instances in
    omega (arith, product, layout.few_blocks, layout.few_undo)

-- a thread that isn't one of eight isn't dead
pub high_lives : (core : Core) → IsLayout core.layout → (thread : ℕ) → (thread < 8 → is_dead core thread ≡ false) → is_dead core thread ≡ false
high_lives core layout thread low = go (is_dead core thread) refl
  where
    go : (dead : Bool) → is_dead core thread ≡ dead → is_dead core thread ≡ false
    go true is = low (is_low core layout thread is)
    go false is = is

pub seen-whole : RecoveryIsSeenWhole
seen-whole n core layout = record {
  read = λ all thread dead.
      other_holds (is_dead core thread) (is_read n core thread) (at_number (λ other. not (is_dead core other) || is_read n core other) 8 all thread (is_low core layout thread dead)) dead;
  closed = λ all thread.
      high_lives core layout thread (λ low. fails (is_dead core thread) (at_number (λ other. not (is_dead core other)) 8 all thread low));
  rebuilt = λ all block within to.
      other_holds (is_to_rebuild n core block) (is_rebuilt n core block) (at_number (λ other. not (is_to_rebuild n core other) || is_rebuilt n core other) 200 all block (omega (arith, within, few_blocks core.layout layout))) to;
}
