-- What is left to say, by what is said next.
use Rattle.std.proofs.Common.{◌≡◌, ℕ, suc, ◌+◌, ◌-◌, ◌<◌, List, ◌++◌, arith, ap, append_assoc, flat_map, codes, sym, ◌∙◌}
use Rattle.std.specs.List.{range_with_len}
use Rattle.rand_pcg.specs.Lcg.{Lcg}
use Rattle.load_script.specs.Scripts.{behind_turns, rounds_text, turns_text}

-- What was left begins with what is said now.
pub moved_on : (old now whole left next rest : List ℕ) → left ≡ next ++ rest → now ≡ old ++ next → old ++ left ≡ whole → now ++ rest ≡ whole
moved_on old now whole left next rest split said told =
    rw said (append_assoc old next rest) ∙ ap (λ t. old ++ t) (sym split) ∙ told

-- the texts of the numbers from one on begin with its text
pub range_first : (f : ℕ → List ℕ) (a n : ℕ) → a < n → flat_map f (range_with_len a (n - a)) ≡ f a ++ flat_map f (range_with_len (a + 1) (n - (a + 1)))
range_first f a n h =
    let left : n - a ≡ suc (n - (a + 1)) = omega arith in
    ap (λ k. flat_map f (range_with_len a k)) left

-- the rounds from one on begin with it
pub rounds_text_first : (round rounds : ℕ) (words : Lcg) → round < rounds →
    rounds_text round (rounds - round) words ≡ (turns_text round 0 4 words ++ codes "go\n") ++ rounds_text (round + 1) (rounds - (round + 1)) (behind_turns 4 words)
unfolding rounds_text
rounds_text_first round rounds words h =
    let left : rounds - round ≡ suc (rounds - (round + 1)) = omega arith in
    ap (λ n. rounds_text round n words) left ∙ sym (append_assoc (turns_text round 0 4 words) _ _)
