-- The places of the links.
use Rattle.std.proofs.Common.{◌≡◌, ◌+◌, ◌*◌, ◌<◌, ℕ, arith, nat_le, if◌then◌else◌, List, [], length, get_or, set}
use Rattle.std.proofs.lemmas.List.{get_or-set_same}
use Rattle.std.proofs.lemmas.Bool.Decides.{nat_tests}
use Rattle.wire_net.specs.declared.message.Lane.{Lane}
use Rattle.wire_net.specs.declared.message.Lane.TheVariants.{Main, Undo}
use Rattle.wire_net.specs.Links.{place_of, lane_no}

numbered-below : (from to number : ℕ) → number < 2 → from < 8 → to < 8
    → (if nat_le 8 to then 128 else (8 * from + to) * 2 + number) < 128
numbered-below from to number small from-fits to-fits = grind (arith, nat_tests)

-- a link between two of the eight instances has a place
pub place-below : (from to : ℕ) (lane : Lane) → from < 8 → to < 8 → place_of from to lane < 128
place-below from to Main from-fits to-fits = numbered-below from to 0 (omega arith) from-fits to-fits
place-below from to Undo from-fits to-fits = numbered-below from to 1 (omega arith) from-fits to-fits

-- what is put on a link is there
pub put-is-there : {A : Type 0} (links : List (List A)) (from to : ℕ) (lane : Lane) (packets : List A) → length links ≡ 128
    → from < 8 → to < 8 → get_or (set links (place_of from to lane) packets) (place_of from to lane) [] ≡ packets
put-is-there links from to lane packets all from-fits to-fits =
    let there = place-below from to lane from-fits to-fits in
    get_or-set_same links (place_of from to lane) packets [] (omega (arith, there))
