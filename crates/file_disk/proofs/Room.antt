-- What a read into the rest of a room leaves at the room's front.
use Rattle.std.proofs.Common.{◌≡◌, ℕ, ◌+◌, ◌-◌, ◌≤◌, List, ◌++◌, length, take, drop, sym, ap, ◌∙◌, subst, le_refl, drop_at, length-take-le, Option}
use Rattle.std.proofs.lemmas.Slice.{take-put_mid_below}
use Rattle.std.proofs.KnownBytes.{Consumes-trans}
use Rattle.std.specs.Io.KnownBytes.{Consumes}
use borrow.Rule.Slice.PartMut.{put_mid, post_of}
use lib.Seq.{take-add, take-append-le}

-- the front, and behind it the front of what was put there
front_and_more : (at count : ℕ) (room part : List ℕ) → at ≤ length room → count ≤ length part → take at room ++ take count part ≡ take (at + count) (put_mid at (length room - at) room part)
front_and_more at count room part within fits =
    let whole = put_mid at (length room - at) room part in
    let behind = post_of at (length room - at) room in
    let front : take at whole ≡ take at room = take-put_mid_below _ _ _ _ _ (le_refl _) within in
    let more : take count (drop at whole) ≡ take count part = ap (take count) (drop_at (take at room) (part ++ behind) at (length-take-le at room within)) ∙ take-append-le count part behind fits in
    sym (take-add at count whole ∙ ap (λ l. l ++ take count (drop at whole)) front ∙ ap (λ l. take at room ++ l) more)

-- a second read takes what stands behind what a first one took
pub reads_piece : (a b c : Option (List ℕ)) (room part : List ℕ) (at count : ℕ) → at ≤ length room → count ≤ length part → Consumes a b (take at room) → Consumes b c (take count part) → Consumes a c (take (at + count) (put_mid at (length room - at) room part))
reads_piece a b c room part at count within fits p q =
    subst (Consumes a c) (front_and_more at count room part within fits) (Consumes-trans a b c _ _ p q)
