-- What several reads or writes do to known bytes.
use Rattle.std.proofs.Common.{◌≡◌, ℕ, ◌+◌, ◌-◌, ◌≤◌, ◌<◌, ◌==◌, min, false, List, ◌++◌, length, take, drop, sym, subst, ap, ◌∙◌, arith, Option}
use Rattle.std.proofs.Math.Seq.{take-add}
use Rattle.std.proofs.KnownBytes.{Appends-trans, Consumes-trans}
use Rattle.std.specs.Io.KnownBytes.{Appends, Consumes}
use Rattle.std.proofs.lemmas.Grind.{common_steps}
use Rattle.std.proofs.lemmas.Bool.Decides.{nat_tests}
use Rattle.std.proofs.lemmas.List.{length-append, length-take, length-drop, take_rest, take_at, drop-drop, take-append-drop}
use Rattle.rac_io.specs.Read.{TakesUpTo}

-- first a front of the bytes, then a front of the rest
pub appends_piece : (a b c : Option (List ℕ)) (bytes : List ℕ) (at count : ℕ) → Appends a b (take at bytes) → Appends b c (take count (take (length bytes - at) (drop at bytes))) → Appends a c (take (at + count) bytes)
appends_piece a b c bytes at count p q =
    subst (Appends a c) (sym (take-add at count bytes)) (Appends-trans a b c _ _ p (rw (take_rest bytes at) at q))

-- these bytes were taken, and then some more
pub takes_more : (a b c : Option (List ℕ)) (bytes : List ℕ) (len limit : ℕ) → len ≡ length bytes → len ≤ limit → Consumes a b bytes → TakesUpTo (limit - len) b c → TakesUpTo limit a c
takes_more a b c bytes len limit long le p q =
    let fits : length q.0 ≤ limit - len = q.1 in
    (bytes ++ q.0, omega (arith, length-append bytes q.0), Consumes-trans a b c bytes q.0 p q.2)

-- what is left at a place is the front that is copied and what stands behind it
pub copied_front : (bytes copied rest : List ℕ) (at count : ℕ) → count ≤ length bytes - at → copied ≡ take count (take (length bytes - at) (drop at bytes)) → drop at bytes ≡ take count (copied ++ rest) ++ drop (at + count) bytes
copied_front bytes copied rest at count fits e =
    let front : copied ≡ take count (drop at bytes) = e ∙ ap (take count) (take_rest bytes at) in
    let long : length copied ≡ count = ap length front ∙ (length-take count (drop at bytes) ∙ omega (arith, length-drop at bytes)) in
    sym (take-append-drop count (drop at bytes)) ∙ (ap (λ l. l ++ drop count (drop at bytes)) (sym front ∙ sym (take_at copied rest count long)) ∙ ap (λ l. take count (copied ++ rest) ++ l) (drop-drop count at bytes))

-- a byte is copied where one is left and there is room
pub some_copied : (left out copied : List ℕ) (count : ℕ) → false ≡ (length left == 0) → count ≡ min (length left) (length out) → count ≡ 0 → 0 < length (copied ++ drop count out) → length copied ≡ count → ⊥
some_copied left out copied count full is none room long = grind (arith, nat_tests, common_steps)
