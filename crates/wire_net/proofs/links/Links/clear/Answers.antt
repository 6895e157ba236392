-- Once the loop is through, each of the 128 links is empty.
use Rattle.std.proofs.Common.{◌≡◌, ◌<◌, ◌≤◌, ◌++◌, ◌∙◌, ℕ, List, [], length, sym, ap, arith, get_or, replicate, take, drop}
use Rattle.std.proofs.lemmas.List.{ext_get_or, get_or-replicate, length-replicate, take-append-le, take_all}
use Rattle.wire_net.proofs.links.Links.clear.Goals as goal

-- 128 lists that are all empty
all-clear : {A : Type 0} (links rest : List (List A)) (len : ℕ) → len ≡ 128 → length links ≡ 128
    → ((k : ℕ) → k < length links → get_or links k [] ≡ []) → take len (links ++ rest) ≡ replicate 128 []
all-clear {A} links rest len all size clear =
    let none : List A = [] in
    let fits : len ≤ length links = omega arith in
    take-append-le len links rest fits ∙ (take_all len links (omega arith) ∙ ext_get_or [] _ _ (size ∙ sym (length-replicate 128 none))
    (λ k h. let below : k < 128 = omega arith in clear k h ∙ sym (get_or-replicate 128 k [] [] below)))

pub returns : goal.returns
returns c =
    let items = c.loop-link.link-items in
    all-clear items (drop (length items) c.self.inside.lanes.items) c.self.inside.lanes.len c.self.invariant c.loop-link.invariant.all
    (λ k h. c.loop-link.invariant.clear k (omega arith))
