-- The links bear the bag.
use Rattle.std.proofs.Common.{◌≡◌, ◌∙◌, ℕ, ◌+◌, ◌*◌, ◌/◌, ◌%◌, ◌<◌, List, [], ◌∷◌, ◌++◌, refl, sym, ap, subst, arith, length, nat_le, if◌then◌else◌, append_assoc}
use Rattle.std.specs.Prelude.{flat_map, Option, Some, None, slice_get, slice_index_or, slice_set, drop, replicate}
use Rattle.std.proofs.lemmas.List.{get_or-set_same, set-get_or, set-set, length-set}
use Rattle.std.proofs.lemmas.Grind.{flat_map-append}
use Rattle.std.proofs.lemmas.Bool.Decides.{nat_tests}
use Prim.Native.Nat.{zero, suc}
use Rattle.wire_net.specs.declared.message.Lane.{Lane}
use Rattle.wire_net.specs.declared.message.Lane.TheVariants.{Main, Undo}
use Rattle.wire_net.specs.declared.message.Packet.{Packet}
use Rattle.wire_net.specs.Links.{lane_for, place_of, waiting_on, first_on, taken}
use Rattle.wire_net.proofs.PlaceLemmas.{place-below}
use Rattle.block_protocol.specs.Wire.{Wire, Same, none, more}
use Rattle.block_protocol.proofs.Bags.{Takes-left, same-refl, same-move}
use Rattle.protocol_ties.specs.AmongAll.{wires_at}
use Rattle.protocol_ties.specs.Bags.{receiver_at, wires_in, bag_from, bag_of, SentComesIn, TakenHasGone, NothingIsBorne}
use Rattle.protocol_ties.proofs.Bag.{same-trans, same-under}
use Rattle.protocol_ties.proofs.Drains.{append-none}

pub same-over : {A : Type 0} (xs ys zs : List A) → Same xs ys → Same (xs ++ zs) (ys ++ zs)
same-over xs ys zs none = same-refl zs
same-over xs ys zs (more x us vs ws t s) = more x (us ++ zs) (ys ++ zs) (ws ++ zs) (Takes-left x ys ws zs t) (same-over us ws zs s)

-- a link that bears more makes the bag more
bag-set : (b start k : ℕ) (links : List (List Packet)) (new : List Packet) (ws : List Wire) → k < length links
    → Same (ws ++ flat_map (wires_in b (start + k)) (slice_index_or links k [])) (flat_map (wires_in b (start + k)) new)
    → Same (ws ++ bag_from b start links) (bag_from b start (slice_set links k new))
bag-set b start k [] new ws lt s = absurd (omega (arith, lt))
bag-set b start zero (packets ∷ links) new ws lt s =
    let here : start + 0 ≡ start = omega arith in
    let at : Same (ws ++ flat_map (wires_in b start) packets) (flat_map (wires_in b start) new) = subst (λ p. Same (ws ++ flat_map (wires_in b p) packets) (flat_map (wires_in b p) new)) here s in
    subst (λ l. Same l (flat_map (wires_in b start) new ++ bag_from b (start + 1) links)) (append_assoc ws (flat_map (wires_in b start) packets) (bag_from b (start + 1) links))
    (same-over (ws ++ flat_map (wires_in b start) packets) (flat_map (wires_in b start) new) (bag_from b (start + 1) links) at)
bag-set b start (suc k) (packets ∷ links) new ws lt s =
    let there : start + suc k ≡ (start + 1) + k = omega arith in
    let rest = bag-set b (start + 1) k links new ws (omega (arith, lt)) (subst (λ p. Same (ws ++ flat_map (wires_in b p) (slice_index_or links k [])) (flat_map (wires_in b p) new)) there s) in
    same-trans (ws ++ (flat_map (wires_in b start) packets ++ bag_from b (start + 1) links)) (flat_map (wires_in b start) packets ++ (ws ++ bag_from b (start + 1) links)) (flat_map (wires_in b start) packets ++ bag_from b (start + 1) (slice_set links k new))
    (same-move ws (flat_map (wires_in b start) packets) (bag_from b (start + 1) links))
    (same-under (flat_map (wires_in b start) packets) (ws ++ bag_from b (start + 1) links) (bag_from b (start + 1) (slice_set links k new)) rest)

numbered-leads : (from to number : ℕ) → number < 2 → from < 8 → to < 8 → (if nat_le 8 to then 128 else (8 * from + to) * 2 + number) / 2 % 8 ≡ to
numbered-leads from to number small low high = grind (arith, nat_tests)

-- a link leads to whom it is numbered by
leads : (from to : ℕ) (lane : Lane) → from < 8 → to < 8 → receiver_at (place_of from to lane) ≡ to
leads from to Main low high = numbered-leads from to 0 (omega arith) low high
leads from to Undo low high = numbered-leads from to 1 (omega arith) low high

module _ (b : ℕ) (links : List (List Packet)) (from to : ℕ) (lane : Lane) (all : length links ≡ 128) (low : from < 8) (high : to < 8) where
  within : place_of from to lane < length links
  within = let below = place-below from to lane low high in omega (arith, below, all)

  own : (packet : Packet) → wires_in b (0 + place_of from to lane) packet ≡ wires_at b packet.scn (to, packet.message)
  own packet = ap (λ i. wires_at b packet.scn (i, packet.message)) (ap receiver_at (omega arith) ∙ leads from to lane low high)

  comes-in : (packet : Packet) → Same (wires_at b packet.scn (to, packet.message) ++ bag_of b links) (bag_of b (slice_set links (place_of from to lane) (waiting_on links from to lane ++ packet ∷ [])))
  comes-in packet = bag-set b 0 (place_of from to lane) links (waiting_on links from to lane ++ packet ∷ []) (wires_at b packet.scn (to, packet.message)) within
      (subst (λ l. Same (wires_at b packet.scn (to, packet.message) ++ flat_map (wires_in b (0 + place_of from to lane)) (waiting_on links from to lane)) l)
      (sym (flat_map-append (wires_in b (0 + place_of from to lane)) (waiting_on links from to lane) (packet ∷ []) ∙ ap (λ l. flat_map (wires_in b (0 + place_of from to lane)) (waiting_on links from to lane) ++ (l ++ [])) (own packet)))
      (subst (λ l. Same (wires_at b packet.scn (to, packet.message) ++ l) (flat_map (wires_in b (0 + place_of from to lane)) (waiting_on links from to lane) ++ (wires_at b packet.scn (to, packet.message) ++ []))) (append-none (flat_map (wires_in b (0 + place_of from to lane)) (waiting_on links from to lane)))
      (same-move (wires_at b packet.scn (to, packet.message)) (flat_map (wires_in b (0 + place_of from to lane)) (waiting_on links from to lane)) [])))

  first-rest : (packets : List Packet) (packet : Packet) → slice_get packets 0 ≡ Some packet → packets ≡ packet ∷ drop 1 packets
  first-rest [] packet e = absurd (let clash : ◌≡◌ {A = Option Packet} None (Some packet) = e in cc)
  first-rest (x ∷ packets) packet e = let same : x ≡ packet = cc in ap (λ y. y ∷ packets) same

  has-gone : (packet : Packet) → first_on links from to lane ≡ Some packet → Same (wires_at b packet.scn (to, packet.message) ++ bag_of b (taken links from to lane)) (bag_of b links)
  has-gone packet first =
      let long : length (taken links from to lane) ≡ length links = length-set links (place_of from to lane) (drop 1 (waiting_on links from to lane)) in
      let left : slice_index_or (taken links from to lane) (place_of from to lane) [] ≡ drop 1 (waiting_on links from to lane) = get_or-set_same links (place_of from to lane) (drop 1 (waiting_on links from to lane)) [] within in
      let back : slice_set (taken links from to lane) (place_of from to lane) (waiting_on links from to lane) ≡ links =
      set-set links (place_of from to lane) (drop 1 (waiting_on links from to lane)) (waiting_on links from to lane) ∙ set-get_or links (place_of from to lane) [] in
      let whole : flat_map (wires_in b (0 + place_of from to lane)) (waiting_on links from to lane) ≡ wires_at b packet.scn (to, packet.message) ++ flat_map (wires_in b (0 + place_of from to lane)) (drop 1 (waiting_on links from to lane)) =
      ap (flat_map (wires_in b (0 + place_of from to lane))) (first-rest (waiting_on links from to lane) packet first) ∙ ap (λ l. l ++ flat_map (wires_in b (0 + place_of from to lane)) (drop 1 (waiting_on links from to lane))) (own packet) in
      subst (λ l. Same (wires_at b packet.scn (to, packet.message) ++ bag_of b (taken links from to lane)) (bag_of b l)) back
      (bag-set b 0 (place_of from to lane) (taken links from to lane) (waiting_on links from to lane) (wires_at b packet.scn (to, packet.message)) (let lt = within in omega (arith, long, lt))
      (subst (λ l. Same (wires_at b packet.scn (to, packet.message) ++ flat_map (wires_in b (0 + place_of from to lane)) l) (flat_map (wires_in b (0 + place_of from to lane)) (waiting_on links from to lane))) (sym left)
      (subst (λ l. Same (wires_at b packet.scn (to, packet.message) ++ flat_map (wires_in b (0 + place_of from to lane)) (drop 1 (waiting_on links from to lane))) l) (sym whole)
      (same-refl (wires_at b packet.scn (to, packet.message) ++ flat_map (wires_in b (0 + place_of from to lane)) (drop 1 (waiting_on links from to lane)))))))

pub sent-comes-in : SentComesIn
sent-comes-in b links from to packet all low high = comes-in b links from to (lane_for packet.message) all low high packet

pub taken-has-gone : TakenHasGone
taken-has-gone b links from to lane packet all low high first = has-gone b links from to lane all low high packet first

nothing-from : (b n start : ℕ) → bag_from b start (replicate n []) ≡ []
nothing-from b zero start = refl
nothing-from b (suc n) start = nothing-from b n (start + 1)

pub nothing-is-borne : NothingIsBorne
nothing-is-borne b = nothing-from b 128 0
