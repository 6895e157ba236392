-- Bags of messages: what one thing after another makes of them, and where a message that is under way comes from.
use Rattle.std.proofs.Common.{◌≡◌, ◌∙◌, ℕ, ◌<◌, List, [], ◌∷◌, ◌++◌, refl, sym, ap, subst, arith, inl, inr, Bool, true, false, append_assoc}
use Rattle.std.specs.Prelude.{map, option_to_list}
use Rattle.std.proofs.lemmas.Grind.{flat_map-append}
use Prim.Native.Nat.{zero, suc}
use Rattle.wire_net.specs.declared.message.Message.{Message}
use Rattle.block_protocol.specs.Block.{Want, Request, Quiet, Asks, Waits, CopyTo, BackCopy, Copy, ShipTo, BackShip, Shipped, Grant, Done, Operation, Idle, Clears, Grants, Note, Invalidate, Gone, GaveUp, WritePlease, BackWrite, Stale, Memo, Block, Takes, here, there}
use Rattle.block_protocol.specs.Wire.{Wire, Ask, CopyToWire, BackCopyWire, CopyWire, ShipToWire, BackShipWire, ShippedWire, GrantWire, DoneWire, of_operation, of_request, of_waiting, gather, of_note, of_memo, flights, Same, none, more}
use Rattle.block_protocol.proofs.Bags.{taken-left, Takes-of, Takes-map, same-move, same-rest}
use Rattle.block_protocol.proofs.Origin.{is_told}
use Rattle.protocol_ties.specs.Messages.{instances, wire_of, wires_of}

pub same-trans : {A : Type 0} (xs ys zs : List A) → Same xs ys → Same ys zs → Same xs zs
same-trans xs ys zs none k = k
same-trans xs ys zs (more x us vs ws t s) k =
    let r = taken-left x ys ws zs t k in more x us zs r.0 r.1 (same-trans us ws r.0 s r.2)

pub same-under : {A : Type 0} (ws xs ys : List A) → Same xs ys → Same (ws ++ xs) (ws ++ ys)
same-under [] xs ys s = s
same-under (w ∷ ws) xs ys s = more w (ws ++ xs) (w ∷ (ws ++ ys)) (ws ++ ys) (here (ws ++ ys)) (same-under ws xs ys s)

-- what is sent first and what is sent then
pub sent-after : (scn : ℕ) (first second : List (ℕ × Message)) (wires under : List Wire)
    → Same (wires_of scn second ++ (wires_of scn first ++ wires)) under → Same (wires_of scn (first ++ second) ++ wires) under
sent-after scn first second wires under s =
    let both : wires_of scn (first ++ second) ≡ wires_of scn first ++ wires_of scn second = flat_map-append (λ sent. option_to_list (wire_of sent.0 scn sent.1)) first second in
    subst (λ l. Same l under) (sym (ap (λ l. l ++ wires) both ∙ append_assoc (wires_of scn first) (wires_of scn second) wires))
    (same-trans (wires_of scn first ++ (wires_of scn second ++ wires)) (wires_of scn second ++ (wires_of scn first ++ wires)) under
    (same-move (wires_of scn first) (wires_of scn second) wires) s)

-- the first thing of one bag, taken out of the other
pub record TakenFirst {A : Type 0} (x : A) (xs ys : List A) : Type 0 where
  pub rest : List A
  pub takes : Takes x ys rest
  pub same : Same xs rest

pub first-of : {A : Type 0} (x : A) (xs ys : List A) → Same (x ∷ xs) ys → TakenFirst x xs ys
first-of x xs ys (more z us vs ws t s) = record { rest = ws; takes = t; same = s }

-- what is left, however the first is taken out
pub left-by : {A : Type 0} (x : A) (xs ys vs : List A) → Same (x ∷ xs) ys → Takes x ys vs → Same xs vs
left-by x xs ys vs s t = let r = first-of x xs ys s in same-rest x xs ys r.rest vs r.takes t r.same

-- a message about a version is one of the memos
pub record TheMemo (s : Block) (m : Wire) (left : List Wire) : Type 0 where
  pub memo : Memo
  pub rest : List Memo
  pub is : of_memo memo ≡ m
  pub takes : Takes memo s.memos rest
  pub left_is : left ≡ of_operation s.op ++ (gather of_request instances s.request ++ (map of_note s.notes ++ map of_memo rest))

abbrev pub is_carried : Wire → Bool
is_carried (ShipToWire h g a k) = true
is_carried (BackShipWire g a k scn) = true
is_carried (ShippedWire a k v d scn) = true
is_carried (GrantWire a k d scn) = true
is_carried (DoneWire g) = true
is_carried _ = false

one-of : (x y : Wire) (us : List Wire) → Takes x (y ∷ []) us → y ≡ x
one-of x y us (here zs) = refl
one-of x y us (there v vs ws k) = elim k [ ]

told-operation : (op : Operation) (m : Wire) (us : List Wire) → is_told m ≡ true → Takes m (of_operation op) us → ⊥
told-operation Idle m us t k = elim k [ ]
told-operation (Clears a w) m us t k = elim k [ ]
told-operation (Grants a k (ShipTo h g)) m us t e = let is = one-of m (ShipToWire h g a k) us e in let clash : false ≡ true = rw (sym is) at t in cc
told-operation (Grants a k (BackShip g scn)) m us t e = let is = one-of m (BackShipWire g a k scn) us e in let clash : false ≡ true = rw (sym is) at t in cc
told-operation (Grants a k (Shipped v d scn)) m us t e = let is = one-of m (ShippedWire a k v d scn) us e in let clash : false ≡ true = rw (sym is) at t in cc
told-operation (Grants a k (Grant d scn)) m us t e = let is = one-of m (GrantWire a k d scn) us e in let clash : false ≡ true = rw (sym is) at t in cc
told-operation (Grants a k Done) m us t e = let is = one-of m (DoneWire k.grant) us e in let clash : false ≡ true = rw (sym is) at t in cc

told-request : (i : ℕ) (r : Request) (m : Wire) (us : List Wire) → is_told m ≡ true → Takes m (of_request i r) us → ⊥
told-request i Quiet m us t k = elim k [ ]
told-request i (Asks w scn) m us t e = let is = one-of m (Ask i w scn) us e in let clash : false ≡ true = rw (sym is) at t in cc
told-request i (Waits w) m us t k = elim k [ ]
told-request i (CopyTo h g) m us t e = let is = one-of m (CopyToWire h g i) us e in let clash : false ≡ true = rw (sym is) at t in cc
told-request i (BackCopy g scn) m us t e = let is = one-of m (BackCopyWire g i scn) us e in let clash : false ≡ true = rw (sym is) at t in cc
told-request i (Copy v upto scn) m us t e = let is = one-of m (CopyWire i v upto scn) us e in let clash : false ≡ true = rw (sym is) at t in cc

told-requests : (n : ℕ) (request : ℕ → Request) (m : Wire) (us : List Wire) → is_told m ≡ true → Takes m (gather of_request n request) us → ⊥
told-requests zero request m us t k = elim k [ ]
told-requests (suc n) request m us t k = elim (Takes-of m (of_request n (request n)) (gather of_request n request) us k) [
  | inl r ↦ told-request n (request n) m r.0 t r.1
  | inr r ↦ told-requests n request m r.0 t r.1
]

told-note : (note : Note) (m : Wire) → of_note note ≡ m → is_told m ≡ true → ⊥
told-note (Invalidate h g) m e t = let clash : false ≡ true = rw (sym e) at t in cc
told-note (Gone g scn) m e t = let clash : false ≡ true = rw (sym e) at t in cc
told-note (GaveUp g scn) m e t = let clash : false ≡ true = rw (sym e) at t in cc
told-note (WritePlease h g) m e t = let clash : false ≡ true = rw (sym e) at t in cc
told-note (BackWrite g scn) m e t = let clash : false ≡ true = rw (sym e) at t in cc
told-note (Stale g) m e t = let clash : false ≡ true = rw (sym e) at t in cc

pub the-memo : (s : Block) (m : Wire) (left : List Wire) → is_told m ≡ true → Takes m (flights instances s) left → TheMemo s m left
the-memo s m left t k = elim (Takes-of m (of_operation s.op) (gather of_request instances s.request ++ (map of_note s.notes ++ map of_memo s.memos)) left k) [
  | inl r ↦ absurd (told-operation s.op m r.0 t r.1)
  | inr r ↦ elim (Takes-of m (gather of_request instances s.request) (map of_note s.notes ++ map of_memo s.memos) r.0 r.1) [
    | inl q ↦ absurd (told-requests instances s.request m q.0 t q.1)
    | inr q ↦ elim (Takes-of m (map of_note s.notes) (map of_memo s.memos) q.0 q.1) [
      | inl p ↦ (let o = Takes-map of_note m s.notes p.0 p.1 in absurd (told-note o.0 m o.2 t))
      | inr p ↦ (let o = Takes-map of_memo m s.memos p.0 p.1 in record {
        memo = o.0;
        rest = o.1;
        is = o.2;
        takes = o.3;
        left_is = r.2 ∙ ap (λ l. of_operation s.op ++ l) (q.2 ∙ ap (λ l. gather of_request instances s.request ++ l) (p.2 ∙ ap (λ l. map of_note s.notes ++ l) o.4));
      })
    ]
  ]
]

-- a request that waits in the queue is its asker's
waiting-one : (i : ℕ) (r : Request) (x : ℕ × Want) (us : List (ℕ × Want)) → Takes x (of_waiting i r) us → (i ≡ x.0) × (r ≡ Waits x.1)
waiting-one i Quiet x us k = elim k [ ]
waiting-one i (Asks w scn) x us k = elim k [ ]
waiting-one i (Waits w) x us (here zs) = (refl, refl)
waiting-one i (Waits w) x us (there v vs ws k) = elim k [ ]
waiting-one i (CopyTo h g) x us k = elim k [ ]
waiting-one i (BackCopy g scn) x us k = elim k [ ]
waiting-one i (Copy v upto scn) x us k = elim k [ ]

pub waiting-of : (n : ℕ) (request : ℕ → Request) (x : ℕ × Want) (us : List (ℕ × Want)) → Takes x (gather of_waiting n request) us → (x.0 < n) × (request x.0 ≡ Waits x.1)
waiting-of zero request x us k = elim k [ ]
waiting-of (suc n) request x us k = elim (Takes-of x (of_waiting n (request n)) (gather of_waiting n request) us k) [
  | inl r ↦ (let o = waiting-one n (request n) x r.0 r.1 in let is : n ≡ x.0 = o.0 in (omega (arith, is), subst (λ i. request i ≡ Waits x.1) is o.1))
  | inr r ↦ (let o = waiting-of n request x r.0 r.1 in let lt = o.0 in (omega (arith, lt), o.1))
]
