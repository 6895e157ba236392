-- Which note, memo or request a message is, and what is left without it.
use Rattle.std.proofs.Common.{◌≡◌, ◌∙◌, ℕ, ◌<◌, true, false, List, [], ◌∷◌, ◌++◌, refl, sym, ap, subst}
use Rattle.std.specs.Prelude.{map, Option, Some, None}
use Rattle.block_protocol.specs.Block.{Request, Quiet, Asks, Waits, CopyTo, BackCopy, Copy, ShipTo, BackShip, Shipped, Grant, Done, Operation, Idle, Clears, Grants, Hold, Note, Invalidate, Gone, GaveUp, WritePlease, BackWrite, Stale, Memo, Please, Wrote, DropPast, Block, put, Takes}
use Rattle.block_protocol.specs.Wire.{Wire, Ask, CopyToWire, BackCopyWire, CopyWire, ShipToWire, BackShipWire, ShippedWire, GrantWire, DoneWire, InvalidateWire, GoneWire, GaveUpWire, WritePleaseWire, BackWriteWire, PleaseWire, WroteWire, DropPastWire, of_operation, of_request, gather, of_note, of_memo, flights, Same}
use Rattle.block_protocol.proofs.Bags.{Takes-left, Takes-right}
use Rattle.block_protocol.proofs.RefinesAsk.{gather-taken}
use Rattle.block_protocol.proofs.Origin.{is_told, is_carried, is_asked, is_noted, the-note, the-request, the-carrier}
use Rattle.protocol_ties.specs.Messages.{instances}
use Rattle.protocol_ties.proofs.Bag.{first-of, left-by, the-memo}

pub some-one : {A : Type 0} (a b : A) → Some a ≡ Some b → a ≡ b
some-one a b e = cc

-- the note that a message is
abbrev pub note_of : Wire → Option Note
note_of (InvalidateWire h g) = Some (Invalidate h g)
note_of (GoneWire g scn) = Some (Gone g scn)
note_of (GaveUpWire g scn) = Some (GaveUp g scn)
note_of (WritePleaseWire h g) = Some (WritePlease h g)
note_of (BackWriteWire g scn) = Some (BackWrite g scn)
note_of (DoneWire g) = Some (Stale g)
note_of _ = None

pub note-of : (note : Note) → note_of (of_note note) ≡ Some note
note-of (Invalidate h g) = refl
note-of (Gone g scn) = refl
note-of (GaveUp g scn) = refl
note-of (WritePlease h g) = refl
note-of (BackWrite g scn) = refl
note-of (Stale g) = refl

-- the memo that it is
abbrev pub memo_of : Wire → Option Memo
memo_of (PleaseWire v) = Some (Please v)
memo_of (WroteWire v) = Some (Wrote v)
memo_of (DropPastWire h v) = Some (DropPast h v)
memo_of _ = None

memo-of : (memo : Memo) → memo_of (of_memo memo) ≡ Some memo
memo-of (Please v) = refl
memo-of (Wrote v) = refl
memo-of (DropPast h v) = refl

-- the request that it is, and whose
abbrev pub request_of : Wire → Option (ℕ × Request)
request_of (Ask i w scn) = Some (i, Asks w scn)
request_of (CopyToWire h g i) = Some (i, CopyTo h g)
request_of (BackCopyWire g i scn) = Some (i, BackCopy g scn)
request_of (CopyWire i v upto scn) = Some (i, Copy v upto scn)
request_of _ = None

request-of : (i : ℕ) (r : Request) (w : Wire) → of_request i r ≡ w ∷ [] → request_of w ≡ Some (i, r)
request-of i Quiet w e = absurd (let clash : ◌≡◌ {A = List Wire} [] (w ∷ []) = e in cc)
request-of i (Asks v scn) w e = let is : Ask i v scn ≡ w = cc in rw (sym is) refl
request-of i (Waits v) w e = absurd (let clash : ◌≡◌ {A = List Wire} [] (w ∷ []) = e in cc)
request-of i (CopyTo h g) w e = let is : CopyToWire h g i ≡ w = cc in rw (sym is) refl
request-of i (BackCopy g scn) w e = let is : BackCopyWire g i scn ≡ w = cc in rw (sym is) refl
request-of i (Copy v upto scn) w e = let is : CopyWire i v upto scn ≡ w = cc in rw (sym is) refl

-- the operation whose message it is; of a Done that isn't told
abbrev pub carried_of : Wire → Option Operation
carried_of (ShipToWire h g a k) = Some (Grants a k (ShipTo h g))
carried_of (BackShipWire g a k scn) = Some (Grants a k (BackShip g scn))
carried_of (ShippedWire a k v d scn) = Some (Grants a k (Shipped v d scn))
carried_of (GrantWire a k d scn) = Some (Grants a k (Grant d scn))
carried_of _ = None

pub carried-of : (op : Operation) (w : Wire) → of_operation op ≡ w ∷ [] → is_noted w ≡ false → carried_of w ≡ Some op
carried-of Idle w e n = absurd (let clash : ◌≡◌ {A = List Wire} [] (w ∷ []) = e in cc)
carried-of (Clears a v) w e n = absurd (let clash : ◌≡◌ {A = List Wire} [] (w ∷ []) = e in cc)
carried-of (Grants a k (ShipTo h g)) w e n = let is : ShipToWire h g a k ≡ w = cc in rw (sym is) refl
carried-of (Grants a k (BackShip g scn)) w e n = let is : BackShipWire g a k scn ≡ w = cc in rw (sym is) refl
carried-of (Grants a k (Shipped v d scn)) w e n = let is : ShippedWire a k v d scn ≡ w = cc in rw (sym is) refl
carried-of (Grants a k (Grant d scn)) w e n = let is : GrantWire a k d scn ≡ w = cc in rw (sym is) refl
carried-of (Grants a k Done) w e n = absurd (let is : DoneWire k.grant ≡ w = cc in let clash : true ≡ false = rw (sym is) at n in cc)

pub done-of : (op : Operation) (g : ℕ) → of_operation op ≡ DoneWire g ∷ [] → (a : ℕ) × (k : Hold) × (op ≡ Grants a k Done) × (k.grant ≡ g)
done-of Idle g e = absurd (let clash : ◌≡◌ {A = List Wire} [] (DoneWire g ∷ []) = e in cc)
done-of (Clears a v) g e = absurd (let clash : ◌≡◌ {A = List Wire} [] (DoneWire g ∷ []) = e in cc)
done-of (Grants a k (ShipTo h n)) g e = absurd (let clash : ShipToWire h n a k ∷ [] ≡ DoneWire g ∷ [] = e in cc)
done-of (Grants a k (BackShip n scn)) g e = absurd (let clash : BackShipWire n a k scn ∷ [] ≡ DoneWire g ∷ [] = e in cc)
done-of (Grants a k (Shipped v d scn)) g e = absurd (let clash : ShippedWire a k v d scn ∷ [] ≡ DoneWire g ∷ [] = e in cc)
done-of (Grants a k (Grant d scn)) g e = absurd (let clash : GrantWire a k d scn ∷ [] ≡ DoneWire g ∷ [] = e in cc)
done-of (Grants a k Done) g e = let same : k.grant ≡ g = cc in (a, k, refl, same)

-- a note is taken
pub note-taken : (w : Wire) (wires : List Wire) (s : Block) (note : Note) → is_carried w ≡ false → is_asked w ≡ false → is_told w ≡ false → note_of w ≡ Some note → Same (w ∷ wires) (flights instances s)
    → (rest : List Note) × Takes note s.notes rest × Same wires (flights instances (record s { notes = rest }))
note-taken w wires s note carries asks tells is bag =
    let f = first-of w wires (flights instances s) bag in
    let t = the-note instances s w f.rest carries asks tells f.takes in
    let same : t.note ≡ note = some-one t.note note (sym (note-of t.note) ∙ ap note_of t.is ∙ is) in
    (t.rest, subst (λ n. Takes n s.notes t.rest) same t.takes, subst (λ l. Same wires l) t.left_is f.same)

-- a memo is taken
pub memo-taken : (w : Wire) (wires : List Wire) (s : Block) (memo : Memo) → is_told w ≡ true → memo_of w ≡ Some memo → Same (w ∷ wires) (flights instances s)
    → (rest : List Memo) × Takes memo s.memos rest × Same wires (flights instances (record s { memos = rest }))
memo-taken w wires s memo tells is bag =
    let f = first-of w wires (flights instances s) bag in
    let t = the-memo s w f.rest tells f.takes in
    let same : t.memo ≡ memo = some-one t.memo memo (sym (memo-of t.memo) ∙ ap memo_of t.is ∙ is) in
    (t.rest, subst (λ n. Takes n s.memos t.rest) same t.takes, subst (λ l. Same wires l) t.left_is f.same)

-- a request is taken, and is another one then, which isn't under way
pub request-taken : (w : Wire) (wires : List Wire) (s : Block) (i : ℕ) (r then : Request) → is_carried w ≡ false → is_noted w ≡ false → is_told w ≡ false → request_of w ≡ Some (i, r) → of_request i then ≡ []
    → Same (w ∷ wires) (flights instances s)
    → (i < instances) × (s.request i ≡ r) × Same wires (flights instances (record s { request = put s.request i then }))
request-taken w wires s i r then carries notes tells is none bag =
    let f = first-of w wires (flights instances s) bag in
    let t = the-request instances s w f.rest carries notes tells f.takes in
    let same : (t.0, s.request t.0) ≡ (i, r) = some-one (t.0, s.request t.0) (i, r) (sym (request-of t.0 (s.request t.0) w t.2) ∙ is) in
    let here : t.0 ≡ i = ap (λ p. p.0) same in
    let lt : i < instances = subst (λ j. j < instances) here t.1 in
    let one : of_request i (s.request i) ≡ w ∷ [] = subst (λ j. of_request j (s.request j) ≡ w ∷ []) here t.2 in (
      lt,
      sym (ap (λ j. s.request j) here) ∙ ap (λ p. p.1) same,
      left-by w wires (flights instances s) (flights instances (record s { request = put s.request i then })) bag
          (Takes-right w (of_operation s.op) (gather of_request instances s.request ++ (map of_note s.notes ++ map of_memo s.memos)) (gather of_request instances (put s.request i then) ++ (map of_note s.notes ++ map of_memo s.memos))
          (Takes-left w (gather of_request instances s.request) (gather of_request instances (put s.request i then)) (map of_note s.notes ++ map of_memo s.memos)
          (gather-taken of_request instances i s.request then w lt one none))),
    )

-- what an operation has under way is taken
pub carrier-taken : (w : Wire) (wires : List Wire) (s : Block) (op : Operation) → is_asked w ≡ false → is_noted w ≡ false → is_told w ≡ false → carried_of w ≡ Some op → Same (w ∷ wires) (flights instances s)
    → (s.op ≡ op) × Same wires (gather of_request instances s.request ++ (map of_note s.notes ++ map of_memo s.memos))
carrier-taken w wires s op asks notes tells is bag =
    let f = first-of w wires (flights instances s) bag in
    let t = the-carrier instances s w f.rest asks notes tells f.takes in
    (some-one s.op op (sym (carried-of s.op w t.0 notes) ∙ is), subst (λ l. Same wires l) t.1 f.same)
