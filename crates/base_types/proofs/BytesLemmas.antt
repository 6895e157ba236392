-- What follows where bytes were put.
use borrow.Rule.Slice.PartMut.{put_mid}
use Rattle.std.proofs.Common.{◌≡◌, ℕ, zero, suc, ◌+◌, ◌-◌, ◌^◌, ◌<◌, ◌≤◌, ◌⊎◌, inl, inr, List, [], ◌∷◌, ◌++◌, length, take, drop, set, slice_index, refl, sym, ap, ◌∙◌, arith, add-zero, add-one}
use Rattle.std.proofs.lemmas.List.{append-nil, append_assoc, drop-drop, drop_all, drop_at, get_or-append_right, get_or-drop, get_or-take, get_or_append_left, length-append, length-drop, length-take-le, set_split, take_at, take_rest}
use Rattle.byteorder.specs.Endian.{big_bytes, big_from, big_number}
use Rattle.byteorder.specs.Numbers.{big_number-reads_back}
use Rattle.base_types.specs.declared.names.Xid.{Xid}
use Rattle.base_types.specs.Bytes.{AreApart, Puts, number_at, xid_at, xid_bytes}

-- a write at the front of the rest of a slice from place `at` puts its bytes there
pub Puts-put_mid : (old text part : List ℕ) (at : ℕ) → at + length text ≤ length old → part ≡ text ++ drop (length text) (take (length old - at) (drop at old)) → Puts old (put_mid at (length old - at) old part) at text
Puts-put_mid old text part at fits is =
    let past : drop (length old - at) (drop at old) ≡ [] = drop_all (length old - at) (drop at old) (omega (arith, length-drop at old)) in
    let written : part ≡ text ++ drop (at + length text) old = is ∙ ap (λ (xs : List ℕ). text ++ drop (length text) xs) (take_rest old at) ∙ ap (λ (xs : List ℕ). text ++ xs) (drop-drop (length text) at old) in
    ap (λ (xs : List ℕ). take at old ++ (part ++ xs)) past
    ∙ ap (λ (xs : List ℕ). take at old ++ xs) (append-nil part ∙ written)
    ∙ sym (append_assoc (take at old) text (drop (at + length text) old))

-- a write of one byte puts it
pub Puts-set : (old : List ℕ) (at byte : ℕ) → at < length old → Puts old (set old at byte) at (byte ∷ [])
Puts-set old at byte fits = set_split old at byte fits ∙ rw add-one (sym (append_assoc (take at old) (byte ∷ []) (drop (suc at) old)))

-- what stands from the place of a put on
pub drop-Puts : (old new text : List ℕ) (at : ℕ) → at ≤ length old → Puts old new at text → drop at new ≡ text ++ drop (at + length text) old
drop-Puts old new text at fits put =
    ap (drop at) (put ∙ append_assoc (take at old) text (drop (at + length text) old))
    ∙ drop_at (take at old) (text ++ drop (at + length text) old) at (length-take-le at old fits)

-- two puts, one right behind the other, put both texts
pub Puts-append : (old mid new first second : List ℕ) (at next : ℕ) → next ≡ at + length first → next + length second ≤ length old → Puts old mid at first → Puts mid new next second → Puts old new at (first ++ second)
Puts-append old mid new first second at next is fits put_first put_second =
    let front : length (take at old ++ first) ≡ next = length-append (take at old) first ∙ omega (arith, length-take-le at old (omega arith)) in
    let kept : take next mid ≡ take at old ++ first = ap (take next) put_first ∙ take_at (take at old ++ first) (drop (at + length first) old) next front in
    let rest : drop next mid ≡ drop next old = ap (drop next) put_first ∙ drop_at (take at old ++ first) (drop (at + length first) old) next front ∙ ap (λ (n : ℕ). drop n old) (sym is) in
    let past : drop (next + length second) mid ≡ drop (at + length (first ++ second)) old =
    sym (drop-drop (length second) next mid) ∙ ap (drop (length second)) rest ∙ drop-drop (length second) next old
    ∙ ap (λ (n : ℕ). drop n old) (omega (arith, length-append first second)) in
    put_second
    ∙ ap (λ (xs : List ℕ). xs ++ second ++ drop (next + length second) mid) kept
    ∙ ap (λ (xs : List ℕ). take at old ++ first ++ second ++ xs) past
    ∙ ap (λ (xs : List ℕ). xs ++ drop (at + length (first ++ second)) old) (append_assoc (take at old) first second)

-- a number that was put stands at its place
pub number_at-Puts : (old new : List ℕ) (at n x : ℕ) → at + n ≤ length old → x < 256 ^ n → Puts old new at (big_bytes n x) → number_at n new at ≡ x
number_at-Puts old new at n x fits small put =
    ap (big_number n) (drop-Puts old new (big_bytes n x) at (omega arith) put)
    ∙ big_number-reads_back n x (drop (at + length (big_bytes n x)) old) small

-- the name of a transaction that was put stands at its place
pub xid_at-Puts : (old new : List ℕ) (at : ℕ) (x : Xid) → at + 8 ≤ length old → x.wrap < 2 ^ 32 → Puts old new at (xid_bytes x) → xid_at new at ≡ x
xid_at-Puts old new at x fits small put =
    let is = drop-Puts old new (xid_bytes x) at (omega arith) put in
    let seg : slice_index new at ≡ x.seg = rw add-zero at (sym (get_or-drop at new 0 0)) ∙ ap (λ (xs : List ℕ). slice_index xs 0) is in
    let slot : slice_index new (at + 1) ≡ x.slot = sym (get_or-drop at new 1 0) ∙ ap (λ (xs : List ℕ). slice_index xs 1) is in
    let wrap : number_at 4 new (at + 4) ≡ x.wrap =
    ap (big_number 4) (sym (drop-drop 4 at new) ∙ ap (drop 4) is)
    ∙ big_number-reads_back 4 x.wrap (drop (at + 8) old) small in
    rw (seg, slot, wrap) refl

-- a byte beside a put is as it was
pub slice_index-Puts : (old new text : List ℕ) (at k : ℕ) → at + length text ≤ length old → Puts old new at text → (k < at) ⊎ (at + length text ≤ k) → slice_index new k ≡ slice_index old k
slice_index-Puts old new text at k fits put (inl before) =
    ap (λ (xs : List ℕ). slice_index xs k) (put ∙ append_assoc (take at old) text (drop (at + length text) old))
    ∙ get_or_append_left (take at old) (text ++ drop (at + length text) old) 0 k (omega (arith, length-take-le at old (omega arith)))
    ∙ get_or-take at old k 0 before
slice_index-Puts old new text at k fits put (inr past) =
    let front : length (take at old ++ text) ≡ at + length text = length-append (take at old) text ∙ omega (arith, length-take-le at old (omega arith)) in
    ap (λ (xs : List ℕ). slice_index xs k) put
    ∙ get_or-append_right (take at old ++ text) (drop (at + length text) old) (at + length text) k 0 front past
    ∙ get_or-drop (at + length text) old (k - (at + length text)) 0
    ∙ ap (λ (j : ℕ). slice_index old j) (omega arith)

-- a number is that of its bytes
big_from-same : (i n : ℕ) (xs ys : List ℕ) → ((k : ℕ) → i ≤ k → k < i + n → slice_index xs k ≡ slice_index ys k) → big_from i n xs ≡ big_from i n ys
big_from-same i zero xs ys same = refl
big_from-same i (suc n) xs ys same =
    let byte = same i (omega arith) (omega arith) in
    let rest = big_from-same (suc i) n xs ys (λ k low high. same k (omega arith) (omega arith)) in
    rw (byte, rest) refl

-- a byte of n bytes apart from a put is as it was
kept_apart : (old new text : List ℕ) (at place n k : ℕ) → at + length text ≤ length old → Puts old new at text → AreApart at (length text) place n → place ≤ k → k < place + n → slice_index new k ≡ slice_index old k
kept_apart old new text at place n k fits put (inl past) low high = slice_index-Puts old new text at k fits put (inr (omega arith))
kept_apart old new text at place n k fits put (inr before) low high = slice_index-Puts old new text at k fits put (inl (omega arith))

-- a number apart from a put is as it was
pub number_at-apart : (old new text : List ℕ) (at place size n : ℕ) → at + length text ≤ length old → Puts old new at text → AreApart at (length text) place size → n ≤ size → number_at n new place ≡ number_at n old place
number_at-apart old new text at place size n fits put apart within =
    big_from-same 0 n (drop place new) (drop place old)
    (λ k low high.
    get_or-drop place new k 0
    ∙ kept_apart old new text at place size (place + k) fits put apart (omega arith) (omega arith)
    ∙ sym (get_or-drop place old k 0))

-- the four bytes from the fifth of eight on are apart from what the eight are apart from
wrap_apart : (at n place size : ℕ) → 8 ≤ size → AreApart at n place size → AreApart at n (place + 4) 4
wrap_apart at n place size within (inl past) = inl (omega arith)
wrap_apart at n place size within (inr before) = inr (omega arith)

-- the name of a transaction apart from a put is as it was
pub xid_at-apart : (old new text : List ℕ) (at place size : ℕ) → at + length text ≤ length old → Puts old new at text → AreApart at (length text) place size → 8 ≤ size → xid_at new place ≡ xid_at old place
xid_at-apart old new text at place size fits put apart within =
    let seg = kept_apart old new text at place size place fits put apart (omega arith) (omega arith) in
    let slot = kept_apart old new text at place size (place + 1) fits put apart (omega arith) (omega arith) in
    let wrap = number_at-apart old new text at (place + 4) 4 4 fits put (wrap_apart at (length text) place size within apart) (omega arith) in
    rw (seg, slot, wrap) refl
