-- A change or a lock leaves a block that says what stands.
use Rattle.std.proofs.Common.{◌≡◌, ℕ, ◌<◌, ◌≤◌, Bool, true, false, cond, not, ◌&&◌, ◌==◌, List, [], ◌∷◌, ◌+◌, refl, sym, ap, ◌∙◌, subst, arith, inl, inr, ◌⊎◌}
use Rattle.std.specs.Prelude.{Option, Some, None, IsSomeAnd, is_some}
use Rattle.std.specs.List.{AllByRecursion}
use Rattle.std.proofs.lemmas.Bool.{eqb-true, eq-eqb}
use Rattle.base_types.specs.declared.names.Xid.{Xid}
use Rattle.journal.specs.Past.{same_xid}
use Rattle.journal.proofs.XidLemmas.{both_true, same_xid-refl, same_xid-true}
use Rattle.board_slots.specs.Block.{Deed, newest, on_row, puts_on, in_slot, by, slot_of, value_of, Image, let_go, changed, change_of}
use Rattle.board_slots.specs.Slots.{IsUnder, IsUndone, IsFair, Orderly, IsLocked, Shows, IsMade}
use Rattle.board_slots.proofs.Newest.{clash, same_xid-sym, all_map, newest-all, newest-passes, the, eqb-off}
use Rattle.board_slots.proofs.Removal.{Shares, row-shares, slot-shares}
use Rattle.board_slots.proofs.StepsBack.{slot-own}
use Rattle.board_slots.proofs.Held.{each-there, fair-all, held-is}

-- all of one transaction have one slot
pub one-slot : (committed : Xid → Option ℕ) (t : Deed → Bool) (n : Deed) (deeds : List Deed) → Orderly committed deeds → newest t deeds ≡ Some n → AllByRecursion (λ o. same_xid n.xid o.xid ≡ true → o.itl ≡ n.itl) deeds
one-slot committed t n [] h e = tt
one-slot committed t n (m ∷ deeds) h e = here (t m) e (one-slot committed t n deeds h.1)
  where
    here : (b : Bool) → cond b (Some m) (newest t deeds) ≡ Some n → (newest t deeds ≡ Some n → AllByRecursion (λ o. same_xid n.xid o.xid ≡ true → o.itl ≡ n.itl) deeds) → (same_xid n.xid m.xid ≡ true → m.itl ≡ n.itl) × AllByRecursion (λ o. same_xid n.xid o.xid ≡ true → o.itl ≡ n.itl) deeds
    here true e ih =
        let same : m ≡ n = cc in
        ((λ f. ap (λ m. m.itl) same), all_map (IsUnder committed m) (λ o. same_xid n.xid o.xid ≡ true → o.itl ≡ n.itl) deeds (λ o u f. rw (sym same) (sym (u.one (rw same f)))) h.0.under)
    here false e ih = ((λ f. (newest-all (IsUnder committed m) t n deeds h.0.under e).one (rw (same_xid-sym m.xid n.xid) f)), ih e)

less_than : (o : Option ℕ) (c d : ℕ) → c ≤ d → IsSomeAnd o (λ e. e < c) → IsSomeAnd o (λ e. e < d)
less_than None c d le l = l
less_than (Some e) c d le l = omega (arith, le, l)

abbrev pub IsBelow : (Xid → Option ℕ) → (Deed → Bool) → Xid → ℕ → Deed → Type 0
IsBelow committed t x d o = t o ≡ true → same_xid x o.xid ≡ false → IsSomeAnd (committed o.xid) (λ c. c < d)

-- where the newest that passes is of x or committed below d, all of others that pass are
pub under-newest : (committed : Xid → Option ℕ) (t : Deed → Bool) (x : Xid) (d : ℕ) (deeds : List Deed) → Shares committed t → Orderly committed deeds → AllByRecursion (λ m. m.scn < d) deeds
    → ((n : Deed) → newest t deeds ≡ Some n → (n.xid ≡ x) ⊎ IsSomeAnd (committed n.xid) (λ c. c < d))
    → AllByRecursion (λ o. t o ≡ true → same_xid x o.xid ≡ false → IsSomeAnd (committed o.xid) (λ c. c < d)) deeds
under-newest committed t x d [] shares h low free = tt
under-newest committed t x d (m ∷ deeds) shares h low free = here (t m) refl free (under-newest committed t x d deeds shares h.1 low.1)
  where
    here : (b : Bool) → t m ≡ b → ((n : Deed) → cond b (Some m) (newest t deeds) ≡ Some n → (n.xid ≡ x) ⊎ IsSomeAnd (committed n.xid) (λ c. c < d))
        → (((n : Deed) → newest t deeds ≡ Some n → (n.xid ≡ x) ⊎ IsSomeAnd (committed n.xid) (λ c. c < d)) → AllByRecursion (IsBelow committed t x d) deeds)
        → IsBelow committed t x d m × AllByRecursion (IsBelow committed t x d) deeds
    here false e free ih = ((λ p. clash (t m) p e), ih free)
    here true e free ih = (own, all_map (IsUnder committed m) (IsBelow committed t x d) deeds one h.0.under)
      where
        own : IsBelow committed t x d m
        own p f = elim (free m refl) [ inl is ↦ clash (same_xid x m.xid) (rw is (same_xid-refl x)) f | inr l ↦ l ]

        one : (o : Deed) → IsUnder committed m o → IsBelow committed t x d o
        one o u p f = go (same_xid m.xid o.xid) refl
          where
            go : (b : Bool) → same_xid m.xid o.xid ≡ b → IsSomeAnd (committed o.xid) (λ c. c < d)
            go false g = less_than (committed o.xid) m.scn d (let a = low.0 in omega arith) (shares m o e p u g)
            go true g = let is : m.xid ≡ o.xid = same_xid-true m.xid o.xid g in rw (sym is) (own e (rw is f))

module _ (committed : Xid → Option ℕ) (image : Image) (deeds : List Deed) (m : Deed)
    (h : Orderly committed deeds) (shows : Shows committed image deeds) (made : IsMade committed image m) where
  abbrev now : Image
  now = changed (change_of m) m.scn image

  low : AllByRecursion (λ o. o.scn < m.scn) deeds
  low = all_map (λ o. (o.scn ≤ image.scn) × (o.version ≤ image.version)) (λ o. o.scn < m.scn) deeds (λ o l. (let up = made.scn in omega (arith, l.0))) shows.low

  abbrev fair : AllByRecursion (IsFair committed) deeds
  fair = fair-all committed deeds h

  up : (o : Option ℕ) → IsSomeAnd o (λ c. c < image.scn) → IsSomeAnd o (λ c. c < m.scn)
  up o l = less_than o image.scn m.scn (let a = made.scn in omega arith) l

  -- who changed the row last
  pub row-free : (n : Deed) → newest (on_row m.row) deeds ≡ Some n → (n.xid ≡ m.xid) ⊎ IsSomeAnd (committed n.xid) (λ c. c < m.scn)
  row-free n e = elim (subst (IsLocked committed image.scn image.slot (image.lock m.row)) e (shows.locks m.row)) [
    | inl l ↦ inr (up (committed n.xid) l.1)
    | inr l ↦ elim made.free [
      | inl z ↦ (let a = (newest-all (IsFair committed) (on_row m.row) n deeds fair e).placed.first in let b : 0 ≡ n.itl = sym z ∙ l.0 in absurd (omega arith))
      | inr f ↦ elim f [
        | inl x ↦ inl (sym l.1 ∙ (ap (λ k. (image.slot k).xid) (sym l.0) ∙ x))
        | inr c ↦ inr (subst (λ x. IsSomeAnd (committed x) (λ c. c < m.scn)) (ap (λ k. (image.slot k).xid) l.0 ∙ l.1) c)
      ]
    ]
  ]

  -- who had the slot last
  pub slot-free : (n : Deed) → newest (in_slot m.itl) deeds ≡ Some n → (n.xid ≡ m.xid) ⊎ IsSomeAnd (committed n.xid) (λ c. c < m.scn)
  slot-free n e = elim made.chosen [
    | inl x ↦ inl (sym is ∙ x)
    | inr f ↦ elim f.1 [
      | inl z ↦ (let a = (newest-all (IsFair committed) (in_slot m.itl) n deeds fair e).placed.wrap in let b : 0 ≡ n.xid.wrap = sym z ∙ ap (λ x. x.wrap) is in absurd (omega arith))
      | inr c ↦ inr (subst (λ x. IsSomeAnd (committed x) (λ c. c < m.scn)) is c)
    ]
  ]
    where
      is : (image.slot m.itl).xid ≡ n.xid
      is = ap (λ s. s.xid) (shows.slots m.itl) ∙ ap (λ p. (slot_of p).xid) e

  abbrev There : Deed → Type 0
  There o = (t : Deed → Bool) → t o ≡ true → is_some (newest t deeds) ≡ true

  -- the slot of an own one that stands is the one that is chosen
  one : (o : Deed) → There o → IsFair committed o → same_xid m.xid o.xid ≡ true → m.itl ≡ o.itl
  one o there fair f = elim made.chosen [ inl x ↦ mine x | inr g ↦ clash (same_xid m.xid (image.slot o.itl).xid) (rw (names, same_xid-refl m.xid) refl) (g.0 o.itl fair.placed.first fair.placed.last) ]
    where
      is : is_some (newest (λ n. in_slot o.itl n && by m.xid n) deeds) ≡ true
      is = there (λ n. in_slot o.itl n && by m.xid n) (rw (eq-eqb o.itl o.itl refl) f)

      names : (image.slot o.itl).xid ≡ m.xid
      names = ap (λ s. s.xid) (shows.slots o.itl) ∙ slot-own committed m.xid o.itl deeds h made.goes_on is

      mine : (image.slot m.itl).xid ≡ m.xid → m.itl ≡ o.itl
      mine x = here (newest (in_slot m.itl) deeds) refl
        where
          here : (p : Option Deed) → newest (in_slot m.itl) deeds ≡ p → m.itl ≡ o.itl
          here None e =
              let a = made.placed.wrap in
              let b : m.xid.wrap ≡ 0 = sym (ap (λ x. x.wrap) x) ∙ (ap (λ s. s.xid.wrap) (shows.slots m.itl) ∙ ap (λ p. (slot_of p).xid.wrap) e) in
              omega arith
          here (Some n) e =
              let nx : n.xid ≡ m.xid = ap (λ p. (slot_of p).xid) (sym e) ∙ (ap (λ s. s.xid) (sym (shows.slots m.itl)) ∙ x) in
              let k : n.itl ≡ m.itl = eqb-true n.itl m.itl (newest-passes (in_slot m.itl) n deeds e) in
              let p = the (newest (λ q. in_slot o.itl q && by m.xid q) deeds) is in
              let passes = both_true (in_slot o.itl p.0) (by m.xid p.0) (newest-passes (λ q. in_slot o.itl q && by m.xid q) p.0 deeds p.1) in
              let same = newest-all (λ q. same_xid n.xid q.xid ≡ true → q.itl ≡ n.itl) (λ q. in_slot o.itl q && by m.xid q) p.0 deeds (one-slot committed (in_slot m.itl) n deeds h e) p.1 in
              sym k ∙ (sym (same (rw nx passes.1)) ∙ eqb-true p.0.itl o.itl passes.0)

  abbrev fresh : Bool
  fresh = not (same_xid m.old_itl.xid m.xid)

  abbrev Low : Deed → Type 0
  Low o = (o.scn ≤ image.scn) × (o.version ≤ image.version)

  pub made-orderly : Orderly committed (m ∷ deeds)
  made-orderly = (record { under = under; undo = undo; fair = fair_now }, h)
    where
      all_three : (P Q R S : Deed → Type 0) (xs : List Deed) → ((x : Deed) → P x → Q x → R x → S x) → AllByRecursion P xs → AllByRecursion Q xs → AllByRecursion R xs → AllByRecursion S xs
      all_three P Q R S [] f a b c = tt
      all_three P Q R S (x ∷ xs) f a b c = (f x a.0 b.0 c.0, all_three P Q R S xs f a.1 b.1 c.1)

      flip : (k a b : ℕ) → (a == b) ≡ true → (b == a) ≡ true
      flip k a b e = rw (eqb-true a b e) (eq-eqb b b refl)

      under : AllByRecursion (IsUnder committed m) deeds
      under =
          all_three (IsBelow committed (on_row m.row) m.xid m.scn) (IsBelow committed (in_slot m.itl) m.xid m.scn) (λ o. There o × IsFair committed o × Low o) (IsUnder committed m) deeds
          (λ o row slot rest. record {
            row = λ e. row (flip 0 m.row o.row e);
            slot = λ e. slot (flip 0 m.itl o.itl e);
            one = one o rest.0 rest.1;
            rises = (let a = rest.2.1 in let b = made.version in omega arith);
          })
          (under-newest committed (on_row m.row) m.xid m.scn deeds (row-shares committed m.row) h low row-free)
          (under-newest committed (in_slot m.itl) m.xid m.scn deeds (slot-shares committed m.itl) h low slot-free)
          (all_three There (IsFair committed) Low (λ o. There o × IsFair committed o × Low o) deeds (λ o a b c. (a, b, c)) (each-there deeds) fair shows.low)

      undo : IsUndone m deeds
      undo = record { old = made.undo.old ∙ shows.values m.row; slot = made.undo.slot ∙ shows.slots m.itl; mine = made.undo.mine ∙ held-is committed image deeds h shows m.xid m.row made.goes_on }

      fair_now : IsFair committed m
      fair_now = record { placed = made.placed; version = (let v = made.version in omega arith); below = rw made.goes_on tt }

  pub made-shows : Shows committed now (m ∷ deeds)
  made-shows = record { values = λ r. value r (m.row == r) refl m.puts refl; slots = λ k. slot k (m.itl == k) refl; locks = λ r. lock r (m.row == r) refl; low = now_low }
    where
      value : (r : ℕ) (t : Bool) → (m.row == r) ≡ t → (p : Bool) → m.puts ≡ p → cond t m.value (image.value r) ≡ value_of (cond (t && p) (Some m) (newest (puts_on r) deeds))
      value r true e true f = refl
      value r true e false f = made.value f ∙ (ap image.value (eqb-true m.row r e) ∙ shows.values r)
      value r false e p f = shows.values r

      slot : (k : ℕ) (t : Bool) → (m.itl == k) ≡ t → cond t (record { xid = m.xid; seq = m.seq }) (image.slot k) ≡ slot_of (cond t (Some m) (newest (in_slot k) deeds))
      slot k true e = refl
      slot k false e = shows.slots k

      zero_stays : (fresh : Bool) (k : ℕ) → let_go fresh k 0 ≡ 0
      zero_stays true k = go (0 == k)
        where
          go : (b : Bool) → ◌≡◌ {A = ℕ} (cond b 0 0) 0
          go true = refl
          go false = refl
      zero_stays false k = refl

      lock : (r : ℕ) (t : Bool) → (m.row == r) ≡ t → IsLocked committed m.scn now.slot (cond t m.itl (let_go (not (same_xid m.old_itl.xid m.xid)) m.itl (image.lock r))) (cond t (Some m) (newest (on_row r) deeds))
      lock r true e = inr (refl, rw (eq-eqb m.itl m.itl refl) refl)
      lock r false e = here (newest (on_row r) deeds) refl (shows.locks r)
        where
          here : (p : Option Deed) → newest (on_row r) deeds ≡ p → IsLocked committed image.scn image.slot (image.lock r) p → IsLocked committed m.scn now.slot (let_go fresh m.itl (image.lock r)) p
          here None f l = rw l (zero_stays fresh m.itl)
          here (Some n) f (inl l) = inl (rw l.0 (zero_stays fresh m.itl), up (committed n.xid) l.1)
          here (Some n) f (inr l) = go (m.itl == n.itl) refl
            where
              keep : (a : Bool) → (image.lock r == m.itl) ≡ false → cond (a && (image.lock r == m.itl)) 0 (image.lock r) ≡ image.lock r
              keep true e = rw e refl
              keep false e = refl

              go : (b : Bool) → (m.itl == n.itl) ≡ b → IsLocked committed m.scn now.slot (let_go fresh m.itl (image.lock r)) (Some n)
              go false g = inr (keep fresh (rw l.0 (eqb-off m.itl n.itl g)) ∙ l.0, rw g l.1)
              go true g = anew (same_xid m.old_itl.xid m.xid) refl
                where
                  itl : m.itl ≡ n.itl
                  itl = eqb-true m.itl n.itl g

                  on : (image.lock r == m.itl) ≡ true
                  on = rw (l.0, itl) (eq-eqb n.itl n.itl refl)

                  had : m.old_itl.xid ≡ n.xid
                  had = ap (λ s. s.xid) made.undo.slot ∙ (ap (λ k. (image.slot k).xid) itl ∙ l.1)

                  anew : (b : Bool) → same_xid m.old_itl.xid m.xid ≡ b → IsLocked committed m.scn now.slot (cond (not b && (image.lock r == m.itl)) 0 (image.lock r)) (Some n)
                  anew true s = inr (l.0, rw g (sym (same_xid-true m.old_itl.xid m.xid s) ∙ had))
                  anew false s = rw on (inl (refl, gone))
                    where
                      gone : IsSomeAnd (committed n.xid) (λ c. c < m.scn)
                      gone = elim made.chosen [
                        | inl x ↦ clash (same_xid m.old_itl.xid m.xid) (rw (made.undo.slot, x) (same_xid-refl m.xid)) s
                        | inr f ↦ elim f.1 [
                          | inl z ↦ (let a = (newest-all (IsFair committed) (on_row r) n deeds fair f0).placed.wrap in let b : n.xid.wrap ≡ 0 = ap (λ x. x.wrap) (sym had ∙ ap (λ s. s.xid) made.undo.slot) ∙ z in absurd (omega arith))
                          | inr c ↦ subst (λ x. IsSomeAnd (committed x) (λ c. c < m.scn)) (ap (λ s. s.xid) (sym made.undo.slot) ∙ had) c
                        ]
                      ]
                        where
                          f0 : newest (on_row r) deeds ≡ Some n
                          f0 = f

      now_low : AllByRecursion (λ o. (o.scn ≤ m.scn) × (o.version ≤ image.version + 1)) (m ∷ deeds)
      now_low = (
        (omega arith, (let b = made.version in omega arith)),
        all_map Low (λ o. (o.scn ≤ m.scn) × (o.version ≤ image.version + 1)) deeds (λ o l. ((let a = made.scn in omega (arith, l.0)), omega (arith, l.1))) shows.low,
      )
