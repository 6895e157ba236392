-- The newest that passes a test.
use Rattle.std.proofs.Common.{◌≡◌, ℕ, Bool, true, false, cond, ◌==◌, List, [], ◌∷◌, ◌++◌, refl, sym, ap, ◌∙◌}
use Rattle.std.specs.Prelude.{Option, Some, None, is_some}
use Rattle.std.specs.List.{AllByRecursion}
use Rattle.std.proofs.lemmas.Bool.{eqb-true, eq-eqb, false≢true}
use Rattle.base_types.specs.declared.names.Xid.{Xid}
use Rattle.journal.specs.Past.{same_xid}
use Rattle.journal.proofs.XidLemmas.{same_xid-refl, same_xid-true}
use Rattle.board_slots.specs.Block.{Deed, newest}

-- what can't be true and false
pub clash : {A : Type 0} (b : Bool) → b ≡ true → b ≡ false → A
clash b t f = absurd (false≢true (sym f ∙ t))

pub same_xid-sym : (x y : Xid) → same_xid x y ≡ same_xid y x
same_xid-sym x y = here (same_xid x y) (same_xid y x) refl refl
  where
    here : (a b : Bool) → same_xid x y ≡ a → same_xid y x ≡ b → a ≡ b
    here true true e f = refl
    here false false e f = refl
    here true false e f = clash (same_xid y x) (rw (same_xid-true x y e) (same_xid-refl y)) f
    here false true e f = clash (same_xid x y) (rw (same_xid-true y x f) (same_xid-refl x)) e

pub all_map : {X : Type 0} (P Q : X → Type 0) (xs : List X) → ((x : X) → P x → Q x) → AllByRecursion P xs → AllByRecursion Q xs
all_map P Q [] f h = tt
all_map P Q (x ∷ xs) f h = (f x h.0, all_map P Q xs f h.1)

pub all_both : {X : Type 0} (P Q R : X → Type 0) (xs : List X) → ((x : X) → P x → Q x → R x) → AllByRecursion P xs → AllByRecursion Q xs → AllByRecursion R xs
all_both P Q R [] f h i = tt
all_both P Q R (x ∷ xs) f h i = (f x h.0 i.0, all_both P Q R xs f h.1 i.1)

pub all_append : {X : Type 0} (P : X → Type 0) (xs ys : List X) → AllByRecursion P (xs ++ ys) → AllByRecursion P xs × AllByRecursion P ys
all_append P [] ys h = (tt, h)
all_append P (x ∷ xs) ys h = let rest = all_append P xs ys h.1 in ((h.0, rest.0), rest.1)

pub all_join : {X : Type 0} (P : X → Type 0) (xs ys : List X) → AllByRecursion P xs → AllByRecursion P ys → AllByRecursion P (xs ++ ys)
all_join P [] ys h i = i
all_join P (x ∷ xs) ys h i = (h.0, all_join P xs ys h.1 i)

-- one that doesn't pass hides nothing
pub newest-skip : (t : Deed → Bool) (m : Deed) (newer older : List Deed) → t m ≡ false → newest t (newer ++ m ∷ older) ≡ newest t (newer ++ older)
newest-skip t m [] older f = rw f refl
newest-skip t m (n ∷ newer) older f = ap (λ o. cond (t n) (Some n) o) (newest-skip t m newer older f)

-- where none of the newer ones passes
pub newest-past : (t : Deed → Bool) (newer older : List Deed) → AllByRecursion (λ n. t n ≡ false) newer → newest t (newer ++ older) ≡ newest t older
newest-past t [] older h = refl
newest-past t (n ∷ newer) older h = rw h.0 (newest-past t newer older h.1)

-- the newest that passes, with those over it and those under it
pub record Split (t : Deed → Bool) (m : Deed) (deeds : List Deed) : Type 0 where
  pub newer : List Deed
  pub older : List Deed
  pub place : deeds ≡ newer ++ m ∷ older
  pub passes : t m ≡ true
  pub none : AllByRecursion (λ n. t n ≡ false) newer

pub split : (t : Deed → Bool) (m : Deed) (deeds : List Deed) → newest t deeds ≡ Some m → Split t m deeds
split t m [] h = absurd (let bad : ◌≡◌ {A = Option Deed} None (Some m) = h in cc)
split t m (n ∷ deeds) h = here (t n) refl h (split t m deeds)
  where
    here : (b : Bool) → t n ≡ b → cond b (Some n) (newest t deeds) ≡ Some m → (newest t deeds ≡ Some m → Split t m deeds) → Split t m (n ∷ deeds)
    here true e h ih = let same : n ≡ m = cc in record { newer = []; older = deeds; place = ap (λ x. x ∷ deeds) same; passes = rw (sym same) e; none = tt }
    here false e h ih =
        let s = ih h in
        record { newer = n ∷ s.newer; older = s.older; place = ap (λ xs. n ∷ xs) s.place; passes = s.passes; none = (e, s.none) }

-- a fact of all is one of the newest
pub newest-all : (P : Deed → Type 0) (t : Deed → Bool) (m : Deed) (deeds : List Deed) → AllByRecursion P deeds → newest t deeds ≡ Some m → P m
newest-all P t m [] h e = absurd (let bad : ◌≡◌ {A = Option Deed} None (Some m) = e in cc)
newest-all P t m (n ∷ deeds) h e = here (t n) e (newest-all P t m deeds h.1)
  where
    here : (b : Bool) → cond b (Some n) (newest t deeds) ≡ Some m → (newest t deeds ≡ Some m → P m) → P m
    here true e ih = let same : n ≡ m = cc in rw (sym same) h.0
    here false e ih = ih e

pub newest-passes : (t : Deed → Bool) (m : Deed) (deeds : List Deed) → newest t deeds ≡ Some m → t m ≡ true
newest-passes t m deeds e = (split t m deeds e).passes

-- none passes
pub newest-none : (t : Deed → Bool) (deeds : List Deed) → newest t deeds ≡ None → AllByRecursion (λ m. t m ≡ false) deeds
newest-none t [] e = tt
newest-none t (m ∷ deeds) e = here (t m) refl e (newest-none t deeds)
  where
    here : (b : Bool) → t m ≡ b → cond b (Some m) (newest t deeds) ≡ None → (newest t deeds ≡ None → AllByRecursion (λ m. t m ≡ false) deeds) → (t m ≡ false) × AllByRecursion (λ m. t m ≡ false) deeds
    here true f e ih = absurd (let bad : ◌≡◌ {A = Option Deed} (Some m) None = e in cc)
    here false f e ih = (f, ih e)

-- the newest of all that pass a wider test passes it too
pub newest-some : (t : Deed → Bool) (deeds : List Deed) (o : Deed) → newest t deeds ≡ Some o → is_some (newest t deeds) ≡ true
newest-some t deeds o e = rw e refl

-- who passes one test where the newest passes it
pub some-of : (t u : Deed → Bool) (deeds : List Deed) (o : Deed) → newest t deeds ≡ Some o → u o ≡ true → is_some (newest u deeds) ≡ true
some-of t u [] o e p = absurd (let bad : ◌≡◌ {A = Option Deed} None (Some o) = e in cc)
some-of t u (n ∷ deeds) o e p = here (t n) (u n) refl e (some-of t u deeds o)
  where
    here : (b c : Bool) → u n ≡ c → cond b (Some n) (newest t deeds) ≡ Some o → (newest t deeds ≡ Some o → u o ≡ true → is_some (newest u deeds) ≡ true) → is_some (cond c (Some n) (newest u deeds)) ≡ true
    here b true f e ih = refl
    here true false f e ih = let same : n ≡ o = cc in clash (u n) (rw same p) f
    here false false f e ih = ih e p

-- the one that is there
pub the : (o : Option Deed) → is_some o ≡ true → (m : Deed) × (o ≡ Some m)
the None h = clash false h refl
the (Some m) h = (m, refl)

pub eqb-off : (a b : ℕ) → (a == b) ≡ false → (b == a) ≡ false
eqb-off a b f = here (b == a) refl
  where
    here : (t : Bool) → (b == a) ≡ t → t ≡ false
    here false e = refl
    here true e = clash (a == b) (rw (eqb-true b a e) (eq-eqb a a refl)) f

pub eqb-both : (k a b : ℕ) → (a == k) ≡ true → (b == k) ≡ true → (a == b) ≡ true
eqb-both k a b e f = rw (eqb-true a k e, eqb-true b k f) (eq-eqb k k refl)
