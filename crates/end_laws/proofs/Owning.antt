-- Which transactions the journal says that sessions own.
use Rattle.std.proofs.Common.{◌≡◌, ℕ, Bool, true, false, ◌∷◌, Option, Some, None, if◌then◌else◌, refl, sym, ap, subst, ◌∙◌, ◌⊎◌, inl, inr}
use Rattle.std.specs.Prelude.{◌==◌}
use Rattle.std.specs.Option.{option_and_then}
use Rattle.std.proofs.lemmas.Bool.{cases_eq, eq-eqb, ne_eqb, or_left, or_right}
use Rattle.std.proofs.lemmas.Option.{none-some, same_Some}
use Rattle.base_types.specs.declared.names.Xid.{Xid}
use Rattle.journal.specs.declared.entry.Entry.{Entry}
use Rattle.journal.specs.Past.{Past, same_xid}
use Rattle.journal.specs.Sees.{last_after, last_of, own}
use Rattle.journal.specs.Standing.{is_open, open_after}
use Rattle.journal.specs.Stood.{stood}
use Rattle.journal.proofs.XidLemmas.{same_xid-refl, same_xid-true}
use Rattle.end_laws.specs.Names.{names}
use Rattle.end_laws.proofs.Sound.{not_so}

-- the transaction that is owned, if it is this one that was changed last
abbrev own_by : Option Xid → Past → Option Xid
own_by last past = option_and_then (λ x. if is_open x past then Some x else None) last

own_if : (x y : Xid) (b : Bool) → (if b then Some x else None) ≡ Some y → (x ≡ y) × (b ≡ true)
own_if x y true e = (same_Some x y e, refl)
own_if x y false e = absurd (none-some y e)

last_by : (past : Past) (last : Option Xid) (y : Xid) → own_by last past ≡ Some y → (last ≡ Some y) × (is_open y past ≡ true)
last_by past None y e = absurd (none-some y e)
last_by past (Some x) y e =
    let it = own_if x y (is_open x past) e in (ap Some it.0, subst (λ (z : Xid). is_open z past ≡ true) it.0 it.1)

-- what a session owns is what it changed last, and is open
pub owned_last : (z : ℕ) (past : Past) (x : Xid) → own z past ≡ Some x → last_of z past ≡ Some x
owned_last z past x e = (last_by past (last_of z past) x e).0

-- Each transaction that some session changed last was changed by it alone, and is named.
pub record AreOwns (past : Past) : Type 0 where
  pub alone : (y z : ℕ) (x : Xid) → last_of y past ≡ Some x → last_of z past ≡ Some x → y ≡ z
  pub named : (z : ℕ) (x : Xid) → last_of z past ≡ Some x → stood (names x) past ≡ true

-- entries that neither change rows nor end transactions

-- An entry neither changes a row nor ends a transaction.
pub record IsAside (past : Past) (e : Entry) : Type 0 where
  pub last : (z : ℕ) (before : Option Xid) → last_after z e past before ≡ before
  pub is_open : (x : Xid) (before : Bool) → open_after x e before ≡ before

own_aside : (z : ℕ) (past : Past) (e : Entry) (last : Option Xid) → IsAside past e → own_by last (e ∷ past) ≡ own_by last past
own_aside z past e None aside = refl
own_aside z past e (Some x) aside = ap (λ (b : Bool). if b then Some x else None) (aside.is_open x (is_open x past))

pub aside_owns : (z : ℕ) (past : Past) (e : Entry) → IsAside past e → own z (e ∷ past) ≡ own z past
aside_owns z past e aside =
    ap (λ (o : Option Xid). own_by o (e ∷ past)) (aside.last z (last_of z past)) ∙ own_aside z past e (last_of z past) aside

pub aside_are : (past : Past) (e : Entry) → IsAside past e → AreOwns past → AreOwns (e ∷ past)
aside_are past e aside was = record {
  alone = λ y z x first later. was.alone y z x (sym (aside.last y (last_of y past)) ∙ first) (sym (aside.last z (last_of z past)) ∙ later);
  named = λ z x is. or_right (names x e) (stood (names x) past) (was.named z x (sym (aside.last z (last_of z past)) ∙ is));
}

-- a change

-- An entry is a change or a lock of a transaction, by the statement of a session.
pub record IsChangeBy (past : Past) (z : ℕ) (x : Xid) (e : Entry) : Type 0 where
  pub last : (y : ℕ) (before : Option Xid) → last_after y e past before ≡ (if z == y then Some x else before)
  pub is_open : (w : Xid) (before : Bool) → open_after w e before ≡ (if same_xid w x then true else before)
  pub names : names x e ≡ true

-- Another session than this one didn't change a transaction last.
abbrev pub IsAlone : ℕ → Xid → Past → Type 0
IsAlone z x past = (y : ℕ) → (y ≡ z → ⊥) → last_of y past ≡ Some x → ⊥

change_last : (past : Past) (z : ℕ) (x : Xid) (e : Entry) → IsChangeBy past z x e → last_of z (e ∷ past) ≡ Some x
change_last past z x e it = it.last z (last_of z past) ∙ ap (λ (b : Bool). if b then Some x else last_of z past) (eq-eqb z z refl)

change_other_last : (past : Past) (z y : ℕ) (x : Xid) (e : Entry) → IsChangeBy past z x e → (y ≡ z → ⊥) → last_of y (e ∷ past) ≡ last_of y past
change_other_last past z y x e it apart =
    it.last y (last_of y past) ∙ ap (λ (b : Bool). if b then Some x else last_of y past) (ne_eqb z y (λ same. apart (sym same)))

pub change_owns : (past : Past) (z : ℕ) (x : Xid) (e : Entry) → IsChangeBy past z x e → own z (e ∷ past) ≡ Some x
change_owns past z x e it =
    ap (λ (o : Option Xid). own_by o (e ∷ past)) (change_last past z x e it)
    ∙ ap (λ (b : Bool). if b then Some x else None) (it.is_open x (is_open x past) ∙ ap (λ (b : Bool). if b then true else is_open x past) (same_xid-refl x))

own_apart : (past : Past) (x : Xid) (e : Entry) (left : Bool) (last : Option Xid) → ((w : Xid) (before : Bool) → open_after w e before ≡ (if same_xid w x then left else before))
    → (last ≡ Some x → ⊥) → own_by last (e ∷ past) ≡ own_by last past
own_apart past x e left None opens apart = refl
own_apart past x e left (Some w) opens apart =
    let other : same_xid w x ≡ false = not_so (same_xid w x) (λ is. apart (ap Some (same_xid-true w x is))) in
    ap (λ (b : Bool). if b then Some w else None)
    (opens w (is_open w past) ∙ ap (λ (b : Bool). if b then left else is_open w past) other)

pub change_others : (past : Past) (z y : ℕ) (x : Xid) (e : Entry) → IsChangeBy past z x e → (y ≡ z → ⊥) → IsAlone z x past → own y (e ∷ past) ≡ own y past
change_others past z y x e it apart alone =
    ap (λ (o : Option Xid). own_by o (e ∷ past)) (change_other_last past z y x e it apart)
    ∙ own_apart past x e true (last_of y past) it.is_open (alone y apart)

pub change_are : (past : Past) (z : ℕ) (x : Xid) (e : Entry) → IsChangeBy past z x e → IsAlone z x past → AreOwns past → AreOwns (e ∷ past)
change_are past z x e it alone was = record {
  alone = λ y w v first later. alone_by y w v first later (cases_eq y z) (cases_eq w z);
  named = λ y v is. named_by y v is (cases_eq y z);
}
  where
    same : (y : ℕ) (v : Xid) → last_of y (e ∷ past) ≡ Some v → y ≡ z → x ≡ v
    same y v is here = same_Some x v (sym (change_last past z x e it) ∙ subst (λ (k : ℕ). last_of k (e ∷ past) ≡ Some v) here is)

    old : (y : ℕ) (v : Xid) → last_of y (e ∷ past) ≡ Some v → (y ≡ z → ⊥) → last_of y past ≡ Some v
    old y v is apart = sym (change_other_last past z y x e it apart) ∙ is

    alone_by : (y w : ℕ) (v : Xid) → last_of y (e ∷ past) ≡ Some v → last_of w (e ∷ past) ≡ Some v → (y ≡ z) ⊎ (y ≡ z → ⊥) → (w ≡ z) ⊎ (w ≡ z → ⊥) → y ≡ w
    alone_by y w v first later (inl a) (inl b) = a ∙ sym b
    alone_by y w v first later (inl a) (inr b) = absurd (alone w b (old w v later b ∙ ap Some (sym (same y v first a))))
    alone_by y w v first later (inr a) (inl b) = absurd (alone y a (old y v first a ∙ ap Some (sym (same w v later b))))
    alone_by y w v first later (inr a) (inr b) = was.alone y w v (old y v first a) (old w v later b)

    named_by : (y : ℕ) (v : Xid) → last_of y (e ∷ past) ≡ Some v → (y ≡ z) ⊎ (y ≡ z → ⊥) → stood (names v) (e ∷ past) ≡ true
    named_by y v is (inl a) = subst (λ (u : Xid). stood (names u) (e ∷ past) ≡ true) (same y v is a) (or_left (names x e) (stood (names x) past) it.names)
    named_by y v is (inr a) = or_right (names v e) (stood (names v) past) (was.named y v (old y v is a))

-- what a session owns, or what no entry names, no other one has changed last
pub owned_alone : (past : Past) (z : ℕ) (x : Xid) → AreOwns past → own z past ≡ Some x → IsAlone z x past
owned_alone past z x was is y apart other = apart (was.alone y z x other (owned_last z past x is))

pub new_alone : (past : Past) (z : ℕ) (x : Xid) → AreOwns past → stood (names x) past ≡ false → IsAlone z x past
new_alone past z x was new y apart other = let clash : true ≡ false = sym (was.named y x other) ∙ new in cc

-- an end

-- An entry ends a transaction: it is marked, or rolled back.
pub record IsEnd (past : Past) (x : Xid) (e : Entry) : Type 0 where
  pub last : (y : ℕ) (before : Option Xid) → last_after y e past before ≡ before
  pub is_open : (w : Xid) (before : Bool) → open_after w e before ≡ (if same_xid w x then false else before)

pub end_owns : (past : Past) (z : ℕ) (x : Xid) (e : Entry) → IsEnd past x e → own z past ≡ Some x → own z (e ∷ past) ≡ None
end_owns past z x e it is =
    ap (λ (o : Option Xid). own_by o (e ∷ past)) (it.last z (last_of z past) ∙ owned_last z past x is)
    ∙ ap (λ (b : Bool). if b then Some x else None) (it.is_open x (is_open x past) ∙ ap (λ (b : Bool). if b then false else is_open x past) (same_xid-refl x))

pub end_others : (past : Past) (z y : ℕ) (x : Xid) (e : Entry) → IsEnd past x e → (y ≡ z → ⊥) → IsAlone z x past → own y (e ∷ past) ≡ own y past
end_others past z y x e it apart alone =
    ap (λ (o : Option Xid). own_by o (e ∷ past)) (it.last y (last_of y past)) ∙ own_apart past x e false (last_of y past) it.is_open (alone y apart)

pub end_are : (past : Past) (x : Xid) (e : Entry) → IsEnd past x e → AreOwns past → AreOwns (e ∷ past)
end_are past x e it was = record {
  alone = λ y z w first later. was.alone y z w (sym (it.last y (last_of y past)) ∙ first) (sym (it.last z (last_of z past)) ∙ later);
  named = λ z w is. or_right (names w e) (stood (names w) past) (was.named z w (sym (it.last z (last_of z past)) ∙ is));
}
