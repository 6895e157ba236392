-- An open transaction has a change entry, which names it.
use Rattle.std.proofs.Common.{◌≡◌, List, [], ◌∷◌, Bool, true, false, cond, ◌||◌, refl, subst, arith}
use Rattle.std.specs.List.{list_any}
use Rattle.base_types.specs.declared.names.Xid.{Xid}
use Rattle.journal.specs.declared.entry.Entry.TheVariants.{Changed, Locked, Marked, Rolled}
use Rattle.journal.specs.Past.{Past, same_xid, is_loss_of}
use Rattle.journal.specs.Standing.{is_open}
use Rattle.journal.proofs.XidLemmas.{same_xid-refl, same_xid-true}
use Rattle.good_run.specs.Refusals.{xids_in}

-- a transaction is among others
abbrev pub Named : Xid → List Xid → Type 0
Named x xids = list_any (same_xid x) xids ≡ true

-- a deed's transaction is named behind it, and whoever was named before still is
named-itself : (x : Xid) (xids : List Xid) (b : Bool) → list_any (same_xid x) xids ≡ b → Named x (cond b xids (x ∷ xids))
named-itself x xids true h = h
named-itself x xids false h = rw (same_xid-refl x) refl

named-still : (x y : Xid) (xids : List Xid) (b : Bool) → Named x xids → Named x (cond b xids (y ∷ xids))
named-still x y xids true h = h
named-still x y xids false h = or-right (same_xid x y) h
  where
    or-right : (a : Bool) → Named x xids → (a || list_any (same_xid x) xids) ≡ true
    or-right true h = refl
    or-right false h = h

named-deed : (x y : Xid) (xids : List Xid) → x ≡ y → Named x (cond (list_any (same_xid y) xids) xids (y ∷ xids))
named-deed x y xids same =
    subst (λ (z : Xid). Named x (cond (list_any (same_xid z) xids) xids (z ∷ xids))) same
    (named-itself x xids (list_any (same_xid x) xids) refl)

-- behind a deed of y
after-deed : (x y : Xid) (xids : List Xid) (before : Bool) → (before ≡ true → Named x xids) → (b : Bool) → same_xid x y ≡ b → cond b true before ≡ true → Named x (cond (list_any (same_xid y) xids) xids (y ∷ xids))
after-deed x y xids before old true same h = named-deed x y xids (same_xid-true x y same)
after-deed x y xids before old false same h = named-still x y xids (list_any (same_xid y) xids) (old h)

-- what was closed at a test was open before
open-before : (b before : Bool) → cond b false before ≡ true → before ≡ true
open-before true before h = grind (arith, h)
open-before false before h = h

pub open-named : (x : Xid) (past : Past) → is_open x past ≡ true → Named x (xids_in past)
open-named x [] h = h
open-named x (Changed stmt y row found new ∷ past) h =
    after-deed x y (xids_in past) (is_open x past) (open-named x past) (same_xid x y) refl h
open-named x (Locked stmt y row ∷ past) h =
    after-deed x y (xids_in past) (is_open x past) (open-named x past) (same_xid x y) refl h
open-named x (Marked stmt y commit_scn ∷ past) h = open-named x past (open-before (same_xid x y) (is_open x past) h)
open-named x (Rolled y ∷ past) h = open-named x past (open-before (same_xid x y) (is_open x past) h)
open-named x (e ∷ past) h = open-named x past (open-before (is_loss_of x.seg e) (is_open x past) h)
