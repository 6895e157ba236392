-- Who holds a row has made a change entry.
use Rattle.std.proofs.Common.{◌≡◌, ◌∙◌, ◌⊎◌, inl, inr, ℕ, List, [], ◌∷◌, Bool, true, false, cond, ◌||◌, ◌==◌, reverse, refl, sym}
use Rattle.std.specs.Option.{option_map_or}
use Rattle.std.specs.List.{list_any}
use Rattle.std.proofs.lemmas.Bool.{and_parts, or_left, or_right}
use Rattle.base_types.specs.declared.names.Xid.{Xid}
use Rattle.journal.specs.declared.entry.Entry.{Entry}
use Rattle.journal.specs.declared.entry.Entry.TheVariants.{Changed, Locked, Marked, Rolled}
use Rattle.journal.specs.Past.{Past, same_xid, is_loss_of}
use Rattle.journal.specs.Standing.{open_after, is_open, holds, row_of, standing}
use Rattle.journal_check.specs.Place.{changer}
use Rattle.journal_check.proofs.PastLemmas.{stood_reverse}

-- whether an entry is a change entry of a transaction
abbrev pub is_deed_of : Xid → Entry → Bool
is_deed_of x e = option_map_or (same_xid x) (changer e) false

-- a test that is true leaves it closed
cond_false_or : (b d : Bool) → cond b false d ≡ true → d ≡ true
cond_false_or true d h = (cc)
cond_false_or false d h = h

open_after-deed : (x : Xid) (e : Entry) (before : Bool) → open_after x e before ≡ true → (is_deed_of x e ≡ true) ⊎ (before ≡ true)
open_after-deed x (Changed n y row found new) before h = by_test (same_xid x y) h
  where
    by_test : (b : Bool) → cond b true before ≡ true → (b ≡ true) ⊎ (before ≡ true)
    by_test true h = inl refl
    by_test false h = inr h
open_after-deed x (Locked n y row) before h = by_test (same_xid x y) h
  where
    by_test : (b : Bool) → cond b true before ≡ true → (b ≡ true) ⊎ (before ≡ true)
    by_test true h = inl refl
    by_test false h = inr h
open_after-deed x (Marked n y c) before h = inr (cond_false_or (same_xid x y) before h)
open_after-deed x (Rolled y) before h = inr (cond_false_or (same_xid x y) before h)
open_after-deed x e before h = inr (cond_false_or (is_loss_of x.seg e) before h)

is_open-deed : (x : Xid) (past : Past) → is_open x past ≡ true → list_any (is_deed_of x) past ≡ true
is_open-deed x [] h = (cc)
is_open-deed x (e ∷ past) h = by_cases (is_open-deed x past) (open_after-deed x e (is_open x past) h)
  where
    by_cases : (is_open x past ≡ true → list_any (is_deed_of x) past ≡ true) → (is_deed_of x e ≡ true) ⊎ (is_open x past ≡ true) → (is_deed_of x e || list_any (is_deed_of x) past) ≡ true
    by_cases older (inl made) = or_left (is_deed_of x e) (list_any (is_deed_of x) past) made
    by_cases older (inr is) = or_right (is_deed_of x e) (list_any (is_deed_of x) past) (older is)

-- a transaction that holds a row after some entries has a change entry among them
pub holds-deed : (x : Xid) (row : ℕ) (entries : List Entry) → holds x row (reverse entries) ≡ true → list_any (is_deed_of x) entries ≡ true
holds-deed x row entries h =
    sym (stood_reverse (is_deed_of x) entries)
    ∙ is_open-deed x (reverse entries) (and_parts (is_open x (reverse entries)) (list_any (λ deed. row_of deed == row) (standing x (reverse entries))) h).0
