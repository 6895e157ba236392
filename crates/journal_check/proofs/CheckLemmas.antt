-- A checked journal is good at each place, and replays.
use Rattle.std.proofs.Common.{◌≡◌, ◌∙◌, ℕ, ◌+◌, ◌<◌, List, [], ◌∷◌, ◌++◌, reverse, take, drop, length, get_or, ap, subst, sym}
use Rattle.std.proofs.lemmas.List.{append_assoc, take-append-drop, drop_more, reverse-append}
use Rattle.journal.specs.declared.entry.Entry.{Entry}
use Rattle.journal.specs.Past.{Past, Each}
use Rattle.journal.specs.History.{history}
use Rattle.journal.specs.Good.{FoundIsSeen, CommitIsProper, AckIsProper, StartIsProper, RowIsFree, Replays, changes_in}
use Rattle.journal_check.specs.Checked.{RowsExist, IsNamed, RowsAreListed, IsChecked}
use Rattle.journal_check.specs.Place.{IsGoodAt}
use Rattle.journal.proofs.EachLemmas.{Each-at}

-- what follows from one fact at each place
pub Each-map : (P Q : Past → Entry → Type 0) → ((past : Past) (e : Entry) → P past e → Q past e) → (past : Past) → Each P past → Each Q past
Each-map P Q f [] each = tt
Each-map P Q f (e ∷ past) each = (f past e each.0, Each-map P Q f past each.1)

-- the entry at a place is the first of what is left there
pub drop_entry : (entries : List Entry) (i : ℕ) (e : Entry) → i < length entries → e ≡ get_or entries i e → drop i entries ≡ e ∷ drop (i + 1) entries
drop_entry entries i e within is =
    drop_more entries i e within ∙ ap (λ (x : Entry). x ∷ drop (i + 1) entries) (sym is)

module _ (rows : ℕ) (past : Past) where
  abbrev pub Good : Past → Entry → Type 0
  Good = IsGoodAt rows (history past)

  pub IsChecked-from : Each Good past → Replays (changes_in (history past)) → IsChecked rows past
  IsChecked-from each replay = record {
    rows_exist = Each-map Good (RowsExist rows) (λ past e good. good.rows_exist) past each;
    named = Each-map Good IsNamed (λ past e good. good.named) past each;
    listed = Each-map Good (RowsAreListed (history past)) (λ past e good. good.listed) past each;
    good = record {
      found = Each-map Good (FoundIsSeen (history past)) (λ past e good. good.found) past each;
      commits = Each-map Good CommitIsProper (λ past e good. good.commit) past each;
      acknowledgements = Each-map Good AckIsProper (λ past e good. good.acknowledgement) past each;
      starts = Each-map Good StartIsProper (λ past e good. good.start) past each;
      row_locks = Each-map Good RowIsFree (λ past e good. good.row_lock) past each;
      replay = replay;
    };
  }

  pub Each-from_checked : IsChecked rows past → Each Good past
  Each-from_checked checked =
      gather past checked.rows_exist checked.named checked.listed checked.good.found checked.good.commits checked.good.acknowledgements checked.good.starts checked.good.row_locks
    where
      gather : (left : Past) → Each (RowsExist rows) left → Each IsNamed left → Each (RowsAreListed (history past)) left
          → Each (FoundIsSeen (history past)) left → Each CommitIsProper left → Each AckIsProper left → Each StartIsProper left → Each RowIsFree left → Each Good left
      gather [] a b d f g h i j = tt
      gather (e ∷ left) a b d f g h i j = (
        record { rows_exist = a.0; named = b.0; listed = d.0; found = f.0; commit = g.0; acknowledgement = h.0; start = i.0; row_lock = j.0 },
        gather left a.1 b.1 d.1 f.1 g.1 h.1 i.1 j.1,
      )

-- a journal cut at an entry, in order and from the newest on
reverse_cut : (before : List Entry) (e : Entry) (after : List Entry) → reverse (before ++ e ∷ after) ≡ reverse after ++ e ∷ reverse before
reverse_cut before e after =
    reverse-append before (e ∷ after) ∙ ap (λ (xs : Past). xs ++ reverse before) (reverse-append (e ∷ []) after) ∙ append_assoc (reverse after) (e ∷ []) (reverse before)

-- a checked journal is good at a place of its entries in order
pub good-at : (rows : ℕ) (past : Past) (entries : List Entry) (i : ℕ) (e : Entry) → reverse entries ≡ past → drop i entries ≡ e ∷ drop (i + 1) entries → IsChecked rows past → Good rows past (reverse (take i entries)) e
good-at rows past entries i e same cut checked =
    Each-at (Good rows past) (reverse (drop (i + 1) entries)) e (reverse (take i entries))
    (subst (Each (Good rows past))
    (sym same ∙ ap reverse (sym (take-append-drop i entries) ∙ ap (λ (rest : List Entry). take i entries ++ rest) cut) ∙ reverse_cut (take i entries) e (drop (i + 1) entries))
    (Each-from_checked rows past checked))
