-- One more commit in the history, and the table.
use Rattle.std.proofs.Common.{◌≡◌, ℕ, Bool, true, false, cond, ◌||◌, List, [], ◌∷◌, ◌++◌, refl, sym, ap, ◌∙◌, leb, inl, inr, ◌⊎◌, arith, Option, Some, None}
use Rattle.std.specs.List.{AllByRecursion}
use Rattle.std.proofs.lemmas.List.Elements.{filter-append}
use Rattle.board_rows.proofs.Words.{Xid, same_xid, Change, changes_of, Commit, is_before, entered, changes_up_to, same_xid-true, DeedAt, shown, on_row, is_up_to, seen_at, TableStands}
use Rattle.board_rows.proofs.Lists.{cases, clash}
use Rattle.board_rows.proofs.Shown.{Ahead, shown-or, shown-same, changes_of-append}

-- two commits are in order, or have no row in common
abbrev pub IsClear : Commit → Commit → Type 0
IsClear a b = (k : ℕ) → (is_before a b ≡ false) ⊎ ((on_row k a.changes ≡ []) ⊎ (on_row k b.changes ≡ []))

-- the changes of a commit up to s, or none
abbrev at_s : ℕ → Commit → List Change
at_s s a = cond (leb a.commit_scn s) a.changes []

row-cons : (k s : ℕ) (a : Commit) (commits : List Commit) → on_row k (changes_up_to s (a ∷ commits)) ≡ on_row k (at_s s a) ++ on_row k (changes_up_to s commits)
row-cons k s a commits = grind (arith, cases, filter-append)

row-none : (k s : ℕ) (b : Commit) → on_row k b.changes ≡ [] → on_row k (at_s s b) ≡ []
row-none k s b h = grind arith

-- in each row one more commit comes first
pub row-entered : (k s : ℕ) (a : Commit) (commits : List Commit) → AllByRecursion (IsClear a) commits → on_row k (changes_up_to s (entered a commits)) ≡ on_row k (at_s s a) ++ on_row k (changes_up_to s commits)
row-entered k s a [] h = row-cons k s a []
row-entered k s a (b ∷ commits) h = here (is_before a b) (h.0 k) (row-entered k s a commits h.1)
  where
    swap : (xs ys zs : List Change) → (xs ≡ []) ⊎ (ys ≡ []) → ys ++ (xs ++ zs) ≡ xs ++ (ys ++ zs)
    swap xs ys zs (inl e) = rw e refl
    swap xs ys zs (inr e) = rw e refl

    none : (on_row k a.changes ≡ []) ⊎ (on_row k b.changes ≡ []) → (on_row k (at_s s a) ≡ []) ⊎ (on_row k (at_s s b) ≡ [])
    none (inl e) = inl (row-none k s a e)
    none (inr e) = inr (row-none k s b e)

    here : (t : Bool) → (t ≡ false) ⊎ ((on_row k a.changes ≡ []) ⊎ (on_row k b.changes ≡ [])) → on_row k (changes_up_to s (entered a commits)) ≡ on_row k (at_s s a) ++ on_row k (changes_up_to s commits)
        → on_row k (changes_up_to s (cond t (b ∷ entered a commits) (a ∷ b ∷ commits))) ≡ on_row k (at_s s a) ++ on_row k (changes_up_to s (b ∷ commits))
    here false h ih = row-cons k s a (b ∷ commits)
    here true (inl e) ih = clash true refl e
    here true (inr e) ih =
        row-cons k s b (entered a commits)
        ∙ (ap (λ cs. on_row k (at_s s b) ++ cs) ih
        ∙ (swap (on_row k (at_s s a)) (on_row k (at_s s b)) (on_row k (changes_up_to s commits)) (none e)
        ∙ ap (λ cs. on_row k (at_s s a) ++ cs) (sym (row-cons k s b commits))))

-- the commits after one more, of a transaction that had none
pub record OneMore (x : Xid) (c : ℕ) (old now : Xid → Option ℕ) : Type 0 where
  pub new : old x ≡ None
  pub is : (y : Xid) → now y ≡ cond (same_xid x y) (Some c) (old y)

pub TableStands-committed : (x : Xid) (a : Commit) (old now : Xid → Option ℕ) (commits : List Commit) (mods : List DeedAt)
    → OneMore x a.commit_scn old now
    → ((k : ℕ) → on_row k a.changes ≡ changes_of (shown k (same_xid x) mods))
    → AllByRecursion (IsClear a) commits
    → ((k s : ℕ) → Ahead k (same_xid x) (seen_at s old) mods)
    → TableStands old commits mods → TableStands now (entered a commits) mods
TableStands-committed x a old now commits mods one same clear ahead table s k = row-entered k s a commits clear ∙ here (leb a.commit_scn s) refl
  where
    unseen : (y : Xid) → same_xid x y ≡ true → seen_at s old y ≡ false
    unseen y e = rw (sym (same_xid-true x y e), one.new) refl

    told : (y : Xid) (b : Bool) → leb a.commit_scn s ≡ b → seen_at s now y ≡ is_up_to s (cond (same_xid x y) (Some a.commit_scn) (old y))
    told y b e = ap (is_up_to s) (one.is y)

    below : leb a.commit_scn s ≡ true → (y : Xid) (t : Bool) → is_up_to s (cond t (Some a.commit_scn) (old y)) ≡ (t || seen_at s old y)
    below l y true = l
    below l y false = refl

    above : leb a.commit_scn s ≡ false → (y : Xid) (t : Bool) → (t ≡ true → seen_at s old y ≡ false) → is_up_to s (cond t (Some a.commit_scn) (old y)) ≡ seen_at s old y
    above l y true u = l ∙ sym (u refl)
    above l y false u = refl

    here : (b : Bool) → leb a.commit_scn s ≡ b → on_row k (cond b a.changes []) ++ on_row k (changes_up_to s commits) ≡ changes_of (shown k (seen_at s now) mods)
    here true l =
        rw (same k, table s k)
        (sym (ap changes_of (shown-same k (seen_at s now) (λ y. same_xid x y || seen_at s old y) mods (λ y. ap (is_up_to s) (one.is y) ∙ below l y (same_xid x y)) ∙ shown-or k (same_xid x) (seen_at s old) mods unseen (ahead k s))
        ∙ changes_of-append (shown k (same_xid x) mods) (shown k (seen_at s old) mods)))
    here false l = table s k ∙ ap changes_of (sym (shown-same k (seen_at s now) (seen_at s old) mods (λ y. ap (is_up_to s) (one.is y) ∙ above l y (same_xid x y) (unseen y))))
