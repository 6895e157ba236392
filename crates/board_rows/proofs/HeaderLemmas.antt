-- A header of a later moment than the image's tells who has committed.
use Rattle.std.proofs.Common.{◌≡◌, ℕ, ◌<◌, ◌≤◌, true, false, List, [], ◌∷◌, ◌++◌, refl, sym, ap, ◌∙◌, subst, arith, inl, inr, ◌⊎◌, Option, Some, None}
use Rattle.std.specs.List.{AllByRecursion}
use Rattle.board_rows.proofs.Words.{Xid, same_xid, Range, Record, Commits, DeedAt, scn_of, xid_of, touches, stands, of_xid, Stage, Over, stage, durable_commit, on, shown, deeds_in, committed_at, is_up_to, seen_at, Board, IsLateHere, Sound, Follows, ended, MayTell}
use Rattle.board_rows.proofs.Lists.{cases, all_append, all_both}
use Rattle.board_rows.proofs.Shown.{shown-later, shown-of_xid}
use Rattle.board_rows.proofs.TxnSteps.{stops}
use Rattle.board_rows.proofs.Losses.{after-of_xid}

-- the end that a header has is that of the stage
abbrev Agrees : Stage → Option ℕ → Type 0
Agrees (Over (Some c)) (Some e) = c ≡ e
Agrees (Over None) (Some e) = Unit {0}
Agrees (Over o) None = ⊥
Agrees _ None = Unit {0}
Agrees _ (Some e) = ⊥

follows-older : (newer head : List Record) → Follows (newer ++ head) → Follows head
follows-older [] head f = f
follows-older (r ∷ newer) head f = follows-older newer head f.1

ended-agrees : (x : Xid) (recs : List Record) → Follows recs → Agrees (stage x recs) (ended x recs)
ended-agrees x [] f = tt
ended-agrees x (r ∷ recs) f = grind (arith, ended-agrees x recs)

-- nothing follows an end
stays-over : (x : Xid) (o : Option ℕ) (newer head : List Record) → Follows (newer ++ head) → stage x head ≡ Over o → stage x (newer ++ head) ≡ Over o
stays-over x o [] head f e = e
stays-over x o (r ∷ newer) head f e = grind (arith, stays-over x o newer head f.1 e)

stands-same : (x : Xid) (o : Option ℕ) (newer head : List Record) → Follows (newer ++ head) → stage x head ≡ Over o → of_xid x (stands (newer ++ head)) ≡ of_xid x (stands head)
stands-same x o [] head f e = refl
stands-same x o (r ∷ newer) head f e = grind (arith, cases, stops, stays-over, after-of_xid, stands-same x o newer head f.1 e)

-- what has no deeds shows none
none-shows : (k : ℕ) (mods : List DeedAt) → deeds_in mods ≡ [] → shown k (λ y. true) mods ≡ []
none-shows k [] e = refl
none-shows k (m ∷ mods) e = grind arith

-- a commit is there, or its record came since
commit-since : (P : Record → Type 0) (x : Xid) (c : ℕ) (newer head : List Record) → AllByRecursion P newer → stage x (newer ++ head) ≡ Over (Some c) → P (Commits c x) ⊎ (stage x head ≡ Over (Some c))
commit-since P x c [] head h is = inr is
commit-since P x c (r ∷ newer) head h is = grind (arith, commit-since P x c newer)

-- a deed that stands on a row is shown there
shown-some : (k : ℕ) (x : Xid) (m : DeedAt) (mods more : List DeedAt) → on k m ≡ true → same_xid x m.xid ≡ true → shown k (same_xid x) (more ++ m ∷ mods) ≡ [] → ⊥
shown-some k x m mods [] a e h = grind arith
shown-some k x m mods (o ∷ more) a e h = grind (arith, shown-some k x m mods more a e)

module _ (asked : ℕ → Option Range) (insts : ℕ) (b : Board) (sound : Sound asked insts b) (s k : ℕ) (x : Xid) (newer mid there : List Record) (may : MayTell b s k x newer mid there)
    (m : DeedAt) (older more : List DeedAt) (place : stands there ≡ more ++ m ∷ older) (row : on k m ≡ true) (same : same_xid x m.xid ≡ true) where
  abbrev head : List Record
  head = mid ++ there

  abbrev IsTold : Type 0
  IsTold = (is_up_to s (ended x head) ≡ seen_at s (λ y. committed_at y b.past) x) × IsLateHere b s x

  over : (o : Option ℕ) → stage x head ≡ Over o → stage x b.records ≡ Over o
  over o e = ap (stage x) may.image ∙ stays-over x o newer head (subst Follows may.image sound.txns.follows) e

  -- what the journal has of it
  seen-is : (st : Stage) → stage x b.records ≡ st → seen_at s (λ y. committed_at y b.past) x ≡ is_up_to s (durable_commit (b.durable x.seg) st)
  seen-is st e = ap (is_up_to s) ((sound.txns.each x).commits ∙ ap (durable_commit (b.durable x.seg)) e)

  -- by its stage now, where its end is above s
  not-yet : (st : Stage) → stage x b.records ≡ st → is_up_to s (ended x head) ≡ false → ((c : ℕ) → st ≡ Over (Some c) → s < c) → IsTold
  not-yet st e none high = grind arith

  -- a commit record that the header doesn't have is above s
  came-since : ((c : ℕ) → stage x head ≡ Over (Some c) → ⊥) → (st : Stage) → stage x b.records ≡ st → (c : ℕ) → st ≡ Over (Some c) → s < c
  came-since never st e c f = elim (commit-since (λ r. (c : ℕ) → r ≡ Commits c x → s < c) x c newer head may.above (sym (ap (stage x) may.image) ∙ (e ∙ f))) [
    | inl h ↦ h c refl
    | inr g ↦ absurd (never c g)
  ]

  -- what was rolled back up to s stands in no image
  rolled-high : (e : ℕ) → stage x head ≡ Over None → ended x head ≡ Some e → e ≤ s → ⊥
  rolled-high e is end le = shown-some k x m older more row same (ap (shown k (same_xid x)) (sym place) ∙ (sym still ∙ nothing))
    where
      one : (r : Record) → (same_xid x (xid_of r) ≡ true → scn_of r ≤ e) → (touches k r ≡ true → s < scn_of r) → touches k r ≡ true → same_xid x (xid_of r) ≡ false
      one r low later t = grind arith

      still : shown k (same_xid x) (stands head) ≡ shown k (same_xid x) (stands there)
      still = shown-later k (same_xid x) mid there (all_both _ _ _ mid one (may.last e is end) (all_append (λ r. touches k r ≡ true → s < scn_of r) newer mid may.later).1)

      nothing : shown k (same_xid x) (stands head) ≡ []
      nothing =
          let mods : of_xid x (stands b.records) ≡ of_xid x (stands head) = ap (λ recs. of_xid x (stands recs)) may.image ∙ stands-same x None newer head (subst Follows may.image sound.txns.follows) is in
          sym (shown-of_xid k x (stands head)) ∙ none-shows k (of_xid x (stands head)) (ap (λ (ms : List DeedAt). deeds_in ms) (sym mods) ∙ (sound.txns.each x).rolled (over None is))

  pub header-tells : IsTold
  header-tells = grind (arith, cases, ended-agrees, follows-older, not-yet, came-since, over, rolled-high, seen-is)
