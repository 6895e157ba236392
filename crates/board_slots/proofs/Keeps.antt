-- Each record that the rules make keeps a block sound.
use Rattle.std.proofs.Common.{◌≡◌, ◌≢◌, ℕ, ◌<◌, Bool, true, false, cond, List, [], ◌∷◌, ◌++◌, refl, sym, ap, ◌∙◌, subst, inl, inr}
use Rattle.std.specs.Prelude.{Option, Some, None, IsSomeAnd, IfSome}
use Rattle.std.specs.List.{AllByRecursion}
use Rattle.std.proofs.lemmas.Bool.{eq-eqb}
use Rattle.base_types.specs.declared.names.Xid.{Xid}
use Rattle.redo_types.specs.declared.blocks.ItlSlot.{ItlSlot}
use Rattle.journal.specs.Past.{same_xid}
use Rattle.journal.proofs.XidLemmas.{same_xid-true}
use Rattle.board_slots.specs.Block.{Deed, newest, on_row, by, Image, Record, Does, TakesBack, Commits, RollsBack, Open, Over, stage, commit_in, committed, content, stands, is_that, without}
use Rattle.board_slots.specs.Slots.{IsUnder, IsFair, Orderly, IsLocked, Shows, back_of}
use Rattle.board_slots.specs.Records.{DeedsBelow, MayCommit, MayRoll, May, AreMade, Sound}
use Rattle.board_slots.proofs.Newest.{clash, same_xid-sym, all_map, all_both, all_append, all_join, Split, split, newest-none}
use Rattle.board_slots.proofs.Removal.{no-commit, IsClear, orderly-without, orderly-over}
use Rattle.board_slots.proofs.StepsBack.{clear-open, back-shows}
use Rattle.board_slots.proofs.Held.{fair-all}
use Rattle.board_slots.proofs.Making.{made-orderly, made-shows}

-- more commits
module _ (old now : Xid → Option ℕ) (grows : (x : Xid) (P : ℕ → Type 0) → IsSomeAnd (old x) P → IsSomeAnd (now x) P) where
  abbrev Below : Deed → Type 0
  Below m = IfSome (now m.xid) (λ c. m.scn < c)

  pub orderly-grows : (deeds : List Deed) → AllByRecursion Below deeds → Orderly old deeds → Orderly now deeds
  orderly-grows [] b h = tt
  orderly-grows (m ∷ deeds) b h = (
    record {
      under = all_map (IsUnder old m) (IsUnder now m) deeds (λ o u. record { row = λ e f. grows o.xid (λ c. c < m.scn) (u.row e f); slot = λ e f. grows o.xid (λ c. c < m.scn) (u.slot e f); one = u.one; rises = u.rises }) h.0.under;
      undo = h.0.undo;
      fair = record { placed = h.0.fair.placed; version = h.0.fair.version; below = b.0 };
    },
    orderly-grows deeds b.1 h.1,
  )

  locked-grows : (scn : ℕ) (slot : ℕ → ItlSlot) (lock : ℕ) (o : Option Deed) → IsLocked old scn slot lock o → IsLocked now scn slot lock o
  locked-grows scn slot lock None l = l
  locked-grows scn slot lock (Some m) (inl l) = inl (l.0, grows m.xid (λ c. c < scn) l.1)
  locked-grows scn slot lock (Some m) (inr l) = inr l

  pub shows-grows : (image : Image) (deeds : List Deed) → Shows old image deeds → Shows now image deeds
  shows-grows image deeds s = record { values = s.values; slots = s.slots; locks = λ r. locked-grows image.scn image.slot (image.lock r) (newest (on_row r) deeds) (s.locks r); low = s.low }

-- what a step back takes out
pub taken_out : (x : Xid) (m : Deed) (newer older : List Deed) → by x m ≡ true → AllByRecursion (λ n. by x n ≡ false) newer → without x m.seq (newer ++ m ∷ older) ≡ newer ++ older
taken_out x m [] older e none = rw (e, eq-eqb m.seq m.seq refl) refl
taken_out x m (n ∷ newer) older e none = rw none.0 (ap (λ xs. n ∷ xs) (taken_out x m newer older e none.1))

all_without : (P : Deed → Type 0) (newer older : List Deed) (m : Deed) → AllByRecursion P (newer ++ m ∷ older) → AllByRecursion P (newer ++ older)
all_without P newer older m h = let parts = all_append P newer (m ∷ older) h in all_join P newer older parts.0 parts.1.1

keeps-back : (records : List Record) (inst : ℕ) (x : Xid) (seq scn : ℕ) → (m : Deed) → stage x records ≡ Open → newest (by x) (stands records) ≡ Some m → seq ≡ m.seq → (content records).scn < scn → Sound records → Sound (TakesBack inst x seq scn (back_of m (content records)) ∷ records)
keeps-back records inst x seq scn m goes_on top number up sound =
    let left : without x seq (stands records) ≡ s.newer ++ s.older = ap (λ xs. without x seq xs) s.place ∙ rw number (taken_out x m s.newer s.older s.passes s.none) in
    record {
      orderly = rw left (orderly-without (committed records) m s.newer s.older clear placed);
      shows = rw left (back-shows (committed records) m s.newer s.older clear placed (content records) scn (subst (Shows (committed records) (content records)) s.place sound.shows) new up);
      ends = rw left (all_without (λ m. stage m.xid records ≢ Over None) s.newer s.older m (subst (AllByRecursion (λ m. stage m.xid records ≢ Over None)) s.place sound.ends));
    }
  where
    s : Split (by x) m (stands records)
    s = split (by x) m (stands records) top

    is : x ≡ m.xid
    is = same_xid-true x m.xid s.passes

    new : committed records m.xid ≡ None
    new = rw (sym is) (ap commit_in goes_on)

    placed : Orderly (committed records) (s.newer ++ m ∷ s.older)
    placed = subst (Orderly (committed records)) s.place sound.orderly

    clear : AllByRecursion (IsClear m) s.newer
    clear = all_both (λ n. by x n ≡ false) (λ n. IsUnder (committed records) n m) (IsClear m) s.newer (λ n off under. clear-open (committed records) m n new (rw (sym is, same_xid-sym n.xid x) off) under) s.none (orderly-over (committed records) s.newer m s.older placed)

-- what holds of each change holds of what stands
abbrev pub OfRecord : (Deed → Type 0) → Record → Type 0
OfRecord P (Does m) = P m
OfRecord P _ = Unit {0}

rest_without : (P : Deed → Type 0) (x : Xid) (seq : ℕ) (deeds : List Deed) → AllByRecursion P deeds → AllByRecursion P (without x seq deeds)
rest_without P x seq [] h = tt
rest_without P x seq (m ∷ deeds) h = here (is_that x seq m) (rest_without P x seq deeds h.1)
  where
    here : (t : Bool) → AllByRecursion P (without x seq deeds) → AllByRecursion P (cond t deeds (m ∷ without x seq deeds))
    here true ih = h.1
    here false ih = (h.0, ih)

pub stands-from : (P : Deed → Type 0) (records : List Record) → AllByRecursion (OfRecord P) records → AllByRecursion P (stands records)
stands-from P [] n = tt
stands-from P (Does m ∷ records) n = (n.0, stands-from P records n.1)
stands-from P (TakesBack inst x seq scn change ∷ records) n = rest_without P x seq (stands records) (stands-from P records n.1)
stands-from P (Commits c x ∷ records) n = stands-from P records n.1
stands-from P (RollsBack inst c x ∷ records) n = stands-from P records n.1

keeps-commit : (records : List Record) (c : ℕ) (x : Xid) → MayCommit records c x → Sound records → Sound (Commits c x ∷ records)
keeps-commit records c x may sound =
    record {
      orderly = orderly-grows (committed records) (committed (Commits c x ∷ records)) grows (stands records) below sound.orderly;
      shows = shows-grows (committed records) (committed (Commits c x ∷ records)) grows (content records) (stands records) sound.shows;
      ends = all_map (λ m. stage m.xid records ≢ Over None) (λ m. stage m.xid (Commits c x ∷ records) ≢ Over None) (stands records) ends sound.ends;
    }
  where
    grows : (y : Xid) (P : ℕ → Type 0) → IsSomeAnd (committed records y) P → IsSomeAnd (committed (Commits c x ∷ records) y) P
    grows y P h = here (same_xid y x) refl
      where
        here : (t : Bool) → same_xid y x ≡ t → IsSomeAnd (commit_in (cond t (Over (Some c)) (stage y records))) P
        here false e = h
        here true e = absurd (no-commit (committed records y) P (rw (same_xid-true y x e) (ap commit_in may.goes_on)) h)

    below_of : (r : Record) → DeedsBelow x c r → OfRecord (λ m. by x m ≡ true → m.scn < c) r
    below_of (Does m) h = h
    below_of (TakesBack inst y seq scn change) h = tt
    below_of (Commits d y) h = tt
    below_of (RollsBack inst d y) h = tt

    one : (m : Deed) → (by x m ≡ true → m.scn < c) → IsFair (committed records) m → IfSome (committed (Commits c x ∷ records) m.xid) (λ c. m.scn < c)
    one m above fair = here (same_xid m.xid x) refl
      where
        here : (t : Bool) → same_xid m.xid x ≡ t → IfSome (commit_in (cond t (Over (Some c)) (stage m.xid records))) (λ c. m.scn < c)
        here false e = fair.below
        here true e = above (same_xid-sym x m.xid ∙ e)

    below : AllByRecursion (λ m. IfSome (committed (Commits c x ∷ records) m.xid) (λ c. m.scn < c)) (stands records)
    below = all_both (λ m. by x m ≡ true → m.scn < c) (IsFair (committed records)) (λ m. IfSome (committed (Commits c x ∷ records) m.xid) (λ c. m.scn < c)) (stands records) one (stands-from (λ m. by x m ≡ true → m.scn < c) records (all_map (DeedsBelow x c) (OfRecord (λ m. by x m ≡ true → m.scn < c)) records below_of may.above)) (fair-all (committed records) (stands records) sound.orderly)

    ends : (m : Deed) → stage m.xid records ≢ Over None → stage m.xid (Commits c x ∷ records) ≢ Over None
    ends m h = here (same_xid m.xid x)
      where
        here : (t : Bool) → cond t (Over (Some c)) (stage m.xid records) ≢ Over None
        here false = h
        here true = λ e. (cc)

keeps-roll : (records : List Record) (inst c : ℕ) (x : Xid) → MayRoll records c x → Sound records → Sound (RollsBack inst c x ∷ records)
keeps-roll records inst c x may sound =
    record {
      orderly = orderly-grows (committed records) (committed (RollsBack inst c x ∷ records)) grows (stands records) below sound.orderly;
      shows = shows-grows (committed records) (committed (RollsBack inst c x ∷ records)) grows (content records) (stands records) sound.shows;
      ends = all_both (λ m. by x m ≡ false) (λ m. stage m.xid records ≢ Over None) (λ m. stage m.xid (RollsBack inst c x ∷ records) ≢ Over None) (stands records) ends (newest-none (by x) (stands records) may.none) sound.ends;
    }
  where
    same : (y : Xid) → committed (RollsBack inst c x ∷ records) y ≡ committed records y
    same y = here (same_xid y x) refl
      where
        here : (t : Bool) → same_xid y x ≡ t → commit_in (cond t (Over None) (stage y records)) ≡ commit_in (stage y records)
        here false e = refl
        here true e = sym (rw (same_xid-true y x e) (ap commit_in may.goes_on))

    grows : (y : Xid) (P : ℕ → Type 0) → IsSomeAnd (committed records y) P → IsSomeAnd (committed (RollsBack inst c x ∷ records) y) P
    grows y P h = subst (λ o. IsSomeAnd o P) (sym (same y)) h

    below : AllByRecursion (λ m. IfSome (committed (RollsBack inst c x ∷ records) m.xid) (λ c. m.scn < c)) (stands records)
    below = all_map (IsFair (committed records)) (λ m. IfSome (committed (RollsBack inst c x ∷ records) m.xid) (λ c. m.scn < c)) (stands records) (λ m f. subst (λ o. IfSome o (λ c. m.scn < c)) (sym (same m.xid)) f.below) (fair-all (committed records) (stands records) sound.orderly)

    ends : (m : Deed) → by x m ≡ false → stage m.xid records ≢ Over None → stage m.xid (RollsBack inst c x ∷ records) ≢ Over None
    ends m off h = here (same_xid m.xid x) refl
      where
        here : (t : Bool) → same_xid m.xid x ≡ t → cond t (Over None) (stage m.xid records) ≢ Over None
        here false e = h
        here true e = clash (by x m) (same_xid-sym x m.xid ∙ e) off

pub keeps : (records : List Record) (r : Record) → May records r → Sound records → Sound (r ∷ records)
keeps records (Does m) may sound =
    record {
      orderly = made-orderly (committed records) (content records) (stands records) m sound.orderly sound.shows may.made;
      shows = made-shows (committed records) (content records) (stands records) m sound.orderly sound.shows may.made;
      ends = ((λ e. let bad : Open ≡ Over None = sym may.goes_on ∙ e in cc), sound.ends);
    }
keeps records (TakesBack inst x seq scn change) may sound = subst (λ change. Sound (TakesBack inst x seq scn change ∷ records)) (sym may.does) (keeps-back records inst x seq scn may.deed may.goes_on may.newest_own may.number may.up sound)
keeps records (Commits c x) may sound = keeps-commit records c x may sound
keeps records (RollsBack inst c x) may sound = keeps-roll records inst c x may sound

pub sound-empty : Sound []
sound-empty = record { orderly = tt; shows = record { values = λ r. refl; slots = λ k. refl; locks = λ r. refl; low = tt }; ends = tt }

pub all-sound : (records : List Record) → AreMade records → Sound records
all-sound [] h = sound-empty
all-sound (r ∷ records) h = keeps records r h.0 (all-sound records h.1)
