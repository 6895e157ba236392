-- What a look at a row shows is what the session sees, and it is settled.
use Rattle.std.proofs.Common.{◌≡◌, ℕ, suc, ◌<◌, ◌≤◌, Bool, true, false, ◌||◌, List, [], ◌∷◌, ◌++◌, refl, sym, ap, ◌∙◌, subst, arith, inl, inr, ◌⊎◌, Option, Some, None}
use Rattle.std.specs.Option.{option_map_or}
use Rattle.std.specs.List.{AllByRecursion}
use Rattle.std.proofs.lemmas.List.Elements.{filter-append}
use Rattle.board_rows.proofs.Words.{Xid, Past, same_xid, Deed, row_of, changes_of, standing, is_open, history, changes_up_to, value_by, sees, own, last_of, started_up_to, Range, Record, Does, DeedAt, thread_of, scn_of, xid_of, touches, stands, Fresh, Active, stage, durable_commit, wrap_in, FreeUnder, IsFree, on, shown, on_row, deeds_in, committed_at, seen_at, Ordered, Board, IsLateHere, is_own, MayLook, MayChange, value_there, Sound, RecordIsIn}
use Rattle.board_rows.proofs.Lists.{all_pair, cases, all_map, all_both, all_append, suffix_here}
use Rattle.board_rows.proofs.Shown.{shown-alike, shown-later, shown-none, on_row-shown}
use Rattle.board_rows.proofs.Order.{all-seen, all_without}
use Rattle.board_rows.proofs.Replay.{value-on_row, value-same, own-first}
use Rattle.board_rows.proofs.Owns.{IsUnder, all-free, under-fresh}
use Rattle.board_rows.proofs.LateSteps.{all-used}

-- a session's own transaction is its last one, and open
pub own-is : (z : ℕ) (x : Xid) (past : Past) → own z past ≡ Some x → (last_of z past ≡ Some x) × (is_open x past ≡ true)
own-is z x past h = grind arith

-- what stood and what came since, of what stands
abbrev pub OfRec : (DeedAt → Type 0) → Record → Type 0
OfRec P (Does c x seq d) = P (record { xid = x; seq = seq; scn = c; deed = d })
OfRec P _ = Unit {0}

stands-since : (P : DeedAt → Type 0) (newer there : List Record) → AllByRecursion P (stands there) → AllByRecursion (OfRec P) newer → AllByRecursion P (stands (newer ++ there))
stands-since P [] there h n = h
stands-since P (r ∷ newer) there h n = grind (arith, cases, all_without, stands-since P newer)

-- what holds of each change holds of what stands
pub stands-from : (P : DeedAt → Type 0) (recs : List Record) → AllByRecursion (OfRec P) recs → AllByRecursion P (stands recs)
stands-from P [] n = tt
stands-from P (r ∷ recs) n = grind (arith, cases, all_without, stands-from P recs)

module _ (asked : ℕ → Option Range) (insts : ℕ) (b : Board) (sound : Sound asked insts b) where
  abbrev pub com_at : Xid → Option ℕ
  com_at x = committed_at x b.past

  pub order : Ordered com_at (stands b.records)
  order = suffix_here (λ older. Ordered com_at (stands older)) b.records sound.rows.order

  pub live-new : (x : Xid) → is_open x b.past ≡ true → com_at x ≡ None
  live-new x e = (sound.txns.each x).commits ∙ ap (durable_commit (b.durable x.seg)) ((sound.txns.each x).active e)

  -- the records of an open transaction are up to its instance's clock
  pub live-low : AllByRecursion (λ r. is_open (xid_of r) b.past ≡ true → scn_of r ≤ b.clock (xid_of r).seg) b.records
  live-low = all_both _ _ _ b.records one sound.clocks.drawn sound.txns.each_record
    where
      one : (r : Record) → scn_of r ≤ b.clock (thread_of r) → RecordIsIn b.records (λ x. is_open x b.past) r → is_open (xid_of r) b.past ≡ true → scn_of r ≤ b.clock (xid_of r).seg
      one r le h is = grind (arith, sound.txns.each (xid_of r))

  -- what is seen on the newest board
  pub seen-value : (z s k : ℕ) → value_by (changes_of (shown k (λ y. is_own (own z b.past) y || seen_at s com_at y) (stands b.records))) k ≡ sees (history b.past) b.past (record { session = z; snapshot = s }) k
  seen-value z s k = here (own z b.past) refl
    where
      here : (o : Option Xid) → own z b.past ≡ o → value_by (changes_of (shown k (λ y. is_own o y || seen_at s com_at y) (stands b.records))) k ≡ value_by (option_map_or (λ x. changes_of (standing x b.past)) o [] ++ changes_up_to s (history b.past)) k
      here None e = ap (λ cs. value_by cs k) (sym (sound.rows.table s k)) ∙ value-on_row k (changes_up_to s (history b.past))
      here (Some x) e =
          let is = own-is z x b.past e in
          ap (λ cs. value_by cs k)
          (own-first k s x com_at (stands b.records) (live-new x is.1) order
          ∙ (ap (λ ds. on_row k (changes_of ds) ++ changes_of (shown k (seen_at s com_at) (stands b.records))) (sym ((sound.txns.each x).stands (inl is.1)))
          ∙ (ap (λ cs. on_row k (changes_of (standing x b.past)) ++ cs) (sym (sound.rows.table s k))
          ∙ sym (filter-append _ (changes_of (standing x b.past)) (changes_up_to s (history b.past))))))
          ∙ value-on_row k (changes_of (standing x b.past) ++ changes_up_to s (history b.past))

  module _ (z i s k : ℕ) (newer there : List Record) (status : Xid → Bool) (look : MayLook b z i s k newer there status) where
    abbrev Seen : Xid → Bool
    Seen x = is_own (own z b.past) x || seen_at s com_at x

    ends : AllByRecursion (RecordIsIn b.records (λ x. is_open x b.past)) newer
    ends = (all_append (RecordIsIn b.records (λ x. is_open x b.past)) newer there (subst (AllByRecursion (RecordIsIn b.records (λ x. is_open x b.past))) look.image sound.txns.each_record)).0

    below : AllByRecursion (λ r. is_open (xid_of r) b.past ≡ true → scn_of r ≤ b.clock (xid_of r).seg) newer
    below = (all_append (λ r. is_open (xid_of r) b.past ≡ true → scn_of r ≤ b.clock (xid_of r).seg) newer there (subst (AllByRecursion (λ r. is_open (xid_of r) b.past ≡ true → scn_of r ≤ b.clock (xid_of r).seg)) look.image live-low)).0

    abbrev IsLater : Record → Type 0
    IsLater r = touches k r ≡ true → (s < scn_of r) × (is_own (own z b.past) (xid_of r) ≡ false)

    hidden : AllByRecursion (λ r. touches k r ≡ true → Seen (xid_of r) ≡ false) newer
    hidden = all_both _ _ _ newer one look.later ends
      where
        one : (r : Record) → IsLater r → RecordIsIn b.records (λ x. is_open x b.past) r → touches k r ≡ true → Seen (xid_of r) ≡ false
        one r later e t = grind (arith, cases, sound.txns.each (xid_of r))

    abbrev IsTold : DeedAt → Type 0
    IsTold m = on k m ≡ true → (is_own (own z b.past) m.xid ≡ true) ⊎ ((status m.xid ≡ seen_at s com_at m.xid) × IsLateHere b s m.xid)

    -- what is read there is what the session sees
    pub look-sees : value_there b z k there status ≡ sees (history b.past) b.past (record { session = z; snapshot = s }) k
    look-sees =
        ap (λ ds. value_by (changes_of ds) k)
        (shown-alike k (λ x. is_own (own z b.past) x || status x) Seen (stands there) (all_map IsTold _ (stands there) one look.told)
        ∙ (sym (shown-later k Seen newer there hidden) ∙ ap (λ recs. shown k Seen (stands recs)) (sym look.image)))
        ∙ seen-value z s k
      where
        one : (m : DeedAt) → IsTold m → on k m ≡ true → (is_own (own z b.past) m.xid || status m.xid) ≡ Seen m.xid
        one m told a = elim (told a) [ inl e ↦ rw e refl | inr e ↦ ap (λ t. is_own (own z b.past) m.xid || t) e.0 ]

    abbrev IsLateOn : DeedAt → Type 0
    IsLateOn m = on k m ≡ true → IsLateHere b s m.xid

    own-low : (x : Xid) → is_own (own z b.past) x ≡ true → (stage x b.records ≡ Active) × (s ≤ b.clock x.seg)
    own-low x e = grind arith

    -- and no commit will change it
    pub look-late : AllByRecursion IsLateOn (stands b.records)
    look-late = subst (λ recs. AllByRecursion IsLateOn (stands recs)) (sym look.image) (stands-since IsLateOn newer there (all_map IsTold IsLateOn (stands there) old look.told) (all_both IsLater _ _ newer (λ r later g. since r later g.0 g.1) look.later (all_pair _ _ newer ends below)))
      where
        old : (m : DeedAt) → IsTold m → IsLateOn m
        old m told a new = grind (arith, own-low m.xid)

        since : (r : Record) → IsLater r → RecordIsIn b.records (λ x. is_open x b.past) r → (is_open (xid_of r) b.past ≡ true → scn_of r ≤ b.clock (xid_of r).seg) → OfRec IsLateOn r
        since r later e low = grind (arith, cases)

  -- a change is a look at the row as it stands
  module _ (n z s : ℕ) (x : Xid) (seq : ℕ) (deed : Deed) (may : MayChange b n z s x seq deed) where
    low-deeds : AllByRecursion (IsUnder com_at) (stands b.records)
    low-deeds = stands-from (IsUnder com_at) b.records (all_map _ _ b.records one sound.txns.each_record)
      where
        one : (r : Record) → RecordIsIn b.records (λ y. is_open y b.past) r → OfRec (IsUnder com_at) r
        one r h = grind (arith, cases, sound.txns.each (xid_of r))

    under : FreeUnder com_at s x (stands b.records)
    under = elim may.mine [
      | inl o ↦ (let is = own-is z x b.past o in rw may.last (suffix_here (λ older. FreeUnder com_at (started_up_to z b.past) x (stands older)) b.records (sound.owns z x is.0 is.1)))
      | inr o ↦ under-fresh com_at s x b.records (stands b.records) o.1 (all-used b.records)
    ]

    -- all on the row are free
    pub changes-free : AllByRecursion (IsFree com_at s x (row_of deed)) (stands b.records)
    changes-free = all-free com_at s x (row_of deed) (stands b.records) low-deeds order under may.newest

    abbrev IsTold2 : DeedAt → Type 0
    IsTold2 m = on (row_of deed) m ≡ true → (is_own (own z b.past) m.xid ≡ true) ⊎ ((seen_at s com_at m.xid ≡ seen_at s com_at m.xid) × IsLateHere b s m.xid)

    told : AllByRecursion IsTold2 (stands b.records)
    told = all_both _ _ _ (stands b.records) one (all-used b.records) changes-free
      where
        one : (m : DeedAt) → (stage m.xid b.records ≡ Fresh → ⊥) → IsFree com_at s x (row_of deed) m → IsTold2 m
        one m used free a = grind (arith, cases, may.mine)

    pub looks : MayLook b z x.seg s (row_of deed) [] b.records (seen_at s com_at)
    looks = record { home = may.home; low = may.low; image = refl; later = tt; told = told }

    abbrev Sees : Xid → Bool
    Sees y = is_own (own z b.past) y || seen_at s com_at y

    -- what stands in the row is what the session sees there
    pub change-sees : value_by (changes_of (deeds_in (stands b.records))) (row_of deed) ≡ sees (history b.past) b.past (record { session = z; snapshot = s }) (row_of deed)
    change-sees =
        value-same (row_of deed) (changes_of (deeds_in (stands b.records))) (changes_of (shown (row_of deed) Sees (stands b.records)))
        (all-seen (row_of deed) s x com_at (stands b.records) changes-free ∙ (ap changes_of (whose may.mine) ∙ sym (on_row-shown (row_of deed) Sees (stands b.records))))
        ∙ seen-value z s (row_of deed)
      where
        none : (m : DeedAt) → (stage m.xid b.records ≡ Fresh → ⊥) → stage x b.records ≡ Fresh → on (row_of deed) m ≡ true → same_xid x m.xid ≡ false
        none m used f a = grind (arith, cases)

        whose : (own z b.past ≡ Some x) ⊎ ((own z b.past ≡ None) × (stage x b.records ≡ Fresh) × (x.wrap ≡ suc (wrap_in x.seg x.slot b.records))) → shown (row_of deed) (λ y. same_xid x y || seen_at s com_at y) (stands b.records) ≡ shown (row_of deed) (λ y. is_own (own z b.past) y || seen_at s com_at y) (stands b.records)
        whose (inl o) = rw o refl
        whose (inr o) = rw o.0 (shown-none (row_of deed) (same_xid x) (seen_at s com_at) (stands b.records) (all_map _ _ (stands b.records) (λ m used. none m used o.1) (all-used b.records)))
