-- What a change is decided on is what the rules ask.
use Rattle.std.proofs.Common.{◌≡◌, ◌≢◌, ℕ, ◌<◌, ◌≤◌, Bool, true, false, cond, not, ◌==◌, List, [], ◌∷◌, refl, sym, ap, ◌∙◌, subst, arith, inl, inr, ◌⊎◌}
use Rattle.std.specs.Prelude.{Option, Some, None, Ok, IsSomeAnd, IfSome, is_some, if◌then◌else◌}
use Rattle.std.specs.List.{AllByRecursion}
use Rattle.std.proofs.lemmas.Bool.{eqb-false, eqb-true}
use Rattle.base_types.specs.declared.names.Xid.{Xid}
use Rattle.base_types.specs.declared.value.Value.{Value}
use Rattle.journal.specs.Past.{same_xid}
use Rattle.journal.proofs.XidLemmas.{same_xid-refl, same_xid-true}
use Rattle.cr_copy.specs.Named.{IsNamed}
use Rattle.txn_slots.specs.Choice.{MayTake}
use Rattle.board_slots.specs.Block.{Deed, newest, on_row, in_slot, by, slot_of, Image, Record, Stage, Open, Over, stage, commit_in, committed, content, stands}
use Rattle.board_slots.specs.Slots.{IsUnder, IsFair, Orderly, IsLocked, IsFree, IsChosen, Shows}
use Rattle.board_slots.specs.Records.{MayDo, Sound}
use Rattle.block_image.specs.Block.{BlockContent, slot_at}
use Rattle.undo_segment.specs.declared.fetch.Fetch.TheVariants.{Unfetched}
use Rattle.undo_segment.specs.declared.look.Look.{Look}
use Rattle.undo_segment.specs.declared.look.Look.TheVariants.{Active, Ended, ReusedBelow, Unlooked}
use Rattle.txn_slots.specs.declared.choice.SlotAnswer.TheVariants.{Take}
use Rattle.txn_slots.specs.declared.lock.LockAnswer.TheVariants.{Mine}
use Rattle.txn_slots.specs.Choice.{choose_slot, end_of, is_own_slot}
use Rattle.txn_slots.specs.Lock.{lock_by, lock_named, lock_row, locker}
use Rattle.txn_slots.specs.Own.{is_own}
use Rattle.board_slots.specs.Decide.{decided, GoesOn, MayDecide, RowIsFree, Tells}
use Rattle.board_slots.specs.Images.{IsSeen}
use Rattle.board_slots.specs.Views.{ReaderFollows}
use Rattle.board_slots.proofs.Choosing.{Chosen, chosen}
use Rattle.board_slots.proofs.Works.{lock-low}
use Rattle.board_slots.proofs.Newest.{clash, same_xid-sym, all_map, all_both, newest-all, newest-none}
use Rattle.board_slots.proofs.Removal.{row-shares}
use Rattle.board_slots.proofs.Held.{fair-all}
use Rattle.board_slots.proofs.Copies.{row-seen}
use Rattle.board_slots.proofs.Rounds.{no-answer}

-- who has an end, and something that stands, has committed by then
pub ended-committed : (records : List Record) (x : Xid) (l : Look) (e : ℕ) → stage x records ≢ Over None → Tells records x l → end_of l ≡ Some e → IsSomeAnd (committed records x) (λ c. c ≤ e)
ended-committed records x Unlooked e h t is = no-answer ℕ e is
ended-committed records x Active e h t is = no-answer ℕ e is
ended-committed records x (Ended d) e h t is = here (stage x records) h t.0 t.1
  where
    here : (st : Stage) → st ≢ Over None → st ≢ Open → IfSome (commit_in st) (λ c. c ≡ d) → IsSomeAnd (commit_in st) (λ c. c ≤ e)
    here Open h o c = absurd (o refl)
    here (Over None) h o c = absurd (h refl)
    here (Over (Some c)) h o same = let eq : d ≡ e = cc in omega arith
ended-committed records x (ReusedBelow d found) e h t is = here (stage x records) h t.0 t.1
  where
    here : (st : Stage) → st ≢ Over None → st ≢ Open → IfSome (commit_in st) (λ c. c ≤ d) → IsSomeAnd (commit_in st) (λ c. c ≤ e)
    here Open h o c = absurd (o refl)
    here (Over None) h o c = absurd (h refl)
    here (Over (Some c)) h o le = let eq : d ≡ e = cc in omega arith

-- the transaction that a row's lock byte names
abbrev pub named_of : Image → ℕ → Option Xid
named_of image r = if image.lock r == 0 then None else Some (image.slot (image.lock r)).xid

-- the locker of a row, as the rules see it
pub locker-is : (committed : Xid → Option ℕ) (block : BlockContent) (image : Image) (deeds : List Deed) → IsSeen block image → Orderly committed deeds → Shows committed image deeds → (r : ℕ) → r < 8 → locker block r ≡ named_of image r
locker-is committed block image deeds seen h shows r lt = rw (seen.lock r lt) (here (image.lock r == 0) refl)
  where
    low : image.lock r ≤ 4
    low = lock-low committed image.scn image.slot (image.lock r) r deeds h (newest (on_row r) deeds) refl (shows.locks r)

    here : (t : Bool) → (image.lock r == 0) ≡ t → cond t None (Some (slot_at block.itl (image.lock r)).xid) ≡ cond t None (Some (image.slot (image.lock r)).xid)
    here true e = refl
    here false e = ap (λ s. Some s.xid) (seen.slot (image.lock r) (let off = eqb-false (image.lock r) 0 e in omega arith) low)

module _ (records : List Record) (sound : Sound records) (me : Option Xid) (x : Xid) (look : Xid → Look) (s scn : ℕ) (may : MayDecide records me x look s scn) where
  abbrev image : Image
  image = content records

  abbrev deeds : List Deed
  deeds = stands records

  -- who is the reader's own is x
  own-is : (y : Xid) → is_own me y ≡ true → x ≡ y
  own-is y e = elim may.mine [ inl m ↦ same_xid-true x y (rw m at e) | inr n ↦ clash false (rw n.0 at e) refl ]

  -- of each that stands, who has an end has committed
  ends : AllByRecursion (λ m. (e : ℕ) → end_of (look m.xid) ≡ Some e → IsSomeAnd (committed records m.xid) (λ c. c ≤ e) × (e < scn)) deeds
  ends =
      all_both (λ m. stage m.xid records ≢ Over None) (λ m. Tells records m.xid (look m.xid) × IfSome (end_of (look m.xid)) (λ e. e < scn)) (λ m. (e : ℕ) → end_of (look m.xid) ≡ Some e → IsSomeAnd (committed records m.xid) (λ c. c ≤ e) × (e < scn)) deeds
      (λ m h t e is. (ended-committed records m.xid (look m.xid) e h t.0 is, (let l = t.1 in rw is at l)))
      sound.ends
      (all_both (λ m. Tells records m.xid (look m.xid)) (λ m. IfSome (end_of (look m.xid)) (λ e. e < scn)) (λ m. Tells records m.xid (look m.xid) × IfSome (end_of (look m.xid)) (λ e. e < scn)) deeds (λ m a b. (a, b)) may.tells may.low)

  lower : (o : Option ℕ) (d e : ℕ) → d ≤ e → IsSomeAnd o (λ c. c ≤ d) → IsSomeAnd o (λ c. c ≤ e)
  lower None d e le l = l
  lower (Some c) d e le l = omega (arith, le, l)

  below : (o : Option ℕ) (d e : ℕ) → d ≤ e → IsSomeAnd o (λ c. c < d) → IsSomeAnd o (λ c. c ≤ e)
  below None d e le l = l
  below (Some c) d e le l = omega (arith, le, l)

  pub goes-on : (block : BlockContent) → IsSeen block image → (r : ℕ) → r < 8 → GoesOn s (lock_row me look block r) → GoesOn s (lock_named me look image.scn (named_of image r))
  goes-on block seen r lt goes = rw (seen.scn, locker-is (committed records) block image deeds seen sound.orderly sound.shows r lt) at goes

  -- the newest on a row that a statement may change is the own one, or committed up to s
  pub newest-free : (r : ℕ) → GoesOn s (lock_named me look image.scn (named_of image r)) → (n : Deed) → newest (on_row r) deeds ≡ Some n → (n.xid ≡ x) ⊎ IsSomeAnd (committed records n.xid) (λ c. c ≤ s)
  newest-free r goes n e = locked (subst (IsLocked (committed records) image.scn image.slot (image.lock r)) e (sound.shows.locks r))
    where
      first : (n.itl == 0) ≡ false
      first = test (n.itl == 0) refl
        where
          test : (b : Bool) → (n.itl == 0) ≡ b → b ≡ false
          test false e = refl
          test true f = let z : n.itl ≡ 0 = eqb-true n.itl 0 f in let a = (newest-all (IsFair (committed records)) (on_row r) n deeds (fair-all (committed records) deeds sound.orderly) e).placed.first in absurd (omega arith)

      by_look : (l : Look) → look n.xid ≡ l → GoesOn s (lock_by n.xid l) → IsSomeAnd (committed records n.xid) (λ c. c ≤ s)
      by_look Unlooked f g = absurd g
      by_look Active f g = absurd g
      by_look (Ended d) f g = lower (committed records n.xid) d s g (newest-all (λ m. (e : ℕ) → end_of (look m.xid) ≡ Some e → IsSomeAnd (committed records m.xid) (λ c. c ≤ e) × (e < scn)) (on_row r) n deeds ends e d (ap end_of f)).0
      by_look (ReusedBelow d now) f g = lower (committed records n.xid) d s g (newest-all (λ m. (e : ℕ) → end_of (look m.xid) ≡ Some e → IsSomeAnd (committed records m.xid) (λ c. c ≤ e) × (e < scn)) (on_row r) n deeds ends e d (ap end_of f)).0

      locked : IsLocked (committed records) image.scn image.slot (image.lock r) (Some n) → (n.xid ≡ x) ⊎ IsSomeAnd (committed records n.xid) (λ c. c ≤ s)
      locked (inl l) = inr (below (committed records n.xid) image.scn s (rw l.0 at goes) l.1)
      locked (inr l) = own (is_own me n.xid) refl (rw (l.0, first, l.1) at goes)
        where
          own : (t : Bool) → is_own me n.xid ≡ t → GoesOn s (cond t Mine (lock_by n.xid (look n.xid))) → (n.xid ≡ x) ⊎ IsSomeAnd (committed records n.xid) (λ c. c ≤ s)
          own true f g = inl (sym (own-is n.xid f))
          own false f g = inr (by_look (look n.xid) refl g)

  -- under the newest on a row
  under-top : (r : ℕ) (n : Deed) (deeds : List Deed) → Orderly (committed records) deeds → newest (on_row r) deeds ≡ Some n
      → AllByRecursion (λ o. on_row r o ≡ true → (same_xid n.xid o.xid ≡ true) ⊎ IsSomeAnd (committed records o.xid) (λ c. c < n.scn)) deeds
  under-top r n [] h e = tt
  under-top r n (m ∷ deeds) h e = here (on_row r m) refl e (under-top r n deeds h.1)
    where
      here : (t : Bool) → on_row r m ≡ t → cond t (Some m) (newest (on_row r) deeds) ≡ Some n
          → (newest (on_row r) deeds ≡ Some n → AllByRecursion (λ o. on_row r o ≡ true → (same_xid n.xid o.xid ≡ true) ⊎ IsSomeAnd (committed records o.xid) (λ c. c < n.scn)) deeds)
          → (on_row r m ≡ true → (same_xid n.xid m.xid ≡ true) ⊎ IsSomeAnd (committed records m.xid) (λ c. c < n.scn)) × AllByRecursion (λ o. on_row r o ≡ true → (same_xid n.xid o.xid ≡ true) ⊎ IsSomeAnd (committed records o.xid) (λ c. c < n.scn)) deeds
      here false f e ih = ((λ yes. clash (on_row r m) yes f), ih e)
      here true f e ih =
          let same : m ≡ n = cc in
          ((λ yes. inl (rw same (same_xid-refl n.xid))), all_map (IsUnder (committed records) m) (λ o. on_row r o ≡ true → (same_xid n.xid o.xid ≡ true) ⊎ IsSomeAnd (committed records o.xid) (λ c. c < n.scn)) deeds (λ o u on. rw (sym same) (one o u on (same_xid m.xid o.xid) refl)) h.0.under)
        where
          one : (o : Deed) → IsUnder (committed records) m o → on_row r o ≡ true → (t : Bool) → same_xid m.xid o.xid ≡ t → (same_xid m.xid o.xid ≡ true) ⊎ IsSomeAnd (committed records o.xid) (λ c. c < m.scn)
          one o u on true g = inl g
          one o u on false g = inr (row-shares (committed records) r m o f on u g)

  -- so all on it are
  pub row-free : (r : ℕ) → GoesOn s (lock_named me look image.scn (named_of image r)) → ReaderFollows (committed records) s me deeds → RowIsFree records x s r
  row-free r goes follows = here (newest (on_row r) deeds) refl
    where
      own : (n : Deed) → newest (on_row r) deeds ≡ Some n → n.xid ≡ x → RowIsFree records x s r
      own n e is = elim may.mine [
        | inl m ↦ all_map (λ o. on_row r o ≡ true → (by x o ≡ true) ⊎ IsSomeAnd (committed records o.xid) (λ c. c ≤ s)) (λ m. on_row r m ≡ true → (m.xid ≡ x) ⊎ IsSomeAnd (committed records m.xid) (λ c. c ≤ s)) deeds
            (λ o f on. elim (f on) [ inl b ↦ inl (sym (same_xid-true x o.xid b)) | inr l ↦ inr l ])
            (row-seen (committed records) s me (λ y. false) (λ y. Ok true) 0 (λ y q. Unfetched) r x n deeds e (rw is (same_xid-refl x)) (subst (λ o. ReaderFollows (committed records) s o deeds) m follows))
        | inr new ↦ clash (by x n) (rw is (same_xid-refl x)) (newest-all (λ m. by x m ≡ false) (on_row r) n deeds (newest-none (by x) deeds new.1) e)
      ]

      less : (a b : Option ℕ) (scn : ℕ) → IfSome a (λ c. scn < c) → IsSomeAnd a (λ c. c ≤ s) → IsSomeAnd b (λ c. c < scn) → IsSomeAnd b (λ c. c ≤ s)
      less None b scn f l h = absurd l
      less (Some a) None scn f l h = h
      less (Some a) (Some b) scn f l h = omega (arith, f, l, h)

      other : (n : Deed) → newest (on_row r) deeds ≡ Some n → IsSomeAnd (committed records n.xid) (λ c. c ≤ s) → RowIsFree records x s r
      other n e l =
          all_map (λ o. on_row r o ≡ true → (same_xid n.xid o.xid ≡ true) ⊎ IsSomeAnd (committed records o.xid) (λ c. c < n.scn)) (λ m. on_row r m ≡ true → (m.xid ≡ x) ⊎ IsSomeAnd (committed records m.xid) (λ c. c ≤ s)) deeds
          (λ o f on. inr (elim (f on) [
            | inl b ↦ rw (sym (same_xid-true n.xid o.xid b)) l
            | inr h ↦ less (committed records n.xid) (committed records o.xid) n.scn (newest-all (IsFair (committed records)) (on_row r) n deeds (fair-all (committed records) deeds sound.orderly) e).below l h
          ]))
          (under-top r n deeds sound.orderly e)

      here : (o : Option Deed) → newest (on_row r) deeds ≡ o → RowIsFree records x s r
      here None e = all_map (λ m. on_row r m ≡ false) (λ m. on_row r m ≡ true → (m.xid ≡ x) ⊎ IsSomeAnd (committed records m.xid) (λ c. c ≤ s)) deeds (λ m f on. clash (on_row r m) on f) (newest-none (on_row r) deeds e)
      here (Some n) e = elim (newest-free r goes n e) [ inl is ↦ own n e is | inr l ↦ other n e l ]

  over : (o : Option ℕ) → IsSomeAnd o (λ c. c ≤ s) → IsSomeAnd o (λ c. c < scn)
  over None l = l
  over (Some c) l = (let a = may.started in omega (arith, l))

  -- a row that a statement may change is free by its lock byte
  pub lock-free : (r : ℕ) → GoesOn s (lock_named me look image.scn (named_of image r)) → IsFree (committed records) image r x scn
  lock-free r goes = here (newest (on_row r) deeds) refl (sound.shows.locks r)
    where
      here : (o : Option Deed) → newest (on_row r) deeds ≡ o → IsLocked (committed records) image.scn image.slot (image.lock r) o → IsFree (committed records) image r x scn
      here None e l = inl l
      here (Some n) e (inl l) = inl l.0
      here (Some n) e (inr l) =
          let is : (image.slot (image.lock r)).xid ≡ n.xid = ap (λ k. (image.slot k).xid) l.0 ∙ l.1 in
          inr (elim (newest-free r goes n e) [
            | inl own ↦ inl (is ∙ own)
            | inr c ↦ inr (subst (λ y. IsSomeAnd (committed records y) (λ c. c < scn)) (sym is) (over (committed records n.xid) c))
          ])

  -- a slot names x only where it is the own one
  names : (k : ℕ) → is_own me (image.slot k).xid ≡ false → same_xid x (image.slot k).xid ≡ false
  names k off = test (same_xid x (image.slot k).xid) refl
    where
      there : (o : Option Deed) → newest (in_slot k) deeds ≡ o → newest (by x) deeds ≡ None → x ≡ (slot_of o).xid → ⊥
      there None e none is = let a = may.wrap in let b : x.wrap ≡ 0 = ap (λ x. x.wrap) is in absurd (omega arith)
      there (Some q) e none is = clash (by x q) (rw (sym is) (same_xid-refl x)) (newest-all (λ m. by x m ≡ false) (in_slot k) q deeds (newest-none (by x) deeds none) e)

      test : (t : Bool) → same_xid x (image.slot k).xid ≡ t → t ≡ false
      test false e = refl
      test true e = elim may.mine [
        | inl m ↦ clash (is_own me (image.slot k).xid) (rw m e) off
        | inr n ↦ absurd (there (newest (in_slot k) deeds) refl n.1 (same_xid-true x (image.slot k).xid e ∙ ap (λ s. s.xid) (sound.shows.slots k)))
      ]

  abbrev IsTaken : ℕ → Bool → Type 0
  IsTaken k fresh = IsChosen (committed records) image k x scn × ((1 ≤ k) × (k ≤ 4)) × (fresh ≡ not (same_xid (image.slot k).xid x))

  -- the slot that is taken is one that the rules let it take
  pub slot-chosen : (block : BlockContent) → IsSeen block image → (k : ℕ) (fresh : Bool) → choose_slot me look block.itl ≡ Take k fresh → IsTaken k fresh
  slot-chosen block seen k fresh e = here fresh refl c.may c.none
    where
      c : Chosen me look block.itl seen.four_slots k fresh
      c = chosen me look block.itl seen.four_slots k fresh e

      slot_is : (j : ℕ) → 1 ≤ j → j ≤ 4 → slot_at block.itl j ≡ image.slot j
      slot_is = seen.slot

      at : slot_at block.itl k ≡ image.slot k
      at = slot_is k c.first c.last

      anew : ((j : ℕ) → 1 ≤ j → j ≤ 4 → same_xid x (image.slot j).xid ≡ false) → (((image.slot k).xid.wrap ≡ 0) ⊎ IsSomeAnd (committed records (image.slot k).xid) (λ c. c < scn)) → IsTaken k true
      anew none h = (inr (none, h), (c.first, c.last), rw (same_xid-sym (image.slot k).xid x, none k c.first c.last) refl)

      ended : (e : ℕ) → end_of (look (image.slot k).xid) ≡ Some e → (o : Option Deed) → newest (in_slot k) deeds ≡ o → ((image.slot k).xid.wrap ≡ 0) ⊎ IsSomeAnd (committed records (image.slot k).xid) (λ c. c < scn)
      ended e f None g = inl (ap (λ s. s.xid.wrap) (sound.shows.slots k) ∙ ap (λ o. (slot_of o).xid.wrap) g)
      ended e f (Some q) g =
          let is : (image.slot k).xid ≡ q.xid = ap (λ s. s.xid) (sound.shows.slots k) ∙ ap (λ o. (slot_of o).xid) g in
          let l = newest-all (λ m. (e : ℕ) → end_of (look m.xid) ≡ Some e → IsSomeAnd (committed records m.xid) (λ c. c ≤ e) × (e < scn)) (in_slot k) q deeds ends g e (ap (λ y. end_of (look y)) (sym is) ∙ f) in
          inr (subst (λ y. IsSomeAnd (committed records y) (λ c. c < scn)) (sym is) (up (committed records q.xid) l.0 l.1))
        where
          up : (o : Option ℕ) → IsSomeAnd o (λ c. c ≤ e) → e < scn → IsSomeAnd o (λ c. c < scn)
          up None l lt = l
          up (Some c) l lt = omega (arith, l, lt)

      has-end : (o : Option ℕ) → is_some o ≡ true → (e : ℕ) × (o ≡ Some e)
      has-end None h = clash false h refl
      has-end (Some e) h = (e, refl)

      here : (f : Bool) → fresh ≡ f → MayTake me look f (slot_at block.itl k) → (f ≡ true → (j : ℕ) → 1 ≤ j → j ≤ 4 → is_own_slot me (slot_at block.itl j) ≡ false) → IsTaken k fresh
      here false f may none =
          let is : x ≡ (image.slot k).xid = own-is (image.slot k).xid (ap (λ s. is_own me s.xid) (sym at) ∙ may) in
          rw f (inl (sym is), (c.first, c.last), rw (sym is, same_xid-refl x) refl)
      here true f may none =
          rw f (anew (λ j low high. names j (ap (λ s. is_own me s.xid) (sym (slot_is j low high)) ∙ none refl j low high)) (elim may.1 [
            | inl u ↦ inl (ap (λ s. s.xid.wrap) (sym at) ∙ eqb-true (slot_at block.itl k).xid.wrap 0 u)
            | inr h ↦ (let e = has-end (end_of (look (slot_at block.itl k).xid)) h in ended e.0 (ap (λ s. end_of (look s.xid)) (sym at) ∙ e.1) (newest (in_slot k) deeds) refl)
          ]))

  -- so the record that is decided is one that the rules make
  pub decides : (block : BlockContent) → IsSeen block image → (prev seq r k : ℕ) (fresh puts : Bool) (value : Value) → r < 8 → IsNamed (record { xid = x; seq = seq }) → GoesOn s (lock_row me look block r) → choose_slot me look block.itl ≡ Take k fresh
      → MayDo records (decided image x prev seq scn r k puts value)
  decides block seen prev seq r k fresh puts value lt named goes takes =
      let taken = slot-chosen block seen k fresh takes in
      record {
        goes_on = may.goes_on;
        made = record {
          goes_on = ap commit_in may.goes_on;
          placed = record { row = lt; first = taken.1.0; last = taken.1.1; wrap = may.wrap; named = named };
          scn = may.up;
          version = refl;
          undo = record { old = refl; slot = refl; mine = refl };
          value = λ e. rw e refl;
          free = lock-free r (goes-on block seen r lt goes);
          chosen = taken.0;
        };
      }
