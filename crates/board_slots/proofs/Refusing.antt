-- What refuses a change.
use Rattle.std.proofs.Common.{◌≡◌, ℕ, ◌<◌, ◌≤◌, Bool, true, false, cond, ◌==◌, List, refl, sym, ap, ◌∙◌, subst, inl, inr}
use Rattle.std.specs.Prelude.{Option, Some, None, IsSomeAnd}
use Rattle.std.proofs.lemmas.Bool.{eqb-true}
use Rattle.base_types.specs.declared.names.Xid.{Xid}
use Rattle.journal.specs.Past.{same_xid}
use Rattle.journal.proofs.XidLemmas.{same_xid-refl}
use Rattle.board_slots.specs.Block.{Deed, newest, on_row, in_slot, slot_of, Image, Record, committed, content, stands}
use Rattle.board_slots.specs.Slots.{IsLocked}
use Rattle.board_slots.specs.Records.{Sound}
use Rattle.block_image.specs.Block.{BlockContent, slot_at}
use Rattle.undo_segment.specs.declared.look.Look.{Look}
use Rattle.undo_segment.specs.declared.look.Look.TheVariants.{Active, Ended, ReusedBelow, Unlooked}
use Rattle.txn_slots.specs.declared.choice.SlotAnswer.TheVariants.{NoItl}
use Rattle.txn_slots.specs.declared.lock.LockAnswer.TheVariants.{Free, Held, Mine, Need}
use Rattle.txn_slots.specs.declared.lock.Released.TheVariants.{Below, Exactly}
use Rattle.txn_slots.specs.declared.wanted.Wanted.TheVariants.{Head}
use Rattle.txn_slots.specs.Choice.{choose_slot, is_unused}
use Rattle.txn_slots.specs.Lock.{lock_by, lock_named, lock_row}
use Rattle.txn_slots.specs.Own.{is_own}
use Rattle.board_slots.specs.Decide.{IsBusy, IsTakenBy}
use Rattle.board_slots.specs.Images.{IsSeen}
use Rattle.board_slots.proofs.Choosing.{Refused, refused}
use Rattle.board_slots.proofs.Newest.{clash, newest-all, newest-passes}
use Rattle.board_slots.proofs.Making.{one-slot}
use Rattle.board_slots.proofs.Deciding.{locker-is, named_of}

module _ (records : List Record) (sound : Sound records) (me : Option Xid) (look : Xid → Look) where
  abbrev image : Image
  image = content records

  abbrev deeds : List Deed
  deeds = stands records

  -- who is told to hold a row is another, active by its header, and the newest that stands there is its
  held-named : (r : ℕ) (y : Xid) → lock_named me look image.scn (named_of image r) ≡ Held y → IsBusy records me look r y
  held-named r y e = here (image.lock r == 0) refl e
    where
      by_look : (z : Xid) (l : Look) → look z ≡ l → lock_by z l ≡ Held y → (z ≡ y) × (look z ≡ Active)
      by_look z Unlooked f e = absurd (let bad : Need (Head z.seg) ≡ Held y = e in cc)
      by_look z Active f e = ((cc), f)
      by_look z (Ended d) f e = absurd (let bad : Free (Exactly z d) ≡ Held y = e in cc)
      by_look z (ReusedBelow d now) f e = absurd (let bad : Free (Below d) ≡ Held y = e in cc)

      owner : (z : Xid) (o : Bool) → is_own me z ≡ o → cond o Mine (lock_by z (look z)) ≡ Held y → (z ≡ y) × (look z ≡ Active) × (is_own me z ≡ false)
      owner z true f e = absurd (let bad : Mine ≡ Held y = e in cc)
      owner z false f e = let l = by_look z (look z) refl e in (l.0, l.1, f)

      top : (image.lock r == 0) ≡ false → (o : Option Deed) → IsLocked (committed records) image.scn image.slot (image.lock r) o → IsSomeAnd o (λ n. n.xid ≡ (image.slot (image.lock r)).xid)
      top off None l = clash (image.lock r == 0) (rw l refl) off
      top off (Some n) (inl l) = clash (image.lock r == 0) (rw l.0 refl) off
      top off (Some n) (inr l) = sym l.1 ∙ ap (λ k. (image.slot k).xid) (sym l.0)

      here : (t : Bool) → (image.lock r == 0) ≡ t → lock_named me look image.scn (cond t None (Some (image.slot (image.lock r)).xid)) ≡ Held y → IsBusy records me look r y
      here true f e = absurd (let bad : Free (Below image.scn) ≡ Held y = e in cc)
      here false f e =
          let o = owner (image.slot (image.lock r)).xid (is_own me (image.slot (image.lock r)).xid) refl e in
          (rw (sym o.0) o.1, rw (sym o.0) o.2, subst (λ z. IsSomeAnd (newest (on_row r) deeds) (λ n. n.xid ≡ z)) o.0 (top f (newest (on_row r) deeds) (sound.shows.locks r)))

  pub held : (block : BlockContent) → IsSeen block image → (r : ℕ) (y : Xid) → r < 8 → lock_row me look block r ≡ Held y → IsBusy records me look r y
  held block seen r y lt e = held-named r y (sym (rw (seen.scn, locker-is (committed records) block image deeds seen sound.orderly sound.shows r lt) refl) ∙ e)

  -- where no slot can be taken, all four are others', active by their headers, each with something that stands there
  pub no-itl : (block : BlockContent) → IsSeen block image → (holders : List Xid) → choose_slot me look block.itl ≡ NoItl holders → (k : ℕ) → 1 ≤ k → k ≤ 4 → IsTakenBy records me look k (slot_at block.itl k).xid
  no-itl block seen holders e k low high = (c.active, c.other, there (newest (in_slot k) deeds) refl)
    where
      c : Refused me look block.itl seen.four_slots k
      c = refused me look block.itl seen.four_slots holders e k low high

      at : slot_at block.itl k ≡ image.slot k
      at = seen.slot k low high

      there : (o : Option Deed) → newest (in_slot k) deeds ≡ o → IsSomeAnd o (λ n. n.xid ≡ (slot_at block.itl k).xid)
      there None f = clash (is_unused (slot_at block.itl k)) (rw (at, sound.shows.slots k, f) refl) c.used
      there (Some n) f = sym (ap (λ s. s.xid) (at ∙ sound.shows.slots k) ∙ ap (λ o. (slot_of o).xid) f)

  -- and no two are one
  pub slots-differ : (j k : ℕ) → is_unused (image.slot j) ≡ false → (image.slot j).xid ≡ (image.slot k).xid → j ≡ k
  slots-differ j k used same = here (newest (in_slot j) deeds) refl (newest (in_slot k) deeds) refl
    where
      of : (i : ℕ) (o : Option Deed) → newest (in_slot i) deeds ≡ o → (image.slot i).xid ≡ (slot_of o).xid
      of i o f = ap (λ s. s.xid) (sound.shows.slots i) ∙ ap (λ o. (slot_of o).xid) f

      here : (p : Option Deed) → newest (in_slot j) deeds ≡ p → (q : Option Deed) → newest (in_slot k) deeds ≡ q → j ≡ k
      here None f q g = clash (is_unused (image.slot j)) (rw (of j None f) refl) used
      here (Some p) f None g = clash (is_unused (image.slot j)) (rw (same, of k None g) refl) used
      here (Some p) f (Some q) g =
          let is : p.xid ≡ q.xid = sym (of j (Some p) f) ∙ (same ∙ of k (Some q) g) in
          let itl = newest-all (λ o. same_xid p.xid o.xid ≡ true → o.itl ≡ p.itl) (in_slot k) q deeds (one-slot (committed records) (in_slot j) p deeds sound.orderly f) g (rw (sym is) (same_xid-refl p.xid)) in
          sym (eqb-true p.itl j (newest-passes (in_slot j) p deeds f)) ∙ (sym itl ∙ eqb-true q.itl k (newest-passes (in_slot k) q deeds g))
