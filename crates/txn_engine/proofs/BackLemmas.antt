-- The record of a step back is a redo record, and the block after it is one.
use Rattle.std.proofs.Common.{◌≡◌, ◌≢◌, ℕ, ◌+◌, ◌-◌, ◌^◌, ◌==◌, ◌<◌, ◌≤◌, ◌⊎◌, inl, inr, Bool, true, false, not, cond, ◌||◌, List, [], ◌∷◌, length, get_or, set, map, refl, sym, ap, subst, ◌∙◌, arith}
use Rattle.std.specs.List.{AllByRecursion, list_all}
use Rattle.std.proofs.lemmas.Bool.{cond_both, eqb-false, eqb-true, leb-true, ltb-true, not-true}
use Rattle.std.proofs.lemmas.List.{map-set}
use Rattle.base_types.specs.declared.names.Xid.{Xid}
use Rattle.redo_types.specs.declared.blocks.ItlSlot.{ItlSlot}
use Rattle.redo_types.specs.declared.undo.TxnSlot.{TxnSlot}
use Rattle.redo_types.specs.declared.undo.TxnState.{TxnState}
use Rattle.redo_types.specs.declared.undo.TxnState.TheVariants.{Active}
use Rattle.redo_types.specs.declared.undo.UndoRecord.{UndoRecord}
use Rattle.part_image.specs.Undo.{HasState, IsTxnSlot, IsUndoRecord}
use Rattle.block_image.specs.declared.row.Row.{Row}
use Rattle.block_image.specs.Block.{BlockContent, IsBlock, NamesSlot, clear_row, row_at}
use Rattle.block_image.specs.Changes.{applied}
use Rattle.block_image.proofs.EachLemmas.{all_nth, all_set}
use Rattle.redo_record.specs.Redo.{IsRedo}
use Rattle.undo_image.specs.Header.{IsHeader, slot_at}
use Rattle.undo_segment.specs.Look.{is_active}
use Rattle.undo_segment.specs.Segment.{IsSegment, SegmentState}
use Rattle.scn_clock.specs.declared.clock.Clock.{Clock}
use Rattle.journal.proofs.XidLemmas.{both_true}
use Rattle.txn_engine.specs.Back.{back_record, keeps_locks, lets_go, lock_back, locks_of, may_step_back, row_back, slot_back, stands_from}
use Rattle.txn_engine.specs.Limits.{is_under_way}
use Rattle.txn_engine.specs.Parts.{FitsBoth, data_change}
use Rattle.txn_engine.proofs.LimitLemmas.{active_has, active_state, rises, slot_is, under_way}
use Rattle.txn_engine.proofs.PartLemmas.{MayApply, applied_is, head_change_is, locks_with_used, locks_without, names_after, xid_is}
use Rattle.txn_engine.proofs.RedoParts.{data_is, redo_is}

-- eight lock bytes by their rows
pub eight_locks : (rows : List Row) → length rows ≡ 8
    → (row_at rows 0).lock ∷ (row_at rows 1).lock ∷ (row_at rows 2).lock ∷ (row_at rows 3).lock ∷ (row_at rows 4).lock ∷ (row_at rows 5).lock ∷ (row_at rows 6).lock ∷ (row_at rows 7).lock ∷ [] ≡ map (λ (r : Row). r.lock) rows
eight_locks (a ∷ b ∷ c ∷ d ∷ e ∷ f ∷ g ∷ h ∷ []) eight = refl
eight_locks [] eight = absurd (omega arith)
eight_locks (a ∷ []) eight = absurd (omega arith)
eight_locks (a ∷ b ∷ []) eight = absurd (omega arith)
eight_locks (a ∷ b ∷ c ∷ []) eight = absurd (omega arith)
eight_locks (a ∷ b ∷ c ∷ d ∷ []) eight = absurd (omega arith)
eight_locks (a ∷ b ∷ c ∷ d ∷ e ∷ []) eight = absurd (omega arith)
eight_locks (a ∷ b ∷ c ∷ d ∷ e ∷ f ∷ []) eight = absurd (omega arith)
eight_locks (a ∷ b ∷ c ∷ d ∷ e ∷ f ∷ g ∷ []) eight = absurd (omega arith)
eight_locks (a ∷ b ∷ c ∷ d ∷ e ∷ f ∷ g ∷ h ∷ i ∷ more) eight = absurd (omega arith)

either_true : (a b : Bool) → (a || b) ≡ true → (a ≡ true) ⊎ (b ≡ true)
either_true true b h = inl refl
either_true false b h = inr h

stands_by : (slot : TxnSlot) (u : UndoRecord) → stands_from slot u ≡ true → (u.prev ≡ 0) ⊎ (slot.first ≤ u.prev)
stands_by slot u h = elim (either_true _ _ h) [ inl none ↦ inl (eqb-true u.prev 0 none) | inr some ↦ inr (leb-true slot.first u.prev some) ]

slot_back_is : (slot : TxnSlot) (u : UndoRecord) → IsTxnSlot slot → is_active slot.state ≡ true → u.prev < 2 ^ 64 → stands_from slot u ≡ true → IsTxnSlot (slot_back slot u)
unfolding slot_back
slot_back_is slot u is active prev stands =
    let has = active_has slot is active in
    let after : HasState Active (slot_back slot u) = (has.0, has.1, stands_by slot u stands, has.3) in
    record {
      fits = (is.fits.0, (is.fits.1.0, (tt, (is.fits.1.1.1.0, (omega arith, (is.fits.1.1.1.1.1.0, (is.fits.1.1.1.1.1.1.0, tt)))))));
      state = subst (λ (s : TxnState). HasState s (slot_back slot u)) (sym (active_state slot.state active)) after;
      prev = is.prev;
    }

-- the lock byte of the row names a slot of the block as it stands
lock_names : (image : BlockContent) (u : UndoRecord) → IsBlock image → u.row < 8 → NamesSlot image.itl (lock_back image u)
lock_names image u is row =
    let eight = is.eight_rows in
    cond_both u.mine (row_at image.rows u.row).lock 0 (NamesSlot image.itl)
    (λ mine. all_nth (λ r. NamesSlot image.itl r.lock) image.rows u.row clear_row (omega arith) is.locks) (λ other. inl refl)

lock_small : (itl : List ItlSlot) (lock : ℕ) → NamesSlot itl lock → lock ≤ 4
lock_small itl lock (inl none) = omega arith
lock_small itl lock (inr (low, high, used)) = high

locks_after : (image : BlockContent) (u : UndoRecord) (scn : ℕ) → IsBlock image → IsUndoRecord u → keeps_locks image u ≡ true
    → AllByRecursion (λ r. NamesSlot (set image.itl (u.itl - 1) u.old_itl) r.lock) (applied image (row_back image u) scn).rows
unfolding row_back
locks_after image u scn is is_undo keeps =
    let some = is_undo.ranges.some_itl in
    let few = is_undo.ranges.itl in
    let four = is.four_slots in
    let names = lock_names image u is is_undo.ranges.row in
    let new : Row = record { value = u.old; lock = lock_back image u } in
    elim (either_true _ _ keeps) [
      | inl used ↦
          let differs = eqb-false u.old_itl.xid.wrap 0 (not-true (u.old_itl.xid.wrap == 0) used) in
          let wrap : 1 ≤ u.old_itl.xid.wrap = omega arith in
          locks_with_used image (row_back image u) scn is some few wrap (names_after image.itl u.itl (lock_back image u) u.old_itl some (omega arith) (inr wrap) names)
      | inr none ↦
          locks_without image.itl u.itl u.old_itl (set image.rows u.row new) some (omega arith)
          (ap (list_all (λ lock. not (lock == u.itl))) (map-set (λ (r : Row). r.lock) image.rows u.row new) ∙ none)
          (all_set (λ r. NamesSlot image.itl r.lock) image.rows u.row new names is.locks)
    ]

pub back_fits : (x : Xid) (u : UndoRecord) (segment : SegmentState) (image : BlockContent) (clock : Clock) → IsSegment segment → IsHeader segment.head → is_under_way segment.head x ≡ true → IsUndoRecord u → IsBlock image → may_step_back x u segment.head image clock ≡ true
    → FitsBoth segment image (back_record x u segment.head image (clock.scn + 1))
unfolding back_record row_back data_change
back_fits x u segment image clock is_segment is going is_undo is_block may =
    let head = segment.head in
    let few = is_segment.layout.few_instances in
    let in_layout = is_segment.seg in
    let seg : head.front.seg < 8 = omega arith in
    let a = both_true _ _ may in
    let b = both_true _ _ a.0 in
    let c = both_true _ _ b.0 in
    let d = both_true _ _ c.0 in
    let e = both_true _ _ d.0 in
    let f = both_true _ _ e.0 in
    let g = both_true _ _ f.0 in
    let image_version = rises image.front.version a.1 in
    let head_version = rises head.front.version b.1 in
    let scn = rises clock.scn c.1 in
    let block = ltb-true image.front.number 64 g.0 in
    let under = under_way head x going in
    let name = xid_is head x is seg under in
    let slot = slot_is head x.slot is under.slot in
    let next = is.front.fits.1.1.1.1.1.1.1.0 in
    let some_next = is.front.next in
    let seq = is_undo.fits.0 in
    let prev = is_undo.fits.1.1.1.1.1.1.1.1.1.0 in
    let names = lock_names image u is_block is_undo.ranges.row in
    let small = lock_small image.itl (lock_back image u) names in
    let some_scn : 1 ≤ clock.scn + 1 = omega arith in
    let scn_fits : clock.scn + 1 < 2 ^ 64 = omega arith in
    let is_redo : IsRedo (back_record x u head image (clock.scn + 1)) =
    redo_is (back_record x u head image (clock.scn + 1))
    (record { xid = name.0; wrap = name.1; some_scn = some_scn; scn = scn_fits; seq = omega arith; names = is_undo.ranges.seq })
    (tt, tt)
    (head_change_is head x.slot head.front.next (slot_back (slot_at head x.slot) u) is head_version under.slot some_next (omega arith) (slot_back_is (slot_at head x.slot) u slot under.active (omega arith) d.1))
    tt
    (data_is (data_change image (row_back image u))
    (record { block = block; some_version = omega arith; version = omega arith; row = is_undo.ranges.row; lock = small; some_itl = is_undo.ranges.some_itl; itl = is_undo.ranges.itl })
    is_undo.old_itl is_undo.old) in
    let is_after : IsBlock (applied image (row_back image u) (clock.scn + 1)) = applied_is image (row_back image u) (clock.scn + 1) is_block (record {
      version = image_version;
      some_scn = some_scn;
      scn_fits = scn_fits;
      row = is_undo.ranges.row;
      lock = small;
      some_itl = is_undo.ranges.some_itl;
      itl = is_undo.ranges.itl;
      slot = is_undo.old_itl;
      value = is_undo.old;
      locks = locks_after image u (clock.scn + 1) is_block is_undo e.1;
    }) in
    record {
      segment_fits = record { is = is_redo; head = omega arith; undo = tt };
      image_fits = record { version = omega arith; block = is_after };
    }
