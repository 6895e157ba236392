-- What headers tell fits what stands.
use Rattle.std.proofs.Common.{◌≡◌, ℕ, ◌<◌, ◌≤◌, Bool, true, false, cond, not, ◌||◌, refl, sym, ◌∙◌, arith}
use Rattle.std.specs.Prelude.{Option, Some, None, Ok, Err, IsSomeAnd, IfSome, nat_lt, nat_le}
use Rattle.std.proofs.lemmas.Bool.Decides.{nat_tests}
use Rattle.base_types.specs.declared.names.Xid.{Xid}
use Rattle.journal.proofs.XidLemmas.{same_xid-true}
use Rattle.journal.specs.declared.cause.Cause.TheVariants.{OldSlot}
use Rattle.undo_segment.specs.declared.fetch.Fetch.{Fetch}
use Rattle.undo_segment.specs.declared.look.Look.{Look}
use Rattle.undo_segment.specs.declared.look.Look.TheVariants.{Active, Ended, ReusedBelow, Unlooked}
use Rattle.txn_slots.specs.Own.{is_own}
use Rattle.cr_copy.specs.declared.made.Halt.TheVariants.{TooOld}
use Rattle.cr_copy.specs.Copy.{back_by}
use Rattle.board_slots.specs.Block.{Deed}
use Rattle.board_slots.specs.Told.{is_up_to, ended_by, IsLook, IsTold}
use Rattle.board_slots.proofs.Newest.{clash}
use Rattle.board_slots.proofs.Rule.{class}
use Rattle.board_slots.proofs.Rounds.{goes, Fits, IsClassed}

module _ (past : Xid → Option ℕ) (s : ℕ) (me : Option Xid) (ended : Xid → Option ℕ) (look : Xid → Look) (number : ℕ) (fetch : Xid → ℕ → Fetch) (reader : IfSome me (λ x. past x ≡ None)) where
  own-new : (x : Xid) → is_own me x ≡ true → past x ≡ None
  own-new x e = here me refl e
    where
      here : (o : Option Xid) → me ≡ o → is_own o x ≡ true → past x ≡ None
      here None f e = clash false e refl
      here (Some y) f e = rw (sym (same_xid-true y x e)) (rw f at reader)

  -- classes by what headers tell
  classed : (own : Bool) (x : Xid) (l : Look) (end : Option ℕ) → IsLook end l → IsClassed (cond own (Ok true) (back_by s x l)) (own || not (is_up_to s end))
  classed true x l end h = refl
  classed false x Unlooked end h = tt
  classed false x Active end h = rw h refl
  classed false x (Ended e) end h = rw h (here (nat_le e s) refl)
    where
      here : (t : Bool) → nat_le e s ≡ t → nat_lt s e ≡ not t
      here true f = grind (arith, nat_tests, f)
      here false f = grind (arith, nat_tests, f)
  classed false x (ReusedBelow e found) None h = absurd h
  classed false x (ReusedBelow e found) (Some c) h = here (nat_lt s e) refl
    where
      here : (t : Bool) → nat_lt s e ≡ t → IsClassed (cond t (Err (TooOld (OldSlot x found))) (Ok false)) (not (nat_le c s))
      here true f = tt
      here false f = let le : nat_le c s ≡ true = grind (arith, nat_tests, f, h) in rw le refl

  pub fits-told : (m : Deed) → IsTold number past ended look fetch m → Fits past s me (ended_by s ended) (class s me look) number fetch m
  fits-told m t =
      record {
        low = low (is_own me m.xid) (ended m.xid) t.above;
        stays = λ l. stays (past m.xid) refl l;
        classed = classed (is_own me m.xid) m.xid (look m.xid) (ended m.xid) t.looks;
        fetched = t.fetched;
      }
    where
      low : (own : Bool) (end : Option ℕ) → IfSome end (λ e. m.scn < e) → (own || not (is_up_to s end)) ≡ false → m.scn ≤ s
      low true end a h = clash true refl h
      low false None a h = clash true refl h
      low false (Some e) a h = grind (arith, nat_tests, a, h)

      stays : (o : Option ℕ) → past m.xid ≡ o → IsSomeAnd o (λ c. c ≤ s) → goes me (ended_by s ended) m.xid ≡ false
      stays None e l = absurd l
      stays (Some c) e l = rw (t.stays c e) (here (is_own me m.xid) refl)
        where
          here : (own : Bool) → is_own me m.xid ≡ own → (own || not (nat_le c s)) ≡ false
          here true f = absurd (let bad : None ≡ Some c = sym (own-new m.xid f) ∙ e in cc)
          here false f = grind (arith, nat_tests, l)
