-- What later moments tell of what stood in an image.
use Rattle.std.proofs.Common.{◌≡◌, ℕ, ◌<◌, Bool, true, false, cond, List, [], ◌∷◌, ◌++◌, refl, sym, ◌∙◌}
use Rattle.std.specs.Prelude.{Option, Some, None, IfSome}
use Rattle.std.specs.List.{AllByRecursion}
use Rattle.base_types.specs.declared.names.Xid.{Xid}
use Rattle.journal.specs.Past.{same_xid}
use Rattle.journal.proofs.XidLemmas.{same_xid-refl, same_xid-true}
use Rattle.board_slots.specs.Block.{Deed, by, Record, Does, TakesBack, Commits, RollsBack, Open, Over, stage, commit_in, committed, stands}
use Rattle.board_slots.specs.Records.{AreMade, DeedsBelow}
use Rattle.undo_segment.specs.declared.fetch.Fetch.{Fetch}
use Rattle.undo_segment.specs.declared.look.Look.{Look}
use Rattle.board_slots.specs.Views.{IsWritten, undo_of}
use Rattle.board_slots.specs.Told.{ended, IsLook, IsTold}
use Rattle.board_slots.proofs.Newest.{all_map, all_both, all_append}
use Rattle.board_slots.proofs.Keeps.{OfRecord, stands-from}

-- one that is open has no end
open-unended : (x : Xid) (records : List Record) → stage x records ≡ Open → ended records x ≡ None
open-unended x [] e = refl
open-unended x (Does m ∷ records) e = open-unended x records e
open-unended x (TakesBack inst y seq scn change ∷ records) e = open-unended x records e
open-unended x (Commits c y ∷ records) e = here (same_xid x y) e (open-unended x records)
  where
    here : (t : Bool) → cond t (Over (Some c)) (stage x records) ≡ Open → (stage x records ≡ Open → ended records x ≡ None) → cond t (Some c) (ended records x) ≡ None
    here true e ih = (cc)
    here false e ih = ih e
open-unended x (RollsBack inst c y ∷ records) e = here (same_xid x y) e (open-unended x records)
  where
    here : (t : Bool) → cond t (Over None) (stage x records) ≡ Open → (stage x records ≡ Open → ended records x ≡ None) → cond t (Some c) (ended records x) ≡ None
    here true e ih = (cc)
    here false e ih = ih e

-- a commit is an end
commit-ends : (x : Xid) (c : ℕ) (records : List Record) → committed records x ≡ Some c → ended records x ≡ Some c
commit-ends x c [] e = (cc)
commit-ends x c (Does m ∷ records) e = commit-ends x c records e
commit-ends x c (TakesBack inst y seq scn change ∷ records) e = commit-ends x c records e
commit-ends x c (Commits d y ∷ records) e = here (same_xid x y) e (commit-ends x c records)
  where
    here : (t : Bool) → commit_in (cond t (Over (Some d)) (stage x records)) ≡ Some c → (committed records x ≡ Some c → ended records x ≡ Some c) → cond t (Some d) (ended records x) ≡ Some c
    here true e ih = e
    here false e ih = ih e
commit-ends x c (RollsBack inst d y ∷ records) e = here (same_xid x y) e (commit-ends x c records)
  where
    here : (t : Bool) → commit_in (cond t (Over None) (stage x records)) ≡ Some c → (committed records x ≡ Some c → ended records x ≡ Some c) → cond t (Some d) (ended records x) ≡ Some c
    here true e ih = (cc)
    here false e ih = ih e

-- an end stays
pub end-stays : (x : Xid) (c : ℕ) (newer there : List Record) → AreMade (newer ++ there) → ended there x ≡ Some c → ended (newer ++ there) x ≡ Some c
end-stays x c [] there made e = e
end-stays x c (Does m ∷ newer) there made e = end-stays x c newer there made.1 e
end-stays x c (TakesBack inst y seq scn change ∷ newer) there made e = end-stays x c newer there made.1 e
end-stays x c (Commits d y ∷ newer) there made e = here (same_xid x y) refl (end-stays x c newer there made.1 e)
  where
    here : (t : Bool) → same_xid x y ≡ t → ended (newer ++ there) x ≡ Some c → cond t (Some d) (ended (newer ++ there) x) ≡ Some c
    here false f ih = ih
    here true f ih = absurd (let bad : None ≡ Some c = sym (rw (same_xid-true x y f) (open-unended y (newer ++ there) made.0.goes_on)) ∙ ih in cc)
end-stays x c (RollsBack inst d y ∷ newer) there made e = here (same_xid x y) refl (end-stays x c newer there made.1 e)
  where
    here : (t : Bool) → same_xid x y ≡ t → ended (newer ++ there) x ≡ Some c → cond t (Some d) (ended (newer ++ there) x) ≡ Some c
    here false f ih = ih
    here true f ih = absurd (let bad : None ≡ Some c = sym (rw (same_xid-true x y f) (open-unended y (newer ++ there) made.0.goes_on)) ∙ ih in cc)

-- an end is above all that its transaction did
ends-above : (x : Xid) (records : List Record) → AreMade records → IfSome (ended records x) (λ e. AllByRecursion (DeedsBelow x e) records)
ends-above x [] made = tt
ends-above x (Does m ∷ records) made = here (ended records x) refl (ends-above x records made.1)
  where
    here : (o : Option ℕ) → ended records x ≡ o → IfSome o (λ e. AllByRecursion (DeedsBelow x e) records) → IfSome o (λ e. (by x m ≡ true → m.scn < e) × AllByRecursion (DeedsBelow x e) records)
    here None f h = tt
    here (Some e) f h = ((λ b. absurd (let bad : None ≡ Some e = sym (rw (same_xid-true x m.xid b) (open-unended m.xid records made.0.goes_on)) ∙ f in cc)), h)
ends-above x (TakesBack inst y seq scn change ∷ records) made = here (ended records x) (ends-above x records made.1)
  where
    here : (o : Option ℕ) → IfSome o (λ e. AllByRecursion (DeedsBelow x e) records) → IfSome o (λ e. Unit {0} × AllByRecursion (DeedsBelow x e) records)
    here None h = tt
    here (Some e) h = (tt, h)
ends-above x (Commits c y ∷ records) made = here (same_xid x y) refl (ended records x) (ends-above x records made.1)
  where
    here : (t : Bool) → same_xid x y ≡ t → (o : Option ℕ) → IfSome o (λ e. AllByRecursion (DeedsBelow x e) records) → IfSome (cond t (Some c) o) (λ e. Unit {0} × AllByRecursion (DeedsBelow x e) records)
    here true f o h = (tt, rw (same_xid-true x y f) made.0.above)
    here false f None h = tt
    here false f (Some e) h = (tt, h)
ends-above x (RollsBack inst c y ∷ records) made = here (same_xid x y) refl (ended records x) (ends-above x records made.1)
  where
    here : (t : Bool) → same_xid x y ≡ t → (o : Option ℕ) → IfSome o (λ e. AllByRecursion (DeedsBelow x e) records) → IfSome (cond t (Some c) o) (λ e. Unit {0} × AllByRecursion (DeedsBelow x e) records)
    here true f o h = (tt, rw (same_xid-true x y f) made.0.above)
    here false f None h = tt
    here false f (Some e) h = (tt, h)

did_of : (x : Xid) (e : ℕ) (r : Record) → DeedsBelow x e r → OfRecord (λ m. by x m ≡ true → m.scn < e) r
did_of x e (Does m) h = h
did_of x e (TakesBack inst y seq scn change) h = tt
did_of x e (Commits d y) h = tt
did_of x e (RollsBack inst d y) h = tt

-- of one transaction: what stands of it is below its end at each later moment
pub end-over : (x : Xid) (newer there : List Record) → AreMade (newer ++ there) → AllByRecursion (λ m. by x m ≡ true → IfSome (ended (newer ++ there) x) (λ e. m.scn < e)) (stands there)
end-over x newer there made = here (ended (newer ++ there) x) (ends-above x (newer ++ there) made)
  where
    all_of : {P : Deed → Type 0} (deeds : List Deed) → ((m : Deed) → P m) → AllByRecursion P deeds
    all_of [] f = tt
    all_of (m ∷ deeds) f = (f m, all_of deeds f)

    here : (o : Option ℕ) → IfSome o (λ e. AllByRecursion (DeedsBelow x e) (newer ++ there)) → AllByRecursion (λ m. by x m ≡ true → IfSome o (λ e. m.scn < e)) (stands there)
    here None h = all_of (stands there) (λ m b. tt)
    here (Some e) h = stands-from (λ m. by x m ≡ true → m.scn < e) there (all_map (DeedsBelow x e) (OfRecord (λ m. by x m ≡ true → m.scn < e)) there (did_of x e) (all_append (DeedsBelow x e) newer there h).1)

pub commit-stays : (x : Xid) (c : ℕ) (newer there : List Record) → AreMade (newer ++ there) → committed there x ≡ Some c → ended (newer ++ there) x ≡ Some c
commit-stays x c newer there made e = end-stays x c newer there made (commit-ends x c there e)

each_own : (Q : Xid → Deed → Type 0) (deeds : List Deed) → ((x : Xid) → AllByRecursion (λ m. by x m ≡ true → Q x m) deeds) → AllByRecursion (λ m. Q m.xid m) deeds
each_own Q [] f = tt
each_own Q (m ∷ deeds) f = ((f m.xid).0 (same_xid-refl m.xid), each_own Q deeds (λ x. (f x).1))

-- headers of later moments, one for each transaction's segment, and undo of a later moment
pub told-later : (number : ℕ) (there : List Record) (newer : Xid → List Record) (look : Xid → Look) (fetch : Xid → ℕ → Fetch) → ((x : Xid) → AreMade (newer x ++ there))
    → AllByRecursion (λ m. IsLook (ended (newer m.xid ++ there) m.xid) (look m.xid)) (stands there) → AllByRecursion (λ m. IsWritten (undo_of number m) (fetch m.xid m.seq)) (stands there)
    → AllByRecursion (IsTold number (committed there) (λ x. ended (newer x ++ there) x) look fetch) (stands there)
told-later number there newer look fetch made looks fetched =
    all_both (λ m. IfSome (ended (newer m.xid ++ there) m.xid) (λ e. m.scn < e)) (λ m. IsLook (ended (newer m.xid ++ there) m.xid) (look m.xid) × IsWritten (undo_of number m) (fetch m.xid m.seq)) (IsTold number (committed there) (λ x. ended (newer x ++ there) x) look fetch) (stands there)
    (λ m above f. record { stays = λ c e. commit-stays m.xid c (newer m.xid) there (made m.xid) e; above = above; looks = f.0; fetched = f.1 })
    (each_own (λ x m. IfSome (ended (newer x ++ there) x) (λ e. m.scn < e)) (stands there) (λ x. end-over x (newer x) there (made x)))
    (all_both (λ m. IsLook (ended (newer m.xid ++ there) m.xid) (look m.xid)) (λ m. IsWritten (undo_of number m) (fetch m.xid m.seq)) (λ m. IsLook (ended (newer m.xid ++ there) m.xid) (look m.xid) × IsWritten (undo_of number m) (fetch m.xid m.seq)) (stands there) (λ m a b. (a, b)) looks fetched)
