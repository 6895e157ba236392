-- After a loss the rules have made what is kept.
use Rattle.std.proofs.Common.{◌≡◌, ℕ, ◌<◌, Bool, true, false, cond, List, [], ◌∷◌, refl, ap, arith, inl, inr}
use Rattle.std.specs.Prelude.{Option, Some, None, IsSomeAnd, nat_lt}
use Rattle.std.specs.List.{AllByRecursion, filter}
use Rattle.std.proofs.lemmas.Bool.Decides.{nat_tests}
use Rattle.base_types.specs.declared.names.Xid.{Xid}
use Rattle.journal.specs.Past.{same_xid}
use Rattle.board_slots.specs.Block.{Record, Does, TakesBack, Commits, RollsBack, Open, Over, stage, commit_in, committed, content, stands, image_after, stands_after}
use Rattle.board_slots.specs.Records.{DeedsBelow, May, AreMade}
use Rattle.board_slots.specs.Losses.{TouchIsKept, CommitIsKept, ReasonsAreKept, KeepsReasons}

-- the block is the same where all of its records are kept
same-block : (keep : Record → Bool) (older : List Record) → AllByRecursion (TouchIsKept keep) older → (content (filter keep older) ≡ content older) × (stands (filter keep older) ≡ stands older)
same-block keep [] h = (refl, refl)
same-block keep (Does m ∷ older) h = let ih = same-block keep older h.1 in rw h.0 (ap (image_after (Does m)) ih.0, ap (stands_after (Does m)) ih.1)
same-block keep (TakesBack inst x seq scn change ∷ older) h = let ih = same-block keep older h.1 in rw h.0 (ap (image_after (TakesBack inst x seq scn change)) ih.0, ap (stands_after (TakesBack inst x seq scn change)) ih.1)
same-block keep (Commits c x ∷ older) h = here (keep (Commits c x)) (same-block keep older h.1)
  where
    here : (t : Bool) → (content (filter keep older) ≡ content older) × (stands (filter keep older) ≡ stands older) → (content (cond t (Commits c x ∷ filter keep older) (filter keep older)) ≡ content older) × (stands (cond t (Commits c x ∷ filter keep older) (filter keep older)) ≡ stands older)
    here true ih = ih
    here false ih = ih
same-block keep (RollsBack inst c x ∷ older) h = here (keep (RollsBack inst c x)) (same-block keep older h.1)
  where
    here : (t : Bool) → (content (filter keep older) ≡ content older) × (stands (filter keep older) ≡ stands older) → (content (cond t (RollsBack inst c x ∷ filter keep older) (filter keep older)) ≡ content older) × (stands (cond t (RollsBack inst c x ∷ filter keep older) (filter keep older)) ≡ stands older)
    here true ih = ih
    here false ih = ih

-- who is open stays open
open-kept : (keep : Record → Bool) (x : Xid) (older : List Record) → stage x older ≡ Open → stage x (filter keep older) ≡ Open
open-kept keep x [] e = refl
open-kept keep x (Does m ∷ older) e = here (keep (Does m)) (open-kept keep x older e)
  where
    here : (t : Bool) → stage x (filter keep older) ≡ Open → stage x (cond t (Does m ∷ filter keep older) (filter keep older)) ≡ Open
    here true ih = ih
    here false ih = ih
open-kept keep x (TakesBack inst y seq scn change ∷ older) e = here (keep (TakesBack inst y seq scn change)) (open-kept keep x older e)
  where
    here : (t : Bool) → stage x (filter keep older) ≡ Open → stage x (cond t (TakesBack inst y seq scn change ∷ filter keep older) (filter keep older)) ≡ Open
    here true ih = ih
    here false ih = ih
open-kept keep x (Commits c y ∷ older) e = here (keep (Commits c y)) (same_xid x y) refl e (open-kept keep x older)
  where
    here : (t s : Bool) → same_xid x y ≡ s → cond s (Over (Some c)) (stage x older) ≡ Open → (stage x older ≡ Open → stage x (filter keep older) ≡ Open) → stage x (cond t (Commits c y ∷ filter keep older) (filter keep older)) ≡ Open
    here t true f e ih = absurd (let bad : Over (Some c) ≡ Open = e in cc)
    here true false f e ih = rw f (ih e)
    here false false f e ih = ih e
open-kept keep x (RollsBack inst c y ∷ older) e = here (keep (RollsBack inst c y)) (same_xid x y) refl e (open-kept keep x older)
  where
    here : (t s : Bool) → same_xid x y ≡ s → cond s (Over None) (stage x older) ≡ Open → (stage x older ≡ Open → stage x (filter keep older) ≡ Open) → stage x (cond t (RollsBack inst c y ∷ filter keep older) (filter keep older)) ≡ Open
    here t true f e ih = absurd (let bad : Over None ≡ Open = e in cc)
    here true false f e ih = rw f (ih e)
    here false false f e ih = ih e

all_filter : (P : Record → Type 0) (keep : Record → Bool) (older : List Record) → AllByRecursion P older → AllByRecursion P (filter keep older)
all_filter P keep [] h = tt
all_filter P keep (r ∷ older) h = here (keep r) (all_filter P keep older h.1)
  where
    here : (t : Bool) → AllByRecursion P (filter keep older) → AllByRecursion P (cond t (r ∷ filter keep older) (filter keep older))
    here true ih = (h.0, ih)
    here false ih = ih

below-kept : (keep : Record → Bool) (older : List Record) (y : Xid) (scn : ℕ) → CommitIsKept keep older y → IsSomeAnd (committed older y) (λ c. c < scn) → IsSomeAnd (committed (filter keep older) y) (λ c. c < scn)
below-kept keep older y scn kept l = back (committed (filter keep older) y) (kept (λ c. nat_lt c scn) (there (committed older y) l))
  where
    there : (o : Option ℕ) → IsSomeAnd o (λ c. c < scn) → IsSomeAnd o (λ c. nat_lt c scn ≡ true)
    there None l = l
    there (Some c) l = grind (arith, nat_tests, l)

    back : (o : Option ℕ) → IsSomeAnd o (λ c. nat_lt c scn ≡ true) → IsSomeAnd o (λ c. c < scn)
    back None l = l
    back (Some c) l = grind (arith, nat_tests, l)

may-kept : (keep : Record → Bool) (older : List Record) (r : Record) → ReasonsAreKept keep older r → May older r → May (filter keep older) r
may-kept keep older (Does m) reasons may =
    let same = same-block keep older reasons.0 in
    record {
      goes_on = open-kept keep m.xid older may.goes_on;
      made = rw same.0 (record {
        goes_on = ap commit_in (open-kept keep m.xid older may.goes_on);
        placed = may.made.placed;
        scn = may.made.scn;
        version = may.made.version;
        undo = may.made.undo;
        value = may.made.value;
        free = elim may.made.free [ inl z ↦ inl z | inr f ↦ elim f [ inl x ↦ inr (inl x) | inr c ↦ inr (inr (below-kept keep older ((content older).slot ((content older).lock m.row)).xid m.scn reasons.1 c)) ] ];
        chosen = elim may.made.chosen [ inl x ↦ inl x | inr f ↦ inr (f.0, elim f.1 [ inl z ↦ inl z | inr c ↦ inr (below-kept keep older ((content older).slot m.itl).xid m.scn reasons.2 c) ]) ];
      });
    }
may-kept keep older (TakesBack inst x seq scn change) reasons may =
    let same = same-block keep older reasons in
    record { goes_on = open-kept keep x older may.goes_on; deed = may.deed; newest_own = rw same.1 may.newest_own; number = may.number; does = rw same.0 may.does; up = rw same.0 may.up }
may-kept keep older (Commits c x) reasons may = record { goes_on = open-kept keep x older may.goes_on; above = all_filter (DeedsBelow x c) keep older may.above }
may-kept keep older (RollsBack inst c x) reasons may = record { goes_on = open-kept keep x older may.goes_on; none = reasons; above = all_filter (DeedsBelow x c) keep older may.above }

pub kept-made : (keep : Record → Bool) (records : List Record) → KeepsReasons keep records → AreMade records → AreMade (filter keep records)
kept-made keep [] reasons made = tt
kept-made keep (r ∷ older) reasons made = here (keep r) refl (kept-made keep older reasons.1 made.1)
  where
    here : (t : Bool) → keep r ≡ t → AreMade (filter keep older) → AreMade (cond t (r ∷ filter keep older) (filter keep older))
    here true e ih = (may-kept keep older r (reasons.0 e) made.0, ih)
    here false e ih = ih
