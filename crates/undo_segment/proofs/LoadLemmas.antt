-- What is read of a segment, block by block.
use Rattle.std.proofs.Common.{◌≡◌, ℕ, ◌+◌, ◌<◌, ◌≤◌, List, [], ◌∷◌, ◌++◌, length, Option, None, Some, IfSome, Result, Ok, Err, refl, sym, subst, ◌∙◌, arith, length-append}
use Rattle.rac_disk.specs.Content.{Content, block_at}
use Rattle.rac_disk.specs.State.{HadFault, IsCalm, State}
use Rattle.rac_io.specs.Counts.{Rose}
use Rattle.undo_image.specs.UndoBlock.{UndoContent, undo_bytes}
use Rattle.undo_segment.specs.declared.error.LoadError.{LoadError}
use Rattle.undo_segment.specs.declared.error.LoadError.TheVariants.{Bad, Failed, NoMemory}
use Rattle.undo_segment.specs.Faults.{AreFaultless, undo_fault}
use Rattle.undo_segment.specs.Load.{CountsFor, HoldsFor, HoldsRing, Keeps, Loads}
use Rattle.undo_segment.specs.Segment.{block_in}
use Rattle.undo_segment.proofs.RingLemmas.{each_more}

pub keeps_self : (told : Option Content) → Keeps told told
keeps_self None = tt
keeps_self (Some it) = refl

pub keeps_more : (old mid new : Option Content) → Keeps old mid → Keeps mid new → Keeps old new
keeps_more None mid new first second = tt
keeps_more (Some it) mid new first second = subst (λ (t : Option Content). Keeps t new) first second

-- what is so of what the disk tells now was so before
pub told_before : (old mid : Option Content) (Q : Content → Type 0) → Keeps old mid → IfSome mid Q → IfSome old Q
told_before None mid Q keeps is = tt
told_before (Some it) mid Q keeps is = subst (λ (t : Option Content). IfSome t Q) keeps is

-- what follows from what is so of what the disk tells
pub told_weaker : (told : Option Content) (P Q R : Content → Type 0) → ((it : Content) → P it → Q it → R it) → IfSome told P → IfSome told Q → IfSome told R
told_weaker None P Q R follows p q = tt
told_weaker (Some it) P Q R follows p q = follows it p q

pub told_always : (told : Option Content) (Q : Content → Type 0) → ((it : Content) → Q it) → IfSome told Q
told_always None Q is = tt
told_always (Some it) Q is = is it

pub calm_self : (s : State) → IsCalm s s
calm_self s = record { faults = refl; full = refl }

pub calm_more : (old mid new : State) → IsCalm old mid → IsCalm mid new → IsCalm old new
calm_more old mid new first second = record { faults = second.faults ∙ first.faults; full = second.full ∙ first.full }

fault_more : (old mid new : State) → IsCalm old mid → HadFault mid new → HadFault old new
fault_more old mid new calm had = record {
  later = subst (λ n. n ≤ new.faults) calm.faults had.later;
  rose = subst (λ n. Rose n new.faults) calm.faults had.rose;
  full = had.full ∙ calm.full;
}

counts_more : (why : LoadError) (old mid new : State) → IsCalm old mid → CountsFor why mid new → CountsFor why old new
counts_more Failed old mid new calm counts = fault_more old mid new calm counts
counts_more (Bad block field) old mid new calm counts = calm_more old mid new calm counts
counts_more NoMemory old mid new calm counts = calm_more old mid new calm counts

holds_weaker : (why : LoadError) (IsBad IsBad' : ℕ → Content → Type 0) → ((b : ℕ) (it : Content) → IsBad b it → IsBad' b it) → (it : Content) → HoldsFor IsBad why it → HoldsFor IsBad' why it
holds_weaker Failed IsBad IsBad' follows it holds = tt
holds_weaker (Bad block field) IsBad IsBad' follows it holds = follows block it holds
holds_weaker NoMemory IsBad IsBad' follows it holds = tt

-- a load that goes on after a first one fails as its second does
pub fails_more : {T U : Type 0} (Gives : T → Content → Type 0) (Gives' : U → Content → Type 0) (IsBad IsBad' : ℕ → Content → Type 0) (why : LoadError) (old mid new : State) → Keeps old.told mid.told → IsCalm old mid
    → ((b : ℕ) (it : Content) → IsBad b it → IsBad' b it) → Loads Gives IsBad (Err why) mid new → Loads Gives' IsBad' (Err why) old new
fails_more Gives Gives' IsBad IsBad' why old mid new keeps calm follows loads = record {
  told = keeps_more old.told mid.told new.told keeps loads.told;
  counts = counts_more why old mid new calm loads.counts;
  gives =
      let holds = told_before old.told mid.told (HoldsFor IsBad why) keeps loads.gives in
      told_weaker old.told (HoldsFor IsBad why) (HoldsFor IsBad why) (HoldsFor IsBad' why) (λ it p q. holds_weaker why IsBad IsBad' follows it p) holds holds;
}

-- a load fails where memory runs out
pub fails_no_memory : {T : Type 0} (Gives : T → Content → Type 0) (IsBad : ℕ → Content → Type 0) (old new : State) → Keeps old.told new.told → IsCalm old new → Loads Gives IsBad (Err NoMemory) old new
fails_no_memory Gives IsBad old new keeps calm = record {
  told = keeps;
  counts = calm;
  gives = told_always old.told (HoldsFor IsBad NoMemory) (λ it. tt);
}

-- the first k undo blocks behind a header are read, and no call has failed
pub record RingRead (head seg k : ℕ) (blocks : List UndoContent) (old new : State) : Type 0 where
  pub count : length blocks ≡ k
  pub faultless : AreFaultless head seg blocks
  pub told : Keeps old.told new.told
  pub calm : IsCalm old new
  pub holds : IfSome old.told (HoldsRing head blocks)

pub none_read : (head seg : ℕ) (s : State) → RingRead head seg 0 [] s s
none_read head seg s = record {
  count = refl;
  faultless = λ k few. absurd (omega arith);
  told = keeps_self s.told;
  calm = calm_self s;
  holds = told_always s.told (HoldsRing head []) (λ it k few. absurd (omega arith));
}

-- one more is read
pub one_more_read : (head seg k : ℕ) (blocks : List UndoContent) (u : UndoContent) (IsBad : ℕ → Content → Type 0) (old mid new : State) → RingRead head seg k blocks old mid → undo_fault (head + 1 + k) seg u ≡ None
    → Loads (λ undo it. block_at it (head + 1 + k) ≡ undo_bytes undo) IsBad (Ok u) mid new → RingRead head seg (k + 1) (blocks ++ u ∷ []) old new
one_more_read head seg k blocks u IsBad old mid new read faultless loads =
    let here : undo_fault (head + 1 + length blocks) seg u ≡ None = subst (λ n. undo_fault (head + 1 + n) seg u ≡ None) (sym read.count) faultless in
    let Here : Content → Type 0 = λ it. block_at it (head + 1 + k) ≡ undo_bytes u in
    record {
      count = length-append blocks (u ∷ []) ∙ omega (arith, read.count);
      faultless = each_more (λ j b. undo_fault (head + 1 + j) seg b ≡ None) blocks u read.faultless here;
      told = keeps_more old.told mid.told new.told read.told loads.told;
      calm = calm_more old mid new read.calm loads.counts;
      holds =
          told_weaker old.told (HoldsRing head blocks) Here (HoldsRing head (blocks ++ u ∷ []))
          (λ it all one.
          each_more (λ j b. block_at it (head + 1 + j) ≡ undo_bytes b) blocks u all
          (subst (λ n. block_at it (head + 1 + n) ≡ undo_bytes u) (sym read.count) one))
          read.holds (told_before old.told mid.told Here read.told loads.gives);
    }

-- once all are read
pub all_read : (IsBad : ℕ → Content → Type 0) {T : Type 0} (v : T) (items : T → List UndoContent) (head seg k : ℕ) (old new : State) → RingRead head seg k (items v) old new
    → Loads (λ blocks. HoldsRing head (items blocks)) IsBad (Ok v) old new
all_read IsBad v items head seg k old new read = record { told = read.told; counts = read.calm; gives = read.holds }
