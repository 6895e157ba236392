-- Calls that only read, one after the other.
use Rattle.std.proofs.Common.{◌≤◌, ◌∙◌, Bool, true, false, Option, None, Some, Result, Ok, Err, subst, ap}
use Rattle.rac_io.specs.Counts.{Rose}
use Rattle.rac_disk.specs.Content.{Content}
use Rattle.rac_disk.specs.State.{IsCalm, Leaves, Nothing, Reads, State, WhereTold}
use Rattle.undo_segment.specs.Load.{Keeps}
use Rattle.undo_segment.proofs.LoadLemmas.{calm_more, calm_self, keeps_more, keeps_self, told_always, told_before, told_weaker}
use Rattle.thread_steps.specs.Observes.{Counts, Observes}

keeps_where : {T E : Type 0} (result : Result T E) (old new : Option Content) → WhereTold old new (Leaves Nothing result) → Keeps old new
keeps_where result None new is = tt
keeps_where result (Some it) None is = absurd is
keeps_where (Ok value) (Some it) (Some now) is = ap Some is.2
keeps_where (Err why) (Some it) (Some now) is = ap Some is.2

-- a call that read something
pub observed : {T E : Type 0} (Gives : T → Content → Type 0) (value : T) (old new : State) → Reads {E = E} Gives (Ok value) old new → Observes false (Gives value) old new
observed {E = E} Gives value old new reads = record {
  told = keeps_where {E = E} (Ok value) old.told new.told reads.makes.disk;
  counts = reads.makes.counts;
  holds = reads.gives;
}

-- no call was made yet
pub observes_nothing : (Holds : Content → Type 0) (s : State) → ((it : Content) → Holds it) → Observes false Holds s s
observes_nothing Holds s always = record {
  told = keeps_self s.told;
  counts = calm_self s;
  holds = told_always s.told Holds always;
}

-- what follows from what the disk holds
pub observes_weaker : (fails : Bool) (P Q : Content → Type 0) (old new : State) → ((it : Content) → P it → Q it) → Observes fails P old new → Observes fails Q old new
observes_weaker fails P Q old new follows seen = record {
  told = seen.told;
  counts = seen.counts;
  holds = told_weaker old.told P P Q (λ it p q. follows it p) seen.holds seen.holds;
}

counts_more : (fails : Bool) (old mid new : State) → IsCalm old mid → Counts fails mid new → Counts fails old new
counts_more false old mid new calm counts = calm_more old mid new calm counts
counts_more true old mid new calm counts = record {
  later = subst (λ n. n ≤ new.faults) calm.faults counts.later;
  rose = subst (λ n. Rose n new.faults) calm.faults counts.rose;
  full = counts.full ∙ calm.full;
}

-- calls go on after others that didn't fail
pub observes_more : (fails : Bool) (P Q R : Content → Type 0) (old mid new : State) → ((it : Content) → P it → Q it → R it) → Observes false P old mid → Observes fails Q mid new → Observes fails R old new
observes_more fails P Q R old mid new follows first second = record {
  told = keeps_more old.told mid.told new.told first.told second.told;
  counts = counts_more fails old mid new first.counts second.counts;
  holds = told_weaker old.told P Q R follows first.holds (told_before old.told mid.told Q first.told second.holds);
}
