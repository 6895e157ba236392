-- What calls of the disk do to its two counts.
use Rattle.std.proofs.Common.{◌≡◌, ◌≤◌, ℕ, List, sym, subst, inl, inr, arith, Option, None, Some}
use Rattle.std.specs.Prelude.{Bool, true, false, Result, Ok, Err}
use Rattle.rac_io.specs.Counts.{Rose}
use Rattle.rac_disk.specs.Content.{Content}
use Rattle.rac_disk.specs.State.{Change, CutTo, FailedOnce, FailsFor, HadFault, IsCalm, Makes, MetFull, Nothing, PutBehind, PutBlock, PutControl, State}
use Rattle.undo_segment.specs.Load.{CountsFor, Loads}
use Rattle.undo_segment.specs.declared.error.LoadError.{LoadError}
use Rattle.undo_segment.specs.declared.error.LoadError.TheVariants as error
use Rattle.disk_calls.specs.Calls.{AppendsAs, CutThen, CutsLogAs, GivesLengthAs, WritesBlockAs, WritesControlAs}
use Rattle.disk_calls.specs.declared.appends.Appended.{Appended}
use Rattle.disk_calls.specs.declared.appends.Appended.TheVariants.{Cut, Whole}
use Rattle.disk_calls.specs.declared.writes.Written.{Written}
use Rattle.disk_calls.specs.declared.writes.Written.TheVariants as written
use Rattle.thread_steps.specs.Observes.{Counts}
use Rattle.run_laws.specs.Ends.{HasRisen, IsLater}

-- the counts of one disk after another

pub same_later : (old new : State) → new ≡ old → IsLater old new
same_later old new same = subst (λ (s : State). IsLater old s) (sym same) (record { faults = omega arith; full = omega arith })

pub calm_later : (old new : State) → IsCalm old new → IsLater old new
calm_later old new calm = record { faults = omega arith; full = omega arith }

pub fault_later : (old new : State) → HadFault old new → IsLater old new
fault_later old new it = record { faults = it.later; full = omega arith }

full_later : (old new : State) → MetFull old new → IsLater old new
full_later old new it = record { faults = omega arith; full = it.later }

pub then_later : (old mid new : State) → IsLater old mid → IsLater mid new → IsLater old new
then_later old mid new before after = record { faults = omega arith; full = omega arith }

pub fault_risen : (old new : State) → HadFault old new → HasRisen old new
fault_risen old new it = inl it.rose

full_risen : (old new : State) → MetFull old new → HasRisen old new
full_risen old new it = inr it.rose

rose_more : (a b c : ℕ) → Rose a b → b ≤ c → Rose a c
rose_more a b c rose more = omega arith

rose_after : (a b c : ℕ) → a ≤ b → Rose b c → Rose a c
rose_after a b c more rose = omega arith

-- what rose stays so
pub risen_then : (old mid new : State) → HasRisen old mid → IsLater mid new → HasRisen old new
risen_then old mid new (inl rose) later = inl (rose_more old.faults mid.faults new.faults rose later.faults)
risen_then old mid new (inr rose) later = inr (rose_more old.full mid.full new.full rose later.full)

-- what rises later rose
pub then_risen : (old mid new : State) → IsLater old mid → HasRisen mid new → HasRisen old new
then_risen old mid new later (inl rose) = inl (rose_after old.faults mid.faults new.faults later.faults rose)
then_risen old mid new later (inr rose) = inr (rose_after old.full mid.full new.full later.full rose)

-- calls that make a change, or read

once_later : (old new : State) → FailedOnce old new → IsLater old new
once_later old new (inl it) = fault_later old new it
once_later old new (inr it) = full_later old new it

once_risen : (old new : State) → FailedOnce old new → HasRisen old new
once_risen old new (inl it) = fault_risen old new it
once_risen old new (inr it) = full_risen old new it

failed_once : (change : Change) (old new : State) → FailsFor change old new → FailedOnce old new
failed_once Nothing old new it = inl it
failed_once (PutBlock block bytes) old new it = inl it
failed_once (PutBehind thread bytes) old new (inl it) = inl it
failed_once (PutBehind thread bytes) old new (inr it) = inr it.0
failed_once (CutTo thread len) old new it = inl it
failed_once (PutControl thread bytes) old new it = inl it

pub makes_later : {T E : Type 0} (change : Change) (result : Result T E) (old new : State) → Makes change result old new → IsLater old new
makes_later {T = T} {E = E} change (Ok value) old new it = calm_later old new it.counts
makes_later {T = T} {E = E} change (Err why) old new it = once_later old new (failed_once change old new it.counts)

pub makes_risen : {T E : Type 0} (change : Change) (why : E) (old new : State) → Makes {T = T} {E = E} change (Err why) old new → HasRisen old new
makes_risen {T = T} {E = E} change why old new it = once_risen old new (failed_once change old new it.counts)

-- calls by their outcomes

pub length_later : (thread : ℕ) (length : Option ℕ) (old new : State) → GivesLengthAs thread length old new → IsLater old new
length_later thread None old new it = makes_later Nothing (Err 0) old new it.makes
length_later thread (Some length) old new it = makes_later Nothing (Ok length) old new it.makes

pub untold_risen : (thread : ℕ) (old new : State) → GivesLengthAs thread None old new → HasRisen old new
untold_risen thread old new it = makes_risen Nothing 0 old new it.makes

cut_later : (thread : ℕ) (bytes : List ℕ) (length : Option ℕ) (old new : State) → CutThen thread bytes length old new → IsLater old new
cut_later thread bytes length old new it =
    then_later old it.mid new (makes_later (PutBehind thread bytes) (Err 0) old it.mid it.appends) (length_later thread length it.mid new it.asks)

pub appends_later : (thread : ℕ) (bytes : List ℕ) (how : Appended) (old new : State) → AppendsAs thread bytes how old new → IsLater old new
appends_later thread bytes Whole old new it = makes_later (PutBehind thread bytes) (Ok 0) old new it
appends_later thread bytes (Cut length) old new it = cut_later thread bytes length old new it

pub cut_risen : (thread : ℕ) (bytes : List ℕ) (length : Option ℕ) (old new : State) → AppendsAs thread bytes (Cut length) old new → HasRisen old new
cut_risen thread bytes length old new it =
    risen_then old it.mid new (makes_risen (PutBehind thread bytes) 0 old it.mid it.appends) (length_later thread length it.mid new it.asks)

pub block_later : (block : ℕ) (bytes : List ℕ) (how : Written) (old new : State) → WritesBlockAs block bytes how old new → IsLater old new
block_later block bytes written.Done old new it = makes_later (PutBlock block bytes) (Ok 0) old new it
block_later block bytes written.Failed old new it = makes_later (PutBlock block bytes) (Err 0) old new it

pub block_risen : (block : ℕ) (bytes : List ℕ) (old new : State) → WritesBlockAs block bytes written.Failed old new → HasRisen old new
block_risen block bytes old new it = makes_risen (PutBlock block bytes) 0 old new it

pub control_later : (thread : ℕ) (bytes : List ℕ) (how : Written) (old new : State) → WritesControlAs thread bytes how old new → IsLater old new
control_later thread bytes written.Done old new it = makes_later (PutControl thread bytes) (Ok 0) old new it
control_later thread bytes written.Failed old new it = makes_later (PutControl thread bytes) (Err 0) old new it

pub control_risen : (thread : ℕ) (bytes : List ℕ) (old new : State) → WritesControlAs thread bytes written.Failed old new → HasRisen old new
control_risen thread bytes old new it = makes_risen (PutControl thread bytes) 0 old new it

pub log_later : (thread length : ℕ) (how : Written) (old new : State) → CutsLogAs thread length how old new → IsLater old new
log_later thread length written.Done old new it = makes_later (CutTo thread length) (Ok 0) old new it
log_later thread length written.Failed old new it = makes_later (CutTo thread length) (Err 0) old new it

pub log_risen : (thread length : ℕ) (old new : State) → CutsLogAs thread length written.Failed old new → HasRisen old new
log_risen thread length old new it = makes_risen (CutTo thread length) 0 old new it

-- loads, and reads that only look

load_later : (why : LoadError) (old new : State) → CountsFor why old new → IsLater old new
load_later error.Failed old new it = fault_later old new it
load_later (error.Bad block field) old new it = calm_later old new it
load_later error.NoMemory old new it = calm_later old new it

pub loads_later : {T : Type 0} (Gives : T → Content → Type 0) (IsBad : ℕ → Content → Type 0) (result : Result T LoadError) (old new : State)
    → Loads Gives IsBad result old new → IsLater old new
loads_later {T = T} Gives IsBad (Ok value) old new it = calm_later old new it.counts
loads_later {T = T} Gives IsBad (Err why) old new it = load_later why old new it.counts

pub loads_risen : {T : Type 0} (Gives : T → Content → Type 0) (IsBad : ℕ → Content → Type 0) (old new : State)
    → Loads Gives IsBad (Err error.Failed) old new → HasRisen old new
loads_risen {T = T} Gives IsBad old new it = fault_risen old new it.counts

pub counts_later : (fails : Bool) (old new : State) → Counts fails old new → IsLater old new
counts_later true old new it = fault_later old new it
counts_later false old new it = calm_later old new it
