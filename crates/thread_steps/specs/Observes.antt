-- What calls that only read tell of the disk.
use Rattle.std.specs.Prelude.{Bool, true, false, IfSome, Result, Ok, Err}
use Rattle.rac_disk.specs.Content.{Content}
use Rattle.rac_disk.specs.State.{HadFault, IsCalm, State}
use Rattle.undo_segment.specs.declared.error.LoadError.{LoadError}
use Rattle.undo_segment.specs.declared.error.LoadError.TheVariants as load
use Rattle.undo_segment.specs.Load.{Keeps}
use Rattle.thread_steps.specs.declared.read_error.ReadError.{ReadError}
use Rattle.thread_steps.specs.declared.read_error.ReadError.TheVariants.{Bad, Failed, NoMemory}

-- a fault is counted where a call fails, and nothing else
abbrev pub Counts : Bool → State → State → Type 0
Counts true old new = HadFault old new
Counts false old new = IsCalm old new

-- Calls that only read change nothing of the disk, and count a fault exactly where one of them fails. Where the disk tells
-- what it holds, this is so of it.
pub record Observes (fails : Bool) (Holds : Content → Type 0) (old new : State) : Type 0 where
  pub told : Keeps old.told new.told
  pub counts : Counts fails old new
  pub holds : IfSome old.told Holds

-- A call failed.
abbrev pub has_failed : {T : Type 0} → Result T ReadError → Bool
has_failed (Err Failed) = true
has_failed _ = false

-- what the disk holds where something was read, or where it is bad
abbrev pub GivesOr : {T : Type 0} → (T → Content → Type 0) → (Content → Type 0) → Result T ReadError → Content → Type 0
GivesOr Gives IsBad (Ok value) it = Gives value it
GivesOr Gives IsBad (Err Bad) it = IsBad it
GivesOr Gives IsBad (Err Failed) it = Unit {0}
GivesOr Gives IsBad (Err NoMemory) it = Unit {0}

-- Something is looked for on the disk, by calls that only read.
abbrev pub Finds : {T : Type 0} → (T → Content → Type 0) → (Content → Type 0) → Result T ReadError → State → State → Type 0
Finds Gives IsBad result old new = Observes (has_failed result) (GivesOr Gives IsBad result) old new

-- why something wasn't read, as one block of it wasn't
abbrev pub error_of : LoadError → ReadError
error_of load.Failed = Failed
error_of (load.Bad block field) = Bad
error_of load.NoMemory = NoMemory
