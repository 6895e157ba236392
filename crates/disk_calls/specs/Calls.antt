-- How a call of the disk went.
use Rattle.std.specs.Prelude.{◌≡◌, ℕ, Bool, true, false, List, Option, None, Some, Result, Ok, Err}
use Rattle.rac_disk.specs.Calls.{Appends, CutsLog, GivesLength, WritesBlock, WritesControl}
use Rattle.rac_disk.specs.State.{State}
use Rattle.disk_calls.specs.declared.appends.Appended.{Appended}
use Rattle.disk_calls.specs.declared.appends.Appended.TheVariants.{Cut, Whole}
use Rattle.disk_calls.specs.declared.writes.Written.{Written}
use Rattle.disk_calls.specs.declared.writes.Written.TheVariants.{Done, Failed}

-- a call that was done
abbrev pub done : Result ℕ ℕ
done = Ok 0

-- a call that failed
abbrev pub failed : Result ℕ ℕ
failed = Err 0

-- how a call went that is to leave something on the disk
abbrev pub result_of : Written → Result ℕ ℕ
result_of Done = done
result_of Failed = failed

-- what a question for a log's length gave
abbrev pub length_of : Option ℕ → Result ℕ ℕ
length_of (Some length) = Ok length
length_of None = failed

-- After an append that failed the length of the log is asked for.
pub record CutThen (thread : ℕ) (bytes : List ℕ) (length : Option ℕ) (old new : State) : Type 0 where
  pub mid : State
  pub appends : Appends thread bytes failed old mid
  pub asks : GivesLength thread (length_of length) mid new

-- What an append left that went so.
abbrev pub AppendsAs : ℕ → List ℕ → Appended → State → State → Type 0
AppendsAs thread bytes Whole old new = Appends thread bytes done old new
AppendsAs thread bytes (Cut length) old new = CutThen thread bytes length old new

-- What a write of a block left that went so.
abbrev pub WritesBlockAs : ℕ → List ℕ → Written → State → State → Type 0
WritesBlockAs block bytes how old new = WritesBlock block bytes (result_of how) old new

-- What a write of a control entry left that went so.
abbrev pub WritesControlAs : ℕ → List ℕ → Written → State → State → Type 0
WritesControlAs thread bytes how old new = WritesControl thread bytes (result_of how) old new

-- What a cut of a log left that went so.
abbrev pub CutsLogAs : ℕ → ℕ → Written → State → State → Type 0
CutsLogAs thread length how old new = CutsLog thread length (result_of how) old new

-- What a question for a log's length left that gave this.
abbrev pub GivesLengthAs : ℕ → Option ℕ → State → State → Type 0
GivesLengthAs thread length old new = GivesLength thread (length_of length) old new
