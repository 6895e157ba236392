-- What each call of a shared disk does. `old` and `new` are what the disk tells and counts before and after the call.
use Rattle.std.specs.Prelude.{◌≡◌, ◌≤◌, ◌-◌, ℕ, List, length, take, drop, min, Result, IfOk}
use Rattle.rac_disk.specs.Content.{block_at, log_at, control_at}
use Rattle.rac_disk.specs.State.{State, PutBlock, PutBehind, CutTo, PutControl, Makes, Reads}

-- A read of a block gives the block's bytes.
abbrev pub ReadsBlock : {T E : Type 0} → ℕ → List ℕ → Result T E → State → State → Type 0
ReadsBlock block out result old new = Reads (λ _ it. out ≡ block_at it block) result old new

-- A write of a block leaves these bytes in it, and all else as it was.
abbrev pub WritesBlock : {T E : Type 0} → ℕ → List ℕ → Result T E → State → State → Type 0
WritesBlock block bytes result old new = Makes (PutBlock block bytes) result old new

-- An append leaves these bytes behind the log, and all else as it was.
abbrev pub Appends : {T E : Type 0} → ℕ → List ℕ → Result T E → State → State → Type 0
Appends thread bytes result old new = Makes (PutBehind thread bytes) result old new

-- A cut leaves the first bytes of the log, so many, and all else as it was.
abbrev pub CutsLog : {T E : Type 0} → ℕ → ℕ → Result T E → State → State → Type 0
CutsLog thread len result old new = Makes (CutTo thread len) result old new

-- A question for a log's length gives the number of its bytes.
abbrev pub GivesLength : {E : Type 0} → ℕ → Result ℕ E → State → State → Type 0
GivesLength thread result old new = Reads (λ len it. len ≡ length (log_at it thread)) result old new

-- A read of a log gives, at the front of the room, as many bytes as stand from a place on and as fit.
pub record ReadsLog {E : Type 0} (thread at : ℕ) (out : List ℕ) (result : Result ℕ E) (old new : State) : Type 0 where
  pub within : IfOk result (λ count. count ≤ length out)
  pub reads : Reads
      (λ count it. (count ≡ min (length (log_at it thread) - at) (length out))
      × (take count out ≡ take count (drop at (log_at it thread))))
      result old new

-- A read of a control entry gives the entry's bytes.
abbrev pub ReadsControl : {T E : Type 0} → ℕ → List ℕ → Result T E → State → State → Type 0
ReadsControl thread out result old new = Reads (λ _ it. out ≡ control_at it thread) result old new

-- A write of a control entry leaves these bytes in it, and all else as it was.
abbrev pub WritesControl : {T E : Type 0} → ℕ → List ℕ → Result T E → State → State → Type 0
WritesControl thread bytes result old new = Makes (PutControl thread bytes) result old new
