-- What a shared disk tells and counts, and what a call may do to both.
use Rattle.std.specs.Prelude.{◌≡◌, ◌≤◌, ◌<◌, ◌+◌, ℕ, List, ◌++◌, length, take, Option, None, Some, IfSome, Result, MatchResult, ◌⊎◌, ⊤}
use Rattle.rac_io.specs.Counts.{Rose}
use Rattle.rac_disk.specs.Content.{Content, IsDisk, log_at, room_at, with_block, with_log, with_control}

-- A disk as its calls meet it: what it holds, where it tells that; how often a call has failed by a fault, and how
-- often an append has failed since a log had no room.
pub record State : Type 0 where
  pub told : Option Content
  pub faults : ℕ
  pub full : ℕ

-- what a call is to change
pub data Change : Type 0 where
  Nothing : Change
  PutBlock : (block : ℕ) (bytes : List ℕ) → Change
  PutBehind : (thread : ℕ) (bytes : List ℕ) → Change
  CutTo : (thread len : ℕ) → Change
  PutControl : (thread : ℕ) (bytes : List ℕ) → Change

-- what the disk holds with the change made
abbrev pub changed : Change → Content → Content
changed Nothing it = it
changed (PutBlock block bytes) it = with_block it block bytes
changed (PutBehind thread bytes) it = with_log it thread (log_at it thread ++ bytes)
changed (CutTo thread len) it = with_log it thread (take len (log_at it thread))
changed (PutControl thread bytes) it = with_control it thread bytes

-- What a failed call may leave: all as it was, or the whole change, or of an append some first bytes.
abbrev pub MayLeave : Change → Content → Content → Type 0
MayLeave Nothing old new = new ≡ old
MayLeave (PutBehind thread bytes) old new =
    (count : ℕ) × (count ≤ length bytes) × (new ≡ changed (PutBehind thread (take count bytes)) old)
MayLeave change old new = (new ≡ old) ⊎ (new ≡ changed change old)

-- A call that is done leaves the change made.
abbrev pub Leaves : {T E : Type 0} → Change → Result T E → Content → Content → Type 0
Leaves change result old new = MatchResult result (λ _. new ≡ changed change old) (λ _. MayLeave change old new)

-- A disk that told what it holds before a call tells it after the call, and the call did this to it.
abbrev pub WhereTold : Option Content → Option Content → (Content → Content → Type 0) → Type 0
WhereTold None new Did = ⊤
WhereTold (Some old) None Did = ⊥
WhereTold (Some old) (Some new) Did = IsDisk old × IsDisk new × Did old new

-- no call failed
pub record IsCalm (old new : State) : Type 0 where
  pub faults : new.faults ≡ old.faults
  pub full : new.full ≡ old.full

-- a fault was counted: its count rose, or stands at its end
pub record HadFault (old new : State) : Type 0 where
  pub later : old.faults ≤ new.faults
  pub rose : Rose old.faults new.faults
  pub full : new.full ≡ old.full

-- a full log was counted: its count rose, or stands at its end
pub record MetFull (old new : State) : Type 0 where
  pub later : old.full ≤ new.full
  pub rose : Rose old.full new.full
  pub faults : new.faults ≡ old.faults

-- a call failed, and one of the two counts says so
abbrev pub FailedOnce : State → State → Type 0
FailedOnce old new = HadFault old new ⊎ MetFull old new

-- a thread's log has no room for so many more bytes, where the disk tells it
abbrev pub LacksRoom : Option Content → ℕ → ℕ → Type 0
LacksRoom told thread more = IfSome told (λ it. room_at it thread < length (log_at it thread) + more)

-- Why a call may fail: by a fault, and an append also since its bytes have no room behind the log.
abbrev pub FailsFor : Change → State → State → Type 0
FailsFor (PutBehind thread bytes) old new =
    HadFault old new ⊎ (MetFull old new × LacksRoom old.told thread (length bytes))
FailsFor change old new = HadFault old new

-- A call that was to make a change: what it left, and what it counted.
pub record Makes {T E : Type 0} (change : Change) (result : Result T E) (old new : State) : Type 0 where
  pub disk : WhereTold old.told new.told (Leaves change result)
  pub counts : MatchResult result (λ _. IsCalm old new) (λ _. FailsFor change old new)

-- A call that was to read: it changed nothing, and where it is done it gave what the disk holds.
pub record Reads {T E : Type 0} (Gives : T → Content → Type 0) (result : Result T E) (old new : State) : Type 0 where
  pub makes : Makes Nothing result old new
  pub gives : MatchResult result (λ value. IfSome old.told (Gives value)) (λ _. ⊤)
