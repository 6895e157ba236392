-- The board: the redo records of all instances in the order made, the newest first, told without bytes; what stands of
-- them, in all and in one row, and what of it is seen.
use Rattle.std.specs.Prelude.{ℕ, ◌<◌, ◌≤◌, ◌≡◌, ◌⊎◌, Bool, false, if◌then◌else◌, ◌==◌, ◌&&◌, nat_le, List, [], ◌∷◌, Option, Some, None, max, true, map, IsSomeAnd}
use Rattle.std.specs.List.{filter, AllByRecursion}
use Rattle.board_rows.specs.Words.{Xid, Deed, same_xid, row_of, Past, Committed, Change, changes_of, Commit, entered, changes_up_to}

-- A record with its SCN and its transaction. A change or a lock has its number in the segment; a step back says
-- which one it takes back. Changes, locks and commits are in the thread of their segment, the others in thread inst.
pub data Record : Type 0 where
  Does : (scn : ℕ) (xid : Xid) (seq : ℕ) (deed : Deed) → Record
  TakesBack : (inst scn : ℕ) (xid : Xid) (seq row : ℕ) → Record
  Commits : (scn : ℕ) (xid : Xid) → Record
  RollsBack : (inst scn : ℕ) (xid : Xid) → Record

-- the thread that a record is in
abbrev pub thread_of : Record → ℕ
thread_of (Does scn xid seq deed) = xid.seg
thread_of (TakesBack inst scn xid seq row) = inst
thread_of (Commits scn xid) = xid.seg
thread_of (RollsBack inst scn xid) = inst

-- its SCN
abbrev pub scn_of : Record → ℕ
scn_of (Does scn xid seq deed) = scn
scn_of (TakesBack inst scn xid seq row) = scn
scn_of (Commits scn xid) = scn
scn_of (RollsBack inst scn xid) = scn

-- the transaction that it is of
abbrev pub xid_of : Record → Xid
xid_of (Does scn xid seq deed) = xid
xid_of (TakesBack inst scn xid seq row) = xid
xid_of (Commits scn xid) = xid
xid_of (RollsBack inst scn xid) = xid

-- whether a record changes, locks or gives back a row
abbrev pub touches : ℕ → Record → Bool
touches row (Does scn xid seq deed) = row_of deed == row
touches row (TakesBack inst scn xid seq place) = place == row
touches row _ = false

-- a change or lock on the board
pub record DeedAt : Type 0 where
  pub xid : Xid
  pub seq : ℕ
  pub scn : ℕ
  pub deed : Deed

-- all but the one that a step back names
abbrev pub without : Xid → ℕ → ℕ → List DeedAt → List DeedAt
without xid seq row [] = []
without xid seq row (m ∷ deeds) = if same_xid xid m.xid && (seq == m.seq && row == row_of m.deed) then deeds else m ∷ without xid seq row deeds

-- a record adds the deed that it makes, and takes away the one that it steps back over
abbrev pub stands_after : Record → List DeedAt → List DeedAt
stands_after (Does scn xid seq deed) deeds = record { xid = xid; seq = seq; scn = scn; deed = deed } ∷ deeds
stands_after (TakesBack inst scn xid seq row) deeds = without xid seq row deeds
stands_after _ deeds = deeds

-- the changes and locks that stand, of all rows and transactions, the newest first
abbrev pub stands : List Record → List DeedAt
stands [] = []
stands (r ∷ older) = stands_after r (stands older)

-- those of a transaction
abbrev pub of_xid : Xid → List DeedAt → List DeedAt
of_xid xid deeds = filter (λ m. same_xid xid m.xid) deeds

-- A transaction has no record yet, or no end yet, or it is over: by a commit at an SCN, or rolled back.
pub data Stage : Type 0 where
  Fresh : Stage
  Active : Stage
  Over : (commit : Option ℕ) → Stage

-- which of these it is
abbrev pub stage : Xid → List Record → Stage
stage xid [] = Fresh
stage xid (Does scn other seq deed ∷ older) = if same_xid xid other then Active else stage xid older
stage xid (Commits scn other ∷ older) = if same_xid xid other then Over (Some scn) else stage xid older
stage xid (RollsBack inst scn other ∷ older) = if same_xid xid other then Over None else stage xid older
stage xid (_ ∷ older) = stage xid older

-- the SCN of a commit that has entered, where the records of its thread have up to an SCN
abbrev pub durable_commit : ℕ → Stage → Option ℕ
durable_commit upto (Over (Some scn)) = if nat_le scn upto then Some scn else None
durable_commit upto _ = None

-- a fact of each element of a list and of those under it
abbrev pub EachOver : {A : Type 0} → (A → List A → Type 0) → List A → Type 0
EachOver P [] = Unit {0}
EachOver P (x ∷ under) = P x under × EachOver P under

-- a fact of each element of a list and each one under it
abbrev pub EachPair : {A : Type 0} → (A → A → Type 0) → List A → Type 0
EachPair R = EachOver (λ x. AllByRecursion (R x))

-- a fact of the board and of each earlier one
abbrev pub EachSuffix : (List Record → Type 0) → List Record → Type 0
EachSuffix P [] = P []
EachSuffix P (r ∷ older) = P (r ∷ older) × EachSuffix P older

-- the SCNs of a thread's records rise
abbrev pub Rising : List Record → Type 0
Rising = EachPair (λ r o. thread_of o ≡ thread_of r → scn_of o < scn_of r)

-- a record in the thread of its transaction's segment, or one that has entered
abbrev pub IsSafe : (ℕ → ℕ) → Record → Type 0
IsSafe durable r = (thread_of r ≡ (xid_of r).seg) ⊎ (scn_of r ≤ durable (thread_of r))

-- a fact of a record that is for the segment of a change or lock, in whichever thread
abbrev pub ForSegment : (Record → Type 0) → Record → Record → Type 0
ForSegment P (Does scn xid seq deed) o = (xid_of o).seg ≡ xid.seg → P o
ForSegment P _ o = Unit {0}

-- the deeds of a segment that have a record, the newest first
abbrev pub recorded_in : ℕ → List Record → List (Xid × Deed)
recorded_in inst [] = []
recorded_in inst (Does scn xid seq deed ∷ older) = if inst == xid.seg then (xid, deed) ∷ recorded_in inst older else recorded_in inst older
recorded_in inst (_ ∷ older) = recorded_in inst older

-- the greatest wrap of a slot that has a record
abbrev pub wrap_in : ℕ → ℕ → List Record → ℕ
wrap_in seg slot [] = 0
wrap_in seg slot (Does scn xid seq deed ∷ older) =
    if seg == xid.seg && slot == xid.slot then max xid.wrap (wrap_in seg slot older) else wrap_in seg slot older
wrap_in seg slot (_ ∷ older) = wrap_in seg slot older

-- whether a change or lock is on a row
abbrev pub on : ℕ → DeedAt → Bool
on row m = row_of m.deed == row

-- what they did
abbrev pub deeds_in : List DeedAt → List Deed
deeds_in deeds = map (λ m. m.deed) deeds

-- the deeds on a row by the transactions that a test admits, the newest first
abbrev pub shown : ℕ → (Xid → Bool) → List DeedAt → List Deed
shown row test [] = []
shown row test (m ∷ deeds) = if on row m && test m.xid then m.deed ∷ shown row test deeds else shown row test deeds

-- the changes of a row
abbrev pub on_row : ℕ → List Change → List Change
on_row row changes = filter (λ change. change.row == row) changes

-- the SCN of the commit that a journal tells
abbrev pub committed_at : Xid → Past → Option ℕ
committed_at xid [] = None
committed_at xid (Committed other scn inst ∷ past) = if same_xid xid other then Some scn else committed_at xid past
committed_at xid (_ ∷ past) = committed_at xid past

-- whether there is a commit up to an SCN
abbrev pub is_up_to : ℕ → Option ℕ → Bool
is_up_to snapshot None = false
is_up_to snapshot (Some scn) = nat_le scn snapshot

-- whether a transaction has committed up to an SCN
abbrev pub seen_at : ℕ → (Xid → Option ℕ) → Xid → Bool
seen_at snapshot committed xid = is_up_to snapshot (committed xid)

-- Under a change stand, on its row, only changes of its own transaction and of those that committed below its SCN.
abbrev pub IsOver : (Xid → Option ℕ) → DeedAt → DeedAt → Type 0
IsOver committed m o = on (row_of m.deed) o ≡ true → same_xid m.xid o.xid ≡ false → IsSomeAnd (committed o.xid) (λ scn. scn < m.scn)

-- each deed stands so over those under it
abbrev pub Ordered : (Xid → Option ℕ) → List DeedAt → Type 0
Ordered committed = EachPair (IsOver committed)

-- The table at an SCN is what stands of the transactions that committed up to it.
abbrev pub TableStands : (Xid → Option ℕ) → List Commit → List DeedAt → Type 0
TableStands committed commits deeds = (snapshot row : ℕ) →
    on_row row (changes_up_to snapshot commits) ≡ changes_of (shown row (seen_at snapshot committed) deeds)

-- a commit of the history is what stands of its transaction
abbrev pub IsMade : (Xid → Option ℕ) → List DeedAt → Commit → Type 0
IsMade committed deeds commit = (committed commit.xid ≡ Some commit.commit_scn) × (commit.changes ≡ changes_of (deeds_in (of_xid commit.xid deeds)))

-- a commit by its record, where these are the records before it
abbrev pub commit_of : ℕ → Xid → List Record → Commit
commit_of scn xid older = record { commit_scn = scn; inst = xid.seg; xid = xid; changes = changes_of (deeds_in (of_xid xid (stands older))) }

-- The history that the logs tell: the commits whose records are durable, each with what then stood of it.
abbrev pub logged : (ℕ → ℕ) → List Record → List Commit
logged durable [] = []
logged durable (Commits scn xid ∷ older) =
    if nat_le scn (durable xid.seg) then entered (commit_of scn xid older) (logged durable older) else logged durable older
logged durable (_ ∷ older) = logged durable older

-- a deed on a row is of a transaction, or of one that has committed up to an SCN
abbrev pub IsFree : (Xid → Option ℕ) → ℕ → Xid → ℕ → DeedAt → Type 0
IsFree committed snapshot xid row o = on row o ≡ true → (o.xid ≡ xid) ⊎ IsSomeAnd (committed o.xid) (λ scn. scn ≤ snapshot)

-- the newest deed on a row is
abbrev pub NewestIsFree : (Xid → Option ℕ) → ℕ → Xid → ℕ → List DeedAt → Type 0
NewestIsFree committed snapshot xid row [] = Unit {0}
NewestIsFree committed snapshot xid row (m ∷ deeds) =
    IsFree committed snapshot xid row m × (on row m ≡ false → NewestIsFree committed snapshot xid row deeds)

-- under each deed of a transaction all on its row are
abbrev pub FreeUnder : (Xid → Option ℕ) → ℕ → Xid → List DeedAt → Type 0
FreeUnder committed snapshot xid = EachPair (λ m o. same_xid xid m.xid ≡ true → IsFree committed snapshot xid (row_of m.deed) o)
