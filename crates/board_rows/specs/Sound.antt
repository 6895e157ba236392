-- What holds of the board after every event.
use Rattle.std.specs.Prelude.{ℕ, ◌+◌, ◌≡◌, ◌≢◌, ◌<◌, ◌≤◌, ◌⊎◌, Bool, true, false, List, [], Option, Some, None, IsSomeAnd, suc, if◌then◌else◌, ◌==◌, ◌∷◌, ◌++◌, length}
use Rattle.std.specs.List.{AllByRecursion}
use Rattle.board_rows.specs.Words.{Xid, Value, Entry, Rows, Changed, Past, Each, start_of, home_of, is_up, Change, Deed, row_of, changes_of, standing, is_open, Commit, history, marked, sees, last_of, stood, is_mark, is_commit_by, acked_up_to, started_up_to, came_up, Range, listed, GoodRows, GoodJournal, Replays, Locked, Marked, Rolled, same_xid, is_loss_of, Changes, Locks}
use Rattle.board_rows.specs.Board.{Record, Does, Commits, RollsBack, thread_of, scn_of, xid_of, stands, of_xid, Stage, Fresh, Active, Over, stage, durable_commit, EachSuffix, EachOver, EachPair, Rising, IsSafe, ForSegment, deeds_in, committed_at, recorded_in, wrap_in, Ordered, TableStands, IsMade, FreeUnder, logged}
use Rattle.board_rows.specs.Events.{Board, Scan, IsLate}

-- The SCNs of a thread rise, and no clock is behind what its instance knows and has made.
pub record Clocks (records : List Record) (clock known durable : ℕ → ℕ) : Type 0 where
  pub knows : (inst : ℕ) → known inst ≤ clock inst
  pub lasts : (inst : ℕ) → durable inst ≤ clock inst
  pub drawn : AllByRecursion (λ r. scn_of r ≤ clock (thread_of r)) records
  pub rising : Rising records

-- the records of a committed transaction are below its commit
abbrev pub EndsBy : Stage → Record → Type 0
EndsBy st (Commits scn xid) = st ≡ Over (Some scn)
EndsBy st (RollsBack inst scn xid) = Unit {0}
EndsBy st r = (commit_scn : ℕ) → st ≡ Over (Some commit_scn) → scn_of r < commit_scn

-- a change or lock may be a transaction's first record, and no record follows its end
abbrev pub MayFollow : Record → Stage → Type 0
MayFollow r (Over o) = ⊥
MayFollow r Active = Unit {0}
MayFollow (Does scn xid seq deed) Fresh = Unit {0}
MayFollow r Fresh = ⊥

-- each record may follow those before it
abbrev pub Follows : List Record → Type 0
Follows = EachOver (λ r older. MayFollow r (stage (xid_of r) older))

-- a transaction that is open or has its commit record
abbrev pub CanCommit : Bool → Stage → Type 0
CanCommit live (Over (Some scn)) = Unit {0}
CanCommit live (Over None) = ⊥
CanCommit live _ = live ≡ true

-- what is said of a transaction: its stage and deeds on the board; its deeds, whether it is open, marks and commit in the journal
pub record TxnAgrees (st : Stage) (deeds stand : List Deed) (live : Bool) (mark : ℕ → List Change) (has_mark : ℕ → Bool)
    (committed : Option ℕ) (upto : ℕ) : Type 0 where
  pub active : live ≡ true → st ≡ Active
  pub stands : (live ≡ true) ⊎ (st ≡ Fresh) → stand ≡ deeds
  pub marks : (scn : ℕ) → st ≡ Over (Some scn) → (mark scn ≡ changes_of deeds) × (has_mark scn ≡ true)
  pub commits : committed ≡ durable_commit upto st
  pub rolled : st ≡ Over None → deeds ≡ []

-- what a record of a board says of its transaction
pub record RecordIsIn (records : List Record) (live : Xid → Bool) (r : Record) : Type 0 where
  pub ends : EndsBy (stage (xid_of r) records) r
  pub own : CanCommit (live (xid_of r)) (stage (xid_of r) records) → thread_of r ≡ (xid_of r).seg

-- A transaction is on the board what it is in the journal.
pub record Txns (records : List Record) (durable : ℕ → ℕ) (stand : Xid → List Deed) (live : Xid → Bool)
    (mark : Xid → ℕ → List Change) (has_mark : Xid → ℕ → Bool) (committed : Xid → Option ℕ) (has_commit : ℕ → ℕ → Bool) : Type 0 where
  pub each : (xid : Xid) → TxnAgrees (stage xid records) (deeds_in (of_xid xid (stands records)))
      (stand xid) (live xid) (mark xid) (has_mark xid) (committed xid) (durable xid.seg)
  pub each_record : AllByRecursion (RecordIsIn records live) records
  pub follows : Follows records
  pub apart : (scn inst : ℕ) → durable inst < scn → has_commit scn inst ≡ false

-- The transactions of an instance that is up are open until they end, and those of one that is down aren't open; what
-- other threads have for the segment of an instance that is up has entered. Under a change or lock each record that
-- another thread has for its segment has entered, so no loss takes it away.
pub record Segments (records : List Record) (durable : ℕ → ℕ) (live : Xid → Bool) (up : ℕ → Bool) : Type 0 where
  pub lives : (xid : Xid) → live xid ≡ true → up xid.seg ≡ true
  pub active : (xid : Xid) → stage xid records ≡ Active → up xid.seg ≡ true → live xid ≡ true
  pub safe : AllByRecursion (λ r. up (xid_of r).seg ≡ true → IsSafe durable r) records
  pub under : EachPair (ForSegment (IsSafe durable)) records

-- A session's last transaction has begun, on its instance, and is no other session's.
pub record Sessions (stage_of : Xid → Stage) (last : ℕ → Option Xid) (home : ℕ → Option ℕ) : Type 0 where
  pub used : (session : ℕ) (xid : Xid) → last session ≡ Some xid → stage_of xid ≢ Fresh
  pub single : (other session : ℕ) (xid : Xid) → last other ≡ Some xid → last session ≡ Some xid → other ≡ session
  pub at_home : (session : ℕ) (xid : Xid) → last session ≡ Some xid → home session ≡ Some xid.seg

-- the deeds of a segment, with one more entry
abbrev pub told_after : ℕ → Entry → List (Xid × Deed) → List (Xid × Deed)
told_after inst (Changed stmt xid row found new) before =
    if inst == xid.seg then (xid, Changes (record { row = row; found = found; new = new })) ∷ before else before
told_after inst (Locked stmt xid row) before = if inst == xid.seg then (xid, Locks row) ∷ before else before
told_after inst _ before = before

-- the deeds of a segment that a journal tells, the newest first
abbrev pub told_in : ℕ → Past → List (Xid × Deed)
told_in inst [] = []
told_in inst (e ∷ past) = told_after inst e (told_in inst past)

-- those since its instance was last lost
abbrev pub since_loss : ℕ → Past → List (Xid × Deed)
since_loss inst [] = []
since_loss inst (e ∷ past) = if is_loss_of inst e then [] else told_after inst e (since_loss inst past)

-- a change entry of a transaction
abbrev pub is_deed_of : Xid → Entry → Bool
is_deed_of xid (Changed stmt other row found new) = same_xid xid other
is_deed_of xid (Locked stmt other row) = same_xid xid other
is_deed_of xid _ = false

-- whether a transaction was marked or rolled back since its instance was last lost
abbrev pub has_end : Xid → Past → Bool
has_end xid [] = false
has_end xid (Marked stmt other commit_scn ∷ past) = if same_xid xid other then true else has_end xid past
has_end xid (Rolled other ∷ past) = if same_xid xid other then true else has_end xid past
has_end xid (e ∷ past) = if is_loss_of xid.seg e then false else has_end xid past

-- the deeds of a segment bear the numbers 1, 2, .. in the order made
abbrev pub IsNumbered : Record → List Record → Type 0
IsNumbered (Does scn xid seq deed) older = seq ≡ suc (length (recorded_in xid.seg older))
IsNumbered _ older = Unit {0}

-- a list stands within another, in the same order
abbrev pub IsWithin : List (Xid × Deed) → List (Xid × Deed) → Type 0
IsWithin [] told = Unit {0}
IsWithin (deed ∷ deeds) [] = ⊥
IsWithin (deed ∷ deeds) (first ∷ told) = ((deed ≡ first) × IsWithin deeds told) ⊎ IsWithin (deed ∷ deeds) told

-- The numbers of a segment's deeds, in the records and in the journal, and the wraps of its slots; who has ended since
-- the loss of its instance has a record.
pub record Numbers (records : List Record) (told since : ℕ → List (Xid × Deed)) (has_deed has_end : Xid → Bool) : Type 0 where
  pub numbered : EachOver IsNumbered records
  pub newest : (inst : ℕ) → (rest : List (Xid × Deed)) × (recorded_in inst records ≡ since inst ++ rest)
  pub within : (inst : ℕ) → IsWithin (recorded_in inst records) (told inst)
  pub wraps : (xid : Xid) → 0 < xid.wrap → xid.wrap ≤ wrap_in xid.seg xid.slot records → has_deed xid ≡ true
  pub ended : (xid : Xid) → has_end xid ≡ true → stage xid records ≢ Fresh

-- What stands in the rows is what has committed, and replays: the table is what stands of the commits.
pub record RowsStand (records : List Record) (committed : Xid → Option ℕ) (commits : List Commit) : Type 0 where
  pub order : EachSuffix (λ older. Ordered committed (stands older)) records
  pub deeds_replay : EachSuffix (λ older. Replays (changes_of (deeds_in (stands older)))) records
  pub table : TableStands committed commits (stands records)
  pub made : AllByRecursion (IsMade committed (stands records)) commits

-- No commit will change what was read: what stands in a row and isn't committed commits above each SCN that it was read at.
abbrev pub RowsAreLate : List Record → (ℕ → ℕ) → (ℕ → ℕ) → (Xid → Bool) → (Xid → Option ℕ) → Type 0
RowsAreLate records clock floor live committed = AllByRecursion (λ m. committed m.xid ≡ None →
    IsLate (floor (row_of m.deed)) (live m.xid) (stage m.xid records) (clock m.xid.seg)) (stands records)

-- starts are at or above what was answered before
pub record Starts (insts : ℕ) (known : ℕ → ℕ) (home : ℕ → Option ℕ) (started : ℕ → ℕ) (came : ℕ → Bool) (up : ℕ → Bool) (acked : ℕ) : Type 0 where
  pub acks : (inst : ℕ) → inst < insts → up inst ≡ true → acked ≤ known inst
  pub starts : (session inst : ℕ) → home session ≡ Some inst → came session ≡ false → up inst ≡ true → started session ≤ known inst
  pub unopened : (session : ℕ) → home session ≡ None → started session ≡ 0
  pub homes : (session inst : ℕ) → home session ≡ Some inst → inst < insts

-- rows were read at an SCN
abbrev pub AreRead : (ℕ → ℕ) → ℕ → ℕ → ℕ → Type 0
AreRead floor snapshot first count = (row : ℕ) → first ≤ row → row < first + count → snapshot ≤ floor row

-- the rows that an entry tells of were read at the SCN of its statement
abbrev pub IsRead : (ℕ → Option Range) → (ℕ → ℕ) → Past → Entry → Type 0
IsRead asked floor past (Rows stmt rows) = IsSomeAnd (asked stmt) (λ range. IsSomeAnd (start_of stmt past) (λ start.
    AreRead floor start.snapshot range.first range.count))
IsRead asked floor past (Changed stmt xid row found new) = IsSomeAnd (start_of stmt past) (λ start. start.snapshot ≤ floor row)
IsRead asked floor past _ = Unit {0}

-- what a session has read is what it sees
pub record ScanIsSeen (floor : ℕ → ℕ) (scan : Scan) (value : ℕ → ℕ → Value) : Type 0 where
  pub seen : scan.rows ≡ listed (value scan.snapshot) scan.first scan.count
  pub read : AreRead floor scan.snapshot scan.first scan.count

-- What was answered was read, and what is being read is what sessions see.
pub record Answers (asked : ℕ → Option Range) (floor : ℕ → ℕ) (scan : ℕ → Scan) (past : Past) (commits : List Commit) : Type 0 where
  pub read : Each (IsRead asked floor) past
  pub scans : (session : ℕ) → ScanIsSeen floor (scan session) (λ snapshot. sees commits past (record { session = session; snapshot = snapshot }))

-- What holds of a board after every run, where statements ask for these rows and there are so many instances.
pub record Sound (asked : ℕ → Option Range) (insts : ℕ) (board : Board) : Type 0 where
  pub clocks : Clocks board.records board.clock board.known board.durable
  pub txns : Txns board.records board.durable (λ xid. standing xid board.past) (λ xid. is_open xid board.past)
      (λ xid scn. marked xid scn board.past) (λ xid scn. stood (is_mark xid scn) board.past)
      (λ xid. committed_at xid board.past) (λ scn inst. stood (is_commit_by scn inst) board.past)
  pub sessions : Sessions (λ xid. stage xid board.records) (λ session. last_of session board.past) (λ session. home_of session board.past)
  pub segments : Segments board.records board.durable (λ xid. is_open xid board.past) (λ inst. is_up inst board.past)
  pub rows : RowsStand board.records (λ xid. committed_at xid board.past) (history board.past)
  -- under a deed of an open transaction all on its row is its own, or committed up to its session's last start
  pub owns : (session : ℕ) (xid : Xid) → last_of session board.past ≡ Some xid → is_open xid board.past ≡ true →
      EachSuffix (λ older. FreeUnder (λ other. committed_at other board.past) (started_up_to session board.past) xid (stands older)) board.records
  pub log_history : history board.past ≡ logged board.durable board.records  -- the journal's history is that of the durable records
  pub numbers : Numbers board.records (λ inst. told_in inst board.past) (λ inst. since_loss inst board.past)
      (λ xid. stood (is_deed_of xid) board.past) (λ xid. has_end xid board.past)
  pub late : RowsAreLate board.records board.clock board.floor (λ xid. is_open xid board.past) (λ xid. committed_at xid board.past)
  pub starts : Starts insts board.known (λ session. home_of session board.past)
      (λ session. started_up_to session board.past) (λ session. came_up session board.past) (λ inst. is_up inst board.past) (acked_up_to board.past)
  -- sessions read at the highest snapshot that they started at
  pub reads_at : (session : ℕ) → (board.scan session).snapshot ≡ started_up_to session board.past
  pub answers : Answers asked board.floor board.scan board.past (history board.past)
  pub good_rows : GoodRows asked board.past  -- what was answered is what sessions see
  pub good : GoodJournal board.past  -- and the journal is good
