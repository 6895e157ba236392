-- The board machine: its states, its events, what each of them needs and what it does, and what headers tell.
use Rattle.std.specs.Prelude.{ℕ, suc, ◌+◌, ◌≡◌, ◌≢◌, ◌<◌, ◌≤◌, ◌⊎◌, ◌==◌, ◌||◌, Bool, true, false, if◌then◌else◌, max, nat_le, List, [], ◌∷◌, ◌++◌, length, Option, Some, None}
use Rattle.std.specs.List.{AllByRecursion, filter}
use Rattle.board_rows.specs.Words.{Xid, Value, Entry, Opened, Started, Rows, Changed, Locked, Marked, Committed, Acked, Undone, Rolled, Plain, Refused, Recovered, Up, Moved, Checkpointed, NotDone, Past, same_xid, start_of, home_of, is_up, is_loss_of, Deed, Changes, Locks, row_of, changes_of, is_open, value_by, last_of, own, is_home, stood, is_mark_by, came_up, acked_up_to, started_up_to, Range, listed_before}
use Rattle.board_rows.specs.Board.{Record, Does, TakesBack, Commits, RollsBack, DeedAt, thread_of, scn_of, xid_of, touches, stands, of_xid, Stage, Fresh, Active, Over, stage, EachPair, IsSafe, ForSegment, recorded_in, wrap_in, on, NewestIsFree, deeds_in, shown, committed_at, seen_at}

-- what a session has read for its statement: of so many rows from the first on those that aren't absent
pub record Scan : Type 0 where
  pub snapshot : ℕ
  pub first : ℕ
  pub count : ℕ
  pub rows : List (ℕ × Value)

-- The state of all instances, as far as rows go. `durable` counts a record once its commit has entered the journal,
-- which can be later than it reached the disk. `floor` rises at each use of a row, by whichever image, and at changes.
pub record Board : Type 0 where
  pub records : List Record  -- the newest first
  pub durable : ℕ → ℕ  -- by thread: its records up to this SCN have entered
  pub clock : ℕ → ℕ  -- by instance: the SCN of its next record is one more
  pub known : ℕ → ℕ  -- by instance: its statements start at this SCN or above
  pub floor : ℕ → ℕ  -- by row: the greatest snapshot for which it was read or changed
  pub scan : ℕ → Scan  -- by session
  pub past : Past  -- the journal

-- a function that has another value at one place
abbrev pub put : {A : Type 0} → (ℕ → A) → ℕ → A → ℕ → A
put f place value at = if place == at then value else f at

-- whether a transaction is a session's own
abbrev pub is_own : Option Xid → Xid → Bool
is_own None other = false
is_own (Some xid) other = same_xid xid other

-- A commit that isn't in the journal will have an SCN above a snapshot: its record has, or it has none yet, and the
-- clock of its instance is at the snapshot or above. A transaction of an instance that was lost never commits.
abbrev pub IsLate : ℕ → Bool → Stage → ℕ → Type 0
IsLate snapshot live (Over (Some scn)) clock = snapshot < scn
IsLate snapshot live (Over None) clock = Unit {0}
IsLate snapshot live _ clock = live ≡ true → snapshot ≤ clock

-- that, on a board, of a transaction
abbrev pub IsLateHere : Board → ℕ → Xid → Type 0
IsLateHere board snapshot xid = committed_at xid board.past ≡ None
    → IsLate snapshot (is_open xid board.past) (stage xid board.records) (board.clock xid.seg)

-- What may happen. Sessions, instances and rows go by their numbers, statements and control lines by their lines.
pub data Event : Type 0 where
  opens : (session inst : ℕ) → Event  -- a session is opened on an instance
  -- a statement starts, or starts again, at an SCN or above; `first` is the first row that it asks for
  starts : (stmt session inst least first : ℕ) → Event
  learns : (inst least : ℕ) → Event  -- an instance knows of commits up to an SCN
  raises : (inst scn : ℕ) → Event  -- the clock of an instance is at an SCN or above
  -- a statement changes or locks a row; `seq` is the number of the deed in its segment
  changes : (stmt session snapshot : ℕ) (xid : Xid) (seq : ℕ) (deed : Deed) → Event
  -- an instance takes back the newest deed of a transaction that stands, and so many are left
  takes_back : (inst : ℕ) (xid : Xid) (seq row left : ℕ) → Event
  marks : (stmt : ℕ) (xid : Xid) → Event  -- a statement makes the commit record of its transaction
  rolls : (inst : ℕ) (xid : Xid) → Event  -- an instance makes the record that a transaction is rolled back
  -- a record becomes durable: the one between the newer records and those that were there before it
  settles : (newer : List Record) (r : Record) (there : List Record) → Event
  -- a session reads a row in an image after the records `there`; `status` is who, by headers, has committed up to its snapshot
  reads : (session inst row : ℕ) (newer there : List Record) (status : Xid → Bool) → Event
  answers : (stmt session : ℕ) → Event  -- the rows that a session has read are the answer of its statement
  acks : (stmt scn : ℕ) (xid : Xid) → Event  -- a statement is answered that its transaction has committed
  notes : (entry : Entry) → Event  -- an entry of which no clause on rows speaks
  -- an instance is lost, as the entry tells: it crashes, or a fault or a bad block ends it; of its thread the records up
  -- to an SCN are kept
  loses : (inst kept : ℕ) (entry : Entry) → Event
  joins : (inst scn known : ℕ) → Event  -- an instance that is down gets new clocks
  ups : (line inst : ℕ) → Event  -- an instance is up, as a line asked

-- A session is opened once, on an instance that there is.
pub record MayOpen (insts : ℕ) (board : Board) (session inst : ℕ) : Type 0 where
  pub new : home_of session board.past ≡ None  -- it wasn't opened before
  pub within : inst < insts  -- instances are numbered from 0

-- A statement starts, or starts again.
pub record MayStart (board : Board) (session inst least : ℕ) : Type 0 where
  pub home : home_of session board.past ≡ Some inst  -- its session is on this instance
  pub up : is_up inst board.past ≡ true  -- which is up
  pub stays : came_up session board.past ≡ false  -- and hasn't come up since the session was opened
  pub low : least ≤ board.clock inst  -- the SCN asked for is one that the clock has reached

-- An instance knows of commits up to an SCN.
pub record MayLearn (board : Board) (inst least : ℕ) : Type 0 where
  pub low : least ≤ board.clock inst  -- it is one that its clock has reached

-- A row is looked at for a session on an instance, at a snapshot. The image is the content of its block after the
-- records `there`, and `status` is what headers told of who has committed up to the snapshot.
pub record MayLook (board : Board) (session inst snapshot row : ℕ) (newer there : List Record) (status : Xid → Bool) : Type 0 where
  pub home : home_of session board.past ≡ Some inst  -- the session is on this instance
  pub low : snapshot ≤ board.clock inst  -- the snapshot is one that its clock has reached
  pub image : board.records ≡ newer ++ there  -- the image is of some moment up to now
  -- what came to the row since is above the snapshot, and isn't the session's own
  pub later : AllByRecursion (λ r. touches row r ≡ true → (snapshot < scn_of r) × (is_own (own session board.past) (xid_of r) ≡ false)) newer
  -- of each deed that stands in the image it is right who has committed, and who hasn't will commit above the snapshot
  pub told : AllByRecursion (λ m. on row m ≡ true → (is_own (own session board.past) m.xid ≡ true)
      ⊎ ((status m.xid ≡ seen_at snapshot (λ xid. committed_at xid board.past) m.xid) × IsLateHere board snapshot m.xid)) (stands there)

-- what is read there
abbrev pub value_there : Board → ℕ → ℕ → List Record → (Xid → Bool) → Value
value_there board session row there status =
    value_by (changes_of (shown row (λ xid. is_own (own session board.past) xid || status xid) (stands there))) row

-- A session reads the next row of its statement.
pub record MayRead (board : Board) (session inst row : ℕ) (newer there : List Record) (status : Xid → Bool) : Type 0 where
  pub look : MayLook board session inst (board.scan session).snapshot row newer there status  -- the look is right at its snapshot
  pub next : row ≡ (board.scan session).first + (board.scan session).count  -- rows are read in order

-- a change found what stands in the row
abbrev pub Finds : Deed → List DeedAt → Type 0
Finds (Changes change) deeds = change.found ≡ value_by (changes_of (deeds_in deeds)) change.row
Finds (Locks row) deeds = Unit {0}

-- A statement changes or locks a row.
pub record MayChange (board : Board) (stmt session snapshot : ℕ) (xid : Xid) (number : ℕ) (deed : Deed) : Type 0 where
  -- it started for this session at this snapshot
  pub started : start_of stmt board.past ≡ Some (record { session = session; snapshot = snapshot })
  pub home : home_of session board.past ≡ Some xid.seg  -- the session is on the instance of the transaction's segment
  pub up : is_up xid.seg board.past ≡ true  -- which is up
  pub low : snapshot ≤ board.clock xid.seg  -- the snapshot is one that its clock has reached
  -- the transaction is the session's own; or it has none, and this one is new: the next of its slot
  pub mine : (own session board.past ≡ Some xid) ⊎ ((own session board.past ≡ None)
      × (stage xid board.records ≡ Fresh) × (xid.wrap ≡ suc (wrap_in xid.seg xid.slot board.records)))
  pub next : number ≡ suc (length (recorded_in xid.seg board.records))  -- deeds are numbered in their segment
  pub last : snapshot ≡ started_up_to session board.past  -- the snapshot is the highest of the session
  -- the newest deed that stands on the row is the transaction's own, or committed up to the snapshot
  pub newest : NewestIsFree (λ other. committed_at other board.past) snapshot xid (row_of deed) (stands board.records)
  pub floor : board.floor (row_of deed) ≤ board.clock xid.seg  -- the new record is above each snapshot for which the row was read
  pub found : Finds deed (stands board.records)  -- a change finds the value that stands in the row

-- a transaction that has no end is ended by its own instance while it is open, and by any once its instance was lost
abbrev pub MayEnd : Board → ℕ → Xid → Type 0
MayEnd board inst xid = (stage xid board.records ≡ Active) × (is_open xid board.past ≡ true → inst ≡ xid.seg)

-- The commit record of a transaction is made.
pub record MayMark (board : Board) (xid : Xid) : Type 0 where
  pub opened : is_open xid board.past ≡ true  -- the transaction is open

-- The newest deed of a transaction that stands is taken back.
pub record MayTakeBack (board : Board) (inst : ℕ) (xid : Xid) (seq row left : ℕ) : Type 0 where
  pub may : MayEnd board inst xid  -- who may end the transaction may take back
  pub taken : DeedAt
  pub rest : List DeedAt
  pub newest : of_xid xid (stands board.records) ≡ taken ∷ rest  -- it is the newest of the transaction that stands
  pub number : seq ≡ taken.seq  -- the record names it by its number
  pub place : row ≡ row_of taken.deed  -- and by its row
  pub stays : is_open xid board.past ≡ true → left ≡ length rest  -- while the transaction is open the entry tells how many are left

-- A transaction has been rolled back.
pub record MayRoll (board : Board) (inst : ℕ) (xid : Xid) : Type 0 where
  pub may : MayEnd board inst xid  -- its own instance ends it, or another once it was lost
  pub none : of_xid xid (stands board.records) ≡ []  -- nothing of it stands

-- A record becomes durable.
pub record MaySettle (board : Board) (newer : List Record) (r : Record) (there : List Record) : Type 0 where
  pub place : board.records ≡ newer ++ r ∷ there  -- it is on the board
  pub new : board.durable (thread_of r) < scn_of r  -- it wasn't durable before
  -- all that is older in its thread was
  pub first : AllByRecursion (λ o. thread_of o ≡ thread_of r → scn_of o ≤ board.durable (thread_of r)) there

-- What a session has read is the answer of a statement.
pub record MayAnswer (asked : ℕ → Option Range) (board : Board) (stmt session : ℕ) : Type 0 where
  -- the statement is the session's, at the snapshot for which it has read
  pub started : start_of stmt board.past ≡ Some (record { session = session; snapshot = (board.scan session).snapshot })
  -- it asks for just the rows that were read
  pub range : asked stmt ≡ Some (record { first = (board.scan session).first; count = (board.scan session).count })

-- A commit is answered.
pub record MayAck (insts : ℕ) (board : Board) (stmt scn : ℕ) (xid : Xid) : Type 0 where
  pub mark : stood (is_mark_by stmt xid scn) board.past ≡ true  -- the statement made the commit record
  pub commit : stage xid board.records ≡ Over (Some scn)  -- which is on the board
  pub durable : scn ≤ board.durable xid.seg  -- and durable
  -- each instance that is up starts its statements at the commit's SCN or above
  pub heard : (inst : ℕ) → inst < insts → is_up inst board.past ≡ true → scn ≤ board.known inst

-- an entry of which no clause on rows speaks
abbrev pub IsNote : Entry → Type 0
IsNote (Plain stmt) = Unit {0}
IsNote (Refused stmt cause) = Unit {0}
IsNote (Recovered insts) = Unit {0}
IsNote (Moved line) = Unit {0}
IsNote (Checkpointed line) = Unit {0}
IsNote (NotDone line) = Unit {0}
IsNote _ = ⊥

-- whether a record is there after an instance was lost, of whose thread the records up to an SCN are kept
abbrev pub is_kept : ℕ → ℕ → Record → Bool
is_kept inst kept r = if thread_of r == inst then nat_le (scn_of r) kept else true

-- two records have a row or their transaction in common
abbrev pub AreNear : Record → Record → Type 0
AreNear r o = ((row : ℕ) × (touches row r ≡ true) × (touches row o ≡ true)) ⊎ (same_xid (xid_of r) (xid_of o) ≡ true)

-- No record of another thread stands over one that vanishes, on its row or of its transaction.
abbrev pub LosesNewest : ℕ → ℕ → List Record → Type 0
LosesNewest inst kept = EachPair (λ r o. thread_of r ≢ inst → AreNear r o → is_kept inst kept o ≡ true)

-- under each change or lock that is kept each record for its segment is kept, by whichever thread
abbrev pub KeepsSegments : ℕ → ℕ → List Record → Type 0
KeepsSegments inst kept = EachPair (λ r o. is_kept inst kept r ≡ true → ForSegment (λ o. is_kept inst kept o ≡ true) r o)

-- An instance is lost, with some of its newest records.
pub record MayLose (board : Board) (inst kept : ℕ) : Type 0 where
  pub durable : board.durable inst ≤ kept  -- what was durable is kept
  pub newest : LosesNewest inst kept board.records  -- no record of another thread stands over one that vanishes

-- An instance that is down gets new clocks.
pub record MayJoin (board : Board) (inst scn known : ℕ) : Type 0 where
  pub down : is_up inst board.past ≡ false  -- it is down
  pub durable : board.durable inst ≤ scn  -- its clock is at or above its durable records
  pub drawn : AllByRecursion (λ r. thread_of r ≡ inst → scn_of r ≤ scn) board.records  -- and all other records of its thread
  pub low : known ≤ scn  -- it knows of no commit above its clock

-- An instance comes up.
pub record MayUp (board : Board) (inst : ℕ) : Type 0 where
  pub heard : acked_up_to board.past ≤ board.known inst  -- its statements will see each answered commit
  pub ended : (xid : Xid) → xid.seg ≡ inst → stage xid board.records ≢ Active  -- no transaction of its segment is left without an end
  -- what other threads have for its segment is durable
  pub safe : AllByRecursion (λ r. (xid_of r).seg ≡ inst → IsSafe board.durable r) board.records

-- what an event needs, over so many instances, where statements ask for these rows
abbrev pub May : (ℕ → Option Range) → ℕ → Board → Event → Type 0
May asked insts board (opens session inst) = MayOpen insts board session inst
May asked insts board (starts stmt session inst least first) = MayStart board session inst least
May asked insts board (learns inst least) = MayLearn board inst least
May asked insts board (raises inst scn) = Unit {0}
May asked insts board (changes stmt session snapshot xid seq deed) = MayChange board stmt session snapshot xid seq deed
May asked insts board (takes_back inst xid seq row left) = MayTakeBack board inst xid seq row left
May asked insts board (marks stmt xid) = MayMark board xid
May asked insts board (rolls inst xid) = MayRoll board inst xid
May asked insts board (settles newer r there) = MaySettle board newer r there
May asked insts board (reads session inst row newer there status) = MayRead board session inst row newer there status
May asked insts board (answers stmt session) = MayAnswer asked board stmt session
May asked insts board (acks stmt scn xid) = MayAck insts board stmt scn xid
May asked insts board (notes entry) = IsNote entry
May asked insts board (loses inst kept entry) = MayLose board inst kept × (is_loss_of inst entry ≡ true)
May asked insts board (joins inst scn known) = MayJoin board inst scn known
May asked insts board (ups line inst) = MayUp board inst

-- the entry of a deed
abbrev pub entry_of : ℕ → Xid → Deed → Entry
entry_of stmt xid (Changes change) = Changed stmt xid change.row change.found change.new
entry_of stmt xid (Locks row) = Locked stmt xid row

-- nothing was read yet for a statement at a snapshot
abbrev pub unread : ℕ → ℕ → Scan
unread snapshot first = record { snapshot = snapshot; first = first; count = 0; rows = [] }

-- what a session has read counts no more once its transaction does something
abbrev pub anew : Bool → Scan → Scan
anew t scan = if t then unread scan.snapshot scan.first else scan

-- one more row was read
abbrev pub read_on : Scan → Value → Scan
read_on scan v = record scan { count = suc scan.count; rows = scan.rows ++ listed_before (scan.first + scan.count) v [] }

-- the Committed entry of a record that became durable
abbrev pub settled : Record → Past → Past
settled (Commits scn xid) past = Committed xid scn xid.seg ∷ past
settled _ past = past

-- a record by an instance at its next SCN, for a transaction; sessions whose last one it is read anew
abbrev pub recorded : Board → ℕ → Record → Entry → Xid → Board
recorded board inst r entry xid = record board {
  records = r ∷ board.records;
  clock = put board.clock inst (board.clock inst + 1);
  scan = λ session. anew (is_own (last_of session board.past) xid) (board.scan session);
  past = entry ∷ board.past;
}

-- one more entry, and nothing else
abbrev pub told : Board → Entry → Board
told board entry = record board { past = entry ∷ board.past }

-- what an event does
abbrev pub after : Board → Event → Board
after board (opens session inst) = told board (Opened session inst)
after board (starts stmt session inst least first) = record board {
  known = put board.known inst (max (board.known inst) least);
  scan = put board.scan session (unread (max (board.known inst) least) first);
  past = Started stmt session (max (board.known inst) least) ∷ board.past;
}
after board (learns inst least) = record board { known = put board.known inst (max (board.known inst) least) }
after board (raises inst scn) = record board { clock = put board.clock inst (max (board.clock inst) scn) }
after board (changes stmt session snapshot xid seq deed) = record board {
  records = Does (board.clock xid.seg + 1) xid seq deed ∷ board.records;
  clock = put board.clock xid.seg (board.clock xid.seg + 1);
  floor = put board.floor (row_of deed) (max (board.floor (row_of deed)) snapshot);
  scan = put board.scan session (unread (board.scan session).snapshot (board.scan session).first);
  past = entry_of stmt xid deed ∷ board.past;
}
after board (takes_back inst xid seq row left) = recorded board inst (TakesBack inst (board.clock inst + 1) xid seq row) (Undone xid left) xid
after board (marks stmt xid) = recorded board xid.seg (Commits (board.clock xid.seg + 1) xid) (Marked stmt xid (board.clock xid.seg + 1)) xid
after board (rolls inst xid) = recorded board inst (RollsBack inst (board.clock inst + 1) xid) (Rolled xid) xid
after board (settles newer r there) = record board { durable = put board.durable (thread_of r) (scn_of r); past = settled r board.past }
after board (reads session inst row newer there status) = record board {
  floor = put board.floor row (max (board.floor row) (board.scan session).snapshot);
  scan = put board.scan session (read_on (board.scan session) (value_there board session row there status));
}
after board (answers stmt session) = told board (Rows stmt (board.scan session).rows)
after board (acks stmt scn xid) = told board (Acked stmt xid scn)
after board (notes entry) = told board entry
after board (loses inst kept entry) = record board {
  records = filter (is_kept inst kept) board.records;
  scan = λ session. anew (is_home session inst board.past) (board.scan session);
  past = entry ∷ board.past;
}
after board (joins inst scn known) = record board { clock = put board.clock inst scn; known = put board.known inst known }
after board (ups line inst) = told board (Up line inst)

-- the first board: nothing has happened
abbrev pub nothing : Board
nothing = record { records = []; durable = λ inst. 0; clock = λ inst. 0; known = λ inst. 0; floor = λ row. 0; scan = λ session. unread 0 0; past = [] }

-- a run of events leads from a board to another, each of them where it may come
abbrev pub Leads : (ℕ → Option Range) → ℕ → Board → List Event → Board → Type 0
Leads asked insts board [] end = board ≡ end
Leads asked insts board (event ∷ events) end = May asked insts board event × Leads asked insts (after board event) events end

-- the SCN of a transaction's end, by a commit or a rollback: all that a header has of it
abbrev pub ended : Xid → List Record → Option ℕ
ended xid [] = None
ended xid (Commits scn other ∷ older) = if same_xid xid other then Some scn else ended xid older
ended xid (RollsBack inst scn other ∷ older) = if same_xid xid other then Some scn else ended xid older
ended xid (_ ∷ older) = ended xid older

-- A row is looked at for a snapshot in an image that is the content after the records `there`; the header of a
-- transaction's segment is that after `mid ++ there`, a later moment.
pub record MayTell (board : Board) (snapshot row : ℕ) (xid : Xid) (newer mid there : List Record) : Type 0 where
  pub image : board.records ≡ newer ++ (mid ++ there)  -- the header is of some moment up to now
  -- what came to the row since the image is above the snapshot
  pub later : AllByRecursion (λ r. touches row r ≡ true → snapshot < scn_of r) (newer ++ mid)
  -- a commit since the header is above the snapshot
  pub above : AllByRecursion (λ r. (scn : ℕ) → r ≡ Commits scn xid → snapshot < scn) newer
  pub clock : is_open xid board.past ≡ true → snapshot ≤ board.clock xid.seg  -- and so will be one that comes yet
  -- a commit that the header tells up to the snapshot is durable
  pub durable : (end : ℕ) → stage xid (mid ++ there) ≡ Over (Some end) → end ≤ snapshot → end ≤ board.durable xid.seg
  -- the end of a rollback has the last SCN of its transaction
  pub last : (end : ℕ) → stage xid (mid ++ there) ≡ Over None → ended xid (mid ++ there) ≡ Some end →
      AllByRecursion (λ r. same_xid xid (xid_of r) ≡ true → scn_of r ≤ end) mid
