-- The clauses of a good journal that need no script, but for the rows that a statement asks for.
use Rattle.std.specs.Prelude.{◌≡◌, ℕ, zero, suc, ◌+◌, ◌≤◌, List, [], ◌∷◌, ◌++◌, Option, IsSomeAnd, true, false}
use Rattle.base_types.specs.declared.names.Xid.{Xid}
use Rattle.base_types.specs.declared.value.Value.{Value}
use Rattle.base_types.specs.declared.value.Value.TheVariants.{Absent, Num}
use Rattle.journal.specs.declared.entry.Entry.{Entry}
use Rattle.journal.specs.declared.entry.Entry.TheVariants.{Started, Rows, Changed, Locked, Marked}
use Rattle.journal.specs.declared.entry.Entry.TheVariants.{Committed, Acked, Undone, Rolled}
use Rattle.journal.specs.declared.deeds.Change.{Change}
use Rattle.journal.specs.declared.deeds.Commit.{Commit}
use Rattle.journal.specs.Past.{Past, Each, start_of, home_of, is_up}
use Rattle.journal.specs.Standing.{holds}
use Rattle.journal.specs.History.{history, value_by}
use Rattle.journal.specs.Sees.{sees}
use Rattle.journal.specs.Stood.{stood, is_mark, is_mark_by, is_commit, is_commit_at}
use Rattle.journal.specs.Stood.{is_commit_by, acked_up_to, started_up_to, came_up}

-- the rows that a statement asks for: so many from the first on
pub record Range : Type 0 where
  pub first : ℕ
  pub count : ℕ

-- a row before others where it isn't absent
abbrev pub listed_before : ℕ → Value → List (ℕ × Value) → List (ℕ × Value)
listed_before row Absent rows = rows
listed_before row (Num n) rows = (row, Num n) ∷ rows

-- the rows among so many from a row on that aren't absent, in order, each with its value
abbrev pub listed : (ℕ → Value) → ℕ → ℕ → List (ℕ × Value)
listed value row zero = []
listed value row (suc count) = listed_before row (value row) (listed value (row + 1) count)

-- A Rows entry lists exactly the rows of its statement's range that its session sees not absent, in order,
-- each with that value.
abbrev pub RowsAreSeen : (ℕ → Option Range) → List Commit → Past → Entry → Type 0
RowsAreSeen asked commits past (Rows stmt rows) =
    IsSomeAnd (asked stmt) (λ range. IsSomeAnd (start_of stmt past) (λ start.
    rows ≡ listed (sees commits past start) range.first range.count))
RowsAreSeen asked commits past _ = Unit {0}

-- each Rows entry of a journal is what its session sees, by the commits of the whole journal
abbrev pub GoodRows : (ℕ → Option Range) → Past → Type 0
GoodRows asked past = Each (RowsAreSeen asked (history past)) past

-- A Changed entry found what its session saw in the row.
abbrev pub FoundIsSeen : List Commit → Past → Entry → Type 0
FoundIsSeen commits past (Changed stmt x row found new) =
    IsSomeAnd (start_of stmt past) (λ start. found ≡ sees commits past start row)
FoundIsSeen commits past _ = Unit {0}

-- A transaction commits on its own instance, after a mark at that SCN, once, and at no pair of SCN and instance
-- that another has; nothing of it follows.
abbrev pub CommitIsProper : Past → Entry → Type 0
CommitIsProper past (Committed x commit_scn inst) =
    (inst ≡ x.seg) × (stood (is_mark x commit_scn) past ≡ true) × (stood (is_commit x) past ≡ false)
    × (stood (is_commit_by commit_scn inst) past ≡ false)
CommitIsProper past (Changed stmt x row found new) = stood (is_commit x) past ≡ false
CommitIsProper past (Locked stmt x row) = stood (is_commit x) past ≡ false
CommitIsProper past (Marked stmt x commit_scn) = stood (is_commit x) past ≡ false
CommitIsProper past (Undone x left) = stood (is_commit x) past ≡ false
CommitIsProper past (Rolled x) = stood (is_commit x) past ≡ false
CommitIsProper past _ = Unit {0}

-- A commit is answered after its mark by that statement, and after it has entered.
abbrev pub AckIsProper : Past → Entry → Type 0
AckIsProper past (Acked stmt x commit_scn) =
    (stood (is_mark_by stmt x commit_scn) past ≡ true) × (stood (is_commit_at x commit_scn) past ≡ true)
AckIsProper past _ = Unit {0}

-- A statement's snapshot is at or above each commit answered before, on any instance, and each earlier snapshot of
-- its session; its session's instance is up, and didn't come up since the session was opened.
abbrev pub StartIsProper : Past → Entry → Type 0
StartIsProper past (Started stmt session snapshot) =
    (acked_up_to past ≤ snapshot) × (started_up_to session past ≤ snapshot)
    × IsSomeAnd (home_of session past) (λ home. (is_up home past ≡ true) × (came_up session past ≡ false))
StartIsProper past _ = Unit {0}

-- Where a row is changed or locked no other transaction holds it.
abbrev pub RowIsFree : Past → Entry → Type 0
RowIsFree past (Changed stmt x row found new) = (y : Xid) → holds y row past ≡ true → y ≡ x
RowIsFree past (Locked stmt x row) = (y : Xid) → holds y row past ≡ true → y ≡ x
RowIsFree past _ = Unit {0}

-- all changes of a history, the newest first
abbrev pub changes_in : List Commit → List Change
changes_in [] = []
changes_in (commit ∷ older) = commit.changes ++ changes_in older

-- each change found what the older ones leave in its row
abbrev pub Replays : List Change → Type 0
Replays [] = Unit {0}
Replays (change ∷ older) = (change.found ≡ value_by older change.row) × Replays older

-- A journal is good as far as no script is needed: each change found what its session saw, commits, their answers
-- and starts stand where they may, no row is taken from its holder, and one thread can replay the history.
pub record GoodJournal (past : Past) : Type 0 where
  pub found : Each (FoundIsSeen (history past)) past
  pub commits : Each CommitIsProper past
  pub acknowledgements : Each AckIsProper past
  pub starts : Each StartIsProper past
  pub row_locks : Each RowIsFree past
  pub replay : Replays (changes_in (history past))
