-- The history of a journal: its commits in the order of their SCNs, each with its changes.
use Rattle.std.specs.Prelude.{ℕ, ◌≤◌, List, [], ◌∷◌, ◌++◌, Bool, ◌==◌, ◌&&◌, ◌||◌, nat_lt, nat_le, if◌then◌else◌}
use Rattle.base_types.specs.declared.names.Xid.{Xid}
use Rattle.base_types.specs.declared.value.Value.{Value}
use Rattle.base_types.specs.declared.value.Value.TheVariants.{Absent}
use Rattle.journal.specs.declared.entry.Entry.{Entry}
use Rattle.journal.specs.declared.entry.Entry.TheVariants.{Marked, Committed}
use Rattle.journal.specs.declared.deeds.Change.{Change}
use Rattle.journal.specs.declared.deeds.Commit.{Commit}
use Rattle.journal.specs.Past.{Past, same_xid}
use Rattle.journal.specs.Standing.{changes_of, standing}

-- the changes that stood at the last mark of a transaction with this SCN
abbrev pub marked_after : Xid → ℕ → Entry → Past → List Change → List Change
marked_after x commit_scn (Marked stmt y marked_scn) past before =
    if same_xid x y && commit_scn == marked_scn then changes_of (standing x past) else before
marked_after x commit_scn _ past before = before

abbrev pub marked : Xid → ℕ → Past → List Change
marked x commit_scn [] = []
marked x commit_scn (e ∷ past) = marked_after x commit_scn e past (marked x commit_scn past)

-- whether a commit comes before another: by its SCN, and where these are equal by its instance
abbrev pub is_before : Commit → Commit → Bool
is_before a b = nat_lt a.commit_scn b.commit_scn || a.commit_scn == b.commit_scn && nat_lt a.inst b.inst

-- commits in order, the latest first, with one more
abbrev pub entered : Commit → List Commit → List Commit
entered a [] = a ∷ []
entered a (b ∷ older) = if is_before a b then b ∷ entered a older else a ∷ b ∷ older

-- The history that a journal leaves, the latest commit first: a commit enters where its record has reached the
-- disk, with the changes that stood as it was marked.
abbrev pub history_after : Entry → Past → List Commit → List Commit
history_after (Committed x commit_scn inst) past before =
    entered (record { commit_scn = commit_scn; inst = inst; xid = x; changes = marked x commit_scn past }) before
history_after _ past before = before

abbrev pub history : Past → List Commit
history [] = []
history (e ∷ past) = history_after e past (history past)

-- what a row holds by changes of which the newest comes first
abbrev pub value_by : List Change → ℕ → Value
value_by [] row = Absent
value_by (change ∷ older) row = if change.row == row then change.new else value_by older row

-- the changes of the commits up to an SCN, the newest first
abbrev pub changes_up_to : ℕ → List Commit → List Change
changes_up_to snapshot [] = []
changes_up_to snapshot (commit ∷ older) =
    if nat_le commit.commit_scn snapshot then commit.changes ++ changes_up_to snapshot older
    else changes_up_to snapshot older

-- the table at an SCN: what a row holds by the commits up to it
abbrev pub table : List Commit → ℕ → ℕ → Value
table commits snapshot row = value_by (changes_up_to snapshot commits) row

-- no commit is above an SCN
abbrev pub UpTo : ℕ → List Commit → Type 0
UpTo known [] = Unit {0}
UpTo known (commit ∷ older) = (commit.commit_scn ≤ known) × UpTo known older
