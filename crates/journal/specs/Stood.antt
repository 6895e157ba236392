-- What stands before a place of a journal.
use Rattle.std.specs.Prelude.{ℕ, max, [], ◌∷◌, Bool, true, false, ◌==◌, ◌&&◌, if◌then◌else◌}
use Rattle.std.specs.List.{list_any}
use Rattle.base_types.specs.declared.names.Xid.{Xid}
use Rattle.journal.specs.declared.entry.Entry.{Entry}
use Rattle.journal.specs.declared.entry.Entry.TheVariants.{Opened, Started, Marked, Committed, Acked, Up}
use Rattle.journal.specs.Past.{Past, same_xid}
use Rattle.journal.specs.Sees.{is_home}

-- whether such an entry stands before
abbrev pub stood : (Entry → Bool) → Past → Bool
stood test past = list_any test past

-- a mark of a transaction at an SCN, by whichever statement
abbrev pub is_mark : Xid → ℕ → Entry → Bool
is_mark x commit_scn (Marked stmt y marked_scn) = same_xid x y && commit_scn == marked_scn
is_mark x commit_scn _ = false

-- a mark of a transaction at an SCN by a statement
abbrev pub is_mark_by : ℕ → Xid → ℕ → Entry → Bool
is_mark_by stmt x commit_scn (Marked by y marked_scn) = stmt == by && same_xid x y && commit_scn == marked_scn
is_mark_by stmt x commit_scn _ = false

-- a commit of a transaction that entered, at whichever SCN
abbrev pub is_commit : Xid → Entry → Bool
is_commit x (Committed y commit_scn inst) = same_xid x y
is_commit x _ = false

-- a commit of a transaction that entered at an SCN
abbrev pub is_commit_at : Xid → ℕ → Entry → Bool
is_commit_at x commit_scn (Committed y entered_scn inst) = same_xid x y && commit_scn == entered_scn
is_commit_at x commit_scn _ = false

-- a commit that entered at an SCN by an instance
abbrev pub is_commit_by : ℕ → ℕ → Entry → Bool
is_commit_by commit_scn inst (Committed y entered_scn by) = commit_scn == entered_scn && inst == by
is_commit_by commit_scn inst _ = false

-- the highest SCN of an answered commit
abbrev pub acked_after : Entry → ℕ → ℕ
acked_after (Acked stmt x commit_scn) before = max commit_scn before
acked_after _ before = before

abbrev pub acked_up_to : Past → ℕ
acked_up_to [] = 0
acked_up_to (e ∷ past) = acked_after e (acked_up_to past)

-- the highest snapshot at which a statement of a session started
abbrev pub started_after : ℕ → Entry → ℕ → ℕ
started_after session (Started stmt by snapshot) before = if session == by then max snapshot before else before
started_after session _ before = before

abbrev pub started_up_to : ℕ → Past → ℕ
started_up_to session [] = 0
started_up_to session (e ∷ past) = started_after session e (started_up_to session past)

-- the highest snapshot at which a statement started
abbrev pub latest_start_after : Entry → ℕ → ℕ
latest_start_after (Started stmt by snapshot) before = max snapshot before
latest_start_after _ before = before

abbrev pub latest_start : Past → ℕ
latest_start [] = 0
latest_start (e ∷ past) = latest_start_after e (latest_start past)

-- whether the instance of a session came up since the session was opened
abbrev pub came_up_after : ℕ → Entry → Past → Bool → Bool
came_up_after session (Opened opened inst) past before = if session == opened then false else before
came_up_after session (Up line inst) past before = if is_home session inst past then true else before
came_up_after session _ past before = before

abbrev pub came_up : ℕ → Past → Bool
came_up session [] = false
came_up session (e ∷ past) = came_up_after session e past (came_up session past)
