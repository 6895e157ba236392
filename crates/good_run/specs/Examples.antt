-- Scripts and journals that show what the clauses of a good journal take and refuse. Line 1 of each script says how
-- many instances there are; journals stand here in the order in which they were made.
use Rattle.std.specs.Prelude.{ℕ, pos, neg_ℤ, List, [], ◌∷◌, false, reverse, codes, map, ◌++◌, flat_map, drop}
use Rattle.base_types.specs.declared.names.Xid.{Xid}
use Rattle.base_types.specs.declared.value.Value.{Value}
use Rattle.base_types.specs.declared.value.Value.TheVariants.{Absent, Num}
use Rattle.journal.specs.declared.cause.Cause.TheVariants.{Busy, OldUndo, Overflow, NoSavepoint, Lost, NotConnected}
use Rattle.journal.specs.declared.entry.Entry.{Entry}
use Rattle.journal.specs.declared.entry.Entry.TheVariants.{Opened, Started, Rows, Changed, Marked, Committed, Acked}
use Rattle.journal.specs.declared.entry.Entry.TheVariants.{Undone, Rolled, Plain, Refused, Crashed, Ended, Recovered, Up, NotDone}
use Rattle.journal.specs.Past.{Past}
use Rattle.script_text.specs.declared.item.Item.{Item}
use Rattle.script_text.specs.declared.item.Item.TheVariants.{Session, CrashAfter, CrashMark, Start, Remaster, Checkpoint, Hold}
use Rattle.script_text.specs.declared.item.Item.TheVariants.{Stmt as Statement}
use Rattle.script_text.specs.declared.item.Keep.{Keep}
use Rattle.script_text.specs.declared.item.Keep.TheVariants.{First, All, AllBut}
use Rattle.script_text.specs.declared.item.Stmt.TheVariants.{Get, Scan, Put, Add, Commit, RollbackTo}
use Rattle.script_text.specs.ScriptParts.{ScriptParts}
use Rattle.script_text.specs.Limits.{default_undo, default_cache, default_seed}

-- a script of so many lines whose sessions are on these instances
abbrev pub script : ℕ → ℕ → List ℕ → List (List (ℕ × Item)) → ScriptParts
script instances lines homes waves = record {
  settings = record { instances = instances; blocks = 8; undo = default_undo; cache = default_cache; seed = default_seed };
  lines = lines;
  names = map (λ home. codes "a") homes;
  homes = homes;
  waves = waves;
}

-- the first transaction of instance 0
abbrev pub first_xid : Xid
first_xid = record { seg = 0; slot = 0; wrap = 1 }

-- `session a on 0 | a: put 3 42 | a: commit | a: get 3`
abbrev pub one_change : ScriptParts
one_change =
    script 1 5 (0 ∷ []) (((2, Session 0 0) ∷ (3, Statement 0 (Put 3 (Num (pos 42)))) ∷ (4, Statement 0 Commit)
    ∷ (5, Statement 0 (Get 3)) ∷ []) ∷ [])

-- its lines one after another
abbrev pub one_by_one : Past
one_by_one =
    reverse (Opened 0 0 ∷ Started 3 0 0 ∷ Changed 3 first_xid 3 Absent (Num (pos 42)) ∷ Started 4 0 0
    ∷ Marked 4 first_xid 2 ∷ Committed first_xid 2 0 ∷ Acked 4 first_xid 2 ∷ Started 5 0 2
    ∷ Rows 5 ((3, Num (pos 42)) ∷ []) ∷ [])

-- all three start before the first is answered, and so nothing commits
abbrev pub all_at_once : Past
all_at_once =
    reverse (Opened 0 0 ∷ Started 3 0 0 ∷ Started 4 0 0 ∷ Started 5 0 0
    ∷ Changed 3 first_xid 3 Absent (Num (pos 42)) ∷ Plain 4 ∷ Rows 5 ((3, Num (pos 42)) ∷ []) ∷ [])

-- its first line starts twice, as a put may
abbrev pub put_again : Past
put_again = reverse (Opened 0 0 ∷ Started 3 0 0 ∷ Started 3 0 0 ∷ Changed 3 first_xid 3 Absent (Num (pos 42)) ∷ [])

-- its commit starts twice
abbrev pub commit_again : Past
commit_again =
    reverse (Opened 0 0 ∷ Started 3 0 0 ∷ Changed 3 first_xid 3 Absent (Num (pos 42)) ∷ Started 4 0 0 ∷ Started 4 0 0
    ∷ [])

-- its change is rolled back, and nobody asked
abbrev pub unasked_rollback : Past
unasked_rollback =
    reverse (Opened 0 0 ∷ Started 3 0 0 ∷ Changed 3 first_xid 3 Absent (Num (pos 42)) ∷ Started 4 0 0
    ∷ Rolled first_xid ∷ Plain 4 ∷ [])

-- `session a on 0 | crash 0 after 0 keep 0 | go | start 0 | go | a: get 0`
abbrev pub crash_and_start : ScriptParts
crash_and_start =
    script 2 7 (0 ∷ []) (((2, Session 0 0) ∷ (3, CrashAfter 0 0 (First 0)) ∷ []) ∷ ((5, Start 0) ∷ [])
    ∷ ((7, Statement 0 (Get 0)) ∷ []) ∷ [])

-- the session stays the one that was opened before the crash
abbrev pub opened_once : Past
opened_once = reverse (Opened 0 0 ∷ Crashed 3 0 ∷ Recovered 1 ∷ Up 5 0 ∷ Refused 7 NotConnected ∷ [])

-- the session is opened again, and goes on
abbrev pub opened_twice : Past
opened_twice = reverse (Opened 0 0 ∷ Crashed 3 0 ∷ Recovered 1 ∷ Up 5 0 ∷ Opened 0 0 ∷ Started 7 0 0 ∷ Rows 7 [] ∷ [])

-- `session a on 0 | crash 1 after 0 keep 0 | go | a: get 0`
abbrev pub crash_before_get : ScriptParts
crash_before_get =
    script 2 5 (0 ∷ []) (((2, Session 0 0) ∷ (3, CrashAfter 1 0 (First 0)) ∷ []) ∷ ((5, Statement 0 (Get 0)) ∷ [])
    ∷ [])

abbrev pub get_after_crash : Past
get_after_crash = reverse (Opened 0 0 ∷ Crashed 3 1 ∷ Started 5 0 0 ∷ Rows 5 [] ∷ [])

-- the instance ends by a fault, which answers the crash line
abbrev pub get_after_end : Past
get_after_end = reverse (Opened 0 0 ∷ Ended 1 false ∷ Started 5 0 0 ∷ Rows 5 [] ∷ [])

-- the later wave doesn't wait
abbrev pub get_before_crash : Past
get_before_crash = reverse (Opened 0 0 ∷ Started 5 0 0 ∷ Rows 5 [] ∷ Crashed 3 1 ∷ [])

-- `session m on 0 | go | session r on 0 | hold r until m | r: get 0 | m: put 0 1`
abbrev pub held : ScriptParts
held =
    script 1 7 (0 ∷ 0 ∷ []) (((2, Session 0 0) ∷ []) ∷ ((4, Session 1 0) ∷ (5, Hold 1 0) ∷ (6, Statement 1 (Get 0))
    ∷ (7, Statement 0 (Put 0 (Num (pos 1)))) ∷ []) ∷ [])

abbrev pub reader_around : Past
reader_around =
    reverse (Opened 0 0 ∷ Opened 1 0 ∷ Started 6 1 0 ∷ Started 7 0 0 ∷ Changed 7 first_xid 0 Absent (Num (pos 1))
    ∷ Rows 6 [] ∷ [])

-- the other session starts before the reader is opened
abbrev pub writer_first : Past
writer_first =
    reverse (Opened 0 0 ∷ Started 7 0 0 ∷ Changed 7 first_xid 0 Absent (Num (pos 1)) ∷ Opened 1 0 ∷ Started 6 1 0
    ∷ Rows 6 [] ∷ [])

-- the reader is answered before the other session
abbrev pub reader_first : Past
reader_first =
    reverse (Opened 0 0 ∷ Opened 1 0 ∷ Started 6 1 0 ∷ Rows 6 [] ∷ Started 7 0 0
    ∷ Changed 7 first_xid 0 Absent (Num (pos 1)) ∷ [])

-- `session r on 0 | session m on 0 | crash 0 after 0 keep 0 | go | hold r until m | r: get 0 | m: get 0`
abbrev pub held_while_down : ScriptParts
held_while_down =
    script 2 8 (0 ∷ 0 ∷ []) (((2, Session 0 0) ∷ (3, Session 1 0) ∷ (4, CrashAfter 0 0 (First 0)) ∷ [])
    ∷ ((6, Hold 0 1) ∷ (7, Statement 0 (Get 0)) ∷ (8, Statement 1 (Get 0)) ∷ []) ∷ [])

-- neither is connected, and the reader is answered first
abbrev pub both_refused : Past
both_refused =
    reverse (Opened 0 0 ∷ Opened 1 0 ∷ Crashed 4 0 ∷ Refused 7 NotConnected ∷ Refused 8 NotConnected ∷ [])

-- `session a on 0 | session b on 1 | a: put 0 7 | go | a: commit | crash 0 at mark keep` so much `| go | b: get 0`
abbrev pub crash_that_keeps : Keep → ScriptParts
crash_that_keeps keep =
    script 2 9 (0 ∷ 1 ∷ []) (((2, Session 0 0) ∷ (3, Session 1 1) ∷ (4, Statement 0 (Put 0 (Num (pos 7)))) ∷ [])
    ∷ ((6, Statement 0 Commit) ∷ (7, CrashMark 0 keep) ∷ []) ∷ ((9, Statement 1 (Get 0)) ∷ []) ∷ [])

-- with `all-1`, so that the mark's last byte is lost
abbrev pub crash_at_mark : ScriptParts
crash_at_mark = crash_that_keeps (AllBut 1)

-- with `all`, so that the mark is kept
abbrev pub crash_behind_mark : ScriptParts
crash_behind_mark = crash_that_keeps All

-- the mark is lost with its instance
abbrev pub mark_lost : Past
mark_lost =
    reverse (Opened 0 0 ∷ Opened 1 1 ∷ Started 4 0 0 ∷ Changed 4 first_xid 0 Absent (Num (pos 7)) ∷ Started 6 0 0
    ∷ Marked 6 first_xid 2 ∷ Crashed 7 0 ∷ Refused 6 Lost ∷ Recovered 1 ∷ Started 9 1 2 ∷ Rows 9 [] ∷ [])

-- the mark is kept, and so the transaction has committed, though its session isn't told
abbrev pub mark_kept : Past
mark_kept =
    reverse (Opened 0 0 ∷ Opened 1 1 ∷ Started 4 0 0 ∷ Changed 4 first_xid 0 Absent (Num (pos 7)) ∷ Started 6 0 0
    ∷ Marked 6 first_xid 2 ∷ Committed first_xid 2 0 ∷ Crashed 7 0 ∷ Refused 6 Lost ∷ Recovered 1 ∷ Started 9 1 2
    ∷ Rows 9 ((0, Num (pos 7)) ∷ []) ∷ [])

-- the transaction is marked before its commit started
abbrev pub early_mark : Past
early_mark =
    reverse (Opened 0 0 ∷ Opened 1 1 ∷ Started 4 0 0 ∷ Changed 4 first_xid 0 Absent (Num (pos 7))
    ∷ Marked 6 first_xid 2 ∷ [])

-- `crash 1 after 0 keep 0 | go | remaster 0 to 1 | checkpoint 1 | crash 1 after 0 keep 0 | start 0`
abbrev pub nothing_to_do : ScriptParts
nothing_to_do =
    script 2 7 [] (((2, CrashAfter 1 0 (First 0)) ∷ []) ∷ ((4, Remaster 0 1) ∷ (5, Checkpoint 1)
    ∷ (6, CrashAfter 1 0 (First 0)) ∷ (7, Start 0) ∷ []) ∷ [])

abbrev pub all_not_done : Past
all_not_done = reverse (Crashed 2 1 ∷ Recovered 2 ∷ NotDone 4 ∷ NotDone 5 ∷ NotDone 6 ∷ NotDone 7 ∷ [])

-- a line is answered twice
abbrev pub one_twice : Past
one_twice = reverse (Crashed 2 1 ∷ NotDone 4 ∷ NotDone 4 ∷ [])

-- another instance crashes than the line names
abbrev pub other_crashes : Past
other_crashes = reverse (Crashed 2 0 ∷ [])

-- the commit is refused as lost before its instance is
abbrev pub early_loss : Past
early_loss =
    reverse (Opened 0 0 ∷ Opened 1 1 ∷ Started 4 0 0 ∷ Changed 4 first_xid 0 Absent (Num (pos 7)) ∷ Started 6 0 0
    ∷ Marked 6 first_xid 2 ∷ Refused 6 Lost ∷ Crashed 7 0 ∷ [])

-- the commit isn't told that its instance is lost
abbrev pub untold_loss : Past
untold_loss =
    reverse (Opened 0 0 ∷ Opened 1 1 ∷ Started 4 0 0 ∷ Changed 4 first_xid 0 Absent (Num (pos 7)) ∷ Started 6 0 0
    ∷ Marked 6 first_xid 2 ∷ Crashed 7 0 ∷ [])

-- `session a on 0 | session b on 0 | a: put 0 1 | b: put 0 2`
abbrev pub two_writers : ScriptParts
two_writers =
    script 1 5 (0 ∷ 0 ∷ []) (((2, Session 0 0) ∷ (3, Session 1 0) ∷ (4, Statement 0 (Put 0 (Num (pos 1))))
    ∷ (5, Statement 1 (Put 0 (Num (pos 2)))) ∷ []) ∷ [])

abbrev pub row_is_held : Past
row_is_held =
    reverse (Opened 0 0 ∷ Opened 1 0 ∷ Started 4 0 0 ∷ Changed 4 first_xid 0 Absent (Num (pos 1)) ∷ Started 5 1 0
    ∷ Refused 5 (Busy first_xid) ∷ [])

-- nobody holds the row
abbrev pub row_is_free : Past
row_is_free = reverse (Opened 0 0 ∷ Opened 1 0 ∷ Started 5 1 0 ∷ Refused 5 (Busy first_xid) ∷ [])

-- the instance is up
abbrev pub instance_is_up : Past
instance_is_up = reverse (Opened 0 0 ∷ Opened 1 0 ∷ Refused 5 NotConnected ∷ [])

-- `session a on 0 | a: put 0 9223372036854775807 | a: add 0 1 | a: rollback to p`
abbrev pub largest : ScriptParts
largest =
    script 1 5 (0 ∷ []) (((2, Session 0 0) ∷ (3, Statement 0 (Put 0 (Num (pos 9223372036854775807))))
    ∷ (4, Statement 0 (Add 0 (pos 1))) ∷ (5, Statement 0 (RollbackTo (codes "p"))) ∷ []) ∷ [])

abbrev pub sum_is_outside : Past
sum_is_outside =
    reverse (Opened 0 0 ∷ Started 3 0 0 ∷ Changed 3 first_xid 0 Absent (Num (pos 9223372036854775807))
    ∷ Started 4 0 0 ∷ Refused 4 (Overflow (pos 9223372036854775807) (pos 1)) ∷ Started 5 0 0
    ∷ Refused 5 NoSavepoint ∷ [])

-- the sum is outside, and the add is told that another holds the row
abbrev pub wrong_cause : Past
wrong_cause =
    reverse (Opened 0 0 ∷ Started 3 0 0 ∷ Changed 3 first_xid 0 Absent (Num (pos 9223372036854775807))
    ∷ Started 4 0 0 ∷ Refused 4 (Busy first_xid) ∷ [])

-- the first transaction of an instance
abbrev pub xid_of : ℕ → Xid
xid_of inst = record { seg = inst; slot = 0; wrap = 1 }

-- the second transaction of an instance, in another slot
abbrev pub second_of : ℕ → Xid
second_of inst = record { seg = inst; slot = 1; wrap = 1 }

-- `session r on 0 | session m on 0 | r: put 0 1 | r: put 8 1 | r: commit | go | hold r until m | r: scan 0 15
-- | m: put 0 2 | m: put 8 2 | m: commit | go | r: scan 0 15`
abbrev pub held_scan : ScriptParts
held_scan =
    script 1 14 (0 ∷ 0 ∷ []) (((2, Session 0 0) ∷ (3, Session 1 0) ∷ (4, Statement 0 (Put 0 (Num (pos 1))))
    ∷ (5, Statement 0 (Put 8 (Num (pos 1)))) ∷ (6, Statement 0 Commit) ∷ [])
    ∷ ((8, Hold 0 1) ∷ (9, Statement 0 (Scan 0 15)) ∷ (10, Statement 1 (Put 0 (Num (pos 2))))
    ∷ (11, Statement 1 (Put 8 (Num (pos 2)))) ∷ (12, Statement 1 Commit) ∷ [])
    ∷ ((14, Statement 0 (Scan 0 15)) ∷ []) ∷ [])

-- the second transaction of instance 0
abbrev pub second_xid : Xid
second_xid = second_of 0

-- the scan tells the table as it started, after the other session has committed
abbrev pub scan_as_started : Past
scan_as_started =
    reverse (Opened 0 0 ∷ Opened 1 0 ∷ Started 4 0 0 ∷ Changed 4 first_xid 0 Absent (Num (pos 1)) ∷ Started 5 0 0
    ∷ Changed 5 first_xid 8 Absent (Num (pos 1)) ∷ Started 6 0 0 ∷ Marked 6 first_xid 2 ∷ Committed first_xid 2 0
    ∷ Acked 6 first_xid 2 ∷ Started 9 0 2 ∷ Started 10 1 2 ∷ Changed 10 second_xid 0 (Num (pos 1)) (Num (pos 2))
    ∷ Started 11 1 2 ∷ Changed 11 second_xid 8 (Num (pos 1)) (Num (pos 2)) ∷ Started 12 1 2 ∷ Marked 12 second_xid 3
    ∷ Committed second_xid 3 0 ∷ Acked 12 second_xid 3 ∷ Rows 9 ((0, Num (pos 1)) ∷ (8, Num (pos 1)) ∷ [])
    ∷ Started 14 0 3 ∷ Rows 14 ((0, Num (pos 2)) ∷ (8, Num (pos 2)) ∷ []) ∷ [])

-- `seed 1 | session r on 0 | session m on 1 | m: put 0 1 | m: put 8 1 | m: commit | go | r: scan 0 15 | m: put 0 2
-- | m: put 8 2 | m: commit`
abbrev pub scan_beside : ScriptParts
scan_beside =
    script 2 12 (0 ∷ 1 ∷ []) (((3, Session 0 0) ∷ (4, Session 1 1) ∷ (5, Statement 1 (Put 0 (Num (pos 1))))
    ∷ (6, Statement 1 (Put 8 (Num (pos 1)))) ∷ (7, Statement 1 Commit) ∷ [])
    ∷ ((9, Statement 0 (Scan 0 15)) ∷ (10, Statement 1 (Put 0 (Num (pos 2))))
    ∷ (11, Statement 1 (Put 8 (Num (pos 2)))) ∷ (12, Statement 1 Commit) ∷ []) ∷ [])

-- what its writer leaves, with what stands before its second transaction and after it
abbrev pub beside_writer : List Entry → List Entry → Past
beside_writer before after =
    reverse (Opened 0 0 ∷ Opened 1 1 ∷ Started 5 1 0 ∷ Changed 5 (xid_of 1) 0 Absent (Num (pos 1)) ∷ Started 6 1 0
    ∷ Changed 6 (xid_of 1) 8 Absent (Num (pos 1)) ∷ Started 7 1 0 ∷ Marked 7 (xid_of 1) 2 ∷ Committed (xid_of 1) 2 1
    ∷ Acked 7 (xid_of 1) 2 ∷ before ++ Started 10 1 2 ∷ Changed 10 (second_of 1) 0 (Num (pos 1)) (Num (pos 2))
    ∷ Started 11 1 2 ∷ Changed 11 (second_of 1) 8 (Num (pos 1)) (Num (pos 2)) ∷ Started 12 1 2
    ∷ Marked 12 (second_of 1) 3 ∷ Committed (second_of 1) 3 1 ∷ Acked 12 (second_of 1) 3 ∷ after)

-- the scan starts before the second commit, and tells nothing of it
abbrev pub scan_before : Past
scan_before = beside_writer (Started 9 0 2 ∷ []) (Rows 9 ((0, Num (pos 1)) ∷ (8, Num (pos 1)) ∷ []) ∷ [])

-- it starts after it, and tells all of it
abbrev pub scan_after : Past
scan_after = beside_writer [] (Started 9 0 3 ∷ Rows 9 ((0, Num (pos 2)) ∷ (8, Num (pos 2)) ∷ []) ∷ [])

-- it tells half of it
abbrev pub scan_between : Past
scan_between = beside_writer (Started 9 0 2 ∷ []) (Rows 9 ((0, Num (pos 1)) ∷ (8, Num (pos 2)) ∷ []) ∷ [])

-- it starts below the second commit, though that is answered
abbrev pub scan_below : Past
scan_below = beside_writer [] (Started 9 0 2 ∷ Rows 9 ((0, Num (pos 1)) ∷ (8, Num (pos 1)) ∷ []) ∷ [])

-- `session a on 0 | session b on 1 | a: put 0 1 | a: commit | go | b: put 0 2 | crash 2 after 9 keep 0
-- | crash 0 after 9 keep 0 | go | crash 1 after 0 keep all | go | start 1 | go | session d on 1 | d: get 0`
abbrev pub three_crashes : ScriptParts
three_crashes =
    script 3 16 (0 ∷ 1 ∷ 1 ∷ []) (((2, Session 0 0) ∷ (3, Session 1 1) ∷ (4, Statement 0 (Put 0 (Num (pos 1))))
    ∷ (5, Statement 0 Commit) ∷ [])
    ∷ ((7, Statement 1 (Put 0 (Num (pos 2)))) ∷ (8, CrashAfter 2 9 (First 0)) ∷ (9, CrashAfter 0 9 (First 0)) ∷ [])
    ∷ ((11, CrashAfter 1 0 All) ∷ []) ∷ ((13, Start 1) ∷ []) ∷ ((15, Session 2 1) ∷ (16, Statement 2 (Get 0)) ∷ []) ∷ [])

-- a crash comes while the put is under way; the transaction is rolled back as its instance starts
abbrev pub all_crash : Past
all_crash =
    reverse (Opened 0 0 ∷ Opened 1 1 ∷ Started 4 0 0 ∷ Changed 4 first_xid 0 Absent (Num (pos 1)) ∷ Started 5 0 0
    ∷ Marked 5 first_xid 2 ∷ Committed first_xid 2 0 ∷ Acked 5 first_xid 2 ∷ Started 7 1 2 ∷ Crashed 8 2
    ∷ Changed 7 (xid_of 1) 0 (Num (pos 1)) (Num (pos 2)) ∷ Crashed 9 0 ∷ Recovered 5 ∷ Crashed 11 1 ∷ Recovered 2
    ∷ Undone (xid_of 1) 0 ∷ Rolled (xid_of 1) ∷ Up 13 1 ∷ Opened 2 1 ∷ Started 16 2 2
    ∷ Rows 16 ((0, Num (pos 1)) ∷ []) ∷ [])

-- `session a on 0 | session b on 0 | session c on 1 | session d on 1 | session e on 2 | session f on 2` on the lines 3
-- to 8, and then `a: put 0 100 | a: put 1 100 | a: put 8 100 | a: commit | go | c: add 0 -30 | c: add 8 30 | c: commit
-- | go | e: add 8 -5 | e: add 1 5 | go | d: scan 0 15 | b: add 8 1 | go | crash 2 after 0 keep all | go | b: scan 0 15
-- | f: get 0 | start 2 | go | session g on 2 | g: add 1 -20 | g: add 0 20 | g: commit | go | a: scan 0 15`
abbrev pub transfers : ScriptParts
transfers =
    script 3 35 (0 ∷ 0 ∷ 1 ∷ 1 ∷ 2 ∷ 2 ∷ 2 ∷ []) (((3, Session 0 0) ∷ (4, Session 1 0) ∷ (5, Session 2 1)
    ∷ (6, Session 3 1) ∷ (7, Session 4 2) ∷ (8, Session 5 2) ∷ (9, Statement 0 (Put 0 (Num (pos 100))))
    ∷ (10, Statement 0 (Put 1 (Num (pos 100)))) ∷ (11, Statement 0 (Put 8 (Num (pos 100)))) ∷ (12, Statement 0 Commit)
    ∷ [])
    ∷ ((14, Statement 2 (Add 0 (neg_ℤ (pos 30)))) ∷ (15, Statement 2 (Add 8 (pos 30))) ∷ (16, Statement 2 Commit) ∷ [])
    ∷ ((18, Statement 4 (Add 8 (neg_ℤ (pos 5)))) ∷ (19, Statement 4 (Add 1 (pos 5))) ∷ [])
    ∷ ((21, Statement 3 (Scan 0 15)) ∷ (22, Statement 1 (Add 8 (pos 1))) ∷ [])
    ∷ ((24, CrashAfter 2 0 All) ∷ [])
    ∷ ((26, Statement 1 (Scan 0 15)) ∷ (27, Statement 5 (Get 0)) ∷ (28, Start 2) ∷ [])
    ∷ ((30, Session 6 2) ∷ (31, Statement 6 (Add 1 (neg_ℤ (pos 20)))) ∷ (32, Statement 6 (Add 0 (pos 20)))
    ∷ (33, Statement 6 Commit) ∷ [])
    ∷ ((35, Statement 0 (Scan 0 15)) ∷ []) ∷ [])

-- the transaction of the session `g`
abbrev pub late_xid : Xid
late_xid = second_of 2

-- what stands at SCN 3
abbrev pub rows_at_3 : List (ℕ × Value)
rows_at_3 = (0, Num (pos 70)) ∷ (1, Num (pos 100)) ∷ (8, Num (pos 130)) ∷ []

-- what is open at a crash is rolled back, and the sum of the rows stays
abbrev pub sum_stays : Past
sum_stays =
    reverse (Opened 0 0 ∷ Opened 1 0 ∷ Opened 2 1 ∷ Opened 3 1 ∷ Opened 4 2 ∷ Opened 5 2
    ∷ Started 9 0 0 ∷ Changed 9 first_xid 0 Absent (Num (pos 100)) ∷ Started 10 0 0
    ∷ Changed 10 first_xid 1 Absent (Num (pos 100)) ∷ Started 11 0 0
    ∷ Changed 11 first_xid 8 Absent (Num (pos 100)) ∷ Started 12 0 0 ∷ Marked 12 first_xid 2
    ∷ Committed first_xid 2 0 ∷ Acked 12 first_xid 2
    ∷ Started 14 2 2 ∷ Changed 14 (xid_of 1) 0 (Num (pos 100)) (Num (pos 70)) ∷ Started 15 2 2
    ∷ Changed 15 (xid_of 1) 8 (Num (pos 100)) (Num (pos 130)) ∷ Started 16 2 2 ∷ Marked 16 (xid_of 1) 3
    ∷ Committed (xid_of 1) 3 1 ∷ Acked 16 (xid_of 1) 3
    ∷ Started 18 4 3 ∷ Changed 18 (xid_of 2) 8 (Num (pos 130)) (Num (pos 125)) ∷ Started 19 4 3
    ∷ Changed 19 (xid_of 2) 1 (Num (pos 100)) (Num (pos 105))
    ∷ Started 21 3 3 ∷ Rows 21 rows_at_3 ∷ Started 22 1 3 ∷ Refused 22 (Busy (xid_of 2))
    ∷ Crashed 24 2 ∷ Recovered 4 ∷ Undone (xid_of 2) 0 ∷ Rolled (xid_of 2)
    ∷ Started 26 1 3 ∷ Rows 26 rows_at_3 ∷ Refused 27 NotConnected ∷ Up 28 2
    ∷ Opened 6 2 ∷ Started 31 6 3 ∷ Changed 31 late_xid 1 (Num (pos 100)) (Num (pos 80)) ∷ Started 32 6 3
    ∷ Changed 32 late_xid 0 (Num (pos 70)) (Num (pos 90)) ∷ Started 33 6 3 ∷ Marked 33 late_xid 4
    ∷ Committed late_xid 4 2 ∷ Acked 33 late_xid 4
    ∷ Started 35 0 4 ∷ Rows 35 ((0, Num (pos 90)) ∷ (1, Num (pos 80)) ∷ (8, Num (pos 130)) ∷ []) ∷ [])

-- the get tells what was lost with the mark
abbrev pub lost_row_is_read : Past
lost_row_is_read =
    reverse (Opened 0 0 ∷ Opened 1 1 ∷ Started 4 0 0 ∷ Changed 4 first_xid 0 Absent (Num (pos 7)) ∷ Started 6 0 0
    ∷ Marked 6 first_xid 2 ∷ Crashed 7 0 ∷ Refused 6 Lost ∷ Recovered 1 ∷ Started 9 1 2
    ∷ Rows 9 ((0, Num (pos 7)) ∷ []) ∷ [])

-- the get tells nothing of what was kept with the mark
abbrev pub kept_row_is_missed : Past
kept_row_is_missed = Rows 9 [] ∷ drop 1 mark_kept

-- the get is answered twice
abbrev pub answered_twice : Past
answered_twice = reverse (Opened 0 0 ∷ Crashed 3 1 ∷ Started 5 0 0 ∷ Rows 5 [] ∷ Rows 5 [] ∷ [])

-- `undo 8 | session r on 0 | session m on 0 | m: put 0 1 | m: commit | go | hold r until m | r: get 0 | m: put 0 2
-- | m: commit`, eight times `m: put 8 1`, and `m: commit`
abbrev pub little_undo : ScriptParts
little_undo = record {
  settings = record { instances = 1; blocks = 8; undo = 8; cache = default_cache; seed = default_seed };
  lines = 20;
  names = codes "r" ∷ codes "m" ∷ [];
  homes = 0 ∷ 0 ∷ [];
  waves =
      ((3, Session 0 0) ∷ (4, Session 1 0) ∷ (5, Statement 1 (Put 0 (Num (pos 1)))) ∷ (6, Statement 1 Commit) ∷ [])
      ∷ ((8, Hold 0 1) ∷ (9, Statement 0 (Get 0)) ∷ (10, Statement 1 (Put 0 (Num (pos 2)))) ∷ (11, Statement 1 Commit)
      ∷ (map (λ line. (line, Statement 1 (Put 8 (Num (pos 1)))))
      (12 ∷ 13 ∷ 14 ∷ 15 ∷ 16 ∷ 17 ∷ 18 ∷ 19 ∷ []) ++ (20, Statement 1 Commit) ∷ [])) ∷ [];
}

-- the third transaction of instance 0
abbrev pub third_xid : Xid
third_xid = record { seg = 0; slot = 2; wrap = 1 }

-- the reader waits, and the other session writes so many rows; these puts find what the one before left
abbrev pub written : List ℕ → List Entry
written lines =
    Opened 0 0 ∷ Opened 1 0 ∷ Started 5 1 0 ∷ Changed 5 first_xid 0 Absent (Num (pos 1)) ∷ Started 6 1 0
    ∷ Marked 6 first_xid 2 ∷ Committed first_xid 2 0 ∷ Acked 6 first_xid 2 ∷ Started 9 0 2 ∷ Started 10 1 2
    ∷ Changed 10 second_xid 0 (Num (pos 1)) (Num (pos 2)) ∷ Started 11 1 2 ∷ Marked 11 second_xid 3
    ∷ Committed second_xid 3 0 ∷ Acked 11 second_xid 3 ∷ Started 12 1 3 ∷ Changed 12 third_xid 8 Absent (Num (pos 1))
    ∷ flat_map (λ line. Started line 1 3 ∷ Changed line third_xid 8 (Num (pos 1)) (Num (pos 1)) ∷ []) lines

-- the reader's undo is overwritten by the last of them
abbrev pub undo_is_old : Past
undo_is_old =
    reverse (written (13 ∷ 14 ∷ 15 ∷ 16 ∷ 17 ∷ 18 ∷ 19 ∷ []) ++ Started 20 1 3 ∷ Marked 20 third_xid 4
    ∷ Committed third_xid 4 0 ∷ Acked 20 third_xid 4 ∷ Refused 9 (OldUndo second_xid 2 10) ∷ [])

-- one put earlier it isn't
abbrev pub undo_is_there : Past
undo_is_there =
    reverse (written (13 ∷ 14 ∷ 15 ∷ 16 ∷ 17 ∷ 18 ∷ []) ++ Refused 9 (OldUndo second_xid 2 10) ∷ [])

-- the last scan of `held_scan` tells what was there before the second commit
abbrev pub old_rows_are_read : Past
old_rows_are_read = Rows 14 ((0, Num (pos 1)) ∷ (8, Num (pos 1)) ∷ []) ∷ drop 1 scan_as_started

-- the last get of `three_crashes` tells what was rolled back
abbrev pub rolled_row_is_read : Past
rolled_row_is_read = Rows 16 ((0, Num (pos 2)) ∷ []) ∷ drop 1 all_crash

-- the last scan of `transfers` tells the half of a transaction
abbrev pub half_is_read : Past
half_is_read = Rows 35 ((0, Num (pos 70)) ∷ (1, Num (pos 80)) ∷ (8, Num (pos 130)) ∷ []) ∷ drop 1 sum_stays

-- the commit of `one_change` is answered before it is on the disk
abbrev pub acked_too_early : Past
acked_too_early =
    reverse (Opened 0 0 ∷ Started 3 0 0 ∷ Changed 3 first_xid 3 Absent (Num (pos 42)) ∷ Started 4 0 0
    ∷ Marked 4 first_xid 2 ∷ Acked 4 first_xid 2 ∷ [])
