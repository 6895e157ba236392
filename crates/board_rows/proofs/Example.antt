-- Runs that meet the premises. The first: a put and its commit, a scan on the other instance, a put there over it that
-- a crash leaves, its rollback by the first instance, and a scan over an older image once the other is back. The second:
-- a commit record and a put that a crash loses, a rollback of what was kept, and the lost put's transaction anew.
use Rattle.std.proofs.Common.{◌≡◌, ℕ, true, false, List, [], ◌∷◌, refl, arith, Option, Some, pos}
use Rattle.std.proofs.lemmas.Bool.{false≢true}
use Rattle.board_rows.proofs.Words.{Xid, Absent, Num, Entry, Opened, Started, Rows, Changed, Locked, Marked, Committed, Acked, Undone, Rolled, Crashed, Ended, Up, Moved, Deed, Changes, Locks, Range, Record, Does, TakesBack, Commits, RollsBack, DeedAt, Board, Event, after, nothing, Leads, MayTell}
use Rattle.board_rows.specs.Events

asked : ℕ → Option Range
asked n = Some (record { first = 0; count = 2 })

abbrev ends_at : Board → List Event → Board
ends_at b [] = b
ends_at b (e ∷ events) = ends_at (after b e) events

abbrev x : Xid
x = record { seg = 0; slot = 0; wrap = 1 }

abbrev y : Xid
y = record { seg = 1; slot = 0; wrap = 1 }

abbrev z : Xid
z = record { seg = 0; slot = 1; wrap = 1 }

abbrev first_deed : Deed
first_deed = Changes (record { row = 0; found = Absent; new = Num (pos 5) })

abbrev second_deed : Deed
second_deed = Changes (record { row = 0; found = Num (pos 5); new = Num (pos 7) })

abbrev first_mod : DeedAt
first_mod = record { xid = x; seq = 1; scn = 1; deed = first_deed }

abbrev m : DeedAt
m = record { xid = y; seq = 1; scn = 3; deed = second_deed }

abbrev old : List Record
old = Commits 2 x ∷ Does 1 x 1 first_deed ∷ []

abbrev newer : List Record
newer = RollsBack 0 4 y ∷ TakesBack 0 3 y 1 0 ∷ Does 3 y 1 second_deed ∷ []

abbrev events : List Event
events =
    Events.opens 0 0
    ∷ Events.opens 1 1
    ∷ Events.starts 1 0 0 0 0
    ∷ Events.changes 1 0 0 x 1 first_deed
    ∷ Events.starts 2 0 0 0 0
    ∷ Events.marks 2 x
    ∷ Events.settles (Commits 2 x ∷ []) (Does 1 x 1 first_deed) []
    ∷ Events.settles [] (Commits 2 x) (Does 1 x 1 first_deed ∷ [])
    ∷ Events.learns 0 2
    ∷ Events.raises 1 2
    ∷ Events.learns 1 2
    ∷ Events.acks 2 2 x
    ∷ Events.starts 3 1 1 0 0
    ∷ Events.reads 1 1 0 [] old (λ w. true)
    ∷ Events.reads 1 1 1 [] old (λ w. true)
    ∷ Events.answers 3 1
    ∷ Events.starts 4 1 1 0 0
    ∷ Events.changes 4 1 2 y 1 second_deed
    ∷ Events.settles [] (Does 3 y 1 second_deed) old
    ∷ Events.notes (Moved 8)
    ∷ Events.loses 1 3 (Crashed 9 1)
    ∷ Events.takes_back 0 y 1 0 0
    ∷ Events.rolls 0 y
    ∷ Events.settles (RollsBack 0 4 y ∷ []) (TakesBack 0 3 y 1 0) (Does 3 y 1 second_deed ∷ old)
    ∷ Events.settles [] (RollsBack 0 4 y) (TakesBack 0 3 y 1 0 ∷ Does 3 y 1 second_deed ∷ old)
    ∷ Events.joins 1 5 2
    ∷ Events.ups 9 1
    ∷ Events.opens 2 1
    ∷ Events.starts 5 2 1 0 0
    ∷ Events.reads 2 1 0 newer old (λ w. true)
    ∷ Events.reads 2 1 1 newer old (λ w. true)
    ∷ Events.answers 5 2
    ∷ []

run : Leads asked 2 nothing events (ends_at nothing events)
unfolding asked
run = (grind arith, (grind arith, (grind arith, (grind arith, (grind arith, (record { opened = refl }, (grind arith, (grind arith, (record { low = omega arith }, (tt, (record { low = omega arith }, (grind arith, (grind arith, (grind arith, (grind arith, (grind arith, (grind arith, (grind arith, (grind arith, (tt, (grind arith, (record { may = (refl, λ e. absurd (false≢true e)); taken = m; rest = []; newest = refl; number = refl; place = refl; stays = λ e. refl }, (grind arith, (grind arith, (grind arith, (grind arith, (grind arith, (grind arith, (grind arith, (grind arith, (grind arith, (grind arith, refl))))))))))))))))))))))))))))))))

-- what it tells, the newest entry first
abbrev journal : List Entry
journal =
    Rows 5 ((0, Num (pos 5)) ∷ [])
    ∷ Started 5 2 2
    ∷ Opened 2 1
    ∷ Up 9 1
    ∷ Rolled y
    ∷ Undone y 0
    ∷ Crashed 9 1
    ∷ Moved 8
    ∷ Changed 4 y 0 (Num (pos 5)) (Num (pos 7))
    ∷ Started 4 1 2
    ∷ Rows 3 ((0, Num (pos 5)) ∷ [])
    ∷ Started 3 1 2
    ∷ Acked 2 x 2
    ∷ Committed x 2 0
    ∷ Marked 2 x 2
    ∷ Started 2 0 0
    ∷ Changed 1 x 0 Absent (Num (pos 5))
    ∷ Started 1 0 0
    ∷ Opened 1 1
    ∷ Opened 0 0
    ∷ []

tells : (ends_at nothing events).past ≡ journal
tells = refl

-- a header of a later moment than the image tells of the commit
header : MayTell (ends_at nothing events) 2 0 x newer (Commits 2 x ∷ []) (Does 1 x 1 first_deed ∷ [])
header = grind arith

abbrev again : List Record
again =
    Does 7 z 3 (Changes (record { row = 1; found = Absent; new = Num (pos 7) }))
    ∷ Does 6 z 2 (Locks 1) ∷ RollsBack 1 2 x ∷ TakesBack 1 1 x 1 0 ∷ Does 1 x 1 first_deed ∷ []

abbrev losing : List Event
losing =
    Events.opens 0 0
    ∷ Events.opens 1 1
    ∷ Events.starts 1 0 0 0 0
    ∷ Events.changes 1 0 0 x 1 first_deed
    ∷ Events.opens 2 0
    ∷ Events.starts 2 2 0 0 0
    ∷ Events.changes 2 2 0 z 2 (Locks 1)
    ∷ Events.starts 3 0 0 0 0
    ∷ Events.marks 3 x
    ∷ Events.loses 0 1 (Ended 0 false)
    ∷ Events.settles [] (Does 1 x 1 first_deed) []
    ∷ Events.takes_back 1 x 1 0 0
    ∷ Events.rolls 1 x
    ∷ Events.settles (RollsBack 1 2 x ∷ []) (TakesBack 1 1 x 1 0) (Does 1 x 1 first_deed ∷ [])
    ∷ Events.settles [] (RollsBack 1 2 x) (TakesBack 1 1 x 1 0 ∷ Does 1 x 1 first_deed ∷ [])
    ∷ Events.joins 0 5 0
    ∷ Events.ups 9 0
    ∷ Events.opens 3 0
    ∷ Events.starts 5 3 0 0 0
    ∷ Events.starts 5 3 0 5 0
    ∷ Events.changes 5 3 5 z 2 (Locks 1)
    ∷ Events.starts 6 3 0 0 0
    ∷ Events.changes 6 3 5 z 3 (Changes (record { row = 1; found = Absent; new = Num (pos 7) }))
    ∷ Events.starts 7 3 0 0 0
    ∷ Events.reads 3 0 0 [] again (λ w. false)
    ∷ Events.reads 3 0 1 [] again (λ w. false)
    ∷ Events.answers 7 3
    ∷ []

run-losing : Leads asked 2 nothing losing (ends_at nothing losing)
unfolding asked
run-losing = (grind arith, (grind arith, (grind arith, (grind arith, (grind arith, (grind arith, (grind arith, (grind arith, (record { opened = refl }, (grind arith, (grind arith, (record { may = (refl, λ e. absurd (false≢true e)); taken = first_mod; rest = []; newest = refl; number = refl; place = refl; stays = λ e. refl }, (grind arith, (grind arith, (grind arith, (grind arith, (grind arith, (grind arith, (grind arith, (grind arith, (grind arith, (grind arith, (grind arith, (grind arith, (grind arith, (grind arith, (grind arith, refl)))))))))))))))))))))))))))

abbrev journal-losing : List Entry
journal-losing =
    Rows 7 ((1, Num (pos 7)) ∷ [])
    ∷ Started 7 3 5
    ∷ Changed 6 z 1 Absent (Num (pos 7))
    ∷ Started 6 3 5
    ∷ Locked 5 z 1
    ∷ Started 5 3 5
    ∷ Started 5 3 0
    ∷ Opened 3 0
    ∷ Up 9 0
    ∷ Rolled x
    ∷ Undone x 0
    ∷ Ended 0 false
    ∷ Marked 3 x 3
    ∷ Started 3 0 0
    ∷ Locked 2 z 1
    ∷ Started 2 2 0
    ∷ Opened 2 0
    ∷ Changed 1 x 0 Absent (Num (pos 5))
    ∷ Started 1 0 0
    ∷ Opened 1 1
    ∷ Opened 0 0
    ∷ []

tells-losing : (ends_at nothing losing).past ≡ journal-losing
tells-losing = refl
