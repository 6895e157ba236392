-- Every event keeps the board sound.
use Rattle.board_rows.proofs.Lists.{cases}
use Rattle.std.proofs.Common.{◌≡◌, ◌≢◌, ℕ, suc, ◌+◌, ◌<◌, ◌≤◌, Bool, true, false, cond, ◌&&◌, ◌||◌, ◌==◌, max, List, ◌∷◌, ◌++◌, refl, sym, ap, ◌∙◌, subst, arith, inl, inr, ◌⊎◌, Option, Some, None, IsSomeAnd}
use Rattle.std.specs.Option.{option_map_or}
use Rattle.std.specs.List.{AllByRecursion}
use Rattle.std.proofs.lemmas.Bool.{eqb-true}
use Rattle.board_rows.proofs.Words.{Xid, Entry, Marked, Committed, Undone, Rolled, Plain, Refused, Recovered, Moved, Checkpointed, NotDone, Start, Past, same_xid, home_of, is_up, Deed, Changes, Locks, row_of, changes_of, standing, is_open, holds, Commit, entered, marked, history, sees, is_of, last_of, own_changes, stood, is_commit_by, is_mark, started_up_to, came_up, acked_up_to, Range, CommitIsProper, FoundIsSeen, RowsAreSeen, changes_in, Replays, Each, EachSuffix, Record, Does, TakesBack, Commits, RollsBack, DeedAt, without, thread_of, scn_of, xid_of, stands, of_xid, Fresh, Active, Over, stage, Rising, FreeUnder, IsFree, on, deeds_in, committed_at, commit_of, logged, wrap_in, has_end, Board, Scan, IsLate, IsNote, MayOpen, MayStart, MayRead, MayChange, MayTakeBack, MayRoll, MaySettle, MayAnswer, MayAck, MayUp, MayJoin, put, after, entry_of, unread, anew, read_on, is_own, value_there, Sound, IsRead, RowsStand, ScanIsSeen, Answers, RowsAreLate, RecordIsIn, Sessions, Follows}
use Rattle.board_rows.proofs.Lists.{cases, all_of, all_map, all_both, all_append, clash, suffix_here, suffix_map}
use Rattle.board_rows.specs.Events
use Rattle.board_rows.proofs.Table.{OneMore}
use Rattle.board_rows.proofs.Order.{pair_without, same_xid-sym}
use Rattle.board_rows.proofs.ClockSteps.{put-here, put-all, put-rises, clocks-records, clocks-raises, clocks-learns, clocks-settles}
use Rattle.board_rows.proofs.RowSteps.{IsNewest, newest-first, rows-changes, rows-back, rows-ends, rows-settles, replay-settles}
use Rattle.board_rows.proofs.TxnSteps.{MayGoOn, txns-changes, txns-back, txns-marks, txns-rolls, goes-new, active-new}
use Rattle.board_rows.proofs.TxnSettles.{all-placed, txns-settles, settled-quiet, apart-quiet, apart-commit}
use Rattle.board_rows.proofs.Logged.{logged-quiet, logged-commit, stands-over}
use Rattle.board_rows.proofs.NumberSteps.{numbers-changes}
use Rattle.board_rows.proofs.SegmentSteps.{segments-changes, segments-back, segments-marks, segments-rolls, segments-settles, segments-ups}
use Rattle.board_rows.proofs.Owns.{under-up, under-committed-more, under-fresh-all}
use Rattle.board_rows.proofs.LateSteps.{late-reads, late-raises, late-changes, late-back, late-marks, late-rolls, late-settles}
use Rattle.board_rows.proofs.Look.{changes-free, own-is, live-new, live-low, look-sees, look-late, change-sees, OfRec, stands-from}
use Rattle.board_rows.proofs.AnswerSteps.{each-read, scan-read, answers-same, told-same, settled-same, unread-seen, anew-at, scan-reads, by_own}
use Rattle.board_rows.proofs.SessionSteps.{none-stood, some-stood, row-free, sessions-changes, sessions-ends, starts-starts, starts-acks, starts-proper, starts-joins, starts-ups}

module _ (asked : ℕ → Option Range) (insts : ℕ) (b : Board) (sound : Sound asked insts b) where
  abbrev told_at : Xid → Option ℕ
  told_at y = committed_at y b.past

  -- under the deeds of a session's transaction all on their rows are free
  abbrev Under : ℕ → Xid → List Record → Type 0
  Under z y older = FreeUnder told_at (started_up_to z b.past) y (stands older)

  -- what is read for a session is what it sees
  abbrev Scanned : (ℕ → ℕ) → ℕ → Scan → Type 0
  Scanned floor y scan = ScanIsSeen floor scan (λ s. sees (history b.past) b.past (record { session = y; snapshot = s }))

  higher : (t : Bool) (n m : ℕ) → m ≤ cond t (max n m) m
  higher t n m = grind arith

  was_open : (y : Xid) (t : Bool) → cond t false (is_open y b.past) ≡ true → is_open y b.past ≡ true
  was_open y t e = grind arith

  pub keeps-opens : (z i : ℕ) → MayOpen insts b z i → Sound asked insts (after b (Events.opens z i))
  keeps-opens z i may = grind arith

  pub keeps-starts : (n z i e first : ℕ) → MayStart b z i e → Sound asked insts (after b (Events.starts n z i e first))
  keeps-starts n z i e first may = assumption (clocks-learns sound.clocks i e may.low, starts-starts sound.starts z i e may.home may.stays, owns, reads_at, scans, start)
    where
      s : ℕ
      s = max (b.known i) e

      start : (acked_up_to b.past ≤ s) × (started_up_to z b.past ≤ s) × IsSomeAnd (home_of z b.past) (λ i. (is_up i b.past ≡ true) × (came_up z b.past ≡ false))
      start = let low = starts-proper sound.starts z i e may.home may.up may.stays in (low.0, low.1, rw may.home (may.up, may.stays))

      owns : (y : ℕ) (x : Xid) → last_of y b.past ≡ Some x → is_open x b.past ≡ true → EachSuffix (λ older. FreeUnder told_at (cond (y == z) (max s (started_up_to y b.past)) (started_up_to y b.past)) x (stands older)) b.records
      owns y x f o = suffix_map _ _ b.records (λ older. under-up told_at (started_up_to y b.past) _ x (stands older) (higher (y == z) s (started_up_to y b.past))) (sound.owns y x f o)

      reads_at : (y : ℕ) → (put b.scan z (unread s first) y).snapshot ≡ cond (y == z) (max s (started_up_to y b.past)) (started_up_to y b.past)
      reads_at y = grind (arith, cases, start, sound.reads_at)

      scans : (y : ℕ) → Scanned b.floor y (put b.scan z (unread s first) y)
      scans = put-all (Scanned b.floor) b.scan z (unread s first) (unread-seen b.floor (history b.past) s first _) (λ y _. sound.answers.scans y)

  pub keeps-learns : (i e : ℕ) → e ≤ b.clock i → Sound asked insts (after b (Events.learns i e))
  keeps-learns i e may = grind arith

  pub keeps-raises : (i c : ℕ) → Sound asked insts (after b (Events.raises i c))
  keeps-raises i c = assumption (clocks-raises sound.clocks i c, late-raises b.records b.clock b.floor (λ x. is_open x b.past) told_at (put b.clock i (max (b.clock i) c)) (put-rises b.clock i (max (b.clock i) c) (omega arith)) sound.late)

  pub keeps-reads : (z i k : ℕ) (newer there : List Record) (status : Xid → Bool) → MayRead b z i k newer there status → Sound asked insts (after b (Events.reads z i k newer there status))
  keeps-reads z i k newer there status may = assumption (
    late-reads b.records b.clock b.floor (λ x. is_open x b.past) told_at k (b.scan z).snapshot (look-late asked insts b sound z i (b.scan z).snapshot k newer there status may.look) sound.late,
    put-all (λ y scan. scan.snapshot ≡ started_up_to y b.past) b.scan z (read_on (b.scan z) (value_there b z k there status)) (sound.reads_at z) (λ y _. sound.reads_at y),
    each-read asked b.floor floor rise b.past sound.answers.read,
    scans,
  )
    where
      floor : ℕ → ℕ
      floor = put b.floor k (max (b.floor k) (b.scan z).snapshot)

      rise : (j : ℕ) → b.floor j ≤ floor j
      rise = put-rises b.floor k (max (b.floor k) (b.scan z).snapshot) (omega arith)

      here : Scanned floor z (read_on (b.scan z) (value_there b z k there status))
      here = rw (look-sees asked insts b sound z i (b.scan z).snapshot k newer there status may.look) (scan-reads b.floor (history b.past) (b.scan z) k _ may.next (sound.answers.scans z))

      scans : (y : ℕ) → Scanned floor y (put b.scan z (read_on (b.scan z) (value_there b z k there status)) y)
      scans = put-all (Scanned floor) b.scan z _ here (λ y _. scan-read b.floor floor rise (b.scan y) _ (sound.answers.scans y))

  pub keeps-answers : (n z : ℕ) → MayAnswer asked b n z → Sound asked insts (after b (Events.answers n z))
  keeps-answers n z may = grind arith

  pub keeps-acks : (n c : ℕ) (x : Xid) → MayAck insts b n c x → Sound asked insts (after b (Events.acks n c x))
  keeps-acks n c x may = grind (arith, cases, starts-acks, some-stood)

  drawn-at : (newer : List Record) (r : Record) (there : List Record) → b.records ≡ newer ++ r ∷ there → scn_of r ≤ b.clock (thread_of r)
  drawn-at newer r there place = (all_append (λ r. scn_of r ≤ b.clock (thread_of r)) newer (r ∷ there) (subst (AllByRecursion (λ r. scn_of r ≤ b.clock (thread_of r))) place sound.clocks.drawn)).1.0

  pub keeps-notes : (e : Entry) → IsNote e → Sound asked insts (after b (Events.notes e))
  keeps-notes (Plain n) h = assumption
  keeps-notes (Refused n cause) h = assumption
  keeps-notes (Recovered is) h = assumption
  keeps-notes (Moved line) h = assumption
  keeps-notes (Checkpointed line) h = assumption
  keeps-notes (NotDone line) h = assumption
  keeps-notes _ h = absurd h

  -- what sessions read, where a record of x is made
  scans-recorded : (x : Xid) (now : Past) → ((z : ℕ) → last_of z now ≡ last_of z b.past) → ((y : Xid) → same_xid y x ≡ false → (is_open y now ≡ is_open y b.past) × (standing y now ≡ standing y b.past))
      → (z : ℕ) → ScanIsSeen b.floor (anew (is_own (last_of z b.past) x) (b.scan z)) (by_own b.floor (history b.past) (own_changes z now))
  scans-recorded x now last other z = grind arith

  rise : (i : ℕ) (j : ℕ) → b.clock j ≤ put b.clock i (b.clock i + 1) j
  rise i = put-rises b.clock i (b.clock i + 1) (omega arith)

  -- what is read is read at the same snapshot
  scans-at : (x : Xid) (z : ℕ) → (anew (is_own (last_of z b.past) x) (b.scan z)).snapshot ≡ started_up_to z b.past
  scans-at x z = anew-at (is_own (last_of z b.past) x) (b.scan z) ∙ sound.reads_at z

  -- an end leaves who stands over what
  owns-ends : (x : Xid) (z : ℕ) (y : Xid) → last_of z b.past ≡ Some y → cond (same_xid y x) false (is_open y b.past) ≡ true → Under z y b.records × EachSuffix (Under z y) b.records
  owns-ends x z y f o = let h = sound.owns z y f (was_open y (same_xid y x) o) in (suffix_here (Under z y) b.records h, h)

  ended-by : (x : Xid) (o : Option ℕ) (y : Xid) → cond (same_xid y x) true (has_end y b.past) ≡ true → cond (same_xid y x) (Over o) (stage y b.records) ≢ Fresh
  ended-by x o y e f = grind (arith, sound.numbers.ended y)

  pub keeps-takes_back : (i : ℕ) (x : Xid) (seq row left : ℕ) → MayTakeBack b i x seq row left → Sound asked insts (after b (Events.takes_back i x seq row left))
  keeps-takes_back i x seq row left may = assumption (
    clocks-records sound.clocks i (TakesBack i (b.clock i + 1) x seq row) refl refl,
    txns-back sound.txns i (b.clock i + 1) x seq row left may.taken may.rest may.may.0 may.may.1 may.newest first.1 may.stays,
    segments-back sound.segments i (b.clock i + 1) x seq row may.may.0 may.may.1,
    rows-back sound.rows i (b.clock i + 1) x seq row (active-new sound.txns x may.may.0) first.0,
    owns,
    late-raises (TakesBack i (b.clock i + 1) x seq row ∷ b.records) b.clock b.floor (λ x. is_open x b.past) told_at (put b.clock i (b.clock i + 1)) (rise i)
        (late-back b.records b.clock b.floor (λ x. is_open x b.past) told_at i (b.clock i + 1) x seq row sound.late),
    scans-at x,
    scans-recorded x (Undone x left ∷ b.past) (λ z. refl) (λ y off. (refl, rw off refl)),
    none-stood x b.past (active-new sound.txns x may.may.0),
  )
    where
      first : IsNewest x seq row (stands b.records) × (of_xid x (without x seq row (stands b.records)) ≡ may.rest)
      first = newest-first x seq row (stands b.records) may.taken may.rest may.newest may.number may.place

      owns : (z : ℕ) (y : Xid) → last_of z b.past ≡ Some y → is_open y b.past ≡ true → FreeUnder told_at (started_up_to z b.past) y (without x seq row (stands b.records)) × EachSuffix (Under z y) b.records
      owns z y f o = (pair_without _ x seq row (stands b.records) (suffix_here (Under z y) b.records (sound.owns z y f o)), sound.owns z y f o)

  pub keeps-marks : (n : ℕ) (x : Xid) → is_open x b.past ≡ true → Sound asked insts (after b (Events.marks n x))
  keeps-marks n x is = assumption (
    clocks-records sound.clocks x.seg (Commits c x) refl refl,
    txns-marks sound.txns c x is (let le = sound.clocks.lasts x.seg in omega arith) (all_map _ _ b.records below (live-low asked insts b sound)),
    segments-marks sound.segments c x,
    rows-ends sound.rows (Commits c x) refl,
    owns-ends x,
    sound.log_history ∙ sym unlogged,
    ended-by x (Some c),
    sessions-ends sound.sessions x (Some c),
    late-raises (Commits c x ∷ b.records) b.clock b.floor (λ y. cond (same_xid y x) false (is_open y b.past)) told_at (put b.clock x.seg c) (rise x.seg)
        (late-marks b.records b.clock b.floor (λ x. is_open x b.past) told_at c x is ((sound.txns.each x).active is) (omega arith) sound.late),
    scans-at x,
    scans-recorded x (Marked n x c ∷ b.past) (λ z. refl) (λ y off. (rw off refl, refl)),
    none-stood x b.past (active-new sound.txns x ((sound.txns.each x).active is)),
  )
    where
      c : ℕ
      c = b.clock x.seg + 1

      unlogged : logged b.durable (Commits c x ∷ b.records) ≡ logged b.durable b.records
      unlogged = grind (arith, cases, sound.clocks.lasts x.seg)

      below : (r : Record) → (is_open (xid_of r) b.past ≡ true → scn_of r ≤ b.clock (xid_of r).seg) → same_xid (xid_of r) x ≡ true → scn_of r < c
      below r low same = grind (arith, cases)

  pub keeps-rolls : (i : ℕ) (x : Xid) → MayRoll b i x → Sound asked insts (after b (Events.rolls i x))
  keeps-rolls i x may = assumption (
    clocks-records sound.clocks i (RollsBack i (b.clock i + 1) x) refl refl,
    txns-rolls sound.txns i (b.clock i + 1) x may.may.0 may.none,
    segments-rolls sound.segments i (b.clock i + 1) x may.may.0 may.may.1,
    rows-ends sound.rows (RollsBack i (b.clock i + 1) x) refl,
    owns-ends x,
    ended-by x None,
    sessions-ends sound.sessions x None,
    late-raises (RollsBack i (b.clock i + 1) x ∷ b.records) b.clock b.floor (λ y. cond (same_xid y x) false (is_open y b.past)) told_at (put b.clock i (b.clock i + 1)) (rise i)
        (late-rolls b.records b.clock b.floor (λ x. is_open x b.past) told_at i (b.clock i + 1) x sound.late),
    scans-at x,
    scans-recorded x (Rolled x ∷ b.past) (λ z. refl) (λ y off. (rw off refl, refl)),
    none-stood x b.past (active-new sound.txns x may.may.0),
  )

  -- a record that tells nothing becomes durable
  settles-quiet : (newer : List Record) (r : Record) (there : List Record) → MaySettle b newer r there → ((e : ℕ) (y : Xid) → Commits e y ≡ r → ⊥) → Sound asked insts (record b { durable = put b.durable (thread_of r) (scn_of r) })
  settles-quiet newer r there may never = assumption (
    clocks-settles sound.clocks (thread_of r) (scn_of r) (drawn-at newer r there may.place),
    txns-settles sound.txns newer r there told_at (λ c i. stood (is_commit_by c i) b.past) may.place may.new may.first sound.clocks.rising (λ y. settled-quiet r never y (told_at y)) (apart-quiet sound.txns (thread_of r) (scn_of r) may.new),
    segments-settles sound.segments (thread_of r) (scn_of r) may.new,
    sound.log_history ∙ sym (logged-quiet b.durable r may.new b.records (rw may.place (all-placed (b.durable (thread_of r)) newer r there (subst Rising may.place sound.clocks.rising) may.first)) never),
  )

  settles-commit : (newer : List Record) (c : ℕ) (x : Xid) (there : List Record) → MaySettle b newer (Commits c x) there → Sound asked insts (after b (Events.settles newer (Commits c x) there))
  settles-commit newer c x there may = assumption (
    clocks-settles sound.clocks x.seg c (drawn-at newer (Commits c x) there may.place),
    txns-settles sound.txns newer (Commits c x) there now (λ d j. (d == c && j == x.seg) || stood (is_commit_by d j) b.past) may.place may.new may.first sound.clocks.rising (λ y. refl) (apart-commit sound.txns c x may.new),
    segments-settles sound.segments x.seg c may.new,
    rows-settles sound.rows x a now refl more marks.0 below,
    owns,
    told_history,
    late-settles b.records b.clock b.floor (λ y. is_open y b.past) told_at now less sound.late,
    answers,
    told_same.0,
    told_same.1,
    replay,
    proper,
  )
    where
      now : Xid → Option ℕ
      now y = cond (same_xid y x) (Some c) (committed_at y b.past)

      is : stage x b.records ≡ Over (Some c)
      is = (all_append (RecordIsIn b.records (λ y. is_open y b.past)) newer (Commits c x ∷ there) (subst (AllByRecursion (RecordIsIn b.records (λ y. is_open y b.past))) may.place sound.txns.each_record)).1.0.ends

      marks : (marked x c b.past ≡ changes_of (deeds_in (of_xid x (stands b.records)))) × (stood (is_mark x c) b.past ≡ true)
      marks = (sound.txns.each x).marks c is

      a : Commit
      a = record { commit_scn = c; inst = x.seg; xid = x; changes = marked x c b.past }

      more : OneMore x c told_at now
      more = record { new = grind (arith, cases, (sound.txns.each x).commits, may.new, is); is = λ y. ap (λ (t : Bool). cond t (Some c) (committed_at y b.past)) (same_xid-sym y x) }

      owns : (z : ℕ) (y : Xid) → last_of z b.past ≡ Some y → is_open y b.past ≡ true → EachSuffix (λ older. FreeUnder now (started_up_to z b.past) y (stands older)) b.records
      owns z y f o = suffix_map _ _ b.records (λ older. under-committed-more x c told_at now (started_up_to z b.past) y (stands older) more) (sound.owns z y f o)

      told_history : entered a (history b.past) ≡ logged (put b.durable x.seg c) b.records
      told_history =
          let mods : of_xid x (stands b.records) ≡ of_xid x (stands there) = ap (λ recs. of_xid x (stands recs)) may.place ∙ (stands-over c x newer there (subst Follows may.place sound.txns.follows)).1 in
          ap (λ changes. entered (record { commit_scn = c; inst = x.seg; xid = x; changes = changes }) (history b.past)) (marks.0 ∙ ap (λ (ms : List DeedAt). changes_of (deeds_in ms)) mods)
          ∙ (ap (entered (commit_of c x there)) (sound.log_history ∙ ap (logged b.durable) may.place)
          ∙ (sym (logged-commit b.durable c x may.new newer there (subst Rising may.place sound.clocks.rising) may.first) ∙ ap (logged (put b.durable x.seg c)) (sym may.place)))

      one : (r : Record) → RecordIsIn b.records (λ y. is_open y b.past) r → OfRec (λ m. same_xid x m.xid ≡ true → m.scn < c) r
      one r h = grind (arith, cases, is)

      below : AllByRecursion (λ m. same_xid x m.xid ≡ true → m.scn < c) (stands b.records)
      below = stands-from _ b.records (all_map _ _ b.records one sound.txns.each_record)

      less : (y : Xid) → now y ≡ None → committed_at y b.past ≡ None
      less y e = grind arith

      answers : Answers asked b.floor b.scan b.past (entered a (history b.past))
      answers = answers-same asked b.floor (history b.past) (entered a (history b.past)) (settled-same b.records b.clock b.floor (λ y. is_open y b.past) x a more.new is marks.0 below sound.late sound.rows) b.scan b.past sound.answers

      told_same : Each (RowsAreSeen asked (entered a (history b.past))) b.past × Each (FoundIsSeen (entered a (history b.past))) b.past
      told_same = told-same asked b.floor (history b.past) (entered a (history b.past)) (settled-same b.records b.clock b.floor (λ y. is_open y b.past) x a more.new is marks.0 below sound.late sound.rows) b.past sound.answers.read sound.good_rows sound.good.found

      replay : Replays (changes_in (entered a (history b.past)))
      replay = replay-settles sound.rows x a more.new marks.0 below sound.good.replay

      proper : CommitIsProper b.past (Committed x c x.seg)
      proper = (refl, marks.1, none-stood x b.past more.new, sound.txns.apart c x.seg may.new)

  pub keeps-settles : (newer : List Record) (r : Record) (there : List Record) → MaySettle b newer r there → Sound asked insts (after b (Events.settles newer r there))
  keeps-settles newer (Commits c x) there may = settles-commit newer c x there may
  keeps-settles newer (Does c x seq deed) there may = settles-quiet newer (Does c x seq deed) there may (λ e y f. (cc))
  keeps-settles newer (TakesBack i c x seq row) there may = settles-quiet newer (TakesBack i c x seq row) there may (λ e y f. (cc))
  keeps-settles newer (RollsBack i c x) there may = settles-quiet newer (RollsBack i c x) there may (λ e y f. (cc))

  -- a change or a lock
  module _ (n z s : ℕ) (x : Xid) (seq : ℕ) (deed : Deed) (may : MayChange b n z s x seq deed) where
    abbrev i : ℕ
    i = x.seg

    abbrev recs : List Record
    recs = Does (b.clock i + 1) x seq deed ∷ b.records

    abbrev scn : ℕ → ℕ
    scn = put b.clock i (b.clock i + 1)

    abbrev live : Xid → Bool
    live y = cond (same_xid y x) true (is_open y b.past)

    abbrev floor : ℕ → ℕ
    floor = put b.floor (row_of deed) (max (b.floor (row_of deed)) s)

    goes : MayGoOn b.records (λ y. is_open y b.past) x
    goes = elim may.mine [ inl o ↦ inl (own-is z x b.past o).1 | inr o ↦ inr o.1 ]

    goes-active : ((is_open x b.past ≡ true) × (stage x b.records ≡ Active)) ⊎ (stage x b.records ≡ Fresh)
    goes-active = elim may.mine [ inl o ↦ inl ((own-is z x b.past o).1, (sound.txns.each x).active (own-is z x b.past o).1) | inr o ↦ inr o.1 ]

    mine : (last_of z b.past ≡ Some x) ⊎ (stage x b.records ≡ Fresh)
    mine = elim may.mine [ inl o ↦ inl (own-is z x b.past o).0 | inr o ↦ inr o.1 ]

    free : AllByRecursion (IsFree told_at s x (row_of deed)) (stands b.records)
    free = changes-free asked insts b sound n z s x seq deed may

    change-new : committed_at x b.past ≡ None
    change-new = goes-new sound.txns x goes

    late-one : (m : DeedAt) → IsFree told_at s x (row_of deed) m → on (row_of deed) m ≡ true → committed_at m.xid b.past ≡ None → IsLate s (live m.xid) (cond (same_xid m.xid x) Active (stage m.xid b.records)) (scn m.xid.seg)
    late-one m free a new = grind (arith, cases, may.low, change-new)

    change-late : RowsAreLate recs scn floor live told_at
    change-late =
        late-reads recs scn b.floor live told_at (row_of deed) s (all_map (IsFree told_at s x (row_of deed)) _ (stands recs) late-one ((λ _. inl refl), free))
        (late-raises recs b.clock b.floor live told_at scn (rise i) (late-changes b.records b.clock b.floor (λ y. is_open y b.past) told_at (b.clock i + 1) x seq deed goes-active may.floor sound.late))

    change-rises : (j : ℕ) → b.floor j ≤ floor j
    change-rises = put-rises b.floor (row_of deed) (max (b.floor (row_of deed)) s) (omega arith)

    change-free : (y : Xid) → holds y (row_of deed) b.past ≡ true → y ≡ x
    change-free = row-free (row_of deed) s x b.past told_at (stands b.records) (λ y open_. (live-new asked insts b sound y open_, (sound.txns.each y).stands (inl open_))) free

    -- what the other sessions read
    -- a transaction of another session is another
    differ : (y : ℕ) (w : Xid) → (z == y) ≡ false → last_of y b.past ≡ Some w → same_xid w x ≡ false
    differ y w off e = grind (arith, cases, mine, sound.sessions.single z y x, sound.sessions.used y x)

    -- what the other sessions read
    change-scans : (now : Past) → ((y : ℕ) → last_of y now ≡ cond (is_of y n b.past) (Some x) (last_of y b.past)) → ((y : Xid) → same_xid y x ≡ false → (is_open y now ≡ is_open y b.past) × (standing y now ≡ standing y b.past))
        → (y : ℕ) → ScanIsSeen floor (put b.scan z (unread (b.scan z).snapshot (b.scan z).first) y) (by_own b.floor (history b.past) (own_changes y now))
    change-scans now last other = grind (arith, cases)

    mine-wrap : (stage x b.records ≡ Active) ⊎ (x.wrap ≡ suc (wrap_in x.seg x.slot b.records))
    mine-wrap = elim may.mine [ inl o ↦ inl ((sound.txns.each x).active (own-is z x b.past o).1) | inr o ↦ inr o.2 ]

    change-owns : (y : ℕ) (w : Xid) → cond (is_of y n b.past) (Some x) (last_of y b.past) ≡ Some w → live w ≡ true → EachSuffix (Under y w) recs
    change-owns y w f o = by (z == y) refl (subst (λ (p : Option Start). cond (option_map_or (λ start. start.session == y) p false) (Some x) (last_of y b.past) ≡ Some w) may.started f)
      where
        of_x : EachSuffix (Under z x) recs
        of_x =
            let h : EachSuffix (Under z x) b.records = elim may.mine [ inl own_x ↦ (let is = own-is z x b.past own_x in sound.owns z x is.0 is.1) | inr g ↦ under-fresh-all told_at (started_up_to z b.past) x b.records g.1 ] in
            ((all_map _ _ (stands b.records) (λ o f e. f) (rw (sym may.last) free), suffix_here (Under z x) b.records h), h)

        by : (t : Bool) → (z == y) ≡ t → cond t (Some x) (last_of y b.past) ≡ Some w → EachSuffix (Under y w) recs
        by true a e = let same : x ≡ w = cc in subst (λ y. EachSuffix (Under y w) recs) (eqb-true z y a) (subst (λ w. EachSuffix (Under z w) recs) same of_x)
        by false a e =
            let off = differ y w a e in
            let h = sound.owns y w e (rw off at o) in
            ((all_of _ (stands b.records) (λ o g. clash (same_xid w x) g off), suffix_here (Under y w) b.records h), h)

    change-sessions : Sessions (λ y. cond (same_xid y x) Active (stage y b.records)) (λ y. cond (is_of y n b.past) (Some x) (last_of y b.past)) (λ y. home_of y b.past)
    change-sessions = subst (λ (o : Option Start). Sessions (λ y. cond (same_xid y x) Active (stage y b.records)) (λ y. cond (option_map_or (λ start. start.session == y) o false) (Some x) (last_of y b.past)) (λ y. home_of y b.past)) (sym may.started) (sessions-changes sound.sessions z x mine may.home)

    change-found : RowsStand recs told_at (history b.past)
    change-found = rows-changes sound.rows s (b.clock i + 1) x seq deed (let le = may.low in omega arith) change-new free may.found

    reads_at : (y : ℕ) → (put b.scan z (unread (b.scan z).snapshot (b.scan z).first) y).snapshot ≡ started_up_to y b.past
    reads_at = put-all (λ y scan. scan.snapshot ≡ started_up_to y b.past) b.scan z _ (sound.reads_at z) (λ y _. sound.reads_at y)

    change-answers : Answers asked floor b.scan b.past (history b.past)
    change-answers = grind (arith, cases, each-read, change-rises, scan-read)

  pub keeps-changes : (n z s : ℕ) (x : Xid) (seq : ℕ) (deed : Deed) → MayChange b n z s x seq deed → Sound asked insts (after b (Events.changes n z s x seq deed))
  keeps-changes n z s x seq (Changes change) may = assumption (
    clocks-records sound.clocks x.seg (Does (b.clock x.seg + 1) x seq (Changes change)) refl refl,
    txns-changes sound.txns (b.clock x.seg + 1) x seq (Changes change) (goes n z s x seq (Changes change) may),
    change-sessions n z s x seq (Changes change) may,
    segments-changes sound.segments (b.clock x.seg + 1) x seq (Changes change) may.up,
    change-found n z s x seq (Changes change) may,
    change-owns n z s x seq (Changes change) may,
    numbers-changes sound.numbers (b.clock x.seg + 1) x seq (Changes change) may.next (mine-wrap n z s x seq (Changes change) may),
    change-late n z s x seq (Changes change) may,
    reads_at n z s x seq (Changes change) may,
    change-answers n z s x seq (Changes change) may,
    found,
    read,
    change-scans n z s x seq (Changes change) may (entry_of n x (Changes change) ∷ b.past) (λ y. refl) (λ y off. (rw off refl, rw off refl)),
    none-stood x b.past (change-new n z s x seq (Changes change) may),
    change-free n z s x seq (Changes change) may,
  )
    where
      found : FoundIsSeen (history b.past) b.past (entry_of n x (Changes change))
      found = rw may.started (may.found ∙ change-sees asked insts b sound n z s x seq (Changes change) may)

      read : IsRead asked (put b.floor change.row (max (b.floor change.row) s)) b.past (entry_of n x (Changes change))
      read = rw may.started (rw (put-here b.floor change.row (max (b.floor change.row) s)) (omega arith))
  keeps-changes n z s x seq (Locks row) may = assumption (
    clocks-records sound.clocks x.seg (Does (b.clock x.seg + 1) x seq (Locks row)) refl refl,
    txns-changes sound.txns (b.clock x.seg + 1) x seq (Locks row) (goes n z s x seq (Locks row) may),
    change-sessions n z s x seq (Locks row) may,
    segments-changes sound.segments (b.clock x.seg + 1) x seq (Locks row) may.up,
    change-found n z s x seq (Locks row) may,
    change-owns n z s x seq (Locks row) may,
    numbers-changes sound.numbers (b.clock x.seg + 1) x seq (Locks row) may.next (mine-wrap n z s x seq (Locks row) may),
    change-late n z s x seq (Locks row) may,
    reads_at n z s x seq (Locks row) may,
    change-answers n z s x seq (Locks row) may,
    change-scans n z s x seq (Locks row) may (entry_of n x (Locks row) ∷ b.past) (λ y. refl) (λ y off. (rw off refl, rw off refl)),
    none-stood x b.past (change-new n z s x seq (Locks row) may),
    change-free n z s x seq (Locks row) may,
  )

  pub keeps-joins : (i c known : ℕ) → MayJoin b i c known → Sound asked insts (after b (Events.joins i c known))
  keeps-joins i c known may = assumption (
    knows,
    put-all (λ j n. b.durable j ≤ n) b.clock i c may.durable (λ j _. sound.clocks.lasts j),
    all_both _ _ (λ r. scn_of r ≤ put b.clock i c (thread_of r)) b.records drawn sound.clocks.drawn may.drawn,
    starts-joins sound.starts i known may.down,
    lates,
  )
    where
      knows : (j : ℕ) → put b.known i known j ≤ put b.clock i c j
      knows j = grind (arith, cases, sound.clocks.knows j, may.low)

      drawn : (r : Record) → scn_of r ≤ b.clock (thread_of r) → (thread_of r ≡ i → scn_of r ≤ c) → scn_of r ≤ put b.clock i c (thread_of r)
      drawn r le low = grind (arith, cases)

      late : (s : ℕ) (y : Xid) → IsLate s (is_open y b.past) (stage y b.records) (b.clock y.seg) → IsLate s (is_open y b.past) (stage y b.records) (put b.clock i c y.seg)
      late s y h = grind (arith, cases, sound.segments.lives y, may.down)

      lates : RowsAreLate b.records (put b.clock i c) b.floor (λ x. is_open x b.past) told_at
      lates = all_map _ _ (stands b.records) (λ m h new. late (b.floor (row_of m.deed)) m.xid (h new)) sound.late

  pub keeps-ups : (line i : ℕ) → MayUp b i → Sound asked insts (after b (Events.ups line i))
  keeps-ups line i may = assumption (segments-ups sound.segments i may.ended may.safe, starts-ups sound.starts i may.heard)
