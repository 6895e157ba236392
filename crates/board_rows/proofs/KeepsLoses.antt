-- The loss of an instance keeps the board sound.
use Rattle.std.proofs.Common.{filter, ◌≡◌, ◌≢◌, ℕ, ◌≤◌, Bool, true, false, cond, ◌==◌, List, [], ◌∷◌, refl, sym, ap, ◌∙◌, subst, arith, Option, Some, None}
use Rattle.std.specs.List.{AllByRecursion}
use Rattle.std.proofs.lemmas.Bool.{eqb-true, false≢true}
use Rattle.board_rows.proofs.Words.{Xid, Entry, is_loss_of, Past, same_xid, home_of, row_of, changes_of, standing, is_open, Commit, history, is_home, last_of, own_changes, started_up_to, Range, same_xid-true, EachSuffix, Record, Does, TakesBack, Commits, RollsBack, DeedAt, thread_of, scn_of, xid_of, touches, stands, of_xid, Stage, Fresh, Active, Over, stage, FreeUnder, deeds_in, committed_at, seen_at, IsMade, logged, Board, IsLate, MayLose, after, anew, is_kept, Sound, Clocks, Sessions, RowsStand, RowsAreLate, ScanIsSeen, EndsBy, CanCommit, RecordIsIn, Crashed, Ended}
use Rattle.board_rows.proofs.Lists.{all_map, clash, all_filter, cases, pair_filter, all_of}
use Rattle.board_rows.specs.Events
use Rattle.board_rows.proofs.AnswerSteps.{anew-at, by_own}
use Rattle.board_rows.proofs.SessionSteps.{starts-loses}
use Rattle.board_rows.proofs.Losses.{KeepsUnder, keeps-under, Kept, stage-kept, of_xid-kept, own-other, fresh-kept, AllKept}
use Rattle.board_rows.proofs.LossTxns.{committed-is, commit-kept, durable-kept, live-kept, over-before, txns-loses}
use Rattle.board_rows.proofs.Logged.{IsTold, logged-loses}
use Rattle.board_rows.proofs.NumberSteps.{numbers-loses}
use Rattle.board_rows.proofs.SegmentSteps.{segments-loses}
use Rattle.board_rows.proofs.LossRows.{under-kept, shown-kept, order-kept, replay-kept}

-- what holds of each transaction's holds of all
all-by_xid : (P : DeedAt → Type 0) (mods : List DeedAt) → ((x : Xid) → AllByRecursion P (of_xid x mods)) → AllByRecursion P mods
all-by_xid P [] h = tt
all-by_xid P (m ∷ mods) h = (first (h m.xid), all-by_xid P mods (λ x. rest x (h x)))
  where
    first : AllByRecursion P (of_xid m.xid (m ∷ mods)) → P m
    first g = grind (arith, cases)

    rest : (x : Xid) → AllByRecursion P (of_xid x (m ∷ mods)) → AllByRecursion P (of_xid x mods)
    rest x g = grind arith

module _ (asked : ℕ → Option Range) (insts : ℕ) (b : Board) (sound : Sound asked insts b) (i kept : ℕ) (may : MayLose b i kept) where
  abbrev there : List Record
  there = filter (is_kept i kept) b.records

  under : KeepsUnder i kept b.records
  under = keeps-under i kept b.records sound.clocks.rising may.newest

  abbrev committed : Xid → Option ℕ
  committed x = committed_at x b.past

  abbrev live : Xid → Bool
  live y = cond (y.seg == i) false (is_open y b.past)

  -- what vanishes wasn't committed
  unseen : (s k : ℕ) (r : Record) → EndsBy (stage (xid_of r) b.records) r → (CanCommit (is_open (xid_of r) b.past) (stage (xid_of r) b.records) → thread_of r ≡ (xid_of r).seg) → is_kept i kept r ≡ false → touches k r ≡ true → seen_at s committed (xid_of r) ≡ false
  unseen s k r ends own lost t = grind arith

  rows-loses : RowsStand there committed (history b.past)
  rows-loses = record {
    order = order-kept i kept committed b.records under sound.rows.order;
    deeds_replay = replay-kept i kept b.records under sound.rows.deeds_replay;
    table = λ s k. sound.rows.table s k ∙ ap changes_of (sym (shown-kept i kept k (seen_at s committed) b.records under (all_map _ _ b.records (λ r h. unseen s k r h.ends h.own) sound.txns.each_record)));
    made = all_map _ _ (history b.past) made sound.rows.made;
  }
    where
      made : (a : Commit) → IsMade committed (stands b.records) a → IsMade committed (stands there) a
      made a h =
          let is = committed-is sound.txns i kept may.durable under a.xid a.commit_scn h.0 in
          (h.0, h.1 ∙ ap (λ (ms : List DeedAt). changes_of (deeds_in ms)) (sym (of_xid-kept i kept a.xid b.records (commit-kept sound.txns i kept may.durable under a.xid a.commit_scn is.0 (durable-kept sound.txns i kept may.durable under a.xid a.commit_scn is.1)))))

  -- the transaction has a commit on the disk
  abbrev HasCommit : Xid → Type 0
  HasCommit x = (c : ℕ) × (stage x b.records ≡ Over (Some c)) × (c ≤ b.durable x.seg)

  history-loses : history b.past ≡ logged b.durable there
  history-loses =
      sound.log_history ∙ sym (logged-loses i kept b.durable may.durable HasCommit b.records
      (λ x h. commit-kept sound.txns i kept may.durable under x h.0 h.1 (durable-kept sound.txns i kept may.durable under x h.0 h.2))
      (all_map _ _ b.records one sound.txns.each_record))
    where
      one : (r : Record) → RecordIsIn b.records (λ y. is_open y b.past) r → IsTold i kept b.durable may.durable HasCommit r
      one (Commits c x) h = λ le. (c, h.ends, le)
      one (Does c x seq d) h = tt
      one (TakesBack j c x seq row) h = tt
      one (RollsBack j c x) h = tt

  abbrev Late : DeedAt → Type 0
  Late m = committed m.xid ≡ None → IsLate (b.floor (row_of m.deed)) (live m.xid) (stage m.xid there) (b.clock m.xid.seg)

  abbrev WasLate : DeedAt → Type 0
  WasLate m = committed m.xid ≡ None → IsLate (b.floor (row_of m.deed)) (is_open m.xid b.past) (stage m.xid b.records) (b.clock m.xid.seg)

  -- what stands again is of transactions that never commit
  late-loses : RowsAreLate there b.clock b.floor live committed
  late-loses = all-by_xid Late (stands there) (λ x. by x (stage x there) refl (live x) refl)
    where
      -- what can't commit
      dead : (x : Xid) → ((s clock : ℕ) → IsLate s (live x) (stage x there) clock) → AllByRecursion Late (of_xid x (stands there))
      dead x h = all_map _ Late (of_xid x (stands there)) (λ m (e : (same_xid x m.xid ≡ true) × Unit {0}) new. rw (sym (same_xid-true x m.xid e.0)) (h (b.floor (row_of m.deed)) (b.clock x.seg))) (all_filter (λ m. Unit {0}) (λ m. same_xid x m.xid) (stands there) (all_of _ (stands there) (λ m. tt)))

      -- what is as before
      same : (x : Xid) → AllKept i kept x b.records → ((s clock : ℕ) → IsLate s (is_open x b.past) (stage x b.records) clock → IsLate s (live x) (stage x there) clock) → AllByRecursion Late (of_xid x (stands there))
      same x all h = subst (AllByRecursion Late) (sym (of_xid-kept i kept x b.records all)) (all_map _ Late (of_xid x (stands b.records)) one (all_filter WasLate (λ m. same_xid x m.xid) (stands b.records) sound.late))
        where
          one : (m : DeedAt) → (same_xid x m.xid ≡ true) × WasLate m → Late m
          one m g new = grind (arith, cases, h (b.floor (row_of m.deed)) (b.clock x.seg))

      live-late : (x : Xid) → live x ≡ true → AllByRecursion Late (of_xid x (stands there))
      live-late x l = let all : AllKept i kept x b.records = live-kept sound.txns i kept may.durable under x (grind arith) (grind arith) in same x all (λ s clock h. grind (arith, stage-kept i kept x b.records all))

      by : (x : Xid) (st : Stage) → stage x there ≡ st → (l : Bool) → live x ≡ l → AllByRecursion Late (of_xid x (stands there))
      by x (Over None) e l f = dead x (λ s clock. rw e tt)
      by x (Over (Some c)) e l f = let was = over-before sound.txns i kept may.durable under x c e in same x was.1 (λ s clock h. rw e (rw was.0 at h))
      by x st e true f = live-late x f
      by x Fresh e false f = dead x (λ s clock. rw e (λ g. clash (live x) g f))
      by x Active e false f = dead x (λ s clock. rw e (λ g. clash (live x) g f))

  -- the last transaction of a session of another instance is of another segment
  pub apart : (z : ℕ) (x : Xid) → is_home z i b.past ≡ false → last_of z b.past ≡ Some x → (x.seg == i) ≡ false
  apart z x off e = grind arith

  sessions-loses : Sessions (λ x. stage x there) (λ z. cond (is_home z i b.past) None (last_of z b.past)) (λ z. home_of z b.past)
  sessions-loses = record { used = used; single = λ y z x e f. grind (arith, sound.sessions.single y z x); at_home = λ z x e. grind (arith, sound.sessions.at_home z x) }
    where
      used : (z : ℕ) (x : Xid) → cond (is_home z i b.past) None (last_of z b.past) ≡ Some x → stage x there ≢ Fresh
      used z x e f = grind (arith, apart z x, fresh-kept i kept x b.records sound.txns.follows, own-other i kept x b.records, sound.sessions.used z x)

  scans-loses : (now : Past) → ((z : ℕ) → last_of z now ≡ cond (is_home z i b.past) None (last_of z b.past)) → ((y : Xid) → (y.seg == i) ≡ false → (is_open y now ≡ is_open y b.past) × (standing y now ≡ standing y b.past))
      → (z : ℕ) → ScanIsSeen b.floor (anew (is_home z i b.past) (b.scan z)) (by_own b.floor (history b.past) (own_changes z now))
  scans-loses now last other z = grind arith

  owns-loses : (z : ℕ) (x : Xid) → cond (is_home z i b.past) None (last_of z b.past) ≡ Some x → cond (x.seg == i) false (is_open x b.past) ≡ true → EachSuffix (λ older. FreeUnder committed (started_up_to z b.past) x (stands older)) there
  owns-loses z x e o = under-kept i kept committed (started_up_to z b.past) x b.records under (sound.owns z x (grind arith) (grind arith))

  clocks-loses : Clocks there b.clock b.known b.durable
  clocks-loses = record {
    knows = sound.clocks.knows;
    lasts = sound.clocks.lasts;
    drawn = all_map _ _ there (λ r h. h.1) (all_filter (λ r. scn_of r ≤ b.clock (thread_of r)) (Kept i kept) b.records sound.clocks.drawn);
    rising = pair_filter _ (Kept i kept) b.records sound.clocks.rising;
  }

  reads-loses : (z : ℕ) → (anew (is_home z i b.past) (b.scan z)).snapshot ≡ started_up_to z b.past
  reads-loses z = anew-at (is_home z i b.past) (b.scan z) ∙ sound.reads_at z

  crashes : (line : ℕ) → Sound asked insts (after b (Events.loses i kept (Crashed line i)))
  crashes line = assumption (
    clocks-loses,
    txns-loses sound.txns i kept may.durable under,
    sessions-loses,
    segments-loses sound.segments i kept may.durable,
    rows-loses,
    owns-loses,
    history-loses,
    numbers-loses i kept sound.numbers sound.clocks.rising sound.txns.follows,
    late-loses,
    starts-loses sound.starts i,
    reads-loses,
    scans-loses (Crashed line i ∷ b.past) (λ z. refl) (λ y off. (rw off refl, rw off refl)),
  )

  ends : (bad : Bool) → Sound asked insts (after b (Events.loses i kept (Ended i bad)))
  ends bad = assumption (
    clocks-loses,
    txns-loses sound.txns i kept may.durable under,
    sessions-loses,
    segments-loses sound.segments i kept may.durable,
    rows-loses,
    owns-loses,
    history-loses,
    numbers-loses i kept sound.numbers sound.clocks.rising sound.txns.follows,
    late-loses,
    starts-loses sound.starts i,
    reads-loses,
    scans-loses (Ended i bad ∷ b.past) (λ z. refl) (λ y off. (rw off refl, rw off refl)),
  )

  pub keeps-loses : (entry : Entry) → is_loss_of i entry ≡ true → Sound asked insts (after b (Events.loses i kept entry))
  keeps-loses (Crashed line lost) is = subst (λ lost. Sound asked insts (after b (Events.loses i kept (Crashed line lost)))) (eqb-true i lost is) (crashes line)
  keeps-loses (Ended lost bad) is = subst (λ lost. Sound asked insts (after b (Events.loses i kept (Ended lost bad)))) (eqb-true i lost is) (ends bad)
  keeps-loses _ is = absurd (false≢true is)
