-- What was answered stays right, and what is being read too.
use Rattle.std.proofs.Common.{◌≡◌, ℕ, zero, suc, ◌+◌, ◌<◌, ◌≤◌, Bool, true, max, List, [], ◌∷◌, ◌++◌, refl, ap, ◌∙◌, arith, inl, ◌⊎◌, Option, Some, None, IsSomeAnd}
use Rattle.std.specs.List.{AllByRecursion}
use Rattle.board_rows.proofs.Words.{Xid, Value, Entry, Rows, Start, Past, Each, same_xid, start_of, Change, changes_of, standing, is_open, Commit, entered, changes_up_to, value_by, sees, last_of, own_changes, Range, listed, listed_before, RowsAreSeen, FoundIsSeen, Record, DeedAt, stands, of_xid, Over, stage, on_row, deeds_in, Scan, put, unread, anew, read_on, RowsAreLate, RowsStand, AreRead, IsRead, ScanIsSeen, Answers}
use Rattle.board_rows.proofs.Lists.{cases}
use Rattle.board_rows.proofs.Shown.{NoneOn, none-shown, on_row-of_xid}
use Rattle.board_rows.proofs.Table.{row-entered}
use Rattle.board_rows.proofs.Replay.{value-below}
use Rattle.board_rows.proofs.RowSteps.{rows-clear}
use Rattle.board_rows.proofs.LateSteps.{Late}
use Rattle.board_rows.proofs.ClockSteps.{put-all}

pub listed-alike : (v w : ℕ → Value) (row count : ℕ) → ((k : ℕ) → row ≤ k → k < row + count → v k ≡ w k) → listed v row count ≡ listed w row count
listed-alike v w row zero h = refl
listed-alike v w row (suc count) h =
    ap (λ x. listed_before row x (listed v (row + 1) count)) (h row (omega arith) (omega arith))
    ∙ ap (listed_before row (w row)) (listed-alike v w (row + 1) count (λ k low high. h k (omega arith) (omega arith)))

-- one more row at the end
pub listed-more : (v : ℕ → Value) (row count : ℕ) → listed v row (suc count) ≡ listed v row count ++ listed_before (row + count) (v (row + count)) []
listed-more v row zero = ap (λ k. listed_before k (v k) []) (let e : row ≡ row + 0 = omega arith in e)
listed-more v row (suc count) =
    ap (listed_before row (v row)) (listed-more v (row + 1) count ∙ ap (λ k. listed v (row + 1) count ++ listed_before k (v k) []) (let e : row + 1 + count ≡ row + suc count = omega arith in e))
    ∙ before (v row) (listed v (row + 1) count) (listed_before (row + suc count) (v (row + suc count)) [])
  where
    before : (x : Value) (xs ys : List (ℕ × Value)) → listed_before row x (xs ++ ys) ≡ listed_before row x xs ++ ys
    before x xs ys = grind arith

pub each_map : (P Q : Past → Entry → Type 0) → ((past : Past) (e : Entry) → P past e → Q past e) → (past : Past) → Each P past → Each Q past
each_map P Q f [] h = tt
each_map P Q f (e ∷ past) h = (f past e h.0, each_map P Q f past h.1)

pub each_both : (P Q R : Past → Entry → Type 0) → ((past : Past) (e : Entry) → P past e → Q past e → R past e) → (past : Past) → Each P past → Each Q past → Each R past
each_both P Q R f [] h i = tt
each_both P Q R f (e ∷ past) h i = (f past e h.0 i.0, each_both P Q R f past h.1 i.1)

-- what was read stays read
pub each-read : (asked : ℕ → Option Range) (floor now : ℕ → ℕ) → ((k : ℕ) → floor k ≤ now k) → (past : Past) → Each (IsRead asked floor) past → Each (IsRead asked now) past
each-read asked floor now up past = grind (arith, cases, each_map)

pub scan-read : (floor now : ℕ → ℕ) → ((k : ℕ) → floor k ≤ now k) → (scan : Scan) (value : ℕ → ℕ → Value) → ScanIsSeen floor scan value → ScanIsSeen now scan value
scan-read floor now up scan value h = record { seen = h.seen; read = λ k low high. (let a = h.read k low high in let b = up k in omega arith) }

-- where two histories have the same in what was read, what was seen by one was seen by the other
module _ (asked : ℕ → Option Range) (floor : ℕ → ℕ) (old new : List Commit) (same : (s k : ℕ) → s ≤ floor k → on_row k (changes_up_to s old) ≡ on_row k (changes_up_to s new)) where
  sees-same : (past : Past) (start : Start) (k : ℕ) → start.snapshot ≤ floor k → sees old past start k ≡ sees new past start k
  sees-same past start k le = value-below k (own_changes start.session past) (changes_up_to start.snapshot old) (changes_up_to start.snapshot new) (same start.snapshot k le)

  rows-same : (items : List (ℕ × Value)) (past : Past) (o : Option Range) (p : Option Start) → IsSomeAnd o (λ range. IsSomeAnd p (λ start. AreRead floor start.snapshot range.first range.count))
      → IsSomeAnd o (λ range. IsSomeAnd p (λ start. items ≡ listed (sees old past start) range.first range.count)) → IsSomeAnd o (λ range. IsSomeAnd p (λ start. items ≡ listed (sees new past start) range.first range.count))
  rows-same items past (Some range) (Some start) r e = e ∙ listed-alike (sees old past start) (sees new past start) range.first range.count (λ k low high. sees-same past start k (r k low high))
  rows-same items past (Some range) None r e = e
  rows-same items past None p r e = e

  rows-seen : (past : Past) (e : Entry) → IsRead asked floor past e → RowsAreSeen asked old past e → RowsAreSeen asked new past e
  rows-seen past (Rows n items) = rows-same items past (asked n) (start_of n past)
  rows-seen past _ = λ r e. e

  found-seen : (past : Past) (e : Entry) → IsRead asked floor past e → FoundIsSeen old past e → FoundIsSeen new past e
  found-seen past e r f = grind (arith, sees-same past)

  -- what was answered, and what was found
  pub told-same : (past : Past) → Each (IsRead asked floor) past → Each (RowsAreSeen asked old) past → Each (FoundIsSeen old) past → Each (RowsAreSeen asked new) past × Each (FoundIsSeen new) past
  told-same past read rows found = (each_both _ _ _ rows-seen past read rows, each_both _ _ _ found-seen past read found)

  pub answers-same : (scan : ℕ → Scan) (past : Past) → Answers asked floor scan past old → Answers asked floor scan past new
  answers-same scan past h = record {
    read = h.read;
    scans = λ z. record { seen = (h.scans z).seen ∙ listed-alike _ _ (scan z).first (scan z).count (λ k low high. sees-same past (record { session = z; snapshot = (scan z).snapshot }) k ((h.scans z).read k low high)); read = (h.scans z).read };
  }

-- the commit that becomes durable leaves what was read
module _ (recs : List Record) (scn floor : ℕ → ℕ) (live : Xid → Bool) {committed : Xid → Option ℕ} {commits : List Commit} (x : Xid) (a : Commit)
    (new : committed x ≡ None) (is : stage x recs ≡ Over (Some a.commit_scn)) (marked : a.changes ≡ changes_of (deeds_in (of_xid x (stands recs))))
    (below : AllByRecursion (λ m. same_xid x m.xid ≡ true → m.scn < a.commit_scn) (stands recs)) (late : RowsAreLate recs scn floor live committed) (rows : RowsStand recs committed commits) where
  none-or-above : (k : ℕ) (mods : List DeedAt) → AllByRecursion (Late recs scn floor live committed) mods → NoneOn k (same_xid x) mods ⊎ (floor k < a.commit_scn)
  none-or-above k [] h = inl tt
  none-or-above k (m ∷ mods) h = grind (arith, none-or-above k mods h.1)

  pub settled-same : (s k : ℕ) → s ≤ floor k → on_row k (changes_up_to s commits) ≡ on_row k (changes_up_to s (entered a commits))
  settled-same s k le = grind (arith, cases, row-entered, rows-clear, none-or-above, on_row-of_xid, none-shown)

-- what a session's own transaction did is the same after entries of others
pub own-other : (past now : Past) (z : ℕ) → last_of z now ≡ last_of z past → ((y : Xid) → last_of z past ≡ Some y → (is_open y now ≡ is_open y past) × (standing y now ≡ standing y past)) → own_changes z now ≡ own_changes z past
own-other past now z e same = grind arith

module _ (floor : ℕ → ℕ) (commits : List Commit) where
  -- what a session sees, by its own changes
  abbrev pub by_own : List Change → ℕ → ℕ → Value
  by_own mine s k = value_by (mine ++ changes_up_to s commits) k

  pub unread-seen : (s first : ℕ) (value : ℕ → ℕ → Value) → ScanIsSeen floor (unread s first) value
  unread-seen s first value = record { seen = refl; read = λ k low high. absurd (omega (arith, low, high)) }

  -- one more row is read
  pub scan-reads : (scan : Scan) (k : ℕ) (value : ℕ → ℕ → Value) → k ≡ scan.first + scan.count → ScanIsSeen floor scan value → ScanIsSeen (put floor k (max (floor k) scan.snapshot)) (read_on scan (value scan.snapshot k)) value
  scan-reads scan k value is h = grind (arith, cases, listed-more, put-all)

-- what is read anew is read at the same snapshot
pub anew-at : (t : Bool) (scan : Scan) → (anew t scan).snapshot ≡ scan.snapshot
anew-at t scan = grind arith
