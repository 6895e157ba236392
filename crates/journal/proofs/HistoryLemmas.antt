-- A commit later than all before it enters the history first, and leaves the table at every earlier SCN alone.
use Rattle.std.proofs.Common.{◌≡◌, ℕ, ◌<◌, ◌≤◌, List, [], ◌∷◌, ◌++◌, Bool, true, false, cond, max, ◌==◌, Option, Some, None, IsSomeAnd, refl, ap, subst, arith}
use Rattle.std.proofs.lemmas.Bool.{le-ltb, lt-leb, ne_eqb}
use Rattle.journal.specs.declared.entry.Entry.{Entry}
use Rattle.journal.specs.declared.entry.Entry.TheVariants.{Started, Rows, Changed}
use Rattle.journal.specs.declared.deeds.Start.{Start}
use Rattle.journal.specs.declared.deeds.Change.{Change}
use Rattle.journal.specs.declared.deeds.Commit.{Commit}
use Rattle.journal.specs.Past.{Past, Each, start_of, start_after}
use Rattle.journal.specs.History.{entered, changes_up_to, value_by, UpTo}
use Rattle.journal.specs.Stood.{latest_start, latest_start_after}
use Rattle.journal.specs.Sees.{sees, own_changes}
use Rattle.journal.specs.Good.{Range, listed, RowsAreSeen, FoundIsSeen}

pub UpTo-le : (a b : ℕ) (commits : List Commit) → a ≤ b → UpTo a commits → UpTo b commits
UpTo-le a b [] le h = tt
UpTo-le a b (commit ∷ older) le h = (omega (arith, h.0), UpTo-le a b older le h.1)

pub entered-latest : (a : Commit) (known : ℕ) (commits : List Commit) → UpTo known commits → known < a.commit_scn → entered a commits ≡ a ∷ commits
entered-latest a known [] h above = refl
entered-latest a known (b ∷ older) h above =
    let le : b.commit_scn ≤ a.commit_scn = omega (arith, h.0) in
    let ne : a.commit_scn ≡ b.commit_scn → ⊥ = (λ e. omega (arith, h.0, e)) in
    rw (le-ltb a.commit_scn b.commit_scn le, ne_eqb a.commit_scn b.commit_scn ne) refl

pub changes_up_to-latest : (a : Commit) (s : ℕ) (commits : List Commit) → s < a.commit_scn → changes_up_to s (a ∷ commits) ≡ changes_up_to s commits
changes_up_to-latest a s commits above = rw (lt-leb a.commit_scn s above) refl

latest_start-after-le : (e : Entry) (before : ℕ) → before ≤ latest_start_after e before
latest_start-after-le (Started n z s) before = omega arith
latest_start-after-le _ before = omega arith

abbrev s_in : Option Start → ℕ
s_in None = 0
s_in (Some start) = start.snapshot

start_after-le : (n : ℕ) (start : Start) (before : Option Start) (latest : ℕ) (e : Entry) → (before ≡ Some start → start.snapshot ≤ latest) → start_after n e before ≡ Some start → start.snapshot ≤ latest_start_after e latest
start_after-le n start before latest (Started m z s) old h = by_test (n == m) h
  where
    by_test : (b : Bool) → cond b (Some (record { session = z; snapshot = s })) before ≡ Some start → start.snapshot ≤ max s latest
    by_test true h = let e : s ≡ start.snapshot = ap s_in h in omega arith
    by_test false h = let le : start.snapshot ≤ latest = old h in omega arith
start_after-le n start before latest _ old h = old h

-- the start of a statement is not above the latest one
pub start_of-le : (n : ℕ) (past : Past) (start : Start) → start_of n past ≡ Some start → start.snapshot ≤ latest_start past
start_of-le n [] start h = absurd (none_some h)
  where
    none_some : ◌≡◌ {A = Option Start} None (Some start) → ⊥
    none_some h = (cc)
start_of-le n (e ∷ past) start h =
    start_after-le n start (start_of n past) (latest_start past) e (start_of-le n past start) h

-- a fact about what an option holds, from another
pub IsSomeAnd-map : {A : Type 0} (P Q : A → Type 0) (o : Option A) → ((x : A) → o ≡ Some x → P x → Q x) → IsSomeAnd o P → IsSomeAnd o Q
IsSomeAnd-map P Q None f h = h
IsSomeAnd-map P Q (Some x) f h = f x refl h

-- where two histories have the same changes up to the SCN of every start, what was seen by one was seen by the other
module _ (asked : ℕ → Option Range) (known : ℕ) (old new : List Commit) (same : (s : ℕ) → s ≤ known → changes_up_to s old ≡ changes_up_to s new) where
  RowsAreSeen-same : (past : Past) (e : Entry) → latest_start past ≤ known → RowsAreSeen asked old past e → RowsAreSeen asked new past e
  RowsAreSeen-same past (Rows n rows) le h =
      IsSomeAnd-map
      (λ (range : Range). IsSomeAnd (start_of n past) (λ start. rows ≡ listed (sees old past start) range.first range.count))
      (λ (range : Range). IsSomeAnd (start_of n past) (λ start. rows ≡ listed (sees new past start) range.first range.count))
      (asked n)
      (λ range _.
      IsSomeAnd-map
      (λ (start : Start). rows ≡ listed (sees old past start) range.first range.count)
      (λ (start : Start). rows ≡ listed (sees new past start) range.first range.count)
      (start_of n past)
      (λ start is seen. subst (λ (changes : List Change). rows ≡ listed (λ row. value_by (own_changes start.session past ++ changes) row) range.first range.count)
      (same start.snapshot (let le2 : start.snapshot ≤ latest_start past = start_of-le n past start is in omega arith)) seen))
      h
  RowsAreSeen-same past _ le h = h

  FoundIsSeen-same : (past : Past) (e : Entry) → latest_start past ≤ known → FoundIsSeen old past e → FoundIsSeen new past e
  FoundIsSeen-same past (Changed n x row found value) le h =
      IsSomeAnd-map
      (λ (start : Start). found ≡ sees old past start row)
      (λ (start : Start). found ≡ sees new past start row)
      (start_of n past)
      (λ start is seen. subst (λ (changes : List Change). found ≡ value_by (own_changes start.session past ++ changes) row)
      (same start.snapshot (let le2 : start.snapshot ≤ latest_start past = start_of-le n past start is in omega arith)) seen)
      h
  FoundIsSeen-same past _ le h = h

  pub EachRows-same : (past : Past) → latest_start past ≤ known → Each (RowsAreSeen asked old) past → Each (RowsAreSeen asked new) past
  EachRows-same [] le h = tt
  EachRows-same (e ∷ past) le h =
      let le2 : latest_start past ≤ known = (let step = latest_start-after-le e (latest_start past) in omega arith) in
      (RowsAreSeen-same past e le2 h.0, EachRows-same past le2 h.1)

  pub EachFound-same : (past : Past) → latest_start past ≤ known → Each (FoundIsSeen old) past → Each (FoundIsSeen new) past
  EachFound-same [] le h = tt
  EachFound-same (e ∷ past) le h =
      let le2 : latest_start past ≤ known = (let step = latest_start-after-le e (latest_start past) in omega arith) in
      (FoundIsSeen-same past e le2 h.0, EachFound-same past le2 h.1)
