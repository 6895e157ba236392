-- The redo records of several threads, in the order in which they were made.
use Rattle.std.specs.Prelude.{◌≡◌, ℕ, ◌<◌, ◌≤◌, ◌⊎◌, ◌==◌, nat_lt, List, [], ◌∷◌, AllPairs, filter, map}
use Rattle.std.specs.Bool.{if◌then◌else◌}
use Rattle.std.specs.List.{flat_map}
use Rattle.std.specs.List.Sorted.{IsNonDecreasingBy}
use Rattle.redo_merge.specs.declared.tagged.Tagged.{Tagged}
use Rattle.redo_merge.specs.declared.tagged.ThreadRedo.{ThreadRedo}

-- the records of a thread, each with its thread
abbrev pub records_of : ThreadRedo → List Tagged
records_of it = map (λ redo. record { thread = it.thread; redo = redo }) it.records

-- the records of all threads, one thread behind the other
abbrev pub all_records : List ThreadRedo → List Tagged
all_records threads = flat_map records_of threads

-- an item in its place in a list that rises by a number of each item: before the first that isn't below it
abbrev pub placed : {X : Type 0} → (X → ℕ) → X → List X → List X
placed number x [] = x ∷ []
placed number x (y ∷ ys) = if nat_lt (number y) (number x) then y ∷ placed number x ys else x ∷ y ∷ ys

-- the items in the order of a number of each; those of one number stay in the order in which they stand
abbrev pub sorted : {X : Type 0} → (X → ℕ) → List X → List X
sorted number [] = []
sorted number (x ∷ xs) = placed number x (sorted number xs)

-- the number of the record's thread
abbrev pub thread_of : Tagged → ℕ
thread_of it = it.thread

-- the record's SCN
abbrev pub scn_of : Tagged → ℕ
scn_of it = it.redo.scn

-- the records in the order of threads
abbrev pub by_thread : List Tagged → List Tagged
by_thread all = sorted thread_of all

-- the records in the order of SCNs
abbrev pub by_scn : List Tagged → List Tagged
by_scn all = sorted scn_of all

-- the records of all threads in the order of SCNs, those of one SCN in the order of threads
abbrev pub merged : List ThreadRedo → List Tagged
merged threads = by_scn (by_thread (all_records threads))

-- the one record's SCN is below the other's, or they are equal and its thread is no later one
abbrev pub IsNoLater : Tagged → Tagged → Type 0
IsNoLater it other = (scn_of it < scn_of other) ⊎ ((scn_of it ≡ scn_of other) × (thread_of it ≤ thread_of other))

-- no record is later than one behind it
abbrev pub IsInOrder : List Tagged → Type 0
IsInOrder all = AllPairs IsNoLater all

-- the records of a thread among these
abbrev pub only_of : ℕ → List Tagged → List Tagged
only_of thread all = filter (λ it. thread_of it == thread) all

-- the SCNs of a thread's records among these don't fall
abbrev pub RisesIn : ℕ → List Tagged → Type 0
RisesIn thread all = IsNonDecreasingBy scn_of (only_of thread all)
