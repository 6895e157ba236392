-- What the order of a merge is, and what it leaves of each thread.
use Rattle.std.proofs.Common.{◌≡◌, ℕ, zero, suc, ◌+◌, ◌<◌, ◌≤◌, ◌⊎◌, inl, inr, ◌==◌, Bool, true, false, cond, nat_lt, List, [], ◌∷◌, length, get_or, refl, sym, ap, subst, ◌∙◌, arith}
use Rattle.std.specs.List.{AllByRecursion, AllPairs, filter}
use Rattle.std.specs.List.Sorted.{IsPermutation}
use Rattle.std.proofs.lemmas.Bool.{cond_both, eqb-true}
use Rattle.std.proofs.lemmas.List.Sorted.{IsPermutation-trans}
use borrow.Author.Tests.{ltb-true, ltb-false}
use Rattle.redo_merge.specs.declared.tagged.Tagged.{Tagged}
use Rattle.redo_merge.specs.declared.tagged.ThreadRedo.{ThreadRedo}
use Rattle.redo_merge.specs.Merge.{IsInOrder, IsNoLater, RisesIn, all_records, by_scn, by_thread, merged, only_of, placed, scn_of, sorted, thread_of}
use Rattle.redo_merge.proofs.Sorting.{AtLeast, IsPermutation-sorted, Rises, Rises-from_non_decreasing, Rises-sorted, all-placed, all-sorted, filter-sorted, lower, sorted-rising}

-- no record is later than one behind it
abbrev Ordered : List Tagged → Type 0
Ordered [] = Unit {0}
Ordered (it ∷ all) = AllByRecursion (IsNoLater it) all × Ordered all

no_later : (it other : Tagged) → scn_of it ≤ scn_of other → thread_of it ≤ thread_of other → IsNoLater it other
no_later it other scns threads =
    cond_both (nat_lt (scn_of it) (scn_of other)) 0 0 (λ (n : ℕ). IsNoLater it other)
    (λ below. inl (ltb-true (scn_of it) (scn_of other) below))
    (λ not_below. let least = ltb-false (scn_of it) (scn_of other) not_below in inr (omega arith, threads))

all_no_later : (it : Tagged) (all : List Tagged) → AtLeast scn_of (scn_of it) all → AtLeast thread_of (thread_of it) all → AllByRecursion (IsNoLater it) all
all_no_later it [] scns threads = tt
all_no_later it (other ∷ all) scns threads = (no_later it other scns.0 threads.0, all_no_later it all scns.1 threads.1)

Ordered-placed : (it : Tagged) (all : List Tagged) → AtLeast thread_of (thread_of it) all → Rises scn_of all → Ordered all → Ordered (placed scn_of it all)
Ordered-placed it [] threads up is = (tt, tt)
Ordered-placed it (other ∷ all) threads up is =
    cond_both (nat_lt (scn_of other) (scn_of it)) (other ∷ placed scn_of it all) (it ∷ other ∷ all) Ordered
    (λ below. (
      all-placed scn_of (IsNoLater other) it all (inl (ltb-true (scn_of other) (scn_of it) below)) is.0,
      Ordered-placed it all threads.1 up.1 is.1,
    ))
    (λ not_below. let least = ltb-false (scn_of other) (scn_of it) not_below in
    (all_no_later it (other ∷ all) (least, lower scn_of (scn_of it) (scn_of other) all least up.0) threads, is))

Ordered-by_scn : (all : List Tagged) → Rises thread_of all → Ordered (by_scn all)
Ordered-by_scn [] up = tt
Ordered-by_scn (it ∷ all) up =
    Ordered-placed it (by_scn all) (all-sorted scn_of (λ other. thread_of it ≤ thread_of other) all up.0) (Rises-sorted scn_of all) (Ordered-by_scn all up.1)

all_at : (P : Tagged → Type 0) (all : List Tagged) (k : ℕ) (d : Tagged) → k < length all → AllByRecursion P all → P (get_or all k d)
all_at P [] k d within is = absurd (omega arith)
all_at P (it ∷ all) zero d within is = is.0
all_at P (it ∷ all) (suc k) d within is = all_at P all k d (omega arith) is.1

pairs_of : (all : List Tagged) → Ordered all → IsInOrder all
pairs_of [] is i j d below within = absurd (omega arith)
pairs_of (it ∷ all) is zero zero d below within = absurd (omega arith)
pairs_of (it ∷ all) is zero (suc j) d below within = all_at (IsNoLater it) all j d (omega arith) is.0
pairs_of (it ∷ all) is (suc i) zero d below within = absurd (omega arith)
pairs_of (it ∷ all) is (suc i) (suc j) d below within = pairs_of all is.1 i j d (omega arith) (omega arith)

pub in_order : (threads : List ThreadRedo) → IsInOrder (merged threads)
in_order threads = pairs_of (merged threads) (Ordered-by_scn (by_thread (all_records threads)) (Rises-sorted thread_of (all_records threads)))

pub each_once : (threads : List ThreadRedo) → IsPermutation (all_records threads) (merged threads)
each_once threads =
    IsPermutation-trans (all_records threads) (by_thread (all_records threads)) (merged threads)
    (IsPermutation-sorted thread_of (all_records threads)) (IsPermutation-sorted scn_of (by_thread (all_records threads)))

all_of_thread : (thread : ℕ) (all : List Tagged) → AllByRecursion (λ it. thread_of it ≡ thread) (only_of thread all)
all_of_thread thread [] = tt
all_of_thread thread (it ∷ all) =
    cond_both (thread_of it == thread) (it ∷ only_of thread all) (only_of thread all) (AllByRecursion (λ it. thread_of it ≡ thread))
    (λ same. (eqb-true (thread_of it) thread same, all_of_thread thread all))
    (λ other. all_of_thread thread all)

same_at_least : (thread a : ℕ) (all : List Tagged) → a ≡ thread → AllByRecursion (λ it. thread_of it ≡ thread) all → AtLeast thread_of a all
same_at_least thread a [] is each = tt
same_at_least thread a (it ∷ all) is each = let e = each.0 in (omega arith, same_at_least thread a all is each.1)

same_rises : (thread : ℕ) (all : List Tagged) → AllByRecursion (λ it. thread_of it ≡ thread) all → Rises thread_of all
same_rises thread [] each = tt
same_rises thread (it ∷ all) each = (same_at_least thread (thread_of it) all each.0 each.1, same_rises thread all each.1)

pub order_kept : (threads : List ThreadRedo) → (thread : ℕ) → RisesIn thread (all_records threads) → only_of thread (merged threads) ≡ only_of thread (all_records threads)
order_kept threads thread up =
    let all = all_records threads in
    let is_of : Tagged → Bool = λ it. thread_of it == thread in
    filter-sorted scn_of is_of (by_thread all)
    ∙ (ap (sorted scn_of) (filter-sorted thread_of is_of all ∙ sorted-rising thread_of (only_of thread all) (same_rises thread (only_of thread all) (all_of_thread thread all)))
    ∙ sorted-rising scn_of (only_of thread all) (Rises-from_non_decreasing scn_of (only_of thread all) up))
