-- What a disk holds on which a database was made.
use Rattle.std.proofs.Common.{get_or, set, ◌≡◌, ◌+◌, ◌<◌, ◌≤◌, ◌∙◌, ◌⊎◌, ℕ, List, [], ◌∷◌, ◌++◌, map, take, length, Option, None, Some, zero, suc, sym, ap, subst, inl, inr, arith, refl}
use Rattle.std.proofs.lemmas.Bool.{cases_eq}
use Rattle.std.proofs.lemmas.List.{get_or-set_other, get_or-set_same}
use Rattle.std.specs.List.{AllByRecursion, range_with_len}
use Rattle.base_types.specs.declared.layout.Layout.{Layout}
use Rattle.base_types.specs.Layout.{IsLayout, total_of}
use Rattle.rac_disk.specs.Content.{Content, IsDisk, LogState, block_at, control_at, log_at, no_log, room_at}
use Rattle.rac_io.specs.Counts.{Rose}
use Rattle.rac_disk.specs.State.{Change, CutTo, FailsFor, HadFault, IsCalm, MayLeave, Nothing, PutBehind, PutBlock, PutControl, State, WhereTold, changed}
use Rattle.first_state.specs.declared.creation.Created.{Created}
use Rattle.first_state.specs.declared.creation.Created.TheVariants.{Failed, Whole}
use Rattle.first_state.specs.Create.{CountsFaults, LeavesNew, creation, IsPartlyNew, MakesEach, empties, entry_bytes_of, first_block, for_each, puts_block, puts_entry}

-- a change that a creation makes
abbrev IsOne : Layout → Change → Type 0
IsOne layout Nothing = ⊥
IsOne layout (PutBlock b bytes) = (b < 200) × (bytes ≡ first_block layout b)
IsOne layout (PutBehind t bytes) = ⊥
IsOne layout (CutTo t n) = (t < 8) × (n ≡ 0)
IsOne layout (PutControl t bytes) = (t < 8) × (bytes ≡ entry_bytes_of layout t)

-- a change is seen
abbrev Shows : Change → Content → Type 0
Shows Nothing it = Unit {0}
Shows (PutBlock b bytes) it = block_at it b ≡ bytes
Shows (PutBehind t bytes) it = Unit {0}
Shows (CutTo t n) it = log_at it t ≡ []
Shows (PutControl t bytes) it = control_at it t ≡ bytes

-- nothing was changed
same : (layout : Layout) (it : Content) → IsPartlyNew layout it it
same layout it = record { logs = λ t. inl refl; blocks = λ b. inl refl; entries = λ t. inl refl }

-- one was as it was or is new, and so was what it was before
then : {A : Type 0} (old mid new first : A) → (mid ≡ old) ⊎ (mid ≡ first) → (new ≡ mid) ⊎ (new ≡ first) → (new ≡ old) ⊎ (new ≡ first)
then old mid new first (inl p) (inl q) = inl (q ∙ p)
then old mid new first (inr p) (inl q) = inr (q ∙ p)
then old mid new first p (inr q) = inr q

both : (layout : Layout) (old mid new : Content) → IsPartlyNew layout old mid → IsPartlyNew layout mid new → IsPartlyNew layout old new
both layout old mid new p q = record {
  logs = λ t. then (log_at old t) (log_at mid t) (log_at new t) [] (p.logs t) (q.logs t);
  blocks = λ b. then (block_at old b) (block_at mid b) (block_at new b) (first_block layout b) (p.blocks b) (q.blocks b);
  entries = λ t. then (control_at old t) (control_at mid t) (control_at new t) (entry_bytes_of layout t) (p.entries t) (q.entries t);
}

-- an item of a list in which one was set
set_partly : {A : Type 0} (xs : List A) (i j : ℕ) (x d : A) → i < length xs → (get_or (set xs i x) j d ≡ get_or xs j d) ⊎ ((j ≡ i) × (get_or (set xs i x) j d ≡ x))
set_partly xs i j x d within = set_by (cases_eq j i)
  where
    set_by : (j ≡ i) ⊎ (j ≡ i → ⊥) → (get_or (set xs i x) j d ≡ get_or xs j d) ⊎ ((j ≡ i) × (get_or (set xs i x) j d ≡ x))
    set_by (inl is) = inr (is, ap (λ k. get_or (set xs i x) k d) is ∙ get_or-set_same xs i x d within)
    set_by (inr apart) = inl (get_or-set_other xs i j x d apart)

-- a log that was emptied, or another one
log_partly : (it : Content) (t n u : ℕ) → IsDisk it → t < 8 → n ≡ 0 → (log_at (changed (CutTo t n) it) u ≡ log_at it u) ⊎ (log_at (changed (CutTo t n) it) u ≡ [])
log_partly it t n u disk few none = by (set_partly it.logs t u cut no_log (subst (λ m. t < m) (sym disk.logs) few))
  where
    cut : LogState
    cut = record { bytes = take n (log_at it t); room = room_at it t }

    by : (get_or (set it.logs t cut) u no_log ≡ get_or it.logs u no_log) ⊎ ((u ≡ t) × (get_or (set it.logs t cut) u no_log ≡ cut)) → (log_at (changed (CutTo t n) it) u ≡ log_at it u) ⊎ (log_at (changed (CutTo t n) it) u ≡ [])
    by (inl p) = inl (ap (λ (log : LogState). log.bytes) p)
    by (inr p) = inr (ap (λ (log : LogState). log.bytes) p.1 ∙ ap (λ m. take m (log_at it t)) none)

-- an item that was put to what a function has there, or another one
put_partly : (f : ℕ → List ℕ) (xs : List (List ℕ)) (i j : ℕ) (x : List ℕ) → i < length xs → x ≡ f i → (get_or (set xs i x) j [] ≡ get_or xs j []) ⊎ (get_or (set xs i x) j [] ≡ f j)
put_partly f xs i j x within is = by (set_partly xs i j x [] within)
  where
    by : (get_or (set xs i x) j [] ≡ get_or xs j []) ⊎ ((j ≡ i) × (get_or (set xs i x) j [] ≡ x)) → (get_or (set xs i x) j [] ≡ get_or xs j []) ⊎ (get_or (set xs i x) j [] ≡ f j)
    by (inl p) = inl p
    by (inr p) = inr (p.1 ∙ is ∙ ap f (sym p.0))

-- a change of a creation leaves all else as it was
one_partly : (layout : Layout) (c : Change) (it : Content) → IsDisk it → IsOne layout c → IsPartlyNew layout it (changed c it)
one_partly layout Nothing it disk one = elim one [ ]
one_partly layout (PutBlock b bytes) it disk one = record {
  logs = λ t. inl refl;
  blocks = λ k. put_partly (first_block layout) it.blocks b k bytes (subst (λ m. b < m) (sym disk.blocks) one.0) one.1;
  entries = λ t. inl refl;
}
one_partly layout (PutBehind t bytes) it disk one = elim one [ ]
one_partly layout (CutTo t n) it disk one = record {
  logs = λ u. log_partly it t n u disk one.0 one.1;
  blocks = λ b. inl refl;
  entries = λ u. inl refl;
}
one_partly layout (PutControl t bytes) it disk one = record {
  logs = λ u. inl refl;
  blocks = λ b. inl refl;
  entries = λ u. put_partly (entry_bytes_of layout) it.controls t u bytes (subst (λ m. t < m) (sym disk.controls) one.0) one.1;
}

-- a change of a creation that was made is seen
one_shows : (layout : Layout) (c : Change) (it : Content) → IsDisk it → IsOne layout c → Shows c (changed c it)
one_shows layout Nothing it disk one = tt
one_shows layout (PutBlock b bytes) it disk one = get_or-set_same it.blocks b bytes [] (subst (λ m. b < m) (sym disk.blocks) one.0)
one_shows layout (PutBehind t bytes) it disk one = tt
one_shows layout (CutTo t n) it disk one =
    ap (λ (log : LogState). log.bytes) (get_or-set_same it.logs t (record { bytes = take n (log_at it t); room = room_at it t }) no_log (subst (λ m. t < m) (sym disk.logs) one.0))
    ∙ ap (λ m. take m (log_at it t)) one.1
one_shows layout (PutControl t bytes) it disk one = get_or-set_same it.controls t bytes [] (subst (λ m. t < m) (sym disk.controls) one.0)

-- what is new stays so
kept : {A : Type 0} (old new first : A) → (new ≡ old) ⊎ (new ≡ first) → old ≡ first → new ≡ first
kept old new first (inl p) is = p ∙ is
kept old new first (inr p) is = p

-- a change that is seen stays so
still_shows : (layout : Layout) (c : Change) (old new : Content) → IsOne layout c → IsPartlyNew layout old new → Shows c old → Shows c new
still_shows layout Nothing old new one partly shows = tt
still_shows layout (PutBlock b bytes) old new one partly shows = kept (block_at old b) (block_at new b) (first_block layout b) (partly.blocks b) (shows ∙ one.1) ∙ sym one.1
still_shows layout (PutBehind t bytes) old new one partly shows = tt
still_shows layout (CutTo t n) old new one partly shows = kept (log_at old t) (log_at new t) [] (partly.logs t) shows
still_shows layout (PutControl t bytes) old new one partly shows = kept (control_at old t) (control_at new t) (entry_bytes_of layout t) (partly.entries t) (shows ∙ one.1) ∙ sym one.1

-- a change of a creation that failed was made or not
may_partly : (layout : Layout) (c : Change) (old new : Content) → IsDisk old → IsOne layout c → MayLeave c old new → IsPartlyNew layout old new
may_partly layout Nothing old new disk one left = elim one [ ]
may_partly layout (PutBlock b bytes) old new disk one (inl p) = subst (λ it. IsPartlyNew layout old it) (sym p) (same layout old)
may_partly layout (PutBlock b bytes) old new disk one (inr p) = subst (λ it. IsPartlyNew layout old it) (sym p) (one_partly layout (PutBlock b bytes) old disk one)
may_partly layout (PutBehind t bytes) old new disk one left = elim one [ ]
may_partly layout (CutTo t n) old new disk one (inl p) = subst (λ it. IsPartlyNew layout old it) (sym p) (same layout old)
may_partly layout (CutTo t n) old new disk one (inr p) = subst (λ it. IsPartlyNew layout old it) (sym p) (one_partly layout (CutTo t n) old disk one)
may_partly layout (PutControl t bytes) old new disk one (inl p) = subst (λ it. IsPartlyNew layout old it) (sym p) (same layout old)
may_partly layout (PutControl t bytes) old new disk one (inr p) = subst (λ it. IsPartlyNew layout old it) (sym p) (one_partly layout (PutControl t bytes) old disk one)

-- what is seen where all were made
abbrev AllShown : Created → List Change → Content → Type 0
AllShown Whole cs it = AllByRecursion (λ c. Shows c it) cs
AllShown Failed cs it = Unit {0}

-- what a disk holds after changes of a creation
abbrev Holds : Layout → List Change → Created → Content → Option Content → Type 0
Holds layout cs how old None = ⊥
Holds layout cs how old (Some new) = IsDisk new × IsPartlyNew layout old new × AllShown how cs new

-- one change more, before the others
shown_more : (layout : Layout) (c : Change) (more : List Change) (how : Created) (mid new : Content) → IsOne layout c → Shows c mid → IsPartlyNew layout mid new → AllShown how more new → AllShown how (c ∷ more) new
shown_more layout c more Whole mid new one shows partly all = (still_shows layout c mid new one partly shows, all)
shown_more layout c more Failed mid new one shows partly all = tt

holds_more : (layout : Layout) (c : Change) (more : List Change) (how : Created) (old mid : Content) (new : Option Content) → IsDisk old → IsOne layout c → mid ≡ changed c old → Holds layout more how mid new → Holds layout (c ∷ more) how old new
holds_more layout c more how old mid None disk one is never = elim never [ ]
holds_more layout c more how old mid (Some new) disk one is h = (
  h.0,
  both layout old mid new (subst (λ it. IsPartlyNew layout old it) (sym is) (one_partly layout c old disk one)) h.1,
  shown_more layout c more how mid new one (subst (λ it. Shows c it) (sym is) (one_shows layout c old disk one)) h.1 h.2,
)

through : (layout : Layout) (c : Change) (more : List Change) (how : Created) (old : Content) (told mid new : Option Content) → mid ≡ told → IsOne layout c → WhereTold (Some old) told (λ a b. b ≡ changed c a)
    → ((it : Content) → mid ≡ Some it → IsDisk it → Holds layout more how it new) → Holds layout (c ∷ more) how old new
through layout c more how old None mid new is one never rest = elim never [ ]
through layout c more how old (Some it) mid new is one (disk, disk', made) rest = holds_more layout c more how old it new disk one made (rest it is disk')

holds_failed : (layout : Layout) (c : Change) (more : List Change) (how : Created) (old : Content) (new : Option Content) → how ≡ Failed → IsOne layout c → WhereTold (Some old) new (MayLeave c) → Holds layout (c ∷ more) how old new
holds_failed layout c more how old None is one never = elim never [ ]
holds_failed layout c more Whole old (Some new) is one left = grind (arith, is)
holds_failed layout c more Failed old (Some new) is one (disk, disk', left) = (disk', may_partly layout c old new disk one left, tt)

-- what a disk holds on which changes of a creation were made
holds : (layout : Layout) (cs : List Change) (how : Created) (old new : State) (it : Content) → old.told ≡ Some it → IsDisk it → AllByRecursion (IsOne layout) cs → MakesEach cs how old new → Holds layout cs how it new.told
holds layout [] Whole old new it told disk ones is =
    subst (λ t. Holds layout [] Whole it t) (sym (ap (λ (s : State). s.told) is ∙ told)) (disk, same layout it, tt)
holds layout [] Failed old new it told disk ones never = elim never [ ]
holds layout (c ∷ more) how old new it told disk ones (inl p) =
    through layout c more how it p.0.told p.0.told new.told refl ones.0 (subst (λ t. WhereTold t p.0.told (λ a b. b ≡ changed c a)) told p.1.disk)
    (λ mid is disk'. holds layout more how p.0 new mid is disk' ones.1 p.2)
holds layout (c ∷ more) how old new it told disk ones (inr p) =
    holds_failed layout c more how it new.told p.0 ones.0 (subst (λ t. WhereTold t new.told (MayLeave c)) told p.1.disk)

-- a fault after calls that were done
after_calm : (how : Created) (old mid new : State) → IsCalm old mid → CountsFaults how mid new → CountsFaults how old new
after_calm Whole old mid new calm q = record { faults = q.faults ∙ calm.faults; full = q.full ∙ calm.full }
after_calm Failed old mid new calm q = record {
  later = subst (λ n. n ≤ new.faults) calm.faults q.later;
  rose = subst (λ n. Rose n new.faults) calm.faults q.rose;
  full = q.full ∙ calm.full;
}

fault_of : (layout : Layout) (c : Change) (old new : State) → IsOne layout c → FailsFor c old new → HadFault old new
fault_of layout Nothing old new one fails = elim one [ ]
fault_of layout (PutBlock b bytes) old new one fails = fails
fault_of layout (PutBehind t bytes) old new one fails = elim one [ ]
fault_of layout (CutTo t n) old new one fails = fails
fault_of layout (PutControl t bytes) old new one fails = fails

counts_failed : (how : Created) (old new : State) → how ≡ Failed → HadFault old new → CountsFaults how old new
counts_failed Whole old new is had = grind (arith, is)
counts_failed Failed old new is had = had

-- what a disk counts by changes of a creation
counts : (layout : Layout) (cs : List Change) (how : Created) (old new : State) → AllByRecursion (IsOne layout) cs → MakesEach cs how old new → CountsFaults how old new
counts layout [] Whole old new ones is = record { faults = ap (λ (s : State). s.faults) is; full = ap (λ (s : State). s.full) is }
counts layout [] Failed old new ones never = elim never [ ]
counts layout (c ∷ more) how old new ones (inl p) = after_calm how old p.0 new p.1.counts (counts layout more how p.0 new ones.1 p.2)
counts layout (c ∷ more) how old new ones (inr p) = counts_failed how old new p.0 (fault_of layout c old new ones.0 p.1.counts)

-- all of two lists
all_both : (P : Change → Type 0) (xs ys : List Change) → AllByRecursion P xs → AllByRecursion P ys → AllByRecursion P (xs ++ ys)
all_both P [] ys p q = q
all_both P (x ∷ xs) ys p q = (p.0, all_both P xs ys p.1 q)

all_first : (P : Change → Type 0) (xs ys : List Change) → AllByRecursion P (xs ++ ys) → AllByRecursion P xs
all_first P [] ys p = tt
all_first P (x ∷ xs) ys p = (p.0, all_first P xs ys p.1)

all_second : (P : Change → Type 0) (xs ys : List Change) → AllByRecursion P (xs ++ ys) → AllByRecursion P ys
all_second P [] ys p = p
all_second P (x ∷ xs) ys p = all_second P xs ys p.1

-- all numbers of a range
all_from : (P : Change → Type 0) (f : ℕ → Change) (a n : ℕ) → ((k : ℕ) → k < a + n → P (f k)) → AllByRecursion P (map f (range_with_len a n))
all_from P f a zero each = tt
all_from P f a (suc n) each = (each a (omega arith), all_from P f (a + 1) n (λ k few. each k (omega (arith, few))))

each_from : (P : Change → Type 0) (f : ℕ → Change) (a n : ℕ) → AllByRecursion P (map f (range_with_len a n)) → (k : ℕ) → a ≤ k → k < a + n → P (f k)
each_from P f a zero all k low high = let bad : ⊥ = omega (arith, low, high) in elim bad [ ]
each_from P f a (suc n) all k low high =
    by (cases_eq k a) (λ apart. each_from P f (a + 1) n all.1 k (omega (arith, low, apart)) (omega (arith, high)))
  where
    by : (k ≡ a) ⊎ (k ≡ a → ⊥) → ((k ≡ a → ⊥) → P (f k)) → P (f k)
    by (inl is) later = subst (λ j. P (f j)) (sym is) all.0
    by (inr apart) later = later apart

all_each : (P : Change → Type 0) (f : ℕ → Change) (n : ℕ) → ((k : ℕ) → k < n → P (f k)) → AllByRecursion P (for_each f n)
unfolding for_each
all_each P f n each = all_from P f 0 n (λ k few. each k (omega (arith, few)))

each_all : (P : Change → Type 0) (f : ℕ → Change) (n : ℕ) → AllByRecursion P (for_each f n) → (k : ℕ) → k < n → P (f k)
unfolding for_each
each_all P f n all k few = each_from P f 0 n all k (omega arith) (omega (arith, few))

few_blocks : (layout : Layout) → IsLayout layout → total_of layout ≤ 200
few_blocks layout is = grind (arith, is)

-- each change of a creation is one
all_ones : (layout : Layout) → IsLayout layout → AllByRecursion (IsOne layout) (creation layout)
all_ones layout is =
    all_both (IsOne layout) (for_each empties 8) _ (all_each (IsOne layout) empties 8 (λ t few. (few, refl)))
    (all_both (IsOne layout) (for_each (puts_block layout) (total_of layout)) _
    (all_each (IsOne layout) (puts_block layout) (total_of layout) (λ b few. (omega (arith, few, few_blocks layout is), refl)))
    (all_each (IsOne layout) (puts_entry layout) 8 (λ t few. (few, refl))))

-- what is shown is a new database
leaves : (layout : Layout) (how : Created) (old new : Content) → IsPartlyNew layout old new → AllShown how (creation layout) new → LeavesNew layout how old new
leaves layout Whole old new partly all =
    let P : Change → Type 0 = λ c. Shows c new in
    let later = all_second P (for_each empties 8) _ all in
    record {
      logs = each_all P empties 8 (all_first P (for_each empties 8) _ all);
      blocks = each_all P (puts_block layout) (total_of layout) (all_first P (for_each (puts_block layout) (total_of layout)) _ later);
      entries = each_all P (puts_entry layout) 8 (all_second P (for_each (puts_block layout) (total_of layout)) _ later);
    }
leaves layout Failed old new partly all = partly

-- a disk on which a first change was tried was one
disk_before : (c : Change) (more : List Change) (how : Created) (old new : State) (it : Content) → old.told ≡ Some it → MakesEach (c ∷ more) how old new → IsDisk it
disk_before c more how old new it told (inl p) = first p.0.told (subst (λ t. WhereTold t p.0.told (λ a b. b ≡ changed c a)) told p.1.disk)
  where
    first : (x : Option Content) → WhereTold (Some it) x (λ a b. b ≡ changed c a) → IsDisk it
    first None never = elim never [ ]
    first (Some mid) where_ = where_.0
disk_before c more how old new it told (inr p) = first new.told (subst (λ t. WhereTold t new.told (MayLeave c)) told p.1.disk)
  where
    first : (x : Option Content) → WhereTold (Some it) x (MayLeave c) → IsDisk it
    first None never = elim never [ ]
    first (Some mid) where_ = where_.0

creation_disk : (layout : Layout) (how : Created) (old new : State) (it : Content) → old.told ≡ Some it → MakesEach (creation layout) how old new → IsDisk it
unfolding for_each
creation_disk layout how old new it told makes =
    disk_before (empties 0) (map empties (range_with_len 1 7) ++ (for_each (puts_block layout) (total_of layout) ++ for_each (puts_entry layout) 8)) how old new it told makes

told_new : (layout : Layout) (how : Created) (it : Content) (new : Option Content) → IsDisk it → Holds layout (creation layout) how it new → WhereTold (Some it) new (LeavesNew layout how)
told_new layout how it None disk never = elim never [ ]
told_new layout how it (Some new) disk h = (disk, h.0, leaves layout how it new h.1 h.2)

where_told : (layout : Layout) (how : Created) (old new : State) (told : Option Content) → old.told ≡ told → IsLayout layout → MakesEach (creation layout) how old new → WhereTold told new.told (LeavesNew layout how)
where_told layout how old new None told is makes = tt
where_told layout how old new (Some it) told is makes =
    let disk = creation_disk layout how old new it told makes in
    told_new layout how it new.told disk (holds layout (creation layout) how old new it told disk (all_ones layout is) makes)

-- what a creation leaves
pub leaves_new : (layout : Layout) (how : Created) (old new : State) → IsLayout layout → MakesEach (creation layout) how old new → WhereTold old.told new.told (LeavesNew layout how)
leaves_new layout how old new is makes = where_told layout how old new old.told refl is makes

-- what a creation counts
pub counts_faults : (layout : Layout) (how : Created) (old new : State) → IsLayout layout → MakesEach (creation layout) how old new → CountsFaults how old new
counts_faults layout how old new is makes = counts layout (creation layout) how old new (all_ones layout is) makes
