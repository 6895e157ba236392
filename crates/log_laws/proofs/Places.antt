-- The places of the own redo that the disk may lack, and what becomes of them.
use Rattle.std.proofs.Common.{◌≡◌, ℕ, zero, suc, ◌+◌, ◌<◌, ◌≤◌, Bool, true, false, List, [], ◌∷◌, ◌++◌, length, map, Option, None, Some, if◌then◌else◌, refl, sym, subst, ◌⊎◌, inl, inr, arith}
use Rattle.std.specs.Prelude.{◌==◌, find, is_none, min, replicate, slice_index_or, slice_set, nat_le, unwrap_or}
use Rattle.std.specs.List.{AllByRecursion, flat_map, fold, list_all, range_with_len}
use Rattle.std.specs.Option.{option_and_then, option_map, option_to_list}
use Rattle.std.proofs.Math.Nat.{min-eq_left, min-eq_right, min-le_left}
use Rattle.std.proofs.lemmas.Bool.{and_parts, cases_lt}
use Rattle.std.proofs.lemmas.Option.{none-some, same_Some}
use Rattle.base_types.specs.declared.names.Scn.{Scn}
use Rattle.redo_types.specs.declared.blocks.RowChange.{RowChange}
use Rattle.redo_types.specs.declared.redo.Redo.{Redo}
use Rattle.redo_types.specs.declared.redo.UndoChange.{UndoChange}
use Rattle.undo_segment.specs.Apply.{applied, dirtied, head_applied, ring_place, since_after}
use Rattle.undo_segment.specs.Dirty.{cleaned, earlier, first_dirty}
use Rattle.undo_segment.specs.Segment.{SegmentState}
use Rattle.wire_net.specs.declared.message.Role.{Role}
use Rattle.buffer_cache.specs.declared.place.Current.{Current}
use Rattle.buffer_cache.specs.declared.place.PastImage.{PastImage}
use Rattle.buffer_cache.specs.declared.place.Place.{Place}
use Rattle.buffer_cache.specs.Cache.{CacheState, at_place, empty_cache, forgets, place_at}
use Rattle.buffer_cache.specs.Place.{changed, empty_place, forgotten, given_up, is_exclusive, left_behind, marked, mine_of, past_above, regranted, unless_clean, unless_granted, with_change, with_grant, with_past_asked, with_written, without_clean, without_grant, without_past, written}
use Rattle.inst_state.specs.declared.inst.Inst.{Inst}
use Rattle.inst_state.specs.declared.shared.Core.{Core}
use Rattle.inst_state.specs.Shared.{rebuilt_of}
use Rattle.redo_types.specs.declared.redo.DataChange.{DataChange}
use Rattle.redo_thread.specs.Thread.{end_of}
use Rattle.stmt_steps.specs.Back.{applying_dead}
use Rattle.stmt_steps.specs.Change.{applying, cache_changed}
use Rattle.disk_steps.specs.Checkpoint.{position_now}
use Rattle.resource_dir.specs.Rebuilt.{rebuilt}
use Rattle.undo_segment.specs.Begin.{active_count}
use Rattle.report_steps.specs.Reopen.{is_done, is_of, reopened}
use Rattle.report_steps.specs.TakeOver.{all_told, grant_in, role_by, taken_over, thawed, thawed_by, thawed_cache}

-- the places of the own redo that the disk may lack: those since which a block of the segment is dirty, and those of the
-- first own records on the images of data blocks
abbrev pub places_of : Inst → List ℕ
places_of n = flat_map option_to_list n.segment.since ++ flat_map mine_of n.cache.places

-- What holds of each place of a list holds of each of the other one.
abbrev pub Fewer : List ℕ → List ℕ → Type 1
Fewer old new = (P : ℕ → Type 0) → AllByRecursion P old → AllByRecursion P new

-- The same, with one place more.
abbrev pub OneMore : ℕ → List ℕ → List ℕ → Type 1
OneMore at old new = (P : ℕ → Type 0) → P at → AllByRecursion P old → AllByRecursion P new

-- lists

pub all_both : {A : Type 0} (P : A → Type 0) (xs ys : List A) → AllByRecursion P xs → AllByRecursion P ys → AllByRecursion P (xs ++ ys)
all_both P [] ys a b = b
all_both P (x ∷ xs) ys a b = (a.0, all_both P xs ys a.1 b)

pub all_front : {A : Type 0} (P : A → Type 0) (xs ys : List A) → AllByRecursion P (xs ++ ys) → AllByRecursion P xs
all_front P [] ys a = tt
all_front P (x ∷ xs) ys a = (a.0, all_front P xs ys a.1)

pub all_behind : {A : Type 0} (P : A → Type 0) (xs ys : List A) → AllByRecursion P (xs ++ ys) → AllByRecursion P ys
all_behind P [] ys a = a
all_behind P (x ∷ xs) ys a = all_behind P xs ys a.1

-- what a list of lists has, by its lists
pub all_flat : {A : Type 0} (P : ℕ → Type 0) (f : A → List ℕ) (l : List A) → AllByRecursion (λ x. AllByRecursion P (f x)) l → AllByRecursion P (flat_map f l)
all_flat P f [] a = tt
all_flat P f (x ∷ l) a = all_both P (f x) (flat_map f l) a.0 (all_flat P f l a.1)

pub flat_all : {A : Type 0} (P : ℕ → Type 0) (f : A → List ℕ) (l : List A) → AllByRecursion P (flat_map f l) → AllByRecursion (λ x. AllByRecursion P (f x)) l
flat_all P f [] a = tt
flat_all P f (x ∷ l) a = (all_front P (f x) (flat_map f l) a, flat_all P f l (all_behind P (f x) (flat_map f l) a))

all_set : {A : Type 0} (Q : A → Type 0) (l : List A) (i : ℕ) (x : A) → Q x → AllByRecursion Q l → AllByRecursion Q (slice_set l i x)
all_set Q [] i x q a = tt
all_set Q (y ∷ l) zero x q a = (q, a.1)
all_set Q (y ∷ l) (suc i) x q a = (a.0, all_set Q l i x q a.1)

all_at : {A : Type 0} (Q : A → Type 0) (l : List A) (i : ℕ) (x : A) → Q x → AllByRecursion Q l → Q (slice_index_or l i x)
all_at Q [] i x q a = q
all_at Q (y ∷ l) zero x q a = a.0
all_at Q (y ∷ l) (suc i) x q a = all_at Q l i x q a.1

all_map : {A B : Type 0} (Q : B → Type 0) (f : A → B) (l : List A) → ((x : A) → Q (f x)) → AllByRecursion Q (map f l)
all_map Q f [] each = tt
all_map Q f (x ∷ l) each = (each x, all_map Q f l each)

map_all : {A B : Type 0} (R : A → Type 0) (Q : B → Type 0) (f : A → B) (l : List A) → ((x : A) → R x → Q (f x)) → AllByRecursion R l → AllByRecursion Q (map f l)
map_all R Q f [] each a = tt
map_all R Q f (x ∷ l) each a = (each x a.0, map_all R Q f l each a.1)

all_same : {A : Type 0} (Q : A → Type 0) (count : ℕ) (x : A) → Q x → AllByRecursion Q (replicate count x)
all_same Q zero x q = tt
all_same Q (suc count) x q = (q, all_same Q count x q)

-- where nothing holds of each place there is none
pub none_left : (l : List ℕ) → AllByRecursion (λ (at : ℕ). ⊥) l → l ≡ []
none_left [] a = refl
none_left (at ∷ l) a = absurd a.0

pub fewer_of_none : (old new : List ℕ) → Fewer old new → old ≡ [] → new ≡ []
fewer_of_none old new fewer e = none_left new (fewer (λ (at : ℕ). ⊥) (subst (AllByRecursion (λ (at : ℕ). ⊥)) (sym e) tt))

-- an instance whose segment and cache have fewer
pub fewer_by : (n m : Inst) → Fewer (flat_map option_to_list n.segment.since) (flat_map option_to_list m.segment.since)
    → Fewer (flat_map mine_of n.cache.places) (flat_map mine_of m.cache.places) → Fewer (places_of n) (places_of m)
fewer_by n m segment cache P a =
    all_both P (flat_map option_to_list m.segment.since) (flat_map mine_of m.cache.places)
    (segment P (all_front P (flat_map option_to_list n.segment.since) (flat_map mine_of n.cache.places) a))
    (cache P (all_behind P (flat_map option_to_list n.segment.since) (flat_map mine_of n.cache.places) a))

pub more_by : (n m : Inst) (at : ℕ) → OneMore at (flat_map option_to_list n.segment.since) (flat_map option_to_list m.segment.since)
    → OneMore at (flat_map mine_of n.cache.places) (flat_map mine_of m.cache.places) → OneMore at (places_of n) (places_of m)
more_by n m at segment cache P one a =
    all_both P (flat_map option_to_list m.segment.since) (flat_map mine_of m.cache.places)
    (segment P one (all_front P (flat_map option_to_list n.segment.since) (flat_map mine_of n.cache.places) a))
    (cache P one (all_behind P (flat_map option_to_list n.segment.since) (flat_map mine_of n.cache.places) a))

-- the segment

abbrev Dirty : (ℕ → Type 0) → Option ℕ → Type 0
Dirty P since = AllByRecursion P (option_to_list since)

since_set : (P : ℕ → Type 0) (since : List (Option ℕ)) (k : ℕ) (x : Option ℕ) → Dirty P x → AllByRecursion P (flat_map option_to_list since)
    → AllByRecursion P (flat_map option_to_list (slice_set since k x))
since_set P since k x one a =
    all_flat P option_to_list (slice_set since k x) (all_set (Dirty P) since k x one (flat_all P option_to_list since a))

pub cleaned_fewer : (own : SegmentState) (k : ℕ) → Fewer (flat_map option_to_list own.since) (flat_map option_to_list (cleaned own k).since)
cleaned_fewer own k P a = since_set P own.since k None tt a

dirtied_by : (P : ℕ → Type 0) (since : Option ℕ) (at : ℕ) → P at → Dirty P since → Dirty P (dirtied since at)
dirtied_by P None at one a = (one, tt)
dirtied_by P (Some first) at one a = a

dirtied_set : (P : ℕ → Type 0) (since : List (Option ℕ)) (k at : ℕ) → P at → AllByRecursion P (flat_map option_to_list since)
    → AllByRecursion P (flat_map option_to_list (slice_set since k (dirtied (slice_index_or since k None) at)))
dirtied_set P since k at one a =
    since_set P since k (dirtied (slice_index_or since k None) at)
    (dirtied_by P (slice_index_or since k None) at one (all_at (Dirty P) since k None tt (flat_all P option_to_list since a))) a

undo_more : (own : SegmentState) (change : Option UndoChange) (at : ℕ) → OneMore at (flat_map option_to_list own.since) (flat_map option_to_list (since_after own change at))
undo_more own None at P one a = a
undo_more own (Some change) at P one a = dirtied_set P own.since (ring_place own change.block + 1) at one a

pub applied_more : (own : SegmentState) (redo : Redo) (at : ℕ) → OneMore at (flat_map option_to_list own.since) (flat_map option_to_list (applied own redo at).since)
applied_more own redo at P one a =
    undo_more (head_applied own redo.head redo.scn at) redo.undo at P one (dirtied_set P own.since 0 at one a)

-- a segment of which nothing is dirty
abbrev pub clean_since : ℕ → List (Option ℕ)
clean_since count = replicate count None

pub clean_none : (count : ℕ) → flat_map option_to_list (clean_since count) ≡ []
clean_none count =
    none_left (flat_map option_to_list (clean_since count))
    (all_flat (λ (at : ℕ). ⊥) option_to_list (clean_since count) (all_same (Dirty (λ (at : ℕ). ⊥)) count None tt))

-- an image

abbrev now_mine : Option Current → List ℕ
now_mine current = option_to_list (option_and_then (λ now. now.mine) current)

abbrev past_mine : Option PastImage → List ℕ
past_mine past = option_to_list (option_and_then (λ past. past.mine) past)

abbrev pub KeptBy : (Place → Place) → Type 1
KeptBy change = (place : Place) → Fewer (mine_of place) (mine_of (change place))

pub gives_up : KeptBy given_up
gives_up place P a = by place.current place.past a
  where
    by : (current : Option Current) (past : Option PastImage) → AllByRecursion P (now_mine current ++ past_mine past)
        → AllByRecursion P (past_mine (left_behind current past))
    by None past a = a
    by (Some now) past a = choose now.dirty
      where
        choose : (dirty : Bool) → AllByRecursion P (past_mine (if dirty then Some (record { image = now.image; mine = now.mine; asked = false }) else past))
        choose true = all_front P (option_to_list now.mine) (past_mine past) a
        choose false = all_behind P (option_to_list now.mine) (past_mine past) a

-- the current image, or none
if_still : (P : ℕ → Type 0) (gone : Bool) (now : Current) (past : Option PastImage) → AllByRecursion P (option_to_list now.mine ++ past_mine past)
    → AllByRecursion P (now_mine (if gone then None else Some now) ++ past_mine past)
if_still P true now past a = all_behind P (option_to_list now.mine) (past_mine past) a
if_still P false now past a = a

if_there : (P : ℕ → Type 0) (there : Bool) (now : Current) (past : Option PastImage) → AllByRecursion P (option_to_list now.mine ++ past_mine past)
    → AllByRecursion P (now_mine (if there then Some now else None) ++ past_mine past)
if_there P true now past a = a
if_there P false now past a = all_behind P (option_to_list now.mine) (past_mine past) a

pub loses_grant : (grant : ℕ) → KeptBy (without_grant grant)
loses_grant grant place P a = by place.current a
  where
    by : (current : Option Current) → AllByRecursion P (now_mine current ++ past_mine place.past)
        → AllByRecursion P (now_mine (unless_granted grant current) ++ past_mine place.past)
    by None a = a
    by (Some now) a = if_still P (now.grant == grant) now place.past a

pub loses_clean : KeptBy without_clean
loses_clean place P a = by place.current a
  where
    by : (current : Option Current) → AllByRecursion P (now_mine current ++ past_mine place.past)
        → AllByRecursion P (now_mine (unless_clean current) ++ past_mine place.past)
    by None a = a
    by (Some now) a = if_there P now.dirty now place.past a

pub is_written : KeptBy with_written
is_written place P a = by place.current a
  where
    by : (current : Option Current) → AllByRecursion P (now_mine current ++ past_mine place.past)
        → AllByRecursion P (now_mine (option_map written current) ++ past_mine place.past)
    by None a = a
    by (Some now) a = all_behind P (option_to_list now.mine) (past_mine place.past) a

pub loses_past : (version : ℕ) → KeptBy (without_past version)
loses_past version place P a =
    all_both P (now_mine place.current) (past_mine (past_above version place.past)) (all_front P (now_mine place.current) (past_mine place.past) a)
    (by place.past (all_behind P (now_mine place.current) (past_mine place.past) a))
  where
    by : (past : Option PastImage) → AllByRecursion P (past_mine past) → AllByRecursion P (past_mine (past_above version past))
    by None a = a
    by (Some past) a = choose (nat_le past.image.front.version version)
      where
        choose : (gone : Bool) → AllByRecursion P (past_mine (if gone then None else Some past))
        choose true = tt
        choose false = a

marks : (P : ℕ → Type 0) (asked : Bool) (place : Place) → AllByRecursion P (mine_of place) → AllByRecursion P (now_mine place.current ++ past_mine (option_map (marked asked) place.past))
marks P asked place a =
    all_both P (now_mine place.current) (past_mine (option_map (marked asked) place.past)) (all_front P (now_mine place.current) (past_mine place.past) a)
    (by place.past (all_behind P (now_mine place.current) (past_mine place.past) a))
  where
    by : (past : Option PastImage) → AllByRecursion P (past_mine past) → AllByRecursion P (past_mine (option_map (marked asked) past))
    by None a = a
    by (Some past) a = a

pub asks_past : KeptBy with_past_asked
asks_past place P a = marks P true place a

pub forgets_asks : KeptBy forgotten
forgets_asks place P a = marks P false place a

grants : (grant : ℕ) (role : Role) → KeptBy (regranted grant role)
grants grant role place P a = by place.current a
  where
    by : (current : Option Current) → AllByRecursion P (now_mine current ++ past_mine place.past)
        → AllByRecursion P (now_mine (option_map (with_grant grant role) current) ++ past_mine place.past)
    by None a = a
    by (Some now) a = a

thaws : (grant : ℕ) (role : Role) (version : Option ℕ) → KeptBy (thawed_by grant role version)
thaws grant role None place P a = grants grant role place P a
thaws grant role (Some version) place P a = grants grant role (without_past version place) P (loses_past version place P a)

-- a change of an image by the record at a place
pub changes : (change : RowChange) (scn : Scn) (at : ℕ) (place : Place) → OneMore at (mine_of place) (mine_of (with_change change scn at place))
changes change scn at place P one a =
    all_both P (now_mine (option_map (changed change scn at) place.current)) (past_mine place.past)
    (by place.current (all_front P (now_mine place.current) (past_mine place.past) a)) (all_behind P (now_mine place.current) (past_mine place.past) a)
  where
    first : (mine : Option ℕ) → AllByRecursion P (option_to_list mine) → P (unwrap_or mine at)
    first None a = one
    first (Some place) a = a.0

    choose : (exclusive : Bool) (mine : Option ℕ) → AllByRecursion P (option_to_list mine)
        → AllByRecursion P (option_to_list (if exclusive then Some (unwrap_or mine at) else mine))
    choose true mine a = (first mine a, tt)
    choose false mine a = a

    by : (current : Option Current) → AllByRecursion P (now_mine current) → AllByRecursion P (now_mine (option_map (changed change scn at) current))
    by None a = a
    by (Some now) a = choose (is_exclusive now.mode) now.mine a

-- the cache

pub place_more : (P : ℕ → Type 0) (change : Place → Place) (cache : CacheState) (block : ℕ)
    → (AllByRecursion P (mine_of (place_at cache block)) → AllByRecursion P (mine_of (change (place_at cache block)))) → AllByRecursion P (flat_map mine_of cache.places) → AllByRecursion P (flat_map mine_of (at_place change cache block).places)
place_more P change cache block kept a =
    let each = flat_all P mine_of cache.places a in
    all_flat P mine_of (slice_set cache.places block (change (place_at cache block)))
    (all_set (λ (place : Place). AllByRecursion P (mine_of place)) cache.places block (change (place_at cache block))
    (kept (all_at (λ (place : Place). AllByRecursion P (mine_of place)) cache.places block empty_place tt each)) each)

pub place_fewer : (change : Place → Place) (cache : CacheState) (block : ℕ) → KeptBy change → Fewer (flat_map mine_of cache.places) (flat_map mine_of (at_place change cache block).places)
place_fewer change cache block kept P a = place_more P change cache block (kept (place_at cache block) P) a

-- the cache after a record's change of a block
pub cache_more : (cache : CacheState) (block : ℕ) (change : Option DataChange) (scn : Scn) (at : ℕ)
    → OneMore at (flat_map mine_of cache.places) (flat_map mine_of (cache_changed cache block change scn at).places)
cache_more cache block None scn at P one a = a
cache_more cache block (Some change) scn at P one a =
    place_more P (with_change change.to scn at) cache block (changes change.to scn at (place_at cache block) P one) a

-- an instance after a record that is applied to its segment and to a block
pub applying_more : (n : Inst) (block : ℕ) (redo : Redo) → OneMore (end_of n.thread) (places_of n) (places_of (applying n block redo))
applying_more n block redo =
    more_by n (applying n block redo) (end_of n.thread) (applied_more n.segment redo (end_of n.thread)) (cache_more n.cache block redo.row redo.scn (end_of n.thread))

pub marking_more : (n m : Inst) (redo : Redo) → m.segment.since ≡ (applied n.segment redo (end_of n.thread)).since → m.cache.places ≡ n.cache.places
    → OneMore (end_of n.thread) (places_of n) (places_of m)
marking_more n m redo segment cache =
    more_by n m (end_of n.thread)
    (λ P one a. subst (λ (l : List (Option ℕ)). AllByRecursion P (flat_map option_to_list l)) (sym segment) (applied_more n.segment redo (end_of n.thread) P one a))
    (λ P one a. subst (λ (l : List Place). AllByRecursion P (flat_map mine_of l)) (sym cache) a)

pub dead_more : (n : Inst) (block : ℕ) (redo : Redo) → OneMore (end_of n.thread) (places_of n) (places_of (applying_dead n block redo))
dead_more n block redo =
    more_by n (applying_dead n block redo) (end_of n.thread) (λ P one a. a) (cache_more n.cache block redo.row redo.scn (end_of n.thread))

pub thawed_fewer : (me : ℕ) (core : Core) (cache : CacheState) → Fewer (flat_map mine_of cache.places) (flat_map mine_of (thawed_cache me core cache).places)
thawed_fewer me core cache P a =
    let each = flat_all P mine_of cache.places a in
    all_flat P mine_of (thawed_cache me core cache).places
    (all_map (λ (place : Place). AllByRecursion P (mine_of place)) (λ block. thawed me core block (place_at cache block)) (range_with_len 0 (length cache.places))
    (λ block. thaws (grant_in (rebuilt block (all_told core.recovery.reports)) me) (role_by core.recovery.reports block) (rebuilt_of core block) (place_at cache block) P
    (all_at (λ (place : Place). AllByRecursion P (mine_of place)) cache.places block empty_place tt each)))

pub forgets_fewer : (cache : CacheState) → Fewer (flat_map mine_of cache.places) (flat_map mine_of (forgets cache).places)
forgets_fewer cache P a =
    all_flat P mine_of (map forgotten cache.places)
    (map_all (λ (place : Place). AllByRecursion P (mine_of place)) (λ (place : Place). AllByRecursion P (mine_of place)) forgotten cache.places
    (λ place. forgets_asks place P) (flat_all P mine_of cache.places a))

pub empty_none : (frames blocks : ℕ) → flat_map mine_of (empty_cache frames blocks).places ≡ []
empty_none frames blocks =
    none_left (flat_map mine_of (replicate blocks empty_place))
    (all_flat (λ (at : ℕ). ⊥) mine_of (replicate blocks empty_place) (all_same (λ (place : Place). AllByRecursion (λ (at : ℕ). ⊥) (mine_of place)) blocks empty_place tt))

-- the place before which recovery needs nothing

min_of : (P : ℕ → Type 0) (a b : ℕ) → P a → P b → P (min a b)
min_of P a b p q = by (cases_lt a b)
  where
    by : (a < b) ⊎ (b ≤ a) → P (min a b)
    by (inl less) = subst P (sym (min-eq_left {n = a} {m = b} (omega (arith, less)))) p
    by (inr more) = subst P (sym (min-eq_right {n = b} {m = a} more)) q

earlier_of : (P : ℕ → Type 0) (a b : Option ℕ) → Dirty P a → Dirty P b → Dirty P (earlier a b)
earlier_of P None b p q = q
earlier_of P (Some a) None p q = p
earlier_of P (Some a) (Some b) p q = (min_of P a b p.0 q.0, tt)

first_of_all : (P : ℕ → Type 0) (first : Option ℕ) (since : List (Option ℕ)) → Dirty P first → AllByRecursion (Dirty P) since → Dirty P (fold earlier first since)
first_of_all P first [] p a = p
first_of_all P first (x ∷ since) p a = first_of_all P (earlier first x) since (earlier_of P first x p a.0) a.1

least_of_all : (P : ℕ → Type 0) (at : ℕ) (l : List ℕ) → P at → AllByRecursion P l → P (fold min at l)
least_of_all P at [] p a = p
least_of_all P at (x ∷ l) p a = least_of_all P (min at x) l (min_of P at x p a.0) a.1

least_within : (at : ℕ) (l : List ℕ) → fold min at l ≤ at
least_within at [] = omega arith
least_within at (x ∷ l) = let rest = least_within (min at x) l in let this = min-le_left at x in omega (arith, rest, this)

pub position_within : (n : Inst) → position_now n ≤ n.thread.durable
position_within n = least_within n.thread.durable (option_to_list (first_dirty n.segment) ++ flat_map mine_of n.cache.places)

pub position_of : (n : Inst) (P : ℕ → Type 0) → P n.thread.durable → AllByRecursion P (places_of n) → P (position_now n)
position_of n P durable a =
    least_of_all P n.thread.durable (option_to_list (first_dirty n.segment) ++ flat_map mine_of n.cache.places) durable
    (all_both P (option_to_list (first_dirty n.segment)) (flat_map mine_of n.cache.places)
    (first_of_all P None n.segment.since tt (flat_all P option_to_list n.segment.since (all_front P (flat_map option_to_list n.segment.since) (flat_map mine_of n.cache.places) a)))
    (all_behind P (flat_map option_to_list n.segment.since) (flat_map mine_of n.cache.places) a))

-- an instance that takes over what a Thaw has made
pub taken_fewer : (n : Inst) (core : Core) → Fewer (places_of n) (places_of (taken_over n core))
taken_fewer n core = fewer_by n (taken_over n core) (λ P a. a) (by (n.mastering.taken == core.members.epoch))
  where
    by : (taken : Bool) → Fewer (flat_map mine_of n.cache.places) (flat_map mine_of (if taken then n.cache else thawed_cache n.plan.me core n.cache).places)
    by true P a = a
    by false P a = thawed_fewer n.plan.me core n.cache P a

-- the own segment that the leader has adopted and brought to the disk has nothing that the disk lacks

clean_first : (first : Option ℕ) (since : List (Option ℕ)) → is_none (fold earlier first since) ≡ true
    → Dirty (λ (at : ℕ). ⊥) first × AllByRecursion (Dirty (λ (at : ℕ). ⊥)) since
clean_first None [] e = (tt, tt)
clean_first (Some at) [] e = absurd (let no : false ≡ true = e in cc)
clean_first first (x ∷ since) e =
    let rest = clean_first (earlier first x) since e in
    let both = parts first x rest.0 in (both.0, (both.1, rest.1))
  where
    parts : (a b : Option ℕ) → Dirty (λ (at : ℕ). ⊥) (earlier a b) → Dirty (λ (at : ℕ). ⊥) a × Dirty (λ (at : ℕ). ⊥) b
    parts None b none = (tt, none)
    parts (Some a) None none = absurd none.0
    parts (Some a) (Some b) none = absurd none.0

no_dirty : (own : SegmentState) → is_none (first_dirty own) ≡ true → flat_map option_to_list own.since ≡ []
no_dirty own e = none_left (flat_map option_to_list own.since) (all_flat (λ (at : ℕ). ⊥) option_to_list own.since (clean_first None own.since e).1)

found_passes : {A : Type 0} (p q : A → Bool) (l : List A) (x : A) → find p l ≡ Some x → list_all q l ≡ true → q x ≡ true
found_passes p q [] x e all = absurd (none-some x e)
found_passes {A = A} p q (a ∷ l) x e all = let both = and_parts (q a) (list_all q l) all in by both.0 (λ later. found_passes p q l x later both.1) (p a) e
  where
    by : q a ≡ true → (find p l ≡ Some x → q x ≡ true) → (b : Bool) → (if b then Some a else find p l) ≡ Some x → q x ≡ true
    by here later true at = subst (λ (y : A). q y ≡ true) (same_Some a x at) here
    by here later false at = later at

pub reopened_fewer : (n : Inst) → list_all is_done n.leading.adopted ≡ true → Fewer (places_of n) (places_of (reopened n))
reopened_fewer n done = fewer_by n (reopened n) (λ P a. by P a (find (is_of n.plan.me) n.leading.adopted) refl) (λ P a. a)
  where
    by : (P : ℕ → Type 0) → AllByRecursion P (flat_map option_to_list n.segment.since) → (o : Option SegmentState) → find (is_of n.plan.me) n.leading.adopted ≡ o
        → AllByRecursion P (flat_map option_to_list (unwrap_or o n.segment).since)
    by P a None e = a
    by P a (Some own) e =
        let is = found_passes (is_of n.plan.me) is_done n.leading.adopted own e done in
        subst (AllByRecursion P) (sym (no_dirty own (and_parts (active_count own == 0) (is_none (first_dirty own)) is).1)) tt
