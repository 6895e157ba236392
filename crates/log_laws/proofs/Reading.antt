-- What a read of a thread meets.
use Rattle.std.proofs.Common.{◌≡◌, ℕ, ◌^◌, ◌<◌, ◌&&◌, Bool, true, false, List, [], ◌∷◌, ◌++◌, length, take, drop, Option, None, Some, refl, sym, ap, subst, ◌∙◌, ◌⊎◌, inl, inr, arith, append_assoc}
use Rattle.std.specs.Prelude.{IfSome, IsSomeAnd}
use Rattle.std.specs.List.{AllByRecursion}
use Rattle.std.proofs.lemmas.Bool.{and_parts, ltb-true}
use Rattle.std.proofs.lemmas.List.{append_cancel_left, take-append-drop, take_all, take_at}
use Rattle.base_types.specs.declared.layout.Layout.{Layout}
use Rattle.part_image.specs.Cells.{Begins}
use Rattle.control_image.specs.declared.entry.ControlEntry.{ControlEntry}
use Rattle.control_image.specs.declared.entry.ThreadStatus.{ThreadStatus}
use Rattle.control_image.specs.declared.entry.ThreadStatus.TheVariants.{Closed, Running}
use Rattle.control_image.specs.Entry.{entry_bytes, status_number}
use Rattle.redo_types.specs.declared.redo.Redo.{Redo}
use Rattle.redo_record.specs.Front.{log_bytes}
use Rattle.redo_record.specs.Redo.{IsRedo, redo_bytes}
use Rattle.redo_record.proofs.FrontLemmas.{length_at_front}
use Rattle.rac_disk.specs.Content.{Content}
use Rattle.rac_disk.specs.State.{State}
use Rattle.disk_calls.specs.Images.{is_small}
use Rattle.log_history.specs.Logs.{IsEnd, IsRight}
use Rattle.log_history.proofs.LogLemmas.{none_at_end}
use Rattle.log_history.proofs.OneWay.{one_way}
use Rattle.thread_steps.specs.Entries.{HasBadEntry, StandsIn, has_small_numbers}
use Rattle.thread_steps.specs.Found.{AreBad, AreGood, FindsThread, HoldsThread, are_small}
use Rattle.thread_steps.specs.Versions.{HasBadOne, named_blocks}
use Rattle.thread_steps.specs.Records.{AreRecords}
use Rattle.thread_steps.specs.declared.found.Found.{Found}
use Rattle.thread_steps.specs.declared.found.Found.TheVariants as found
use Rattle.log_laws.specs.Logs.{HasLargeNumbers, IsBadFor, IsWhole}
use Rattle.log_laws.proofs.ByThread.{found_entry}
use Rattle.log_laws.proofs.Cluster.{EntryIs, Logs, open_in, Own, Shared, ThreadAt, control_in, files_of, log_in}

-- records at the front of a right log, and what stands behind them
right_after : (ws rs : List Redo) (d rest : List ℕ) → AllByRecursion IsRedo ws → AllByRecursion IsRedo rs → IsEnd rest → log_bytes ws ++ d ≡ log_bytes rs ++ rest → IsRight d
right_after [] rs d rest each all ends e =
    record { records = rs; rest = rest; is_log = record { each = all; spelled = e; no_more = none_at_end rest ends }; ends = ends }
right_after (w ∷ ws) [] d rest each all ends e =
    absurd (none_at_end rest ends w (
      each.0,
      ap (take (length (redo_bytes w))) (sym e ∙ append_assoc (redo_bytes w) (log_bytes ws) d) ∙ take_at (redo_bytes w) (log_bytes ws ++ d) (length (redo_bytes w)) refl,
    ))
right_after (w ∷ ws) (r ∷ rs) d rest each all ends e =
    let bytes = redo_bytes w ++ (log_bytes ws ++ d) in
    let first = sym (append_assoc (redo_bytes w) (log_bytes ws) d) ∙ e ∙ append_assoc (redo_bytes r) (log_bytes rs) rest in
    let begins_w : Begins bytes (redo_bytes w) = take_at (redo_bytes w) (log_bytes ws ++ d) (length (redo_bytes w)) refl in
    let begins_r : Begins bytes (redo_bytes r) = ap (take (length (redo_bytes r))) first ∙ take_at (redo_bytes r) (log_bytes rs ++ rest) (length (redo_bytes r)) refl in
    let size : length (redo_bytes w) ≡ length (redo_bytes r) = sym (length_at_front bytes w each.0 begins_w) ∙ length_at_front bytes r all.0 begins_r in
    let same : redo_bytes w ≡ redo_bytes r = sym begins_w ∙ ap (λ (n : ℕ). take n bytes) size ∙ begins_r in
    right_after ws rs d rest each.1 all.1 ends
    (append_cancel_left (redo_bytes w) (log_bytes ws ++ d) (log_bytes rs ++ rest) (first ∙ ap (λ (x : List ℕ). x ++ (log_bytes rs ++ rest)) (sym same)))

-- a right log from the end of a record on
pub right_from : (log : List ℕ) (at : ℕ) → IsRight log → IsWhole (take at log) → IsRight (drop at log)
right_from log at right whole =
    right_after whole.records right.records (drop at log) right.rest whole.each right.is_log.each right.ends
    (ap (λ (x : List ℕ). x ++ drop at log) (sym whole.spelled) ∙ take-append-drop at log ∙ right.is_log.spelled)

-- behind the records of a right log nothing is bad
never_bad : (bytes : List ℕ) (records : List Redo) → IsRight bytes → AreRecords bytes records true → ⊥
never_bad bytes records right are =
    let same = one_way bytes right.records records right.rest are.rest right.is_log are.is_log in are.ends (subst IsEnd same.1 right.ends)

small_under : (n : ℕ) → is_small n ≡ true → n < 256 ^ 8
small_under n e = let h = ltb-true n (2 ^ 62) e in omega (arith, h)

status_fits : (s : ThreadStatus) → status_number s < 256
status_fits Running = omega arith
status_fits Closed = omega arith

-- an entry with small numbers stands in its bytes
stands_small : (e : ControlEntry) → has_small_numbers e ≡ true → StandsIn (entry_bytes e) e
stands_small e small =
    let a = and_parts (is_small e.position && is_small e.highest_scn) (is_small e.highest_end_scn) small in
    let b = and_parts (is_small e.position) (is_small e.highest_scn) a.0 in (
      (omega arith, (status_fits e.status, (tt, (small_under e.position b.0, (small_under e.highest_scn b.1, (small_under e.highest_end_scn a.1, tt)))))),
      take_all (length (entry_bytes e)) (entry_bytes e) (omega arith),
    )

-- a thread whose entry is told to be bad has an entry with a number that no run comes near
large : (t : ℕ) (it : Content) (e : ControlEntry) → control_in (files_of it) t ≡ entry_bytes e → HasBadEntry t it → HasLargeNumbers t it
large t it e bytes (inl none) = by (has_small_numbers e) refl
  where
    by : (b : Bool) → has_small_numbers e ≡ b → HasLargeNumbers t it
    by true small = absurd (none e (subst (λ (x : List ℕ). StandsIn x e) (sym bytes) (stands_small e small)))
    by false big = record { entry = e; stands = ap (take (length (entry_bytes e))) bytes ∙ take_all (length (entry_bytes e)) (entry_bytes e) (omega arith); large = big }
large t it e bytes (inr p) = record { entry = p.0; stands = p.1.1; large = p.2 }

pub found_right : (s : Shared) (it : Content) (layout : Layout) (t : ℕ) (it_is : Found) → ThreadAt s (files_of it) t → HoldsThread layout t it_is it → IsBadFor layout t it_is it
found_right s it layout t (found.Closed scns) thread holds = tt
found_right s it layout t (found.Whole log versions) thread holds = tt
found_right s it layout t (found.Unread false) thread holds = tt
found_right s it layout t (found.Unread true) thread holds = large t it thread.entry.entry thread.entry.bytes holds
found_right s it layout t (found.Stopped log false) thread holds = tt
found_right s it layout t (found.Stopped log true) thread holds = by holds.holds.1
  where
    e : (x : EntryIs (log_in (files_of it) t) (control_in (files_of it) t) (open_in s t)) × ((x.entry.status ≡ holds.entry.status) × (x.entry.position ≡ holds.entry.position))
    e = found_entry s (files_of it) it t holds.entry refl thread holds.has

    right : IsRight (drop holds.entry.position (log_in (files_of it) t))
    right = right_from (log_in (files_of it) t) holds.entry.position thread.right
        (subst (λ (k : ℕ). IsWhole (take k (log_in (files_of it) t))) e.1.1 (e.0.running (e.1.0 ∙ holds.running)))

    bad : AreBad (drop holds.entry.position (log_in (files_of it) t)) log.read.records → (are_small log.read.records ≡ false) ⊎ HasBadOne layout (named_blocks log.read.records) it
    bad are = by_why are.why
      where
        by_why : (are.bad ≡ true) ⊎ (are_small log.read.records ≡ false) → (are_small log.read.records ≡ false) ⊎ HasBadOne layout (named_blocks log.read.records) it
        by_why (inl is) = absurd (never_bad (drop holds.entry.position (log_in (files_of it) t)) log.read.records right
            (subst (AreRecords (drop holds.entry.position (log_in (files_of it) t)) log.read.records) is are.are))
        by_why (inr large) = inl large

    by : ((true ≡ true) × AreBad (drop holds.entry.position (log_in (files_of it) t)) log.read.records)
        ⊎ (AreGood (drop holds.entry.position (log_in (files_of it) t)) log.read.records × HasBadOne layout (named_blocks log.read.records) it)
        → (are_small log.read.records ≡ false) ⊎ HasBadOne layout (named_blocks log.read.records) it
    by (inl p) = bad p.1
    by (inr p) = inr p.1

-- what a read of a thread finds in a world of a run
pub finds_right : (s : Shared) (owns : List Own) (layout : Layout) (t : ℕ) (it_is : Found) (now later : State) → t < 8 → IsSomeAnd now.told (λ it. Logs s owns (files_of it))
    → FindsThread layout t it_is now later → IsSomeAnd now.told (IsBadFor layout t it_is)
finds_right s owns layout t it_is now later few holds finds = by now.told holds finds.holds
  where
    by : (told : Option Content) → IsSomeAnd told (λ it. Logs s owns (files_of it)) → IfSome told (HoldsThread layout t it_is) → IsSomeAnd told (IsBadFor layout t it_is)
    by None h f = absurd h
    by (Some it) h f = found_right s it layout t it_is (h.threads t few) f
