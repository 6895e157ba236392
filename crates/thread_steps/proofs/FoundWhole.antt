-- What was found of a thread, from its records to its entry.
use Rattle.std.proofs.Common.{◌≡◌, ℕ, Bool, true, false, not, inr, List, Result, Ok, Err, IfOk, refl, sym, ap, subst, ◌∙◌}
use Rattle.base_types.specs.declared.layout.Layout.{Layout}
use Rattle.redo_types.specs.declared.redo.Redo.{Redo}
use Rattle.control_image.specs.declared.entry.ControlEntry.{ControlEntry}
use Rattle.control_image.specs.declared.entry.ThreadStatus.TheVariants.{Running}
use Rattle.rac_disk.specs.Content.{Content}
use Rattle.rac_disk.specs.State.{State}
use Rattle.thread_steps.specs.declared.found.Found.{Found}
use Rattle.thread_steps.specs.declared.found.Found.TheVariants.{Closed, Stopped, Unread, Whole}
use Rattle.thread_steps.specs.declared.found.FoundLog.{FoundLog}
use Rattle.thread_steps.specs.Entries.{HasEntry}
use Rattle.thread_steps.specs.Found.{AreGood, HoldsRecords, HoldsThread, IsUnread, RunsAs, StopsFor, VersionsAs, fails, found_log}
use Rattle.thread_steps.specs.Observes.{Observes}
use Rattle.thread_steps.specs.Records.{log_from}
use Rattle.thread_steps.specs.Versions.{HaveVersions, named_blocks}
use Rattle.thread_steps.proofs.Observing.{observes_more, observes_weaker}

same_log : (thread : ℕ) (entry : ControlEntry) (same log : FoundLog) (records : List Redo) → same ≡ log → log ≡ found_log thread entry records → (same.read.records ≡ records) × (same ≡ found_log thread entry same.read.records)
same_log thread entry same log records is from =
    let both = is ∙ from in
    let those : same.read.records ≡ records = ap (λ (l : FoundLog). l.read.records) both in
    (those, both ∙ ap (λ (r : List Redo). found_log thread entry r) (sym those))

-- the versions belong to the records that were read
pub records_hold : (layout : Layout) (thread : ℕ) (entry : ControlEntry) (bytes : List ℕ) (log : FoundLog) (records : List Redo) (it : Content) → log ≡ found_log thread entry records → AreGood bytes records
    → (found : Found) → VersionsAs layout log found it → HoldsRecords layout thread entry bytes found it
records_hold layout thread entry bytes log records it is good (Closed scns) has = absurd has
records_hold layout thread entry bytes log records it is good (Unread bad) has = absurd has
records_hold layout thread entry bytes log records it is good (Stopped same bad) has =
    let both = same_log thread entry same log records has.0 is in (
      both.1,
      inr (
        subst (λ (r : List Redo). AreGood bytes r) (sym both.0) good,
        subst (λ (l : FoundLog). StopsFor layout l.read.records bad it) (sym has.0) has.1,
      ),
    )
records_hold layout thread entry bytes log records it is good (Whole same versions) has =
    let both = same_log thread entry same log records has.0 is in (
      both.1,
      subst (λ (r : List Redo). AreGood bytes r) (sym both.0) good,
      subst (λ (l : FoundLog). HaveVersions layout (named_blocks l.read.records) versions it) (sym has.0) has.1,
    )

-- the records belong to the log
pub log_holds : (layout : Layout) (thread : ℕ) (entry : ControlEntry) (bytes : List ℕ) (it : Content) → bytes ≡ log_from thread entry.position it
    → (found : Found) → HoldsRecords layout thread entry bytes found it → RunsAs layout thread entry found it
log_holds layout thread entry bytes it is (Unread bad) holds = absurd holds
log_holds layout thread entry bytes it is found holds =
    subst (λ (b : List ℕ). HoldsRecords layout thread entry b found it) is holds

-- the log belongs to the thread
pub entry_holds : (layout : Layout) (thread : ℕ) (entry : ControlEntry) (it : Content) → HasEntry thread entry it → entry.status ≡ Running
    → (found : Found) → RunsAs layout thread entry found it → HoldsThread layout thread found it
entry_holds layout thread entry it has running (Closed scns) runs = absurd runs
entry_holds layout thread entry it has running (Unread bad) runs = subst (λ (b : Bool). IsUnread thread b it) (sym runs) tt
entry_holds layout thread entry it has running (Stopped log bad) runs = record { entry = entry; has = has; running = running; holds = runs }
entry_holds layout thread entry it has running (Whole log versions) runs = record { entry = entry; has = has; running = running; holds = runs }

-- what follows from what was found
pub found_weaker : {E : Type 0} (P Q : Found → Content → Type 0) (result : Result Found E) (old new : State) → ((it : Content) (found : Found) → P found it → Q found it)
    → IfOk result (λ found. Observes (fails found) (P found) old new) → IfOk result (λ found. Observes (fails found) (Q found) old new)
found_weaker P Q (Ok found) old new follows is = observes_weaker (fails found) (P found) (Q found) old new (λ it. follows it found) is
found_weaker P Q (Err why) old new follows is = tt

-- what is found behind something that was read
pub found_more : {E : Type 0} (First : Content → Type 0) (P Q : Found → Content → Type 0) (result : Result Found E) (old mid new : State) → ((it : Content) (found : Found) → First it → P found it → Q found it)
    → Observes false First old mid → IfOk result (λ found. Observes (fails found) (P found) mid new) → IfOk result (λ found. Observes (fails found) (Q found) old new)
found_more First P Q (Ok found) old mid new follows first is = observes_more (fails found) First (P found) (Q found) old mid new (λ it. follows it found) first is
found_more First P Q (Err why) old mid new follows first is = tt

-- a test that failed of its contrary
pub not_false : (b : Bool) → not b ≡ false → b ≡ true
not_false true is = refl
not_false false is = absurd cc
