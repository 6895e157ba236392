-- What a read of a dead thread leaves in memory.
use Rattle.std.specs.Prelude.{ℕ, ◌+◌, ◌==◌, ◌&&◌, if◌then◌else◌, nat_lt, not, Bool, List, [], ◌∷◌, ◌++◌, fold, Option, None, Some, replicate, slice_set}
use Rattle.redo_types.specs.declared.redo.Redo.{Redo}
use Rattle.redo_record.specs.Redo.{length_of}
use Rattle.journal.specs.declared.entry.Entry.TheVariants.{Committed}
use Rattle.log_history.specs.LogHistory.{is_commit}
use Rattle.inst_state.specs.declared.inst.Inst.{Inst}
use Rattle.inst_state.specs.declared.inst.Recovering.{Recovering}
use Rattle.inst_state.specs.declared.shared.Core.{Core}
use Rattle.inst_state.specs.Shared.{counted_of, counting, with_closed}
use Rattle.inst_loss.specs.declared.ends.Loss.TheVariants as loss
use Rattle.inst_loss.specs.Lost.{lost}
use Rattle.inst_loss.specs.LostCore.{lost_core}
use Rattle.report_steps.specs.Recovering.{is_dead, is_read, leads_recovery}
use Rattle.thread_steps.specs.declared.found.BlockVersion.{BlockVersion}
use Rattle.thread_steps.specs.declared.found.Found.{Found}
use Rattle.thread_steps.specs.declared.found.Found.TheVariants.{Closed, Stopped, Unread, Whole}
use Rattle.thread_steps.specs.declared.found.FoundLog.{FoundLog}

-- The leader of a recovery reads a thread that is dead and wasn't read since the last change of membership.
abbrev pub may_read : Inst → Core → ℕ → Bool
may_read n core thread = nat_lt thread 8 && leads_recovery n core && is_dead core thread && not (is_read n core thread)

-- these, if what was read belongs to this epoch, and else those
abbrev pub if_in_epoch : {A : Type 0} → Recovering → ℕ → A → A → A
if_in_epoch r epoch these those = if r.epoch == epoch then these else those

-- What was read and done before the last change of membership, which began this epoch, is forgotten.
abbrev pub in_epoch : Recovering → ℕ → Recovering
in_epoch r epoch = record {
  epoch = epoch;
  threads = if_in_epoch r epoch r.threads [];
  versions = if_in_epoch r epoch r.versions (replicate 200 None);
  rebuilt = if_in_epoch r epoch r.rebuilt [];
}

-- A record that ends at this place of a thread is a commit whose Committed hasn't entered.
abbrev pub is_news : Core → ℕ → ℕ → Redo → Bool
is_news core thread behind redo = nat_lt (counted_of core thread) behind && is_commit redo.kind

-- the shared part once the Committed of a record has entered that ends at this place of a thread, if it is a commit whose
-- Committed hasn't
abbrev pub record_entered : ℕ → ℕ → Redo → Core → Core
record_entered thread behind redo core = counting (record core {
  journal = if is_news core thread behind redo then Committed redo.xid redo.scn thread ∷ core.journal else core.journal;
}) thread behind

-- the shared part once the Committed of the commit records have entered that stand in a thread from this place on, each of
-- them once
abbrev pub records_entered : ℕ → ℕ → List Redo → Core → Core
records_entered thread at [] core = core
records_entered thread at (redo ∷ records) core =
    let behind = at + length_of redo.kind in records_entered thread behind records (record_entered thread behind redo core)

-- the versions with that of one block
abbrev pub with_version : List (Option ℕ) → BlockVersion → List (Option ℕ)
with_version versions one = slice_set versions one.block (Some one.version)

-- A log that was found is kept, and the versions of the blocks that its records name.
abbrev pub with_found : Recovering → FoundLog → List BlockVersion → Recovering
with_found r log versions =
    record r { threads = r.threads ++ log.read ∷ []; versions = fold with_version r.versions versions }

-- an instance with this as what it has read and done since the last change of membership
abbrev pub with_recovering : Inst → Recovering → Inst
with_recovering n recovering = record n { leading = record n.leading { recovering = recovering } }

-- what the leader has read and done since the last change of membership
abbrev pub recovering_now : Inst → Core → Recovering
recovering_now n core = in_epoch n.leading.recovering core.members.epoch

-- The leader after a read of a dead thread: it keeps the log that it has read, and ends where it couldn't read.
abbrev pub thread_read : Inst → Core → Found → Inst
thread_read n core (Closed scns) = with_recovering n (recovering_now n core)
thread_read n core (Unread bad) = lost n
thread_read n core (Stopped log bad) = lost n
thread_read n core (Whole log versions) = with_recovering n (with_found (recovering_now n core) log versions)

-- the shared part once the Committed of a log's commit records have entered
abbrev pub log_entered : Core → ℕ → FoundLog → Core
log_entered core thread log = records_entered thread log.position log.read.records core

-- The shared part after a read of a dead thread: the thread is known to be closed, or its Committed have entered; where it
-- couldn't be read, the leader has ended.
abbrev pub thread_read_core : Inst → Core → ℕ → Found → Core
thread_read_core n core thread (Closed scns) = with_closed core thread (Some scns)
thread_read_core n core thread (Unread bad) = lost_core n core (loss.Ended bad) (Some 0)
thread_read_core n core thread (Stopped log bad) = lost_core n (log_entered core thread log) (loss.Ended bad) (Some 0)
thread_read_core n core thread (Whole log versions) = log_entered core thread log
