-- What the leader has read and done since the last change of membership.
use Rattle.std.specs.Prelude.{ℕ, ◌==◌, if◌then◌else◌, List, [], map, None, replicate}
use Rattle.redo_merge.specs.declared.tagged.Tagged.{Tagged}
use Rattle.redo_merge.specs.Merge.{merged}
use Rattle.inst_state.specs.declared.inst.ReadThread.{ReadThread}
use Rattle.inst_state.specs.declared.inst.Recovering.{Recovering}
use Rattle.report_steps.specs.Recovering.{redo_of}

-- these, if what was read belongs to this epoch, and else those
abbrev pub if_in_epoch : {A : Type 0} → Recovering → ℕ → A → A → A
if_in_epoch r epoch these those = if r.epoch == epoch then these else those

-- the threads that were read since the last change of membership, which began this epoch
abbrev pub threads_in : Recovering → ℕ → List ReadThread
threads_in r epoch = if_in_epoch r epoch r.threads []

-- What was read and done before the last change of membership, which began this epoch, is forgotten.
abbrev pub in_epoch : Recovering → ℕ → Recovering
in_epoch r epoch = record {
  epoch = epoch;
  threads = threads_in r epoch;
  versions = if_in_epoch r epoch r.versions (replicate 200 None);
  rebuilt = if_in_epoch r epoch r.rebuilt [];
}

-- the records that were read of these threads, in the order in which they were made
abbrev pub merged_redo : List ReadThread → List Tagged
merged_redo threads = merged (map redo_of threads)
