-- What a run promises.
use Rattle.std.specs.Prelude.{◌≡◌, ◌⊎◌, ℕ, List, [], Bool, true, false, Option, Ok, is_some, IsSomeAnd}
use Rattle.std.specs.Io.KnownBytes.{Appends, IsAtEnd}
use Rattle.std.specs.List.{list_any}
use Rattle.rac_io.specs.Counts.{Counts, Rose}
use Rattle.rac_io.specs.Read.{TakesUpTo}
use Rattle.rac_io.specs.Write.{AppendsPart}
use Rattle.rac_disk.specs.State.{State}
use Rattle.cli_words.specs.declared.order.RunOptions.{RunOptions}
use Rattle.journal.specs.Past.{Past}
use Rattle.journal_check.specs.Checked.{IsChecked}
use Rattle.script_text.specs.Limits.{text_bytes}
use Rattle.script_text.specs.Reading.{reading}
use Rattle.script_text.specs.ScriptParts.{ScriptParts}
use Rattle.first_state.specs.declared.creation.Created.TheVariants.{Failed, Whole}
use Rattle.first_state.specs.Plan.{layout_of}
use Rattle.cluster_run.specs.declared.script_runs.ClusterRun.{ClusterRun}
use Rattle.cluster_run.specs.Runs.{IsCreated, IsRunOf, step_limit}
use Rattle.log_laws.specs.Logs.{HasGoodLogs}
use Rattle.rac_top.specs.declared.exit.End.{End}
use Rattle.rac_top.specs.declared.exit.End.TheVariants.{Done, ReadFault, WriteFault, DiskFault, NotCreated, StepLimit, BadDisk, Stuck, NotGood}
use Rattle.rac_top.specs.declared.exit.Exit.{Exit}
use Rattle.rac_top.specs.Ends.{RunEndsFor, Stayed, is_before_disk, is_faultless, is_told}
use Rattle.rac_top.specs.Failures.{has_failed}
use Rattle.rac_top.specs.Laws.{KeepsLaws}
use Rattle.rac_top.specs.RunEnds.{ReportEnds, end_of_run, is_bad_end}
use Rattle.rac_top.specs.RunTexts.{rows_of, run_text}
use Rattle.rac_top.specs.Scripts.{IsAllOf, IsScript}

-- what is held now is what was held and then all of a text, or at a write fault a part of it, less than the whole
abbrev pub IsWritten : End → List ℕ → Option (List ℕ) → Option (List ℕ) → Type 0
IsWritten WriteFault text old new = AppendsPart old new text
IsWritten Done text old new = Appends old new text
IsWritten DiskFault text old new = Appends old new text
IsWritten (StepLimit limit) text old new = Appends old new text
IsWritten BadDisk text old new = Appends old new text
IsWritten Stuck text old new = Appends old new text
IsWritten _ text old new = ⊥

-- A script was read, which is all that the source had left, where it tells that; the database was made anew, and the
-- script was run over it, which left this. Each line is answered in its turn, and the ends of instances are counted. Where the
-- disk tells what it holds, no log that is left is one that no run leaves, whatever crashed and whichever calls failed.
pub record HasRun (left left_now : Option (List ℕ)) (disk disk_now : State) (parts : ScriptParts) (run : ClusterRun) : Type 0 where
  pub text : List ℕ
  pub all : IsAllOf left text × IsAtEnd left_now
  pub script : reading text ≡ Ok parts
  pub created : State
  pub is_created : IsCreated (layout_of parts) Whole disk created
  pub is_run : IsRunOf parts run created disk_now
  pub keeps : KeepsLaws parts run created disk_now
  pub good_logs : is_some disk.told ≡ true → IsSomeAnd disk_now.told HasGoodLogs

-- A run is told as it went: its journal and its steps are those of the exit, it ends by how it finished, the journal was
-- checked where that was asked for, and its text was written.
pub record TellsRun (options : RunOptions) (parts : ScriptParts) (run : ClusterRun) (failed : Bool)
    (held held_now : Option (List ℕ)) (exit : Exit) : Type 0 where
  pub journal : run.world.core.journal ≡ exit.journal
  pub book : run.ran.book ≡ exit.book
  pub end : ReportEnds (end_of_run run.finish (step_limit parts.lines) failed (list_any is_bad_end exit.journal)) exit.end
  pub checked : options.check ≡ true → IsChecked (rows_of parts) exit.journal
  pub written : IsWritten exit.end (run_text parts exit.journal exit.book options) held held_now

-- A script was read and run, and the run was told as it went.
pub record RanScript (options : RunOptions) (left left_now held held_now : Option (List ℕ)) (disk disk_now : State)
    (exit : Exit) : Type 0 where
  pub parts : ScriptParts
  pub run : ClusterRun
  pub ran : HasRun left left_now disk disk_now parts run
  pub tells : TellsRun options parts run (has_failed disk disk_now) held held_now exit

-- A script was read and run, and the journal of the run isn't good.
pub record IsNotGood (left left_now : Option (List ℕ)) (disk disk_now : State) : Type 0 where
  pub parts : ScriptParts
  pub run : ClusterRun
  pub ran : HasRun left left_now disk disk_now parts run
  pub bad : IsChecked (rows_of parts) run.world.core.journal → ⊥

-- A script was read, which is all that the source had left, where it tells that; a call of the disk failed as the
-- database was made anew, and each log, block and control entry is as it was or as the new database has it.
pub record IsUncreated (left left_now : Option (List ℕ)) (disk disk_now : State) : Type 0 where
  pub text : List ℕ
  pub parts : ScriptParts
  pub all : IsAllOf left text × IsAtEnd left_now
  pub script : reading text ≡ Ok parts
  pub is_created : IsCreated (layout_of parts) Failed disk disk_now

-- Neither count of the disk rose or stands at its end, and no instance met content that no run left.
abbrev pub IsWell : Past → State → State → Type 0
IsWell past disk disk_now =
    Stayed disk.faults disk_now.faults × Stayed disk.full disk_now.full × (list_any is_bad_end past ≡ false)

-- What a run promises of its source, its sink, its disk and its exit, each before the call and now.
pub record Runs (options : RunOptions) (left left_now : Option (List ℕ)) (read read_now : ℕ)
    (held held_now : Option (List ℕ)) (wrote wrote_now stalled stalled_now : ℕ) (disk disk_now : State) (exit : Exit)
    : Type 0 where
  -- why it ends as it does, and that it ends with a read fault exactly where the source failed
  pub cause : RunEndsFor exit.end options.check exit.journal left (Rose read read_now) (Rose wrote wrote_now ⊎ Rose stalled stalled_now) disk disk_now
  pub read_fault : Counts (exit.end ≡ ReadFault) read read_now
  -- what was read, run and written
  pub reads : TakesUpTo text_bytes left left_now
  pub ran : is_told exit.end ≡ true → RanScript options left left_now held held_now disk disk_now exit
  pub not_good : exit.end ≡ NotGood → IsNotGood left left_now disk disk_now
  pub silent : is_told exit.end ≡ false → (exit.journal ≡ []) × (exit.book ≡ []) × (held_now ≡ held)
  -- what the disk has
  pub untouched : is_before_disk exit.end ≡ true → disk_now ≡ disk
  pub uncreated : exit.end ≡ NotCreated → IsUncreated left left_now disk disk_now
  pub calm : exit.end ≡ Done → IsWell exit.journal disk disk_now
  -- where nothing goes wrong all is done, unless memory, the limit of steps or what the instances met ended it
  pub completes : IsScript left → Stayed read read_now → Stayed wrote wrote_now → Stayed stalled stalled_now
      → Stayed disk.faults disk_now.faults → Stayed disk.full disk_now.full → is_faultless options.check exit.end ≡ true
