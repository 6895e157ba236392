-- What a run promises, of what it read and ran.
use Rattle.std.proofs.Common.{◌≡◌, ℕ, List, Bool, true, false, Option, Ok, refl, subst}
use Rattle.std.specs.Io.KnownBytes.{IsAtEnd}
use Rattle.rac_disk.specs.State.{State}
use Rattle.cli_words.specs.declared.order.RunOptions.{RunOptions}
use Rattle.journal_check.specs.Checked.{IsChecked}
use Rattle.script_text.specs.ScriptParts.{ScriptParts}
use Rattle.script_text.specs.WellFormed.{IsWellFormed}
use Rattle.cluster_run.specs.declared.script_runs.ClusterRun.{ClusterRun}
use Rattle.cluster_run.specs.declared.script_runs.ScriptRun.TheVariants.{Ran}
use Rattle.cluster_run.specs.Runs.{RunsScript}
use Rattle.rac_top.specs.declared.exit.End.{End}
use Rattle.rac_top.specs.declared.exit.End.TheVariants.{NotGood}
use Rattle.rac_top.specs.Ends.{is_told}
use Rattle.rac_top.specs.Reads.{SaysAll}
use Rattle.rac_top.specs.RunTexts.{IsUntold, rows_of}
use Rattle.rac_top.specs.Runs.{HasRun, IsNotGood}
use Rattle.log_laws.proofs.Runs.{run_has_good_logs}
use Rattle.rac_top.proofs.LawLemmas.{keeps-laws}

-- a script was read and run
pub has-run : (script : ScriptParts) (run : ClusterRun) (left left_now : Option (List ℕ)) (disk disk_now : State)
    → IsWellFormed script → SaysAll left (Ok script) → IsAtEnd left_now → RunsScript script (Ran run) disk disk_now
    → HasRun left left_now disk disk_now script run
has-run script run left left_now disk disk_now fit says at_end runs = record {
  text = says.text;
  all = (says.all, at_end);
  script = says.says;
  created = runs.0;
  is_created = runs.1;
  is_run = runs.2;
  keeps = keeps-laws script run runs.0 disk_now fit runs.2;
  good_logs = λ told. run_has_good_logs script run disk runs.0 disk_now fit told runs.1 runs.2;
}

-- and its journal isn't good
pub not-good : (options : RunOptions) (script : ScriptParts) (run : ClusterRun) (left left_now : Option (List ℕ)) (disk disk_now : State) (end : End)
    → HasRun left left_now disk disk_now script run → (is_told end ≡ false → IsUntold options.check (IsChecked (rows_of script) run.world.core.journal) end)
    → end ≡ NotGood → IsNotGood left left_now disk disk_now
not-good options script run left left_now disk disk_now end runs untold is =
    let Why : End → Type 0 = λ x. is_told x ≡ false → IsUntold options.check (IsChecked (rows_of script) run.world.core.journal) x in
    let why : Why NotGood = subst Why is untold in
    record { parts = script; run = run; ran = runs; bad = (why refl).1 }
