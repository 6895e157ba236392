-- How a script is run over a database that is made anew.
use Rattle.std.specs.Prelude.{◌≡◌, ℕ, ◌+◌, ◌*◌, ◌≤◌, ◌⊎◌, true, false, List, length}
use Rattle.rac_disk.specs.State.{State, WhereTold}
use Rattle.base_types.specs.declared.layout.Layout.{Layout}
use Rattle.script_text.specs.ScriptParts.{ScriptParts}
use Rattle.inst_node.specs.declared.actions.Step.{Step}
use Rattle.first_state.specs.declared.creation.Created.{Created}
use Rattle.first_state.specs.declared.creation.Created.TheVariants.{Failed, Whole}
use Rattle.first_state.specs.Create.{CountsFaults, LeavesNew, MakesEach, creation}
use Rattle.first_state.specs.Plan.{layout_of}
use Rattle.world_machine.specs.declared.worlds.World.{World}
use Rattle.world_machine.specs.Runs.{IsRun, IsStuck, words}
use Rattle.cluster_run.specs.declared.script_runs.ClusterRun.{ClusterRun}
use Rattle.cluster_run.specs.declared.script_runs.Finish.{Finish}
use Rattle.cluster_run.specs.declared.script_runs.Finish.TheVariants.{AtLimit, Over, Stuck}
use Rattle.cluster_run.specs.declared.script_runs.ScriptRun.{ScriptRun}
use Rattle.cluster_run.specs.declared.script_runs.ScriptRun.TheVariants.{NotCreated, Ran}
use Rattle.cluster_run.specs.First.{IsFirstWorld}

-- the most steps of a run of a script with so many lines
abbrev pub step_limit : ℕ → ℕ
step_limit lines = 1000000 + 2000 * lines

-- A run with this limit came to its end so, in this world and with these steps.
abbrev pub IsFinish : Finish → ℕ → World → List Step → Type 0
IsFinish Over limit w book = w.core.waves.over ≡ true
IsFinish AtLimit limit w book = (w.core.waves.over ≡ false) × (length book ≡ limit)
IsFinish Stuck limit w book = (w.core.waves.over ≡ false) × IsStuck w

-- A run of a script, from its first world on: it leads from one disk to the other, and ends where no step may be made, or at
-- the most steps of a run.
pub record IsRunOf (script : ScriptParts) (it : ClusterRun) (disk disk_now : State) : Type 0 where
  pub first : World
  pub starts : IsFirstWorld script first
  pub run : IsRun (words script.settings.seed) first disk it.ran.book it.ran.words it.world disk_now
  pub ends : IsStuck it.world ⊎ (length it.ran.book ≡ step_limit script.lines)
  pub few : length it.ran.book ≤ step_limit script.lines
  pub finish : IsFinish it.finish (step_limit script.lines) it.world it.ran.book

-- A database was made anew, as its calls went: the calls, what they left on the disk, and what was counted.
pub record IsCreated (layout : Layout) (how : Created) (disk disk_now : State) : Type 0 where
  pub calls : MakesEach (creation layout) how disk disk_now
  pub content : WhereTold disk.told disk_now.told (LeavesNew layout how)
  pub counts : CountsFaults how disk disk_now

-- The database was made anew; where that was done whole, and only then, the script was run over it.
abbrev pub RunsScript : ScriptParts → ScriptRun → State → State → Type 0
RunsScript script NotCreated disk disk_now = IsCreated (layout_of script) Failed disk disk_now
RunsScript script (Ran it) disk disk_now =
    (created : State) × IsCreated (layout_of script) Whole disk created × IsRunOf script it created disk_now
