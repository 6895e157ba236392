-- A run of a script, and a creation, of their parts.
use Rattle.std.proofs.Common.{◌≡◌, ℕ, ◌≤◌, ◌⊎◌, length, subst}
use Rattle.base_types.specs.declared.layout.Layout.{Layout}
use Rattle.rac_disk.specs.State.{State, WhereTold}
use Rattle.script_text.specs.ScriptParts.{ScriptParts}
use Rattle.first_state.specs.declared.creation.Created.{Created}
use Rattle.first_state.specs.Create.{CountsFaults, LeavesNew, MakesEach, creation}
use Rattle.first_state.specs.Plan.{layout_of}
use Rattle.world_machine.specs.declared.worlds.World.{World}
use Rattle.world_machine.specs.Runs.{IsRun, IsStuck, words}
use Rattle.cluster_run.specs.declared.script_runs.ClusterRun.{ClusterRun}
use Rattle.cluster_run.specs.First.{IsFirstWorld}
use Rattle.cluster_run.specs.Runs.{IsCreated, IsFinish, IsRunOf, step_limit}

-- a run by the seed and the limit that the script sets
pub is_run_of : (script : ScriptParts) (it : ClusterRun) (first : World) (disk disk_now : State) (seed limit : ℕ) → seed ≡ script.settings.seed
    → limit ≡ step_limit script.lines → IsFirstWorld script first
    → IsRun (words seed) first disk it.ran.book it.ran.words it.world disk_now → IsStuck it.world ⊎ (length it.ran.book ≡ limit)
    → length it.ran.book ≤ limit → IsFinish it.finish limit it.world it.ran.book → IsRunOf script it disk disk_now
is_run_of script it first disk disk_now seed limit seed_is limit_is starts run ends few finish = record {
  first = first;
  starts = starts;
  run = subst (λ (x : ℕ). IsRun (words x) first disk it.ran.book it.ran.words it.world disk_now) seed_is run;
  ends = subst (λ (x : ℕ). IsStuck it.world ⊎ (length it.ran.book ≡ x)) limit_is ends;
  few = subst (λ (x : ℕ). length it.ran.book ≤ x) limit_is few;
  finish = subst (λ (x : ℕ). IsFinish it.finish x it.world it.ran.book) limit_is finish;
}

-- a database that was made anew by the layout that the script sets
pub is_created : (script : ScriptParts) (layout : Layout) (how : Created) (disk disk_now : State) → layout ≡ layout_of script
    → MakesEach (creation layout) how disk disk_now → WhereTold disk.told disk_now.told (LeavesNew layout how) → CountsFaults how disk disk_now
    → IsCreated (layout_of script) how disk disk_now
is_created script layout how disk disk_now layout_is calls content counts =
    subst (λ (x : Layout). IsCreated x how disk disk_now) layout_is (record { calls = calls; content = content; counts = counts })
