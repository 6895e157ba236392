-- What holds of the logs in each run of a script.
use Rattle.std.proofs.Common.{◌≡◌, ◌-◌, ◌^◌, ◌<◌, true, List, length, map, ap, arith}
use Rattle.std.specs.Prelude.{IsSomeAnd, is_some}
use Rattle.rand_pcg.specs.Lcg.{Lcg}
use Rattle.rac_disk.specs.Content.{Content}
use Rattle.rac_disk.specs.State.{State}
use Rattle.script_text.specs.ScriptParts.{ScriptParts}
use Rattle.script_text.specs.WellFormed.{IsWellFormed}
use Rattle.first_state.specs.declared.creation.Created.TheVariants.{Whole}
use Rattle.first_state.specs.Plan.{layout_of}
use Rattle.inst_node.specs.declared.actions.Step.{Step}
use Rattle.world_machine.specs.declared.worlds.World.{World}
use Rattle.world_machine.specs.Runs.{IsRun, words}
use Rattle.cluster_run.specs.declared.script_runs.ClusterRun.{ClusterRun}
use Rattle.cluster_run.specs.First.{IsFirstWorld}
use Rattle.cluster_run.specs.Runs.{IsCreated, IsRunOf}
use Rattle.log_laws.specs.Logs.{HasGoodLogs}
use Rattle.log_laws.proofs.Cluster.{Logs, files_of, own_of, shared_of}
use Rattle.log_laws.proofs.Firsts.{first_holds, good_logs}
use Rattle.log_laws.proofs.Keeps.{and_on}
use Rattle.log_laws.proofs.Worlds.{Holds, run_holds}

-- the logs are right after a run from the first world on, over a database made anew
pub logs_after : (script : ScriptParts) (g : Lcg) (first : World) (disk created : State) (book : List Step) (h : Lcg) (w : World) (disk_now : State)
    → IsRun g first created book h w disk_now → IsWellFormed script → IsFirstWorld script first → is_some disk.told ≡ true → IsCreated (layout_of script) Whole disk created
    → length book < 2 ^ 32 - 1 → Holds w disk_now
logs_after script g first disk created book h w disk_now run fit starts told new few =
    let none = ap (λ core. core.members.epoch) starts.core in
    run_holds g first created book h w disk_now run (omega (arith, none, few)) (first_holds script first disk created fit starts told new)

-- No log of the disk is one that no run leaves, once a script was run over a database made anew on a disk that tells what it holds.
pub run_has_good_logs : (script : ScriptParts) (it : ClusterRun) (disk created disk_now : State) → IsWellFormed script → is_some disk.told ≡ true
    → IsCreated (layout_of script) Whole disk created → IsRunOf script it created disk_now → IsSomeAnd disk_now.told HasGoodLogs
run_has_good_logs script it disk created disk_now fit told new runs =
    let lines = fit.lines_fit in
    let few = runs.few in
    and_on (λ (c : Content). Logs (shared_of it.world.core) (map own_of it.world.insts) (files_of c)) HasGoodLogs disk_now.told (good_logs it.world)
    (logs_after script (words script.settings.seed) runs.first disk created it.ran.book it.ran.words it.world disk_now runs.run fit runs.starts told new (omega (arith, lines, few)))
