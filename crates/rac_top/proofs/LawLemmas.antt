-- What every run of a script keeps, by the laws on runs.
use Rattle.std.proofs.Common.{◌≡◌, ◌∙◌, ◌++◌, [], List, ap, sym}
use Rattle.std.proofs.lemmas.List.{append-nil}
use Rattle.rac_disk.specs.State.{State}
use Rattle.journal.specs.declared.entry.Entry.{Entry}
use Rattle.inst_state.specs.declared.shared.Core.{Core}
use Rattle.script_text.specs.ScriptParts.{ScriptParts}
use Rattle.script_text.specs.WellFormed.{IsWellFormed}
use Rattle.world_machine.specs.declared.worlds.World.{World}
use Rattle.cluster_run.specs.declared.script_runs.ClusterRun.{ClusterRun}
use Rattle.cluster_run.specs.First.{IsFirstWorld}
use Rattle.cluster_run.specs.Runs.{IsRunOf}
use Rattle.run_laws.specs.Runs.{Adds}
use Rattle.run_laws.proofs.RunEnds.{runs_count}
use Rattle.line_laws.proofs.All.{all}
use Rattle.line_laws.proofs.Once.{once}
use Rattle.line_laws.proofs.Openings.{run_asked}
use Rattle.line_laws.proofs.Worlds.{run_lines}
use Rattle.end_laws.proofs.CalmWorlds.{calm_proper, run_known}
use Rattle.end_laws.proofs.Worlds.{run_backed}
use Rattle.wave_laws.proofs.Over.{run_overs, whole}
use Rattle.wave_laws.proofs.Turns.{kept, run_turns}
use Rattle.wave_laws.proofs.Waved.{asked_in_waves, run_waved}
use Rattle.rac_top.specs.Laws.{KeepsLaws}

-- the journal of a run is what was added to that of its first world, which is empty
adds_all : (script : ScriptParts) (first w : World) → IsFirstWorld script first → Adds first w w.core.journal
adds_all script first w starts =
    sym (ap (λ (es : List Entry). w.core.journal ++ es) (ap (λ (core : Core). core.journal) starts.core) ∙ append-nil w.core.journal)

pub keeps-laws : (script : ScriptParts) (it : ClusterRun) (disk disk_now : State) → IsWellFormed script → IsRunOf script it disk disk_now
    → KeepsLaws script it disk disk_now
keeps-laws script it disk disk_now fit runs =
    let lines = run_lines script _ runs.first disk it.ran.book it.ran.words it.world disk_now fit runs.starts runs.run in
    record {
      once = once script it.world.core.journal lines.turns;
      in_turn = lines.turns;
      asked = run_asked script _ runs.first disk it.ran.book it.ran.words it.world disk_now fit runs.starts runs.run;
      answered = λ over. all script it.world fit lines over;
      acknowledgements = (run_backed script _ runs.first disk it.ran.book it.ran.words it.world disk_now runs.starts runs.run).proper;
      turns = kept script it.world fit (run_turns script _ runs.first disk it.ran.book it.ran.words it.world disk_now fit runs.starts runs.run);
      control_lines = asked_in_waves script it.world fit (run_waved script _ runs.first disk it.ran.book it.ran.words it.world disk_now fit runs.starts runs.run);
      whole = λ over. whole script it.world fit (run_overs script _ runs.first disk it.ran.book it.ran.words it.world disk_now fit runs.starts runs.run) over;
      commits = calm_proper script it.world (run_known script _ runs.first disk it.ran.book it.ran.words it.world disk_now fit runs.starts runs.run);
      ends = runs_count _ runs.first disk it.ran.book it.ran.words it.world disk_now runs.run it.world.core.journal
          (adds_all script runs.first it.world runs.starts);
    }
