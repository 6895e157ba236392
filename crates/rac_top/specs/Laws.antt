-- What every run of a script keeps.
use Rattle.std.specs.Prelude.{◌≡◌, true}
use Rattle.rac_disk.specs.State.{State}
use Rattle.journal.specs.Good.{AckIsProper, CommitIsProper}
use Rattle.journal.specs.Past.{Each}
use Rattle.script_text.specs.GoodLines.{AllAnswered, IsAsked}
use Rattle.script_text.specs.ScriptParts.{ScriptParts}
use Rattle.cluster_run.specs.declared.script_runs.ClusterRun.{ClusterRun}
use Rattle.run_laws.specs.Ends.{AreEndsCounted}
use Rattle.line_laws.specs.Turns.{AreAnsweredOnce, AreInTurn}
use Rattle.end_laws.specs.Calm.{is_calm}
use Rattle.good_run.specs.Good.{is_whole, turns_are_kept}
use Rattle.wave_laws.specs.Controls.{controls_have_turns}

-- What every run of a script keeps, whatever crashes and whatever the disk does. Each statement line is answered at most once, in the
-- order of its session and after its start. Sessions are opened and lines start as the script asks, after the earlier waves. A
-- commit is answered only after it has entered. Openings, starts and answers stand after all answers of the earlier waves, and each
-- control line is answered in its wave, as it asks and at most once. Once the last wave is over, each line is answered. Instances end by faults of the disk no more often than its counts rose.
pub record KeepsLaws (parts : ScriptParts) (it : ClusterRun) (disk disk_now : State) : Type 0 where
  pub once : AreAnsweredOnce it.world.core.journal
  pub in_turn : AreInTurn parts it.world.core.journal
  pub asked : Each (IsAsked parts) it.world.core.journal
  pub answered : it.world.core.waves.over ≡ true → AllAnswered parts it.world.core.journal
  pub acknowledgements : Each AckIsProper it.world.core.journal
  pub turns : turns_are_kept parts it.world.core.journal ≡ true
  pub control_lines : controls_have_turns parts it.world.core.journal ≡ true
  pub whole : it.world.core.waves.over ≡ true → is_whole parts it.world.core.journal ≡ true
  pub ends : AreEndsCounted it.world.core.journal disk disk_now
  -- where no instance was lost, a transaction commits on its own instance, after its mark and once, and nothing of it follows
  pub commits : is_calm it.world.core.journal ≡ true → Each CommitIsProper it.world.core.journal
