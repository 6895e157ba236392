use Rattle.good_run.proofs.WaveLemmas.{waves-alike}
use Rattle.good_run.proofs.laws.only_a_crash_or_a_start_moves_a_wave.Goals as goal

pub returns : goal.returns
returns c parts ever more past same = waves-alike ever more parts.waves same past
