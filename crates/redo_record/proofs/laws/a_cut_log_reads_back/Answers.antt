use Rattle.redo_record.proofs.CutLemmas.{cut_reads_back}
use Rattle.redo_record.proofs.laws.a_cut_log_reads_back.Goals as goal

pub returns : goal.returns
returns c = cut_reads_back
