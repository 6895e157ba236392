use Rattle.script_print.proofs.Printable.{reading-printable}
use Rattle.script_print.proofs.ReadBack.{printed-reads}
use Rattle.script_print.proofs.laws.a_printed_script_reads_back.Goals as goal

pub returns : goal.returns
returns c = λ text parts reads. printed-reads parts (reading-printable text parts reads)
