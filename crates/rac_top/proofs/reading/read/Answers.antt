-- The text that was read says what the whole text says.
use Rattle.std.proofs.Common.{[], unwrap_or}
use Rattle.rac_top.proofs.ReadingLemmas.{all-left, whole-says}
use Rattle.rac_top.proofs.reading.read.Goals as goal

pub returns-in-Err-Fault-clause-says : goal.returns-in-Err-Fault-clause-says
returns-in-Err-Fault-clause-says g c =
    record { text = unwrap_or (g.S.Source.left c.args.source.now) []; all = all-left (g.S.Source.left c.args.source.now); says = tt }

pub returns-in-Err-NoMemory-clause-says : goal.returns-in-Err-NoMemory-clause-says
returns-in-Err-NoMemory-clause-says g c =
    record { text = unwrap_or (g.S.Source.left c.args.source.now) []; all = all-left (g.S.Source.left c.args.source.now); says = tt }

pub returns-clause-says : goal.returns-clause-says
returns-clause-says g c =
    whole-says 2100000 c.long_text_is_refused_by_its_beginning.ensures.alike (g.S.Source.left c.args.source.now) c.in-Ok.text.items c.read_text.result
    c.in-Ok.ensures.ok.first (rw c.as_slice.ensures.value at c.read_text.ensures.says)
