use Rattle.std.proofs.Common.{◌==◌, rules, tests}
use Rattle.std.proofs.lemmas.Iterator.{YieldsList-from_slice}
use Rattle.std.proofs.lemmas.Iterator.Search.{any_from_yields_List}
use Rattle.journal.specs.declared.deeds.Deed.{Deed}
use Rattle.journal.specs.Standing.{row_of}
use Rattle.journal_check.proofs.deeds.touches.Goals as goal

pub returns : goal.returns
returns c =
    any_from_yields_List (λ (deed : Deed). row_of deed == c.args.row) _ _ c.any.result c.any.ensures.ran (YieldsList-from_slice c.args.deeds.now cc) (λ x b q k. search (rules, tests))
