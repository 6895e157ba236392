use Rattle.std.proofs.Common.{◌∙◌, sym, rules, tests}
use Rattle.std.proofs.lemmas.Iterator.{YieldsList-from_slice}
use Rattle.std.proofs.lemmas.Iterator.Search.{any_from_yields_List}
use Rattle.journal.specs.Stood.{is_mark}
use Rattle.journal_check.proofs.PastLemmas.{stood_reverse}
use Rattle.journal_check.proofs.stood.has_mark.Goals as goal

pub returns : goal.returns
returns c =
    any_from_yields_List (is_mark c.args.xid.now c.args.commit_scn) _ _ c.any.result c.any.ensures.ran (YieldsList-from_slice c.args.past.now cc) (λ x b q k. search (rules, tests))
    ∙ sym (stood_reverse (is_mark c.args.xid.now c.args.commit_scn) c.args.past.now)
