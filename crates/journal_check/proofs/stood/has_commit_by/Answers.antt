use Rattle.std.proofs.Common.{◌∙◌, sym, rules, tests}
use Rattle.std.proofs.lemmas.Iterator.{YieldsList-from_slice}
use Rattle.std.proofs.lemmas.Iterator.Search.{any_from_yields_List}
use Rattle.journal.specs.Stood.{is_commit_by}
use Rattle.journal_check.proofs.PastLemmas.{stood_reverse}
use Rattle.journal_check.proofs.stood.has_commit_by.Goals as goal

pub returns : goal.returns
returns c =
    any_from_yields_List (is_commit_by c.args.commit_scn c.args.inst) _ _ c.any.result c.any.ensures.ran (YieldsList-from_slice c.args.past.now cc) (λ x b q k. search (rules, tests))
    ∙ sym (stood_reverse (is_commit_by c.args.commit_scn c.args.inst) c.args.past.now)
