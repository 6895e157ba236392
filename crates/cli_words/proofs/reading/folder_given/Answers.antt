use Rattle.std.proofs.Common.{ap, Some, codes, ◌∙◌}
use Rattle.clap.specs.Words.{found_of}
use Rattle.clap.proofs.WalkLemmas.{first_value-rows}
use Rattle.cli_words.proofs.reading.folder_given.Goals as goal

pub returns-in_ok-new-in-Some-clause-folder : goal.returns-in_ok-new-in-Some-clause-folder
returns-in_ok-new-in-Some-clause-folder c =
    ap Some c.in_ok-new-in-Some.ensures.folder ∙ c.in-Some.ensures ∙ first_value-rows (found_of c.args.given.now) (codes "disk")

pub returns-in-None-clause-folder : goal.returns-in-None-clause-folder
returns-in-None-clause-folder c = c.in-None.ensures ∙ first_value-rows (found_of c.args.given.now) (codes "disk")
