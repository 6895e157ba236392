use Rattle.std.proofs.Common.{◌∙◌}
use Rattle.clap.specs.Words.{found_of}
use Rattle.clap.proofs.WalkLemmas.{one_text-rows}
use Rattle.cli_words.proofs.Given.{flag_read}
use Rattle.cli_words.proofs.reading.is_set.Goals as goal

pub returns : goal.returns
returns c =
    let same = one_text-rows (found_of c.args.given.now) c.args.flag.now in
    flag_read _ _ c.get_one.result c.unwrap_or.result (λ none. c.get_one.ensures.none (same ∙ none)) (λ u is. c.get_one.ensures.value u (same ∙ is)) c.unwrap_or.ensures
