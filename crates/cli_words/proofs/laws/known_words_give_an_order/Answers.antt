use Rattle.std.proofs.Common.{map, string_bytes}
use Rattle.cli_words.proofs.Whole.{known_is_told}
use Rattle.cli_words.proofs.laws.known_words_give_an_order.Goals as goal

pub returns : goal.returns
returns c = known_is_told (map string_bytes c.args.words.now) c.requires
