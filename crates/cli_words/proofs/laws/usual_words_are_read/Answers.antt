use Rattle.std.proofs.Common.{refl}
use Rattle.clap.proofs.OnLiterals.{clap_on_literals}
use Rattle.clap.specs.Words.{Text}
use Rattle.cli_words.specs.Examples.{GiveNone, GiveOrders, NameTheFolder}
use Rattle.cli_words.proofs.laws.usual_words_are_read.Goals as goal

orders : GiveOrders
unfolding clap_on_literals
orders = (refl, refl, refl, refl, refl, refl, refl, refl, refl, refl, refl, refl)

none : GiveNone
unfolding clap_on_literals
none = (refl, refl, refl, refl, refl, refl, refl, refl, refl, refl, refl, refl, refl, refl, refl, refl, refl, refl, refl, refl)

folders : (name : Text) → NameTheFolder name
unfolding clap_on_literals
folders name = (refl, refl, refl, refl)

pub returns : goal.returns
returns c = record { orders = orders; none = none; folder = folders c.args.folder.now }
