-- The order that the words of the command line give.
use Rattle.std.specs.Prelude.{ℕ, ◌-◌, ◌^◌, ◌&&◌, ◌||◌, not, List, Bool, false, Option, Some, None, codes, if◌then◌else◌, is_some}
use Rattle.std.specs.Prelude.{option_and_then, option_map}
use Rattle.std.specs.Option.{option_map_or}
use Rattle.std.specs.Str.{bytes_eq}
use Rattle.clap.specs.Words.{Row, Text, first_of, one_of, subcommand_of, takes}
use Rattle.cli_words.specs.Command.{rac_app}
use Rattle.cli_words.specs.Numbers.{number_up_to}
use Rattle.cli_words.specs.declared.order.Order.{Order}
use Rattle.cli_words.specs.declared.order.RunOptions.{RunOptions}
use Rattle.cli_words.specs.declared.order.Order.TheVariants.{Run, Load, Audit}

-- the flag was used: the text that clap reads of it is `true`
abbrev pub set_in : Text → List Row → Bool
set_in id rows = option_map_or (λ text. bytes_eq text (codes "true")) (one_of id rows) false

-- what a run is to do beside its report: a flag stands for each
abbrev pub options_from : List Row → RunOptions
options_from rows = record {
  journal = set_in (codes "journal") rows;
  steps = set_in (codes "steps") rows;
  check = set_in (codes "check") rows;
}

-- `run`, by the matches of its arguments
abbrev pub run_from : List Row → Order
run_from rows = Run (options_from rows) (first_of (codes "disk") rows)

-- a load's seed, where it is spelled and below 2 ^ 63
abbrev pub seed_in : List Row → Option ℕ
seed_in rows = option_and_then (number_up_to (2 ^ 63 - 1)) (first_of (codes "seed") rows)

-- a load's rounds, where they are spelled and 700 at most
abbrev pub rounds_in : List Row → Option ℕ
rounds_in rows = option_and_then (number_up_to 700) (first_of (codes "rounds") rows)

-- `load`, by the matches of its arguments
abbrev pub load_from : List Row → Option Order
load_from rows =
    option_and_then (λ seed. option_map (λ rounds. Load seed rounds (first_of (codes "disk") rows)) (rounds_in rows))
    (seed_in rows)

-- `audit`, by the matches of its argument
abbrev pub audit_from : List Row → Option Order
audit_from rows = option_map (λ folder. Audit folder) (first_of (codes "disk") rows)

-- the order of a subcommand with the matches of its arguments
abbrev pub order_from : Text → List Row → Option Order
order_from name rows = if bytes_eq name (codes "run") then Some (run_from rows)
    else if bytes_eq name (codes "load") then load_from rows
    else if bytes_eq name (codes "audit") then audit_from rows
    else None

-- Where clap's command takes the words, they give the order of the subcommand that they name; else they give none.
abbrev pub order_in : List Text → Option Order
order_in words =
    if takes rac_app words then option_and_then (λ sub. order_from sub.0 sub.1) (subcommand_of rac_app words)
    else None

-- there is a text, and it isn't the spelling of a number up to this
abbrev pub is_misspelled : ℕ → Option Text → Bool
is_misspelled most text = option_map_or (λ it. not (is_some (number_up_to most it))) text false

-- a subcommand is a load, and one of its numbers is misspelled or too large
abbrev pub misspells : Text → List Row → Bool
misspells name rows =
    bytes_eq name (codes "load")
    && (is_misspelled (2 ^ 63 - 1) (first_of (codes "seed") rows) || is_misspelled 700 (first_of (codes "rounds") rows))

-- Clap's command takes the words, and where they name a load its numbers are spelled and not too large.
abbrev pub are_known : List Text → Bool
are_known words =
    takes rac_app words && not (option_map_or (λ sub. misspells sub.0 sub.1) (subcommand_of rac_app words) false)
