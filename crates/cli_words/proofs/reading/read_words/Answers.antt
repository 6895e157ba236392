use Rattle.std.proofs.Common.{ap, ap₂, is_some, sym, false, true≢false, not, ◌&&◌, Bool, List, Result, Some, None, Err, map, string_bytes, ◌≡◌, ◌∙◌, []}
use Rattle.std.proofs.lemmas.Result.{IfOk-weaker}
use Rattle.clap.specs.Words.{App, Text, app_of, fault_of, found_of, is_simple, is_simple_and_free, rows_of, subcommand_of, takes}
use Rattle.std.specs.Option.{option_map_or}
use Rattle.cli_words.specs.Command.{rac_app}
use Rattle.cli_words.specs.Orders.{are_known, misspells, order_from, order_in}
use Rattle.cli_words.specs.declared.order.Order.{Order}
use Rattle.cli_words.specs.declared.error.WordsError.TheVariants as errors
use Rattle.cli_words.proofs.Given.{both_of, by_no}
use Rattle.cli_words.proofs.Taken.{taken}
use Rattle.cli_words.proofs.Whole.{known_is_told, told}
use Rattle.cli_words.proofs.reading.read_words.Goals as goal

-- words that clap took give what their subcommand does
in_order : (c : goal.Joined-matches) → order_in (map string_bytes c.args.words.now) ≡ order_from c.in-Some.name.now (rows_of (found_of c.in-Some.given.now))
in_order c =
    let words : List Text = map string_bytes c.args.words.now in
    let made : app_of c.in_ok-command.command ≡ rac_app = c.in_ok-command.ensures in
    let faultless : fault_of rac_app words ≡ [] =
    ap (λ (a : App). fault_of a words) (sym made) ∙ c.in-Ok.ensures.kinds (ap is_simple_and_free made) in
    let sub : subcommand_of rac_app words ≡ Some (c.in-Some.name.now, rows_of (found_of c.in-Some.given.now)) =
    ap (λ (a : App). subcommand_of a words) (sym made) ∙ sym (c.in-Ok.ensures.matches (ap is_simple made)).1
    ∙ both_of _ _ _ c.in-Some.name.now (rows_of (found_of c.in-Some.given.now)) c.in-Some.ensures.name c.in-Some.ensures.rows in
    ap₂ told (taken words faultless) sub

not_known : (words : List Text) → order_in words ≡ None → are_known words ≡ false
not_known words none = by_no (are_known words) (λ known. true≢false (sym (known_is_told words known) ∙ ap is_some none))

-- words at which clap failed, and not for want of memory, are none that it takes
failed : (c : goal.Joined-error) → ◌≡◌ {A = Result Order errors.the_data} (Err c.error_of.result) (Err errors.Usage)
    → takes rac_app (map string_bytes c.args.words.now) ≡ false
failed c usage =
    let words : List Text = map string_bytes c.args.words.now in
    by_no (takes rac_app words) (λ is_taken.
    let memory : c.error_of.result ≡ errors.NoMemory =
    c.error_of.ensures.1 (c.kind.ensures ∙ c.in-Err.ensures.passes (ap (λ (a : App). takes a words) c.in_ok-command.ensures ∙ is_taken)) in
    cc (memory, usage))

pub returns-in-Some-clause-order : goal.returns-in-Some-clause-order
returns-in-Some-clause-order c = IfOk-weaker c.order_given.result _ _ (λ order is. in_order c ∙ is) c.order_given.ensures.order

pub returns-in-Some-clause-usage : goal.returns-in-Some-clause-usage
returns-in-Some-clause-usage c = λ usage. in_order c ∙ c.order_given.ensures.usage usage

pub returns-in-Some-clause-refused : goal.returns-in-Some-clause-refused
returns-in-Some-clause-refused c = λ usage. not_known (map string_bytes c.args.words.now) (in_order c ∙ c.order_given.ensures.usage usage)

pub returns-clause-usage : goal.returns-clause-usage
returns-clause-usage c = λ usage. ap (λ (b : Bool). told b (subcommand_of rac_app (map string_bytes c.args.words.now))) (failed c usage)

pub returns-clause-refused : goal.returns-clause-refused
returns-clause-refused c = λ usage.
    ap (λ (b : Bool). b && not (option_map_or (λ sub. misspells sub.0 sub.1) (subcommand_of rac_app (map string_bytes c.args.words.now)) false)) (failed c usage)
