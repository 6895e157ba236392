-- A numeral is read as its number.
use Rattle.std.proofs.Common.{sym}
use Rattle.cli_words.proofs.Numerals.{parse-numeral}
use Rattle.cli_words.proofs.numbers.number_up_to.Goals as goal

pub returns-in_default-2-clause-number : goal.returns-in_default-2-clause-number
returns-in_default-2-clause-number c =
    let read = parse-numeral c.args.text.now _ c.parse.ensures.value.0 (rw c.as_bytes.ensures.value at (sym c.if-not-is_numeral.ensures)) in
    absurd (cc (read, c.in_default.is))
