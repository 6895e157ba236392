use Rattle.std.proofs.Common.{arith}
use Rattle.recovery.proofs.Changes.{bit_fits, flag_fits, value_fits}
use Rattle.recovery.proofs.parts.is_undo_record.Goals as goal

pub returns-then-has_ranges-clause-sound : goal.returns-then-has_ranges-clause-sound
returns-then-has_ranges-clause-sound c = λ is.
    let undo = c.args.undo.now in
    let numbers = c.numbers_fit.ensures in
    let ranges = c.has_ranges.ensures.sound c.if-has_ranges.true in
    let itl = c.is_itl.ensures.sound is in
    let fits = itl.fits in
    let slot = ranges.slot in
    let number = ranges.itl in
    let row = ranges.row in
    record {
      fits = (
        omega (arith, numbers.seq),
        (
          omega arith,
          (
            omega arith,
            (
              omega arith,
              (
                bit_fits undo.mine,
                (
                  omega (arith, numbers.wrap),
                  (
                    omega (arith, numbers.block),
                    (
                      tt,
                      (
                        omega (arith, numbers.version),
                        (
                          omega (arith, numbers.prev),
                          (fits.0, (fits.1.0, (fits.1.1.0, (fits.1.1.1.0, (fits.1.1.1.1.0, (flag_fits undo.old, (tt, (value_fits undo.old c.always_is_value.ensures, (tt, tt))))))))),
                        ),
                      ),
                    ),
                  ),
                ),
              ),
            ),
          ),
        ),
      );
      ranges = ranges;
      old_itl = itl;
      old = c.always_is_value.ensures;
    }
