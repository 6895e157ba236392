-- Who holds the row has made a change entry, and each of those was looked at.
use Rattle.std.proofs.Common.{refl}
use Rattle.std.proofs.lemmas.List.{take_all}
use Rattle.journal_check.proofs.HolderLemmas.{holds-deed}
use Rattle.journal_check.proofs.place.is_free.Goals as goal

pub returns : goal.returns
returns c = (
  λ yes y held.
      let looked_at = rw (take_all c.loop-entry.entry-index c.args.past.now c.loop-entry-test.false) at (c.loop-entry.invariant y) in
      looked_at (holds-deed y c.args.row c.args.past.now held) held,
  λ free. refl,
)
