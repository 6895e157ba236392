use Rattle.std.proofs.Common.{◌≡◌, suc}
use Rattle.undo_segment.specs.Segment.{fetch, look}
use Rattle.cr_copy.specs.Copy.{round, rounds, work_of}
use Rattle.cr_copy.specs.Named.{AreNamed}
use Rattle.cr_copy.proofs.CopyLemmas.{Goes}
use Rattle.cr_copy.proofs.copy.undone.Given as goal

abbrev pub invariant-loop-pick : goal.invariant-loop-pick
invariant-loop-pick l = Goes (round l.snapshot l.me (look l.segment l.handed) (fetch l.segment l.handed) l.number) l.image.front.version (work_of l.image) l.last l.work

abbrev pub decreases-loop-pick : goal.decreases-loop-pick
decreases-loop-pick l = l.last
