use Rattle.undo_segment.proofs.RingLemmas.{new_is}
use Rattle.undo_segment.proofs.segment.Segment.new.Goals as goal

pub clean-requires : goal.clean-requires
clean-requires c = rw (c.empty.ensures, c.in_ok-blocks.ensures, c.head_number-number.ensures.number) (new_is c.args.layout.now c.args.seg c.requires.layout c.requires.in_range)
