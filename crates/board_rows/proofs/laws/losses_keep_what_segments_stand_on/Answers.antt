-- What is older in the same thread is kept, and what other threads have is durable.
use Rattle.board_rows.proofs.SegmentSteps.{keeps-segments}
use Rattle.board_rows.proofs.laws.losses_keep_what_segments_stand_on.Goals as goal

pub returns : goal.returns
returns c asked insts board inst kept sound may = keeps-segments inst kept board.durable may.durable board.records sound.clocks.rising sound.segments.under
