use Rattle.first_state.proofs.Segments.{holds_segment}
use Rattle.first_state.proofs.laws.a_new_database_holds_the_segments.Goals as goal

pub returns : goal.returns
returns c = λ layout it seg known new. holds_segment layout it seg known new
