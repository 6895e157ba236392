use Rattle.std.proofs.Common.{◌≡◌}
use Rattle.step_book.specs.Seats.{IsSameSeat}
use Rattle.step_book.proofs.seat.wait_turn.Given as goal

abbrev pub invariant-loop : goal.invariant-loop
invariant-loop g l = IsSameSeat l.initial.place l.place × (l.place.me ≡ l.initial.place.me)
