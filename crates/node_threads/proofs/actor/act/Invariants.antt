use Rattle.node_threads.specs.Players.{Plays}
use Rattle.step_book.specs.Seats.{IsSameActor}
use Rattle.node_threads.proofs.actor.act.Given as goal

abbrev pub invariant-loop : goal.invariant-loop
invariant-loop g l = record {
  same : IsSameActor l.initial.seat.place.me.0 l.seat.place.me.0;
  plays : Plays g.M.Machine.rules l.book.table.shared.table_id l.book.table.shared.key l.initial.seat.place.me.0.number l.seat.place l.part;
}
