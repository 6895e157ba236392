use Rattle.std.proofs.Common.{◌≡◌, ◌+◌, All, vec_len}
use Rattle.node_threads.specs.Ends.{Tells}
use Rattle.node_threads.specs.Players.{IsAlone}
use Rattle.step_book.specs.Seats.{IsOf}
use Rattle.node_threads.proofs.threads.gather.Given as goal

abbrev pub invariant-loop-player : goal.invariant-loop-player
invariant-loop-player g l = record {
  whole : IsOf l.book.table.shared.table_id l.book.table.shared.key l.whole.place;
  made : l.whole.place.me.0.made ≡ l.initial.whole.place.me.0.made;
  joined : l.whole.place.me.0.joined + vec_len l.others ≡ l.initial.whole.place.me.0.joined + vec_len l.initial.others;
  seats : All (λ x. IsOf l.book.table.shared.table_id l.book.table.shared.key x.seat.place) l.others.items;
  alone : All (λ x. IsAlone x.seat.place.me.0) l.others.items;
  ends : All (λ x. Tells (λ actor refusal. g.G.Gate.gave l.gate actor refusal) x.seat.place.me.0.ended x.end) l.others.items;
  first : Tells (λ actor refusal. g.G.Gate.gave l.gate actor refusal) l.whole.place.me.0.ended l.first_end;
  end : Tells (λ actor refusal. g.G.Gate.gave l.gate actor refusal) l.whole.place.me.0.ended l.end;
}

abbrev pub decreases-loop-player : goal.decreases-loop-player
decreases-loop-player g l = vec_len l.others
