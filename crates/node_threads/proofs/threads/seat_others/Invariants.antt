use Rattle.std.proofs.Common.{◌≡◌, ◌+◌, ◌≤◌, ℕ, All, Some, vec_len, vec_capacity, reverse, slice_get}
use Rattle.node_threads.specs.Players.{IsAlone, Plays}
use Rattle.step_book.specs.Actors.{MayWork}
use Rattle.step_book.specs.Seats.{IsOf}
use Rattle.node_threads.proofs.threads.seat_others.Given as goal

abbrev pub invariant-loop-part : goal.invariant-loop-part
invariant-loop-part g l = record {
  whole : IsOf l.book.table.shared.table_id l.book.table.shared.key l.whole.place;
  number : l.whole.place.me.0.number ≡ 0;
  same : (l.whole.place.me.0.own ≡ l.initial.whole.place.me.0.own) × (l.whole.place.me.0.joined ≡ l.initial.whole.place.me.0.joined);
  made : l.whole.place.me.0.made ≡ l.initial.whole.place.me.0.made + vec_len l.players;
  room : vec_len l.players + vec_len l.parts ≤ vec_capacity l.players;
  parts : (i : ℕ) (part : g.row.M-Part.Denot) → slice_get (reverse l.parts.items) i ≡ Some part → (slice_get l.book.table.shared.key.parts.value.items (l.whole.place.me.0.made + i) ≡ Some part) × MayWork g.M.Machine.rules (l.whole.place.me.0.made + i) part;
  plays : All (λ x. Plays g.M.Machine.rules l.book.table.shared.table_id l.book.table.shared.key x.seat.place.me.0.number x.seat.place x.part) l.players.items;
  alone : All (λ x. IsAlone x.seat.place.me.0) l.players.items;
}

abbrev pub decreases-loop-part : goal.decreases-loop-part
decreases-loop-part g l = vec_len l.parts
