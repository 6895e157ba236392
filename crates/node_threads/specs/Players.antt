-- The seats of all actors, as their threads have them.
use Rattle.std.specs.Prelude.{◌≡◌, ℕ, Option}
use Rattle.atomic_table.specs.Seated.{TableId}
use Rattle.atomic_table.specs.declared.shared.Seat.{Seat}
use Rattle.step_book.specs.Actors.{Rules, MayWork}
use Rattle.step_book.specs.Seats.{IsOf, Comes}
use Rattle.step_book.specs.declared.board.Board.{Board}
use Rattle.step_book.specs.declared.board.Start.{Start}
use Rattle.step_book.specs.declared.board.Known.{Known}

-- the seat was never split or joined
abbrev pub IsAlone : {P H S : Type 0} → Known P H S → Type 0
IsAlone v = (v.joined ≡ 1) × (v.made ≡ 0)

module _ {P H S : Type 0} (m : Rules P H S) (table : TableId) (start : Start P H) where
  -- the seat is of this actor, and may go on with this part
  pub record Plays (actor : ℕ) (seat : Seat (Option (Board P H S)) (Known P H S)) (part : P) : Type 0 where
    pub seat_is : IsOf table start seat
    pub actor_is : seat.me.0.number ≡ actor
    pub comes : Comes m seat.me.0.own actor part
    pub works : MayWork m actor part

  -- all seats that were made are joined into this one
  abbrev pub IsWhole : Seat (Option (Board P H S)) (Known P H S) → Type 0
  IsWhole seat = IsOf table start seat × (seat.me.0.joined ≡ seat.me.0.made)
