-- What the calls of a book and of its seats promise.
use Rattle.std.specs.Prelude.{◌≡◌, ◌≢◌, ℕ, ◌<◌, ◌^◌, ◌||◌, List, [], ◌++◌, length, Bool, true, false, Option, Some, None}
use Rattle.atomic_table.specs.Seated.{TableId}
use Rattle.atomic_table.specs.declared.shared.Seat.{Seat}
use Rattle.step_book.specs.Actors.{Rules, Follows, MayWork, Turns, Reaches, OfOthers, StartsWith}
use Rattle.step_book.specs.Turns.{LeftBy}
use Rattle.step_book.specs.declared.answer.Turn.{Turn}
use Rattle.step_book.specs.declared.answer.Turn.TheVariants.{Finished, NoMemory}
use Rattle.step_book.specs.declared.board.Board.{Board}
use Rattle.step_book.specs.declared.board.Start.{Start}
use Rattle.step_book.specs.declared.board.Own.{Own}
use Rattle.step_book.specs.declared.board.Known.{Known}
use Rattle.step_book.specs.declared.board.Stage.TheVariants.{Idle}

-- two words and a slot, and fewer than 2 ^ 32 parts
abbrev pub IsSized : {P H : Type 0} → TableId → Start P H → Type 0
IsSized table start = (table.words ≡ 2) × (table.slots ≡ 1) × (length start.parts.value.items < 2 ^ 32)

abbrev pub is_finished : Turn → Bool
is_finished Finished = true
is_finished _ = false

abbrev pub is_exhausted : Turn → Bool
is_exhausted NoMemory = true
is_exhausted _ = false

abbrev pub BeganAt : {P H : Type 0} → Option (Own P H) → Start P H → Type 0
BeganAt (Some own) start = own.start ≡ start
BeganAt None start = ⊥

-- the part of the seat's actor is this one
abbrev pub HasPart : {P H : Type 0} → Option (Own P H) → P → Type 0
HasPart (Some own) p = own.part ≡ p
HasPart None p = ⊥

module _ {P H S : Type 0} where
  -- the seat is of the table, and was opened with it
  abbrev pub IsOf : TableId → Start P H → Seat (Option (Board P H S)) (Known P H S) → Type 0
  IsOf table start seat = (seat.table_id ≡ table) × BeganAt seat.me.0.own start

  abbrev pub IsSameSeat : Seat (Option (Board P H S)) (Known P H S) → Seat (Option (Board P H S)) (Known P H S) → Type 0
  IsSameSeat old new = (new.table_id ≡ old.table_id) × (new.id ≡ old.id)

  -- it has no ticket, and not the slot
  abbrev pub IsIdle : Seat (Option (Board P H S)) (Known P H S) → Type 0
  IsIdle seat = (seat.me.1 ≡ []) × (seat.me.0.stage ≡ Idle)

  -- the seat is the same actor's, and no seat was made or joined
  abbrev pub IsSameActor : Known P H S → Known P H S → Type 0
  IsSameActor v w = (w.number ≡ v.number) × (w.made ≡ v.made) × (w.joined ≡ v.joined)

  module _ (m : Rules P H S) where
    -- the part is what the seat's last turn left, or its actor's first part, changed since by local steps alone
    abbrev pub Comes : Option (Own P H) → ℕ → P → Type 0
    Comes (Some own) me p = Follows m me own.part p
    Comes None me p = ⊥

    -- a turn from the part p to q: what the seat knew before and knows afterwards
    pub record Turned (answer : Turn) (v w : Known P H S) (p q : P) : Type 0 where
      pub between : List S
      pub steps : List S
      pub found : H
      pub left : H
      -- the steps since the seat's last turn are of others; then come those of this turn
      pub others : OfOthers m v.number between
      pub seen : w.seen ≡ (v.seen ++ between) ++ steps
      -- the turn is made from the shared value that the book so far has left
      pub before : LeftBy m v.own (v.seen ++ between) found
      pub turns : Turns m answer v.number p found steps q left
      pub after : LeftBy m w.own w.seen left
      pub ready : MayWork m v.number q

    -- a turn on a board, from b to c
    pub record Advanced (me : ℕ) (p q : P) (b c : Board P H S) (answer : Turn) : Type 0 where
      pub spoilt : c.spoilt ≡ is_exhausted answer
      pub still : b.spoilt ≡ true → c.spoilt ≡ true
      pub finished : c.finished ≡ is_finished answer
      pub left : c.left.value ≡ q
      pub turned : answer ≢ NoMemory → (steps : List S) × (c.steps ≡ b.steps ++ steps) × Turns m answer me p b.shared steps q c.shared

    -- what a turn does to a seat that knew v, with the part p
    pub record Took (v w : Known P H S) (p q : P) (answer : Turn) : Type 0 where
      pub same : IsSameActor v w
      pub idle : w.stage ≡ Idle
      pub part : HasPart w.own q
      pub turned : answer ≢ NoMemory → Turned answer v w p q
      pub ended : w.ended ≡ v.ended || is_finished answer
      pub spoilt : w.spoilt ≡ is_exhausted answer
      pub stays_spoilt : v.spoilt ≡ true → answer ≡ NoMemory
      pub later : StartsWith w.seen v.seen
      pub began : (start : Start P H) → BeganAt v.own start → BeganAt w.own start

    -- what a book leaves to the last seat, which knew v
    pub record Closing (start : Start P H) (v : Known P H S) (b : Board P H S) : Type 0 where
      pub spoilt : b.spoilt ≡ v.spoilt
      pub begins : b.spoilt ≡ false → StartsWith b.steps v.seen
      pub reaches : b.spoilt ≡ false → Reaches m start.parts.value.items start.shared.value b.steps b.shared
      pub over : b.spoilt ≡ false → v.ended ≡ true → m.over b.shared
