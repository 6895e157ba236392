-- The rule of the table that the seats share, and what each step on it tells.
-- Word 0 counts the tickets drawn, word 1 those served. The slot has the board, except while the seat whose ticket is served holds it.
use Rattle.std.specs.Prelude.{◌≡◌, ◌≢◌, ℕ, ◌+◌, ◌%◌, ◌^◌, ◌<◌, ◌≤◌, ◌||◌, List, [], ◌∷◌, ◌++◌, length, slice_get, All, Bool, true, false, cond, leb, Option, Some, None}
use mathlib.Core.Option.{some}
use mathlib.Core.Option as maybe
use lib.ListN.{get_elem?}
use Rattle.atomic_table.specs.Table.{State, Me, Step}
use Rattle.step_book.specs.Actors.{Rules, Waits, Ready, MayWork, Turns, Runs, Reaches, IsBare, OfOthers, StartsWith}
use Rattle.step_book.specs.declared.answer.Turn.{Turn}
use Rattle.step_book.specs.declared.answer.Turn.TheVariants.{NoMemory, Finished}
use Rattle.step_book.specs.declared.board.Board.{Board}
use Rattle.step_book.specs.declared.board.Start.{Start}
use Rattle.step_book.specs.declared.board.Own.{Own}
use Rattle.step_book.specs.declared.board.Known.{Known}
use Rattle.step_book.specs.declared.board.Stage.{Stage}
use Rattle.step_book.specs.declared.board.Stage.TheVariants.{Idle, Waiting, Holding}

-- f of each element, added up
abbrev pub total : {A : Type 0} → (A → ℕ) → List A → ℕ
total f [] = 0
total f (x ∷ xs) = f x + total f xs

-- a seat at the table, and what it holds
abbrev pub Seats : Type 0 → Type 0 → Type 0 → Type 0
Seats P H S = Me (Option (Board P H S)) (Known P H S)

abbrev pub own_of : {P H : Type 0} → Option P → Start P H → Option (Own P H)
own_of (Some p) start = Some (record { part = p; start = start })
own_of None start = None

-- the longer of two lists, and the other one
abbrev pub longer : {S : Type 0} → List S → List S → List S
longer xs ys = cond (leb (length ys) (length xs)) xs ys

abbrev pub shorter : {S : Type 0} → List S → List S → List S
shorter xs ys = cond (leb (length ys) (length xs)) ys xs

-- at most as many as there are parts
abbrev pub IsWithinParts : {P H : Type 0} → Option (Own P H) → ℕ → Type 0
IsWithinParts (Some own) n = n ≤ length own.start.parts.value.items
IsWithinParts None n = n ≡ 0

module _ {P H S : Type 0} where
  -- 1 where a seat has a ticket that isn't served yet, or being served
  abbrev pub tickets_in : Stage P H S → ℕ
  tickets_in Idle = 0
  tickets_in (Waiting t) = 1
  tickets_in (Holding t b) = 1

  abbrev pub tickets_of : Known P H S → ℕ
  tickets_of v = tickets_in v.stage

  abbrev pub joined_of : Known P H S → ℕ
  joined_of v = v.joined

  abbrev pub made_of : Known P H S → ℕ
  made_of v = v.made

  -- a seat that was joined into another
  abbrev pub spent : Known P H S
  spent = record { number = 0; made = 0; joined = 0; seen = []; met = []; ended = false; spoilt = false; stage = Idle; own = None }

  -- the seat of an actor before its first turn, with the book that was seen
  abbrev pub seat_of : ℕ → List S → Bool → Bool → Start P H → Known P H S
  seat_of number seen ended spoilt start = record { number = number; made = 0; joined = 1; seen = seen; met = []; ended = ended; spoilt = spoilt; stage = Idle; own = own_of (slice_get start.parts.value.items number) start }

  abbrev pub first_known : Start P H → Known P H S
  first_known start = record (seat_of 0 [] false false start) { made = 1 }

  abbrev pub left_of_split : Known P H S → Known P H S
  left_of_split v = record v { made = v.made + 1 }

  abbrev pub right_by : Known P H S → Option (Own P H) → Known P H S
  right_by v (Some own) = seat_of v.made v.seen v.ended v.spoilt own.start
  right_by v None = spent

  abbrev pub right_of_split : Known P H S → Known P H S
  right_of_split v = right_by v v.own

  abbrev pub both_of_join : Known P H S → Known P H S → Known P H S
  both_of_join v w = record v { made = v.made + w.made; joined = v.joined + w.joined; seen = longer v.seen w.seen; met = shorter v.seen w.seen; ended = v.ended || w.ended; spoilt = v.spoilt || w.spoilt }

  -- what a seat's ticket says. Each ticket has a seat of its own, by `line`
  abbrev pub Stands : ℕ → ℕ → Bool → Board P H S → List S → (ℕ → ℕ) → ℕ → Known P H S → Stage P H S → Type 0
  Stands drawn served taken board book line seat v Idle = Unit {0}
  Stands drawn served taken board book line seat v (Waiting t) = (line t ≡ seat) × (served ≤ t) × (t < drawn) × (t ≡ served → taken ≡ false)
  Stands drawn served taken board book line seat v (Holding t b) = (line t ≡ seat) × (t ≡ served) × (served < drawn) × (taken ≡ true) × (b ≡ board) × (v.seen ≡ book)

  -- the slot, which is at home unless it is taken
  abbrev pub homes_of : Bool → Board P H S → List (maybe.Option (Option (Board P H S)))
  homes_of taken board = cond taken maybe.none (some (Some board)) ∷ []

  -- the view after its turn, with the board that the seat puts back
  abbrev pub after_turn : Known P H S → Option (Own P H) → Board P H S → Known P H S
  after_turn v (Some own) b = record v { seen = cond b.spoilt v.seen b.steps; ended = v.ended || b.finished; spoilt = b.spoilt; stage = Idle; own = Some (record own { part = b.left.value }) }
  after_turn v None b = v

  abbrev pub drew : Step (Option (Board P H S)) → Seats P H S → ℕ → Seats P H S → Type 0
  drew st me n me' = (t : ℕ) × (n ≡ t % 2 ^ 64) × (me' ≡ (record me.0 { stage = Waiting t }, me.1))

  abbrev pub compared : Step (Option (Board P H S)) → Seats P H S → ℕ → Seats P H S → Type 0
  compared st me n me' = (me' ≡ me) × IsWithinParts me.0.own me.0.made × (length me.0.met ≤ length me.0.seen → StartsWith me.0.seen me.0.met)

  module _ (m : Rules P H S) where
    -- what a seat knows that wasn't joined into another
    pub record Sits (start : Start P H) (seats : ℕ) (book : List S) (seat : ℕ) (v : Known P H S) (own : Own P H) : Type 0 where
      pub number : v.number ≡ seat
      pub start_is : own.start ≡ start
      pub joined : 0 < v.joined
      pub made : 0 < v.made → v.made ≡ seats
      pub makes : seat ≡ 0 → 0 < v.made
      pub seen : (rest : List S) × (book ≡ v.seen ++ rest) × OfOthers m seat rest
      pub met : StartsWith book v.met

    abbrev pub SitsIf : Start P H → ℕ → List S → ℕ → Known P H S → Option (Own P H) → Type 0
    SitsIf start seats book seat v (Some own) = Sits start seats book seat v own
    SitsIf start seats book seat v None = v ≡ spent

    -- what holds while the board isn't spoilt
    pub record Sure (start : Start P H) (board : Board P H S) (book : List S) (views : List (Known P H S)) : Type 0 where
      pub steps : board.steps ≡ book
      pub parts : List P
      pub runs : Runs m start.parts.value.items start.shared.value book parts board.shared
      pub sound : m.sound parts board.shared
      pub waits : (seat : ℕ) (v : Known P H S) (own : Own P H) → get_elem? views seat ≡ some v → v.own ≡ Some own → (origin : P) × (slice_get parts seat ≡ Some origin) × Waits m seat origin own.part
      pub unmade : (number : ℕ) → length views ≤ number → slice_get parts number ≡ slice_get start.parts.value.items number
      pub ends : (seat : ℕ) (v : Known P H S) → get_elem? views seat ≡ some v → v.ended ≡ true → m.over board.shared

    pub record InTurn (start : Start P H) (s : State (Option (Board P H S)) (Known P H S)) : Type 0 where
      pub drawn : ℕ
      pub served : ℕ
      pub taken : Bool
      pub board : Board P H S
      pub book : List S
      pub line : ℕ → ℕ
      pub words : s.words ≡ drawn % 2 ^ 64 ∷ served % 2 ^ 64 ∷ []
      pub slot : s.homes ≡ homes_of taken board
      pub tickets : drawn ≡ served + total tickets_of s.views
      pub held : taken ≡ true → served < drawn
      pub seats : (total joined_of s.views ≡ length s.views) × (total made_of s.views ≡ length s.views)
      pub few : (length s.views ≤ length start.parts.value.items) × (length start.parts.value.items < 2 ^ 32)
      pub bare : (number : ℕ) (p : P) → slice_get start.parts.value.items number ≡ Some p → IsBare m p
      pub actors : All (λ x. m.actor x < length s.views) book
      pub stands : (seat : ℕ) (v : Known P H S) → get_elem? s.views seat ≡ some v → Stands drawn served taken board book line seat v v.stage
      pub sits : (seat : ℕ) (v : Known P H S) → get_elem? s.views seat ≡ some v → SitsIf start (length s.views) book seat v v.own
      pub told : (seat : ℕ) (v : Known P H S) → get_elem? s.views seat ≡ some v → v.spoilt ≡ true → board.spoilt ≡ true
      pub teller : board.spoilt ≡ true → (seat : ℕ) × (v : Known P H S) × (get_elem? s.views seat ≡ some v) × (v.spoilt ≡ true)
      pub sure : board.spoilt ≡ false → Sure start board book s.views

    -- the book leads from the seat's start to this shared value
    abbrev pub LeftBy : Option (Own P H) → List S → H → Type 0
    LeftBy (Some own) book h = Reaches m own.start.parts.value.items own.start.shared.value book h
    LeftBy None book h = ⊥

    -- the actor's part, as it was left, is ready with this shared value
    abbrev pub ReadyIf : Option (Own P H) → ℕ → H → Type 0
    ReadyIf (Some own) number h = Ready m number own.part h
    ReadyIf None number h = ⊥

    -- the seat with the ticket t found its turn: it holds the slot with the board b, and has seen the whole book
    pub record Found (t : ℕ) (me me' : Seats P H S) : Type 0 where
      pub board : Board P H S
      pub between : List S
      pub held : me' ≡ (record me.0 { stage = Holding t board; seen = me.0.seen ++ between }, (0, Some board) ∷ [])
      pub others : OfOthers m me.0.number between
      pub told : me.0.spoilt ≡ true → board.spoilt ≡ true
      pub steps : board.spoilt ≡ false → board.steps ≡ me.0.seen ++ between
      pub left : board.spoilt ≡ false → LeftBy me.0.own board.steps board.shared
      pub ready : board.spoilt ≡ false → ReadyIf me.0.own me.0.number board.shared

    abbrev pub looked : Step (Option (Board P H S)) → Seats P H S → ℕ → Seats P H S → Type 0
    looked st me n me' = (t : ℕ) → me.0.stage ≡ Waiting t → (n ≡ t % 2 ^ 64 → Found t me me') × (n ≢ t % 2 ^ 64 → me' ≡ me)

    -- the board c after a turn of the actor from its part in the view v and from the board b
    pub record MadeTurn (v : Known P H S) (own : Own P H) (b c : Board P H S) : Type 0 where
      pub answer : Turn
      pub steps : List S
      pub fresh : b.spoilt ≡ false
      pub memory : answer ≢ NoMemory
      pub ends : c.finished ≡ true → answer ≡ Finished
      pub added : c.steps ≡ b.steps ++ steps
      pub turns : Turns m answer v.number own.part b.shared steps c.left.value c.shared

    -- what the board that a seat puts back has to be
    abbrev pub Gives : Known P H S → Option (Own P H) → Board P H S → Board P H S → Type 0
    Gives v (Some own) b c = (c.spoilt ≡ false → MadeTurn v own b c)
    Gives v None b c = ⊥

    abbrev pub served : Step (Option (Board P H S)) → Seats P H S → ℕ → Seats P H S → Type 0
    served st me n me' = (t : ℕ) (b c : Board P H S) → me.0.stage ≡ Holding t b → me.1 ≡ (0, Some c) ∷ [] →
        (me' ≡ (after_turn me.0 me.0.own c, [])) × (c.spoilt ≡ false → MayWork m me.0.number c.left.value × LeftBy me.0.own c.steps c.shared)
