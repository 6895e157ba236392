-- How the consistent copy of a block is made.
use Rattle.std.specs.Prelude.{◌≡◌, ℕ, zero, suc, ◌+◌, ◌-◌, ◌==◌, ◌&&◌, ◌||◌, nat_le, nat_lt, Bool, true, false, if◌then◌else◌, List, [], ◌∷◌, Option, None, Some, Result, Ok, Err, map, slice_set}
use Rattle.base_types.specs.declared.names.Xid.{Xid}
use Rattle.base_types.specs.declared.value.Value.{Value}
use Rattle.redo_types.specs.declared.blocks.ItlSlot.{ItlSlot}
use Rattle.redo_types.specs.declared.undo.UndoRecord.{UndoRecord}
use Rattle.block_image.specs.Block.{BlockContent, row_at}
use Rattle.block_image.specs.Changes.{values_of}
use Rattle.journal.specs.declared.cause.Cause.TheVariants.{OldSlot, OldUndo}
use Rattle.undo_segment.specs.declared.fetch.Fetch.{Fetch}
use Rattle.undo_segment.specs.declared.fetch.Fetch.TheVariants.{Has, Never, Reused, Unfetched}
use Rattle.undo_segment.specs.declared.look.Look.{Look}
use Rattle.undo_segment.specs.declared.look.Look.TheVariants.{Active, Ended, ReusedBelow, Unlooked}
use Rattle.txn_slots.specs.declared.wanted.Wanted.TheVariants.{Head, Undo}
use Rattle.txn_slots.specs.Lock.{locker}
use Rattle.txn_slots.specs.Own.{is_own}
use Rattle.cr_copy.specs.declared.copy.Work.{Work}
use Rattle.cr_copy.specs.declared.made.Halt.{Halt}
use Rattle.cr_copy.specs.declared.made.Halt.TheVariants.{Bad, Need, TooOld}
use Rattle.cr_copy.specs.declared.made.Made.{Made}
use Rattle.cr_copy.specs.declared.made.Made.TheVariants as made
use Rattle.cr_copy.specs.declared.copy.Pick.{Pick}

-- Whether another's change is taken back, by what its header tells: it isn't visible at the reader's SCN.
abbrev pub back_by : ℕ → Xid → Look → Result Bool Halt
back_by snapshot x Unlooked = Err (Need (Head x.seg))
back_by snapshot x Active = Ok true
back_by snapshot x (Ended e) = Ok (nat_lt snapshot e)
back_by snapshot x (ReusedBelow e found) = if nat_lt snapshot e then Err (TooOld (OldSlot x found)) else Ok false

-- Whether the newest change of an ITL slot is taken back: the reader's own always is, whatever its header tells.
abbrev pub goes_back : ℕ → Option Xid → (Xid → Look) → ItlSlot → Result Bool Halt
goes_back snapshot me look slot =
    if slot.xid.wrap == 0 then Ok false
    else if is_own me slot.xid then Ok true
    else back_by snapshot slot.xid (look slot.xid)

-- the first halt of those where it can't be told
abbrev pub halt_or : Result Bool Halt → Option Halt → Option Halt
halt_or (Err halt) later = Some halt
halt_or (Ok back) later = later

abbrev pub first_halt : List (Result Bool Halt) → Option Halt
first_halt [] = None
first_halt (back ∷ more) = halt_or back (first_halt more)

-- A slot can be looked up: its segment and its place in a transaction table are among the eight, and a used one has a
-- sequence number.
abbrev pub is_named : ItlSlot → Bool
is_named slot = nat_lt slot.xid.seg 8 && nat_lt slot.xid.slot 8 && (slot.xid.wrap == 0 || nat_le 1 slot.seq)

-- An undo record is of this block, of the ITL slot with number k and of its transaction, and gives a row and a slot back.
abbrev pub fits : ℕ → ℕ → ItlSlot → UndoRecord → Bool
fits number k slot u =
    u.block == number && u.itl == k && u.slot == slot.xid.slot && u.wrap == slot.xid.wrap && nat_lt u.row 8
    && is_named u.old_itl

-- the newest undo record of the ITL slot with number k, by what stands in its place
abbrev pub fetched : ℕ → ℕ → ItlSlot → Fetch → Result Pick Halt
fetched number k slot Unfetched = Err (Need (Undo (record { seg = slot.xid.seg; seq = slot.seq })))
fetched number k slot Never = Err Bad
fetched number k slot (Reused found) = Err (TooOld (OldUndo slot.xid slot.seq found))
fetched number k slot (Has u) = if fits number k slot u then Ok (record { itl = k; undo = u }) else Err Bad

-- the undo record of a slot that goes back
abbrev pub picked : Result Bool Halt → Result Pick Halt → Result (Option Pick) Halt
picked (Ok true) (Ok p) = Ok (Some p)
picked (Ok true) (Err halt) = Err halt
picked (Ok false) found = Ok None
picked (Err halt) found = Ok None

-- the one with the higher block version, of two with one the former
abbrev pub higher : Option Pick → Option Pick → Option Pick
higher None b = b
higher (Some a) None = Some a
higher (Some a) (Some b) = if nat_lt a.undo.version b.undo.version then Some b else Some a

-- The first halt of two, or the higher one.
abbrev pub joined : Result (Option Pick) Halt → Result (Option Pick) Halt → Result (Option Pick) Halt
joined (Err halt) more = Err halt
joined (Ok a) (Err halt) = Err halt
joined (Ok a) (Ok b) = Ok (higher a b)

-- of the slots from number k on, the one that goes back with the highest block version
abbrev pub newest : (ℕ → ItlSlot → Result (Option Pick) Halt) → ℕ → List ItlSlot → Result (Option Pick) Halt
newest pick k [] = Ok None
newest pick k (slot ∷ slots) = joined (pick k slot) (newest pick (k + 1) slots)

-- where no header is missing, what comes next
abbrev pub after_heads : Option Halt → Result (Option Pick) Halt → Result (Option Pick) Halt
after_heads (Some halt) next = Err halt
after_heads None next = next

-- The slot that a round takes back: first the headers are looked at in the order of the slots, then the undo records.
abbrev pub round : ℕ → Option Xid → (Xid → Look) → (Xid → ℕ → Fetch) → ℕ → List ItlSlot → Result (Option Pick) Halt
round snapshot me look fetch number itl =
    after_heads (first_halt (map (goes_back snapshot me look) itl))
    (newest (λ k slot. picked (goes_back snapshot me look slot) (fetched number k slot (fetch slot.xid slot.seq))) 1 itl)

-- The block version of what is taken back is at most the last one that may come.
abbrev pub falling : ℕ → Result (Option Pick) Halt → Result (Option Pick) Halt
falling last (Ok (Some p)) =
    if nat_le 1 p.undo.version && nat_le p.undo.version last then Ok (Some p) else Err Bad
falling last (Ok None) = Ok None
falling last (Err halt) = Err halt

-- the copy with a row and an ITL slot as they were before
abbrev pub taken : Pick → Work → Work
taken p w = record { rows = slice_set w.rows p.undo.row p.undo.old; itl = slice_set w.itl (p.itl - 1) p.undo.old_itl }

-- the end of a copy, or how it goes on
abbrev pub goes_on : (Pick → Result Work Halt) → Work → Result (Option Pick) Halt → Result Work Halt
goes_on next w (Ok (Some p)) = next p
goes_on next w (Ok None) = Ok w
goes_on next w (Err halt) = Err halt

-- Round by round the newest is taken back. Block versions fall from round to round, so that there is an end over any
-- content.
unfoldable pub rounds : (List ItlSlot → Result (Option Pick) Halt) → ℕ → ℕ → Work → Result Work Halt
rounds round zero last w = Err Bad
rounds round (suc fuel) last w =
    goes_on (λ p. rounds round fuel (p.undo.version - 1) (taken p w)) w (falling last (round w.itl))

-- the values and the ITL slots of a block
abbrev pub work_of : BlockContent → Work
work_of block = record { rows = values_of block.rows; itl = block.itl }

-- Whether a row is the reader's own, by the transaction that its lock byte names.
abbrev pub is_mine : Option Xid → Option Xid → Bool
is_mine me None = false
is_mine me (Some x) = is_own me x

-- A row that the reader holds is shown as the block has it.
abbrev pub row_shown : Option Xid → BlockContent → ℕ → Value → Value
row_shown me block r value = if is_mine me (locker block r) then (row_at block.rows r).value else value

-- the rows that are shown, from number r on
abbrev pub rows_shown : Option Xid → BlockContent → ℕ → List Value → List Value
rows_shown me block r [] = []
rows_shown me block r (value ∷ values) =
    row_shown me block r value ∷ rows_shown me block (r + 1) values

-- the answer of a halt
abbrev pub halted : Halt → Made
halted (Need wanted) = made.Need wanted
halted (TooOld cause) = made.TooOld cause
halted Bad = made.Bad

-- the answer of a copy
abbrev pub made_of : Option Xid → BlockContent → Result Work Halt → Made
made_of me block (Ok w) = made.Rows (rows_shown me block 0 w.rows)
made_of me block (Err halt) = halted halt

-- the consistent copy of a block at an SCN for a reader
abbrev pub make : ℕ → Option Xid → (Xid → Look) → (Xid → ℕ → Fetch) → BlockContent → Made
make snapshot me look fetch block =
    made_of me block
    (rounds (round snapshot me look fetch block.front.number) (suc block.front.version) block.front.version (work_of block))
