-- An example of a block that may be read. Four transactions change four rows and commit. A fifth takes the ITL slot of the
-- first, changes its row, and is taken back. Then a reader comes whose snapshot is at the second one's end.
use Rattle.std.specs.Prelude.{ℕ, ◌==◌, if◌then◌else◌, pos, true, List, [], ◌∷◌}
use Rattle.base_types.specs.declared.names.Xid.{Xid}
use Rattle.base_types.specs.declared.value.Value.{Value}
use Rattle.base_types.specs.declared.value.Value.TheVariants.{Absent, Num}
use Rattle.undo_segment.specs.declared.fetch.Fetch.{Fetch}
use Rattle.undo_segment.specs.declared.fetch.Fetch.TheVariants.{Has, Unfetched}
use Rattle.undo_segment.specs.declared.look.Look.{Look}
use Rattle.undo_segment.specs.declared.look.Look.TheVariants.{Ended}
use Rattle.board_slots.specs.Block.{Commits, content, Deed, Does, Record, TakesBack}
use Rattle.board_slots.specs.Decide.{decided}
use Rattle.board_slots.specs.Slots.{back_of}
use Rattle.board_slots.specs.Views.{undo_of}

-- a transaction of segment 0
abbrev pub txn : ℕ → Xid
txn slot = record { seg = 0; slot = slot; wrap = 1 }

-- a transaction's only deed puts its number into a row
abbrev pub deed_after : List Record → ℕ → ℕ → ℕ → ℕ → ℕ → Deed
deed_after records slot seq scn row itl = decided (content records) (txn slot) 0 seq scn row itl true (Num (pos seq))

-- the first one's
abbrev pub first_deed : Deed
first_deed = deed_after [] 0 1 1 0 1

abbrev pub one : List Record
one = Does first_deed ∷ []

-- the second one's
abbrev pub second_deed : Deed
second_deed = deed_after one 1 2 2 1 2

abbrev pub two : List Record
two = Does second_deed ∷ one

-- the third one's
abbrev pub third_deed : Deed
third_deed = deed_after two 2 3 3 2 3

abbrev pub three : List Record
three = Does third_deed ∷ two

-- the fourth one's
abbrev pub fourth_deed : Deed
fourth_deed = deed_after three 3 4 4 3 4

abbrev pub four_deeds : List Record
four_deeds = Does fourth_deed ∷ three

-- all four commit
abbrev pub all_ended : List Record
all_ended = Commits 8 (txn 3) ∷ Commits 7 (txn 2) ∷ Commits 6 (txn 1) ∷ Commits 5 (txn 0) ∷ four_deeds

-- the fifth one's, in the row and the ITL slot of the first
abbrev pub fifth_deed : Deed
fifth_deed = deed_after all_ended 4 5 9 0 1

abbrev pub five : List Record
five = Does fifth_deed ∷ all_ended

-- the fifth one's is taken back
abbrev pub example : List Record
example = TakesBack 0 (txn 4) 5 10 (back_of fifth_deed (content five)) ∷ five

-- what the header tells of each
abbrev pub header : Xid → Look
header xid = Ended (if xid.slot == 0 then 5 else if xid.slot == 1 then 6 else if xid.slot == 2 then 7 else 8)

-- the undo of the third and of the fourth is at hand
abbrev pub undo : Xid → ℕ → Fetch
undo xid seq = if seq == 3 then Has (undo_of 0 third_deed) else if seq == 4 then Has (undo_of 0 fourth_deed) else Unfetched

-- what the reader is to see
abbrev pub seen_at_6 : List Value
seen_at_6 = Num (pos 1) ∷ Num (pos 2) ∷ Absent ∷ Absent ∷ Absent ∷ Absent ∷ Absent ∷ Absent ∷ []
