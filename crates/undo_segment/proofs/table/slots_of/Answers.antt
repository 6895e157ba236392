use Rattle.std.proofs.Common.{◌≡◌, List, [], ◌∷◌, length, get_or, refl, arith}
use Rattle.undo_image.specs.Header.{never_slot}
use Rattle.redo_types.specs.declared.undo.TxnSlot.{TxnSlot}
use Rattle.undo_segment.proofs.table.slots_of.Goals as goal

-- a list of eight is that of its items
eight : (xs : List TxnSlot) (d : TxnSlot) → length xs ≡ 8 → (get_or xs 0 d ∷ get_or xs 1 d ∷ get_or xs 2 d ∷ get_or xs 3 d ∷ get_or xs 4 d ∷ get_or xs 5 d ∷ get_or xs 6 d ∷ get_or xs 7 d ∷ []) ≡ xs
eight (a ∷ b ∷ c ∷ d ∷ e ∷ f ∷ g ∷ h ∷ []) z is = refl
eight _ z is = absurd (omega arith)

pub returns : goal.returns
returns c =
    rw (c.slot.ensures, c.slot-2.ensures, c.slot-3.ensures, c.slot-4.ensures, c.slot-5.ensures, c.slot-6.ensures, c.slot-7.ensures, c.slot-8.ensures)
    (eight c.args.head.now.slots never_slot c.always_is_header.ensures.slots.eight)
