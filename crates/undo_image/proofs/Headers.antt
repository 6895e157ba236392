-- What is read and written of headers.
use Rattle.std.proofs.Common.{◌≡◌, ℕ, ◌+◌, ◌*◌, ◌<◌, ◌≤◌, List, length, take, get_or, set, replicate, refl, sym, subst, ◌∙◌, arith}
use Rattle.std.proofs.lemmas.List.{take_all}
use Rattle.base_types.specs.Bytes.{Puts}
use Rattle.redo_types.specs.declared.undo.TxnSlot.{TxnSlot}
use Rattle.part_image.specs.declared.front.BlockFront.{BlockFront}
use Rattle.part_image.specs.declared.front.BlockKind.TheVariants.{Header}
use Rattle.part_image.specs.Cells.{Begins, IsFirstWrong, StandsAt, spelled}
use Rattle.part_image.specs.Front.{IsFront, front_bytes, front_fields}
use Rattle.part_image.specs.Undo.{IsTxnSlot, txn_slot_cells}
use Rattle.part_image.proofs.Numbers.{IsBytes}
use Rattle.part_image.proofs.OneValue.{one_front, one_txn_slot}
use Rattle.undo_image.specs.Header.{AreSlots, HeaderContent, IsHeader, header_bytes, header_fields, never_slot, slots_cells}
use Rattle.undo_image.proofs.Blocks.{Stand, all_stand, begins_whole, block_is, block_put, no_first_wrong, wrong_body, wrong_front, wrong_zeros}
use Rattle.undo_image.proofs.Parts.{PartsStand, length-parts, nth_stands, one_more_put, one_more_stands, one_parts}

pub slot_size : (s : TxnSlot) → length (spelled (txn_slot_cells s)) ≡ 40
slot_size s = refl

-- the slots that were read so far
abbrev pub SlotsRead : List ℕ → List TxnSlot → Type 0
SlotsRead bytes slots = PartsStand IsTxnSlot txn_slot_cells bytes 32 slots

pub length-slots : (slots : List TxnSlot) → length (spelled (slots_cells slots)) ≡ 40 * length slots
length-slots slots = length-parts txn_slot_cells 40 slot_size slots

pub length-eight : (slots : List TxnSlot) → AreSlots slots → length (spelled (slots_cells slots)) ≡ 320
length-eight slots are = omega (arith, length-slots slots, are.eight)

-- eight slots that stand at a place are the only ones
pub one_slots : (bytes : List ℕ) (vs ws : List TxnSlot) → IsBytes bytes → length bytes ≡ 512 → AreSlots vs → AreSlots ws → StandsAt bytes 32 (spelled (slots_cells vs)) → StandsAt bytes 32 (spelled (slots_cells ws)) → vs ≡ ws
one_slots bytes vs ws fits long are_v are_w stand_v stand_w =
    one_parts IsTxnSlot txn_slot_cells 40 slot_size (λ part v w _ _ is_v is_w begins_v begins_w. one_txn_slot part v w is_v is_w begins_v begins_w) bytes 32 vs ws fits (are_v.eight ∙ sym are_w.eight) (omega (arith, are_v.eight)) are_v.each are_w.each stand_v stand_w

-- the three parts of a header stand in its bytes
pub parts_of_header : (bytes : List ℕ) (h : HeaderContent) → IsHeader h → bytes ≡ header_bytes h → Stand Header h.front (slots_cells h.slots) 352 160 bytes
parts_of_header bytes h is same = all_stand Header h.front (slots_cells h.slots) 320 160 352 bytes (length-eight h.slots is.slots) refl (begins_whole bytes (header_bytes h) same)

-- where they stand, these are the bytes of the header
pub header_where_parts_stand : (bytes : List ℕ) (f : BlockFront) (slots : List TxnSlot) → length bytes ≡ 512 → AreSlots slots → Begins bytes (front_bytes Header f) → StandsAt bytes 32 (spelled (slots_cells slots)) → StandsAt bytes 352 (replicate 160 0)
    → bytes ≡ header_bytes (record { front = f; slots = slots })
header_where_parts_stand bytes f slots long are front middle rest = block_is Header f (slots_cells slots) 320 160 352 bytes (length-eight slots are) refl long front middle rest

-- where they are put, these are the bytes of the header
pub header_put : (s0 s1 s2 s3 : List ℕ) (h : HeaderContent) → length s0 ≡ 512 → IsHeader h → Puts s0 s1 0 (front_bytes Header h.front) → Puts s1 s2 32 (spelled (slots_cells h.slots)) → Puts s2 s3 352 (replicate 160 0) → s3 ≡ header_bytes h
header_put s0 s1 s2 s3 h long is front middle rest = block_put Header h.front (slots_cells h.slots) 320 160 352 s0 s1 s2 s3 (length-eight h.slots is.slots) refl long front middle rest

-- bytes are those of one header at most
pub one_header : (bytes : List ℕ) (v w : HeaderContent) → IsBytes bytes → length bytes ≡ 512 → IsHeader v → IsHeader w → bytes ≡ header_bytes v → bytes ≡ header_bytes w → v ≡ w
one_header bytes v w fits long is_v is_w same_v same_w =
    let a = parts_of_header bytes v is_v same_v in
    let b = parts_of_header bytes w is_w same_w in
    let front = one_front Header bytes v.front w.front is_v.front is_w.front a.front b.front in
    let slots = one_slots bytes v.slots w.slots fits long is_v.slots is_w.slots a.middle b.middle in
    rw (front, slots) refl

-- a front with eight slots that no transaction ever took
abbrev pub unused_header : BlockFront → HeaderContent
unused_header f = record { front = f; slots = replicate 8 never_slot }

never_is : IsTxnSlot never_slot
never_is = record {
  fits = (omega arith, (omega arith, (tt, (omega arith, (omega arith, (omega arith, (omega arith, tt)))))));
  state = (refl, refl, refl, refl);
  prev = (λ h. refl, λ h. omega arith);
}

unused_is : (f : BlockFront) → IsFront Header f → IsHeader (unused_header f)
unused_is f is = record {
  front = is;
  slots = record { eight = refl; each = (never_is, (never_is, (never_is, (never_is, (never_is, (never_is, (never_is, (never_is, tt)))))))) };
}

pub wrong_header_front : (bytes : List ℕ) (field : ℕ) → IsFirstWrong (IsFront Header) (front_fields Header) bytes field → IsFirstWrong IsHeader header_fields bytes field
wrong_header_front bytes field it =
    wrong_front IsHeader Header (λ h. h.front) (λ h. slots_cells h.slots) 160 unused_header bytes field unused_is (λ f. refl) (λ h is. is.front) it

pub wrong_slots : (bytes : List ℕ) (f : BlockFront) → IsFront Header f → Begins bytes (front_bytes Header f) → ((slots : List TxnSlot) → AreSlots slots → StandsAt bytes 32 (spelled (slots_cells slots)) → ⊥) → IsFirstWrong IsHeader header_fields bytes 8
wrong_slots bytes f is begins differs =
    wrong_body IsHeader Header (λ h. h.front) (λ h. slots_cells h.slots) 160 bytes (unused_header f) (unused_is f is) begins (λ h is_h stand. differs h.slots is_h.slots stand)

pub wrong_end : (bytes : List ℕ) (f : BlockFront) (slots : List TxnSlot) → IsFront Header f → AreSlots slots → Begins bytes (front_bytes Header f) → StandsAt bytes 32 (spelled (slots_cells slots)) → (StandsAt bytes 352 (replicate 160 0) → ⊥)
    → IsFirstWrong IsHeader header_fields bytes 9
wrong_end bytes f slots is are begins middle differs =
    wrong_zeros IsHeader Header (λ h. h.front) (λ h. slots_cells h.slots) 320 160 352 bytes (λ h is_h. length-eight h.slots is_h.slots) refl
    (record { front = f; slots = slots }) (record { front = is; slots = are }) begins middle differs

-- where a field is wrong, the bytes are no header's
pub no_header : (bytes : List ℕ) (field : ℕ) (h : HeaderContent) → IsFirstWrong IsHeader header_fields bytes field → IsHeader h → bytes ≡ header_bytes h → ⊥
no_header bytes field h it is same = no_first_wrong IsHeader header_fields bytes field 9 h it is (omega arith) (begins_whole bytes (header_bytes h) same)

-- one slot more is read
pub more_slots_read : (bytes : List ℕ) (slots : List TxnSlot) (k : ℕ) (s : TxnSlot) → length slots ≡ 8 → k < 8 → SlotsRead bytes (take k slots) → IsTxnSlot s → StandsAt bytes (32 + 40 * k) (spelled (txn_slot_cells s))
    → SlotsRead bytes (take (k + 1) (set slots k s))
more_slots_read bytes slots k s eight few read is stands = one_more_stands IsTxnSlot txn_slot_cells 40 slot_size bytes 32 k slots s (omega arith) read is stands

-- eight slots are read
pub all_slots_read : (bytes : List ℕ) (slots : List TxnSlot) (k : ℕ) → length slots ≡ 8 → 8 ≤ k → SlotsRead bytes (take k slots) → AreSlots slots × StandsAt bytes 32 (spelled (slots_cells slots))
all_slots_read bytes slots k eight many read =
    let all = subst (SlotsRead bytes) (take_all k slots (omega arith)) read in
    (record { eight = eight; each = all.each }, all.stand)

-- where no slot stands at one of the eight places, no eight slots stand
pub a_slot_is_wrong : (bytes : List ℕ) (k : ℕ) → k < 8 → ((s : TxnSlot) → IsTxnSlot s → StandsAt bytes (32 + 40 * k) (spelled (txn_slot_cells s)) → ⊥) → (slots : List TxnSlot) → AreSlots slots → StandsAt bytes 32 (spelled (slots_cells slots)) → ⊥
a_slot_is_wrong bytes k few wrong slots are stand =
    let one = nth_stands IsTxnSlot txn_slot_cells 40 slot_size bytes 32 k slots are.each (omega (arith, are.eight)) stand in
    wrong one.0 one.1 one.2

-- one slot more is put
pub more_slots_put : (old mid new : List ℕ) (slots : List TxnSlot) (k : ℕ) (unused : TxnSlot) → length old ≡ 512 → length slots ≡ 8 → k < 8 → Puts old mid 32 (spelled (slots_cells (take k slots))) → Puts mid new (32 + 40 * k) (spelled (txn_slot_cells (get_or slots k unused)))
    → Puts old new 32 (spelled (slots_cells (take (k + 1) slots)))
more_slots_put old mid new slots k unused long eight few first second = one_more_put txn_slot_cells 40 slot_size old mid new 32 k slots unused (omega arith) (omega arith) first second
