-- What is read and written of undo blocks.
use Rattle.std.proofs.Common.{◌≡◌, ℕ, ◌+◌, ◌*◌, ◌<◌, ◌≤◌, List, [], ◌∷◌, length, take, get_or, set, replicate, Option, None, Some, refl, sym, ap, subst, ◌∙◌, arith}
use Rattle.std.proofs.lemmas.List.{take_all}
use Rattle.base_types.specs.Bytes.{Puts}
use Rattle.redo_types.specs.declared.undo.UndoRecord.{UndoRecord}
use Rattle.part_image.specs.declared.front.BlockFront.{BlockFront}
use Rattle.part_image.specs.declared.front.BlockKind.TheVariants.{Undo}
use Rattle.part_image.specs.Cells.{Number, Zeros, Begins, IsFirstWrong, StandsAt, spelled}
use Rattle.part_image.specs.Front.{IsFront, front_bytes, front_fields}
use Rattle.part_image.specs.Undo.{IsUndoPlace, IsUndoRecord, undo_place_cells, undo_record_bytes}
use Rattle.part_image.proofs.CellLemmas.{all_stand_where_spelled}
use Rattle.part_image.proofs.Numbers.{IsBytes}
use Rattle.part_image.proofs.OneValue.{one_front, one_undo_record}
use Rattle.part_image.proofs.UndoLemmas.{parts_where_spelled}
use Rattle.undo_image.specs.UndoBlock.{ArePlaces, IsUndoBlock, UndoContent, places_cells, undo_bytes, undo_fields}
use Rattle.undo_image.proofs.Blocks.{Stand, all_stand, begins_whole, block_is, block_put, no_first_wrong, wrong_body, wrong_front, wrong_zeros}
use Rattle.undo_image.proofs.Parts.{PartsStand, length-parts, nth_stands, one_more_put, one_more_stands, one_parts}

-- what stands at a place: an undo record or none
abbrev pub Place : Type 0
Place = Option UndoRecord

abbrev pub none : Place
none = None

pub place_size : (p : Place) → length (spelled (undo_place_cells p)) ≡ 96
place_size (Some u) = refl
place_size None = refl

-- zeros are no undo record's
not_zeros : (bytes : List ℕ) (u : UndoRecord) → IsBytes bytes → 96 ≤ length bytes → IsUndoRecord u → Begins bytes (undo_record_bytes u) → Begins bytes (spelled (undo_place_cells none)) → ⊥
not_zeros bytes u fits long is begins clear =
    let seq = (parts_where_spelled bytes u fits long is begins).seq in
    let zero = (all_stand_where_spelled bytes 0 (Number 8 0 ∷ Zeros 88 ∷ []) (omega arith, (tt, tt)) clear).0 in
    omega (arith, seq, zero, is.ranges.seq)

-- bytes are those of one place at most
one_place : (bytes : List ℕ) (v w : Place) → IsBytes bytes → 96 ≤ length bytes → IsUndoPlace v → IsUndoPlace w → Begins bytes (spelled (undo_place_cells v)) → Begins bytes (spelled (undo_place_cells w)) → v ≡ w
one_place bytes None None fits long is_v is_w begins_v begins_w = refl
one_place bytes None (Some w) fits long is_v is_w begins_v begins_w = absurd (not_zeros bytes w fits long is_w begins_w begins_v)
one_place bytes (Some v) None fits long is_v is_w begins_v begins_w = absurd (not_zeros bytes v fits long is_v begins_v begins_w)
one_place bytes (Some v) (Some w) fits long is_v is_w begins_v begins_w = ap (λ (u : UndoRecord). let p : Place = Some u in p) (one_undo_record bytes v w fits long is_v is_w begins_v begins_w)

-- the places that were read so far
abbrev pub PlacesRead : List ℕ → List Place → Type 0
PlacesRead bytes places = PartsStand IsUndoPlace undo_place_cells bytes 32 places

pub length-places : (places : List Place) → length (spelled (places_cells places)) ≡ 96 * length places
length-places places = length-parts undo_place_cells 96 place_size places

pub length-four : (places : List Place) → ArePlaces places → length (spelled (places_cells places)) ≡ 384
length-four places are = omega (arith, length-places places, are.four)

-- four places whose bytes stand there are the only ones
pub one_places : (bytes : List ℕ) (vs ws : List Place) → IsBytes bytes → length bytes ≡ 512 → ArePlaces vs → ArePlaces ws → StandsAt bytes 32 (spelled (places_cells vs)) → StandsAt bytes 32 (spelled (places_cells ws)) → vs ≡ ws
one_places bytes vs ws fits long are_v are_w stand_v stand_w =
    one_parts IsUndoPlace undo_place_cells 96 place_size one_place bytes 32 vs ws fits (are_v.four ∙ sym are_w.four) (omega (arith, are_v.four)) are_v.each are_w.each stand_v stand_w

-- the three parts of an undo block stand in its bytes
pub parts_of_undo : (bytes : List ℕ) (h : UndoContent) → IsUndoBlock h → bytes ≡ undo_bytes h → Stand Undo h.front (places_cells h.places) 416 96 bytes
parts_of_undo bytes h is same = all_stand Undo h.front (places_cells h.places) 384 96 416 bytes (length-four h.places is.places) refl (begins_whole bytes (undo_bytes h) same)

-- where they stand, these are the bytes of the undo block
pub undo_where_parts_stand : (bytes : List ℕ) (f : BlockFront) (places : List Place) → length bytes ≡ 512 → ArePlaces places → Begins bytes (front_bytes Undo f) → StandsAt bytes 32 (spelled (places_cells places)) → StandsAt bytes 416 (replicate 96 0)
    → bytes ≡ undo_bytes (record { front = f; places = places })
undo_where_parts_stand bytes f places long are front middle rest = block_is Undo f (places_cells places) 384 96 416 bytes (length-four places are) refl long front middle rest

-- where they are put, these are the bytes of the undo block
pub undo_put : (s0 s1 s2 s3 : List ℕ) (h : UndoContent) → length s0 ≡ 512 → IsUndoBlock h → Puts s0 s1 0 (front_bytes Undo h.front) → Puts s1 s2 32 (spelled (places_cells h.places)) → Puts s2 s3 416 (replicate 96 0) → s3 ≡ undo_bytes h
undo_put s0 s1 s2 s3 h long is front middle rest = block_put Undo h.front (places_cells h.places) 384 96 416 s0 s1 s2 s3 (length-four h.places is.places) refl long front middle rest

-- bytes are those of one undo block at most
pub one_undo_block : (bytes : List ℕ) (v w : UndoContent) → IsBytes bytes → length bytes ≡ 512 → IsUndoBlock v → IsUndoBlock w → bytes ≡ undo_bytes v → bytes ≡ undo_bytes w → v ≡ w
one_undo_block bytes v w fits long is_v is_w same_v same_w =
    let a = parts_of_undo bytes v is_v same_v in
    let b = parts_of_undo bytes w is_w same_w in
    let front = one_front Undo bytes v.front w.front is_v.front is_w.front a.front b.front in
    let places = one_places bytes v.places w.places fits long is_v.places is_w.places a.middle b.middle in
    rw (front, places) refl

-- a front with four places where nothing was ever written
abbrev pub unused_block : BlockFront → UndoContent
unused_block f = record { front = f; places = replicate 4 none }

unused_is : (f : BlockFront) → IsFront Undo f → IsUndoBlock (unused_block f)
unused_is f is = record { front = is; places = record { four = refl; each = (tt, (tt, (tt, (tt, tt)))) } }

pub wrong_undo_front : (bytes : List ℕ) (field : ℕ) → IsFirstWrong (IsFront Undo) (front_fields Undo) bytes field → IsFirstWrong IsUndoBlock undo_fields bytes field
wrong_undo_front bytes field it =
    wrong_front IsUndoBlock Undo (λ h. h.front) (λ h. places_cells h.places) 96 unused_block bytes field unused_is (λ f. refl) (λ h is. is.front) it

pub wrong_places : (bytes : List ℕ) (f : BlockFront) → IsFront Undo f → Begins bytes (front_bytes Undo f) → ((places : List Place) → ArePlaces places → StandsAt bytes 32 (spelled (places_cells places)) → ⊥) → IsFirstWrong IsUndoBlock undo_fields bytes 8
wrong_places bytes f is begins differs =
    wrong_body IsUndoBlock Undo (λ h. h.front) (λ h. places_cells h.places) 96 bytes (unused_block f) (unused_is f is) begins (λ h is_h stand. differs h.places is_h.places stand)

pub wrong_end : (bytes : List ℕ) (f : BlockFront) (places : List Place) → IsFront Undo f → ArePlaces places → Begins bytes (front_bytes Undo f) → StandsAt bytes 32 (spelled (places_cells places)) → (StandsAt bytes 416 (replicate 96 0) → ⊥)
    → IsFirstWrong IsUndoBlock undo_fields bytes 9
wrong_end bytes f places is are begins middle differs =
    wrong_zeros IsUndoBlock Undo (λ h. h.front) (λ h. places_cells h.places) 384 96 416 bytes (λ h is_h. length-four h.places is_h.places) refl
    (record { front = f; places = places }) (record { front = is; places = are }) begins middle differs

-- where a field is wrong, the bytes are no undo block's
pub no_undo_block : (bytes : List ℕ) (field : ℕ) (h : UndoContent) → IsFirstWrong IsUndoBlock undo_fields bytes field → IsUndoBlock h → bytes ≡ undo_bytes h → ⊥
no_undo_block bytes field h it is same = no_first_wrong IsUndoBlock undo_fields bytes field 9 h it is (omega arith) (begins_whole bytes (undo_bytes h) same)

-- one place more is read
pub more_places_read : (bytes : List ℕ) (places : List Place) (k : ℕ) (s : Place) → length places ≡ 4 → k < 4 → PlacesRead bytes (take k places) → IsUndoPlace s → StandsAt bytes (32 + 96 * k) (spelled (undo_place_cells s))
    → PlacesRead bytes (take (k + 1) (set places k s))
more_places_read bytes places k s four few read is stands = one_more_stands IsUndoPlace undo_place_cells 96 place_size bytes 32 k places s (omega arith) read is stands

-- four places are read
pub all_places_read : (bytes : List ℕ) (places : List Place) (k : ℕ) → length places ≡ 4 → 4 ≤ k → PlacesRead bytes (take k places) → ArePlaces places × StandsAt bytes 32 (spelled (places_cells places))
all_places_read bytes places k four many read =
    let all = subst (PlacesRead bytes) (take_all k places (omega arith)) read in
    (record { four = four; each = all.each }, all.stand)

-- where the bytes at one of the four places are no place's, no four places stand
pub a_place_is_wrong : (bytes : List ℕ) (k : ℕ) → k < 4 → ((s : Place) → IsUndoPlace s → StandsAt bytes (32 + 96 * k) (spelled (undo_place_cells s)) → ⊥) → (places : List Place) → ArePlaces places → StandsAt bytes 32 (spelled (places_cells places)) → ⊥
a_place_is_wrong bytes k few wrong places are stand =
    let one = nth_stands IsUndoPlace undo_place_cells 96 place_size bytes 32 k places are.each (omega (arith, are.four)) stand in
    wrong one.0 one.1 one.2

-- one place more is put
pub more_places_put : (old mid new : List ℕ) (places : List Place) (k : ℕ) (unused : Place) → length old ≡ 512 → length places ≡ 4 → k < 4 → Puts old mid 32 (spelled (places_cells (take k places))) → Puts mid new (32 + 96 * k) (spelled (undo_place_cells (get_or places k unused)))
    → Puts old new 32 (spelled (places_cells (take (k + 1) places)))
more_places_put old mid new places k unused long four few first second = one_more_put undo_place_cells 96 place_size old mid new 32 k places unused (omega arith) (omega arith) first second
