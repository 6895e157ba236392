-- What is read of ITL slots.
use Rattle.std.proofs.Common.{◌≡◌, ℕ, ◌≤◌, ◌⊎◌, List, [], ◌∷◌, length, take, drop, refl, sym, ap}
use Rattle.redo_types.specs.declared.blocks.ItlSlot.{ItlSlot}
use Rattle.base_types.specs.Bytes.{number_at, xid_at}
use Rattle.part_image.specs.Cells.{Begins}
use Rattle.part_image.specs.Slots.{IsItl, IsUsedItl, itl_bytes, itl_cells, unused_itl}
use Rattle.part_image.proofs.Numbers.{IsBytes}
use Rattle.part_image.proofs.CellLemmas.{AllStand, all_stand_where_spelled, fit_where_all_stand, spelled_where_all_stand}

-- the ITL slot in the first 16 bytes, whatever they are
abbrev pub itl_at : List ℕ → ItlSlot
itl_at bytes = record { xid = xid_at bytes 0; seq = number_at 8 bytes 8 }

-- What was read is an ITL slot whose bytes stand there.
pub itl_read : (bytes : List ℕ) (s : ItlSlot) → s ≡ itl_at bytes → IsBytes bytes → 16 ≤ length bytes → take 2 (drop 2 bytes) ≡ 0 ∷ 0 ∷ [] → (s ≡ unused_itl) ⊎ IsUsedItl s → IsItl s × Begins bytes (itl_bytes s)
itl_read bytes s is fits long zeros content =
    let seg = ap (λ (x : ItlSlot). x.xid.seg) (sym is) in
    let slot = ap (λ (x : ItlSlot). x.xid.slot) (sym is) in
    let wrap = ap (λ (x : ItlSlot). x.xid.wrap) (sym is) in
    let seq = ap (λ (x : ItlSlot). x.seq) (sym is) in
    let all : AllStand bytes 0 (itl_cells s) = (seg, (slot, (zeros, (wrap, (seq, tt))))) in
    (record { fits = fit_where_all_stand bytes 0 (itl_cells s) fits all; content = content }, spelled_where_all_stand bytes 0 (itl_cells s) fits long all)

-- A slot whose bytes stand there is what was read.
pub itl_is : (bytes : List ℕ) (v : ItlSlot) → IsItl v → Begins bytes (itl_bytes v) → (itl_at bytes ≡ v) × (take 2 (drop 2 bytes) ≡ 0 ∷ 0 ∷ [])
itl_is bytes v is begins =
    let all = all_stand_where_spelled bytes 0 (itl_cells v) is.fits begins in
    (rw (all.0, all.1.0, all.1.1.1.0, all.1.1.1.1.0) refl, all.1.1.0)
