-- The same bytes are those of a data block at the same version.
use Rattle.std.proofs.Common.{◌≡◌, ◌∙◌, ℕ, ◌^◌, ◌<◌, List, [], ◌∷◌, ◌++◌, drop, sym, ap}
use Rattle.std.specs.List.{flat_map}
use Rattle.byteorder.specs.Numbers.{big_number-reads_back}
use Rattle.base_types.specs.Bytes.{big_number}
use Rattle.part_image.specs.Cells.{Number, Zeros, spelled}
use Rattle.part_image.specs.Slots.{itl_cells}
use Rattle.block_image.specs.Block.{BlockContent, block_bytes, row_cells}

-- what stands behind the version
behind : BlockContent → List ℕ
behind b = spelled (Number 8 b.front.scn ∷ Number 8 b.front.next ∷ (flat_map itl_cells b.itl ++ (flat_map row_cells b.rows ++ (Zeros 288 ∷ []))))

-- the version stands in the eight bytes from the ninth on
version-stands : (b : BlockContent) → b.front.version < 256 ^ 8 → big_number 8 (drop 8 (block_bytes b)) ≡ b.front.version
unfolding behind
version-stands b small = big_number-reads_back 8 b.front.version (behind b) small

pub same-version : (x y : BlockContent) → x.front.version < 256 ^ 8 → y.front.version < 256 ^ 8 → block_bytes x ≡ block_bytes y → x.front.version ≡ y.front.version
same-version x y small_x small_y same = sym (version-stands x small_x) ∙ ap (λ (bytes : List ℕ). big_number 8 (drop 8 bytes)) same ∙ version-stands y small_y
