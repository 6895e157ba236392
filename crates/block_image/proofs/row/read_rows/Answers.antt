use Rattle.std.proofs.Common.{[], ◌∷◌, arith, refl}
use Rattle.block_image.specs.Block.{clear_row, row_cells}
use Rattle.block_image.specs.Parts.{IsRowOf}
use Rattle.block_image.proofs.EachLemmas.{EachStands, none_stands, whole_where_each}
use Rattle.block_image.proofs.row.read_rows.Goals as goal

pub returns-in_err-read_row : goal.returns-in_err-read_row
returns-in_err-read_row c =
    rw c.from_residual.ensures
    (λ v are begins. none_stands (IsRowOf c.args.itl.now) row_cells 16 (λ v. refl) c.args.bytes.now 96 0 96 clear_row refl c.in_err-read_row.ensures v (omega (arith, are.eight)) are.each begins)

pub returns-in_err-read_row-2 : goal.returns-in_err-read_row-2
returns-in_err-read_row-2 c =
    rw c.from_residual-in_err-read_row-2.ensures
    (λ v are begins. none_stands (IsRowOf c.args.itl.now) row_cells 16 (λ v. refl) c.args.bytes.now 96 1 112 clear_row refl c.in_err-read_row-2.ensures v (omega (arith, are.eight)) are.each begins)

pub returns-in_err-read_row-3 : goal.returns-in_err-read_row-3
returns-in_err-read_row-3 c =
    rw c.from_residual-in_err-read_row-3.ensures
    (λ v are begins. none_stands (IsRowOf c.args.itl.now) row_cells 16 (λ v. refl) c.args.bytes.now 96 2 128 clear_row refl c.in_err-read_row-3.ensures v (omega (arith, are.eight)) are.each begins)

pub returns-in_err-read_row-4 : goal.returns-in_err-read_row-4
returns-in_err-read_row-4 c =
    rw c.from_residual-in_err-read_row-4.ensures
    (λ v are begins. none_stands (IsRowOf c.args.itl.now) row_cells 16 (λ v. refl) c.args.bytes.now 96 3 144 clear_row refl c.in_err-read_row-4.ensures v (omega (arith, are.eight)) are.each begins)

pub returns-in_err-read_row-5 : goal.returns-in_err-read_row-5
returns-in_err-read_row-5 c =
    rw c.from_residual-in_err-read_row-5.ensures
    (λ v are begins. none_stands (IsRowOf c.args.itl.now) row_cells 16 (λ v. refl) c.args.bytes.now 96 4 160 clear_row refl c.in_err-read_row-5.ensures v (omega (arith, are.eight)) are.each begins)

pub returns-in_err-read_row-6 : goal.returns-in_err-read_row-6
returns-in_err-read_row-6 c =
    rw c.from_residual-in_err-read_row-6.ensures
    (λ v are begins. none_stands (IsRowOf c.args.itl.now) row_cells 16 (λ v. refl) c.args.bytes.now 96 5 176 clear_row refl c.in_err-read_row-6.ensures v (omega (arith, are.eight)) are.each begins)

pub returns-in_err-read_row-7 : goal.returns-in_err-read_row-7
returns-in_err-read_row-7 c =
    rw c.from_residual-in_err-read_row-7.ensures
    (λ v are begins. none_stands (IsRowOf c.args.itl.now) row_cells 16 (λ v. refl) c.args.bytes.now 96 6 192 clear_row refl c.in_err-read_row-7.ensures v (omega (arith, are.eight)) are.each begins)

pub returns-in_err-read_row-8 : goal.returns-in_err-read_row-8
returns-in_err-read_row-8 c =
    rw c.from_residual-in_err-read_row-8.ensures
    (λ v are begins. none_stands (IsRowOf c.args.itl.now) row_cells 16 (λ v. refl) c.args.bytes.now 96 7 208 clear_row refl c.in_err-read_row-8.ensures v (omega (arith, are.eight)) are.each begins)

pub returns : goal.returns
returns c =
    let v1 = c.in_ok-read_row.ensures in
    let v2 = c.in_ok-read_row-2.ensures in
    let v3 = c.in_ok-read_row-3.ensures in
    let v4 = c.in_ok-read_row-4.ensures in
    let v5 = c.in_ok-read_row-5.ensures in
    let v6 = c.in_ok-read_row-6.ensures in
    let v7 = c.in_ok-read_row-7.ensures in
    let v8 = c.in_ok-read_row-8.ensures in
    let stand : EachStands row_cells 16 c.args.bytes.now 96 (c.in_ok-read_row.field-0 ∷ c.in_ok-read_row-2.field-0 ∷ c.in_ok-read_row-3.field-0 ∷ c.in_ok-read_row-4.field-0 ∷ c.in_ok-read_row-5.field-0 ∷ c.in_ok-read_row-6.field-0 ∷ c.in_ok-read_row-7.field-0 ∷ c.in_ok-read_row-8.field-0 ∷ []) =
    (v1.1, (v2.1, (v3.1, (v4.1, (v5.1, (v6.1, (v7.1, (v8.1, tt)))))))) in (
      record { eight = refl; each = (v1.0, (v2.0, (v3.0, (v4.0, (v5.0, (v6.0, (v7.0, (v8.0, tt)))))))) },
      whole_where_each row_cells 16 (λ v. refl) c.args.bytes.now 96 (c.in_ok-read_row.field-0 ∷ c.in_ok-read_row-2.field-0 ∷ c.in_ok-read_row-3.field-0 ∷ c.in_ok-read_row-4.field-0 ∷ c.in_ok-read_row-5.field-0 ∷ c.in_ok-read_row-6.field-0 ∷ c.in_ok-read_row-7.field-0 ∷ c.in_ok-read_row-8.field-0 ∷ []) stand,
    )
