use Rattle.std.proofs.Common.{[], ◌∷◌, arith, refl}
use Rattle.part_image.specs.Slots.{IsItl, itl_cells, unused_itl}
use Rattle.block_image.proofs.EachLemmas.{EachStands, none_stands, whole_where_each}
use Rattle.block_image.proofs.itl.read_slots.Goals as goal

pub returns-in_err-read_itl : goal.returns-in_err-read_itl
returns-in_err-read_itl c =
    rw c.from_residual.ensures
    (λ v are begins. none_stands IsItl itl_cells 16 (λ v. refl) c.args.bytes.now 32 0 32 unused_itl refl c.in_err-read_itl.ensures v (omega (arith, are.four)) are.each begins)

pub returns-in_err-read_itl-2 : goal.returns-in_err-read_itl-2
returns-in_err-read_itl-2 c =
    rw c.from_residual-in_err-read_itl-2.ensures
    (λ v are begins. none_stands IsItl itl_cells 16 (λ v. refl) c.args.bytes.now 32 1 48 unused_itl refl c.in_err-read_itl-2.ensures v (omega (arith, are.four)) are.each begins)

pub returns-in_err-read_itl-3 : goal.returns-in_err-read_itl-3
returns-in_err-read_itl-3 c =
    rw c.from_residual-in_err-read_itl-3.ensures
    (λ v are begins. none_stands IsItl itl_cells 16 (λ v. refl) c.args.bytes.now 32 2 64 unused_itl refl c.in_err-read_itl-3.ensures v (omega (arith, are.four)) are.each begins)

pub returns-in_err-read_itl-4 : goal.returns-in_err-read_itl-4
returns-in_err-read_itl-4 c =
    rw c.from_residual-in_err-read_itl-4.ensures
    (λ v are begins. none_stands IsItl itl_cells 16 (λ v. refl) c.args.bytes.now 32 3 80 unused_itl refl c.in_err-read_itl-4.ensures v (omega (arith, are.four)) are.each begins)

pub returns : goal.returns
returns c =
    let v1 = c.in_ok-read_itl.ensures in
    let v2 = c.in_ok-read_itl-2.ensures in
    let v3 = c.in_ok-read_itl-3.ensures in
    let v4 = c.in_ok-read_itl-4.ensures in
    let stand : EachStands itl_cells 16 c.args.bytes.now 32 (c.in_ok-read_itl.field-0 ∷ c.in_ok-read_itl-2.field-0 ∷ c.in_ok-read_itl-3.field-0 ∷ c.in_ok-read_itl-4.field-0 ∷ []) =
    (v1.1, (v2.1, (v3.1, (v4.1, tt)))) in (
      record { four = refl; each = (v1.0, (v2.0, (v3.0, (v4.0, tt)))) },
      whole_where_each itl_cells 16 (λ v. refl) c.args.bytes.now 32 (c.in_ok-read_itl.field-0 ∷ c.in_ok-read_itl-2.field-0 ∷ c.in_ok-read_itl-3.field-0 ∷ c.in_ok-read_itl-4.field-0 ∷ []) stand,
    )
