-- Counts of a disk against numbers of ends.
use Rattle.std.proofs.Common.{◌≡◌, ◌≤◌, ◌<◌, ◌+◌, ◌-◌, ◌^◌, ◌⊎◌, ℕ, inl, inr, arith, subst}
use Rattle.std.specs.Prelude.{min}
use Rattle.std.proofs.lemmas.Bool.{cases_lt}
use Rattle.rac_io.specs.Counts.{Rose}
use Rattle.rac_disk.specs.State.{State}
use Rattle.run_laws.specs.Ends.{HasRisen, IsLater}

-- the counts rose by so many at least, or one of them stands at its last value
abbrev pub Counted : ℕ → State → State → Type 0
Counted count disk disk_now = (count ≤ (disk_now.faults - disk.faults) + (disk_now.full - disk.full))
    ⊎ (2 ^ 64 - 1 ≤ disk_now.faults) ⊎ (2 ^ 64 - 1 ≤ disk_now.full)

-- a count that rose is one more at least, or stands at its last value
one_more : (before now : ℕ) → Rose before now → (before + 1 ≤ now) ⊎ (2 ^ 64 - 1 ≤ now)
one_more before now rose = elim (cases_lt now (2 ^ 64 - 1)) [ inl below ↦ inl (omega arith) | inr above ↦ inr above ]

more_faults : (count : ℕ) (first mid last : State) → IsLater first mid → IsLater mid last → Rose mid.faults last.faults
    → count ≤ (mid.faults - first.faults) + (mid.full - first.full) → Counted (1 + count) first last
more_faults count first mid last before after rose so_far =
    elim (one_more mid.faults last.faults rose) [ inl more ↦ inl (omega arith) | inr top ↦ inr (inl top) ]

more_full : (count : ℕ) (first mid last : State) → IsLater first mid → IsLater mid last → Rose mid.full last.full
    → count ≤ (mid.faults - first.faults) + (mid.full - first.full) → Counted (1 + count) first last
more_full count first mid last before after rose so_far =
    elim (one_more mid.full last.full rose) [ inl more ↦ inl (omega arith) | inr top ↦ inr (inr top) ]

one_counted : (count : ℕ) (first mid last : State) → IsLater first mid → IsLater mid last → HasRisen mid last
    → count ≤ (mid.faults - first.faults) + (mid.full - first.full) → Counted (1 + count) first last
one_counted count first mid last before after (inl rose) so_far = more_faults count first mid last before after rose so_far
one_counted count first mid last before after (inr rose) so_far = more_full count first mid last before after rose so_far

-- so many ends were counted, and at most one more that is counted too
pub counted_more : (count more : ℕ) (first mid last : State) → IsLater first mid → IsLater mid last → more ≤ 1 → (1 ≤ more → HasRisen mid last)
    → Counted count first mid → Counted (more + count) first last
counted_more count more first mid last before after one rises (inr (inl top)) = inr (inl (omega arith))
counted_more count more first mid last before after one rises (inr (inr top)) = inr (inr (omega arith))
counted_more count more first mid last before after one rises (inl so_far) =
    elim (cases_lt 0 more) [
      | inl some ↦ subst (λ (k : ℕ). Counted (k + count) first last) (omega arith) (one_counted count first mid last before after (rises some) so_far)
      | inr none ↦ inl (omega arith)
    ]

-- a count that didn't rise is the same, and below its last value
pub stayed : (before now : ℕ) → before ≤ now → (Rose before now → ⊥) → (now ≡ before) × (now < 2 ^ 64 - 1)
stayed before now later calm = elim (cases_lt now (min (before + 1) (2 ^ 64 - 1))) [ inl below ↦ (omega arith, omega arith) | inr above ↦ absurd (calm above) ]

none_as : (count : ℕ) (first last : State) → (last.faults ≡ first.faults) × (last.faults < 2 ^ 64 - 1)
    → (last.full ≡ first.full) × (last.full < 2 ^ 64 - 1) → Counted count first last → count ≡ 0
none_as count first last faults full (inl few) = omega arith
none_as count first last faults full (inr (inl top)) = absurd (omega arith)
none_as count first last faults full (inr (inr top)) = absurd (omega arith)

-- where neither count rose nothing was counted
pub none_counted : (count : ℕ) (first last : State) → IsLater first last → (HasRisen first last → ⊥) → Counted count first last → count ≡ 0
none_counted count first last later calm counted =
    none_as count first last (stayed first.faults last.faults later.faults (λ (rose : Rose first.faults last.faults). calm (inl rose)))
    (stayed first.full last.full later.full (λ (rose : Rose first.full last.full). calm (inr rose))) counted
