-- Sets of instances.
use Rattle.std.specs.Prelude.{ℕ, ◌==◌, ◌&&◌, ◌||◌, nat_lt, Bool, true, false, not, List, [], ◌∷◌, filter, find, length, Option, replicate, slice_index_or, slice_set}
use Rattle.std.specs.List.{list_all}
use Rattle.inst_set.specs.declared.set.InstSet.{InstSet}

-- whether an instance is in a set
abbrev pub has : InstSet → ℕ → Bool
has set inst = slice_index_or set.present inst false

-- the empty set
abbrev pub no_insts : InstSet
no_insts = record { present = replicate 8 false }

-- a set with one more instance
abbrev pub with_inst : InstSet → ℕ → InstSet
with_inst set inst = record { present = slice_set set.present inst true }

-- a set without an instance
abbrev pub without_inst : InstSet → ℕ → InstSet
without_inst set inst = record { present = slice_set set.present inst false }

-- the numbers of all instances
abbrev pub all_insts : List ℕ
all_insts = 0 ∷ 1 ∷ 2 ∷ 3 ∷ 4 ∷ 5 ∷ 6 ∷ 7 ∷ []

-- whether nobody is in a set
abbrev pub is_empty : InstSet → Bool
is_empty set = list_all (λ is_in. not is_in) set.present

-- the instances in a set, in the order of their numbers
abbrev pub members : InstSet → List ℕ
members set = filter (has set) all_insts

-- how many of its instances have a lower number
abbrev pub count_below : InstSet → ℕ → ℕ
count_below set inst = length (filter (λ other. has set other && nat_lt other inst) all_insts)

-- the instance at a place in the order of their numbers: as many as the place says have a lower one
abbrev pub member_at : InstSet → ℕ → Option ℕ
member_at set place = find (λ inst. has set inst && (count_below set inst == place)) all_insts

-- an instance is in the first set, or not in the second
abbrev pub has_if : InstSet → InstSet → ℕ → Bool
has_if set other inst = not (has other inst) || has set inst

-- whether each instance of the second set is in the first
abbrev pub holds_all : InstSet → InstSet → Bool
holds_all set other = list_all (has_if set other) all_insts

-- an instance is in both sets
abbrev pub in_both : InstSet → InstSet → ℕ → Bool
in_both set other inst = has set inst && has other inst

-- the instances that are in both sets
abbrev pub limited_to : InstSet → InstSet → InstSet
limited_to set other = record {
  present =
      in_both set other 0 ∷ in_both set other 1 ∷ in_both set other 2 ∷ in_both set other 3
      ∷ in_both set other 4 ∷ in_both set other 5 ∷ in_both set other 6 ∷ in_both set other 7 ∷ [];
}
