-- Who holds a block, by its entry in the directory.
use Rattle.std.specs.Prelude.{ℕ, ◌+◌, ◌-◌, ◌^◌, ◌==◌, ◌&&◌, if◌then◌else◌, Bool, true, false, not, List, map, min, filter, find, Option, None, Some, is_some, unwrap_or}
use Rattle.std.specs.List.{list_any}
use Rattle.inst_set.specs.declared.set.InstSet.{InstSet}
use Rattle.wire_net.specs.declared.entry.Holder.{Holder}
use Rattle.wire_net.specs.declared.entry.Grants.{Grants}
use Rattle.wire_net.specs.declared.entry.Operation.{Operation}
use Rattle.wire_net.specs.declared.entry.Entry.{Entry}
use Rattle.inst_set.specs.Sets.{all_insts, has, without_inst}
use Rattle.wire_net.specs.Entry.{grant_of, with_grant}

-- whether a number is there and is this one
abbrev pub is_number : Option ℕ → ℕ → Bool
is_number None number = false
is_number (Some other) number = other == number

-- the exclusive holder, if it is another than this instance
abbrev pub other_than : ℕ → Option Holder → Option Holder
other_than inst None = None
other_than inst (Some holder) = if holder.inst == inst then None else Some holder

-- the exclusive holder, if its grant is another one
abbrev pub under_other : ℕ → Option Holder → Option Holder
under_other grant None = None
under_other grant (Some holder) = if holder.grant == grant then None else Some holder

-- whether an instance shares the block
abbrev pub is_sharer : Grants → ℕ → Bool
is_sharer shared inst = is_some (grant_of shared inst)

-- the lowest instance that shares the block under a grant
abbrev pub sharer_under : Grants → ℕ → Option ℕ
sharer_under shared grant = find (λ inst. is_number (grant_of shared inst) grant) all_insts

-- the lowest instance that shares the block
abbrev pub first_sharer : Grants → Option ℕ
first_sharer shared = find (is_sharer shared) all_insts

-- whether an instance is another one and shares the block
abbrev pub is_other_sharer : Grants → ℕ → ℕ → Bool
is_other_sharer shared asker inst = is_sharer shared inst && not (inst == asker)

-- whether another instance than the asker shares the block
abbrev pub has_other_sharer : Grants → ℕ → Bool
has_other_sharer shared asker = list_any (is_other_sharer shared asker) all_insts

-- all instances but the asker that share the block
abbrev pub other_sharers : Grants → ℕ → InstSet
other_sharers shared asker = record { present = map (is_other_sharer shared asker) all_insts }

-- the grants without that of an instance, if one is named
abbrev pub unshared : Grants → Option ℕ → Grants
unshared shared None = shared
unshared shared (Some inst) = with_grant shared inst None

-- the operation without an instance among those for which it waits, if one is named
abbrev pub unwaited : Option Operation → Option ℕ → Option Operation
unwaited None inst = None
unwaited (Some op) None = Some op
unwaited (Some op) (Some inst) = Some (record op { waits = without_inst op.waits inst })

-- the entry without the holder of a grant, for which the operation doesn't wait any more
abbrev pub taken_out : ℕ → Entry → Entry
taken_out grant entry = record entry {
  x = under_other grant entry.x;
  shared = unshared entry.shared (sharer_under entry.shared grant);
  op = unwaited entry.op (sharer_under entry.shared grant);
}

-- whether an operation is under way for which this new grant was drawn
abbrev pub is_granting : Option Operation → ℕ → Bool
is_granting None grant = false
is_granting (Some op) grant = is_number op.grant grant

-- the next grant after one; the greatest number stays
abbrev pub grant_after : ℕ → ℕ
grant_after grant = min (grant + 1) (2 ^ 64 - 1)
