-- Who is in the cluster, and how that changes.
use Rattle.std.specs.Prelude.{ℕ, ◌+◌, ◌-◌, ◌^◌, min, Bool, if◌then◌else◌, Option}
use Rattle.inst_set.specs.declared.set.InstSet.{InstSet}
use Rattle.inst_set.specs.Sets.{holds_all, is_empty, member_at, no_insts, with_inst, without_inst}
use Rattle.recovery.specs.declared.members.Membership.{Membership}
use Rattle.recovery.specs.declared.members.Phase.{Phase}
use Rattle.recovery.specs.declared.members.Phase.TheVariants.{Dark, Frozen}

-- After a change the live instances report; where there are none it is dark.
abbrev pub phase_of : InstSet → Phase
phase_of live = if is_empty live then Dark else Frozen

-- the epoch after one more change, at most the last of 32 bits
abbrev pub next_epoch : ℕ → ℕ
next_epoch epoch = min (epoch + 1) (2 ^ 32 - 1)

-- The membership changed to these live instances: it is a new epoch, and nobody has reported in it.
abbrev pub changed : Membership → InstSet → Membership
changed members live = record { epoch = next_epoch members.epoch; live = live; phase = phase_of live; reported = no_insts }

-- an instance is lost
abbrev pub left_by : Membership → ℕ → Membership
left_by members inst = changed members (without_inst members.live inst)

-- an instance comes in
abbrev pub entered : Membership → ℕ → Membership
entered members inst = changed members (with_inst members.live inst)

-- the lowest live instance
abbrev pub leader : Membership → Option ℕ
leader members = member_at members.live 0

-- Each live instance has reported.
abbrev pub all_reported : Membership → Bool
all_reported members = holds_all members.reported members.live
