-- A bucket moves to another master.
use Rattle.std.specs.Prelude.{ℕ, ◌==◌, ◌&&◌, not, Bool, true, false, List, find, Option, None, Some, is_some, slice_set}
use Rattle.std.specs.Option.{option_and_then}
use Rattle.base_types.specs.declared.names.Scn.{Scn}
use Rattle.journal.specs.declared.entry.Entry.TheVariants.{Moved}
use Rattle.scn_clock.specs.Clock.{raised}
use Rattle.wire_net.specs.declared.entry.Entry.{Entry}
use Rattle.wire_net.specs.declared.message.Lane.TheVariants.{Main}
use Rattle.wire_net.specs.declared.message.Message.{Message}
use Rattle.wire_net.specs.declared.message.Message.TheVariants.{Bucket}
use Rattle.wire_net.specs.declared.message.Packet.{Packet}
use Rattle.wire_net.specs.Masters.{with_master}
use Rattle.resource_dir.specs.Directory.{bucket_of, with_bucket}
use Rattle.inst_state.specs.declared.control.Control.{Control}
use Rattle.inst_state.specs.declared.control.Wanted.{Wanted}
use Rattle.inst_state.specs.declared.control.Wanted.TheVariants.{Move}
use Rattle.inst_state.specs.declared.inst.BucketsSent.{BucketsSent}
use Rattle.inst_state.specs.declared.inst.Inst.{Inst}
use Rattle.inst_state.specs.declared.inst.Mastering.{Mastering}
use Rattle.inst_state.specs.declared.shared.Core.{Core}
use Rattle.inst_state.specs.Controls.{is_move_of}
use Rattle.inst_state.specs.Sending.{first_from, sending, without_first}
use Rattle.inst_state.specs.Shared.{answering, is_live, open_control, told, wave_controls}
use Rattle.wave_steps.specs.declared.buckets.BucketMove.{BucketMove}

-- the move that a line asks for
abbrev pub move_of : Wanted → Option BucketMove
move_of (Move bucket to) = Some (record { bucket = bucket; to = to })
move_of _ = None

-- the move that an open line asks for
abbrev pub moved_by : Core → ℕ → Option BucketMove
moved_by core line = option_and_then (λ (control : Control). move_of control.wanted) (open_control core line)

-- An instance masters a bucket.
abbrev pub masters : Inst → ℕ → Bool
masters n bucket = is_some (bucket_of n.mastering.directory bucket)

-- A move, if there is one, takes a bucket from this instance to another live one.
abbrev pub moves_away : Inst → Core → Option BucketMove → Bool
moves_away n core None = false
moves_away n core (Some it) = not (it.to == n.plan.me) && is_live core it.to && masters n it.bucket

-- A bucket is sent that a line moves from this instance to another live one.
abbrev pub may_send_bucket : Inst → Core → ℕ → Bool
may_send_bucket n core line = moves_away n core (moved_by core line)

-- to whom buckets were sent, with another note of one
abbrev pub with_sent : BucketsSent → ℕ → Option ℕ → BucketsSent
with_sent sent bucket to = record { by_bucket = slice_set sent.by_bucket bucket to }

-- what an instance masters after a bucket was sent away: its entries are gone
abbrev pub mastering_without : Mastering → BucketMove → Mastering
mastering_without m it = record m {
  directory = with_bucket m.directory it.bucket None;
  sent = with_sent m.sent it.bucket (Some it.to);
}

-- an instance after a move, if there is one, has taken a bucket from it
abbrev pub with_moved : Inst → Option BucketMove → Inst
with_moved n None = n
with_moved n (Some it) = record n { mastering = mastering_without n.mastering it }

-- an instance after it has sent the bucket that a line moves
abbrev pub bucket_sent : Inst → Core → ℕ → Inst
bucket_sent n core line = with_moved n (moved_by core line)

-- the shared part after the entries of a bucket, if there are any, were sent
abbrev pub sending_bucket : Core → ℕ → Scn → BucketMove → Option (List Entry) → Core
sending_bucket core me scn it None = core
sending_bucket core me scn it (Some entries) = sending core me scn it.to (Bucket it.bucket entries)

-- the shared part after a move, if there is one, has taken a bucket from an instance
abbrev pub sending_move : Inst → Core → Option BucketMove → Core
sending_move n core None = core
sending_move n core (Some it) =
    sending_bucket core n.plan.me n.clock.scn it (bucket_of n.mastering.directory it.bucket)

-- the shared part after an instance has sent the bucket that a line moves
abbrev pub bucket_sent_core : Inst → Core → ℕ → Core
bucket_sent_core n core line = sending_move n core (moved_by core line)

-- A message bears a bucket.
abbrev pub is_bucket : Message → Bool
is_bucket (Bucket bucket entries) = true
is_bucket _ = false

-- A packet, if there is one, bears a bucket.
abbrev pub bears_bucket : Option Packet → Bool
bears_bucket None = false
bears_bucket (Some packet) = is_bucket packet.message

-- An instance takes a bucket that is first on the link from another one.
abbrev pub may_take_bucket : Inst → Core → ℕ → Bool
may_take_bucket n core from = bears_bucket (first_from core from n.plan.me Main)

-- what an instance masters after a bucket was taken
abbrev pub mastering_with : Mastering → ℕ → List Entry → Mastering
mastering_with m bucket entries = record m {
  directory = with_bucket m.directory bucket (Some entries);
  sent = with_sent m.sent bucket None;
}

-- an instance after a message has come: the entries of a bucket are its own
abbrev pub taking_bucket : Inst → Message → Inst
taking_bucket n (Bucket bucket entries) = record n { mastering = mastering_with n.mastering bucket entries }
taking_bucket n _ = n

-- an instance after a packet, if there is one, has come: its clock is raised
abbrev pub taking_packet : Inst → Option Packet → Inst
taking_packet n None = n
taking_packet n (Some packet) = taking_bucket (record n { clock = raised n.clock packet.scn }) packet.message

-- an instance after it has taken the bucket that was first on the link from another one
abbrev pub bucket_taken : Inst → Core → ℕ → Inst
bucket_taken n core from = taking_packet n (first_from core from n.plan.me Main)

-- the first open line that moves a bucket to an instance
abbrev pub first_move : Core → ℕ → ℕ → Option Control
first_move core bucket me =
    find (λ (control : Control). not control.done && is_move_of bucket me control.wanted) (wave_controls core.waves)

-- the shared part after a line, if there is one, was answered whose bucket has its new master
abbrev pub move_told : Core → Option Control → Core
move_told core None = core
move_told core (Some control) = told (answering core control.line) (Moved control.line)

-- the shared part after the table names another master of a bucket
abbrev pub naming : Core → ℕ → ℕ → Core
naming core bucket me = record core { net = record core.net { masters = with_master core.net.masters bucket me } }

-- The table names the new master of a bucket that has come, and the first line that moves it there is answered.
abbrev pub noting_bucket : Core → ℕ → Message → Core
noting_bucket core me (Bucket bucket entries) = move_told (naming core bucket me) (first_move core bucket me)
noting_bucket core me _ = core

-- the shared part after a packet, if there is one, has come
abbrev pub noting_packet : Core → ℕ → Option Packet → Core
noting_packet core me None = core
noting_packet core me (Some packet) = noting_bucket core me packet.message

-- the shared part after an instance has taken the bucket that was first on the link from another one
abbrev pub bucket_taken_core : Inst → Core → ℕ → Core
bucket_taken_core n core from =
    noting_packet (without_first core from n.plan.me Main) n.plan.me (first_from core from n.plan.me Main)

-- A move, if there is one, is of a bucket to this instance, which masters it already.
abbrev pub moves_nothing : Inst → Option BucketMove → Bool
moves_nothing n None = false
moves_nothing n (Some it) = it.to == n.plan.me && masters n it.bucket

-- A bucket is kept that a line moves to this instance, which masters it already.
abbrev pub may_keep_bucket : Inst → Core → ℕ → Bool
may_keep_bucket n core line = moves_nothing n (moved_by core line)

-- the shared part after a line was answered whose bucket had its new master already
abbrev pub bucket_kept : Core → ℕ → Core
bucket_kept core line = move_told core (open_control core line)
