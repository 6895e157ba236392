-- A master takes a message.
use Rattle.std.specs.Prelude.{ℕ, ◌%◌, if◌then◌else◌, Bool, List, Option, None, Some, is_some, slice_index_or}
use Rattle.std.specs.List.{fold}
use Rattle.std.specs.Option.{option_and_then}
use Rattle.wire_net.specs.declared.message.Lane.TheVariants.{Main}
use Rattle.wire_net.specs.declared.message.Message.{Message}
use Rattle.wire_net.specs.declared.message.Message.TheVariants.{Ask, Back, Done, GaveUp, Gone, WritePlease, Wrote}
use Rattle.wire_net.specs.declared.message.Unfound.{Unfound}
use Rattle.wire_net.specs.declared.message.Unfound.TheVariants as unfound
use Rattle.wire_net.specs.Masters.{master_of}
use Rattle.resource_dir.specs.Directory.{bucket_of, directory_takes}
use Rattle.inst_state.specs.declared.inst.Inst.{Inst}
use Rattle.inst_state.specs.declared.inst.Mastering.{Mastering}
use Rattle.inst_state.specs.declared.shared.Core.{Core}
use Rattle.image_steps.specs.Hear.{first_message, heard, hears}
use Rattle.image_steps.specs.Sends.{sends}

-- the block of a message that found no image
abbrev pub unfound_block : Unfound → ℕ
unfound_block (unfound.CopyTo block grant reader) = block
unfound_block (unfound.ShareTo block grant new_grant asker) = block
unfound_block (unfound.ShipTo block grant new_grant asker) = block
unfound_block (unfound.WritePlease block grant version holder) = block

-- the block of a message to a master
abbrev pub master_block : Message → Option ℕ
master_block (Ask block mode held asker) = Some block
master_block (Gone block grant) = Some block
master_block (Done block grant mode past) = Some block
master_block (GaveUp block grant) = Some block
master_block (Wrote block version) = Some block
master_block (WritePlease block version holder None) = Some block
master_block (Back unfound) = Some (unfound_block unfound)
master_block _ = None

-- A message to a master is taken at once.
abbrev pub may_take_at_master : Inst → Core → ℕ → Bool
may_take_at_master n core from = is_some (option_and_then master_block (first_message n core from Main))

-- An instance is the master of a block.
abbrev pub is_master : Inst → ℕ → Bool
is_master n block = is_some (bucket_of n.mastering.directory (block % 16))

-- what an instance masters after a message on a block was taken, if it is one to a master
abbrev pub mastering_at : Mastering → Message → Option ℕ → Mastering
mastering_at it message None = it
mastering_at it message (Some block) = record it { directory = (directory_takes it.directory block message).directory }

-- what an instance masters after a message was taken, if there is one
abbrev pub mastering_takes : Mastering → Option Message → Mastering
mastering_takes it None = it
mastering_takes it (Some message) = mastering_at it message (master_block message)

-- an instance that has taken a message to a master
abbrev pub master_taken : Inst → Core → ℕ → Inst
master_taken n core from = record (hears n core from Main) {
  mastering = mastering_takes n.mastering (first_message n core from Main);
}

-- the instance to which a bucket was sent, or else another one
abbrev pub sent_or : Option ℕ → ℕ → ℕ
sent_or None other = other
sent_or (Some to) other = to

-- to whom a message on a block goes that isn't mastered: to whom its bucket was sent, or else to whom the table names
abbrev pub next_master : Inst → Core → ℕ → ℕ
next_master n core block =
    sent_or (slice_index_or n.mastering.sent.by_bucket (block % 16) None) (master_of core.net.masters block)

-- the shared part after an instance sent messages in their order
abbrev pub sends_all : Inst → Core → List (ℕ × Message) → Core
sends_all n core messages = fold (λ core it. sends n core it.0 it.1) core messages

-- what is sent as a message on a block is taken, if it is one to a master: what the directory sends, or the message itself
abbrev pub master_sends_at : Inst → Core → Message → Option ℕ → Core
master_sends_at n core message None = core
master_sends_at n core message (Some block) =
    if is_master n block then sends_all n core (directory_takes n.mastering.directory block message).sends
    else sends n core (next_master n core block) message

-- the shared part after a message was taken, if there is one
abbrev pub master_sends : Inst → Core → Option Message → Core
master_sends n core None = core
master_sends n core (Some message) = master_sends_at n core message (master_block message)

-- the shared part after a message to a master was taken
abbrev pub master_sent : Inst → Core → ℕ → Core
master_sent n core from = master_sends (hears n core from Main) (heard n core from Main) (first_message n core from Main)
