-- What a master does with what it hears of past images and of writes.
use Rattle.std.specs.Prelude.{ℕ, nat_le, nat_lt, ◌&&◌, if◌then◌else◌, Bool, false, List, [], ◌∷◌, flat_map, max, Option, None, Some}
use Rattle.wire_net.specs.declared.message.Message.{Message}
use Rattle.wire_net.specs.declared.message.Message.TheVariants.{DropPast, WritePlease}
use Rattle.wire_net.specs.declared.message.Waiting.TheVariants as waiting
use Rattle.wire_net.specs.declared.entry.Holder.{Holder}
use Rattle.wire_net.specs.declared.entry.PastHolder.{PastHolder}
use Rattle.wire_net.specs.declared.entry.PastVersions.{PastVersions}
use Rattle.wire_net.specs.declared.entry.Entry.{Entry}
use Rattle.inst_set.specs.Sets.{all_insts}
use Rattle.wire_net.specs.Entry.{version_of, versions_above, with_version}
use Rattle.resource_dir.specs.Taken.{Taken, silent, telling, and_then, where_busy, queued}

-- whether a version is there and is above another one
abbrev pub is_newer : Option ℕ → ℕ → Bool
is_newer None other = false
is_newer (Some version) other = nat_lt other version

-- whether a past image isn't known to be written, and its instance is known to keep a newer one
abbrev pub is_superseded : PastHolder → Entry → Bool
is_superseded kept entry = nat_lt entry.written kept.version && is_newer (version_of entry.past kept.inst) kept.version

-- a past image is known to be kept, in the place of one of the same instance; one that was written may go at once
abbrev pub keep : ℕ → PastHolder → Entry → Taken
keep block kept entry = if nat_le kept.version entry.written
    then telling entry kept.inst (DropPast block kept.version)
    else silent (record entry { past = with_version entry.past kept.inst (Some kept.version) })

-- the same, but nothing is to be done with one that is superseded
abbrev pub keep_newer : ℕ → PastHolder → Entry → Taken
keep_newer block kept entry = if is_superseded kept entry then silent entry else keep block kept entry

-- a past image of a Done, if there is one
abbrev pub keep_any : ℕ → Option PastHolder → Entry → Taken
keep_any block None entry = silent entry
keep_any block (Some kept) entry = keep block kept entry

-- a past image of a Done that is no operation's, if there is one
abbrev pub keep_any_newer : ℕ → Option PastHolder → Entry → Taken
keep_any_newer block None entry = silent entry
keep_any_newer block (Some kept) entry = keep_newer block kept entry

-- a DropPast to an instance, if its past image is at most at a version
abbrev pub drops_to : ℕ → ℕ → Option ℕ → ℕ → List (ℕ × Message)
drops_to block limit None inst = []
drops_to block limit (Some version) inst = if nat_le version limit then (inst, DropPast block version) ∷ [] else []

-- a DropPast for each past image that is at most at a version
abbrev pub drops : ℕ → ℕ → PastVersions → List (ℕ × Message)
drops block limit past = flat_map (λ inst. drops_to block limit (version_of past inst) inst) all_insts

-- the block was written at a version: past images up to it may go
abbrev pub wrote : ℕ → ℕ → Entry → Taken
wrote block version entry = record {
  entry = record entry { written = max entry.written version; past = versions_above entry.past version };
  sends = drops block version entry.past;
}

-- A past image's holder wants the block written: the exclusive holder is asked to. Without one the disk has the newest
-- version.
abbrev pub plead : Option Holder → ℕ → ℕ → ℕ → Entry → Taken
plead (Some x) block version holder entry = telling entry x.inst (WritePlease block version holder (Some x.grant))
plead None block version holder entry =
    and_then (wrote block version entry) (λ after. telling after holder (DropPast block version))

-- the same, no operation being under way; where that version was written, the past image may go
abbrev pub answer_plea : ℕ → ℕ → ℕ → Entry → Taken
answer_plea block version holder entry = if nat_le version entry.written
    then telling entry holder (DropPast block version)
    else plead entry.x block version holder entry

-- a past image's holder wants the block written, and may have to wait for the end of the operation that is under way
abbrev pub write_please : ℕ → ℕ → ℕ → Entry → Taken
write_please block version holder entry = if nat_le version entry.written
    then telling entry holder (DropPast block version)
    else where_busy entry.op (queued entry (waiting.WritePlease block version holder)) (plead entry.x block version holder entry)
