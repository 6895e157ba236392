-- Who is named is one of the instances.
use Rattle.std.specs.Prelude.{ℕ, ◌<◌, List, Option, None, Some}
use Rattle.std.specs.List.{AllByRecursion}
use Rattle.wire_net.specs.declared.message.Unfound.{Unfound}
use Rattle.wire_net.specs.declared.message.Unfound.TheVariants as unfound
use Rattle.wire_net.specs.declared.message.Waiting.{Waiting}
use Rattle.wire_net.specs.declared.message.Waiting.TheVariants as waiting
use Rattle.wire_net.specs.declared.message.Message.{Message}
use Rattle.wire_net.specs.declared.message.Message.TheVariants as messages
use Rattle.wire_net.specs.declared.entry.Holder.{Holder}
use Rattle.wire_net.specs.declared.entry.PastHolder.{PastHolder}
use Rattle.wire_net.specs.declared.entry.Operation.{Operation}
use Rattle.wire_net.specs.declared.entry.Entry.{Entry}
use Rattle.protocol_ties.specs.Messages.{instances}

-- the exclusive holder is
abbrev pub IsHolderNumbered : Option Holder → Type 0
IsHolderNumbered None = Unit {0}
IsHolderNumbered (Some holder) = holder.inst < instances

-- the asker of the operation is
abbrev pub IsAskerNumbered : Option Operation → Type 0
IsAskerNumbered None = Unit {0}
IsAskerNumbered (Some op) = op.asker < instances

-- whoever waits is
abbrev pub IsWaitingNumbered : Waiting → Type 0
IsWaitingNumbered (waiting.Ask block mode held asker) = asker < instances
IsWaitingNumbered (waiting.WritePlease block version holder) = holder < instances

-- whoever an entry names is, but for sharers and keepers of past images, who stand in tables of eight
abbrev pub IsNumbered : Entry → Type 0
IsNumbered entry = IsHolderNumbered entry.x × IsAskerNumbered entry.op × AllByRecursion IsWaitingNumbered entry.queue

-- who keeps a past image is
abbrev pub IsPastNumbered : Option PastHolder → Type 0
IsPastNumbered None = Unit {0}
IsPastNumbered (Some past) = past.inst < instances

-- whoever a message that came back names is
abbrev pub IsUnfoundNumbered : Unfound → Type 0
IsUnfoundNumbered (unfound.CopyTo block grant reader) = reader < instances
IsUnfoundNumbered (unfound.ShareTo block grant new_grant asker) = asker < instances
IsUnfoundNumbered (unfound.ShipTo block grant new_grant asker) = asker < instances
IsUnfoundNumbered (unfound.WritePlease block grant version holder) = holder < instances

-- whoever a message to a master names is
abbrev pub IsMessageNumbered : Message → Type 0
IsMessageNumbered (messages.Ask block mode held asker) = asker < instances
IsMessageNumbered (messages.Done block grant mode past) = IsPastNumbered past
IsMessageNumbered (messages.Back unfound) = IsUnfoundNumbered unfound
IsMessageNumbered (messages.WritePlease block version holder grant) = holder < instances
IsMessageNumbered _ = Unit {0}

-- each message goes to one of them
abbrev pub AreReached : List (ℕ × Message) → Type 0
AreReached sends = AllByRecursion (λ told. told.0 < instances) sends
