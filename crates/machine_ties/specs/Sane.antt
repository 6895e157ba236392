-- What the messages under way name: instances that there are, modes in which images are held, and versions that were made.
use Rattle.std.specs.Prelude.{◌≡◌, ℕ, ◌<◌, ◌≤◌, is_some, List, true}
use Rattle.std.specs.List.{AllByRecursion}
use Rattle.wire_net.specs.declared.message.Message.{Message}
use Rattle.wire_net.specs.declared.message.Message.TheVariants as messages
use Rattle.wire_net.specs.declared.message.Packet.{Packet}
use Rattle.wire_net.specs.declared.message.Unfound.{Unfound}
use Rattle.wire_net.specs.declared.message.Unfound.TheVariants as unfound
use Rattle.wire_net.specs.declared.message.Waiting.{Waiting}
use Rattle.wire_net.specs.declared.message.Waiting.TheVariants as waiting
use Rattle.wire_net.specs.declared.message.Lane.TheVariants.{Undo}
use Rattle.wire_net.specs.Links.{lane_for, waiting_on}
use Rattle.protocol_ties.specs.Messages.{want_of}
use Rattle.protocol_ties.specs.Numbered.{IsPastNumbered}
use Rattle.holder_ties.specs.Holders.{is_held}

-- What a message names is there: instances below eight, modes in which an image may be held, and no version that wasn't made.
abbrev pub IsSaneUnfound : (ℕ → ℕ) → Unfound → Type 0
IsSaneUnfound made (unfound.CopyTo b g reader) = reader < 8
IsSaneUnfound made (unfound.ShareTo b g new asker) = asker < 8
IsSaneUnfound made (unfound.ShipTo b g new asker) = asker < 8
IsSaneUnfound made (unfound.WritePlease b g version holder) = (holder < 8) × (version ≤ made b)

abbrev pub IsSane : (ℕ → ℕ) → Message → Type 0
IsSane made (messages.Ask b mode held asker) = (asker < 8) × (is_some (want_of mode held) ≡ true)
IsSane made (messages.CopyTo b g reader) = reader < 8
IsSane made (messages.ShareTo b g new asker) = asker < 8
IsSane made (messages.ShipTo b g new asker) = asker < 8
IsSane made (messages.Grant b g mode from_disk) = is_held mode ≡ true
IsSane made (messages.Shipped shipment) = IsPastNumbered shipment.past × (shipment.image.front.number ≡ shipment.block)
IsSane made (messages.Done b g mode past) = IsPastNumbered past
IsSane made (messages.Back unfound) = IsSaneUnfound made unfound
IsSane made (messages.WritePlease b version holder g) = (holder < 8) × (version ≤ made b)
IsSane made _ = Unit {0}

-- So is what waits at a master.
abbrev pub IsSaneWaiting : (ℕ → ℕ) → Waiting → Type 0
IsSaneWaiting made (waiting.Ask b mode held asker) = asker < 8
IsSaneWaiting made (waiting.WritePlease b version holder) = (holder < 8) × (version ≤ made b)

abbrev pub AreSane : (ℕ → ℕ) → List (ℕ × Message) → Type 0
AreSane made sends = AllByRecursion (λ sent. IsSane made sent.1) sends

abbrev pub AreSaneWaiting : (ℕ → ℕ) → List Waiting → Type 0
AreSaneWaiting made queue = AllByRecursion (IsSaneWaiting made) queue

-- Each packet that waits on a link is sane.
abbrev pub IsSaneLink : (ℕ → ℕ) → List Packet → Type 0
IsSaneLink made packets = AllByRecursion (λ (packet : Packet). IsSane made packet.message) packets

-- On the lane of undo waits nothing else.
abbrev pub IsUndo : Packet → Type 0
IsUndo packet = lane_for packet.message ≡ Undo

-- Each packet on all links is sane, and each on the lane of undo is undo.
pub record AreSaneLinks (made : ℕ → ℕ) (links : List (List Packet)) : Type 0 where
  pub messages : AllByRecursion (IsSaneLink made) links
  pub undo : (from to : ℕ) → to < 8 → AllByRecursion IsUndo (waiting_on links from to Undo)
