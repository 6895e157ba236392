-- What waits on the links.
use Rattle.std.specs.Prelude.{ℕ, ◌+◌, ◌*◌, ◌==◌, nat_le, Bool, if◌then◌else◌, List, [], ◌∷◌, ◌++◌, Option, drop, length, replicate, slice_get, slice_index_or, slice_set}
use Rattle.std.specs.List.{list_all}
use Rattle.wire_net.specs.declared.message.Message.{Message}
use Rattle.wire_net.specs.declared.message.Message.TheVariants.{NeedUndo, UndoIs}
use Rattle.wire_net.specs.declared.message.Lane.{Lane}
use Rattle.wire_net.specs.declared.message.Lane.TheVariants.{Main, Undo}
use Rattle.wire_net.specs.declared.message.Packet.{Packet}

-- the lane of a message
abbrev pub lane_for : Message → Lane
lane_for (NeedUndo block job) = Undo
lane_for (UndoIs image job) = Undo
lane_for _ = Main

-- the number of a lane
abbrev pub lane_no : Lane → ℕ
lane_no Main = 0
lane_no Undo = 1

-- the place of a link, 128 or more where there is none
abbrev pub place_of : ℕ → ℕ → Lane → ℕ
place_of from to lane = if nat_le 8 to then 128 else (8 * from + to) * 2 + lane_no lane

-- the packets that wait on a link
abbrev pub waiting_on : List (List Packet) → ℕ → ℕ → Lane → List Packet
waiting_on links from to lane = slice_index_or links (place_of from to lane) []

-- the packet that is first on a link
abbrev pub first_on : List (List Packet) → ℕ → ℕ → Lane → Option Packet
first_on links from to lane = slice_get (waiting_on links from to lane) 0

-- the links with other packets on one of them
abbrev pub with_waiting : List (List Packet) → ℕ → ℕ → Lane → List Packet → List (List Packet)
with_waiting links from to lane packets = slice_set links (place_of from to lane) packets

-- the links after a packet was sent
abbrev pub sent : List (List Packet) → ℕ → ℕ → Packet → List (List Packet)
sent links from to packet =
    let lane = lane_for packet.message in with_waiting links from to lane (waiting_on links from to lane ++ packet ∷ [])

-- the links after the packet that was first on one of them was taken
abbrev pub taken : List (List Packet) → ℕ → ℕ → Lane → List (List Packet)
taken links from to lane = with_waiting links from to lane (drop 1 (waiting_on links from to lane))

-- links without packets
abbrev pub no_packets : List (List Packet)
no_packets = replicate 128 []

-- whether no packet waits on any link
abbrev pub are_empty : List (List Packet) → Bool
are_empty links = list_all (λ packets. length packets == 0) links
