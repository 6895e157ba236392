-- A small world of links, caches and a master, as a pattern for the real one: what it shows at a block is a state of the
-- protocol, and what it does there is a run.
use Rattle.std.specs.Prelude.{ℕ, ◌≡◌, ◌≢◌, ◌==◌, if◌then◌else◌, Bool, false, max, List, [], ◌∷◌, ◌++◌, Option, Some, None}
use Rattle.block_protocol.specs.Block.{Hold, Want, At, Block, put}
use Rattle.block_protocol.specs.Entry.{Entry, listed, IsAlone, taken_out}
use Rattle.block_protocol.specs.Wire.{Wire, Ask, ShippedWire, DoneWire, InvalidateWire, GoneWire, of_waiting, gather, flights, Same}

-- a small world: links, each first in first out, and caches
pub record Packet : Type 0 where
  pub block : ℕ
  pub wire : Wire

pub record World : Type 0 where
  pub links : List (List Packet)
  pub cache : ℕ → List (ℕ × Hold)
  pub clock : ℕ → ℕ
  pub master : ℕ
  pub queue : ℕ → List (ℕ × Want)  -- by block
  pub entry : ℕ → Entry

abbrev pub wires : ℕ → List Packet → List Wire
wires b [] = []
wires b (p ∷ packets) = if b == p.block then p.wire ∷ wires b packets else wires b packets

abbrev pub all_wires : ℕ → List (List Packet) → List Wire
all_wires b [] = []
all_wires b (link ∷ links) = wires b link ++ all_wires b links

-- one link is another
pub data Changes : List (List Packet) → List Packet → List Packet → List (List Packet) → Type 0 where
  this : (old new : List Packet) (links : List (List Packet)) → Changes (old ∷ links) old new (new ∷ links)
  that : (link old new : List Packet) (links after : List (List Packet)) → Changes links old new after → Changes (link ∷ links) old new (link ∷ after)

abbrev pub find : ℕ → List (ℕ × Hold) → Option Hold
find b [] = None
find b (x ∷ cache) = if b == x.0 then Some x.1 else find b cache

abbrev pub removed : ℕ → List (ℕ × Hold) → List (ℕ × Hold)
removed b [] = []
removed b (x ∷ cache) = if b == x.0 then removed b cache else x ∷ removed b cache

abbrev pub bears : ℕ → Option Hold → Bool
bears g None = false
bears g (Some h) = g == h.grant

-- an Invalidate is first on a link to h: an image of its grant is dropped, and Gone goes out last on another link
pub record Invalidates (b h g : ℕ) (w after : World) : Type 0 where
  pub rest : List Packet
  pub between : List (List Packet)
  pub out : List Packet
  pub takes : Changes w.links (record { block = b; wire = InvalidateWire h g } ∷ rest) rest between
  pub sends : Changes between out (out ++ record { block = b; wire = GoneWire g (w.clock h) } ∷ []) after.links
  pub cache : (i : ℕ) → after.cache i ≡ (if (h == i) then (if bears g (find b (w.cache h)) then removed b (w.cache h) else w.cache h) else w.cache i)
  pub clock : (i : ℕ) → after.clock i ≡ w.clock i
  pub master : after.master ≡ w.master
  pub queue : (c : ℕ) → after.queue c ≡ w.queue c
  pub entry : (c : ℕ) → after.entry c ≡ w.entry c

-- an Ask is first on a link to the master, who raises its clock and puts the Ask last into its queue
pub record Queues (b i : ℕ) (want : Want) (scn : ℕ) (w after : World) : Type 0 where
  pub rest : List Packet
  pub takes : Changes w.links (record { block = b; wire = Ask i want scn } ∷ rest) rest after.links
  pub cache : (j : ℕ) → after.cache j ≡ w.cache j
  pub clock : (j : ℕ) → after.clock j ≡ put w.clock w.master (max (w.clock w.master) scn) j
  pub master : after.master ≡ w.master
  pub queue : after.queue b ≡ w.queue b ++ (i, want) ∷ []
  pub others : (c : ℕ) → c ≢ b → after.queue c ≡ w.queue c
  pub entry : (c : ℕ) → after.entry c ≡ w.entry c

-- a Gone is first on a link to the master, who raises its clock and takes the holder out
pub record HearsGone (b g scn : ℕ) (w after : World) : Type 0 where
  pub rest : List Packet
  pub takes : Changes w.links (record { block = b; wire = GoneWire g scn } ∷ rest) rest after.links
  pub cache : (j : ℕ) → after.cache j ≡ w.cache j
  pub clock : (j : ℕ) → after.clock j ≡ put w.clock w.master (max (w.clock w.master) scn) j
  pub master : after.master ≡ w.master
  pub queue : (c : ℕ) → after.queue c ≡ w.queue c
  pub entry : after.entry b ≡ taken_out g (w.entry b)

-- an image is first on a link to its asker, who raises its clock and installs it; Done goes out last on another link
pub record InstallsShipped (b a : ℕ) (k : Hold) (v : ℕ) (d : Bool) (scn : ℕ) (w after : World) : Type 0 where
  pub rest : List Packet
  pub between : List (List Packet)
  pub out : List Packet
  pub takes : Changes w.links (record { block = b; wire = ShippedWire a k v d scn } ∷ rest) rest between
  pub sends : Changes between out (out ++ record { block = b; wire = DoneWire k.grant } ∷ []) after.links
  pub cache : (j : ℕ) → after.cache j ≡ (if a == j then (b, k) ∷ w.cache a else w.cache j)
  pub clock : (j : ℕ) → after.clock j ≡ put w.clock a (max (w.clock a) scn) j
  pub master : after.master ≡ w.master
  pub queue : (c : ℕ) → after.queue c ≡ w.queue c
  pub entry : (c : ℕ) → after.entry c ≡ w.entry c

-- a state of the world, seen at block b of n instances, is this state of the protocol
pub record Shows (b n : ℕ) (w : World) (s : Block) : Type 0 where
  pub frames : (i : ℕ) → s.frame i ≡ find b (w.cache i)
  pub clocks : (i : ℕ) → s.clock i ≡ w.clock i
  pub place : s.place ≡ At w.master
  pub messages : Same (all_wires b w.links) (flights n s)
  pub queue : Same (w.queue b) (gather of_waiting n s.request)
  pub lists : (i : ℕ) → s.lists i ≡ listed (w.entry b) i
  pub alone : IsAlone (w.entry b).x (w.entry b).shared
