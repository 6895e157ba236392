-- The machine plays the protocol of each block.
use Rattle.std.specs.Prelude.{◌≡◌, ℕ, ◌+◌, ◌-◌, ◌*◌, ◌^◌, ◌<◌, ◌≤◌, List, [], length, Option, None, Some, slice_get, slice_index_or, true, false}
use Rattle.base_types.specs.declared.names.BlockNo.{BlockNo}
use Rattle.block_image.specs.Block.{BlockContent, block_bytes}
use Rattle.rac_disk.specs.Content.{Content, block_at}
use Rattle.wire_net.specs.declared.entry.Entry.{Entry}
use Rattle.wire_net.specs.declared.masters.Masters.{Masters}
use Rattle.wire_net.specs.declared.message.Packet.{Packet}
use Rattle.wire_net.specs.Masters.{master_of}
use Rattle.resource_dir.specs.Directory.{entry_of}
use Rattle.buffer_cache.specs.declared.place.Current.{Current}
use Rattle.buffer_cache.specs.Cache.{CacheState, place_at}
use Rattle.redo_thread.specs.Thread.{end_of}
use Rattle.inst_state.specs.declared.inst.Inst.{Inst}
use Rattle.inst_state.specs.declared.inst.Life.TheVariants.{Up}
use Rattle.inst_state.specs.State.{newest_at}
use Rattle.image_steps.specs.MasterTake.{is_master}
use Rattle.block_protocol.specs.AllBlocks.{AllBlocks, RunOfAll, first_of_all, view}
use Rattle.block_protocol.specs.Block.{At}
use Rattle.block_protocol.specs.Members.{Running}
use Rattle.block_protocol.specs.Steps.{IsForced}
use Rattle.protocol_ties.specs.Bags.{AreLinks}
use Rattle.protocol_ties.specs.Directories.{IsSized}
use Rattle.holder_ties.specs.Beside.{IsEntryOf}
use Rattle.holder_ties.specs.Shown.{Holdings, IsShown}
use Rattle.machine_ties.specs.InstPlaces.{place_in}
use Rattle.machine_ties.specs.Sane.{AreSaneLinks, AreSaneWaiting}

-- the clock of the instance with a number
abbrev pub clock_of : Option Inst → ℕ
clock_of None = 0
clock_of (Some n) = n.clock.scn

abbrev pub clock_in : List Inst → ℕ → ℕ
clock_in insts i = clock_of (slice_get insts i)

-- An instance's own redo on a block is on the disk.
abbrev pub IsDurableOf : Option Inst → ℕ → Type 0
IsDurableOf None block = Unit {0}
IsDurableOf (Some n) block = newest_at n block ≤ n.thread.durable

abbrev pub IsDurableIn : List Inst → ℕ → ℕ → Type 0
IsDurableIn insts block i = IsDurableOf (slice_get insts i) block

-- Each current image in a cache is of the block at whose place it stands.
abbrev pub AreOfBlocks : CacheState → Type 0
AreOfBlocks cache = (c : ℕ) (now : Current) → (place_at cache c).current ≡ Some now → now.image.front.number ≡ c

-- An instance serves: it is up, isn't paused, leads no recovery, and has sent its buckets to instances that there are.
pub record Serves (count blocks i : ℕ) (n : Inst) : Type 0 where
  pub low : i < count
  pub me : n.plan.me ≡ i
  pub up : n.life ≡ Up
  pub paused : n.paused ≡ false
  pub leads : n.leading.leads ≡ false
  pub adopted : n.leading.adopted ≡ []
  pub sized : IsSized n.mastering.directory
  pub passes : (bucket to : ℕ) → slice_index_or n.mastering.sent.by_bucket bucket None ≡ Some to → to < 8
  pub cached : length n.cache.places ≡ blocks
  pub numbers : AreOfBlocks n.cache
  pub reached : (b : ℕ) → newest_at n b ≤ end_of n.thread

-- how many versions of each block were made
abbrev pub newest : AllBlocks → ℕ → ℕ
newest whole b = length (whole.blocks b).block.records

-- The disk has an image of a block at a version.
pub record IsOnDisk (disk : Content) (b : BlockNo) (version : ℕ) : Type 0 where
  pub image : BlockContent
  pub bytes : block_at disk b ≡ block_bytes image
  pub numbered : image.front.version ≡ version

-- A block is shown by the links, by what the instances and the disk have of it, and by its entry at its master.
pub record Follows (links : List (List Packet)) (insts : List Inst) (disk : Content) (whole : AllBlocks) (b : BlockNo) : Type 0 where
  pub entry : Entry
  pub h : Holdings
  pub shown : IsShown links h b entry (view whole b).block
  pub places : (i : ℕ) → h.places i ≡ place_in insts b i
  pub on_disk : IsOnDisk disk b h.disk
  pub master : ℕ
  pub seat : Inst
  pub there : slice_get insts master ≡ Some seat
  pub is_entry : entry_of seat.mastering.directory b ≡ Some entry
  pub at_master : (view whole b).block.place ≡ At master
  pub only : (i : ℕ) (n : Inst) → slice_get insts i ≡ Some n → is_master n b ≡ true → i ≡ master
  pub durable : (i : ℕ) → IsDurableIn insts b i → IsForced (view whole b).block i

-- An entry names instances that there are, and its next grant isn't above a bound.
pub record IsFine (made : ℕ → ℕ) (steps : ℕ) (b : BlockNo) (entry : Entry) : Type 0 where
  pub names : IsEntryOf b entry
  pub waits : AreSaneWaiting made entry.queue
  pub drawn : entry.next_grant ≤ 1 + 3 * steps

-- So few steps make no version and draw no grant that comes to the end of its numbers.
abbrev pub AreFew : ℕ → Type 0
AreFew steps = 1 + 3 * steps < 2 ^ 64 - 1

-- Instances, links, the table of masters and the disk play the protocol of so many blocks, after so many steps.
pub record Plays (count steps blocks : ℕ) (links : List (List Packet)) (masters : Masters) (insts : List Inst) (disk : Content) : Type 0 where
  pub whole : AllBlocks
  pub first_master : BlockNo → ℕ
  pub run : RunOfAll (first_of_all count first_master) whole
  pub phase : whole.members.phase ≡ Running
  pub live : (i : ℕ) → i < count → whole.members.live i ≡ true
  pub awake : whole.members.actual ≡ whole.clock
  pub few : count ≤ 8
  pub sized : AreLinks links
  pub each : (i : ℕ) (n : Inst) → slice_get insts i ≡ Some n → Serves count blocks i n
  pub named : (b : ℕ) → master_of masters b < 8
  pub clocks : (i : ℕ) → whole.clock i ≡ clock_in insts i
  pub sane : AreSaneLinks (newest whole) links
  pub made : (b : BlockNo) → newest whole b ≤ steps
  pub entries : (i : ℕ) (n : Inst) (b : BlockNo) (entry : Entry) → slice_get insts i ≡ Some n → entry_of n.mastering.directory b ≡ Some entry → IsFine (newest whole) steps b entry
  pub follows : (b : BlockNo) → b < blocks → Follows links insts disk whole b
