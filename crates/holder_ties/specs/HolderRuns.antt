-- What an instance does with its own images of one block: runs of its own steps.
use Rattle.std.specs.Prelude.{◌≡◌}
use Rattle.block_protocol.specs.Block.{Block, Inst}
use Rattle.block_protocol.specs.Steps.{Step, asks, copy_comes_back, drops_copy, drops_past, evicts, installs_from_disk, installs_held, installs_shipped, invalidates, pleads, serves_copy, ship_comes_back, ships, takes_copy, takes_wish, tells_written, was_gone, write_comes_back, writes}

-- the steps that an instance makes with what it has of a block, or asks for, but for changes of it and uses
abbrev pub IsHolders : Inst → {before after : Block} → Step before after → Type 0
IsHolders me (asks block inst want quiet unserved ready) = inst ≡ me
IsHolders me (invalidates block holder hold rest takes image) = holder ≡ me
IsHolders me (was_gone block holder grant rest takes another) = holder ≡ me
IsHolders me (ships block asker granted holder grant hold ordered image forced) = holder ≡ me
IsHolders me (ship_comes_back block asker granted holder grant ordered none) = holder ≡ me
IsHolders me (serves_copy block inst holder grant hold ordered image forced) = holder ≡ me
IsHolders me (copy_comes_back block inst holder grant ordered none) = holder ≡ me
IsHolders me (takes_wish block holder grant rest takes) = holder ≡ me
IsHolders me (write_comes_back block holder grant rest takes none) = holder ≡ me
IsHolders me (takes_copy block inst version upto scn comes le) = inst ≡ me
IsHolders me (installs_shipped block asker granted version dirty scn comes le) = asker ≡ me
IsHolders me (installs_from_disk block asker granted scn comes le) = asker ≡ me
IsHolders me (installs_held block asker granted scn comes le) = asker ≡ me
IsHolders me (evicts block inst hold image clean quiet unserved) = inst ≡ me
IsHolders me (writes block inst hold image dirty forced) = inst ≡ me
IsHolders me (pleads block version made) = Unit {0}
IsHolders me (tells_written block inst hold image clean) = inst ≡ me
IsHolders me (drops_past block inst version rest takes) = inst ≡ me
IsHolders me (drops_copy block inst copy rest takes) = inst ≡ me
IsHolders me _ = ⊥

-- a run of these
pub data HolderRun (me : Inst) : Block → Block → Type 0 where
  stays : (block : Block) → HolderRun me block block
  goes : {before between after : Block} (step : Step before between) → IsHolders me step → HolderRun me between after → HolderRun me before after
