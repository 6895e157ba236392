-- What a master does with one block: runs of its own steps, which leave the rest alone.
use Rattle.std.specs.Prelude.{◌≡◌, max}
use Rattle.block_protocol.specs.Block.{Inst, Scn, Block, put}
use Rattle.block_protocol.specs.Steps.{Step, arrives, steps_back, sends_copy, orders, gives_shared, begins_to_clear, gives, asks_to_write, ends, hears_gone, hears_back_write, hears_gave_up, ends_before_done, drops_stale, asks_copy_again, asks_ship_again, hears_written, hears_plea, passes_plea, lets_drop, pleads, forwards_request, forwards_note, forwards_ship, sends_entry, takes_entry}

-- the steps that a block's master makes, who passes a message on to it, and who hands the entry over
abbrev pub IsMasters : {before after : Block} → Step before after → Type 0
IsMasters (arrives block inst want scn asks le) = Unit {0}
IsMasters (steps_back block inst want idle waits not_upgrade) = Unit {0}
IsMasters (sends_copy block inst holder grant idle waits lists) = Unit {0}
IsMasters (orders block inst want holder grant idle waits back lists other) = Unit {0}
IsMasters (gives_shared block inst idle waits nobody) = Unit {0}
IsMasters (begins_to_clear block inst want sent idle waits mode back shared invalidates) = Unit {0}
IsMasters (gives block inst want clears nobody) = Unit {0}
IsMasters (asks_to_write block holder grant idle lists) = Unit {0}
IsMasters (ends block asker granted done) = Unit {0}
IsMasters (hears_gone block grant scn rest takes le) = Unit {0}
IsMasters (hears_back_write block grant scn rest takes le) = Unit {0}
IsMasters (hears_gave_up block grant scn rest takes le other) = Unit {0}
IsMasters (ends_before_done block asker granted carrier scn rest grants takes le) = Unit {0}
IsMasters (drops_stale block grant rest takes) = Unit {0}
IsMasters (asks_copy_again block inst grant scn back le) = Unit {0}
IsMasters (asks_ship_again block asker granted grant scn back le) = Unit {0}
IsMasters (hears_written block version rest takes) = Unit {0}
IsMasters (hears_plea block version rest takes idle shared) = Unit {0}
IsMasters (passes_plea block version rest takes) = Unit {0}
IsMasters (lets_drop block inst version le) = Unit {0}
IsMasters (pleads block version le) = Unit {0}
IsMasters (forwards_request block inst clock) = Unit {0}
IsMasters (forwards_note block clock note rest takes) = Unit {0}
IsMasters (forwards_ship block clock asker granted grant scn back) = Unit {0}
IsMasters (sends_entry block inst at) = Unit {0}
IsMasters (takes_entry block inst scn moves le) = Unit {0}
IsMasters _ = ⊥

-- a run of these
pub data MasterRun : Block → Block → Type 0 where
  stays : (block : Block) → MasterRun block block
  goes : {before between after : Block} (step : Step before between) → IsMasters step → MasterRun between after → MasterRun before after

-- but for the entry, the requests and what is under way all is as before: the images, the clocks, the records, the disk
abbrev pub LeavesRest : Block → Block → Type 0
LeavesRest before after = after ≡ record before {
  lists = after.lists;
  next = after.next;
  op = after.op;
  written = after.written;
  request = after.request;
  notes = after.notes;
  memos = after.memos;
}

-- a packet with a clock has come to an instance, whose clock has risen to it
abbrev pub raised : Inst → Scn → Block → Block
raised inst scn block = record block { clock = put block.clock inst (max (block.clock inst) scn) }
