-- What a new disk holds is a disk.
use Rattle.std.proofs.Common.{◌≡◌, ◌≤◌, ℕ, length, arith}
use Rattle.std.proofs.lemmas.List.{length-replicate}
use Rattle.std.proofs.lemmas.List.Elements.{All-replicate}
use Rattle.rac_disk.specs.Content.{IsDisk}
use Rattle.rac_disk.specs.Memory.{new_content, empty_log, zero_block, zero_entry}

pub length-zero_block : length zero_block ≡ 512
unfolding zero_block
length-zero_block = length-replicate {A = ℕ} 512 0

pub length-zero_entry : length zero_entry ≡ 32
unfolding zero_entry
length-zero_entry = length-replicate {A = ℕ} 32 0

pub new_content-IsDisk : (room : ℕ) → IsDisk (new_content room)
new_content-IsDisk room = record {
  blocks = length-replicate 200 zero_block;
  block_sizes = All-replicate (λ block. length block ≡ 512) 200 zero_block length-zero_block;
  logs = length-replicate 8 (empty_log room);
  log_rooms = All-replicate (λ log. length log.bytes ≤ log.room) 8 (empty_log room) (omega arith);
  controls = length-replicate 8 zero_entry;
  control_sizes = All-replicate (λ entry. length entry ≡ 32) 8 zero_entry length-zero_entry;
}
