-- What a disk over files is made of, and what it tells.
use Rattle.std.specs.Prelude.{List, Bool, Some}
use Rattle.rac_disk.specs.Content.{Content}
use Rattle.rac_disk.specs.State.{State}
use Rattle.file_disk.specs.declared.file_disk.FileDisk.{FileDisk}

-- the file of its blocks
abbrev pub blocks_file : {F : Type 0} → FileDisk F → F
blocks_file it = it.blocks

-- the file of its control entries
abbrev pub control_file : {F : Type 0} → FileDisk F → F
control_file it = it.control

-- the files of its logs, at the place of their thread
abbrev pub log_files : {F : Type 0} → FileDisk F → List F
log_files it = it.logs.items

-- what it keeps beside its files
abbrev pub kept_of : {F : Type 0} → FileDisk F → Content
kept_of it = it.kept

-- whether its files were read whole as it was opened
abbrev pub is_read_whole : {F : Type 0} → FileDisk F → Bool
is_read_whole it = it.is_read

-- it tells what it keeps
abbrev pub state_of : {F : Type 0} → FileDisk F → State
state_of it = record { told = Some it.kept; faults = it.faults; full = it.full }
