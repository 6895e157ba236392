-- What the program does.
use Rattle.std.specs.Prelude.{◌≡◌, ◌⊎◌, ℕ, List, [], Option, None, Some, IsSome}
use Rattle.rac_disk.specs.State.{State}
use Rattle.cli_words.specs.declared.order.Order.{Order}
use Rattle.cli_words.specs.declared.order.Order.TheVariants.{Run, Load, Audit}
use Rattle.rac_top.specs.declared.exit.End.TheVariants.{WrongWords, NoMemory}
use Rattle.rac_top.specs.declared.exit.Exit.{Exit}
use Rattle.rac_top.specs.Audits.{Audits}
use Rattle.rac_top.specs.Calls.{ByOrder}
use Rattle.rac_top.specs.Runs.{Runs}

-- the folder that an order names
abbrev pub folder_in : Option Order → Option (List ℕ)
folder_in (Some (Run options folder)) = folder
folder_in (Some (Load seed rounds folder)) = folder
folder_in (Some (Audit folder)) = Some folder
folder_in None = None

-- Memory ran out before there was a disk: nothing was read, run or written.
abbrev pub RanOut : Exit → Type 0 → Type 0 → Type 0
RanOut exit SourceStays SinkStays = (exit.end ≡ NoMemory) × (exit.journal ≡ []) × (exit.book ≡ []) × SourceStays × SinkStays

-- The program ran or audited, as its words ask, over a disk that tells what it holds and had counted no failed call
-- as it was opened; or its words were wrong; or memory ran out.
pub record Does (order : Option Order) (left left_now : Option (List ℕ)) (read read_now : ℕ)
    (held held_now : Option (List ℕ)) (wrote wrote_now stalled stalled_now : ℕ) (exit : Exit) : Type 0 where
  pub disk : State
  pub disk_now : State
  pub tells : IsSome disk.told
  pub new : (disk.faults ≡ 0) × (disk.full ≡ 0)
  pub does : ByOrder order
      (λ options. Runs options left left_now read read_now held held_now wrote wrote_now stalled stalled_now disk disk_now exit)
      (Audits held held_now wrote wrote_now stalled stalled_now disk disk_now exit)
      ((exit.end ≡ WrongWords) ⊎ (exit.end ≡ NoMemory))
