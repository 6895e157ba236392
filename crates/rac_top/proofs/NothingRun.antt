-- What a call promises where memory ran out before anything was done.
use Rattle.std.proofs.Common.{◌≡◌, ◌⊎◌, ℕ, List, [], Bool, true, false, Option, None, Some, inr, refl, rules}
use Rattle.rac_disk.specs.State.{State}
use Rattle.cli_words.specs.declared.order.Order.{Order}
use Rattle.cli_words.specs.declared.order.Order.TheVariants.{Run, Load, Audit}
use Rattle.cli_words.specs.declared.order.RunOptions.{RunOptions}
use Rattle.rac_top.specs.declared.exit.End.TheVariants.{NoMemory, WrongWords}
use Rattle.rac_top.specs.declared.exit.Exit.{Exit}
use Rattle.rac_top.specs.Audits.{Audits}
use Rattle.rac_top.specs.Calls.{ByOrder}
use Rattle.rac_top.specs.Runs.{Runs}

-- how a call ends that had no memory to begin
abbrev pub out_of_memory : Exit
out_of_memory = record { end = NoMemory; journal = []; book = [] }

nothing-run : (options : RunOptions) (left : Option (List ℕ)) (read : ℕ) (held : Option (List ℕ)) (wrote stalled : ℕ) (disk : State)
    → Runs options left left read read held held wrote wrote stalled stalled disk disk out_of_memory
nothing-run options left read held wrote stalled disk = search rules

nothing-audited : (held : Option (List ℕ)) (wrote stalled : ℕ) (disk : State) → Audits held held wrote wrote stalled stalled disk disk out_of_memory
nothing-audited held wrote stalled disk = search rules

pub nothing-done : (order : Option Order) (left : Option (List ℕ)) (read : ℕ) (held : Option (List ℕ)) (wrote stalled : ℕ) (disk : State)
    → ByOrder order (λ options. Runs options left left read read held held wrote wrote stalled stalled disk disk out_of_memory)
    (Audits held held wrote wrote stalled stalled disk disk out_of_memory) ((out_of_memory.end ≡ WrongWords) ⊎ (out_of_memory.end ≡ NoMemory))
nothing-done None left read held wrote stalled disk = inr refl
nothing-done (Some (Run options folder)) left read held wrote stalled disk = nothing-run options left read held wrote stalled disk
nothing-done (Some (Load seed rounds folder)) left read held wrote stalled disk = inr refl
nothing-done (Some (Audit folder)) left read held wrote stalled disk = nothing-audited held wrote stalled disk
