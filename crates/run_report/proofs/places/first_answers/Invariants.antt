use Rattle.std.proofs.Common.{◌≡◌, ℕ, nat_eq, take}
use Rattle.std.specs.HashMap.{get}
use Rattle.std.specs.List.{position_from}
use Rattle.run_report.specs.Answers.{answers}
use Rattle.run_report.proofs.places.first_answers.Given as goal

abbrev pub invariant-loop-at : goal.invariant-loop-at
invariant-loop-at l =
    (line : ℕ) → get nat_eq l.places line ≡ position_from (answers line) 0 (take l.at l.journal)
