use Rattle.std.proofs.Common.{◌≡◌, nat_eq, true, take}
use Rattle.std.specs.HashMap.{get}
use Rattle.std.specs.List.{list_all}
use Rattle.run_report.specs.Found.{is_settled, kept}
use Rattle.run_report.proofs.waves.first_open.Given as goal

abbrev pub invariant-loop-at : goal.invariant-loop-at
invariant-loop-at l =
    list_all (is_settled (get nat_eq l.known.places.now) l.known.at (kept l.known.ends.now) l.wave) (take l.at l.lines) ≡ true
