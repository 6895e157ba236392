use Rattle.std.proofs.Common.{◌≡◌, ◌<◌, ℕ, Bool, false, not, nat_eq, take, reverse}
use Rattle.std.specs.HashMap.{get}
use Rattle.std.specs.List.{slice_index_or}
use Rattle.journal.specs.Past.{is_up}
use Rattle.run_report.specs.Ends.{answers_any, ended_in}
use Rattle.run_report.specs.Found.{AreSettled, is_settled, kept}
use Rattle.run_report.proofs.losses.find_ends.Given as goal

abbrev pub invariant-loop-at : goal.invariant-loop-at
invariant-loop-at l = record {
  ends_found : (wave : ℕ) (down : Bool) (inst : ℕ) → kept l.ends wave down inst ≡ ended_in (answers_any (reverse l.journal)) l.waves (reverse (take l.at l.journal)) wave down inst;
  downs_known : (i : ℕ) → i < 256 → slice_index_or l.down i false ≡ not (is_up i (reverse (take l.at l.journal)));
  lines_settled : AreSettled (is_settled (get nat_eq l.places) l.at (kept l.ends)) l.waves l.cursor.wave l.cursor.line;
}
