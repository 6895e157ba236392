use Rattle.std.proofs.Common.{rules, arith, ◌≡◌, ◌-◌, ℕ, List, length, take, Option, IfSome, subst, sym}
use Rattle.std.proofs.lemmas.Grind.{common_steps}
use Rattle.rac_disk.specs.Content.{log_at}
use Rattle.file_disk.proofs.LogLemmas.{more_read}
use Rattle.file_disk.proofs.opening.read_log.Goals as goal

pub loop-left-preserved : goal.loop-left-preserved
loop-left-preserved g c =
    let thread : ℕ = c.args.thread in
    let holds : Option (List ℕ) = g.F.DiskFile.holds c.args.file.now in
    let less : c.loop-left.left - c.in_ok-count.count ≡ c.saturating_sub-left.result = sym c.saturating_sub-left.ensures in
    let more = more_read holds (g.F.DiskFile.holds c.loop-left.file) c.in_ok-len.len c.loop-left.left c.in_ok-count.count (log_at c.loop-left.content thread) (log_at c.read_piece.new.content thread) c.loop-left.invariant.holds c.loop-left.invariant.left c.loop-left.invariant.read c.in_ok-count.ensures.count c.in_ok-count.ensures.piece in
    record {
      left = grind (arith, common_steps);
      read = subst (λ (left : ℕ). IfSome holds (λ bytes. (c.in_ok-len.len ≡ length bytes) × (log_at c.read_piece.new.content thread ≡ take (c.in_ok-len.len - left) bytes))) less more;
      other_logs = grind (arith, common_steps);
      others = search rules;
      holds = search rules;
      is_disk = search rules;
    }
