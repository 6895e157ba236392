use Rattle.std.proofs.Common.{◌∙◌, ◌==◌, ℕ, ap, filter}
use Rattle.log_history.specs.declared.changes.StandingChange.{StandingChange}
use Rattle.log_history.specs.declared.changes.Undone.{Undone}
use Rattle.log_history.proofs.StandingLemmas.{lines_are}
use Rattle.log_history.proofs.changes.standing_changes.Goals as goal

pub returns : goal.returns
returns c = lines_are c.args.threads.now c.in_ok-undone.undone.items c.in_ok-taken.taken c.in_ok-standing.standing.items c.in_ok-groups.groups c.in_ok-undone.ensures (λ (n : ℕ). c.in_ok-taken.ensures n ∙ ap (filter (λ (u : Undone). u.seq == n)) c.as_slice.ensures.value) c.in_ok-standing.ensures (λ (n : ℕ). c.in_ok-groups.ensures n ∙ ap (filter (λ (s : StandingChange). s.xid.wrap == n)) c.as_slice-2.ensures.value)
