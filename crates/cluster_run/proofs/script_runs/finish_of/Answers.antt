use Rattle.std.proofs.Common.{inl, inr, ◌∙◌}
use Rattle.cluster_run.proofs.script_runs.finish_of.Goals as goal

pub returns-else-len-limit : goal.returns-else-len-limit
returns-else-len-limit c = (
  c.if-world.false,
  elim c.requires [ inl stuck ↦ stuck | inr ended ↦ absurd (c.if-len-limit.false (c.len.ensures ∙ ended)) ],
)
