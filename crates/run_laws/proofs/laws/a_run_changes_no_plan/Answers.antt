use Rattle.run_laws.proofs.RunSessions.{first_planned, runs_keep_plans}
use Rattle.run_laws.proofs.laws.a_run_changes_no_plan.Goals as goal

pub returns-clause-first : goal.returns-clause-first
returns-clause-first c = first_planned

pub returns-clause-keeps : goal.returns-clause-keeps
returns-clause-keeps c = runs_keep_plans
