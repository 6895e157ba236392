use Rattle.run_laws.proofs.RunSessions.{runs_name_sessions}
use Rattle.run_laws.proofs.laws.sessions_are_of_the_script.Goals as goal

pub returns : goal.returns
returns c = runs_name_sessions
