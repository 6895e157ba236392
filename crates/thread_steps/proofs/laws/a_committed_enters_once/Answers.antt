use Rattle.thread_steps.proofs.Entered.{enters_once}
use Rattle.thread_steps.proofs.laws.a_committed_enters_once.Goals as goal

pub returns : goal.returns
returns c thread position records core within = enters_once thread position records core within
