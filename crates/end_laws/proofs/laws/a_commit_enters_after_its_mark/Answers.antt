use Rattle.end_laws.proofs.Worlds.{step_marked}
use Rattle.end_laws.proofs.laws.a_commit_enters_after_its_mark.Goals as goal

pub returns : goal.returns
returns c script g first disk book h w disk_now fit starts run step v disk_then made reads entries adds =
    step_marked script g first disk book h w disk_now starts run step v disk_then made reads entries adds
