use Rattle.std.proofs.Common.{◌≡◌, fold, take}
use Rattle.wave_steps.specs.News.{sent_if}
use Rattle.wave_steps.proofs.news.send_each.Given as goal

abbrev pub invariant-loop-to : goal.invariant-loop-to
invariant-loop-to l = l.core ≡ fold (sent_if l.me l.scn l.end) l.initial.core (take l.to-index l.insts)
