use Rattle.std.proofs.Common.{◌≡◌, ◌++◌, drop, map, take}
use Rattle.wave_steps.specs.News.{heard_by}
use Rattle.wave_steps.proofs.news.note_each.Given as goal

abbrev pub invariant-loop-session : goal.invariant-loop-session
invariant-loop-session l =
    l.sessions
    ≡ map (heard_by l.epoch l.from l.c) (take l.session-index l.initial.sessions) ++ drop l.session-index l.initial.sessions
