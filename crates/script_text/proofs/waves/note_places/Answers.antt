use Rattle.std.proofs.Common.{arith}
use Rattle.std.proofs.lemmas.Grind.{common_steps}
use Rattle.script_text.proofs.PlaceLemmas.{place_in-more, option_or-assoc}
use Rattle.script_text.proofs.waves.note_places.Goals as goal

pub loop-at-preserved : goal.loop-at-preserved
loop-at-preserved c = λ line.
    let more = place_in-more line c.args.wave c.args.lines.now c.loop-at.at c.index-lines-at.result (omega arith) c.index-lines-at.is in
    grind (arith, common_steps, more, option_or-assoc, c.loop-at.invariant line)
