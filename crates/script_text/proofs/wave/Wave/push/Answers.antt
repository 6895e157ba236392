use Rattle.std.proofs.Common.{◌≡◌, ◌++◌, false, is_err, sym, ap, ◌∙◌}
use Rattle.script_text.specs.Turns.{lines_of, turn_of}
use Rattle.script_text.proofs.TurnLemmas.{lines_of-push, on_ok}
use Rattle.script_text.proofs.wave.Wave.push.Goals as goal

pub invariant_of-self-else-is_err : goal.invariant_of-self-else-is_err
invariant_of-self-else-is_err c = λ session.
    let went : is_err c.push_line-pushed.result ≡ false = sym c.is_err.ensures.value ∙ c.if-is_err.false in
    let lines = on_ok c.push_line-pushed.result _ went c.push_line-pushed.ensures.lines in
    let turns = on_ok c.push_line-pushed.result _ went c.push_line-pushed.ensures.turns in
    turns session ∙ ap (λ before. before ++ turn_of session c.args.line c.args.item) (c.self.invariant session)
    ∙ sym (lines_of-push session c.self.inside.lines.items c.args.line c.args.item) ∙ ap (lines_of session) (sym lines)
