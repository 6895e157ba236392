use Rattle.std.proofs.Common.{◌≡◌, zero-add, false, length, is_err, sym, ap, ◌∙◌}
use Rattle.std.specs.Option.{option_or}
use Rattle.script_text.specs.Places.{place_in, place_of}
use Rattle.script_text.proofs.TurnLemmas.{on_ok}
use Rattle.script_text.proofs.PlaceLemmas.{place_of-push}
use Rattle.script_text.proofs.waves.Waves.push.Goals as goal

pub invariant_of-self-else-is_err : goal.invariant_of-self-else-is_err
invariant_of-self-else-is_err c = λ line.
    let went : is_err c.push_wave-pushed.result ≡ false = sym c.is_err.ensures.value ∙ c.if-is_err.false in
    let waves = on_ok c.push_wave-pushed.result _ went c.push_wave-pushed.ensures.waves in
    let places = on_ok c.push_wave-pushed.result _ went c.push_wave-pushed.ensures.places in
    let old = c.self.inside.waves.items in
    places line ∙ ap (λ before. option_or before (place_in line (length old) c.args.wave)) (c.self.invariant line)
    ∙ ap (λ n. option_or (place_of line 0 old) (place_in line n c.args.wave)) (sym (zero-add (length old)))
    ∙ sym (place_of-push line 0 old c.args.wave) ∙ ap (place_of line 0) (sym waves)
