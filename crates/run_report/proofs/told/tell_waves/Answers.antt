use Rattle.std.proofs.Common.{◌≡◌, ℕ, ◌++◌, List, string_bytes, flat_map, take, arith, take_all, sym, ap, reverse, ◌∙◌}
use Rattle.std.specs.List.{enumerate_from}
use Rattle.std.proofs.lemmas.List.{reverse-reverse}
use Rattle.script_text.specs.declared.item.Item.{Item}
use Rattle.run_report.specs.Ends.{answers_any, ended_in}
use Rattle.run_report.specs.Found.{kept}
use Rattle.run_report.specs.Reports.{answers_text, wave_text}
use Rattle.run_report.proofs.Wholes.{flat_map-enumerate-more, wave_texts-cong}
use Rattle.run_report.proofs.told.tell_waves.Goals as goal

pub loop-number-preserved : goal.loop-number-preserved
loop-number-preserved c =
    let journal = c.as_slice-journal.result.now in
    let told = λ (wave : ℕ × List (ℕ × Item)). wave_text journal (kept c.in_ok-ends.ends) wave.0 wave.1 in
    let number = c.loop-number.number in
    let more = flat_map-enumerate-more told c.args.waves.now number c.index-waves-number.result (omega arith) c.index-waves-number.is in
    c.in_ok-push_wave.ensures
    ∙ ap (λ lines. string_bytes c.loop-number.text ++ told (number, lines)) c.as_slice.ensures
    ∙ ap (λ before. before ++ told (number, c.index-waves-number.result)) c.loop-number.invariant
    ∙ sym more

pub returns : goal.returns
returns c =
    let journal = c.as_slice-journal.result.now in
    let waves = c.args.waves.now in
    let told = λ (wave : ℕ × List (ℕ × Item)). wave_text journal (kept c.in_ok-ends.ends) wave.0 wave.1 in
    let all : take c.loop-number.number waves ≡ waves = take_all c.loop-number.number waves (omega arith) in
    c.loop-number.invariant
    ∙ ap (λ ws. flat_map told (enumerate_from 0 ws)) all
    ∙ wave_texts-cong journal (kept c.in_ok-ends.ends) (ended_in (answers_any (reverse journal)) waves (reverse journal)) c.in_ok-ends.ensures (enumerate_from 0 waves)
    ∙ ap (λ entries. answers_text waves (reverse entries) entries) c.as_slice-journal.ensures
    ∙ ap (λ past. answers_text waves past (reverse c.args.journal.now)) (reverse-reverse c.args.journal.now)
