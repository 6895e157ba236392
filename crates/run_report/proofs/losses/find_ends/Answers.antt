use Rattle.std.proofs.Common.{◌≡◌, ℕ, ◌<◌, Bool, false, take, reverse, get_or, nat_eq, arith, rules, take_all, ◌∷◌, refl, sym, ap, ◌∙◌}
use Rattle.std.specs.HashMap.{get}
use Rattle.journal.specs.declared.entry.Entry.TheVariants.{Ended}
use Rattle.script_text.specs.Lines.{current_wave}
use Rattle.run_report.specs.Ends.{answers_any, ended_in, is_done}
use Rattle.run_report.specs.Found.{is_settled, kept}
use Rattle.run_report.proofs.Current.{current-is, current_wave-cong}
use Rattle.run_report.proofs.EndSteps.{ended_in-end, ended_in-other, is_down-more, or_stays}
use Rattle.run_report.proofs.Finds.{past-more}
use Rattle.run_report.proofs.Settled.{is_settled-is, is_settled-stays, AreSettled-stay}
use Rattle.run_report.proofs.losses.find_ends.Goals as goal
use Rattle.run_report.proofs.losses.find_ends.Goals.{in-Ended+in_ok-add, in_default}

pub loop-at-init : goal.loop-at-init
loop-at-init c = record {
  ends_found = λ wave down inst. c.new-ends.ensures wave down inst;
  downs_known = λ i small. c.none_down-down.ensures.none i;
  lines_settled = record { earlier = λ w h. absurd (omega arith); here = refl };
}

pub loop-at-preserved : goal.loop-at-preserved
loop-at-preserved c =
    let journal = c.args.journal.now in
    let ever = answers_any (reverse journal) in
    let waves = c.args.waves.now in
    let at = c.loop-at.at in
    let entry = c.index-journal-at.result in
    let past = reverse (take at journal) in
    let held = c.loop-at.invariant in
    let first = get nat_eq c.args.places.now in
    let more = past-more journal at entry (omega arith) c.index-journal-at.is in
    let downs_known = λ (i : ℕ) (small : i < 256).
    c.note_loss.ensures i small ∙ is_down-more past entry i (get_or c.loop-at.down i false) (held.downs_known i small) in
    elim c.match-entry.branch [
      | in-Ended+in_ok-add w ↦
          let ended = w.inst.inside.0 in
          let small : ended < 256 = search rules in
          let added = w.in_ok-add.ensures in
          let settled = w.next_open-cursor.ensures.settled in
          let cursor = w.next_open-cursor.result in
          let same_done = current_wave-cong (is_settled first at (kept c.loop-at.ends)) (is_done ever past (ended_in ever waves past)) 0 waves (is_settled-is journal first at (kept c.loop-at.ends) (ended_in ever waves past) c.requires held.ends_found) in
          let current : current_wave (is_done ever past (ended_in ever waves past)) 0 waves ≡ w.wave_of-wave.result =
          sym same_done ∙ current-is _ waves cursor.wave cursor.line settled w.next_open-cursor.ensures.unsettled ∙ sym w.wave_of-wave.ensures in
          let step = λ (wave : ℕ) (down : Bool) (inst : ℕ).
          added wave down inst ∙ (ended_in-end ever waves past ended w.in-Ended.bad w.wave_of-wave.result _ (held.downs_known ended small) current wave down inst _ (held.ends_found wave down inst)
          ∙ ap (λ (e : ℕ). ended_in ever waves (Ended e w.in-Ended.bad ∷ past) wave down inst) w.inst.view_is) in
          let stays = is_settled-stays first at (kept c.loop-at.ends) (kept w.add.new.self) (λ wave down inst h. or_stays _ _ _ (added wave down inst) h) in
          record {
            ends_found = λ wave down inst. rw (more, w.ends-is, w.in-Ended.is) (step wave down inst);
            downs_known = rw more downs_known;
            lines_settled = rw (w.ends-is, w.cursor-is) (AreSettled-stay _ _ waves cursor.wave cursor.line stays settled);
          }
      | in_default w ↦ record {
        ends_found = λ wave down inst. rw (more, w.ends-is) (held.ends_found wave down inst ∙ sym (ended_in-other ever waves past entry w.in_default.not-Ended wave down inst));
        downs_known = rw more downs_known;
        lines_settled = rw (w.ends-is, w.cursor-is) (AreSettled-stay _ _ waves c.loop-at.cursor.wave c.loop-at.cursor.line (is_settled-stays first at (kept c.loop-at.ends) (kept c.loop-at.ends) (λ _ _ _ h. h)) held.lines_settled);
      }
    ]

pub returns : goal.returns
returns c = λ wave down inst.
    let all : take c.loop-at.at c.args.journal.now ≡ c.args.journal.now = take_all c.loop-at.at c.args.journal.now (omega arith) in
    c.loop-at.invariant.ends_found wave down inst ∙ ap (λ j. ended_in (answers_any (reverse c.args.journal.now)) c.args.waves.now (reverse j) wave down inst) all
