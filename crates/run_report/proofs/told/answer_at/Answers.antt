use Rattle.std.proofs.Common.{◌≡◌, ◌<◌, length, Some, None, rules, sym, ◌∙◌}
use Rattle.std.specs.List.{position_from}
use Rattle.std.specs.Prelude.{find}
use Rattle.run_report.specs.Answers.{answers}
use Rattle.run_report.proofs.Finds.{find-at, find-none, place_in_list}
use Rattle.run_report.proofs.told.answer_at.Goals as goal

pub bounds-sources-at : goal.bounds-sources-at
bounds-sources-at c =
    let place : position_from (answers c.args.line) 0 c.args.sources.now.journal.now ≡ Some c.in-Some.at.now = sym (c.requires c.args.line) ∙ sym c.in-Some.ensures.value in
    place_in_list (answers c.args.line) c.args.sources.now.journal.now _ place

pub returns-in-Some : goal.returns-in-Some
returns-in-Some c =
    let place : position_from (answers c.args.line) 0 c.args.sources.now.journal.now ≡ Some c.in-Some.at.now = sym (c.requires c.args.line) ∙ sym c.in-Some.ensures.value in
    let found : find (answers c.args.line) c.args.sources.now.journal.now ≡ Some c.index-sources-at.result = find-at (answers c.args.line) c.args.sources.now.journal.now _ _ place c.index-sources-at.is in
    rw found (rw (← c.index-sources-at.is) at c.answer_of.ensures)

pub offset_bounds-sources-at : goal.offset_bounds-sources-at
offset_bounds-sources-at c =
    let place : position_from (answers c.args.line) 0 c.args.sources.now.journal.now ≡ Some c.in-Some.at.now = sym (c.requires c.args.line) ∙ sym c.in-Some.ensures.value in
    let within : c.in-Some.at.now < length c.args.sources.now.journal.now = place_in_list (answers c.args.line) c.args.sources.now.journal.now _ place in
    search (rules, within)

pub returns-in-None : goal.returns-in-None
returns-in-None c =
    let place : position_from (answers c.args.line) 0 c.args.sources.now.journal.now ≡ None = sym (c.requires c.args.line) ∙ sym c.in-None.ensures.value in
    let found : find (answers c.args.line) c.args.sources.now.journal.now ≡ None = find-none (answers c.args.line) 0 c.args.sources.now.journal.now place in
    rw found c.end_answer.ensures
