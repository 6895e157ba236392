use Rattle.std.proofs.Common.{◌≡◌, ◌||◌, nat_eq, take, take_all, None, Some, arith, sym, ap, ◌∙◌}
use Rattle.std.specs.Cmp.{nat_eq_equiv}
use Rattle.std.specs.List.{filter_map, list_any}
use Rattle.std.proofs.lemmas.Map.Made.{length-from_keys}
use Rattle.run_report.specs.Summaries.{answered_statement}
use Rattle.run_report.proofs.Counting.{seen-more, put-either, or_none}
use Rattle.run_report.proofs.counts.count_statements.Goals as goal
use Rattle.run_report.proofs.counts.count_statements.Goals.{in-Some+in_ok-insert, in_default}

pub loop-entry-preserved : goal.loop-entry-preserved
loop-entry-preserved c = λ line.
    let seen = list_any (nat_eq line) (filter_map answered_statement (take c.loop-entry.entry-index c.args.entries.now)) in
    let more = seen-more answered_statement c.args.entries.now c.loop-entry.entry-index c.entry-item.result line (omega arith) c.entry-item.is in
    elim c.match-answered_statement.branch [
      | in-Some+in_ok-insert w ↦
          let answer : answered_statement c.entry-item.result ≡ Some w.in-Some.line = sym w.in-Some.ensures in
          rw (more, w.lines-is, answer)
          (w.in_ok-insert.ensures.updates.0 line ∙ put-either w.in-Some.line line _ ∙ ap (λ b. b || nat_eq line w.in-Some.line) (c.loop-entry.invariant line))
      | in_default w ↦
          let answer : answered_statement c.entry-item.result ≡ None = sym w.in_default.ensures in
          rw (more, w.lines-is, answer) (c.loop-entry.invariant line ∙ or_none seen)
    ]

pub returns : goal.returns
returns c =
    let all : take c.loop-entry.entry-index c.args.entries.now ≡ c.args.entries.now = take_all c.loop-entry.entry-index c.args.entries.now (omega arith) in
    c.len.ensures.len
    ∙ length-from_keys nat_eq_equiv c.loop-entry.lines.keys (filter_map answered_statement c.args.entries.now) c.len.ensures.unique
    (λ line. c.loop-entry.invariant line ∙ ap (λ xs. list_any (nat_eq line) (filter_map answered_statement xs)) all)
