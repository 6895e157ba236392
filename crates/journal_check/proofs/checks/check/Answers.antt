-- The journal is good at each place that was looked at, and its history is the one that was made.
use Rattle.std.proofs.Common.{◌≡◌, ◌∙◌, ◌+◌, ap, sym, subst, List, ◌∷◌, reverse, take, drop, length, arith}
use Rattle.std.proofs.lemmas.Bool.{both_ways}
use Rattle.std.proofs.lemmas.List.{reverse-reverse, take_all}
use Rattle.journal.specs.declared.deeds.Commit.{Commit}
use Rattle.journal.specs.declared.entry.Entry.{Entry}
use Rattle.journal.specs.Past.{Each}
use Rattle.journal.specs.History.{history}
use Rattle.journal.specs.Good.{Replays, changes_in}
use Rattle.journal_check.specs.Place.{IsGoodAt}
use Rattle.journal_check.proofs.PlaceLemmas.{iff_never}
use Rattle.journal_check.proofs.CheckLemmas.{IsChecked-from, good-at, drop_entry}
use Rattle.journal_check.proofs.checks.check.Goals as goal

pub returns-then-not-branch : goal.returns-then-not-branch
returns-then-not-branch c =
    let past = c.args.journal.now in
    let entries = c.as_slice-entries.result.now in
    let same : reverse entries ≡ past = ap reverse c.as_slice-entries.ensures ∙ reverse-reverse past in
    let e = c.index-entries-at.result in
    let cut = drop_entry entries c.loop-at.at e c.loop-at-test.true c.index-entries-at.is in
    let commits_are : c.as_slice.result.now ≡ history past = c.as_slice.ensures.value ∙ c.in_ok-commits.ensures ∙ ap history same in
    iff_never (λ checked.
    both_ways c.in_ok-is_good_at.field-0 c.if-not-branch.true
    (c.in_ok-is_good_at.ensures.1
    (subst (λ (commits : List Commit). IsGoodAt c.args.script_rows commits (reverse (take c.loop-at.at entries)) e) (sym commits_are)
    (good-at c.args.script_rows past entries c.loop-at.at e same cut checked))))

pub returns : goal.returns
returns c =
    let past = c.args.journal.now in
    let entries = c.as_slice-entries.result.now in
    let same : reverse entries ≡ past = ap reverse c.as_slice-entries.ensures ∙ reverse-reverse past in
    let commits_are : c.as_slice-2.result.now ≡ history past = c.as_slice-2.ensures.value ∙ c.in_ok-commits.ensures ∙ ap history same in
    let changes_are : c.as_slice-3.result.now ≡ changes_in (history past) =
    c.as_slice-3.ensures.value ∙ c.in_ok-changes.ensures ∙ ap changes_in commits_are in
    let whole = take_all c.loop-at.at entries (omega (arith, c.loop-at-test.false)) in (
      λ yes. IsChecked-from c.args.script_rows past
          (subst (Each (IsGoodAt c.args.script_rows (history past))) (ap reverse whole ∙ same) c.loop-at.invariant)
          (subst Replays changes_are (c.replays.ensures.0 yes)),
      λ checked. c.replays.ensures.1 (subst Replays (sym changes_are) checked.good.replay),
    )
