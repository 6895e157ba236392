use Rattle.std.proofs.Common.{◌∙◌, ap, Bool, subst, sym}
use Rattle.thread_steps.specs.Found.{AreGood, HoldsRecords, VersionsAs, are_small}
use Rattle.thread_steps.specs.Records.{AreRecords}
use Rattle.thread_steps.proofs.FoundWhole.{found_weaker, not_false, records_hold}
use Rattle.thread_steps.proofs.finding.find_records.Goals as goal
use Rattle.thread_steps.proofs.finding.find_records.Goals.{else-records, then-records}

pub returns : goal.returns
returns g c =
    let layout = c.args.layout.now in
    let bytes = c.args.bytes.now in
    let log = c.found_log-log.result in
    let records = c.in_ok-records.records.records in
    let good : AreGood bytes records = elim c.if-records.branch [
      | then-records w ↦ absurd (cc w.if-records.true)
      | else-records w ↦ record {
        are = subst (λ (bad : Bool). AreRecords bytes records bad) w.if-records.false c.in_ok-records.ensures.are;
        small = ap are_small (sym w.as_slice.ensures) ∙ sym w.have_small_scns.ensures ∙ not_false w.have_small_scns.result (sym w.bad-is ∙ c.if-bad.false);
      }
    ] in
    found_weaker (VersionsAs layout log) (HoldsRecords layout c.args.thread c.args.entry.now bytes) c.find_versions.result _ _
    (λ it found has. records_hold layout c.args.thread c.args.entry.now bytes log records it c.found_log-log.ensures good found has)
    c.find_versions.ensures
