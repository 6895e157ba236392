use Rattle.std.proofs.Common.{rules}
use Rattle.std.proofs.Output.{has_written_append, has_written_of_eq}
use Rattle.run_report.specs.Journals.{member_text}
use Rattle.run_report.proofs.Members.{flat_map-range-more}
use Rattle.run_report.proofs.entry_lines.MembersTextDisplay.fmt.Goals as goal

pub loop-inst-preserved : goal.loop-inst-preserved
loop-inst-preserved g c = λ plain.
    has_written_of_eq _ _ _ _ _ (flat_map-range-more (member_text c.args.self.now.0) c.loop-inst.inst) (has_written_append _ _ _ _ _ _ (c.loop-inst.invariant plain) (search rules))
