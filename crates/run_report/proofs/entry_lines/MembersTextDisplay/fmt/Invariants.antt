use Rattle.std.proofs.Common.{flat_map}
use Rattle.std.specs.List.{range_with_len}
use Rattle.std.specs.Fmt.{HasWritten, IsPlainFormatter}
use Rattle.run_report.specs.Journals.{member_text}
use Rattle.run_report.proofs.entry_lines.MembersTextDisplay.fmt.Given as goal

abbrev pub invariant-loop-inst : goal.invariant-loop-inst
invariant-loop-inst g l =
    IsPlainFormatter l.initial.f → HasWritten g.W.Write.write_str_gives l.initial.f (flat_map (member_text l.self.0) (range_with_len 0 l.inst)) l.f
