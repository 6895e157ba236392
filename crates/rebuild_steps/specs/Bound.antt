-- The clocks after recovery.
use Rattle.std.specs.Prelude.{ℕ, fold, Option, None, Some}
use Rattle.inst_set.specs.Sets.{all_insts}
use Rattle.scn_clock.specs.declared.clock.Clock.{Clock}
use Rattle.wire_net.specs.declared.report.Report.{Report}
use Rattle.recovery.specs.Reports.{report_of}
use Rattle.inst_state.specs.declared.inst.Inst.{Inst}
use Rattle.inst_state.specs.declared.inst.ReadThread.{ReadThread}
use Rattle.inst_state.specs.declared.shared.Core.{Core}
use Rattle.inst_state.specs.Shared.{closed_of}
use Rattle.rebuild_steps.specs.Epochs.{threads_in}
use Rattle.rebuild_steps.specs.Open.{learnt_of}

-- a clock that has learnt of a report, if there is one
abbrev pub with_report : Option Report → Clock → Clock
with_report None clock = clock
with_report (Some report) clock = learnt_of clock (record { scn = report.scn; known = report.known })

-- a clock that has learnt of the SCNs of a control entry, if they are there
abbrev pub with_scns : Option Clock → Clock → Clock
with_scns None clock = clock
with_scns (Some scns) clock = learnt_of clock scns

-- a clock that has learnt of what an instance reported and of the entry of its thread, where that is known to be closed
abbrev pub with_inst_of : Core → Clock → ℕ → Clock
with_inst_of core clock inst = with_scns (closed_of core inst) (with_report (report_of core.recovery.reports inst) clock)

-- a clock that has learnt of a thread that was read
abbrev pub with_thread : Clock → ReadThread → Clock
with_thread clock read = learnt_of clock read.scns

-- The clocks after recovery: the leader's that has learnt of all that was reported, of the threads that are known to be
-- closed, and of the threads that were read since the last change of membership.
unfoldable pub bound_of : Inst → Core → Clock
bound_of n core =
    fold with_thread (fold (with_inst_of core) n.clock all_insts) (threads_in n.leading.recovering core.members.epoch)
