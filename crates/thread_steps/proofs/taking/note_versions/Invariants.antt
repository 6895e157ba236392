use Rattle.std.proofs.Common.{◌≡◌, fold, take}
use Rattle.thread_steps.specs.Read.{with_version}
use Rattle.thread_steps.proofs.taking.note_versions.Given as goal

abbrev pub invariant-loop-one : goal.invariant-loop-one
invariant-loop-one l = l.versions ≡ fold with_version l.initial.versions (take l.one-index l.found)
