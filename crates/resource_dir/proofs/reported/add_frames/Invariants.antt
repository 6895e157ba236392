use Rattle.std.proofs.Common.{◌≡◌, fold, take}
use Rattle.resource_dir.specs.Rebuilt.{with_frame}
use Rattle.resource_dir.proofs.reported.add_frames.Given as goal

abbrev pub invariant-loop-frame : goal.invariant-loop-frame
invariant-loop-frame l = l.entry ≡ fold (with_frame l.block l.inst) l.initial.entry (take l.frame-index l.frames)
