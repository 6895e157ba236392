-- How a run ends.
use Rattle.std.specs.Prelude.{◌≡◌, ⊤, ℕ, Bool, true, false}
use Rattle.journal.specs.declared.entry.Entry.{Entry}
use Rattle.journal.specs.declared.entry.Entry.TheVariants.{Ended}
use Rattle.cluster_run.specs.declared.script_runs.Finish.{Finish}
use Rattle.cluster_run.specs.declared.script_runs.Finish.TheVariants.{Over, AtLimit}
use Rattle.cluster_run.specs.declared.script_runs.Finish.TheVariants.{Stuck as Stopped}
use Rattle.rac_top.specs.declared.exit.End.{End}
use Rattle.rac_top.specs.declared.exit.End.TheVariants.{Done, WriteFault, DiskFault, StepLimit, BadDisk, Stuck}

-- an instance ended since it met content on the disk that no run left
abbrev pub is_bad_end : Entry → Bool
is_bad_end (Ended inst bad) = bad
is_bad_end _ = false

-- How a run ends by its finish, its limit of steps, whether the disk failed, and whether an instance met bad content.
abbrev pub end_of_run : Finish → ℕ → Bool → Bool → End
end_of_run AtLimit limit failed bad = StepLimit limit
end_of_run Stopped limit failed bad = Stuck
end_of_run Over limit true bad = DiskFault
end_of_run Over limit false true = BadDisk
end_of_run Over limit false false = Done

-- the ends at which all that was to be written was
abbrev pub is_whole : End → Bool
is_whole Done = true
is_whole DiskFault = true
is_whole (StepLimit limit) = true
is_whole BadDisk = true
is_whole Stuck = true
is_whole _ = false

-- a call ends as it went, unless its report could not be written
abbrev pub ReportEnds : End → End → Type 0
ReportEnds went WriteFault = ⊤
ReportEnds went end = end ≡ went
