-- An end at which all was written is no write fault.
use Rattle.std.proofs.Common.{◌≡◌, ℕ, List, Bool, true, false, Option, refl, sym, true≢false, ap, ◌∙◌}
use Rattle.std.specs.Io.KnownBytes.{Appends}
use Rattle.std.specs.List.{list_any}
use Rattle.std.specs.Prelude.{reverse}
use Rattle.std.proofs.lemmas.List.Sorted.{IsPermutation-reverse, list_any-IsPermutation}
use Rattle.journal.specs.Past.{Past}
use Rattle.cluster_run.specs.declared.script_runs.Finish.{Finish}
use Rattle.cluster_run.specs.declared.script_runs.Finish.TheVariants.{Over, AtLimit}
use Rattle.cluster_run.specs.declared.script_runs.Finish.TheVariants.{Stuck as Stopped}
use Rattle.rac_top.specs.declared.exit.End.{End}
use Rattle.rac_top.specs.declared.exit.End.TheVariants as ends
use Rattle.rac_top.specs.RunEnds.{ReportEnds, end_of_run, is_bad_end, is_whole}
use Rattle.rac_top.specs.Runs.{IsWritten}

-- a run ends so that all is written
pub went_whole : (finish : Finish) (limit : ℕ) (failed bad : Bool) → is_whole (end_of_run finish limit failed bad) ≡ true
went_whole AtLimit limit failed bad = refl
went_whole Stopped limit failed bad = refl
went_whole Over limit true bad = refl
went_whole Over limit false true = refl
went_whole Over limit false false = refl

no : {P : Type 0} → false ≡ true → P
no bad = absurd (true≢false (sym bad))

-- what is written at such an end is all
pub whole_written : (end : End) (text : List ℕ) (old new : Option (List ℕ)) → is_whole end ≡ true → Appends old new text → IsWritten end text old new
whole_written ends.Done text old new whole written = written
whole_written ends.WrongWords text old new whole written = no whole
whole_written (ends.Refused line rule) text old new whole written = no whole
whole_written ends.ReadFault text old new whole written = no whole
whole_written ends.WriteFault text old new whole written = no whole
whole_written ends.NotCreated text old new whole written = no whole
whole_written ends.DiskFault text old new whole written = written
whole_written ends.LogsUnread text old new whole written = no whole
whole_written ends.NoMemory text old new whole written = no whole
whole_written (ends.StepLimit limit) text old new whole written = written
whole_written (ends.BadLog thread place) text old new whole written = no whole
whole_written ends.BadDisk text old new whole written = written
whole_written ends.Stuck text old new whole written = written
whole_written ends.NotGood text old new whole written = no whole

-- an end is as it went
pub reports_itself : (end : End) → ReportEnds end end
reports_itself ends.WriteFault = tt
reports_itself ends.Done = refl
reports_itself ends.WrongWords = refl
reports_itself (ends.Refused line rule) = refl
reports_itself ends.ReadFault = refl
reports_itself ends.NotCreated = refl
reports_itself ends.DiskFault = refl
reports_itself ends.LogsUnread = refl
reports_itself ends.NoMemory = refl
reports_itself (ends.StepLimit limit) = refl
reports_itself (ends.BadLog thread place) = refl
reports_itself ends.BadDisk = refl
reports_itself ends.Stuck = refl
reports_itself ends.NotGood = refl

-- and no write fault
pub whole_faultless : (went : End) → is_whole went ≡ true → went ≡ ends.WriteFault → ⊥
whole_faultless went whole is = true≢false (sym whole ∙ ap is_whole is)

-- the order of a journal doesn't matter for its bad ends
pub bad_ends_reversed : (past : Past) → list_any is_bad_end (reverse past) ≡ list_any is_bad_end past
bad_ends_reversed past = sym (list_any-IsPermutation is_bad_end past (reverse past) (IsPermutation-reverse past))
