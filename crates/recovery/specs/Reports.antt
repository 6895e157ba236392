-- What instances report after a change of the membership.
use Rattle.std.specs.Prelude.{ℕ, ◌==◌, Bool, true, false, List, Option, None, Some, find, is_some, map, replicate, slice_index_or, slice_set}
use Rattle.std.specs.List.{list_any}
use Rattle.wire_net.specs.declared.message.Mode.{Mode}
use Rattle.wire_net.specs.declared.message.Mode.TheVariants.{Exclusive, Null, Shared}
use Rattle.wire_net.specs.declared.report.Frame.{Frame}
use Rattle.wire_net.specs.declared.report.Report.{Report}
use Rattle.recovery.specs.declared.reports.Reports.{Reports}

-- nobody has reported
abbrev pub no_reports : Reports
no_reports = replicate 8 None

-- what an instance reported
abbrev pub report_of : Reports → ℕ → Option Report
report_of reports inst = slice_index_or reports inst None

-- the reports with another one of an instance
abbrev pub with_report : Reports → ℕ → Report → Reports
with_report reports inst report = slice_set reports inst (Some report)

-- what a report, if there is one, says of a block
abbrev pub frame_of : Option Report → ℕ → Option Frame
frame_of None block = None
frame_of (Some report) block = find (λ frame. frame.block == block) report.frames

-- An image is current in each mode but Null.
abbrev pub is_held_in : Mode → Bool
is_held_in Null = false
is_held_in Shared = true
is_held_in Exclusive = true

-- There is a current image.
abbrev pub is_current : Option Frame → Bool
is_current None = false
is_current (Some frame) = is_held_in frame.mode

-- the version of the past image
abbrev pub past_in : Option Frame → Option ℕ
past_in None = None
past_in (Some frame) = frame.past

-- Some instance reported a current image of a block.
abbrev pub is_held : Reports → ℕ → Bool
is_held reports block = list_any (λ report. is_current (frame_of report block)) reports

-- the version of the past image of a block that a report, if there is one, tells of
abbrev pub past_of : Option Report → ℕ → Option ℕ
past_of report block = past_in (frame_of report block)

-- the version of each instance's past image of a block
abbrev pub pasts_of : Reports → ℕ → List (Option ℕ)
pasts_of reports block = map (λ report. past_of report block) reports

-- Some instance reported a past image of a block.
abbrev pub has_past : Reports → ℕ → Bool
has_past reports block = list_any is_some (pasts_of reports block)
