-- A good journal of a run of a script.
use Rattle.std.specs.Prelude.{◌≡◌, ℕ, ◌+◌, List, [], ◌∷◌, Bool, true, ◌&&◌}
use Rattle.std.specs.List.{list_all}
use Rattle.journal.specs.Past.{Past}
use Rattle.journal.specs.History.{history}
use Rattle.journal.specs.Stood.{stood}
use Rattle.journal.specs.Good.{GoodRows, GoodJournal}
use Rattle.script_text.specs.declared.item.Item.{Item}
use Rattle.script_text.specs.ScriptParts.{ScriptParts}
use Rattle.script_text.specs.Asked.{asked}
use Rattle.script_text.specs.GoodLines.{GoodLines}
use Rattle.run_report.specs.Ends.{is_done, ended_in, answers_any}
use Rattle.good_run.specs.Waves.{each_passes}
use Rattle.good_run.specs.Turns.{is_in_turn}
use Rattle.good_run.specs.ControlLines.{is_controlled}
use Rattle.good_run.specs.Hold.{holds_are_kept}
use Rattle.good_run.specs.Refusals.{is_proper, is_lost, loss_is_told}

-- each opening, start and answer of a journal has its turn
abbrev pub turns_are_kept : ScriptParts → Past → Bool
turns_are_kept parts past = each_passes (is_in_turn (answers_any past) parts) past

-- each refusal is proper, and each loss is told to the statements under way
abbrev pub refusals_are_good : ScriptParts → Past → Bool
refusals_are_good parts past =
    each_passes (is_proper parts (history past)) past
    && each_passes (loss_is_told (λ line. stood (is_lost line) past) parts) past

-- control lines, marks and rollbacks stand where they are asked
abbrev pub controls_are_good : ScriptParts → Past → Bool
controls_are_good parts past = each_passes (is_controlled (answers_any past) parts) past

-- each hold is kept in its wave
abbrev pub holds_are_good : ScriptParts → Past → Bool
holds_are_good parts past = each_passes (holds_are_kept (answers_any past) parts) past

-- each line of these waves that is to be answered is, by its number or by an end; the first wave has this number
abbrev pub waves_are_done : ScriptParts → Past → ℕ → List (List (ℕ × Item)) → Bool
waves_are_done parts past wave [] = true
waves_are_done parts past wave (lines ∷ more) =
    list_all (is_done (answers_any past) past (ended_in (answers_any past) parts.waves past) wave) lines
    && waves_are_done parts past (wave + 1) more

-- each statement and control line of the script is answered
abbrev pub is_whole : ScriptParts → Past → Bool
is_whole parts past = waves_are_done parts past 0 parts.waves

-- All that is promised of the journal of a run that ended with a status, where `goes_on` tells the statuses at which
-- the run went on to its end: rows are what sessions see, changes and commits are one history, each line is answered as
-- it asks and in its turn, refusals have their causes, control lines and holds do what they ask, and at such a status each line is answered.
pub record Good (goes_on : ℕ → Bool) (parts : ScriptParts) (status : ℕ) (past : Past) : Type 0 where
  pub rows : GoodRows (asked parts) past
  pub journal : GoodJournal past
  pub lines : GoodLines parts past
  pub turns : turns_are_kept parts past ≡ true
  pub refusals : refusals_are_good parts past ≡ true
  pub control_lines : controls_are_good parts past ≡ true
  pub hold : holds_are_good parts past ≡ true
  pub answered : goes_on status ≡ true → is_whole parts past ≡ true
