-- When control lines are answered.
use Rattle.std.specs.Option.{option_map_or}
use Rattle.std.specs.Prelude.{Bool, ◌≡◌, ℕ, true, false, IfSome, IsSomeAnd}
use Rattle.journal.specs.declared.entry.Entry.{Entry}
use Rattle.journal.specs.Past.{Each, Past}
use Rattle.journal.specs.Stood.{stood}
use Rattle.script_text.specs.ScriptParts.{ScriptParts}
use Rattle.script_text.specs.Reading.{item_at}
use Rattle.run_report.specs.Ends.{answers_any}
use Rattle.good_run.specs.ControlLines.{asks_for, control_line, is_asked_by, names_line}
use Rattle.good_run.specs.Waves.{each_passes}

-- A line of the script asks for what an entry tells of it, and no entry before names the line.
pub record IsAskedOnce (script : ScriptParts) (past : Past) (e : Entry) (line : ℕ) : Type 0 where
  pub asked : IsSomeAnd (item_at script line) (λ item. asks_for e item ≡ true)
  pub first : stood (names_line line) past ≡ false

-- An entry that names a control line answers one that asks for it, which was open.
abbrev pub IsControlAsked : ScriptParts → Past → Entry → Type 0
IsControlAsked script past e = IfSome (control_line e) (IsAskedOnce script past e)

-- Each entry of a journal that names a control line does so.
abbrev pub AreControlsAsked : ScriptParts → Past → Type 0
AreControlsAsked script past = Each (IsControlAsked script) past

-- Each entry of a journal that names a control line stands where that line of the current wave asks for it, at most once.
abbrev pub controls_have_turns : ScriptParts → Past → Bool
controls_have_turns script past =
    each_passes (λ before e. option_map_or (is_asked_by (answers_any past) script before e) (control_line e) true) past
