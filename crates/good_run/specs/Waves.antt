-- Which wave of a script a place of a journal is in.
use Rattle.std.specs.Prelude.{ℕ, ◌+◌, List, [], ◌∷◌, Bool, true, false, ◌==◌, ◌&&◌, take, slice_index_or}
use Rattle.std.specs.List.{list_any}
use Rattle.journal.specs.declared.entry.Entry.{Entry}
use Rattle.journal.specs.Past.{Past}
use Rattle.script_text.specs.declared.item.Item.{Item}
use Rattle.script_text.specs.declared.item.Item.TheVariants.{CrashAfter, CrashMark, Start}
use Rattle.script_text.specs.ScriptParts.{ScriptParts}
use Rattle.script_text.specs.Lines.{current_wave}
use Rattle.script_text.specs.Reading.{joined}
use Rattle.run_report.specs.Ends.{is_done, ended_in}

-- whether each entry of a journal passes a test, with the entries before it
abbrev pub each_passes : (Past → Entry → Bool) → Past → Bool
each_passes test [] = true
each_passes test (e ∷ past) = test past e && each_passes test past

-- The number of the current wave at a place: the first that has a line which is to be answered and isn't, else the
-- last. `ever line` says whether some entry of the whole journal answers that line by its number.
abbrev pub wave_at : (ℕ → Bool) → ScriptParts → Past → ℕ
wave_at ever parts past = current_wave (is_done ever past (ended_in ever parts.waves past)) 0 parts.waves

-- the lines of a wave
abbrev pub lines_in : ScriptParts → ℕ → List (ℕ × Item)
lines_in parts wave = slice_index_or parts.waves wave []

-- whether a line is one of the current wave or of an earlier one: all lines of the waves before its own are answered
abbrev pub has_begun : (ℕ → Bool) → ScriptParts → Past → ℕ → Bool
has_begun ever parts past line =
    list_any (λ item. item.0 == line) (joined (take (wave_at ever parts past + 1) parts.waves))

-- whether the end of an instance may answer a line: a crash or a start line
abbrev pub may_end : Item → Bool
may_end (CrashAfter inst steps keep) = true
may_end (CrashMark inst keep) = true
may_end (Start inst) = true
may_end _ = false
