-- A script's text: its settings, where they aren't the defaults, and then each item at its own line.
use Rattle.std.specs.Prelude.{ℕ, List, [], ◌∷◌, ◌++◌, ◌+◌, ◌-◌, ◌==◌, codes, decimal, flat_map, length, map, replicate, if◌then◌else◌}
use Rattle.script_text.specs.declared.item.Item.{Item}
use Rattle.script_text.specs.declared.script.Settings.{Settings}
use Rattle.script_text.specs.Limits.{default_instances, default_blocks, default_undo, default_cache, default_seed}
use Rattle.script_text.specs.ScriptParts.{ScriptParts}
use Rattle.script_print.specs.Spelled.{item_words, spaced}

-- the line of a setting, if it isn't the default
abbrev pub setting_line : List ℕ → ℕ → ℕ → List (List ℕ)
setting_line word usual number = if number == usual then [] else spaced (word ∷ decimal number ∷ []) ∷ []

-- the settings that aren't the defaults, a line each
abbrev pub setting_lines : Settings → List (List ℕ)
setting_lines settings =
    setting_line (codes "instances") default_instances settings.instances
    ++ setting_line (codes "blocks") default_blocks settings.blocks
    ++ setting_line (codes "undo") default_undo settings.undo
    ++ setting_line (codes "cache") default_cache settings.cache
    ++ setting_line (codes "seed") default_seed settings.seed

-- what a text says behind its settings: an item at its line, or the end of a wave
pub data Mark : Type 0 where
  Asks : (line : ℕ) (item : Item) → Mark
  Ends : Mark

-- an item at its line
abbrev pub mark_of : ℕ × Item → Mark
mark_of line = Asks line.0 line.1

-- the end of a wave and the items of the next one, for each of these waves
abbrev pub marks_behind : List (List (ℕ × Item)) → List Mark
marks_behind [] = []
marks_behind (wave ∷ more) = Ends ∷ map mark_of wave ++ marks_behind more

-- the items of all waves, with the end of each but the last
abbrev pub marks_of : List (List (ℕ × Item)) → List Mark
marks_of [] = []
marks_of (wave ∷ more) = map mark_of wave ++ marks_behind more

-- The lines that say this, from line `next` on: an item stands at its own line, with empty lines before it, and a wave
-- ends at the next line.
abbrev pub lines_from : List (List ℕ) → ℕ → List Mark → List (List ℕ)
lines_from names next [] = []
lines_from names next (Asks line item ∷ more) =
    replicate (line - next) [] ++ spaced (item_words names item) ∷ lines_from names (line + 1) more
lines_from names next (Ends ∷ more) = codes "go" ∷ lines_from names (next + 1) more

-- the lines of a script's text, as many as the script has
abbrev pub printed_lines : ScriptParts → List (List ℕ)
printed_lines parts =
    let settings = setting_lines parts.settings in
    let said = settings ++ lines_from parts.names (length settings + 1) (marks_of parts.waves) in
    said ++ replicate (parts.lines - length said) []

-- a script's text: each line with its end
abbrev pub printed : ScriptParts → List ℕ
printed parts = flat_map (λ line. line ++ 10 ∷ []) (printed_lines parts)
