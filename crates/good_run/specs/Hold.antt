-- What a `hold` line asks: its reader starts first, and is answered last.
use Rattle.std.specs.Prelude.{ℕ, List, [], ◌∷◌, Bool, true, false, not, ◌==◌, ◌&&◌, ◌||◌, slice_get, Option, Some, None}
use Rattle.std.specs.List.{list_any, list_all}
use Rattle.journal.specs.declared.entry.Entry.{Entry}
use Rattle.journal.specs.Past.{Past, is_loss_of}
use Rattle.journal.specs.Stood.{stood}
use Rattle.script_text.specs.declared.item.Item.{Item}
use Rattle.script_text.specs.declared.item.Item.TheVariants as items
use Rattle.script_text.specs.ScriptParts.{ScriptParts}
use Rattle.script_text.specs.Lines.{answers_stmt}
use Rattle.script_text.specs.Turns.{lines_of}
use Rattle.good_run.specs.Waves.{wave_at, lines_in}
use Rattle.good_run.specs.Turns.{starts}

-- whether an entry starts one of these lines
abbrev pub starts_one : List ℕ → Entry → Bool
starts_one lines e = list_any (λ line. starts line e) lines

-- whether an entry answers one of these lines, and whether it does so without a start of it
abbrev pub answers_one : List ℕ → Entry → Bool
answers_one lines e = list_any (λ line. answers_stmt line e) lines

abbrev pub answers_unstarted : List ℕ → Past → Entry → Bool
answers_unstarted lines past e = list_any (λ line. answers_stmt line e && not (stood (starts line) past)) lines

-- whether a place is in a wave; it is asked at losses alone
abbrev pub lost_in : (ℕ → Bool) → ScriptParts → ℕ → Past → Bool → Bool
lost_in ever parts wave past true = wave_at ever parts past == wave
lost_in ever parts wave past false = false

-- A hold no longer binds from the first loss of its instance in the wave on, and from the first answer of its reader
-- there without a start on.
abbrev pub is_loosed : (ℕ → Bool) → ScriptParts → ℕ → ℕ → List ℕ → Past → Bool
is_loosed ever parts wave inst readers [] = false
is_loosed ever parts wave inst readers (e ∷ past) =
    is_loosed ever parts wave inst readers past || lost_in ever parts wave past (is_loss_of inst e)
    || answers_unstarted readers past e

-- The other session starts behind the reader's first start, and the reader is answered behind all answers of the other,
-- but for an answer without a start.
abbrev pub keeps_hold : List ℕ → List ℕ → Past → Entry → Bool
keeps_hold readers others past e =
    (not (starts_one others e) || stood (starts_one readers) past)
    && (not (answers_one readers e) || answers_unstarted readers past e
    || list_all (λ line. stood (answers_stmt line) past) others)

-- The same where the reader has a line in the wave and the hold binds; `inst` is the instance of its sessions.
abbrev pub keeps : (ℕ → Bool) → ScriptParts → ℕ → Option ℕ → List ℕ → List ℕ → Past → Entry → Bool
keeps ever parts wave None readers others past e = true
keeps ever parts wave (Some inst) [] others past e = true
keeps ever parts wave (Some inst) (reader ∷ more) others past e =
    is_loosed ever parts wave inst (reader ∷ more) past || keeps_hold (reader ∷ more) others past e

-- what an item asks of an entry in its wave: a hold that it is kept, any other nothing
abbrev pub item_keeps : (ℕ → Bool) → ScriptParts → ℕ → Past → Entry → Item → Bool
item_keeps ever parts wave past e (items.Hold reader until) =
    keeps ever parts wave (slice_get parts.homes reader) (lines_of reader (lines_in parts wave))
    (lines_of until (lines_in parts wave)) past e
item_keeps ever parts wave past e _ = true

-- each hold of the current wave is kept
abbrev pub holds_are_kept : (ℕ → Bool) → ScriptParts → Past → Entry → Bool
holds_are_kept ever parts past e =
    list_all (λ line. item_keeps ever parts (wave_at ever parts past) past e line.1)
    (lines_in parts (wave_at ever parts past))
