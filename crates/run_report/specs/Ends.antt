-- Which lines are answered by the end of an instance.
use Rattle.std.specs.Prelude.{ℕ, Bool, true, false, not, ◌&&◌, ◌||◌, ◌==◌, List, [], ◌∷◌}
use Rattle.std.specs.List.{list_any}
use Rattle.journal.specs.declared.entry.Entry.{Entry}
use Rattle.journal.specs.declared.entry.Entry.TheVariants.{Ended}
use Rattle.journal.specs.Past.{Past, is_up}
use Rattle.script_text.specs.declared.item.Item.{Item}
use Rattle.script_text.specs.declared.item.Item.TheVariants.{Session, CrashAfter, CrashMark, Start, Hold}
use Rattle.script_text.specs.Lines.{current_wave}
use Rattle.run_report.specs.Answers.{answers}

-- A session or hold line has no answer; every other line is to be answered.
abbrev pub is_asked : Item → Bool
is_asked (Session _ _) = false
is_asked (Hold _ _) = false
is_asked _ = true

-- Whether an end answers a line: that of its instance in its wave, and for a start line one that found the instance
-- down. `ended wave down inst` says whether the instance ended in the wave, where `down` holds as one that wasn't up.
abbrev pub is_ended : (ℕ → Bool → ℕ → Bool) → ℕ → Item → Bool
is_ended ended wave (CrashAfter inst _ _) = ended wave false inst
is_ended ended wave (CrashMark inst _) = ended wave false inst
is_ended ended wave (Start inst) = ended wave true inst
is_ended ended wave _ = false

-- Whether some entry of a past answers a line by its number.
abbrev pub answers_any : Past → ℕ → Bool
answers_any past line = list_any (answers line) past

-- A line is answered in a past by an entry there with its number or, where no entry of the whole journal has its
-- number, by an end. `ever line` says whether some entry of the whole journal has it.
abbrev pub is_answered : (ℕ → Bool) → Past → (ℕ → Bool → ℕ → Bool) → ℕ → ℕ × Item → Bool
is_answered ever past ended wave (line, item) =
    answers_any past line || (not (ever line) && is_ended ended wave item)

-- Nothing is awaited of a line that is answered or isn't to be answered.
abbrev pub is_done : (ℕ → Bool) → Past → (ℕ → Bool → ℕ → Bool) → ℕ → ℕ × Item → Bool
is_done ever past ended wave line = not (is_asked line.1) || is_answered ever past ended wave line

-- Whether an entry is the end of an instance.
abbrev pub ends : Entry → ℕ → Bool
ends (Ended ended _) inst = ended == inst
ends _ inst = false

-- Whether an instance ended in a wave, where `down` holds as one that wasn't up. The wave of an end is the one that is
-- current before it.
abbrev pub ended_in : (ℕ → Bool) → List (List (ℕ × Item)) → Past → ℕ → Bool → ℕ → Bool
ended_in ever waves [] wave down inst = false
ended_in ever waves (entry ∷ past) wave down inst =
    ended_in ever waves past wave down inst
    || (ends entry inst && not (down && is_up inst past)
    && current_wave (is_done ever past (ended_in ever waves past)) 0 waves == wave)
