-- Which items can't stand in one wave.
use Rattle.std.specs.Prelude.{ℕ, Bool, false, ◌==◌, ◌||◌}
use Rattle.script_text.specs.declared.item.Item.{Item}
use Rattle.script_text.specs.declared.item.Item.TheVariants.{CrashAfter, CrashMark, Start, Hold}

-- whether an item crashes or starts an instance
abbrev pub switches : ℕ → Item → Bool
switches inst (CrashAfter named steps keep) = named == inst
switches inst (CrashMark named keep) = named == inst
switches inst (Start named) = named == inst
switches inst _ = false

-- whether an item is a `hold` that names a session
abbrev pub binds : ℕ → Item → Bool
binds session (Hold reader until) = reader == session || until == session
binds session _ = false

-- whether an item can't stand in one wave with an earlier one: both crash or start one instance, or both are
-- `hold` lines that name one session
abbrev pub clashes : Item → Item → Bool
clashes earlier (CrashAfter inst steps keep) = switches inst earlier
clashes earlier (CrashMark inst keep) = switches inst earlier
clashes earlier (Start inst) = switches inst earlier
clashes earlier (Hold reader until) = binds reader earlier || binds until earlier
clashes earlier _ = false
