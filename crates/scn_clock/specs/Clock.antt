-- The clock of an instance.
use Rattle.std.specs.Prelude.{ℕ, ◌+◌, max}
use Rattle.scn_clock.specs.declared.clock.Clock.{Clock}

-- a record more was made: its SCN is one more
abbrev pub drawn : Clock → Clock
drawn clock = record clock { scn = clock.scn + 1 }

-- another clock's SCN was heard of
abbrev pub raised : Clock → ℕ → Clock
raised clock to = record clock { scn = max clock.scn to }

-- an end at this SCN is known to be on the disk
abbrev pub learnt : Clock → ℕ → Clock
learnt clock end = record { scn = max clock.scn end; known = max clock.known end }
