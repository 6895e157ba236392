-- What some words give.
use Rattle.std.specs.Prelude.{◌≡◌, ◌++◌, [], ◌∷◌, true, false, Some, None, codes}
use Rattle.clap.specs.Words.{Text}
use Rattle.cli_words.specs.Orders.{order_in}
use Rattle.cli_words.specs.declared.order.Order.TheVariants.{Run, Load, Audit}
use Rattle.cli_words.specs.declared.order.RunOptions.{RunOptions}

-- a run of which nothing but its report is asked
abbrev plain : RunOptions
plain = record { journal = false; steps = false; check = false }

-- a run whose journal is asked for
abbrev with_journal : RunOptions
with_journal = record plain { journal = true }

-- a run of which all is asked
abbrev with_all : RunOptions
with_all = record { journal = true; steps = true; check = true }

-- these words give an order
abbrev pub GiveOrders : Type 0
GiveOrders = (order_in (codes "run" ∷ []) ≡ Some (Run plain None))
    × (order_in (codes "run" ∷ codes "--journal" ∷ []) ≡ Some (Run with_journal None))
    × (order_in (codes "run" ∷ codes "--disk" ∷ codes "d" ∷ []) ≡ Some (Run plain (Some (codes "d"))))
    × (order_in (codes "run" ∷ codes "--disk=d" ∷ codes "--journal" ∷ []) ≡ Some (Run with_journal (Some (codes "d"))))
    × (order_in (codes "run" ∷ codes "--disk" ∷ codes "d" ∷ codes "--journal" ∷ []) ≡ Some (Run with_journal (Some (codes "d"))))
    × (order_in (codes "run" ∷ codes "--steps" ∷ []) ≡ Some (Run (record plain { steps = true }) None))
    × (order_in (codes "run" ∷ codes "--check" ∷ codes "--journal" ∷ []) ≡ Some (Run (record with_journal { check = true }) None))
    × (order_in (codes "run" ∷ codes "--check" ∷ codes "--disk=d" ∷ codes "--steps" ∷ codes "--journal" ∷ []) ≡ Some (Run with_all (Some (codes "d"))))
    × (order_in (codes "audit" ∷ codes "--disk" ∷ codes "d" ∷ []) ≡ Some (Audit (codes "d")))
    × (order_in (codes "load" ∷ codes "7" ∷ codes "0" ∷ []) ≡ Some (Load 7 0 None))
    × (order_in (codes "load" ∷ codes "9223372036854775807" ∷ codes "700" ∷ []) ≡ Some (Load 9223372036854775807 700 None))
    × (order_in (codes "load" ∷ codes "--disk" ∷ codes "d" ∷ codes "007" ∷ codes "20" ∷ []) ≡ Some (Load 7 20 (Some (codes "d"))))

-- these words give none
abbrev pub GiveNone : Type 0
GiveNone = (order_in [] ≡ None)
    × (order_in (codes "walk" ∷ []) ≡ None)
    × (order_in (codes "audit" ∷ []) ≡ None)
    × (order_in (codes "audit" ∷ codes "--disk" ∷ []) ≡ None)
    × (order_in (codes "run" ∷ codes "--jornal" ∷ []) ≡ None)
    × (order_in (codes "run" ∷ codes "--journal" ∷ codes "--journal" ∷ []) ≡ None)
    × (order_in (codes "run" ∷ codes "--check" ∷ codes "--check" ∷ []) ≡ None)
    × (order_in (codes "audit" ∷ codes "--disk" ∷ codes "d" ∷ codes "--steps" ∷ []) ≡ None)
    × (order_in (codes "run" ∷ codes "--disk" ∷ codes "d" ∷ codes "--disk" ∷ codes "d" ∷ []) ≡ None)
    × (order_in (codes "run" ∷ codes "x" ∷ []) ≡ None)
    × (order_in (codes "--help" ∷ []) ≡ None)
    × (order_in (codes "help" ∷ []) ≡ None)
    × (order_in (codes "run" ∷ codes "--help" ∷ []) ≡ None)
    × (order_in (codes "--version" ∷ []) ≡ None)
    × (order_in (codes "load" ∷ codes "7" ∷ []) ≡ None)
    × (order_in (codes "load" ∷ codes "7" ∷ codes "701" ∷ []) ≡ None)
    × (order_in (codes "load" ∷ codes "9223372036854775808" ∷ codes "0" ∷ []) ≡ None)
    × (order_in (codes "load" ∷ codes "7" ∷ codes "+1" ∷ []) ≡ None)
    × (order_in (codes "load" ∷ codes "7" ∷ codes "0" ∷ codes "0" ∷ []) ≡ None)
    × (order_in (codes "load" ∷ codes "7" ∷ codes "0" ∷ codes "--journal" ∷ []) ≡ None)

-- whatever the name of the folder, it may stand behind `--disk=`
abbrev pub NameTheFolder : Text → Type 0
NameTheFolder name = (order_in (codes "run" ∷ (codes "--disk=" ++ name) ∷ []) ≡ Some (Run plain (Some name)))
    × (order_in (codes "run" ∷ (codes "--disk=" ++ name) ∷ codes "--journal" ∷ []) ≡ Some (Run with_journal (Some name)))
    × (order_in (codes "audit" ∷ (codes "--disk=" ++ name) ∷ []) ≡ Some (Audit name))
    × (order_in (codes "load" ∷ codes "7" ∷ codes "0" ∷ (codes "--disk=" ++ name) ∷ []) ≡ Some (Load 7 0 (Some name)))
