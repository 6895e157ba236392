-- What can be checked of a journal without its script.
use Rattle.std.specs.Prelude.{◌≡◌, ℕ, ◌+◌, ◌<◌, ◌≤◌, List, [], ◌∷◌, IsSome, IsSomeAnd}
use Rattle.base_types.specs.declared.value.Value.{Value}
use Rattle.journal.specs.declared.entry.Entry.{Entry}
use Rattle.journal.specs.declared.entry.Entry.TheVariants.{Started, Rows, Changed, Locked}
use Rattle.journal.specs.Past.{Past, Each, start_of, home_of}
use Rattle.journal.specs.declared.deeds.Commit.{Commit}
use Rattle.journal.specs.History.{history}
use Rattle.journal.specs.Sees.{sees}
use Rattle.journal.specs.Good.{GoodJournal}

-- the rows of a list are below a number
abbrev pub AreBelow : ℕ → List (ℕ × Value) → Type 0
AreBelow rows [] = Unit {0}
AreBelow rows (item ∷ items) = (item.0 < rows) × AreBelow rows items

-- each row of an entry is one of the script's rows
abbrev pub RowsExist : ℕ → Past → Entry → Type 0
RowsExist rows past (Rows n items) = AreBelow rows items
RowsExist rows past (Changed n x row found new) = row < rows
RowsExist rows past (Locked n x row) = row < rows
RowsExist rows past _ = Unit {0}

-- what an entry names stands before it: a start of its statement, the opening of its session
abbrev pub IsNamed : Past → Entry → Type 0
IsNamed past (Rows n items) = IsSome (start_of n past)
IsNamed past (Changed n x row found new) = IsSome (start_of n past)
IsNamed past (Locked n x row) = IsSome (start_of n past)
IsNamed past (Started n z s) = IsSome (home_of z past)
IsNamed past _ = Unit {0}

-- rows in rising order, the first at least `from`, each with its value
abbrev pub AreListed : (ℕ → Value) → ℕ → List (ℕ × Value) → Type 0
AreListed value from [] = Unit {0}
AreListed value from (item ∷ items) =
    (from ≤ item.0) × (item.1 ≡ value item.0) × AreListed value (item.0 + 1) items

-- a Rows entry lists rows in rising order with what its session sees there
abbrev pub RowsAreListed : List Commit → Past → Entry → Type 0
RowsAreListed commits past (Rows n items) =
    IsSomeAnd (start_of n past) (λ start. AreListed (sees commits past start) 0 items)
RowsAreListed commits past _ = Unit {0}

-- A journal over so many rows is good as far as no script is needed, and what its entries name stands before them.
pub record IsChecked (rows : ℕ) (past : Past) : Type 0 where
  pub rows_exist : Each (RowsExist rows) past
  pub named : Each IsNamed past
  pub listed : Each (RowsAreListed (history past)) past
  pub good : GoodJournal past
