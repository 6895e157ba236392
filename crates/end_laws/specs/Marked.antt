-- Commits enter after their marks.
use Rattle.std.specs.Prelude.{◌≡◌, Bool, true, false, List, [], ◌∷◌, ◌++◌}
use Rattle.journal.specs.declared.entry.Entry.{Entry}
use Rattle.journal.specs.declared.entry.Entry.TheVariants.{Committed}
use Rattle.journal.specs.Past.{Past}
use Rattle.journal.specs.Stood.{is_mark, stood}
use Rattle.inst_node.specs.declared.actions.Action.{Action}
use Rattle.inst_node.specs.declared.actions.Action.TheVariants.{Inst}
use Rattle.inst_node.specs.declared.actions.InstStep.TheVariants.{ReadThread}

-- A step reads the log of a thread whose instance is gone.
abbrev pub is_log_read : Action → Bool
is_log_read (Inst ReadThread thread) = true
is_log_read _ = false

-- A commit is told by its transaction's instance, after a mark of the transaction at its SCN.
abbrev pub CommitIsMarked : Past → Entry → Type 0
CommitIsMarked past (Committed x commit_scn inst) = (inst ≡ x.seg) × (stood (is_mark x commit_scn) past ≡ true)
CommitIsMarked past _ = Unit {0}

-- A fact of each of these entries and of what stands before it, where they are added to a journal.
abbrev pub EachAdded : (Past → Entry → Type 0) → List Entry → Past → Type 0
EachAdded P [] past = Unit {0}
EachAdded P (e ∷ es) past = P (es ++ past) e × EachAdded P es past
