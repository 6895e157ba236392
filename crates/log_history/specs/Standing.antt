-- The changes that stand, gathered once for all transactions.
use Rattle.std.specs.Prelude.{ℕ, suc, List, [], ◌∷◌, ◌++◌, Bool, ◌==◌, ◌&&◌, not, nat_eq, if◌then◌else◌, Option, None, Some}
use Rattle.std.specs.Global.{Vec}
use Rattle.std.specs.HashMap.{HashMap, get}
use Rattle.std.specs.List.{filter_map, list_any}
use Rattle.std.specs.Option.{option_map, option_map_or}
use Rattle.base_types.specs.declared.names.RowNo.{RowNo}
use Rattle.base_types.specs.declared.names.Xid.{Xid}
use Rattle.redo_types.specs.declared.redo.DataChange.{DataChange}
use Rattle.redo_types.specs.declared.redo.Redo.{Redo}
use Rattle.base_types.specs.declared.value.Value.{Value}
use Rattle.journal.specs.Past.{same_xid}
use Rattle.log_history.specs.LogHistory.{is_change, is_commit, is_step_back, row_and_value}
use Rattle.log_history.specs.declared.changes.StandingChange.{StandingChange}
use Rattle.log_history.specs.declared.changes.Undone.{Undone}
use Rattle.log_history.specs.declared.line.HistoryLine.{HistoryLine}

-- the group with a number
abbrev pub group_at : {V S : Type 0} → HashMap ℕ (Vec V) S → ℕ → List V
group_at groups n = option_map_or (λ group. group.items) (get nat_eq groups n) []

-- what a StepBack takes back
abbrev pub undone_by : Redo → Option Undone
undone_by r = if is_step_back r.kind then Some (record { xid = r.xid; seq = r.seq }) else None

-- whether what was taken back is the record of this transaction with this sequence number
abbrev pub is_of : Xid → ℕ → Undone → Bool
is_of x seq u = same_xid x u.xid && u.seq == seq

-- whether a record is a change that isn't taken back
abbrev pub stands : {S : Type 0} → HashMap ℕ (Vec Undone) S → Redo → Bool
stands undone r = is_change r.kind && not (list_any (is_of r.xid r.seq) (group_at undone r.seq))

-- a change with its transaction
abbrev pub change_of : Xid → DataChange → StandingChange
change_of x d = record { xid = x; row = (row_and_value d).0; value = (row_and_value d).1 }

-- the change that a record made, where it stands
abbrev pub standing_of : {S : Type 0} → HashMap ℕ (Vec Undone) S → Redo → Option StandingChange
standing_of undone r = if stands undone r then option_map (change_of r.xid) r.row else None

-- the row and the value of a change, where it is one of this transaction
abbrev pub change_for : Xid → StandingChange → Option (RowNo × Value)
change_for x s = if same_xid x s.xid then Some (s.row, s.value) else None

-- the line of a Commit record, with these changes standing
abbrev pub line_by : {S : Type 0} → HashMap ℕ (Vec StandingChange) S → ℕ → Redo → Option HistoryLine
line_by standing thread r =
    if is_commit r.kind then Some (record { commit_scn = r.scn; inst = thread; xid = r.xid; changes = filter_map (change_for r.xid) (group_at standing r.xid.wrap) }) else None

-- the lines of the threads from one on
abbrev pub lines_by : {S : Type 0} → HashMap ℕ (Vec StandingChange) S → ℕ → List (List Redo) → List HistoryLine
lines_by standing thread [] = []
lines_by standing thread (records ∷ more) = filter_map (line_by standing thread) records ++ lines_by standing (suc thread) more
