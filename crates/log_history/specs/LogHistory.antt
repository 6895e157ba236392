-- The history of redo logs: what was committed, by the whole records alone.
use Rattle.std.specs.Prelude.{◌≡◌, ℕ, suc, ◌+◌, ◌*◌, List, [], ◌∷◌, ◌++◌, Bool, true, false, ◌==◌, ◌&&◌, ◌||◌, not, nat_lt, if◌then◌else◌, Option, None, Some}
use Rattle.std.specs.List.{flat_map, filter_map, list_any, AllByRecursion}
use Rattle.std.specs.Option.{option_map}
use Rattle.base_types.specs.declared.names.RowNo.{RowNo}
use Rattle.base_types.specs.declared.names.Xid.{Xid}
use Rattle.base_types.specs.declared.value.Value.{Value}
use Rattle.redo_types.specs.declared.redo.DataChange.{DataChange}
use Rattle.redo_types.specs.declared.redo.Redo.{Redo}
use Rattle.redo_types.specs.declared.redo.RedoKind.{RedoKind}
use Rattle.redo_types.specs.declared.redo.RedoKind.TheVariants.{Change, Commit, StepBack}
use Rattle.journal.specs.Past.{same_xid}
use Rattle.redo_record.specs.Redo.{IsRedo}
use Rattle.redo_record.specs.Front.{BeginsWith, log_bytes}
use Rattle.log_history.specs.declared.line.HistoryLine.{HistoryLine}

-- The whole records of a log from its beginning on, and the bytes behind them, which begin with none.
pub record IsLog (bytes : List ℕ) (records : List Redo) (rest : List ℕ) : Type 0 where
  pub each : AllByRecursion IsRedo records
  pub spelled : bytes ≡ log_bytes records ++ rest
  pub no_more : (r : Redo) → BeginsWith rest r → ⊥

-- the kinds that the history looks at
abbrev pub is_change : RedoKind → Bool
is_change Change = true
is_change _ = false

abbrev pub is_step_back : RedoKind → Bool
is_step_back StepBack = true
is_step_back _ = false

abbrev pub is_commit : RedoKind → Bool
is_commit Commit = true
is_commit _ = false

-- whether a record takes back the one of this transaction with this sequence number
abbrev pub takes_back : Xid → ℕ → Redo → Bool
takes_back x seq r = is_step_back r.kind && same_xid x r.xid && r.seq == seq

-- the row of the whole database and the value that a change of a data block puts there
abbrev pub row_and_value : DataChange → RowNo × Value
row_and_value d = (8 * d.block + d.to.row, d.to.value)

-- what a record changed for a transaction, unless one of all the records takes it back
abbrev pub change_in : List Redo → Xid → Redo → Option (RowNo × Value)
change_in all x r =
    if is_change r.kind && same_xid x r.xid && not (list_any (takes_back x r.seq) all) then option_map row_and_value r.row else None

-- the changes of a transaction in these records, in their order
abbrev pub changes_in : List Redo → Xid → List (RowNo × Value)
changes_in all x = filter_map (change_in all x) all

-- the transaction that a Commit record of a thread ends, with its changes
abbrev pub line_of : List Redo → ℕ → Redo → Option HistoryLine
line_of all thread r =
    if is_commit r.kind then Some (record { commit_scn = r.scn; inst = thread; xid = r.xid; changes = changes_in all r.xid }) else None

-- the transactions that the Commit records of the threads end, thread by thread, from a thread on
abbrev pub lines_from : List Redo → ℕ → List (List Redo) → List HistoryLine
lines_from all thread [] = []
lines_from all thread (records ∷ more) = filter_map (line_of all thread) records ++ lines_from all (suc thread) more

-- whether a line comes after another: by its SCN, and where these are equal by its thread
abbrev pub is_after : HistoryLine → HistoryLine → Bool
is_after a b = nat_lt b.commit_scn a.commit_scn || a.commit_scn == b.commit_scn && nat_lt b.inst a.inst

-- Lines are in order: none comes after a later one.
abbrev pub IsInOrder : List HistoryLine → Type 0
IsInOrder [] = Unit {0}
IsInOrder (a ∷ more) = AllByRecursion (λ b. is_after a b ≡ false) more × IsInOrder more

-- lines in order with one more, behind all that don't come after it
abbrev pub entered : HistoryLine → List HistoryLine → List HistoryLine
entered a [] = a ∷ []
entered a (b ∷ more) = if is_after b a then a ∷ b ∷ more else b ∷ entered a more

-- lines in order
abbrev pub in_order : List HistoryLine → List HistoryLine → List HistoryLine
in_order sorted [] = sorted
in_order sorted (a ∷ more) = in_order (entered a sorted) more

-- The history of the threads' records: their commits in the order of (SCN, thread, place in the thread).
abbrev pub log_history : List (List Redo) → List HistoryLine
log_history threads = in_order [] (lines_from (flat_map (λ records. records) threads) 0 threads)
