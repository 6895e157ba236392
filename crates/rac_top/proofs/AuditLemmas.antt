-- Logs of which an audit tells the history are none that no writer of records left.
use Rattle.std.proofs.Common.{ℕ, zero, suc, List, [], ◌∷◌, Option, None, Some, IfSome, subst}
use Rattle.redo_types.specs.declared.redo.Redo.{Redo}
use Rattle.rac_disk.specs.Content.{Content}
use Rattle.log_history.specs.Logs.{AreLogs, IsEnd, IsFirstWrong}
use Rattle.log_history.proofs.OneWay.{one_way}
use Rattle.log_audit.specs.Audits.{Tells, logs_in}
use Rattle.log_laws.specs.Logs.{HasGoodLogs}

are-good : (logs : List (List ℕ)) (threads : List (List Redo)) (rests : List (List ℕ)) → AreLogs logs threads rests → (thread place : ℕ) → IsFirstWrong logs thread place → ⊥
are-good [] threads rests are thread place wrong = wrong
are-good (bytes ∷ logs) [] rests are thread place wrong = are
are-good (bytes ∷ logs) (records ∷ threads) [] are thread place wrong = are
are-good (bytes ∷ logs) (records ∷ threads) (rest ∷ rests) are zero place wrong =
    wrong.wrong (subst IsEnd (one_way bytes records wrong.records rest wrong.rest are.0 wrong.is_log).1 are.1)
are-good (bytes ∷ logs) (records ∷ threads) (rest ∷ rests) are (suc thread) place wrong = are-good logs threads rests are.2 thread place wrong.1

-- so where an audit told something of a disk, its logs are good
pub told-good : (disk : Option Content) (text : List ℕ) → IfSome disk (λ it. Tells it text) → IfSome disk HasGoodLogs
told-good None text told = tt
told-good (Some it) text told = are-good (logs_in it) told.threads told.rests told.are
