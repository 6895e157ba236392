use Rattle.std.proofs.Common.{All, List, Vec, arith, subst, sym}
use Rattle.std.specs.Global.{Global}
use Rattle.redo_types.specs.declared.redo.Redo.{Redo}
use Rattle.redo_record.specs.Redo.{IsRedo}
use Rattle.log_history.specs.Logs.{bytes_of}
use Rattle.log_history.proofs.ThreadLemmas.{all_records, as_many}
use Rattle.log_history.proofs.history.history_of.Goals as goal

pub history-requires-clause-few : goal.history-requires-clause-few
history-requires-clause-few c =
    let many = as_many c.args.logs.now c.in_ok-threads.field-0.threads.items c.in_ok-threads.ensures.ok.0 c.in_ok-threads.ensures.ok.1 in
    omega arith

pub history-requires-clause-records : goal.history-requires-clause-records
history-requires-clause-records c =
    subst (λ (threads : List (List Redo)). All (All IsRedo) threads) (sym c.as_slice.ensures.value) (all_records (bytes_of c.args.logs.now) c.in_ok-threads.field-0.threads.items c.in_ok-threads.ensures.ok.0 c.in_ok-threads.ensures.ok.1)
