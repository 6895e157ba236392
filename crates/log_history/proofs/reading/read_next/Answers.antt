use Rattle.std.proofs.Common.{◌∙◌, ℕ, Vec, ap}
use Rattle.std.specs.Global.{Global}
use Rattle.base_types.specs.declared.names.InstNo.{InstNo}
use Rattle.log_history.proofs.ThreadLemmas.{none_told, torn_told}
use Rattle.log_history.proofs.reading.read_next.Goals as goal
use Rattle.log_history.proofs.reading.read_next.Goals.{then-log+in_ok-push-in-Ok, else-log}

pub returns-in_ok-push-in-Ok-2-clause-ok : goal.returns-in_ok-push-in-Ok-2-clause-ok
returns-in_ok-push-in-Ok-2-clause-ok c =
    let log = c.in-Ok.log in
    let read = c.in-Ok.ensures.ok in
    record {
      records = log.records;
      rest = read.rest;
      is_log = read.is_log;
      ends = read.ends;
      threads = c.in_ok-push-in-Ok-2.ensures.items;
      torn = elim c.if-log.branch [
        | then-log+in_ok-push-in-Ok w ↦
            torn_told c.args.thread log.len log.records read.rest log.torn c.args.torn.now.items c.if-log.torn.items read.torn read.len w.if-log.true (ap (λ (v : Vec (InstNo × ℕ) Global). v.items) w.torn-is ∙ w.in_ok-push-in-Ok.ensures.items)
        | else-log w ↦
            none_told c.args.thread log.records read.rest log.torn c.args.torn.now.items c.if-log.torn.items read.torn w.if-log.false (ap (λ (v : Vec (InstNo × ℕ) Global). v.items) w.torn-is)
      ];
    }
