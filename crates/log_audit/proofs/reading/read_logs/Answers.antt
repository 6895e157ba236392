use Rattle.std.proofs.Common.{rules, ◌≡◌, ◌<◌, ◌+◌, ◌∙◌, [], ◌∷◌, ◌++◌, List, ℕ, Vec, ap, arith, subst, sym}
use Rattle.std.specs.Global.{Global}
use Rattle.std.proofs.lemmas.List.{map-append}
use Rattle.std.proofs.lemmas.Grind.{common_steps}
use Rattle.log_history.specs.Logs.{bytes_of}
use Rattle.log_audit.proofs.ReadingLemmas.{ReadSoFar, read_more}
use Rattle.log_audit.proofs.reading.read_logs.Goals as goal

pub loop-thread-preserved : goal.loop-thread-preserved
loop-thread-preserved g c =
    let old = (g.D.SharedDisk.state c.args.disk.now).told in
    let new = (g.D.SharedDisk.state c.read_log.new.disk).told in
    let thread = c.loop-thread.thread in
    let logs = c.loop-thread.logs.items in
    let log = c.in_ok-log.log in
    let few : thread < 8 = omega arith in
    let more : bytes_of c.push.new.self.items ≡ bytes_of logs ++ log.items ∷ [] =
    ap bytes_of {y = logs ++ log ∷ []} c.in_ok-push.ensures.items ∙ map-append (λ (log : Vec ℕ Global). log.items) logs (log ∷ []) in
    let mid = (g.D.SharedDisk.state c.loop-thread.disk).told in
    let read = read_more thread (bytes_of logs) log.items old mid new few c.loop-thread.invariant.read c.in_ok-log.ensures.bytes c.in_ok-log.ensures.kept in
    record {
      count = grind (arith, common_steps);
      read = subst (λ (bytes : List (List ℕ)). ReadSoFar (thread + 1) bytes old new) (sym more) read;
      faults = search rules;
      full = search rules;
    }
