use Rattle.std.proofs.Common.{rules, arith, ◌≡◌, ◌≢◌, ◌<◌, ◌∙◌, ℕ, List, length, map, slice_index_or, Option, None, IfSome, ap, sym, subst}
use Rattle.std.proofs.Math.Seq.{map-set_same}
use Rattle.std.proofs.lemmas.Grind.{common_steps}
use Rattle.rac_disk.specs.Content.{log_at}
use Rattle.file_disk.specs.Files.{of_log}
use Rattle.file_disk.proofs.LogFiles.{of_log-file}
use Rattle.file_disk.proofs.LogLemmas.{one_log_more}
use Rattle.file_disk.proofs.opening.read_logs.Goals as goal

pub loop-thread-preserved : goal.loop-thread-preserved
loop-thread-preserved g c =
    let holds_of = g.F.DiskFile.holds in
    let thread = c.loop-thread.thread in
    let files = c.loop-thread.files in
    let old = c.loop-thread.content in
    let new = c.read_log.new.content in
    let at : c.from.result ≡ thread = grind (arith, common_steps) in
    let inside : thread < length files = grind (arith, common_steps) in
    let told : of_log holds_of files thread ≡ slice_index_or (map holds_of c.args.files.now) thread None = ap (λ (l : List (Option (List ℕ))). slice_index_or l thread None) c.loop-thread.invariant.holds in
    let file = of_log-file holds_of files c.from.result thread c.index-files-from.result at inside in
    let log : IfSome (slice_index_or (map holds_of c.args.files.now) thread None) (λ bytes. log_at new thread ≡ bytes) =
    subst (λ (t : Option (List ℕ)). IfSome t (λ bytes. log_at new thread ≡ bytes)) (sym file ∙ told) c.in_ok-read_log.ensures.log in
    let others : (k : ℕ) → k ≢ thread → log_at new k ≡ log_at old k = c.in_ok-read_log.ensures.other_logs in
    record {
      read = one_log_more thread (map holds_of c.args.files.now) old new c.loop-thread.invariant.read log others;
      rest = λ k from below. others k (omega (arith, from)) ∙ c.loop-thread.invariant.rest k (omega (arith, from)) below;
      others = search rules;
      holds = map-set_same holds_of files c.from.result c.read_log.new.file c.index-files-from.result c.in_ok-read_log.ensures.holds ∙ c.loop-thread.invariant.holds;
      is_disk = search rules;
    }
