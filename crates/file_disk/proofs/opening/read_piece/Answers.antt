use Rattle.std.proofs.Common.{rules, arith, ◌≡◌, ◌<◌, ◌≤◌, ◌++◌, ℕ, List, length, take, drop, IfSome, subst}
use Rattle.std.proofs.lemmas.Bool.Decides.{nat_tests}
use Rattle.std.proofs.lemmas.Grind.{common_steps}
use Rattle.rac_disk.specs.Content.{log_at, with_log}
use Rattle.rac_disk.specs.Memory.{free_at}
use Rattle.file_disk.proofs.LogLemmas.{piece_put}
use Rattle.file_disk.proofs.opening.read_piece.Goals as goal

pub returns-clause-piece : goal.returns-clause-piece
returns-clause-piece g c =
    let old = c.args.content.now in
    let thread : ℕ = c.args.thread in
    let piece : List ℕ = take c.in_ok-count.count c.read.new.out in
    let after : c.append.new.self ≡ with_log old thread (log_at old thread ++ take (free_at old thread) piece) = c.append.ensures.after in
    let fits : length piece ≤ free_at old thread = grind (arith, nat_tests, common_steps) in
    let inside : thread < length old.logs = omega (arith, c.requires.thread, c.requires.is_disk.logs) in
    let long : length c.read.new.out ≡ 4096 = search rules in
    let read : IfSome (g.F.DiskFile.holds c.args.file.now) (λ bytes. piece ≡ take 4096 (drop c.args.at bytes)) =
    subst (λ (n : ℕ). IfSome (g.F.DiskFile.holds c.args.file.now) (λ bytes. piece ≡ take n (drop c.args.at bytes))) long c.in_ok-count.ensures.bytes in
    piece_put (g.F.DiskFile.holds c.args.file.now) old c.append.new.self thread c.args.at (free_at old thread) piece inside after fits read
