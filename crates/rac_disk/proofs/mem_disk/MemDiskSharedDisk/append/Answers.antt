use Rattle.std.proofs.Common.{rules, inr, ℕ, ◌≡◌, ◌++◌, take, ap, ◌∙◌, arith}
use Rattle.std.proofs.lemmas.Bool.Decides.{nat_tests}
use Rattle.std.proofs.lemmas.Grind.{common_steps}
use Rattle.rac_disk.specs.Content.{Content, log_at, with_log}
use Rattle.rac_disk.specs.Memory.{piece_of, free_at}
use Rattle.rac_disk.proofs.Kept.{kept_part}
use Rattle.rac_disk.proofs.mem_disk.MemDiskSharedDisk.append.Goals as goal

pub returns-then-is_some-clause-disk : goal.returns-then-is_some-clause-disk
returns-then-is_some-clause-disk c =
    let old : Content = c.args.self.now.disk in
    let thread : ℕ = c.args.t in
    let part = kept_part c.count-keep.result (free_at old thread) c.args.bytes.now in
    let new : Content = c.append-whole.new.self in
    let kept : new ≡ with_log old thread (log_at old thread ++ take (free_at old thread) (piece_of c.count-keep.result c.args.bytes.now)) = grind (arith, common_steps) in
    record {
      disk = (search rules, search rules, (part.0, part.1, kept ∙ ap (λ (l : _). with_log old thread (log_at old thread ++ l)) part.2));
      counts = search rules;
    }

pub returns-then-not-whole-clause-disk : goal.returns-then-not-whole-clause-disk
returns-then-not-whole-clause-disk c =
    let old : Content = c.args.self.now.disk in
    let thread : ℕ = c.args.t in
    let part = kept_part c.count-keep.result (free_at old thread) c.args.bytes.now in
    let new : Content = c.append-whole.new.self in
    let kept : new ≡ with_log old thread (log_at old thread ++ take (free_at old thread) (piece_of c.count-keep.result c.args.bytes.now)) = grind (arith, common_steps) in
    record {
      disk = (search rules, search rules, (part.0, part.1, kept ∙ ap (λ (l : _). with_log old thread (log_at old thread ++ l)) part.2));
      counts = inr (search rules, grind (arith, nat_tests, common_steps));
    }
