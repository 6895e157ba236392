use Rattle.std.proofs.Common.{arith, ap, ◌∙◌, sym, ◌≤◌, ◌≡◌, length, ◌-◌, take, drop, ℕ}
use Rattle.std.proofs.lemmas.List.{length-take, length-drop}
use Rattle.rac_io.specs.Memory.{SourceView}
use Rattle.rac_io.proofs.Known.{copied_front, some_copied}
use Rattle.rac_io.proofs.mem_source.MemSourceSource.read.Goals as goal

pub returns-clause-bytes : goal.returns-clause-bytes
returns-clause-bytes c =
    let items = c.self.inside.bytes.items in
    let at = c.self.inside.at in
    let copied = c.copy_from_slice.new.self in
    let count = c.min-count.result in
    let left = take (length c.deref.result.now - at) (drop at c.deref.result.now) in
    let same : c.deref.result.now ≡ items = c.deref.ensures.value in
    let after : copied ≡ take count (take (length items - at) (drop at items)) = rw same at c.copy_from_slice.ensures.after in
    let fits : count ≤ length items - at = omega (arith, length-take {A = ℕ}, length-drop {A = ℕ}, ap length same, c.min-count.ensures) in
    let long : length copied ≡ count = omega (arith, length-take {A = ℕ}, c.copy_from_slice.ensures.len, c.min-count.ensures) in (
      sym (ap (λ (it : SourceView). it.left) c.self.view_is) ∙ copied_front items copied (drop count c.args.out.now) at count fits after,
      λ none room. absurd (some_copied left c.args.out.now copied count c.if-is_empty.ensures c.min-count.ensures none room long),
    )
