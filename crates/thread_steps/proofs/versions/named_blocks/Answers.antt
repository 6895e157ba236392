use Rattle.std.proofs.Common.{◌<◌, ◌∙◌, All, List, ℕ, arith, subst, sym}
use Rattle.std.proofs.lemmas.List.Elements.{All-push}
use Rattle.thread_steps.specs.Versions.{is_named}
use Rattle.thread_steps.proofs.Naming.{named_no, named_yes}
use Rattle.thread_steps.proofs.versions.named_blocks.Goals as goal
use Rattle.thread_steps.proofs.versions.named_blocks.Goals.{else-is_named, then-is_named+in_ok-push}

pub loop-number-preserved : goal.loop-number-preserved
loop-number-preserved c =
    let number = c.loop-number.number in
    let named = is_named c.args.records.now in
    elim c.if-is_named.branch [
      | then-is_named+in_ok-push w ↦
          let pushed = w.blocks-is ∙ w.in_ok-push.ensures.ok in
          record {
            named = named_yes named number c.loop-number.blocks c.if-is_named.blocks (sym c.is_named.ensures ∙ w.if-is_named.true) c.loop-number.invariant.named pushed;
            few = subst (λ (blocks : List ℕ). All (λ block. block < 200) blocks) (sym pushed) (All-push (λ block. block < 200) c.loop-number.blocks number c.loop-number.invariant.few (omega arith));
          }
      | else-is_named w ↦ record {
        named = named_no named number c.loop-number.blocks c.if-is_named.blocks (sym c.is_named.ensures ∙ w.if-is_named.false) c.loop-number.invariant.named w.blocks-is;
        few = subst (λ (blocks : List ℕ). All (λ block. block < 200) blocks) (sym w.blocks-is) c.loop-number.invariant.few;
      }
    ]
