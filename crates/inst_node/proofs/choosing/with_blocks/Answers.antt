use Rattle.std.proofs.Common.{◌≡◌, ℕ, ◌++◌, ◌∙◌, List, [], ap, append-nil, subst, sym}
use Rattle.std.specs.Result.{OnOk}
use Rattle.inst_node.specs.declared.actions.Action.TheVariants.{Block}
use Rattle.inst_node.specs.declared.actions.Step.{Step}
use Rattle.inst_node.specs.Choices.{offer}
use Rattle.inst_node.proofs.Ranges.{flat_step}
use Rattle.inst_node.proofs.choosing.with_blocks.Goals as goal

pub loop-block-preserved : goal.loop-block-preserved
loop-block-preserved c =
    let choices = λ (block : ℕ). offer c.args.me c.args.inst.now c.args.core.now (Block c.args.kind block) in
    let out = c.loop-block.out in
    let block = c.loop-block.block in
    let adds = subst (λ result. OnOk result (c.offer.new.out ≡ out ++ choices block)) c.in_ok-offer.was c.offer.ensures in
    flat_step choices block c.args.out.now out _ c.loop-block.invariant (adds ∙ ap (λ (l : List Step). out ++ l) (sym (append-nil (choices block))))
