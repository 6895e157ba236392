-- The steps that may be made, instance after instance.
use Rattle.std.proofs.Common.{◌≡◌, ℕ, ◌+◌, ◌<◌, List, [], ◌∷◌, ◌++◌, ◌∙◌, ap, sym, append_assoc, drop, get_or, length}
use Rattle.std.proofs.lemmas.List.{drop_more}
use Rattle.inst_state.specs.declared.inst.Inst.{Inst}
use Rattle.inst_state.specs.declared.shared.Core.{Core}
use Rattle.inst_node.specs.declared.actions.Step.{Step}
use Rattle.inst_node.specs.Choices.{choices}
use Rattle.world_machine.specs.Enabled.{enabled_from}

-- the next instance's steps come next
pub enabled_next : (core : Core) (insts : List Inst) (i : ℕ) (x : Inst) (out more all : List Step) → i < length insts
    → x ≡ get_or insts i x → more ≡ out ++ choices i x core → out ++ enabled_from i (drop i insts) core ≡ all
    → more ++ enabled_from (i + 1) (drop (i + 1) insts) core ≡ all
enabled_next core insts i x out more all lt at added before =
    ap (λ (l : List Step). l ++ enabled_from (i + 1) (drop (i + 1) insts) core) added
    ∙ append_assoc out (choices i x core) (enabled_from (i + 1) (drop (i + 1) insts) core)
    ∙ ap (λ (l : List Inst). out ++ enabled_from i l core) (sym front)
    ∙ before
  where
    front : drop i insts ≡ x ∷ drop (i + 1) insts
    front = drop_more insts i x lt ∙ ap (λ (y : Inst). y ∷ drop (i + 1) insts) (sym at)
