-- The first instances, one after another.
use Rattle.std.proofs.Common.{◌≡◌, ℕ, ◌+◌, List, [], ◌∷◌, ◌++◌, length, length-append, subst, sym, ap, ◌∙◌, arith}
use Rattle.wire_net.specs.declared.masters.Masters.{Masters}
use Rattle.script_text.specs.ScriptParts.{ScriptParts}
use Rattle.inst_state.specs.declared.inst.Inst.{Inst}
use Rattle.inst_state.specs.declared.shared.Core.{Core}
use Rattle.first_state.specs.Core.{first_core}
use Rattle.world_machine.specs.declared.worlds.World.{World}
use Rattle.cluster_run.specs.First.{AreFirst, IsFirst, IsFirstWorld}

-- one more instance behind others
pub first_more : (script : ScriptParts) (masters : Masters) (i : ℕ) (insts : List Inst) (n : Inst) → AreFirst script masters i insts
    → IsFirst script masters (i + length insts) n → AreFirst script masters i (insts ++ n ∷ [])
first_more script masters i [] n before next =
    let e : i + 0 ≡ i = omega arith in
    (subst (λ (k : ℕ). IsFirst script masters k n) e next, tt)
first_more script masters i (m ∷ insts) n before next =
    let e : i + length (m ∷ insts) ≡ i + 1 + length insts = omega arith in
    (before.0, first_more script masters (i + 1) insts n before.1 (subst (λ (k : ℕ). IsFirst script masters k n) e next))

-- the same of instances that are counted, and of those that a push left
pub first_next : (script : ScriptParts) (masters : Masters) (insts more : List Inst) (me : ℕ) (n : Inst)
    → AreFirst script masters 0 insts × (length insts ≡ me) → IsFirst script masters me n → more ≡ insts ++ n ∷ []
    → AreFirst script masters 0 more × (length more ≡ me + 1)
first_next script masters insts more me n before next pushed =
    let e : me ≡ 0 + length insts = omega arith in
    let all : AreFirst script masters 0 (insts ++ n ∷ []) = first_more script masters 0 insts n before.0 (subst (λ (k : ℕ). IsFirst script masters k n) e next) in (
      subst (λ (x : List Inst). AreFirst script masters 0 x) (sym pushed) all,
      simp length-append at (ap length pushed) ∙ omega arith,
    )

-- the first world of what is shared, and of the first instances where the buckets have its masters
pub is_first_world : (script : ScriptParts) (w : World) → w.core ≡ first_core script → length w.insts ≡ script.settings.instances
    → AreFirst script w.core.net.masters 0 w.insts → IsFirstWorld script w
is_first_world script w core count insts = record {
  core = core;
  count = count;
  insts = subst (λ (x : Core). AreFirst script x.net.masters 0 w.insts) core insts;
}
