-- The world before the first step.
use Rattle.std.specs.Prelude.{◌≡◌, ℕ, ◌+◌, List, [], ◌∷◌, length}
use Rattle.wire_net.specs.declared.masters.Masters.{Masters}
use Rattle.script_text.specs.ScriptParts.{ScriptParts}
use Rattle.inst_state.specs.declared.inst.Inst.{Inst}
use Rattle.first_state.specs.Core.{first_core}
use Rattle.first_state.specs.Inst.{first_inst}
use Rattle.first_state.specs.Plan.{first_plan, parts_of}
use Rattle.world_machine.specs.declared.worlds.World.{World}

-- An instance is the one that the script sets before the first step, where the buckets have these masters.
pub record IsFirst (script : ScriptParts) (masters : Masters) (me : ℕ) (n : Inst) : Type 0 where
  pub plan : parts_of n.plan ≡ first_plan script me
  pub part : n ≡ first_inst (length script.names) masters n.plan

-- The instances from number me on are so.
abbrev pub AreFirst : ScriptParts → Masters → ℕ → List Inst → Type 0
AreFirst script masters me [] = Unit {0}
AreFirst script masters me (n ∷ insts) = IsFirst script masters me n × AreFirst script masters (me + 1) insts

-- A world is the one before the first step: what is shared, and each instance, are as the script sets them.
pub record IsFirstWorld (script : ScriptParts) (w : World) : Type 0 where
  pub core : w.core ≡ first_core script
  pub count : length w.insts ≡ script.settings.instances
  pub insts : AreFirst script (first_core script).net.masters 0 w.insts
