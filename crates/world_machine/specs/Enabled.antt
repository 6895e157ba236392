-- The steps that may be made.
use Rattle.std.specs.Prelude.{ℕ, ◌+◌, List, [], ◌∷◌, ◌++◌, Option, None, Some}
use Rattle.inst_state.specs.declared.control.Control.{Control}
use Rattle.inst_state.specs.declared.inst.Inst.{Inst}
use Rattle.inst_state.specs.declared.shared.Core.{Core}
use Rattle.inst_state.specs.Shared.{due_crash}
use Rattle.inst_node.specs.declared.actions.Action.TheVariants.{Line}
use Rattle.inst_node.specs.declared.actions.LineStep.TheVariants.{Crash}
use Rattle.inst_node.specs.declared.actions.Step.{Step}
use Rattle.inst_node.specs.Choices.{choices}
use Rattle.world_machine.specs.declared.worlds.World.{World}

-- the steps, but for crashes, that the instances from number i on may make
abbrev pub enabled_from : ℕ → List Inst → Core → List Step
enabled_from i [] core = []
enabled_from i (n ∷ insts) core = choices i n core ++ enabled_from (i + 1) insts core

-- the steps, but for crashes, that may be made: by instance, and then in the order of the kinds
abbrev pub enabled : World → List Step
enabled w = enabled_from 0 w.insts w.core

-- the crash of an instance by a line, if there is one; else this
abbrev pub crash_or : ℕ → Option Control → Option Step → Option Step
crash_or i (Some control) later = Some (record { inst = i; action = Line Crash control.line })
crash_or i None later = later

-- the first due crash of the instances from number i on
abbrev pub due_from : ℕ → List Inst → Core → Option Step
due_from i [] core = None
due_from i (n ∷ insts) core = crash_or i (due_crash core n.plan.me) (due_from (i + 1) insts core)

-- the first due crash
abbrev pub due : World → Option Step
due w = due_from 0 w.insts w.core
