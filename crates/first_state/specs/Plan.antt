-- What a script lays down for an instance.
use Rattle.std.specs.Prelude.{ℕ, ◌==◌, if◌then◌else◌, Bool, false, List, [], ◌∷◌, Option, None, Some, filter, length, map, slice_get}
use Rattle.std.specs.List.{enumerate_from, flat_map, range_with_len}
use Rattle.base_types.specs.declared.layout.Layout.{Layout}
use Rattle.script_text.specs.declared.item.Item.{Item}
use Rattle.script_text.specs.declared.item.Item.TheVariants.{Session}
use Rattle.script_text.specs.ScriptParts.{ScriptParts}
use Rattle.undo_segment.specs.Handed.{HandedState}
use Rattle.inst_state.specs.declared.line.Line.{Line}
use Rattle.inst_state.specs.declared.plan.Opening.{Opening}
use Rattle.inst_state.specs.declared.plan.Plan.{Plan}
use Rattle.first_state.specs.Lines.{session_lines}

-- how the disk is laid out
abbrev pub layout_of : ScriptParts → Layout
layout_of script = record {
  instances = script.settings.instances;
  blocks = script.settings.blocks;
  undo = script.settings.undo;
}

-- the waves with their numbers, from 1 on
abbrev pub numbered : ScriptParts → List (ℕ × List (ℕ × Item))
numbered script = enumerate_from 1 script.waves

-- the numbers of all sessions
abbrev pub sessions_of : ScriptParts → List ℕ
sessions_of script = range_with_len 0 (length script.names)

-- the home, if there is one, is this instance
abbrev pub is_inst : ℕ → Option ℕ → Bool
is_inst me None = false
is_inst me (Some home) = home == me

-- A session is opened on an instance.
abbrev pub is_home : ScriptParts → ℕ → ℕ → Bool
is_home script me z = is_inst me (slice_get script.homes z)

-- the lines of a session, if it is opened on the instance
abbrev pub lines_of : ScriptParts → ℕ → ℕ → List Line
lines_of script me z = if is_home script me z then session_lines z (numbered script) else []

-- the opening that an item of a wave is, if it is one on the instance
abbrev pub openings_at : ℕ → ℕ → ℕ × Item → List Opening
openings_at me wave (line, Session session inst) =
    if inst == me then record { wave = wave; session = session } ∷ [] else []
openings_at me wave _ = []

-- the sessions that are opened on the instance in a wave
abbrev pub openings_in : ℕ → ℕ × List (ℕ × Item) → List Opening
openings_in me wave = flat_map (openings_at me wave.0) wave.1

-- the parts of a plan
pub record PlanParts : Type 0 where
  pub me : ℕ
  pub layout : Layout
  pub frames : ℕ
  pub blocks : ℕ
  pub lines : List (List Line)
  pub mine : List ℕ
  pub openings : List Opening
  pub nothing : HandedState

-- a plan as its parts
abbrev pub parts_of : Plan → PlanParts
parts_of plan = record {
  me = plan.me;
  layout = plan.layout;
  frames = plan.frames;
  blocks = plan.blocks;
  lines = plan.lines;
  mine = plan.mine;
  openings = plan.openings;
  nothing = plan.nothing;
}

-- the parts of an instance's plan
abbrev pub first_plan : ScriptParts → ℕ → PlanParts
first_plan script me = record {
  me = me;
  layout = layout_of script;
  frames = script.settings.cache;
  blocks = script.settings.blocks;
  lines = map (lines_of script me) (sessions_of script);
  mine = filter (is_home script me) (sessions_of script);
  openings = flat_map (openings_in me) (numbered script);
  nothing = record { heads = []; blocks = [] };
}
