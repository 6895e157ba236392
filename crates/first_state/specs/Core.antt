-- What the instances share before the first step.
use Rattle.std.specs.Prelude.{ℕ, if◌then◌else◌, nat_lt, false, [], length, map, Option, None, Some, replicate}
use Rattle.inst_set.specs.declared.set.InstSet.{InstSet}
use Rattle.inst_set.specs.Sets.{all_insts, no_insts}
use Rattle.scn_clock.specs.declared.clock.Clock.{Clock}
use Rattle.recovery.specs.declared.members.Membership.{Membership}
use Rattle.recovery.specs.declared.members.Phase.TheVariants.{Running}
use Rattle.recovery.specs.Reports.{no_reports}
use Rattle.wire_net.specs.Links.{no_packets}
use Rattle.wire_net.specs.Masters.{dealt}
use Rattle.script_text.specs.ScriptParts.{ScriptParts}
use Rattle.inst_state.specs.declared.shared.Core.{Core}
use Rattle.inst_state.specs.declared.shared.Net.{Net}
use Rattle.inst_state.specs.declared.shared.Recovery.{Recovery}
use Rattle.inst_state.specs.declared.shared.Waves.{Waves}
use Rattle.inst_state.specs.Shared.{insts_below}
use Rattle.first_state.specs.Controls.{controls_of}
use Rattle.first_state.specs.Plan.{layout_of}

-- a clock that shows nothing
abbrev pub start : Clock
start = record { scn = 0; known = 0 }

-- the SCNs of a thread that is known to be closed: of each whose instance isn't there
abbrev pub closed_at : ℕ → ℕ → Option Clock
closed_at instances thread = if nat_lt thread instances then None else Some start

-- No recovery has begun.
abbrev pub first_recovery : ℕ → Recovery
first_recovery instances = record {
  reports = no_reports;
  given = [];
  rebuilt = [];
  bound = start;
  closed = map (closed_at instances) all_insts;
  former = no_insts;
  closed_since = no_insts;
  counted = replicate 8 0;
}

-- The first wave begins.
abbrev pub first_waves : ScriptParts → Waves
first_waves script = record {
  wave = 1;
  count = length script.waves;
  over = false;
  left = no_insts;
  steps = 0;
  marked = no_insts;
  controls = controls_of script.waves;
}

-- No packet is under way, and the buckets are dealt to the live instances.
unfoldable pub first_net : InstSet → Net
first_net live = record { links = no_packets; masters = dealt live }

-- The instances are live, and the membership never changed.
abbrev pub first_members : InstSet → Membership
first_members live = record { epoch = 0; live = live; phase = Running; reported = no_insts }

-- All instances are live, the buckets are dealt to them, and nothing is told.
abbrev pub first_core : ScriptParts → Core
first_core script =
    let live = insts_below script.settings.instances in
    record {
      layout = layout_of script;
      net = first_net live;
      members = first_members live;
      paused = no_insts;
      recovery = first_recovery script.settings.instances;
      waves = first_waves script;
      journal = [];
    }
