-- An instance before the first step.
use Rattle.std.specs.Prelude.{ℕ, false, [], None, replicate}
use Rattle.wire_net.specs.declared.masters.Masters.{Masters}
use Rattle.buffer_cache.specs.Cache.{empty_cache}
use Rattle.resource_dir.specs.Rebuilt.{rebuilt_directory}
use Rattle.undo_segment.specs.New.{new_segment}
use Rattle.inst_state.specs.declared.inst.Inst.{Inst}
use Rattle.inst_state.specs.declared.inst.Leading.{Leading}
use Rattle.inst_state.specs.declared.inst.Life.TheVariants.{Up}
use Rattle.inst_state.specs.declared.inst.Mastering.{Mastering}
use Rattle.inst_state.specs.declared.plan.Plan.{Plan}
use Rattle.inst_state.specs.Sessions.{new_session}
use Rattle.first_state.specs.Core.{start}

-- an instance masters the buckets that are dealt to it, and nobody holds a block
abbrev pub first_mastering : Masters → ℕ → Mastering
first_mastering masters me = record {
  directory = rebuilt_directory me masters [];
  sent = record { by_bucket = replicate 16 None };
  taken = 0;
}

-- It leads no recovery.
abbrev pub first_leading : Leading
first_leading = record {
  leads = false;
  adopted = [];
  recovering = record { epoch = 0; threads = []; versions = []; rebuilt = [] };
}

-- The instance is up, has made no record, and holds no block; none of so many sessions was opened yet.
abbrev pub first_inst : ℕ → Masters → Plan → Inst
first_inst sessions masters plan = record {
  plan = plan;
  life = Up;
  paused = false;
  clock = start;
  thread = record { number = plan.me; durable = 0; waiting = []; durable_scn = 0; newest_scn = 0 };
  entry_scns = start;
  made = [];
  ends = [];
  segment = new_segment plan.layout plan.me;
  cache = empty_cache plan.frames plan.blocks;
  newest = replicate 64 0;
  mastering = first_mastering masters plan.me;
  sessions = replicate sessions new_session;
  wave = record { entered = 0; checkpoints = [] };
  leading = first_leading;
}
