-- What an instance has that has ended.
use Rattle.std.specs.Prelude.{ℕ, if◌then◌else◌, false, [], map, None, replicate}
use Rattle.buffer_cache.specs.Cache.{empty_cache}
use Rattle.redo_thread.specs.Thread.{ThreadState}
use Rattle.undo_segment.specs.Dirty.{all_clean}
use Rattle.resource_dir.specs.Directory.{no_buckets}
use Rattle.inst_state.specs.declared.inst.Begun.{Begun}
use Rattle.inst_state.specs.declared.inst.Inst.{Inst}
use Rattle.inst_state.specs.declared.inst.Leading.{Leading}
use Rattle.inst_state.specs.declared.inst.Life.TheVariants.{Down}
use Rattle.inst_state.specs.declared.inst.Mastering.{Mastering}
use Rattle.inst_state.specs.declared.inst.OwnWave.{OwnWave}
use Rattle.inst_state.specs.declared.session.Session.{Session}
use Rattle.inst_state.specs.Sessions.{answered, is_idle, new_job}

-- a session whose line is answered, if it is under way
abbrev pub stopped : Session → Session
stopped s = if is_idle s.doing then s else answered s

-- A session of an instance that has ended isn't connected any more, and has no transaction.
abbrev pub lost_session : Session → Session
lost_session s = record (stopped s) { connected = false; own = None; standing = 0; marks = []; job = new_job }

-- A checkpoint of an instance that has ended waits for nothing.
abbrev pub idle_checkpoint : Begun → Begun
idle_checkpoint begun =
    record begun { blocks = replicate 64 false; segment = replicate 17 false; pasts = replicate 64 None }

-- what an instance masters that has ended: nothing
abbrev pub lost_mastering : Mastering → Mastering
lost_mastering m = record m { directory = no_buckets; sent = record { by_bucket = replicate 16 None } }

-- the wave as an instance sees it that has ended
abbrev pub lost_wave : OwnWave → OwnWave
lost_wave wave = record wave { checkpoints = map idle_checkpoint wave.checkpoints }

-- what an instance that has ended has as a leader: nothing
abbrev pub lost_leading : Leading
lost_leading = record {
  leads = false;
  adopted = [];
  recovering = record { epoch = 0; threads = []; versions = []; rebuilt = [] };
}

-- The redo thread of an instance that has ended: what is on the disk stays, and what waited is lost.
abbrev pub lost_thread : ℕ → ThreadState → ThreadState
lost_thread me thread = record { number = me; durable = thread.durable; waiting = []; durable_scn = 0; newest_scn = 0 }

-- The part of an instance that has ended: what it had in memory is lost, and of its segment nothing is dirty. Its clock, its
-- thread and its segment are made anew as it comes up again.
abbrev pub lost : Inst → Inst
lost n = record n {
  life = Down;
  paused = false;
  made = [];
  ends = [];
  thread = lost_thread n.plan.me n.thread;
  segment = all_clean n.segment;
  cache = empty_cache n.plan.frames n.plan.blocks;
  mastering = lost_mastering n.mastering;
  sessions = map lost_session n.sessions;
  wave = lost_wave n.wave;
  leading = lost_leading;
}
