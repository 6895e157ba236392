-- An instance enters the wave.
use Rattle.std.specs.Prelude.{ℕ, ◌==◌, ◌&&◌, if◌then◌else◌, nat_lt, not, Bool, List, ◌∷◌, fold, slice_index_or, slice_set}
use Rattle.journal.specs.declared.entry.Entry.{Entry}
use Rattle.journal.specs.declared.entry.Entry.TheVariants.{Opened}
use Rattle.inst_state.specs.declared.inst.Inst.{Inst}
use Rattle.inst_state.specs.declared.plan.Opening.{Opening}
use Rattle.inst_state.specs.declared.session.Session.{Session}
use Rattle.inst_state.specs.declared.shared.Core.{Core}
use Rattle.inst_state.specs.Sessions.{new_session}
use Rattle.inst_state.specs.Shared.{wave_controls}
use Rattle.inst_state.specs.State.{is_up}
use Rattle.wave_steps.specs.Begins.{begun_in}

-- An instance enters a wave that it hasn't entered yet.
abbrev pub may_enter : Inst → Core → Bool
may_enter n core = nat_lt n.wave.entered core.waves.wave && not core.waves.over

-- a session that is opened: it is connected where its instance is up
abbrev pub opened : Bool → Session → Session
opened up s = record s { connected = up }

-- the sessions after an opening, if it is of this wave
abbrev pub opened_if : Bool → ℕ → List Session → Opening → List Session
opened_if up wave sessions opening =
    if opening.wave == wave
    then slice_set sessions opening.session (opened up (slice_index_or sessions opening.session new_session))
    else sessions

-- the sessions of an instance after those of a wave were opened
abbrev pub with_opened : Inst → ℕ → List Session
with_opened n wave = fold (opened_if (is_up n.life) wave) n.sessions n.plan.openings

-- a journal with an opening told, if it is of this wave
abbrev pub told_if : ℕ → ℕ → List Entry → Opening → List Entry
told_if me wave journal opening = if opening.wave == wave then Opened opening.session me ∷ journal else journal

-- a journal with the openings of a wave told, in their order
abbrev pub with_openings_told : Inst → ℕ → List Entry → List Entry
with_openings_told n wave journal = fold (told_if n.plan.me wave) journal n.plan.openings

-- An instance that enters the wave opens its sessions of the wave and begins the checkpoints that it is asked for.
abbrev pub entered : Inst → Core → Inst
entered n core = record n {
  sessions = with_opened n core.waves.wave;
  wave = record n.wave { entered = core.waves.wave; checkpoints = begun_in n (wave_controls core.waves) };
}

-- the shared part after an instance has entered the wave: the openings are told
abbrev pub entered_core : Inst → Core → Core
entered_core n core = record core { journal = with_openings_told n core.waves.wave core.journal }
