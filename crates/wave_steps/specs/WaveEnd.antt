-- A control line finds nothing to do; an instance leaves the wave; the next wave rises.
use Rattle.std.specs.Prelude.{ℕ, ◌+◌, ◌-◌, ◌^◌, ◌==◌, ◌&&◌, ◌||◌, if◌then◌else◌, nat_le, not, min, Bool, false, Option, None, Some, is_none}
use Rattle.std.specs.List.{list_all}
use Rattle.journal.specs.declared.entry.Entry.TheVariants.{NotDone}
use Rattle.inst_set.specs.Sets.{has, is_empty, no_insts, with_inst}
use Rattle.wire_net.specs.Links.{are_empty}
use Rattle.inst_state.specs.declared.control.Control.{Control}
use Rattle.inst_state.specs.declared.control.Wanted.{Wanted}
use Rattle.inst_state.specs.declared.control.Wanted.TheVariants.{Start}
use Rattle.inst_state.specs.declared.inst.Inst.{Inst}
use Rattle.inst_state.specs.declared.inst.Life.{Life}
use Rattle.inst_state.specs.declared.inst.Life.TheVariants.{Joining}
use Rattle.inst_state.specs.declared.shared.Core.{Core}
use Rattle.inst_state.specs.declared.shared.Waves.{Waves}
use Rattle.inst_state.specs.Controls.{maker}
use Rattle.inst_state.specs.Shared.{all_left, answering, are_answered, is_dark, is_live, is_running, open_control, told}
use Rattle.inst_state.specs.State.{line_now}

-- An instance is on its way up by a start line.
abbrev pub joins_by : ℕ → Life → Bool
joins_by line (Joining own) = own == line
joins_by line _ = false

-- A line finds nothing to do: a start line whose instance is live and not on its way by that line, any other one whose
-- instance isn't live.
abbrev pub finds_nothing : Inst → Core → ℕ → Wanted → Bool
finds_nothing n core line (Start inst) = is_live core n.plan.me && not (joins_by line n.life)
finds_nothing n core line _ = not (is_live core n.plan.me)

-- An open control line, if there is one, is this instance's and finds nothing to do.
abbrev pub is_idle_line : Inst → Core → Option Control → Bool
is_idle_line n core None = false
is_idle_line n core (Some control) =
    maker control.wanted == n.plan.me && finds_nothing n core control.line control.wanted

-- An open control line of an instance finds nothing to do.
abbrev pub may_skip : Inst → Core → ℕ → Bool
may_skip n core line = is_idle_line n core (open_control core line)

-- the shared part after an open control line, if there is one, was answered as one that found nothing to do
abbrev pub skipped_line : Core → Option Control → Core
skipped_line core None = core
skipped_line core (Some control) = told (answering core control.line) (NotDone control.line)

-- the shared part after a control line that found nothing to do
abbrev pub skipped : Core → ℕ → Core
skipped core line = skipped_line core (open_control core line)

-- Each session of an instance has all its lines of the wave answered.
abbrev pub has_answered_all : Inst → Bool
has_answered_all n = list_all (λ z. is_none (line_now n z)) n.plan.mine

-- An instance leaves the wave once it has entered it and its lines of the wave are answered.
abbrev pub may_leave : Inst → Core → Bool
may_leave n core =
    n.wave.entered == core.waves.wave && not core.waves.over && not (has core.waves.left n.plan.me)
    && has_answered_all n

-- the shared part after an instance has left the wave
abbrev pub left : Inst → Core → Core
left n core = record core { waves = record core.waves { left = with_inst core.waves.left n.plan.me } }

-- No recovery is under way.
abbrev pub is_settled : Core → Bool
is_settled core = is_running core.members.phase || is_dark core.members.phase

-- The first instance lets the next wave rise once each instance has left this one, each control line is answered, no
-- recovery is under way, nobody is paused and no message is under way.
abbrev pub may_rise : Inst → Core → Bool
may_rise n core =
    n.plan.me == 0 && not core.waves.over && all_left core && are_answered core && is_settled core
    && is_empty core.paused && are_empty core.net.links

-- The current wave is the last one.
abbrev pub is_last : Waves → Bool
is_last waves = nat_le waves.count waves.wave

-- the next wave, in which nothing was done yet; the last one is followed by none
abbrev pub next_wave : Waves → Waves
next_wave waves = record waves {
  wave = if is_last waves then waves.wave else min (waves.wave + 1) (2 ^ 32 - 1);
  over = waves.over || is_last waves;
  left = no_insts;
  steps = 0;
  marked = no_insts;
}

-- the shared part after the next wave has risen
abbrev pub risen : Core → Core
risen core = record core { waves = next_wave core.waves }
