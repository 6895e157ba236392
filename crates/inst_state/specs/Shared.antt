-- How what the instances share is read.
use Rattle.std.specs.Prelude.{ℕ, ◌-◌, ◌==◌, ◌&&◌, ◌||◌, nat_le, nat_lt, if◌then◌else◌, not, max, Bool, true, false, List, [], ◌∷◌, find, map, Option, None, Some, is_none, slice_index_or, slice_set}
use Rattle.std.specs.List.{list_all}
use Rattle.std.specs.Option.{option_map}
use Rattle.block_image.specs.Block.{BlockContent}
use Rattle.scn_clock.specs.declared.clock.Clock.{Clock}
use Rattle.journal.specs.declared.entry.Entry.{Entry}
use Rattle.inst_set.specs.declared.set.InstSet.{InstSet}
use Rattle.inst_set.specs.Sets.{has, holds_all, is_empty, without_inst}
use Rattle.recovery.specs.declared.members.Phase.{Phase}
use Rattle.recovery.specs.declared.members.Phase.TheVariants as phase
use Rattle.recovery.specs.Members.{leader}
use Rattle.inst_state.specs.declared.control.Control.{Control}
use Rattle.inst_state.specs.declared.control.Wanted.{Wanted}
use Rattle.inst_state.specs.declared.control.Wanted.TheVariants.{Crash}
use Rattle.inst_state.specs.declared.control.When.{When}
use Rattle.inst_state.specs.declared.control.When.TheVariants.{After, AtMark}
use Rattle.inst_state.specs.declared.shared.Core.{Core}
use Rattle.inst_state.specs.declared.shared.Rebuilt.{Rebuilt}
use Rattle.inst_state.specs.declared.shared.Waves.{Waves}

-- the shared part with one entry more in the journal
abbrev pub told : Core → Entry → Core
told core entry = record core { journal = entry ∷ core.journal }

-- the control lines of the current wave
abbrev pub wave_controls : Waves → List Control
wave_controls waves = slice_index_or waves.controls (waves.wave - 1) []

-- A control line has this number and isn't answered yet.
abbrev pub is_open : ℕ → Control → Bool
is_open line control = control.line == line && not control.done

-- the control line of the current wave with this number that isn't answered yet
abbrev pub open_control : Core → ℕ → Option Control
open_control core line = find (is_open line) (wave_controls core.waves)

-- a control line, answered if it is the one with this number
abbrev pub answered_if : ℕ → Control → Control
answered_if line control = record control { done = control.done || control.line == line }

-- the waves with the control line of the current one that has this number answered
abbrev pub with_answered : Waves → ℕ → Waves
with_answered waves line = record waves {
  controls = slice_set waves.controls (waves.wave - 1) (map (answered_if line) (wave_controls waves));
}

-- the shared part with a control line of the current wave answered
abbrev pub answering : Core → ℕ → Core
answering core line = record core { waves = with_answered core.waves line }

-- Each control line of the current wave is answered.
abbrev pub are_answered : Core → Bool
are_answered core = list_all (λ (control : Control). control.done) (wave_controls core.waves)

-- the instances below a number
unfoldable pub insts_below : ℕ → InstSet
insts_below n = record {
  present =
      nat_lt 0 n ∷ nat_lt 1 n ∷ nat_lt 2 n ∷ nat_lt 3 n ∷ nat_lt 4 n ∷ nat_lt 5 n ∷ nat_lt 6 n ∷ nat_lt 7 n ∷ [];
}

-- Each instance has left the wave.
abbrev pub all_left : Core → Bool
all_left core = holds_all core.waves.left (insts_below core.layout.instances)

-- An instance is live.
abbrev pub is_live : Core → ℕ → Bool
is_live core inst = has core.members.live inst

-- Another instance is live.
abbrev pub has_other_live : Core → ℕ → Bool
has_other_live core me = not (is_empty (without_inst core.members.live me))

-- A phase is the first one of two.
abbrev pub is_running : Phase → Bool
is_running phase.Running = true
is_running _ = false

-- The membership changed, and the instances report.
abbrev pub is_frozen : Phase → Bool
is_frozen phase.Frozen = true
is_frozen _ = false

-- The blocks have masters again, and lost transactions are rolled back.
abbrev pub is_thawed : Phase → Bool
is_thawed phase.Thawed = true
is_thawed _ = false

-- Nobody is live.
abbrev pub is_dark : Phase → Bool
is_dark phase.Dark = true
is_dark _ = false

-- an instance, if there is one, is this one
abbrev pub is_inst : ℕ → Option ℕ → Bool
is_inst me None = false
is_inst me (Some inst) = inst == me

-- An instance leads the recovery.
abbrev pub is_led_by : Core → ℕ → Bool
is_led_by core me = is_inst me (leader core.members)

-- The moment of a crash has come.
abbrev pub is_due_at : Core → ℕ → When → Bool
is_due_at core inst (After steps) = nat_le steps core.waves.steps || all_left core
is_due_at core inst AtMark = has core.waves.marked inst || all_left core

-- A line asks for a crash of an instance whose moment has come.
abbrev pub wants_crash_now : Core → ℕ → Wanted → Bool
wants_crash_now core inst (Crash whose when keep) = whose == inst && is_due_at core inst when
wants_crash_now core inst _ = false

-- the first crash line of a live instance whose moment has come
abbrev pub due_crash : Core → ℕ → Option Control
due_crash core inst =
    if is_live core inst
    then find (λ control. not control.done && wants_crash_now core inst control.wanted) (wave_controls core.waves)
    else None

-- the past image of a block that was handed to the leader
abbrev pub given_of : Core → ℕ → Option BlockContent
given_of core block = find (λ image. image.front.number == block) core.recovery.given

-- the version that recovery wrote of a block
abbrev pub rebuilt_of : Core → ℕ → Option ℕ
rebuilt_of core block =
    option_map (λ (it : Rebuilt). it.version) (find (λ (it : Rebuilt). it.block == block) core.recovery.rebuilt)

-- the SCNs of the control entry of a thread that is known to be closed
abbrev pub closed_of : Core → ℕ → Option Clock
closed_of core inst = slice_index_or core.recovery.closed inst None

-- the shared part with what is known of a thread's being closed
abbrev pub with_closed : Core → ℕ → Option Clock → Core
with_closed core inst scns =
    record core { recovery = record core.recovery { closed = slice_set core.recovery.closed inst scns } }

-- the place in a thread up to which its Committed have entered
abbrev pub counted_of : Core → ℕ → ℕ
counted_of core inst = slice_index_or core.recovery.counted inst 0

-- the shared part once the Committed of a thread have entered up to a place
abbrev pub counting : Core → ℕ → ℕ → Core
counting core inst place =
    record core { recovery = record core.recovery { counted = slice_set core.recovery.counted inst (max (counted_of core inst) place) } }
