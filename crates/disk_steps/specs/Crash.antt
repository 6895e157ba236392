-- An instance crashes, as a line asks.
use Rattle.std.specs.Prelude.{◌≡◌, ℕ, ◌+◌, ◌-◌, ◌^◌, min, false, List, [], length, take, Option, None, Some}
use Rattle.rac_disk.specs.State.{State}
use Rattle.script_text.specs.declared.item.Keep.{Keep}
use Rattle.script_text.specs.declared.item.Keep.TheVariants.{All, AllBut, First}
use Rattle.inst_state.specs.declared.control.Control.{Control}
use Rattle.inst_state.specs.declared.control.Wanted.{Wanted}
use Rattle.inst_state.specs.declared.control.Wanted.TheVariants.{Crash}
use Rattle.inst_state.specs.declared.inst.Inst.{Inst}
use Rattle.inst_state.specs.declared.shared.Core.{Core}
use Rattle.inst_state.specs.Shared.{answering, open_control}
use Rattle.inst_loss.specs.Lost.{lost}
use Rattle.inst_loss.specs.LostCore.{lost_core}
use Rattle.inst_loss.specs.declared.ends.Loss.TheVariants as loss
use Rattle.disk_calls.specs.Calls.{AppendsAs}
use Rattle.disk_calls.specs.declared.appends.Appended.{Appended}
use Rattle.disk_calls.specs.declared.appends.Appended.TheVariants.{Cut, Whole}
use Rattle.disk_steps.specs.declared.crashes.Kept.{Kept}
use Rattle.disk_steps.specs.declared.crashes.Kept.TheVariants.{Bytes, Nothing}

-- how many of so many bytes that wait reach the disk
abbrev pub kept_count : Keep → ℕ → ℕ
kept_count (First count) waiting = min count waiting
kept_count All waiting = waiting
kept_count (AllBut count) waiting = waiting - count

-- how many of so many bytes that wait reach the disk in a crash, by what its line asks
abbrev pub kept_by : Wanted → ℕ → ℕ
kept_by (Crash inst when keep) waiting = kept_count keep waiting
kept_by _ waiting = 0

-- the bytes that reach the disk as an instance crashes by a line
abbrev pub crash_bytes : Inst → Control → List ℕ
crash_bytes n control = take (kept_by control.wanted (length n.thread.waiting)) n.thread.waiting

-- the place behind the bytes that reached the disk
abbrev pub kept_to : Inst → Control → ℕ
kept_to n control = min (n.thread.durable + length (crash_bytes n control)) (2 ^ 64 - 1)

-- the shared part after a crash by a line, as its append went
abbrev pub crash_told_by : Inst → Core → Control → Kept → Core
crash_told_by n core control Nothing = lost_core n core (loss.Crashed control.line) (Some n.thread.durable)
crash_told_by n core control (Bytes Whole) = lost_core n core (loss.Crashed control.line) (Some (kept_to n control))
crash_told_by n core control (Bytes (Cut kept)) = lost_core n (answering core control.line) (loss.Ended false) kept

-- an instance after its crash, if a line asks for it
abbrev pub crashed_by : Inst → Option Control → Inst
crashed_by n None = n
crashed_by n (Some control) = lost n

-- an instance after its crash by a line of the current wave
abbrev pub crashed : Inst → Core → ℕ → Inst
crashed n core line = crashed_by n (open_control core line)

-- the shared part after a crash, if a line asks for it
abbrev pub crash_told_if : Inst → Core → Option Control → Kept → Core
crash_told_if n core None kept = core
crash_told_if n core (Some control) kept = crash_told_by n core control kept

-- the shared part after a crash by a line of the current wave, as its append went
abbrev pub crash_told : Inst → Core → ℕ → Kept → Core
crash_told n core line kept = crash_told_if n core (open_control core line) kept

-- What a crash left on the disk that kept these bytes: there is no call where there are none.
abbrev pub KeepsAs : ℕ → List ℕ → Kept → State → State → Type 0
KeepsAs me bytes Nothing old new = (bytes ≡ []) × (new ≡ old)
KeepsAs me bytes (Bytes how) old new = AppendsAs me bytes how old new

-- the bytes that reach the disk as an instance crashes, if a line asks for it
abbrev pub bytes_if : Inst → Option Control → List ℕ
bytes_if n None = []
bytes_if n (Some control) = crash_bytes n control

-- What a crash by a line of the current wave left on the disk.
abbrev pub CrashesAs : Inst → Core → ℕ → Kept → State → State → Type 0
CrashesAs n core line how old new = KeepsAs n.plan.me (bytes_if n (open_control core line)) how old new
