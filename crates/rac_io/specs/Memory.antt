-- Sources and sinks in memory, as contracts see them.
use Rattle.std.specs.Prelude.{ℕ, zero, suc, ◌+◌, ◌-◌, ◌^◌, ◌==◌, min, max, Bool, true}
use Rattle.std.specs.Prelude.{false, if◌then◌else◌, List, [], ◌∷◌, ◌++◌, length, take, drop}
use Rattle.std.specs.List.{list_any}
use Rattle.rac_io.specs.declared.source.Got.{Got}
use Rattle.rac_io.specs.declared.sink.Put.{Put}

-- a count of 64 bits after one more, which stops at the last value
abbrev pub count_after : ℕ → ℕ
count_after count = max count (min (count + 1) (2 ^ 64 - 1))

-- The calls of a source or a sink in memory: the numbers, from 1, of those that are to fail, how many were made,
-- and how many failed.
pub record Calls : Type 0 where
  pub fails : List ℕ
  pub made : ℕ
  pub faults : ℕ

-- the next call is one that is to fail
abbrev pub next_is_to_fail : Calls → Bool
next_is_to_fail calls = list_any (λ number. number == count_after calls.made) calls.fails

-- the calls with one more, which failed or not
abbrev pub with_call : Calls → Bool → Calls
with_call calls failed = record {
  fails = calls.fails;
  made = count_after calls.made;
  faults = if failed then count_after calls.faults else calls.faults;
}

-- a source in memory: the bytes that it has left, and its calls
pub record SourceView : Type 0 where
  pub left : List ℕ
  pub calls : Calls

-- what a read that is to fail, or isn't, answers at these bytes left and so much room: as many bytes as it can
abbrev pub read_answer : Bool → List ℕ → ℕ → Got
read_answer true left room = Got.Failed
read_answer false [] room = Got.End
read_answer false (byte ∷ left) room = Got.Bytes (min (length (byte ∷ left)) room)

-- a source after a read that gave this
abbrev pub after_read : SourceView → Got → SourceView
after_read it (Got.Bytes count) = record { left = drop count it.left; calls = with_call it.calls false }
after_read it Got.End = record { left = it.left; calls = with_call it.calls false }
after_read it Got.Failed = record { left = it.left; calls = with_call it.calls true }

-- a sink in memory: the bytes that it holds, how many it can hold, and its calls
pub record SinkView : Type 0 where
  pub holds : List ℕ
  pub room : ℕ
  pub calls : Calls

-- What a write that is to fail, or isn't, answers at so many free places and this piece: as many bytes as it can.
-- It fails where no byte of its piece has a place.
abbrev pub write_answer : Bool → ℕ → List ℕ → Put
write_answer true free piece = Put.Failed
write_answer false free [] = Put.Bytes 0
write_answer false zero (byte ∷ piece) = Put.Failed
write_answer false (suc free) (byte ∷ piece) = Put.Bytes (min (suc free) (length (byte ∷ piece)))

-- a sink after a write of this piece that was answered so
abbrev pub after_write : SinkView → List ℕ → Put → SinkView
after_write it piece (Put.Bytes count) =
    record { holds = it.holds ++ take count piece; room = it.room; calls = with_call it.calls false }
after_write it piece Put.Failed = record { holds = it.holds; room = it.room; calls = with_call it.calls true }
