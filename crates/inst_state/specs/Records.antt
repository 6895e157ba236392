-- What a redo record that is made does to the instance's own part.
use Rattle.std.specs.Prelude.{ℕ, Bool, [], ◌∷◌, ◌++◌, slice_set}
use Rattle.redo_types.specs.declared.redo.Redo.{Redo}
use Rattle.redo_thread.specs.Thread.{appended, end_of}
use Rattle.scn_clock.specs.Clock.{raised}
use Rattle.inst_state.specs.declared.inst.Inst.{Inst}
use Rattle.inst_state.specs.declared.inst.Made.{Made}

-- a record that is made next
abbrev pub made_next : Inst → Redo → Bool → Made
made_next n redo ends = record { at = end_of n.thread; scn = redo.scn; ends = ends }

-- the instance with one record more that waits, the end of a transaction or another one
abbrev pub with_record : Inst → Redo → Bool → Inst
with_record n redo ends = record n {
  clock = raised n.clock redo.scn;
  thread = appended n.thread redo;
  made = n.made ++ made_next n redo ends ∷ [];
}

-- the instance with the place behind its last record noted as that of a data block
abbrev pub with_newest : Inst → ℕ → Inst
with_newest n block = record n { newest = slice_set n.newest block (end_of n.thread) }
