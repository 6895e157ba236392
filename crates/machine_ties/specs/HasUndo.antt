-- How an ask for undo went that didn't end its instance.
use Rattle.std.specs.Prelude.{Bool, true, false, Option, None, Some}
use Rattle.disk_calls.specs.declared.images.ReadUndo.TheVariants as read
use Rattle.disk_steps.specs.declared.undo_asks.AskedUndo.{AskedUndo}
use Rattle.disk_steps.specs.declared.undo_asks.AskedUndo.TheVariants.{Read}
use Rattle.disk_steps.specs.declared.undo_asks.Lacking.{Lacking}
use Rattle.disk_steps.specs.declared.undo_asks.Lacking.TheVariants.{Undo}
use Rattle.disk_steps.specs.declared.undo_asks.Place.{Place}
use Rattle.disk_steps.specs.AskUndo.{place_of}
use Rattle.inst_state.specs.declared.inst.Inst.{Inst}
use Rattle.inst_state.specs.declared.shared.Core.{Core}
use Rattle.inst_state.specs.Shared.{is_live}

-- a header or an undo block was read
abbrev pub IsRead : AskedUndo → Type 0
IsRead (Read (read.Head head)) = Unit {0}
IsRead (Read (read.Block block)) = Unit {0}
IsRead how = ⊥

-- its instance is live and is asked, or the disk gave it
abbrev pub IsReadWhere : Bool → AskedUndo → Type 0
IsReadWhere true how = Unit {0}
IsReadWhere false how = IsRead how

-- so it is where there is such a place
abbrev pub IsReadAt : Core → Option Place → AskedUndo → Type 0
IsReadAt core None how = ⊥
IsReadAt core (Some place) how = IsReadWhere (is_live core place.seg) how

-- What a line lacks is undo that stands in a segment, whose live instance is asked for it, or which the disk gave.
abbrev pub HasUndo : Inst → Core → Option Lacking → AskedUndo → Type 0
HasUndo n core (Some (Undo what)) how = IsReadAt core (place_of n.plan.layout what) how
HasUndo n core lack how = ⊥
