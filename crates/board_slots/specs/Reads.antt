-- When a block may be read.
use Rattle.std.specs.Prelude.{ℕ, ◌≡◌, List, ◌++◌, Option, None, IfSome}
use Rattle.std.specs.List.{AllByRecursion}
use Rattle.base_types.specs.declared.names.Xid.{Xid}
use Rattle.block_image.specs.Block.{BlockContent}
use Rattle.undo_segment.specs.declared.fetch.Fetch.{Fetch}
use Rattle.undo_segment.specs.declared.look.Look.{Look}
use Rattle.undo_segment.specs.Handed.{HandedState}
use Rattle.undo_segment.specs.Segment.{SegmentState}
use Rattle.board_slots.specs.Block.{Record, committed, content, stands}
use Rattle.board_slots.specs.Hand.{IsAtHand}
use Rattle.board_slots.specs.Images.{IsSeen}
use Rattle.board_slots.specs.Records.{AreMade, Sound}
use Rattle.board_slots.specs.Told.{IsTold, ended}

-- A block has the content of records that leave it sound, the reader's own transaction hasn't committed there, and a look
-- at headers and undo tells of each deed that stands.
pub record MayRead (records : List Record) (block : BlockContent) (me : Option Xid) (ended : Xid → Option ℕ)
    (look : Xid → Look) (fetch : Xid → ℕ → Fetch) : Type 0 where
  pub sound : Sound records
  pub seen : IsSeen block (content records)
  pub open_there : IfSome me (λ xid. committed records xid ≡ None)
  pub told : AllByRecursion (IsTold block.front.number (committed records) ended look fetch) (stands records)

-- the end of each transaction, by the records up to a later moment of its own
abbrev pub ended_later : (Xid → List Record) → List Record → Xid → Option ℕ
ended_later newer there xid = ended (newer xid ++ there) xid

-- For each transaction the rules made the records of a block, and those up to a later moment of its own, of which what is
-- at hand of its deeds is. The reader's own transaction hasn't committed there.
pub record MayReadWith (own : SegmentState) (handed : HandedState) (number : ℕ) (newer : Xid → List Record)
    (there : List Record) (me : Option Xid) : Type 0 where
  pub later : (xid : Xid) → AreMade (newer xid ++ there)
  pub hand : AllByRecursion (IsAtHand own handed number (ended_later newer there)) (stands there)
  pub open_there : IfSome me (λ xid. committed there xid ≡ None)
