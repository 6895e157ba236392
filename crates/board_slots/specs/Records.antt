-- Which records the rules make, and what holds of a block after each.
use Rattle.std.specs.Prelude.{ℕ, ◌<◌, ◌≡◌, ◌≢◌, true, List, [], ◌∷◌, Some, None}
use Rattle.std.specs.List.{AllByRecursion}
use Rattle.base_types.specs.declared.names.Xid.{Xid}
use Rattle.redo_types.specs.declared.blocks.RowChange.{RowChange}
use Rattle.board_slots.specs.Block.{Deed, newest, by, Record, Does, TakesBack, Commits, RollsBack, Open, Over, stage, committed, content, stands}
use Rattle.board_slots.specs.Slots.{Orderly, Shows, back_of, IsMade}

-- a change or lock is made of an open transaction
pub record MayDo (records : List Record) (deed : Deed) : Type 0 where
  pub goes_on : stage deed.xid records ≡ Open
  pub made : IsMade (committed records) (content records) deed

-- the newest of an open transaction is taken back
pub record MayBack (records : List Record) (xid : Xid) (seq scn : ℕ) (change : RowChange) : Type 0 where
  pub goes_on : stage xid records ≡ Open
  pub deed : Deed
  pub newest_own : newest (by xid) (stands records) ≡ Some deed
  pub number : seq ≡ deed.seq
  pub does : change ≡ back_of deed (content records)
  pub up : (content records).scn < scn

-- a change or lock of a transaction is below an SCN
abbrev pub DeedsBelow : Xid → ℕ → Record → Type 0
DeedsBelow xid scn (Does deed) = by xid deed ≡ true → deed.scn < scn
DeedsBelow xid scn _ = Unit {0}

-- an open transaction commits, above what it did
pub record MayCommit (records : List Record) (scn : ℕ) (xid : Xid) : Type 0 where
  pub goes_on : stage xid records ≡ Open
  pub above : AllByRecursion (DeedsBelow xid scn) records

-- an open transaction of which nothing stands is rolled back
pub record MayRoll (records : List Record) (scn : ℕ) (xid : Xid) : Type 0 where
  pub goes_on : stage xid records ≡ Open
  pub none : newest (by xid) (stands records) ≡ None
  pub above : AllByRecursion (DeedsBelow xid scn) records

-- The rules may make this record next.
abbrev pub May : List Record → Record → Type 0
May records (Does deed) = MayDo records deed
May records (TakesBack inst xid seq scn change) = MayBack records xid seq scn change
May records (Commits scn xid) = MayCommit records scn xid
May records (RollsBack inst scn xid) = MayRoll records scn xid

-- The rules made each of these records, the newest first.
abbrev pub AreMade : List Record → Type 0
AreMade [] = Unit {0}
AreMade (latest ∷ records) = May records latest × AreMade records

-- what holds of a block: what stands is in order, the block says it, and nothing stands of one that was rolled back
pub record Sound (records : List Record) : Type 0 where
  pub orderly : Orderly (committed records) (stands records)
  pub shows : Shows (committed records) (content records) (stands records)
  pub ends : AllByRecursion (λ deed. stage deed.xid records ≢ Over None) (stands records)
