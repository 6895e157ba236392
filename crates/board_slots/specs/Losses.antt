-- What is lost of a block's records.
use Rattle.std.specs.Prelude.{ℕ, ◌≡◌, Bool, true, List, [], ◌∷◌, None, IsSomeAnd}
use Rattle.std.specs.List.{AllByRecursion, filter}
use Rattle.base_types.specs.declared.names.Xid.{Xid}
use Rattle.board_slots.specs.Block.{newest, by, Record, Does, TakesBack, Commits, RollsBack, committed, content, stands}

-- A record that touches the block is kept.
abbrev pub TouchIsKept : (Record → Bool) → Record → Type 0
TouchIsKept keep (Does deed) = keep (Does deed) ≡ true
TouchIsKept keep (TakesBack inst xid seq scn change) = keep (TakesBack inst xid seq scn change) ≡ true
TouchIsKept keep _ = Unit {0}

-- a commit that counted still does
abbrev pub CommitIsKept : (Record → Bool) → List Record → Xid → Type 0
CommitIsKept keep older other =
    (P : ℕ → Bool) → IsSomeAnd (committed older other) (λ scn. P scn ≡ true)
    → IsSomeAnd (committed (filter keep older) other) (λ scn. P scn ≡ true)

-- Under a record of the block that is kept, all of the block is. A change keeps the commits of those whose row or slot
-- it takes. Nothing of one whose rollback's end is kept stands on what is kept.
abbrev pub ReasonsAreKept : (Record → Bool) → List Record → Record → Type 0
ReasonsAreKept keep older (Does deed) =
    AllByRecursion (TouchIsKept keep) older
    × CommitIsKept keep older ((content older).slot ((content older).lock deed.row)).xid
    × CommitIsKept keep older ((content older).slot deed.itl).xid
ReasonsAreKept keep older (TakesBack inst xid seq scn change) = AllByRecursion (TouchIsKept keep) older
ReasonsAreKept keep older (Commits scn xid) = Unit {0}
ReasonsAreKept keep older (RollsBack inst scn xid) = newest (by xid) (stands (filter keep older)) ≡ None

-- Of each kept record the reasons are kept.
abbrev pub KeepsReasons : (Record → Bool) → List Record → Type 0
KeepsReasons keep [] = Unit {0}
KeepsReasons keep (latest ∷ older) = (keep latest ≡ true → ReasonsAreKept keep older latest) × KeepsReasons keep older
