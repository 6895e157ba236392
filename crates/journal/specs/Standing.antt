-- What a transaction has done, and whether it is open.
use Rattle.std.specs.Prelude.{ℕ, ◌-◌, List, [], ◌∷◌, length, drop, Bool, true, false, ◌==◌, ◌&&◌, if◌then◌else◌}
use Rattle.std.specs.List.{list_any}
use Rattle.base_types.specs.declared.names.Xid.{Xid}
use Rattle.journal.specs.declared.entry.Entry.{Entry}
use Rattle.journal.specs.declared.entry.Entry.TheVariants.{Changed, Locked, Marked, Undone, Rolled}
use Rattle.journal.specs.declared.deeds.Change.{Change}
use Rattle.journal.specs.declared.deeds.Deed.{Deed}
use Rattle.journal.specs.declared.deeds.Deed.TheVariants.{Changes, Locks}
use Rattle.journal.specs.Past.{Past, same_xid, is_loss_of}

-- the row of a deed
abbrev pub row_of : Deed → ℕ
row_of (Changes change) = change.row
row_of (Locks row) = row

-- the changes among deeds
abbrev pub changes_of : List Deed → List Change
changes_of [] = []
changes_of (Changes change ∷ older) = change ∷ changes_of older
changes_of (Locks row ∷ older) = changes_of older

-- The deeds of a transaction that stand, the newest first: a change entry adds one, Undone keeps so many of
-- the oldest, and a loss of the transaction's instance leaves none.
abbrev pub stands_after : Xid → Entry → List Deed → List Deed
stands_after x (Changed stmt y row found new) deeds =
    if same_xid x y then Changes (record { row = row; found = found; new = new }) ∷ deeds else deeds
stands_after x (Locked stmt y row) deeds = if same_xid x y then Locks row ∷ deeds else deeds
stands_after x (Undone y left) deeds = if same_xid x y then drop (length deeds - left) deeds else deeds
stands_after x e deeds = if is_loss_of x.seg e then [] else deeds

abbrev pub standing : Xid → Past → List Deed
standing x [] = []
standing x (e ∷ past) = stands_after x e (standing x past)

-- A transaction is open from its first change entry until it is marked or rolled back, or its instance is lost.
abbrev pub open_after : Xid → Entry → Bool → Bool
open_after x (Changed stmt y row found new) before = if same_xid x y then true else before
open_after x (Locked stmt y row) before = if same_xid x y then true else before
open_after x (Marked stmt y commit_scn) before = if same_xid x y then false else before
open_after x (Rolled y) before = if same_xid x y then false else before
open_after x e before = if is_loss_of x.seg e then false else before

abbrev pub is_open : Xid → Past → Bool
is_open x [] = false
is_open x (e ∷ past) = open_after x e (is_open x past)

-- a transaction holds a row while it is open and a deed of it on the row stands
abbrev pub holds : Xid → ℕ → Past → Bool
holds x row past = is_open x past && list_any (λ deed. row_of deed == row) (standing x past)
