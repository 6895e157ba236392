-- When a statement may be refused.
use Rattle.std.specs.Prelude.{ℕ, ◌+◌, ◌-◌, ◌/◌, ◌%◌, ◌^◌, ℤ, pos, neg_ℤ, ◌+ℤ◌, int_le, int_lt, List, [], ◌∷◌, length, take, drop}
use Rattle.std.specs.Prelude.{filter, count_by, Bool, true, false, not, ◌==◌, ◌&&◌, ◌||◌, nat_le, nat_lt, if◌then◌else◌}
use Rattle.std.specs.Prelude.{Option, Some, None, is_some, is_none, option_map, slice_get}
use Rattle.std.specs.List.{list_any, list_all}
use Rattle.std.specs.Option.{option_map_or}
use Rattle.base_types.specs.declared.names.Xid.{Xid}
use Rattle.journal.specs.declared.cause.Cause.{Cause}
use Rattle.journal.specs.declared.cause.Cause.TheVariants as causes
use Rattle.journal.specs.declared.deeds.Commit.{Commit}
use Rattle.journal.specs.declared.entry.Entry.{Entry}
use Rattle.journal.specs.declared.entry.Entry.TheVariants.{Changed, Locked, Refused}
use Rattle.journal.specs.Past.{Past, same_xid, start_of, is_loss_of, is_up}
use Rattle.journal.specs.Standing.{row_of, standing, is_open, holds}
use Rattle.journal.specs.Sees.{own, sees}
use Rattle.journal.specs.Stood.{stood, came_up}
use Rattle.script_text.specs.declared.item.Item.{Item}
use Rattle.script_text.specs.declared.item.Item.TheVariants as items
use Rattle.script_text.specs.declared.item.Stmt.{Stmt}
use Rattle.script_text.specs.declared.item.Stmt.TheVariants.{Get, Scan, Put, Add, Del, Lock, RollbackTo}
use Rattle.script_text.specs.ScriptParts.{ScriptParts}
use Rattle.script_text.specs.Lines.{stmt_at}
use Rattle.script_text.specs.Reading.{items_of}
use Rattle.script_text.specs.GoodLines.{number_in, marks, mark_of}
use Rattle.good_run.specs.Turns.{starts, is_under_way}
use Rattle.good_run.specs.ControlLines.{owns}

-- the transaction and the row of a change entry
abbrev pub deed_of : Entry → Option (Xid × ℕ)
deed_of (Changed stmt x row found new) = Some (x, row)
deed_of (Locked stmt x row) = Some (x, row)
deed_of _ = None

-- whether an entry is a change entry of a transaction, or of a segment
abbrev pub is_deed_of : Xid → Entry → Bool
is_deed_of x e = option_map_or (λ deed. same_xid x deed.0) (deed_of e) false

abbrev pub is_deed_in : ℕ → Entry → Bool
is_deed_in seg e = option_map_or (λ deed. deed.0.seg == seg) (deed_of e) false

-- the transactions of a journal's change entries, each once
abbrev pub with_deed : Option (Xid × ℕ) → List Xid → List Xid
with_deed None xids = xids
with_deed (Some deed) xids = if list_any (same_xid deed.0) xids then xids else deed.0 ∷ xids

abbrev pub xids_in : Past → List Xid
xids_in [] = []
xids_in (e ∷ past) = with_deed (deed_of e) (xids_in past)

-- whether something holds here or at an earlier place since a statement first started
abbrev pub some_since : ℕ → (Past → Bool) → Past → Bool
some_since stmt test [] = false
some_since stmt test (e ∷ past) = stood (starts stmt) (e ∷ past) && test (e ∷ past) || some_since stmt test past

-- the row that a statement changes or locks
abbrev pub target : Stmt → Option ℕ
target (Put row value) = Some row
target (Add row by) = Some row
target (Del row) = Some row
target (Lock row) = Some row
target _ = None

-- the row and the number of an add
abbrev pub addition : Stmt → Option (ℕ × ℤ)
addition (Add row by) = Some (row, by)
addition _ = None

-- the savepoint that a statement rolls back to
abbrev pub savepoint : Stmt → Option (List ℕ)
savepoint (RollbackTo name) = Some name
savepoint _ = None

-- whether a row's block is among those of the rows that a get or a scan asks for
abbrev pub reads_block_of : Stmt → ℕ → Bool
reads_block_of (Get row) changed = changed / 8 == row / 8
reads_block_of (Scan first last) changed = nat_le (first / 8) (changed / 8) && nat_le (changed / 8) (last / 8)
reads_block_of _ changed = false

-- whether a transaction has something standing in a block; it has a slot there while it is open
abbrev pub stands_in : ℕ → Past → Xid → Bool
stands_in block past x = list_any (λ deed. row_of deed / 8 == block) (standing x past)

abbrev pub has_itl : ℕ → Past → Xid → Bool
has_itl block past x = is_open x past && stands_in block past x

-- the open transactions of an instance
abbrev pub open_in : ℕ → Past → List Xid
open_in inst past = filter (λ x. (x.seg == inst) && is_open x past) (xids_in past)

-- how many change entries of a segment stand since its last loss, from the first of a transaction that is open
abbrev pub used_after : ℕ → (Xid → Bool) → Entry → ℕ → ℕ
used_after seg opened e before =
    if is_loss_of seg e then 0
    else option_map_or (λ deed.
    if (deed.0.seg == seg) && (nat_lt 0 before || opened deed.0) then before + 1 else before) (deed_of e) before

abbrev pub undo_used : ℕ → (Xid → Bool) → Past → ℕ
undo_used seg opened [] = 0
undo_used seg opened (e ∷ past) = used_after seg opened e (undo_used seg opened past)

-- whether two numbers are one, and whether a sum is outside 64 bits
abbrev pub is_same : ℤ → ℤ → Bool
is_same a b = int_le a b && int_le b a

abbrev pub overflows : ℤ → ℤ → Bool
overflows found by = int_lt (found +ℤ by) (neg_ℤ (pos (2 ^ 63))) || int_le (pos (2 ^ 63)) (found +ℤ by)

-- whether an entry refuses a lost statement
abbrev pub is_lost : ℕ → Entry → Bool
is_lost stmt (Refused refused causes.Lost) = stmt == refused
is_lost stmt _ = false

abbrev pub is_lost_any : Entry → Bool
is_lost_any (Refused refused causes.Lost) = true
is_lost_any _ = false

-- whether an instance was lost while a statement was under way, and since then only lost statements were refused
abbrev pub was_lost : ℕ → ℕ → Past → Bool
was_lost stmt inst [] = false
was_lost stmt inst (e ∷ past) =
    if is_loss_of inst e then is_under_way stmt past else is_lost_any e && was_lost stmt inst past

-- whether each of four transactions is named once
abbrev pub are_four : List Xid → Bool
are_four xids = (length xids == 4) && list_all (λ x. count_by (same_xid x) xids == 1) xids

-- how many causes come before one in the order in which they are looked for; Lost stands outside the order
abbrev pub earlier_causes : Cause → ℕ
earlier_causes causes.NotConnected = 0
earlier_causes (causes.Busy x) = 1
earlier_causes (causes.Overflow found by) = 2
earlier_causes (causes.NoTxnSlot inst) = 3
earlier_causes (causes.NoItl block holders) = 4
earlier_causes (causes.NoUndo first next) = 5
earlier_causes causes.NoSavepoint = 6
earlier_causes (causes.OldUndo x wanted found) = 7
earlier_causes (causes.OldSlot x found) = 7
earlier_causes causes.Lost = 0

-- How a statement with what it asks, of a session on an instance, stands at a place.
module _ (parts : ScriptParts) (commits : List Commit) (stmt session inst : ℕ) (what : Stmt) where
  -- the instance is down, or came up after the session was opened
  abbrev pub is_not_connected : Past → Bool
  is_not_connected past = not (is_up inst past) || came_up session past

  -- another transaction holds the row
  abbrev pub is_busy : Past → Bool
  is_busy past =
      option_map_or (λ row. list_any (λ x. not (owns session x past) && holds x row past) (xids_in past))
      (target what) false

  -- the number that the session sees in a row
  abbrev pub number_seen : ℕ → Past → Option ℤ
  number_seen row past = option_map (λ start. number_in (sees commits past start row)) (start_of stmt past)

  -- the sum of what an add finds and adds is outside 64 bits
  abbrev pub is_overflow : Past → Bool
  is_overflow past =
      option_map_or (λ add. option_map_or (λ found. overflows found add.1) (number_seen add.0 past) false)
      (addition what) false

  -- the session has no transaction, and eight of its instance are open
  abbrev pub has_no_slot : Past → Bool
  has_no_slot past = is_some (target what) && is_none (own session past) && (length (open_in inst past) == 8)

  -- the session's transaction, if it has one, has nothing in a block
  abbrev pub is_outside : ℕ → Past → Bool
  is_outside block past = option_map_or (λ x. not (stands_in block past x)) (own session past) true

  -- the transaction has nothing in the row's block, and at least four others that are open have
  abbrev pub has_no_itl : Past → Bool
  has_no_itl past =
      option_map_or (λ row. is_outside (row / 8) past
      && nat_le 4 (length (filter (λ x. not (owns session x past) && has_itl (row / 8) past x) (xids_in past))))
      (target what) false

  -- the undo segment is full
  abbrev pub has_no_undo : Past → Bool
  has_no_undo past = is_some (target what) && (undo_used inst (λ x. is_open x past) past == parts.settings.undo)

  -- the session has no such savepoint
  abbrev pub has_no_mark : Past → Bool
  has_no_mark past = option_map_or (λ name. is_none (mark_of name (marks parts session past))) (savepoint what) false

  -- what is in the way at a place, in the order in which it is looked for
  abbrev pub hindrances : Past → List Bool
  hindrances past =
      is_not_connected past ∷ is_busy past ∷ is_overflow past ∷ has_no_slot past ∷ has_no_itl past ∷ has_no_undo past
      ∷ has_no_mark past ∷ []

  -- no cause that comes before this one is in the way
  abbrev pub is_first : Past → Cause → Bool
  is_first past cause = not (list_any (λ holds. holds) (take (earlier_causes cause) (hindrances past)))

  -- nothing is in the way of a change
  abbrev pub may_change : Past → Bool
  may_change past = not (list_any (λ holds. holds) (drop 1 (hindrances past)))

  -- whether the session's snapshot lies below the commit of a transaction, if that has one
  abbrev pub is_unseen : Xid → Past → Bool
  is_unseen x past =
      option_map_or (λ start. list_all (λ commit.
      not (same_xid x commit.xid) || nat_lt start.snapshot commit.commit_scn) commits) (start_of stmt past) false

  -- whether an entry changes a row in a block that the statement reads
  abbrev pub is_read_deed : Xid → Entry → Bool
  is_read_deed x e = option_map_or (λ deed. same_xid x deed.0 && reads_block_of what deed.1) (deed_of e) false

  -- Whether undo that the statement reads was overwritten: so many entries of the segment as there is room for stand
  -- behind it, with `newer` of them behind this place. Where the segment was never lost, `wanted` counts it.
  abbrev pub is_overwritten : Bool → Xid → ℕ → ℕ → Past → Bool
  is_overwritten lost x wanted newer [] = false
  is_overwritten lost x wanted newer (e ∷ past) =
      nat_le parts.settings.undo newer && is_read_deed x e
      && (lost || (wanted == count_by (is_deed_in x.seg) past + 1))
      || is_overwritten lost x wanted (if is_deed_in x.seg e then newer + 1 else newer) past

  -- undo of another transaction that the session doesn't see was overwritten, by a record some rounds later
  abbrev pub is_too_old : Xid → ℕ → ℕ → Past → Bool
  is_too_old x wanted found past =
      not (owns session x past) && is_unseen x past && nat_lt wanted found
      && ((found - wanted) % parts.settings.undo == 0)
      && is_overwritten (stood (is_loss_of x.seg) past) x wanted 0 past

  -- the slot of another transaction was used again at least twice, the last time but one by one that isn't seen
  abbrev pub is_reused : Xid → ℕ → Past → Bool
  is_reused x found past =
      not (owns session x past) && nat_le (x.wrap + 2) found && stood (is_read_deed x) past
      && stood (is_deed_of (record x { wrap = found })) past
      && stood (is_deed_of (record x { wrap = found - 1 })) past
      && is_unseen (record x { wrap = found - 1 }) past

  -- Each cause has its facts, those of other transactions at some place since the statement first started.
  abbrev pub is_caused : Past → Cause → Bool
  is_caused past causes.NotConnected = is_not_connected past
  is_caused past (causes.Busy x) =
      not (owns session x past)
      && option_map_or (λ row. some_since stmt (holds x row) past) (target what) false
  is_caused past (causes.Overflow found by) =
      option_map_or (λ add. is_same by add.1 && option_map_or (is_same found) (number_seen add.0 past) false)
      (addition what) false && overflows found by
  is_caused past (causes.NoTxnSlot named) = (named == inst) && has_no_slot past
  is_caused past (causes.NoItl block holders) =
      option_map_or (λ row. row / 8 == block) (target what) false && are_four holders && is_outside block past
      && list_all (λ x. not (owns session x past) && some_since stmt (λ q. has_itl block q x) past) holders
  is_caused past (causes.NoUndo first next) = (next == first + parts.settings.undo) && has_no_undo past
  is_caused past causes.NoSavepoint = has_no_mark past
  is_caused past (causes.OldUndo x wanted found) = is_too_old x wanted found past
  is_caused past (causes.OldSlot x found) = is_reused x found past
  is_caused past causes.Lost = was_lost stmt inst past

-- a test of a statement by its line: of its session, that session's instance, and what it asks
abbrev pub of_stmt : ScriptParts → ℕ → (ℕ → ℕ → Stmt → Bool) → Bool
of_stmt parts stmt test =
    option_map_or (λ asked. option_map_or (λ inst. test asked.0 inst asked.1) (slice_get parts.homes asked.0) false)
    (stmt_at parts stmt) false

-- A refusal has its cause, the first that is in the way; at a change nothing is in the way.
abbrev pub is_proper : ScriptParts → List Commit → Past → Entry → Bool
is_proper parts commits past (Refused stmt cause) =
    of_stmt parts stmt (λ session inst what.
    is_caused parts commits stmt session inst what past cause
    && is_first parts commits stmt session inst what past cause)
is_proper parts commits past (Changed stmt x row found new) =
    of_stmt parts stmt (λ session inst what. may_change parts commits stmt session inst what past)
is_proper parts commits past (Locked stmt x row) =
    of_stmt parts stmt (λ session inst what. may_change parts commits stmt session inst what past)
is_proper parts commits past _ = true

-- A statement of an instance that is under way at its loss is refused as lost; `told line` says whether some entry of
-- the whole journal does so.
abbrev pub is_told : (ℕ → Bool) → ScriptParts → Past → Entry → ℕ → Item → Bool
is_told told parts past e line (items.Stmt session what) =
    not (option_map_or (λ inst. is_loss_of inst e) (slice_get parts.homes session) false && is_under_way line past)
    || told line
is_told told parts past e line _ = true

abbrev pub loss_is_told : (ℕ → Bool) → ScriptParts → Past → Entry → Bool
loss_is_told told parts past e = list_all (λ line. is_told told parts past e line.0 line.1) (items_of parts)
