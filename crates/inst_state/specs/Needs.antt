-- Which block a statement or a rollback needs next, and what it has in hand of it.
use Rattle.std.specs.Prelude.{ℕ, ◌/◌, ◌==◌, ◌&&◌, ◌||◌, if◌then◌else◌, nat_lt, Bool, true, false, List, Option, None, Some, is_some, slice_get}
use Rattle.std.specs.List.{list_any, position}
use Rattle.base_types.specs.declared.names.Xid.{Xid}
use Rattle.undo_segment.specs.Segment.{SegmentState}
use Rattle.script_text.specs.GoodLines.{Mark, mark_of}
use Rattle.txn_engine.specs.declared.back.BackTo.{BackTo}
use Rattle.txn_engine.specs.declared.back.BackTo.TheVariants as back
use Rattle.txn_engine.specs.Back.{block_of}
use Rattle.txn_engine.specs.Back.{next_back as own_next_back}
use Rattle.recovery.specs.declared.dead.NextBack.{NextBack}
use Rattle.recovery.specs.declared.dead.NextBack.TheVariants as lost
use Rattle.recovery.specs.Dead.{next_back}
use Rattle.wire_net.specs.declared.message.Mode.{Mode}
use Rattle.wire_net.specs.declared.message.Mode.TheVariants.{Exclusive, Shared}
use Rattle.buffer_cache.specs.declared.place.Current.{Current}
use Rattle.buffer_cache.specs.Cache.{place_at}
use Rattle.buffer_cache.specs.Place.{is_exclusive, is_shared}
use Rattle.inst_state.specs.declared.inst.Inst.{Inst}
use Rattle.inst_state.specs.declared.line.Asks.{Asks}
use Rattle.inst_state.specs.declared.line.Asks.TheVariants.{Change, Read, Rollback, RollbackTo}
use Rattle.inst_state.specs.declared.needs.Needed.{Needed}
use Rattle.inst_state.specs.declared.session.Session.{Session}
use Rattle.inst_state.specs.Sessions.{snapshot_of}
use Rattle.inst_state.specs.State.{asks_at, is_stopped, session_at}

-- how many changes and locks are to stand once a rollback is done, by what its line asks
abbrev pub target_of : List Mark → Option Asks → Option ℕ
target_of marks (Some Rollback) = Some 0
target_of marks (Some (RollbackTo name)) = mark_of name marks
target_of marks _ = None

-- More of a session's transaction stands than is to stand.
abbrev pub stands_above : Session → Option ℕ → Bool
stands_above s None = false
stands_above s (Some target) = is_some s.own && nat_lt target s.standing

-- A rollback of a session is under way and has something left to take back.
abbrev pub goes_back : Inst → ℕ → Bool
goes_back n z =
    let s = session_at n z in is_some (snapshot_of s.doing) && stands_above s (target_of s.marks (asks_at n z))

-- a block that is needed exclusively
abbrev pub exclusively : ℕ → Needed
exclusively block = record { block = block; mode = Exclusive }

-- the block that a step back needs
abbrev pub needed_back : BackTo → Option Needed
needed_back (back.Block block) = Some (exclusively block)
needed_back _ = None

-- the block that the next step back of a transaction needs, if there is a transaction
abbrev pub back_block : SegmentState → Option Xid → Option Needed
back_block segment None = None
back_block segment (Some x) = needed_back (block_of (own_next_back x segment))

-- the block that a session's line needs that is under way, by what it asks
abbrev pub needed_by : Inst → ℕ → Option Asks → Option Needed
needed_by n z (Some (Read first last)) = Some (record { block = (session_at n z).job.block; mode = Shared })
needed_by n z (Some (Change row wish)) = Some (exclusively (row / 8))
needed_by n z (Some Rollback) = if goes_back n z then back_block n.segment (session_at n z).own else None
needed_by n z (Some (RollbackTo name)) = if goes_back n z then back_block n.segment (session_at n z).own else None
needed_by n z _ = None

-- A session's line is under way, and neither a `hold` line nor a change of membership stops it.
abbrev pub goes_on : Inst → ℕ → Bool
goes_on n z = if n.paused || is_stopped n z then false else is_some (snapshot_of (session_at n z).doing)

-- the block that a session's line needs next
abbrev pub needed : Inst → ℕ → Option Needed
needed n z = if goes_on n z then needed_by n z (asks_at n z) else None

-- What is rolled back next of the transactions of down segments, while the instance leads.
abbrev pub dead : Inst → NextBack
dead n = if n.leading.leads then next_back n.leading.adopted else lost.Nothing

-- the transaction of which something is rolled back next
abbrev pub txn_of : NextBack → Option Xid
txn_of lost.Nothing = None
txn_of (lost.Change x block) = Some x
txn_of (lost.End x) = Some x
txn_of (lost.Bad x) = Some x

-- the dead transaction that is rolled back next
abbrev pub dead_txn : Inst → Option Xid
dead_txn n = txn_of (dead n)

-- the block that the rollback of a dead transaction needs
abbrev pub needed_of : NextBack → Option Needed
needed_of (lost.Change x block) = Some (exclusively block)
needed_of _ = None

-- the block that the dead transaction needs
abbrev pub dead_needed : Inst → Option Needed
dead_needed n = needed_of (dead n)

-- the place of a transaction's segment among the adopted ones
abbrev pub adopted_place : List SegmentState → Xid → Option ℕ
adopted_place adopted x = position (λ segment. segment.head.front.seg == x.seg) adopted

-- the place of a transaction's segment among the adopted ones, if there is a transaction
abbrev pub place_of_txn : List SegmentState → Option Xid → Option ℕ
place_of_txn adopted None = None
place_of_txn adopted (Some x) = adopted_place adopted x

-- the place of the dead transaction's segment among the adopted ones
abbrev pub dead_place : Inst → Option ℕ
dead_place n = place_of_txn n.leading.adopted (dead_txn n)

-- the adopted segment at a place, if there is a place
abbrev pub adopted_at : List SegmentState → Option ℕ → Option SegmentState
adopted_at adopted None = None
adopted_at adopted (Some place) = slice_get adopted place

-- the segment of the dead transaction
abbrev pub dead_segment : Inst → Option SegmentState
dead_segment n = adopted_at n.leading.adopted (dead_place n)

-- An image that is held in the first mode serves who needs the second one.
abbrev pub serves : Mode → Mode → Bool
serves held wanted = is_exclusive held || is_shared held && is_shared wanted

-- an image, if there is one, is held in a mode that serves
abbrev pub is_held_in : Mode → Option Current → Bool
is_held_in mode None = false
is_held_in mode (Some current) = serves current.mode mode

-- A block is held in a mode that serves.
abbrev pub holds : Inst → ℕ → Mode → Bool
holds n block mode = is_held_in mode (place_at n.cache block).current

-- A block is the one that is needed, and is held so.
abbrev pub uses : Inst → ℕ → Option Needed → Bool
uses n block None = false
uses n block (Some needed) = needed.block == block && holds n needed.block needed.mode

-- A statement or a rollback uses a block.
abbrev pub is_used : Inst → ℕ → Bool
is_used n block = list_any (λ z. uses n block (needed n z)) n.plan.mine || uses n block (dead_needed n)
