-- A read takes the rows of its next block.
use Rattle.std.specs.Prelude.{ℕ, ◌+◌, ◌-◌, ◌*◌, ◌/◌, ◌^◌, ◌&&◌, nat_le, min, not, if◌then◌else◌, Bool, true, false, List, [], ◌∷◌, ◌++◌, Option, None, Some, slice_index_or, slice_set}
use Rattle.std.specs.List.{flat_map}
use Rattle.std.specs.Option.{option_and_then, option_map}
use Rattle.base_types.specs.declared.value.Value.{Value}
use Rattle.base_types.specs.declared.value.Value.TheVariants.{Absent, Num}
use Rattle.block_image.specs.Block.{BlockContent}
use Rattle.journal.specs.declared.cause.Cause.{Cause}
use Rattle.journal.specs.declared.entry.Entry.{Entry}
use Rattle.journal.specs.declared.entry.Entry.TheVariants.{Refused}
use Rattle.journal.specs.declared.entry.Entry.TheVariants as entry
use Rattle.undo_segment.specs.Segment.{fetch, look}
use Rattle.buffer_cache.specs.Cache.{CacheState, with_copy_used}
use Rattle.cr_copy.specs.declared.made.Made.{Made}
use Rattle.cr_copy.specs.declared.made.Made.TheVariants.{Bad, Need, Rows, TooOld}
use Rattle.cr_copy.specs.Copy.{make}
use Rattle.inst_state.specs.declared.inst.Inst.{Inst}
use Rattle.inst_state.specs.declared.line.Asks.{Asks}
use Rattle.inst_state.specs.declared.line.Asks.TheVariants.{Read}
use Rattle.inst_state.specs.declared.needs.Needed.{Needed}
use Rattle.inst_state.specs.declared.session.Session.{Session}
use Rattle.inst_state.specs.Hand.{handed_at, image_in_hand, reads_kept, snapshot_at}
use Rattle.inst_state.specs.Lines.{is_read}
use Rattle.inst_state.specs.Needs.{needed}
use Rattle.inst_state.specs.Sessions.{answered}
use Rattle.inst_state.specs.State.{asks_at, session_at, stmt_at, with_session, works}
use Rattle.stmt_steps.specs.declared.visits.RowRange.{RowRange}

-- what a read of a session makes of an image
abbrev pub made_of : Inst → ℕ → BlockContent → Made
made_of n z image =
    make (snapshot_at n z) (session_at n z).own (look n.segment (handed_at n z)) (fetch n.segment (handed_at n z)) image

-- A session's line reads, if there is one.
abbrev pub reads : Option Asks → Bool
reads None = false
reads (Some asks) = is_read asks

-- what a session's read makes of the image that it has in hand
abbrev pub read_made : Inst → ℕ → Option Made
read_made n z = if reads (asks_at n z) then option_map (made_of n z) (image_in_hand n z) else None

-- A copy shows its rows, or can never show them.
abbrev pub is_told : Option Made → Bool
is_told (Some (Rows values)) = true
is_told (Some (TooOld cause)) = true
is_told _ = false

-- A read goes on where the image in hand and the undo show its rows, or that they are gone.
abbrev pub may_visit : Inst → ℕ → Bool
may_visit n z = works n && is_told (read_made n z)

-- the rows that a line reads
abbrev pub range_of : Option Asks → RowRange
range_of (Some (Read first last)) = record { first = first; last = last }
range_of _ = record { first = 0; last = 0 }

-- A value is there.
abbrev pub is_there : Value → Bool
is_there Absent = false
is_there (Num n) = true

-- a row with its value, if it is asked for and there
abbrev pub row_if : RowRange → ℕ → Value → List (ℕ × Value)
row_if range row value =
    if nat_le range.first row && nat_le row range.last && is_there value then (row, value) ∷ [] else []

-- the places of the rows in a block
abbrev pub all_places : List ℕ
all_places = 0 ∷ 1 ∷ 2 ∷ 3 ∷ 4 ∷ 5 ∷ 6 ∷ 7 ∷ []

-- the rows of a block that are asked for and there, with their values
abbrev pub rows_of : RowRange → ℕ → List Value → List (ℕ × Value)
rows_of range block values =
    flat_map (λ place. row_if range (8 * block + place) (slice_index_or values place Absent)) all_places

-- The block is the last one of a read.
abbrev pub is_last : RowRange → Session → Bool
is_last range s = nat_le (range.last / 8) s.job.block

-- the rows of a read up to its block
abbrev pub rows_so_far : RowRange → List Value → Session → List (ℕ × Value)
rows_so_far range values s = s.job.rows ++ rows_of range s.job.block values

-- a session whose read has taken the rows of its block: it goes on with the next one, or is answered
abbrev pub read_on : RowRange → List Value → Session → Session
read_on range values s = record s {
  next = if is_last range s then min (s.next + 1) (2 ^ 64 - 1) else s.next;
  doing = if is_last range s then (answered s).doing else s.doing;
  job = record s.job {
    block = if is_last range s then s.job.block else s.job.block + 1;
    rows = if is_last range s then [] else rows_so_far range values s;
    copy = None;
    handed_for = None;
  };
}

-- a session whose line is refused
abbrev pub refused : Session → Session
refused s = answered (record s { job = record s.job { copy = None; handed_for = None } })

-- a session after a visit
abbrev pub session_visited : RowRange → Option Made → Session → Session
session_visited range (Some (Rows values)) s = read_on range values s
session_visited range (Some (TooOld cause)) s = refused s
session_visited range _ s = s

-- The cache after a read: a kept copy that was used goes first.
abbrev pub cache_used : Inst → ℕ → Option Needed → CacheState
cache_used n z None = n.cache
cache_used n z (Some need) =
    if reads_kept n z need then with_copy_used n.cache need.block (snapshot_at n z) else n.cache

-- an instance after a session's read took the rows of its block, or was refused
abbrev pub visited : Inst → ℕ → Inst
visited n z = record n {
  cache = cache_used n z (needed n z);
  sessions = slice_set n.sessions z (session_visited (range_of (asks_at n z)) (read_made n z) (session_at n z));
}

-- the answer of a read that has come to its last block
abbrev pub rows_told : ℕ → RowRange → List Value → Session → List Entry
rows_told stmt range values s = if is_last range s then entry.Rows stmt (rows_so_far range values s) ∷ [] else []

-- what a visit tells
abbrev pub told_by : ℕ → RowRange → Option Made → Session → List Entry
told_by stmt range (Some (Rows values)) s = rows_told stmt range values s
told_by stmt range (Some (TooOld cause)) s = Refused stmt cause ∷ []
told_by stmt range _ s = []

-- what a visit tells
abbrev pub visit_tells : Inst → ℕ → List Entry
visit_tells n z = told_by (stmt_at n z) (range_of (asks_at n z)) (read_made n z) (session_at n z)

-- an instance after a session's line was refused
abbrev pub line_refused : Inst → ℕ → Inst
line_refused n z = with_session n z (refused (session_at n z))
