-- The leader adopts the segments of instances that aren't there.
use Rattle.std.specs.Prelude.{◌≡◌, ℕ, ◌<◌, ◌==◌, ◌&&◌, ◌||◌, nat_lt, not, Bool, List, ◌++◌, All, IfSome, Result, Err, filter, length, map, MatchResult, slice_index_or}
use Rattle.std.specs.List.{list_any}
use Rattle.base_types.specs.declared.layout.Layout.{Layout}
use Rattle.inst_set.specs.Sets.{all_insts, has}
use Rattle.rac_disk.specs.Content.{Content}
use Rattle.rac_disk.specs.State.{IsCalm, State}
use Rattle.redo_merge.specs.Merge.{sorted}
use Rattle.undo_segment.specs.declared.error.LoadError.{LoadError}
use Rattle.undo_segment.specs.Load.{HoldsSegment, IsBadBlock, Keeps, Loads}
use Rattle.undo_segment.specs.Segment.{SegmentState}
use Rattle.inst_state.specs.declared.inst.Inst.{Inst}
use Rattle.inst_state.specs.declared.shared.Core.{Core}
use Rattle.inst_state.specs.Shared.{is_live}
use Rattle.rebuild_steps.specs.Join.{IsReadOf}

-- the instance of a segment
abbrev pub seg_of : SegmentState → ℕ
seg_of own = own.head.front.seg

-- The instance of a segment isn't there, or is this one, which has come in with nobody live.
abbrev pub is_down_segment : Inst → Core → ℕ → Bool
is_down_segment n core seg = not (is_live core seg) || seg == n.plan.me && has core.recovery.former seg

-- The leader has adopted a segment.
abbrev pub has_adopted : List SegmentState → ℕ → Bool
has_adopted adopted seg = list_any (λ own. seg_of own == seg) adopted

-- The leader is to adopt a segment: its instance isn't there, and it hasn't adopted it yet.
abbrev pub is_to_adopt : Inst → Core → ℕ → Bool
is_to_adopt n core seg =
    nat_lt seg n.plan.layout.instances && is_down_segment n core seg && not (has_adopted n.leading.adopted seg)

-- the instances whose segments the leader is to adopt, ascending
unfoldable pub to_adopt : Inst → Core → List ℕ
to_adopt n core = filter (is_to_adopt n core) all_insts

-- the adopted segments with those that were read, ascending
abbrev pub adopted : List SegmentState → List SegmentState → List SegmentState
adopted old owns = sorted seg_of (old ++ owns)

-- The segments of these instances were read, in their order, and each call was done.
pub record ReadsEach (layout : Layout) (segs : List ℕ) (owns : List SegmentState) (old new : State) : Type 0 where
  pub insts : map seg_of owns ≡ segs
  pub each : All (λ own. IsReadOf layout (seg_of own) own) owns
  pub told : Keeps old.told new.told
  pub calm : IsCalm old new
  pub holds : IfSome old.told (λ it. All (λ own. HoldsSegment own it) owns)

-- A block of the segment of one of these instances isn't what a run leaves there.
abbrev pub IsBadIn : Layout → List ℕ → ℕ → Content → Type 0
IsBadIn layout segs block it = (k : ℕ) × (k < length segs) × IsBadBlock layout (slice_index_or segs k 0) block it

-- The segments of these instances weren't read, for this reason.
abbrev pub FailsToRead : Layout → List ℕ → LoadError → State → State → Type 0
FailsToRead layout segs why old new =
    Loads (λ (owns : List SegmentState) it. Unit {0}) (IsBadIn layout segs) (Err why) old new

-- What a read of the segments of these instances gives.
abbrev pub ReadsSegments : Layout → List ℕ → Result (List SegmentState) LoadError → State → State → Type 0
ReadsSegments layout segs result old new =
    MatchResult result (λ owns. ReadsEach layout segs owns old new) (λ why. FailsToRead layout segs why old new)
