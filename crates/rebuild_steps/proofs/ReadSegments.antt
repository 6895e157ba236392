-- Segments are read one behind the other.
use Rattle.std.proofs.Common.{◌≡◌, ℕ, ◌+◌, ◌<◌, List, [], ◌∷◌, ◌++◌, length, take, get_or, rules, Ok, Err, refl, sym, subst, ap, ◌∙◌}
use Rattle.std.specs.List.{All}
use Rattle.std.proofs.lemmas.List.{get_or_read_under, map-append, take_more}
use Rattle.std.proofs.lemmas.List.Elements.{All-append}
use Rattle.base_types.specs.declared.layout.Layout.{Layout}
use Rattle.rac_disk.specs.Content.{Content}
use Rattle.rac_disk.specs.State.{State}
use Rattle.undo_segment.specs.declared.error.LoadError.{LoadError}
use Rattle.undo_segment.specs.Load.{HoldsSegment, IsBadBlock, Loads}
use Rattle.undo_segment.specs.Segment.{SegmentState}
use Rattle.undo_segment.proofs.LoadLemmas.{calm_more, fails_more, keeps_more, told_before, told_weaker}
use Rattle.rebuild_steps.specs.Adopt.{FailsToRead, IsBadIn, ReadsEach, seg_of}
use Rattle.rebuild_steps.specs.Join.{IsReadOf}

all_one : {X : Type 0} (P : X → Type 0) (x : X) → P x → All P (x ∷ [])
all_one P x is = search (rules, is)

-- one segment more is read
one_more : (layout : Layout) (segs : List ℕ) (seg : ℕ) (owns : List SegmentState) (own : SegmentState) (old mid new : State) → ReadsEach layout segs owns old mid → IsReadOf layout seg own
    → Loads HoldsSegment (IsBadBlock layout seg) (Ok own) mid new → ReadsEach layout (segs ++ seg ∷ []) (owns ++ own ∷ []) old new
one_more layout segs seg owns own old mid new read is loads =
    let Held : List SegmentState → Content → Type 0 = λ all it. All (λ own. HoldsSegment own it) all in
    record {
      insts =
          map-append seg_of owns (own ∷ []) ∙ (ap (λ (front : List ℕ). front ++ seg_of own ∷ []) read.insts ∙ ap (λ (s : ℕ). segs ++ s ∷ []) is.seg);
      each = All-append (λ own. IsReadOf layout (seg_of own) own) owns (own ∷ []) read.each
          (all_one (λ own. IsReadOf layout (seg_of own) own) own (record { clean = is.clean; seg = refl; tame = is.tame }));
      told = keeps_more old.told mid.told new.told read.told loads.told;
      calm = calm_more old mid new read.calm loads.counts;
      holds =
          told_weaker old.told (Held owns) (HoldsSegment own) (Held (owns ++ own ∷ []))
          (λ it all one. All-append (λ own. HoldsSegment own it) owns (own ∷ []) all (all_one (λ own. HoldsSegment own it) own one))
          read.holds (told_before old.told mid.told (HoldsSegment own) read.told loads.gives);
    }

-- the read of a segment fails after others were read
pub fails : (layout : Layout) (segs front : List ℕ) (k seg : ℕ) (owns : List SegmentState) (why : LoadError) (old mid new : State) → seg ≡ get_or segs k seg → k < length segs → ReadsEach layout front owns old mid
    → Loads HoldsSegment (IsBadBlock layout seg) (Err why) mid new → FailsToRead layout segs why old new
fails layout segs front k seg owns why old mid new is within read loads =
    let same : seg ≡ get_or segs k 0 = get_or_read_under segs k (length segs) seg 0 is within refl in
    fails_more HoldsSegment (λ (owns : List SegmentState) it. Unit {0}) (IsBadBlock layout seg) (IsBadIn layout segs) why old mid new read.told read.calm
    (λ b it bad. (k, within, subst (λ (s : ℕ). IsBadBlock layout s b it) same bad)) loads

-- the items up to the next one
take_item : (segs : List ℕ) (k seg : ℕ) → seg ≡ get_or segs k seg → k < length segs → take (k + 1) segs ≡ take k segs ++ seg ∷ []
take_item segs k seg is within = take_more segs k seg within ∙ ap (λ (s : ℕ). take k segs ++ s ∷ []) (sym is)

-- the read of the segments goes on by one
pub one_more_taken : (layout : Layout) (segs : List ℕ) (k seg : ℕ) (owns now : List SegmentState) (own : SegmentState) (old mid new : State) → seg ≡ get_or segs k seg → k < length segs
    → ReadsEach layout (take k segs) owns old mid → now ≡ owns ++ own ∷ [] → IsReadOf layout seg own → Loads HoldsSegment (IsBadBlock layout seg) (Ok own) mid new
    → ReadsEach layout (take (k + 1) segs) now old new
one_more_taken layout segs k seg owns now own old mid new is within read is_now is_read loads =
    let more : ReadsEach layout (take k segs ++ seg ∷ []) (owns ++ own ∷ []) old new =
    one_more layout (take k segs) seg owns own old mid new read is_read loads in
    subst (λ (l : List ℕ). ReadsEach layout l now old new) (sym (take_item segs k seg is within))
    (subst (λ (l : List SegmentState). ReadsEach layout (take k segs ++ seg ∷ []) l old new) (sym is_now) more)
