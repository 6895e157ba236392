-- What a decided record fits can be changed by it.
use Rattle.std.proofs.Common.{◌≡◌, ℕ, Bool, true, false, Option, None, Some, IfSome, unwrap_or, refl, subst, sym, ap, arith}
use Rattle.std.specs.Option.{ForSome, option_and_then, option_map}
use Rattle.std.specs.Prelude.{◌/◌, if◌then◌else◌}
use Rattle.std.proofs.lemmas.Option.{none-some}
use Rattle.base_types.specs.declared.names.Xid.{Xid}
use Rattle.undo_segment.specs.Segment.{SegmentState}
use Rattle.txn_engine.specs.declared.back.BackTo.{BackTo}
use Rattle.txn_engine.specs.declared.back.BackTo.TheVariants as to
use Rattle.txn_engine.specs.Back.{block_of}
use Rattle.txn_engine.specs.Back.{next_back as own_next_back}
use Rattle.redo_types.specs.declared.redo.DataChange.{DataChange}
use Rattle.redo_types.specs.declared.redo.Redo.{Redo}
use Rattle.redo_record.specs.Redo.{IsDataChange, IsRedo}
use Rattle.block_image.specs.Block.{BlockContent, IsBlock}
use Rattle.block_image.specs.Changes.{applied}
use Rattle.buffer_cache.specs.declared.place.Current.{Current}
use Rattle.buffer_cache.specs.Cache.{place_at}
use Rattle.buffer_cache.specs.Place.{CanChange, is_exclusive}
use Rattle.txn_engine.specs.declared.ask.Decision.{Decision}
use Rattle.txn_engine.specs.declared.ask.Decision.TheVariants.{AlreadyMine, Bad, Do, ForceFirst, Need, Refuse, Restart}
use Rattle.txn_engine.specs.Change.{IfDo}
use Rattle.txn_engine.specs.Parts.{FitsBoth, FitsImage}
use Rattle.inst_state.specs.declared.inst.Inst.{Inst}
use Rattle.inst_state.specs.declared.line.Asks.{Asks}
use Rattle.inst_state.specs.declared.line.Asks.TheVariants.{Change, Commit, Read, Rollback, RollbackTo, Savepoint}
use Rattle.inst_state.specs.declared.needs.Needed.{Needed}
use Rattle.inst_state.specs.Hand.{current_image, image_for, image_in_hand}
use Rattle.inst_state.specs.Needs.{exclusively, goes_on, goes_back, holds, needed, needed_by, needed_back, back_block}
use Rattle.inst_state.specs.State.{asks_at, session_at}
use Rattle.stmt_steps.specs.Back.{IfBackFits}
use Rattle.stmt_steps.specs.Change.{IfFits, block_at, block_or_zero}
use Rattle.stmt_steps.specs.Visit.{reads}

-- the change of a row by a record, in an image that the record fits
can_change_by : (redo : Redo) (row : Option DataChange) (current : Option Current) → redo.row ≡ row → IsRedo redo
    → ForSome current (λ now. FitsImage now.image redo) → IfSome row (λ it. ForSome current (CanChange it.to redo.scn))
can_change_by redo None current has is fits = tt
can_change_by redo (Some change) current has is fits =
    let d : IsDataChange change = subst (λ (r : Option DataChange). IfSome r IsDataChange) has is.row in
    λ now is_now _.
    let fit : FitsImage now.image redo = fits now is_now in
    let b : IsBlock (applied now.image change.to redo.scn) = subst (λ (r : Option DataChange). IfSome r (λ (it : DataChange). IsBlock (applied now.image it.to redo.scn))) has fit.block in
    record { row = d.row; some_itl = d.some_itl; itl = d.itl; version = fit.version; numbered = is.scn; is_block = b }

pub can_change : (redo : Redo) (current : Option Current) → IsRedo redo → ForSome current (λ now. FitsImage now.image redo)
    → IfSome redo.row (λ it. ForSome current (CanChange it.to redo.scn))
can_change redo current is fits = can_change_by redo redo.row current refl is fits

some_same : {A : Type 0} (x y : A) → Some x ≡ Some y → x ≡ y
some_same {A = A} x y e = ap (λ (o : Option A). unwrap_or o x) e

-- the image of a block that is held exclusively is the current one
exclusive_image : (n : Inst) (z : ℕ) (need : Needed) (image : BlockContent) (held : Bool) → held ≡ holds n need.block need.mode → is_exclusive need.mode ≡ true
    → image_for n z need ≡ Some image → current_image n need.block ≡ Some image
exclusive_image n z need image true is alone is_image = grind (arith, is, alone, is_image)
exclusive_image n z need image false is alone is_image = grind (arith, is, alone, is_image)

-- an image that is in hand where the block is needed exclusively
held_fits : (n : Inst) (z : ℕ) (image : BlockContent) (redo : Redo) (o : Option Needed) → needed n z ≡ o → ((need : Needed) → o ≡ Some need → is_exclusive need.mode ≡ true)
    → image_in_hand n z ≡ Some image → FitsImage image redo → ForSome (place_at n.cache (block_at n z)).current (λ now. FitsImage now.image redo)
held_fits n z image redo None is alone hand fit =
    absurd (none-some image (subst (λ (o : Option Needed). option_and_then (image_for n z) o ≡ Some image) is hand))
held_fits n z image redo (Some need) is alone hand fit =
    let found : image_for n z need ≡ Some image = subst (λ (o : Option Needed). option_and_then (image_for n z) o ≡ Some image) is hand in
    let current : current_image n need.block ≡ Some image = exclusive_image n z need image (holds n need.block need.mode) refl (alone need refl) found in
    let block : block_at n z ≡ need.block = ap block_or_zero is in
    λ now is_now.
    let there : (place_at n.cache need.block).current ≡ Some now = subst (λ (b : ℕ). (place_at n.cache b).current ≡ Some now) block is_now in
    let same : Some now.image ≡ Some image = subst (λ (o : Option Current). option_map (λ (it : Current). it.image) o ≡ Some image) there current in
    subst (λ (i : BlockContent). FitsImage i redo) (sym (some_same now.image image same)) fit

-- a choice that is something is its first part
if_some : {A : Type 0} (b : Bool) (o : Option A) (x : A) → (if b then o else None) ≡ Some x → o ≡ Some x
if_some true o x e = e
if_some false o x e = absurd (none-some x e)

-- the block that a step back needs is needed exclusively
back_alone : (back : BackTo) (need : Needed) → needed_back back ≡ Some need → is_exclusive need.mode ≡ true
back_alone to.Nothing need e = absurd (none-some need e)
back_alone (to.Block block) need e = subst (λ (it : Needed). is_exclusive it.mode ≡ true) (some_same (exclusively block) need e) refl
back_alone to.Bad need e = absurd (none-some need e)

txn_alone : (segment : SegmentState) (x : Option Xid) (need : Needed) → back_block segment x ≡ Some need → is_exclusive need.mode ≡ true
txn_alone segment None need e = absurd (none-some need e)
txn_alone segment (Some x) need e = back_alone (block_of (own_next_back x segment)) need e

-- a line that doesn't read needs its block exclusively
asks_alone : (n : Inst) (z : ℕ) (asks : Option Asks) (need : Needed) → reads asks ≡ false → needed_by n z asks ≡ Some need → is_exclusive need.mode ≡ true
asks_alone n z None need other e = absurd (none-some need e)
asks_alone n z (Some (Read first last)) need other e = grind (arith, other)
asks_alone n z (Some (Change row wish)) need other e = subst (λ (it : Needed). is_exclusive it.mode ≡ true) (some_same (exclusively (row / 8)) need e) refl
asks_alone n z (Some Commit) need other e = absurd (none-some need e)
asks_alone n z (Some Rollback) need other e = txn_alone n.segment (session_at n z).own need (if_some (goes_back n z) (back_block n.segment (session_at n z).own) need e)
asks_alone n z (Some (Savepoint name)) need other e = absurd (none-some need e)
asks_alone n z (Some (RollbackTo name)) need other e = txn_alone n.segment (session_at n z).own need (if_some (goes_back n z) (back_block n.segment (session_at n z).own) need e)

-- what a decision fits that was made on the image in hand of a line that doesn't read
pub line_fits : (n : Inst) (z : ℕ) (image : BlockContent) (redo : Redo) → reads (asks_at n z) ≡ false → image_in_hand n z ≡ Some image → FitsImage image redo
    → ForSome (place_at n.cache (block_at n z)).current (λ now. FitsImage now.image redo)
line_fits n z image redo other hand fit =
    held_fits n z image redo (needed n z) refl (λ need is. asks_alone n z (asks_at n z) need other (if_some (goes_on n z) (needed_by n z (asks_at n z)) need is)) hand fit

-- a line that takes something back doesn't read
pub back_reads_not : (n : Inst) (z : ℕ) (asks : Option Asks) → asks_at n z ≡ asks → goes_back n z ≡ true → reads asks ≡ false
back_reads_not n z None is goes = refl
back_reads_not n z (Some (Read first last)) is goes = grind (arith, is, goes)
back_reads_not n z (Some (Change row wish)) is goes = refl
back_reads_not n z (Some Commit) is goes = refl
back_reads_not n z (Some Rollback) is goes = refl
back_reads_not n z (Some (Savepoint name)) is goes = refl
back_reads_not n z (Some (RollbackTo name)) is goes = refl

-- a decision that was made on the image in hand of a line that doesn't read
pub decided_fits : (n : Inst) (z : ℕ) (image : BlockContent) (decision : Decision) → reads (asks_at n z) ≡ false → image_in_hand n z ≡ Some image
    → IfDo decision (FitsBoth n.segment image) → IfFits n (block_at n z) (Some decision)
decided_fits n z image (Need wanted) other hand fits = tt
decided_fits n z image ForceFirst other hand fits = tt
decided_fits n z image (Restart scn) other hand fits = tt
decided_fits n z image (Refuse cause) other hand fits = tt
decided_fits n z image AlreadyMine other hand fits = tt
decided_fits n z image (Do redo) other hand fits =
    record { segment = fits.segment_fits; image = line_fits n z image redo other hand fits.image_fits }
decided_fits n z image Bad other hand fits = tt

-- a step back that was decided on the image in hand
pub back_fits : (n : Inst) (z : ℕ) (image : BlockContent) (decided : Option Redo) → goes_back n z ≡ true → image_in_hand n z ≡ Some image
    → IfSome decided (FitsBoth n.segment image) → IfBackFits n (block_at n z) (Some decided)
back_fits n z image None goes hand fits = tt
back_fits n z image (Some redo) goes hand fits =
    record { segment = fits.segment_fits; image = line_fits n z image redo (back_reads_not n z (asks_at n z) refl goes) hand fits.image_fits }
