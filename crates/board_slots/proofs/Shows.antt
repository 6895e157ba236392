-- The theorem on consistent copies.
use Rattle.std.proofs.Common.{◌≡◌, ◌≢◌, ℕ, ◌+◌, ◌<◌, ◌≤◌, ◌||◌, List, refl, sym, ap, ◌∙◌, subst, arith}
use Rattle.std.specs.Prelude.{Option, None, Result, Ok, Err, IfSome, suc}
use Rattle.std.specs.List.{AllByRecursion, Any}
use Rattle.base_types.specs.declared.names.Xid.{Xid}
use Rattle.base_types.specs.declared.value.Value.{Value}
use Rattle.block_image.specs.Block.{BlockContent}
use Rattle.undo_segment.specs.declared.fetch.Fetch.{Fetch}
use Rattle.undo_segment.specs.declared.look.Look.{Look}
use Rattle.txn_slots.specs.Own.{is_own}
use Rattle.cr_copy.specs.declared.copy.Work.{Work}
use Rattle.cr_copy.specs.declared.made.Halt.{Halt}
use Rattle.cr_copy.specs.declared.made.Halt.TheVariants as halt
use Rattle.cr_copy.specs.declared.made.Made.TheVariants.{Bad, Need, Rows, TooOld}
use Rattle.cr_copy.specs.Copy.{halted, made_of, make, round, rounds, row_shown, rows_shown, work_of}
use Rattle.board_slots.specs.Block.{Image, Record, committed, content, stands}
use Rattle.board_slots.specs.Images.{IsSeen}
use Rattle.board_slots.specs.Reads.{MayRead}
use Rattle.board_slots.specs.Records.{Sound}
use Rattle.board_slots.specs.Told.{ended_by, HasReason, IsTold, Stops}
use Rattle.board_slots.specs.Views.{ReaderFollows, value_at, view}
use Rattle.board_slots.proofs.Newest.{all_map}
use Rattle.board_slots.proofs.Rule.{class}
use Rattle.board_slots.proofs.Rounds.{Fits, Left, Rest}
use Rattle.board_slots.proofs.Works.{left-first, shown-at}
use Rattle.board_slots.proofs.Ends.{IsView, rounds-view}
use Rattle.board_slots.proofs.Readers.{fits-told}
use Rattle.board_slots.proofs.Reasons.{Low, rounds-stop}

module _ (records : List Record) (block : BlockContent) (s : ℕ) (me : Option Xid) (ended : Xid → Option ℕ) (look : Xid → Look) (fetch : Xid → ℕ → Fetch) (may : MayRead records block me ended look fetch) where
  abbrev seen : IsSeen block (content records)
  seen = may.seen

  abbrev reader : IfSome me (λ x. committed records x ≡ None)
  reader = may.open_there

  abbrev number : ℕ
  number = block.front.number

  abbrev past : Xid → Option ℕ
  past x = committed records x

  abbrev image : Image
  image = content records

  abbrev sound : Sound records
  sound = may.sound

  fits : AllByRecursion (Fits past s me (ended_by s ended) (class s me look) number fetch) (stands records)
  fits = all_map (IsTold number past ended look fetch) (Fits past s me (ended_by s ended) (class s me look) number fetch) (stands records) (fits-told past s me ended look number fetch reader) may.told

  abbrev begin : Rest
  begin = record { value = image.value; slot = image.slot }

  left : Left past s me (ended_by s ended) (class s me look) number fetch (stands records) begin (stands records)
  left = record { orderly = sound.orderly; fits = fits; values = sound.shows.values; slots = sound.shows.slots; same = λ t. refl }

  abbrev run : Result Work Halt
  run = rounds (round s me look fetch number) (suc block.front.version) block.front.version (work_of block)

  pub copies-show : ReaderFollows past s me (stands records) → (rows : List Value) → make s me look fetch block ≡ Rows rows → (r : ℕ) → r < 8 → value_at rows r ≡ view (λ x. is_own me x || ended_by s ended x) (stands records) r
  copies-show follows rows e r lt = here run refl e
    where
      bad : (a : Halt) → halted a ≡ Rows rows → ⊥
      bad (halt.Need wanted) e = absurd (let no : Need wanted ≡ Rows rows = e in cc)
      bad (halt.TooOld cause) e = absurd (let no : TooOld cause ≡ Rows rows = e in cc)
      bad halt.Bad e = absurd (let no : Bad ≡ Rows rows = e in cc)

      here : (x : Result Work Halt) → run ≡ x → made_of me block x ≡ Rows rows → value_at rows r ≡ view (λ x. is_own me x || ended_by s ended x) (stands records) r
      here (Err a) f e = absurd (bad a e)
      here (Ok out) f e =
          let same : rows_shown me block 0 out.rows ≡ rows = cc in
          let is : IsView past s me (ended_by s ended) look number fetch block image (stands records) seen sound.orderly sound.shows fits reader follows out = rounds-view past s me (ended_by s ended) look number fetch block image (stands records) seen sound.orderly sound.shows fits reader follows
          (suc block.front.version) block.front.version (work_of block) begin (stands records) (left-first block image seen) left out f in
          let zero_is : 0 + r ≡ r = omega arith in
          rw (sym same) (shown-at me block 0 out.rows r (let eight = is.0 in omega (arith, lt)) ∙ (ap (λ (q : ℕ). row_shown me block q (value_at out.rows r)) zero_is ∙ is.1 r lt))

  stops : (a : Halt) → run ≡ Err a → Any (Stops s look fetch (halted a)) (stands records)
  stops a e =
      rounds-stop s me look number fetch past (ended_by s ended) (stands records) (suc block.front.version) block.front.version (work_of block) begin (stands records) (left-first block image seen) left
      (all_map (λ m. (m.scn ≤ image.scn) × (m.version ≤ image.version)) (Low s me look number fetch past (ended_by s ended) (stands records) block.front.version) (stands records) (λ m l c. (let v = seen.version in omega (arith, l.1))) sound.shows.low)
      (omega arith) a e

  pub copies-halt : HasReason s look fetch (stands records) (make s me look fetch block)
  copies-halt = here run refl
    where
      of : (a : Halt) → Any (Stops s look fetch (halted a)) (stands records) → HasReason s look fetch (stands records) (halted a)
      of (halt.Need wanted) h = h
      of (halt.TooOld cause) h = h
      of halt.Bad h = h

      here : (x : Result Work Halt) → run ≡ x → HasReason s look fetch (stands records) (made_of me block x)
      here (Ok out) e = tt
      here (Err a) e = of a (stops a e)

  pub copies-good : make s me look fetch block ≢ Bad
  copies-good e = (subst (HasReason s look fetch (stands records)) e copies-halt).4
