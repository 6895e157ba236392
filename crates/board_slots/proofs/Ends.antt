-- What a copy ends in.
use Rattle.std.proofs.Common.{◌≡◌, ℕ, ◌-◌, ◌<◌, ◌≤◌, Bool, true, false, cond, ◌&&◌, ◌||◌, List, ◌∷◌, ◌++◌, length, refl, sym, ap, ◌∙◌, subst}
use Rattle.std.specs.Prelude.{Option, Some, None, Result, Ok, Err, IfSome, nat_le, zero, suc}
use Rattle.std.specs.List.{AllByRecursion}
use Rattle.base_types.specs.declared.names.Xid.{Xid}
use Rattle.block_image.specs.Block.{BlockContent}
use Rattle.undo_segment.specs.declared.fetch.Fetch.{Fetch}
use Rattle.undo_segment.specs.declared.look.Look.{Look}
use Rattle.txn_slots.specs.Own.{is_own}
use Rattle.cr_copy.specs.declared.copy.Pick.{Pick}
use Rattle.cr_copy.specs.declared.copy.Work.{Work}
use Rattle.cr_copy.specs.declared.made.Halt.{Halt}
use Rattle.cr_copy.specs.declared.made.Halt.TheVariants.{Bad}
use Rattle.cr_copy.specs.Copy as copy
use Rattle.cr_copy.specs.Copy.{falling, goes_on, round, rounds, row_shown}
use Rattle.board_slots.specs.Block.{Deed, Image}
use Rattle.board_slots.specs.Images.{IsSeen}
use Rattle.board_slots.specs.Slots.{IsFair, Orderly, Shows}
use Rattle.board_slots.specs.Views.{ReaderFollows, undo_of, value_at, view}
use Rattle.board_slots.proofs.Newest.{all_append}
use Rattle.board_slots.proofs.Held.{fair-all}
use Rattle.board_slots.proofs.Rule.{best, class, first_of, four, head_halt, or_else, outcome, pick, round-is, undo_halt}
use Rattle.board_slots.proofs.Rounds.{halts-none, Fits, goes, Left, Rest, Round, round as one_round, taken}
use Rattle.board_slots.proofs.Rounds.{left-taken as rest-taken}
use Rattle.board_slots.proofs.Copies.{left-stays, shown}
use Rattle.board_slots.proofs.Works.{IsLeft, left-taken, row-shown}

module _ (committed : Xid → Option ℕ) (s : ℕ) (me : Option Xid) (visible : Xid → Bool) (look : Xid → Look) (number : ℕ) (fetch : Xid → ℕ → Fetch) where
  abbrev class_of : Xid → Result Bool Halt
  class_of x = class s me look x

  abbrev F : Deed → Type 0
  F m = Fits committed s me visible class_of number fetch m

  abbrev pub heads_of : Rest → Option Halt
  heads_of rest = first_of (λ k. head_halt class_of (rest.slot k)) four

  abbrev pub undos_of : Rest → Option Halt
  undos_of rest = first_of (λ k. undo_halt class_of number fetch k (rest.slot k)) four

  abbrev pub best_of : Rest → Option Pick
  best_of rest = best (λ k. pick class_of number fetch k (rest.slot k)) four

  -- a round of the program's over what is left
  pub round-of : (w : Work) (rest : Rest) → IsLeft w rest → round s me look fetch number w.itl ≡ outcome (or_else (heads_of rest) (undos_of rest)) (best_of rest)
  round-of w rest is = round-is s me look fetch number w.itl rest.slot is.four_slots is.slot

  -- a round that takes one back leaves what is left
  pub record Next (all : List Deed) (w : Work) (rest : Rest) (deeds : List Deed) (p : Pick) : Type 0 where
    pub m : Deed
    pub newer : List Deed
    pub older : List Deed
    pub place : deeds ≡ newer ++ m ∷ older
    pub kept : p.undo ≡ undo_of number m
    pub left : IsLeft (copy.taken p w) (taken p rest)
    pub stands : Left committed s me visible class_of number fetch all (taken p rest) (newer ++ older)
    pub goes_back : goes me visible m.xid ≡ true

  pub next : (all : List Deed) (w : Work) (rest : Rest) (deeds : List Deed) (p : Pick) → IsLeft w rest → Left committed s me visible class_of number fetch all rest deeds
      → heads_of rest ≡ None → undos_of rest ≡ None → best_of rest ≡ Some p → Next all w rest deeds p
  next all w rest deeds p is left f g i =
      record {
        m = x.m;
        newer = x.newer;
        older = x.older;
        place = x.place;
        kept = x.kept;
        left = left-taken w rest p is row first last;
        stands = rest-taken committed s me visible class_of number fetch all rest p x.m x.newer x.older (subst (Left committed s me visible class_of number fetch all rest) x.place left) x.clear x.itl x.kept x.goes_back;
        goes_back = x.goes_back;
      }
    where
      x : Round committed s me visible class_of number fetch all rest deeds left (halts-none (λ k. head_halt class_of (rest.slot k)) four f) (halts-none (λ k. undo_halt class_of number fetch k (rest.slot k)) four g) p i
      x = one_round committed s me visible class_of number fetch all rest deeds left (halts-none (λ k. head_halt class_of (rest.slot k)) four f) (halts-none (λ k. undo_halt class_of number fetch k (rest.slot k)) four g) p i

      fair : IsFair committed x.m
      fair = (all_append (IsFair committed) x.newer (x.m ∷ x.older) (subst (AllByRecursion (IsFair committed)) x.place (fair-all committed deeds left.orderly))).1.0

      row : p.undo.row < 8
      row = rw x.kept fair.placed.row

      first : 1 ≤ p.itl
      first = rw x.itl fair.placed.first

      last : p.itl ≤ 4
      last = rw x.itl fair.placed.last

  module _ (block : BlockContent) (image : Image) (all : List Deed) (seen : IsSeen block image) (h : Orderly committed all) (shows : Shows committed image all) (fits : AllByRecursion F all)
      (reader : IfSome me (λ x. committed x ≡ None)) (follows : ReaderFollows committed s me all) where
    abbrev Seen : Xid → Bool
    Seen x = is_own me x || visible x

    -- the rows that are told are those that are visible
    abbrev pub IsView : Work → Type 0
    IsView out = (length out.rows ≡ 8) × ((r : ℕ) → r < 8 → row_shown me block r (value_at out.rows r) ≡ view Seen all r)

    pub rounds-view : (fuel last : ℕ) (w : Work) (rest : Rest) (deeds : List Deed) → IsLeft w rest → Left committed s me visible class_of number fetch all rest deeds
        → (out : Work) → rounds (round s me look fetch number) fuel last w ≡ Ok out → IsView out
    unfolding rounds
    rounds-view zero last w rest deeds is left out e = absurd (let bad : ◌≡◌ {A = Result Work Halt} (Err Bad) (Ok out) = e in cc)
    rounds-view (suc fuel) last w rest deeds is left out e =
        here (heads_of rest) refl (undos_of rest) refl (best_of rest) refl
        (sym (ap (λ r. goes_on (λ p. rounds (round s me look fetch number) fuel (p.undo.version - 1) (copy.taken p w)) w (falling last r)) (round-of w rest is)) ∙ e) (rounds-view fuel)
      where
        go : Pick → Result Work Halt
        go p = rounds (round s me look fetch number) fuel (p.undo.version - 1) (copy.taken p w)

        here : (a : Option Halt) → heads_of rest ≡ a → (b : Option Halt) → undos_of rest ≡ b → (o : Option Pick) → best_of rest ≡ o → goes_on go w (falling last (outcome (or_else a b) o)) ≡ Ok out
            → ((last : ℕ) (w : Work) (rest : Rest) (deeds : List Deed) → IsLeft w rest → Left committed s me visible class_of number fetch all rest deeds → (out : Work) → rounds (round s me look fetch number) fuel last w ≡ Ok out → IsView out)
            → IsView out
        here (Some a) f b g o i e ih = absurd (let bad : ◌≡◌ {A = Result Work Halt} (Err a) (Ok out) = e in cc)
        here None f (Some b) g o i e ih = absurd (let bad : ◌≡◌ {A = Result Work Halt} (Err b) (Ok out) = e in cc)
        here None f None g None i e ih =
            let same : w ≡ out = cc in
            let stays = left-stays committed s me visible class_of number fetch all rest deeds left (halts-none (λ k. head_halt class_of (rest.slot k)) four f) (halts-none (λ k. undo_halt class_of number fetch k (rest.slot k)) four g) i in
            subst IsView same (
              is.eight_rows,
              λ r lt. row-shown committed block image all seen h shows me rest (value_at w.rows r) r lt (is.value r lt)
                  ∙ shown committed s me visible class_of number fetch image all h shows fits reader follows rest deeds left stays r,
            )
        here None f None g (Some p) i e ih = falls (nat_le 1 p.undo.version) (nat_le p.undo.version last) e
          where
            x : Next all w rest deeds p
            x = next all w rest deeds p is left f g i

            falls : (a b : Bool) → goes_on go w (cond (a && b) (Ok (Some p)) (Err Bad)) ≡ Ok out → IsView out
            falls true true e = ih (p.undo.version - 1) (copy.taken p w) (taken p rest) (x.newer ++ x.older) x.left x.stands out e
            falls true false e = absurd (let bad : ◌≡◌ {A = Result Work Halt} (Err Bad) (Ok out) = e in cc)
            falls false b e = absurd (let bad : ◌≡◌ {A = Result Work Halt} (Err Bad) (Ok out) = e in cc)
