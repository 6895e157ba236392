-- The example may be read, and its copy shows what is to be seen.
use Rattle.std.proofs.Common.{◌≡◌, ℕ, ◌<◌, ◌≤◌, true, List, [], refl, arith, inr}
use Rattle.std.specs.Prelude.{None, pos}
use Rattle.base_types.specs.declared.names.Xid.{Xid}
use Rattle.base_types.specs.declared.value.Value.TheVariants.{Num}
use Rattle.undo_segment.specs.declared.look.Look.{Look}
use Rattle.undo_segment.specs.declared.look.Look.TheVariants.{Active}
use Rattle.txn_slots.specs.declared.choice.SlotAnswer.TheVariants.{Take}
use Rattle.txn_slots.specs.Choice.{choose_slot}
use Rattle.txn_slots.specs.Lock.{lock_row}
use Rattle.cr_copy.specs.declared.made.Made.TheVariants.{Rows}
use Rattle.cr_copy.specs.Copy.{make, rounds}
use Rattle.board_slots.specs.Block.{committed, Record, stands}
use Rattle.board_slots.specs.Decide.{GoesOn, MayDecide}
use Rattle.board_slots.specs.Example.{all_ended, deed_after, example, fifth_deed, five, four_deeds, header, one, seen_at_6, three, two, txn, undo}
use Rattle.board_slots.specs.Images.{block_of}
use Rattle.board_slots.specs.Reads.{MayRead}
use Rattle.board_slots.specs.Records.{AreMade, MayDo}
use Rattle.board_slots.specs.Told.{ended}
use Rattle.board_slots.specs.Views.{ReaderFollows}
use Rattle.board_slots.proofs.Deciding.{decides}
use Rattle.board_slots.proofs.Follows.{follows-none}
use Rattle.board_slots.proofs.Keeps.{all-sound}
use Rattle.board_slots.proofs.Seen.{blocks-seen}

abbrev active : Xid → Look
active x = Active

-- a new transaction's deed
may : (records : List Record) → AreMade records → (slot seq s scn r k : ℕ) (look : Xid → Look) → MayDecide records None (txn slot) look s scn → slot < 8 → 1 ≤ seq → r < 8 → GoesOn s (lock_row None look (block_of 0 records) r) → choose_slot None look (block_of 0 records).itl ≡ Take k true
    → MayDo records (deed_after records slot seq scn r k)
may records made slot seq s scn r k look ask low some lt goes takes =
    decides records (all-sound records made) None (txn slot) look s scn ask (block_of 0 records) (blocks-seen 0 records made) 0 seq r k true true (Num (pos seq)) lt
    (record { segment = omega arith; slot_no = low; seq = λ used. some }) goes takes

is1 : AreMade one
is1 = (may [] tt 0 1 0 1 0 1 active (record { mine = inr (refl, refl); wrap = omega arith; goes_on = refl; up = omega arith; tells = tt; low = tt; started = omega arith }) (omega arith) (omega arith) (omega arith) (omega arith) refl, tt)

is2 : AreMade two
is2 = (may one is1 1 2 1 2 1 2 active (record { mine = inr (refl, refl); wrap = omega arith; goes_on = refl; up = omega arith; tells = (tt, tt); low = (tt, tt); started = omega arith }) (omega arith) (omega arith) (omega arith) (omega arith) refl, is1)

is3 : AreMade three
is3 = (may two is2 2 3 2 3 2 3 active (record { mine = inr (refl, refl); wrap = omega arith; goes_on = refl; up = omega arith; tells = (tt, (tt, tt)); low = (tt, (tt, tt)); started = omega arith }) (omega arith) (omega arith) (omega arith) (omega arith) refl, is2)

is4 : AreMade four_deeds
is4 = (may three is3 3 4 3 4 3 4 active (record { mine = inr (refl, refl); wrap = omega arith; goes_on = refl; up = omega arith; tells = (tt, (tt, (tt, tt))); low = (tt, (tt, (tt, tt))); started = omega arith }) (omega arith) (omega arith) (omega arith) (omega arith) refl, is3)

is_ended : AreMade all_ended
is_ended = (
  record { goes_on = refl; above = (tt, (tt, (tt, ((λ e. omega arith), ((λ e. (cc)), ((λ e. (cc)), ((λ e. (cc)), tt))))))) },
  (
    record { goes_on = refl; above = (tt, (tt, ((λ e. (cc)), ((λ e. omega arith), ((λ e. (cc)), ((λ e. (cc)), tt)))))) },
    (
      record { goes_on = refl; above = (tt, ((λ e. (cc)), ((λ e. (cc)), ((λ e. omega arith), ((λ e. (cc)), tt))))) },
      (
        record { goes_on = refl; above = ((λ e. (cc)), ((λ e. (cc)), ((λ e. (cc)), ((λ e. omega arith), tt)))) },
        is4,
      ),
    ),
  ),
)

-- The fifth starts at 8, when all four have ended. It takes ITL slot 1, whose transaction ended first.
is5 : AreMade five
is5 = (
  may all_ended is_ended 4 5 8 9 0 1 header
      (record {
        mine = inr (refl, refl);
        wrap = omega arith;
        goes_on = refl;
        up = omega arith;
        tells = (((λ e. (cc)), refl), (((λ e. (cc)), refl), (((λ e. (cc)), refl), (((λ e. (cc)), refl), tt))));
        low = (omega arith, (omega arith, (omega arith, (omega arith, tt))));
        started = omega arith;
      })
      (omega arith) (omega arith) (omega arith) (omega arith) refl,
  is_ended,
)

pub is_example : AreMade example
is_example = (record { goes_on = refl; deed = fifth_deed; newest_own = refl; number = refl; does = refl; up = omega arith }, is5)

pub may_read : MayRead example (block_of 0 example) None (ended example) header undo
may_read =
    record {
      sound = all-sound example is_example;
      seen = blocks-seen 0 example is_example;
      open_there = tt;
      told = (
        record { stays = λ scn e. e; above = omega arith; looks = refl; fetched = refl },
        (
          record { stays = λ scn e. e; above = omega arith; looks = refl; fetched = refl },
          (
            record { stays = λ scn e. e; above = omega arith; looks = refl; fetched = tt },
            (record { stays = λ scn e. e; above = omega arith; looks = refl; fetched = tt }, tt),
          ),
        ),
      );
    }

pub follows : ReaderFollows (committed example) 6 None (stands example)
follows = follows-none (committed example) 6 None (stands example) (refl, (refl, (refl, (refl, tt))))

pub shows : make 6 None header undo (block_of 0 example) ≡ Rows seen_at_6
unfolding rounds
shows = refl
