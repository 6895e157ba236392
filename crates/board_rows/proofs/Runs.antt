-- Every run of events keeps the board sound, so its journal is good.
use Rattle.std.proofs.Common.{◌≡◌, ℕ, List, [], ◌∷◌, ◌++◌, refl, sym, subst, arith, Option}
use Rattle.board_rows.proofs.Words.{Xid, Deed, recorded_in, history, Range, GoodRows, GoodJournal, Board, Event, May, after, nothing, Leads, logged, Sound}
use Rattle.board_rows.specs.Events
use Rattle.board_rows.specs.Sound.{since_loss}
use Rattle.board_rows.proofs.Keeps.{keeps-opens, keeps-starts, keeps-learns, keeps-raises, keeps-changes, keeps-takes_back, keeps-marks, keeps-rolls, keeps-settles, keeps-reads, keeps-answers, keeps-acks, keeps-notes, keeps-joins, keeps-ups}
use Rattle.board_rows.proofs.KeepsLoses.{keeps-loses}

module _ (asked : ℕ → Option Range) (insts : ℕ) where
  first-newest : (inst : ℕ) → (rest : List (Xid × Deed)) × (recorded_in inst [] ≡ since_loss inst [] ++ rest)
  first-newest inst = ([], refl)

  pub first-sound : Sound asked insts nothing
  first-sound = grind (arith, first-newest)

  pub keeps : (b : Board) (e : Event) → May asked insts b e → Sound asked insts b → Sound asked insts (after b e)
  keeps b (Events.opens z i) may sound = keeps-opens asked insts b sound z i may
  keeps b (Events.starts n z i e first) may sound = keeps-starts asked insts b sound n z i e first may
  keeps b (Events.learns i e) may sound = keeps-learns asked insts b sound i e may.low
  keeps b (Events.raises i c) may sound = keeps-raises asked insts b sound i c
  keeps b (Events.changes n z s x seq deed) may sound = keeps-changes asked insts b sound n z s x seq deed may
  keeps b (Events.takes_back i x seq row left) may sound = keeps-takes_back asked insts b sound i x seq row left may
  keeps b (Events.marks n x) may sound = keeps-marks asked insts b sound n x may.opened
  keeps b (Events.rolls i x) may sound = keeps-rolls asked insts b sound i x may
  keeps b (Events.settles newer r there) may sound = keeps-settles asked insts b sound newer r there may
  keeps b (Events.reads z i k newer there status) may sound = keeps-reads asked insts b sound z i k newer there status may
  keeps b (Events.answers n z) may sound = keeps-answers asked insts b sound n z may
  keeps b (Events.acks n c x) may sound = keeps-acks asked insts b sound n c x may
  keeps b (Events.notes e) may sound = keeps-notes asked insts b sound e may
  keeps b (Events.loses i kept entry) may sound = keeps-loses asked insts b sound i kept may.0 entry may.1
  keeps b (Events.joins i c known) may sound = keeps-joins asked insts b sound i c known may
  keeps b (Events.ups line i) may sound = keeps-ups asked insts b sound line i may

  -- a step that is several events
  pub leads-on : (events more : List Event) (b mid end : Board) → Leads asked insts b events mid → Leads asked insts mid more end → Leads asked insts b (events ++ more) end
  leads-on [] more b mid end first rest = subst (λ (from : Board). Leads asked insts from more end) (sym first) rest
  leads-on (e ∷ events) more b mid end first rest = (first.0, leads-on events more (after b e) mid end first.1 rest)

  pub leads-sound : (events : List Event) (b end : Board) → Leads asked insts b events end → Sound asked insts b → Sound asked insts end
  leads-sound [] b end leads sound = subst (Sound asked insts) leads sound
  leads-sound (e ∷ events) b end leads sound = leads-sound events (after b e) end leads.1 (keeps b e leads.0 sound)

  pub good-rows : (b : Board) → Sound asked insts b → GoodRows asked b.past
  good-rows b sound = sound.good_rows

  pub good-journal : (b : Board) → Sound asked insts b → GoodJournal b.past
  good-journal b sound = sound.good

  pub good-history : (b : Board) → Sound asked insts b → history b.past ≡ logged b.durable b.records
  good-history b sound = sound.log_history

  pub run-sound : (events : List Event) (end : Board) → Leads asked insts nothing events end → Sound asked insts end
  run-sound events end leads = leads-sound events nothing end leads first-sound
