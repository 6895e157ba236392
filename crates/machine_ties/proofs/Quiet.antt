-- A step that touches no block, and sends nothing about one, plays the protocol on.
use Rattle.std.proofs.Common.{◌≡◌, ◌∙◌, ℕ, ◌<◌, List, [], ◌∷◌, length, length-append, refl, sym, ap, subst, arith}
use Rattle.std.specs.Prelude.{max, if◌then◌else◌, fold, Bool, Option, None, Some, is_some, option_map, slice_get, slice_index_or, slice_set, true, false, is_none, ◌&&◌}
use Rattle.std.specs.List.{AllByRecursion}
use Rattle.std.proofs.lemmas.Bool.{and_parts}
use Rattle.std.proofs.lemmas.Option.{none-some}
use Rattle.scn_clock.specs.declared.clock.Clock.{Clock}
use Rattle.scn_clock.specs.Clock.{raised}
use Rattle.inst_set.specs.Sets.{all_insts}
use Rattle.redo_types.specs.declared.redo.Redo.{Redo}
use Rattle.rac_disk.specs.Content.{Content, with_control}
use Rattle.rac_disk.specs.State.{Leaves, PutControl, State, WhereTold}
use Rattle.disk_calls.specs.Calls.{WritesControlAs, done}
use Rattle.disk_calls.specs.declared.writes.Written.{Written}
use Rattle.disk_calls.specs.declared.writes.Written.TheVariants.{Done}
use Rattle.disk_steps.specs.Checkpoint.{bytes_of_entry, checkpoint_ended, checkpoint_told, checkpointed, entry_now}
use Rattle.image_steps.specs.TakeCopy.{came_by, copy_taken, has_come, may_take_copy}
use Rattle.wire_net.specs.declared.message.Lane.{Lane}
use Rattle.wire_net.specs.declared.message.Lane.TheVariants.{Main, Undo}
use Rattle.wire_net.specs.declared.message.Message.{Message}
use Rattle.wire_net.specs.declared.message.Message.TheVariants as messages
use Rattle.wire_net.specs.declared.message.Packet.{Packet}
use Rattle.wire_net.specs.Links.{lane_for, sent, taken}
use Rattle.buffer_cache.specs.declared.place.Place.{Place}
use Rattle.buffer_cache.specs.Cache.{place_at, with_copy_used}
use Rattle.buffer_cache.specs.Place.{empty_place}
use Rattle.inst_state.specs.declared.inst.Inst.{Inst}
use Rattle.inst_state.specs.declared.inst.OwnWave.{OwnWave}
use Rattle.inst_state.specs.declared.needs.Needed.{Needed}
use Rattle.inst_state.specs.declared.session.Ending.{Ending}
use Rattle.inst_state.specs.declared.session.Session.{Session}
use Rattle.inst_state.specs.declared.control.Control.{Control}
use Rattle.inst_state.specs.declared.shared.Core.{Core}
use Rattle.inst_state.specs.Hand.{reads_kept, snapshot_at}
use Rattle.inst_state.specs.Needs.{needed}
use Rattle.inst_state.specs.Sending.{first_from, sending, without_first}
use Rattle.inst_state.specs.Shared.{open_control}
use Rattle.inst_state.specs.State.{is_forced, stmt_at}
use Rattle.image_steps.specs.Hear.{clock_heard, hears}
use Rattle.image_steps.specs.ServeUndo.{first_undo_order, may_serve_undo, undo_image, undo_order_of, undo_sent, undo_sent_by, undo_sent_of}
use Rattle.wire_net.specs.declared.message.UndoImage.{UndoImage}
use Rattle.redo_record.specs.Redo.{redo_bytes}
use Rattle.stmt_steps.specs.declared.answers.Answer.{Answer}
use Rattle.txn_engine.specs.declared.ask.Decision.{Decision}
use Rattle.txn_engine.specs.declared.ask.Decision.TheVariants.{AlreadyMine, Do, Refuse, Restart}
use Rattle.stmt_steps.specs.Change.{change_decided, changed, changed_as, line_restarted, lock_found, may_change, record_in}
use Rattle.stmt_steps.specs.End.{answer_at, ended, ended_by}
use Rattle.stmt_steps.specs.Mark.{end_decided, marked, marked_by}
use Rattle.stmt_steps.specs.Start.{started}
use Rattle.stmt_steps.specs.Visit.{cache_used, line_refused, visited}
use Rattle.wave_steps.specs.Answers.{ack_told, acked, acked_core, with_acked}
use Rattle.wave_steps.specs.Buckets.{bucket_kept, move_told}
use Rattle.wave_steps.specs.Enter.{entered, entered_core}
use Rattle.wave_steps.specs.News.{answering_packet, bears_news, broadcast, broadcast_core, durable_ending, heard, heard_core, hearing_packet, is_other_live, may_hear, sent_if, sent_to_others, with_news, with_told}
use Rattle.wave_steps.specs.WaveEnd.{skipped, skipped_line}
use Rattle.block_protocol.proofs.Bags.{same-refl}
use Rattle.protocol_ties.specs.Bags.{AreLinks, bag_of}
use Rattle.protocol_ties.specs.Messages.{block_of}
use Rattle.block_protocol.specs.Wire.{Same}
use Rattle.protocol_ties.proofs.Bag.{same-trans}
use Rattle.machine_ties.proofs.Heard.{first-low, low-me}
use Rattle.machine_ties.proofs.Holds.{Alike}
use Rattle.machine_ties.proofs.Links.{sane-sent, sane-taken, undo-first}
use Rattle.machine_ties.proofs.Moves.{max-same, others-sent, others-taken, plays-hears, plays-rises, sent-sized, taken-sized}
use Rattle.machine_ties.specs.Plays.{Plays, newest}
use Rattle.machine_ties.specs.Sane.{AreSaneLinks, IsSane}

-- another clock, other sessions and another wave leave an instance alike
pub alike-but : (n : Inst) (clock : Clock) (sessions : List Session) (wave : OwnWave) → Alike n (record n { clock = clock; sessions = sessions; wave = wave })
alike-but n clock sessions wave = record { plan = refl; life = refl; paused = refl; leading = refl; mastering = refl; newest = refl; thread = refl; cached = refl; numbers = λ are. are }

-- Other links bear the same about each block, and what is sane.
pub record BearSame (made : ℕ → ℕ) (links now : List (List Packet)) : Type 0 where
  pub sized : AreLinks now
  pub bags : (c : ℕ) → Same (bag_of c links) (bag_of c now)
  pub sane : AreSaneLinks made now

pub same-sent : (made : ℕ → ℕ) (links now : List (List Packet)) (from to scn : ℕ) (message : Message) → from < 8 → to < 8 → block_of message ≡ None → IsSane made message → BearSame made links now
    → BearSame made links (sent now from to (record { scn = scn; message = message }))
same-sent made links now from to scn message low there about sane it = record {
  sized = sent-sized now from to (record { scn = scn; message = message }) it.sized;
  bags = λ c. same-trans (bag_of c links) (bag_of c now) (bag_of c (sent now from to (record { scn = scn; message = message }))) (it.bags c)
      (others-sent c from to scn message now it.sized low there (λ is. none-some c (sym about ∙ is)));
  sane = sane-sent made now from to (record { scn = scn; message = message }) it.sane sane;
}

module _ (count steps blocks : ℕ) (core : Core) (insts : List Inst) (disk : Content) (p : Plays count steps blocks core.net.links core.net.masters insts disk) (n : Inst) (at : slice_get insts n.plan.me ≡ Some n) where
  abbrev me : ℕ
  me = n.plan.me

  abbrev PlaysOn : List (List Packet) → Inst → Type 0
  PlaysOn links m = Plays count steps blocks links core.net.masters (slice_set insts me m) disk

  low : me < 8
  low = low-me count steps blocks core insts disk p n at

  pub bears-same : BearSame (newest p.whole) core.net.links core.net.links
  bears-same = record { sized = p.sized; bags = λ c. same-refl (bag_of c core.net.links); sane = p.sane }

  -- it has risen its clock, and taken or sent nothing about a block
  pub plays-about-none : (scn : ℕ) (links : List (List Packet)) (m : Inst) → Alike n m → max n.clock.scn scn ≡ m.clock.scn → ((c : ℕ) → place_at m.cache c ≡ place_at n.cache c) → BearSame (newest p.whole) core.net.links links → PlaysOn links m
  plays-about-none scn links m alike clock places it =
      plays-rises count steps blocks core.net.links core.net.masters insts disk p me n m at alike scn links disk clock (λ c low. places c) (λ c low. refl) it.sized (λ c low. it.bags c) it.sane

  -- it has changed neither its clock nor what it has of a block
  plays-quiet : (m : Inst) → Alike n m → n.clock.scn ≡ m.clock.scn → ((c : ℕ) → place_at m.cache c ≡ place_at n.cache c) → PlaysOn core.net.links m
  plays-quiet m alike clock places = plays-about-none n.clock.scn core.net.links m alike (max-same n.clock.scn ∙ clock) places bears-same

  -- other sessions, another wave
  pub plays-with : (sessions : List Session) (wave : OwnWave) → PlaysOn core.net.links (record n { sessions = sessions; wave = wave })
  plays-with sessions wave = plays-quiet (record n { sessions = sessions; wave = wave }) (alike-but n n.clock sessions wave) refl (λ c. refl)

  pub plays-still : PlaysOn core.net.links n
  plays-still = plays-with n.sessions n.wave

  pub start-plays : (z : ℕ) → PlaysOn core.net.links (started n z)
  start-plays z = plays-with (started n z).sessions n.wave

  -- a kept copy that is used leaves the places
  used-places : (z : ℕ) (need : Option Needed) → (cache_used n z need).places ≡ n.cache.places
  used-places z None = refl
  used-places z (Some need) = go (reads_kept n z need)
    where
      go : (t : Bool) → (if t then with_copy_used n.cache need.block (snapshot_at n z) else n.cache).places ≡ n.cache.places
      go true = refl
      go false = refl

  pub visit-plays : (z : ℕ) → PlaysOn core.net.links (visited n z)
  visit-plays z =
      let same : (visited n z).cache.places ≡ n.cache.places = used-places z (needed n z) in
      let places : (c : ℕ) → place_at (visited n z).cache c ≡ place_at n.cache c = λ c. ap (λ (ps : List Place). slice_index_or ps c empty_place) same in
      plays-quiet (visited n z) (record {
        plan = refl;
        life = refl;
        paused = refl;
        leading = refl;
        mastering = refl;
        newest = refl;
        thread = refl;
        cached = ap (λ (ps : List Place). length ps) same;
        numbers = λ are c now is. are c now (sym (ap (λ (q : Place). q.current) (places c)) ∙ is);
      }) refl places

  end-of : (z : ℕ) (answer : Option Answer) → PlaysOn core.net.links (ended_by n z answer)
  end-of z None = plays-still
  end-of z (Some answer) = plays-with (ended_by n z (Some answer)).sessions n.wave

  pub end-plays : (z : ℕ) → PlaysOn core.net.links (ended n z)
  end-plays z = end-of z (answer_at n z)

  ack-of : (z : ℕ) (ending : Option Ending) → PlaysOn (ack_told core (stmt_at n z) ending).net.links (with_acked n z ending)
  ack-of z None = plays-still
  ack-of z (Some ending) = plays-with (with_acked n z (Some ending)).sessions n.wave

  pub ack-plays : (z : ℕ) → PlaysOn (acked_core n core z).net.links (acked n z)
  ack-plays z = ack-of z (durable_ending n z)

  pub enter-plays : PlaysOn (entered_core n core).net.links (entered n core)
  enter-plays = plays-with (entered n core).sessions (entered n core).wave

  skip-of : (control : Option Control) → PlaysOn (skipped_line core control).net.links n
  skip-of None = plays-still
  skip-of (Some control) = plays-still

  pub skip-plays : (line : ℕ) → PlaysOn (skipped core line).net.links n
  skip-plays line = skip-of (open_control core line)

  keep-of : (control : Option Control) → PlaysOn (move_told core control).net.links n
  keep-of None = plays-still
  keep-of (Some control) = plays-still

  pub keep-plays : (line : ℕ) → PlaysOn (bucket_kept core line).net.links n
  keep-plays line = keep-of (open_control core line)

  -- ---- news

  heard-first : (from s : ℕ) (lane : Lane) (message : Message) → first_from core from me lane ≡ Some (record { scn = s; message = message }) → block_of message ≡ None
      → (from < 8) × BearSame (newest p.whole) core.net.links (taken core.net.links from me lane)
  heard-first from s lane message first about =
      let sender : from < 8 = first-low core.net.links from me lane (record { scn = s; message = message }) p.sized low first in (
        sender,
        record {
          sized = taken-sized core.net.links from me lane p.sized;
          bags = λ c. others-taken c from me s lane message core.net.links p.sized sender low first (λ is. none-some c (sym about ∙ is));
          sane = sane-taken (newest p.whole) core.net.links from me lane p.sane;
        },
      )

  hear-of : (from s : ℕ) (message : Message) → first_from core from me Main ≡ Some (record { scn = s; message = message }) → bears_news (Some (record { scn = s; message = message })) ≡ true
      → PlaysOn (answering_packet (without_first core from me Main) me (hearing_packet n core.members.epoch from (Some (record { scn = s; message = message }))).clock.scn from (Some (record { scn = s; message = message }))).net.links
      (hearing_packet n core.members.epoch from (Some (record { scn = s; message = message })))
  hear-of from s (messages.Commit c) first may =
      let k = heard-first from s Main (messages.Commit c) first refl in
      let m : Inst = hearing_packet n core.members.epoch from (Some (record { scn = s; message = messages.Commit c })) in
      plays-about-none (max s c) (sent (taken core.net.links from me Main) me from (record { scn = m.clock.scn; message = messages.Heard c })) m (alike-but n m.clock n.sessions n.wave) (omega arith) (λ b. refl)
      (same-sent (newest p.whole) core.net.links (taken core.net.links from me Main) me from m.clock.scn (messages.Heard c) low k.0 refl tt k.1)
  hear-of from s (messages.Heard c) first may =
      let k = heard-first from s Main (messages.Heard c) first refl in
      let m : Inst = hearing_packet n core.members.epoch from (Some (record { scn = s; message = messages.Heard c })) in
      plays-about-none s (taken core.net.links from me Main) m (alike-but n m.clock m.sessions n.wave) refl (λ b. refl) k.1
  hear-of from s _ first may = absurd (let clash : false ≡ true = may in cc)

  hear-by : (from : ℕ) (o : Option Packet) → first_from core from me Main ≡ o → bears_news o ≡ true
      → PlaysOn (answering_packet (without_first core from me Main) me (hearing_packet n core.members.epoch from o).clock.scn from o).net.links (hearing_packet n core.members.epoch from o)
  hear-by from None first may = absurd (let clash : false ≡ true = may in cc)
  hear-by from (Some packet) first may = hear-of from packet.scn packet.message first may

  pub hear-plays : (from : ℕ) → may_hear n core from ≡ true → PlaysOn (heard_core n core from).net.links (heard n core from)
  hear-plays from may = hear-by from (first_from core from me Main) refl may

  -- an end is sent to some of the others
  told-to : (scn end : ℕ) (tos : List ℕ) → AllByRecursion (λ to. to < 8) tos → (now : Core) → BearSame (newest p.whole) core.net.links now.net.links → BearSame (newest p.whole) core.net.links (fold (sent_if me scn end) now tos).net.links
  told-to scn end [] all now it = it
  told-to scn end (to ∷ tos) all now it = told-to scn end tos all.1 (sent_if me scn end now to) (go (is_other_live now me to))
    where
      go : (t : Bool) → BearSame (newest p.whole) core.net.links (if t then sending now me scn to (messages.Commit end) else now).net.links
      go true = same-sent (newest p.whole) core.net.links now.net.links me to scn (messages.Commit end) low all.0 refl tt it
      go false = it

  news-same : (ending : Option Ending) → BearSame (newest p.whole) core.net.links (with_news n core ending).net.links
  unfolding sent_to_others
  news-same None = bears-same
  news-same (Some ending) = told-to n.clock.scn ending.scn all_insts (omega arith, (omega arith, (omega arith, (omega arith, (omega arith, (omega arith, (omega arith, (omega arith, tt)))))))) core bears-same

  tell-of : (z : ℕ) (ending : Option Ending) → PlaysOn (with_news n core ending).net.links (with_told n core.members.epoch z ending)
  tell-of z None = plays-still
  tell-of z (Some ending) =
      let m : Inst = with_told n core.members.epoch z (Some ending) in
      plays-about-none n.clock.scn (with_news n core (Some ending)).net.links m (alike-but n n.clock m.sessions n.wave) (max-same n.clock.scn) (λ c. refl) (news-same (Some ending))

  pub broadcast-plays : (z : ℕ) → PlaysOn (broadcast_core n core z).net.links (broadcast n core z)
  broadcast-plays z = tell-of z (durable_ending n z)

  -- ---- the end record of a transaction

  mark-of : (z : ℕ) (record_made : Option Redo) → PlaysOn core.net.links (marked_by n z record_made)
  mark-of z None = plays-still
  mark-of z (Some redo) =
      let m : Inst = marked_by n z (Some redo) in
      plays-hears count steps blocks core.net.links core.net.masters insts disk p me n m at blocks (record {
        plan = refl;
        life = refl;
        paused = refl;
        leading = refl;
        newest = refl;
        durable = refl;
        reaches = let long = length-append n.thread.waiting (redo_bytes redo) in omega (arith, long);
        cached = refl;
        numbers = λ are. are;
        sent = refl;
        sized = λ is. is;
        masters = λ c is. is;
        entries = λ c ne. refl;
      }) (omega arith) (λ entry is. p.entries me n blocks entry at is) redo.scn core.net.links disk refl (λ c few. refl) (λ c few. refl) p.sized (λ c few. same-refl (bag_of c core.net.links)) p.sane

  pub mark-plays : (z : ℕ) → PlaysOn core.net.links (marked n z)
  mark-plays z = mark-of z (end_decided n z)

  -- ---- undo is served

  served-of : (from s block job : ℕ) (image : Option UndoImage) → first_from core from me Undo ≡ Some (record { scn = s; message = messages.NeedUndo block job })
      → PlaysOn (undo_sent_of (record n { clock = raised n.clock s }) (without_first core from me Undo) from job image).net.links (record n { clock = raised n.clock s })
  served-of from s block job None first =
      let k = heard-first from s Undo (messages.NeedUndo block job) first refl in
      plays-about-none s (taken core.net.links from me Undo) (record n { clock = raised n.clock s }) (alike-but n (raised n.clock s) n.sessions n.wave) refl (λ b. refl) k.1
  served-of from s block job (Some image) first =
      let k = heard-first from s Undo (messages.NeedUndo block job) first refl in
      plays-about-none s (sent (taken core.net.links from me Undo) me from (record { scn = (raised n.clock s).scn; message = messages.UndoIs image job })) (record n { clock = raised n.clock s }) (alike-but n (raised n.clock s) n.sessions n.wave) refl (λ b. refl)
      (same-sent (newest p.whole) core.net.links (taken core.net.links from me Undo) me from (raised n.clock s).scn (messages.UndoIs image job) low k.0 refl tt k.1)

  served-by : (from s : ℕ) (message : Message) → first_from core from me Undo ≡ Some (record { scn = s; message = message }) → is_some (undo_order_of (Some message)) ≡ true
      → PlaysOn (undo_sent_by (record n { clock = raised n.clock s }) (without_first core from me Undo) from (undo_order_of (Some message))).net.links (record n { clock = raised n.clock s })
  served-by from s (messages.NeedUndo block job) first may = served-of from s block job (undo_image n.segment block) first
  served-by from s _ first may = absurd (let clash : false ≡ true = may in cc)

  serve-by : (from : ℕ) (o : Option Packet) → first_from core from me Undo ≡ o → is_some (undo_order_of (option_map (λ (packet : Packet). packet.message) o)) ≡ true
      → PlaysOn (undo_sent_by (record n { clock = clock_heard n.clock o }) (without_first core from me Undo) from (undo_order_of (option_map (λ (packet : Packet). packet.message) o))).net.links (record n { clock = clock_heard n.clock o })
  serve-by from None first may = absurd (let clash : false ≡ true = may in cc)
  serve-by from (Some packet) first may = served-by from packet.scn packet.message first may

  pub serve-plays : (from : ℕ) → may_serve_undo n core from ≡ true → PlaysOn (undo_sent n core from).net.links (hears n core from Undo)
  serve-plays from may = serve-by from (first_from core from me Undo) refl (and_parts (is_some (first_undo_order n core from)) (is_forced n) may).0

  -- ---- undo comes

  undo-of : (from s : ℕ) (message : Message) → first_from core from me Undo ≡ Some (record { scn = s; message = message }) → has_come (Some message) ≡ true → lane_for message ≡ Undo
      → PlaysOn (taken core.net.links from me Undo) (came_by (record n { clock = raised n.clock s }) (Some message))
  undo-of from s (messages.UndoIs image job) first may lane =
      let k = heard-first from s Undo (messages.UndoIs image job) first refl in
      let m : Inst = came_by (record n { clock = raised n.clock s }) (Some (messages.UndoIs image job)) in
      plays-about-none s (taken core.net.links from me Undo) m (alike-but n (raised n.clock s) m.sessions n.wave) refl (λ b. refl) k.1
  undo-of from s (messages.Copy image upto) first may lane = absurd (let clash : Main ≡ Undo = lane in cc)
  undo-of from s _ first may lane = absurd (let clash : false ≡ true = may in cc)

  undo-by : (from : ℕ) (o : Option Packet) → first_from core from me Undo ≡ o → has_come (option_map (λ (packet : Packet). packet.message) o) ≡ true
      → PlaysOn (taken core.net.links from me Undo) (came_by (record n { clock = clock_heard n.clock o }) (option_map (λ (packet : Packet). packet.message) o))
  undo-by from None first may = absurd (let clash : false ≡ true = may in cc)
  undo-by from (Some packet) first may = undo-of from packet.scn packet.message first may (undo-first (newest p.whole) core.net.links from me packet low p.sane first)

  pub undo-comes : (from : ℕ) → may_take_copy n core from Undo ≡ true → PlaysOn (taken core.net.links from me Undo) (copy_taken n core from Undo)
  undo-comes from may = undo-by from (first_from core from me Undo) refl may

  -- ---- a checkpoint ends

  written-control : (thread : ℕ) (bytes : List ℕ) (told : Option Content) → WhereTold (Some disk) told (Leaves (PutControl thread bytes) done) → told ≡ Some (with_control disk thread bytes)
  written-control thread bytes None left = absurd left
  written-control thread bytes (Some later) left = ap Some left.2

  ended-plays : (line : ℕ) (later : Content) → later.blocks ≡ disk.blocks → Plays count steps blocks core.net.links core.net.masters (slice_set insts me (checkpoint_ended n line)) later
  ended-plays line later same =
      plays-rises count steps blocks core.net.links core.net.masters insts disk p me n (checkpoint_ended n line) at
      (record { plan = refl; life = refl; paused = refl; leading = refl; mastering = refl; newest = refl; thread = refl; cached = refl; numbers = λ are. are })
      n.clock.scn core.net.links later (max-same n.clock.scn) (λ c few. refl) (λ c few. ap (λ (bs : List (List ℕ)). slice_index_or bs c []) same) p.sized (λ c few. same-refl (bag_of c core.net.links)) p.sane

  pub checkpoint-plays : (line : ℕ) (how : Written) (old new : State) → how ≡ Done → old.told ≡ Some disk → WritesControlAs n.plan.me (bytes_of_entry (entry_now n)) how old new
      → (later : Content) × (new.told ≡ Some later) × Plays count steps blocks (checkpoint_told n core line how).net.links core.net.masters (slice_set insts me (checkpointed n line how)) later
  checkpoint-plays line how old new well told left =
      let bytes : List ℕ = bytes_of_entry (entry_now n) in
      let was : WritesControlAs me bytes Done old new = subst (λ (x : Written). WritesControlAs me bytes x old new) well left in
      let now = written-control me bytes new.told (subst (λ (o : Option Content). WhereTold o new.told (Leaves (PutControl me bytes) done)) told was.disk) in
      subst (λ (x : Written). (later : Content) × (new.told ≡ Some later) × Plays count steps blocks (checkpoint_told n core line x).net.links core.net.masters (slice_set insts me (checkpointed n line x)) later) (sym well)
      (with_control disk me bytes, now, ended-plays line (with_control disk me bytes) refl)

  -- ---- a change that makes no record

  unchanged-of : (z : ℕ) (decision : Option Decision) → record_in decision ≡ None → PlaysOn core.net.links (changed_as n z decision)
  unchanged-of z None none = plays-still
  unchanged-of z (Some (Do redo)) none = absurd (none-some redo (sym none))
  unchanged-of z (Some (Refuse cause)) none = plays-with (line_refused n z).sessions n.wave
  unchanged-of z (Some (Restart end)) none =
      let m : Inst = line_restarted n z end in
      plays-about-none end core.net.links m (alike-but n m.clock m.sessions n.wave) refl (λ b. refl) bears-same
  unchanged-of z (Some AlreadyMine) none = plays-with (lock_found n z).sessions n.wave
  unchanged-of z (Some _) none = plays-still

  pub unchanged-plays : (z : ℕ) → record_in (change_decided n z) ≡ None → PlaysOn core.net.links (changed n z)
  unchanged-plays z none = unchanged-of z (change_decided n z) none

  unmade-by : (z : ℕ) → is_none (record_in (change_decided n z)) ≡ true → record_in (change_decided n z) ≡ None
  unmade-by z is = go (record_in (change_decided n z)) refl
    where
      go : (o : Option Redo) → record_in (change_decided n z) ≡ o → record_in (change_decided n z) ≡ None
      go None e = e
      go (Some redo) e = absurd (let clash : false ≡ true = sym (ap is_none e) ∙ is in cc)

  pub no-record-plays : (z : ℕ) → may_change n z && is_none (record_in (change_decided n z)) ≡ true → PlaysOn core.net.links (changed n z)
  no-record-plays z may = unchanged-plays z (unmade-by z (and_parts (may_change n z) (is_none (record_in (change_decided n z))) may).1)
