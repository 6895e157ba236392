-- A dirty block is written: the write, and then what the master hears of it.
use Rattle.std.proofs.Common.{◌≡◌, ◌≢◌, ◌∙◌, ℕ, ◌<◌, ◌≤◌, Bool, true, false, List, [], length, refl, sym, ap, subst, arith, true≢false}
use Rattle.std.specs.Prelude.{◌&&◌, ◌||◌, if◌then◌else◌, nat_lt, option_map, Option, None, Some, slice_get, slice_set}
use Rattle.std.specs.List.{position}
use Rattle.std.proofs.lemmas.Bool.{and_parts, leb-true, ltb-false, ltb-true}
use Rattle.std.proofs.lemmas.List.{get_or-set_other, get_or-set_same}
use Rattle.std.proofs.lemmas.Option.{none-some}
use Rattle.base_types.specs.declared.names.BlockNo.{BlockNo}
use Rattle.block_image.specs.Block.{BlockContent, block_bytes}
use Rattle.rac_disk.specs.Content.{Content, IsDisk, block_at, with_block}
use Rattle.rac_disk.specs.State.{Leaves, PutBlock, State, WhereTold}
use Rattle.undo_segment.specs.Segment.{SegmentState}
use Rattle.wire_net.specs.declared.entry.Entry.{Entry}
use Rattle.wire_net.specs.declared.message.Message.{Message}
use Rattle.wire_net.specs.declared.message.Message.TheVariants as messages
use Rattle.wire_net.specs.declared.message.Packet.{Packet}
use Rattle.wire_net.specs.Links.{sent}
use Rattle.wire_net.specs.Masters.{master_of}
use Rattle.buffer_cache.specs.declared.place.Current.{Current}
use Rattle.buffer_cache.specs.declared.place.Place.{Place}
use Rattle.buffer_cache.specs.Cache.{place_at}
use Rattle.buffer_cache.specs.Place.{holds_dirty, with_written, written}
use Rattle.inst_state.specs.declared.inst.Inst.{Inst}
use Rattle.inst_state.specs.declared.shared.Core.{Core}
use Rattle.inst_state.specs.Hand.{current_image}
use Rattle.inst_state.specs.State.{newest_at}
use Rattle.image_steps.specs.Sends.{sends_to_master}
use Rattle.disk_calls.specs.Calls.{WritesBlockAs, done}
use Rattle.disk_calls.specs.declared.writes.Written.{Written}
use Rattle.disk_calls.specs.declared.writes.Written.TheVariants.{Done}
use Rattle.disk_steps.specs.declared.writing.Target.{Target}
use Rattle.disk_steps.specs.declared.writing.Target.TheVariants.{Data, Own}
use Rattle.disk_steps.specs.Write.{block_written, bytes_as, bytes_to_write, goes_before_report, goes_on_or_leads, gives_frame, has_block, image_bytes, is_due, is_due_as, is_waited_for, may_write_block, redo_is_durable, redo_is_durable_as, target, tells_of, undo_target, write_told, write_told_as, written_as, wrote_sent}
use Rattle.block_protocol.specs.AllBlocks.{view}
use Rattle.block_protocol.specs.Block.{Block, put}
use Rattle.block_protocol.specs.Steps.{IsForced}
use Rattle.block_protocol.proofs.Bags.{same-refl}
use Rattle.block_protocol.proofs.Basics.{put-other, put-same}
use Rattle.protocol_ties.specs.Bags.{bag_of}
use Rattle.protocol_ties.proofs.Bag.{same-trans}
use Rattle.protocol_ties.proofs.Origins.{some-one}
use Rattle.holder_ties.specs.HolderRuns.{HolderRun, goes, stays}
use Rattle.holder_ties.specs.Own.{told, with_image_written}
use Rattle.holder_ties.specs.Shown.{Does, Holdings}
use Rattle.holder_ties.proofs.Own.{image-is-written, write-is-told}
use Rattle.machine_ties.proofs.Heard.{had-clock, low-me, numbers-place, own-place, place-long, place-other, place-own, within}
use Rattle.machine_ties.proofs.Holds.{Alike}
use Rattle.machine_ties.proofs.Images.{alike-at}
use Rattle.machine_ties.proofs.Links.{sane-sent}
use Rattle.machine_ties.proofs.Moves.{max-same, others-sent, plays-acts, plays-rises, sent-sized}
use Rattle.machine_ties.specs.Plays.{IsDurableOf, IsOnDisk, Plays, newest}

-- a run of an instance, and then another one
appended : {me : ℕ} {s t u : Block} → HolderRun me s t → HolderRun me t u → HolderRun me s u
appended (stays s) more = more
appended (goes step is rest) more = goes step is (appended rest more)

-- an instance acts on a block, and then once more
does-then : (me : ℕ) (links mid last : List (List Packet)) (one two : Holdings) (b : BlockNo) (entry : Entry) (block : Block) (first : Does me links mid one b entry block) → Does me mid last two b entry first.after → Does me links last two b entry block
does-then me links mid last one two b entry block first second = record {
  after = second.after;
  run = appended first.run second.run;
  shown = second.shown;
  others = λ other ne. same-trans (bag_of other links) (bag_of other mid) (bag_of other last) (first.others other ne) (second.others other ne);
}

-- what a write left that was done
after-write : (disk : Content) (b : ℕ) (bytes : List ℕ) (told : Option Content) → WhereTold (Some disk) told (Leaves (PutBlock b bytes) done) → (told ≡ Some (with_block disk b bytes)) × IsDisk disk
after-write disk b bytes None left = absurd left
after-write disk b bytes (Some later) left = (ap Some left.2, left.0)

-- an image keeps its number as it is written
written-number : (b : ℕ) (o : Option Current) (now : Current) → ((x : Current) → o ≡ Some x → x.image.front.number ≡ b) → option_map written o ≡ Some now → now.image.front.number ≡ b
written-number b None now are is = absurd (none-some now is)
written-number b (Some x) now are is = ap (λ (y : Current). y.image.front.number) (sym (some-one (written x) now is)) ∙ are x refl

module _ (count steps blocks : ℕ) (core : Core) (insts : List Inst) (disk : Content) (p : Plays count steps blocks core.net.links core.net.masters insts disk) (n : Inst) (at : slice_get insts n.plan.me ≡ Some n) (b : BlockNo) where
  abbrev me : ℕ
  me = n.plan.me

  abbrev master : ℕ
  master = master_of core.net.masters b

  -- ---- a data block

  -- the disk has the image that was written, and else what it had
  now-on-disk : (bytes : List ℕ) → IsDisk disk → b < 200 → block_at (with_block disk b bytes) b ≡ bytes
  now-on-disk bytes is small = let long = is.blocks in get_or-set_same disk.blocks b bytes [] (omega (arith, long, small))

  else-on-disk : (bytes : List ℕ) (c : ℕ) → c ≢ b → block_at (with_block disk b bytes) c ≡ block_at disk c
  else-on-disk bytes c ne = get_or-set_other disk.blocks b c bytes [] ne

  -- what is written is forced
  forced-here : (low : b < blocks) → newest_at n b ≤ n.thread.durable → IsForced (view p.whole b).block me
  forced-here low durable = (p.follows b low).durable me (subst (λ (x : Option Inst). IsDurableOf x b) (sym at) durable)

  written-place : (low : b < blocks) → put (p.follows b low).h.places me (with_written ((p.follows b low).h.places me)) me ≡ place_at (written_as n b Data).cache b
  written-place low =
      let f = p.follows b low in
      put-same f.h.places me (with_written (f.h.places me)) ∙ ap with_written (own-place count steps blocks core insts disk p n at b low) ∙ sym (place-own with_written n.cache b (within count steps blocks core insts disk p n at b low))

  alike-written : Alike n (written_as n b Data)
  alike-written =
      alike-at n (written_as n b Data) refl refl refl refl refl refl refl (place-long with_written n.cache b) (λ are. numbers-place with_written n.cache b are (λ x held. written-number b (place_at n.cache b).current x (are b) held))

  -- an image is written, and the master hears of it or not
  data-written : (now : Current) → (place_at n.cache b).current ≡ Some now → now.dirty ≡ true → newest_at n b ≤ n.thread.durable → IsDisk disk → b < 200 → (t : Bool)
      → Plays count steps blocks (if t then sends_to_master n core b (messages.Wrote b now.image.front.version) else core).net.links core.net.masters (slice_set insts me (written_as n b Data)) (with_block disk b (block_bytes now.image))
  data-written now there dirty durable is small t = go t
    where
      later : Content
      later = with_block disk b (block_bytes now.image)

      on-disk : IsOnDisk later b now.image.front.version
      on-disk = record { image = now.image; bytes = now-on-disk (block_bytes now.image) is small; numbered = refl }

      held : (low : b < blocks) → ((p.follows b low).h.places me).current ≡ Some now
      held low = ap (λ (q : Place). q.current) (own-place count steps blocks core insts disk p n at b low) ∙ there

      first : (low : b < blocks) → let f = p.follows b low in Does me core.net.links core.net.links (with_image_written me now f.h) b f.entry (view p.whole b).block
      first low = let f = p.follows b low in image-is-written me now core.net.links f.h b f.entry _ f.shown (held low) dirty (forced-here low durable)

      message : Message
      message = messages.Wrote b now.image.front.version

      packet : Packet
      packet = record { scn = n.clock.scn; message = message }

      second : (low : b < blocks) → let f = p.follows b low in Does me core.net.links (sent core.net.links me master packet) (with_image_written me now f.h) b f.entry (view p.whole b).block
      second low =
          let f = p.follows b low in
          let had : Holdings = with_image_written me now f.h in
          let k = first low in
          subst (λ (c : ℕ). Does me core.net.links (sent core.net.links me master (record { scn = c; message = message })) had b f.entry (view p.whole b).block) (had-clock count steps blocks core insts disk p n at b low)
          (does-then me core.net.links core.net.links (told me master message had core.net.links) had had b f.entry (view p.whole b).block k
          (write-is-told me master (written now) core.net.links had b f.entry k.after k.shown (low-me count steps blocks core insts disk p n at) (p.named b)
          (ap (λ (q : Place). q.current) (put-same f.h.places me (with_written (f.h.places me))) ∙ ap (option_map written) (held low)) refl))

      go : (t : Bool) → Plays count steps blocks (if t then sends_to_master n core b message else core).net.links core.net.masters (slice_set insts me (written_as n b Data)) later
      go true =
          plays-acts count steps blocks core.net.links core.net.masters insts disk p me n (written_as n b Data) at alike-written b (sent core.net.links me master packet) later (sent-sized core.net.links me master packet p.sized)
          (λ c ne. others-sent c me master n.clock.scn message core.net.links p.sized (low-me count steps blocks core insts disk p n at) (p.named b) (λ e. ne (sym (some-one b c e))))
          (sane-sent (newest p.whole) core.net.links me master packet p.sane tt) (λ c ne. else-on-disk (block_bytes now.image) c ne) refl (λ c ne. place-other with_written n.cache b c ne)
          (λ low. let f = p.follows b low in (with_image_written me now f.h, second low, refl, (λ i apart. put-other f.h.places me (with_written (f.h.places me)) i (λ e. apart (sym e))), written-place low, on-disk))
      go false =
          plays-acts count steps blocks core.net.links core.net.masters insts disk p me n (written_as n b Data) at alike-written b core.net.links later p.sized (λ c ne. same-refl (bag_of c core.net.links)) p.sane
          (λ c ne. else-on-disk (block_bytes now.image) c ne) refl (λ c ne. place-other with_written n.cache b c ne)
          (λ low. let f = p.follows b low in (with_image_written me now f.h, first low, refl, (λ i apart. put-other f.h.places me (with_written (f.h.places me)) i (λ e. apart (sym e))), written-place low, on-disk))

  -- what a write leads to, by what the block is
  abbrev WritePlays : Target → Type 0
  WritePlays t = Plays count steps blocks (write_told_as n core b t).net.links core.net.masters (slice_set insts me (written_as n b t)) (with_block disk b (bytes_as n b t))

  data-plays : (c : Option Current) → (place_at n.cache b).current ≡ c → holds_dirty c ≡ true → newest_at n b ≤ n.thread.durable → IsDisk disk → b < 200 → WritePlays Data
  data-plays None there due durable is small = absurd (true≢false (sym due))
  data-plays (Some now) there due durable is small =
      let image : current_image n b ≡ Some now.image = ap (option_map (λ (x : Current). x.image)) there in
      subst (λ (o : Option BlockContent). Plays count steps blocks (wrote_sent n core b o).net.links core.net.masters (slice_set insts me (written_as n b Data)) (with_block disk b (image_bytes o))) (sym image)
      (data-written now there due durable is small (tells_of n core b))

  -- ---- a block of the own segment

  undo-plays : blocks ≤ b → WritePlays Own
  undo-plays high =
      plays-rises count steps blocks core.net.links core.net.masters insts disk p me n (written_as n b Own) at (alike-at n (written_as n b Own) refl refl refl refl refl refl refl refl (λ are. are)) n.clock.scn core.net.links
      (with_block disk b (bytes_as n b Own)) (max-same n.clock.scn) (λ c low. refl) (λ c low. else-on-disk (bytes_as n b Own) c (λ e. omega (arith, low, e, high))) p.sized (λ c low. same-refl (bag_of c core.net.links)) p.sane

  -- ---- WriteBlock

  by-target : (t : Target) → target n b ≡ t → WritePlays t → (new : State) → new.told ≡ Some (with_block disk b (bytes_to_write n b))
      → (later : Content) × (new.told ≡ Some later) × Plays count steps blocks (write_told n core b Done).net.links core.net.masters (slice_set insts me (block_written n b Done)) later
  by-target t e plays new told = (with_block disk b (bytes_to_write n b), told, subst (λ (x : Target). WritePlays x) (sym e) plays)

  pub write-plays : (how : Written) (old new : State) → how ≡ Done → old.told ≡ Some disk → may_write_block n core b ≡ true → WritesBlockAs b (bytes_to_write n b) how old new
      → (later : Content) × (new.told ≡ Some later) × Plays count steps blocks (write_told n core b how).net.links core.net.masters (slice_set insts me (block_written n b how)) later
  write-plays how old new well told may left =
      let was : WritesBlockAs b (bytes_to_write n b) Done old new = subst (λ (x : Written). WritesBlockAs b (bytes_to_write n b) x old new) well left in
      let k = after-write disk b (bytes_to_write n b) new.told (subst (λ (o : Option Content). WhereTold o new.told (Leaves (PutBlock b (bytes_to_write n b)) done)) told was.disk) in
      let parts = and_parts (nat_lt b 200 && is_due n core b) (redo_is_durable n b) may in
      let first = and_parts (nat_lt b 200) (is_due n core b) parts.0 in
      let small : b < 200 = ltb-true b 200 first.0 in
      subst (λ (x : Written). (later : Content) × (new.told ≡ Some later) × Plays count steps blocks (write_told n core b x).net.links core.net.masters (slice_set insts me (block_written n b x)) later) (sym well)
      (go (nat_lt b (length n.cache.places)) refl k.0 k.1 small first.1 parts.1)
    where
      go : (t : Bool) → nat_lt b (length n.cache.places) ≡ t → new.told ≡ Some (with_block disk b (bytes_to_write n b)) → IsDisk disk → b < 200 → is_due n core b ≡ true → redo_is_durable n b ≡ true
          → (later : Content) × (new.told ≡ Some later) × Plays count steps blocks (write_told n core b Done).net.links core.net.masters (slice_set insts me (block_written n b Done)) later
      go true e now is small due durable =
          let is_data : target n b ≡ Data = ap (λ (t : Bool). if t then Data else undo_target (position (has_block b) n.leading.adopted)) e in
          let dirty : is_due_as n core b Data ≡ true = subst (λ (x : Target). is_due_as n core b x ≡ true) is_data due in
          let forced : redo_is_durable_as n b Data ≡ true = subst (λ (x : Target). redo_is_durable_as n b x ≡ true) is_data durable in
          by-target Data is_data
          (data-plays (place_at n.cache b).current refl
          (and_parts (holds_dirty (place_at n.cache b).current) ((place_at n.cache b).wish || goes_before_report n core b || goes_on_or_leads n core && (is_waited_for n b || gives_frame n b)) dirty).0
          (leb-true (newest_at n b) n.thread.durable forced) is small) new now
      go false e now is small due durable =
          let own : target n b ≡ Own =
          ap (λ (t : Bool). if t then Data else undo_target (position (has_block b) n.leading.adopted)) e ∙ ap (λ (l : List SegmentState). undo_target (position (has_block b) l)) (p.each me n at).adopted in
          let high : length n.cache.places ≤ b = ltb-false b (length n.cache.places) e in
          by-target Own own (undo-plays (let long = (p.each me n at).cached in omega (arith, long, high))) new now
