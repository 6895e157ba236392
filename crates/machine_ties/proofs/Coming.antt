-- Copies that come, and images that are installed.
use Rattle.std.proofs.Common.{◌≡◌, ◌∙◌, ℕ, ◌^◌, ◌<◌, ◌≤◌, List, refl, sym, ap, subst, arith}
use Rattle.std.specs.Prelude.{option_map, ◌==◌, ◌&&◌, Option, None, Some, IfSome, slice_get, slice_set, true, false}
use Rattle.std.specs.List.{list_all}
use Rattle.std.proofs.lemmas.Bool.{and_parts, eqb-true, ltb-true}
use Rattle.std.proofs.lemmas.Option.{none-some}
use Rattle.block_image.specs.Block.{BlockContent, block_bytes}
use Rattle.rac_disk.specs.Content.{Content, block_at}
use Rattle.rac_disk.specs.State.{State}
use Rattle.wire_net.specs.declared.entry.PastHolder.{PastHolder}
use Rattle.wire_net.specs.declared.message.Lane.TheVariants.{Main}
use Rattle.wire_net.specs.declared.message.Message.{Message}
use Rattle.wire_net.specs.declared.message.Message.TheVariants as messages
use Rattle.wire_net.specs.declared.message.Mode.{Mode}
use Rattle.wire_net.specs.declared.message.Packet.{Packet}
use Rattle.wire_net.specs.declared.message.Shipment.{Shipment}
use Rattle.wire_net.specs.declared.message.UndoImage.{UndoImage}
use Rattle.wire_net.specs.Links.{taken}
use Rattle.wire_net.specs.Masters.{master_of}
use Rattle.buffer_cache.specs.declared.place.Current.{Current}
use Rattle.buffer_cache.specs.declared.place.Place.{Place}
use Rattle.buffer_cache.specs.Cache.{place_at}
use Rattle.buffer_cache.specs.Place.{lacking, past_mine, read_from_disk, shipped, upgraded, with_ask, with_current}
use Rattle.inst_state.specs.declared.inst.Inst.{Inst}
use Rattle.inst_state.specs.declared.shared.Core.{Core}
use Rattle.inst_state.specs.Sending.{first_from}
use Rattle.image_steps.specs.Hear.{clock_heard, first_message, heard}
use Rattle.image_steps.specs.TakeCopy.{came_by, copy_came, copy_taken, has_come, may_take_copy, undo_came}
use Rattle.disk_calls.specs.declared.images.ReadData.TheVariants as read
use Rattle.disk_calls.specs.Images.{is_data_of, is_small, is_small_slot}
use Rattle.disk_steps.specs.declared.installs.Installed.{Installed}
use Rattle.disk_steps.specs.declared.installs.Installed.TheVariants.{Calm, Read}
use Rattle.disk_steps.specs.Install.{InstallsAs, brings_image, brought, brought_core, done_sent, image_installed, install_told, may_install, mode_of, with_image}
use Rattle.block_protocol.specs.AllBlocks.{view}
use Rattle.block_protocol.proofs.Basics.{put-other, put-same}
use Rattle.protocol_ties.specs.Messages.{block_of}
use Rattle.protocol_ties.specs.Numbered.{IsPastNumbered}
use Rattle.protocol_ties.proofs.Origins.{some-one}
use Rattle.holder_ties.specs.Holders.{with_copy, with_image as held_with}
use Rattle.holder_ties.specs.Shown.{GoesOn, answered, clock_then, risen}
use Rattle.holder_ties.proofs.Copies.{copy-is-taken}
use Rattle.holder_ties.proofs.Installs.{disk-image-is-installed, image-is-upgraded, shipment-is-installed}
use Rattle.machine_ties.proofs.DiskImages.{same-version}
use Rattle.machine_ties.proofs.Heard.{comes, heard-sane, numbers-place, own-place, place-long, place-other, place-own, plays-answering, plays-hearing, plays-silent, within}
use Rattle.machine_ties.proofs.Images.{alike-at, era-at}
use Rattle.machine_ties.specs.Plays.{AreFew, Plays, newest}
use Rattle.machine_ties.specs.Steps.{HasRead}

-- a number below 2^62, or at most so many steps, has eight bytes
small-enough : (v : ℕ) → v < 2 ^ 62 → v < 256 ^ 8
small-enough v small = omega arith

below-all : (steps disk v : ℕ) → AreFew steps → disk ≤ steps → v ≡ disk → v < 256 ^ 8
below-all steps disk v few le same = omega (arith, few, le, same)

-- an image keeps its number where only how it is held changes
same-number : (change : Current → Current) → ((x : Current) → (change x).image.front.number ≡ x.image.front.number) → (b : ℕ) (o : Option Current)
    → ((x : Current) → o ≡ Some x → x.image.front.number ≡ b) → (now : Current) → option_map change o ≡ Some now → now.image.front.number ≡ b
same-number change keeps b None are now is = absurd (none-some now is)
same-number change keeps b (Some x) are now is = ap (λ (y : Current). y.image.front.number) (sym (some-one (change x) now is)) ∙ keeps x ∙ are x refl

module _ (count steps blocks : ℕ) (core : Core) (insts : List Inst) (disk : Content) (p : Plays count steps blocks core.net.links core.net.masters insts disk) (n : Inst) (at : slice_get insts n.plan.me ≡ Some n) (from : ℕ) where
  abbrev me : ℕ
  me = n.plan.me

  abbrev risen_inst : Option Packet → Inst
  risen_inst o = record n { clock = clock_heard n.clock o }

  abbrev packet_of : ℕ → Message → Option Packet
  packet_of s message = Some (record { scn = s; message = message })

  -- ---- TakeCopy

  copy-comes : (s : ℕ) (image : BlockContent) (upto : ℕ) → first_from core from me Main ≡ packet_of s (messages.Copy image upto)
      → Plays count steps blocks (taken core.net.links from me Main) core.net.masters (slice_set insts me (copy_came (risen_inst (packet_of s (messages.Copy image upto))) image upto)) disk
  copy-comes s image upto first =
      let message : Message = messages.Copy image upto in
      let b : ℕ = image.front.number in
      let m : Inst = copy_came (risen_inst (packet_of s message)) image upto in
      plays-silent count steps blocks core insts disk p n at from s b message m first refl
      (alike-at n m refl refl refl refl refl refl refl (place-long (with_ask None) n.cache b) (λ are. numbers-place (with_ask None) n.cache b are (λ now held. are b now held))) refl
      (λ c ne. place-other (with_ask None) n.cache b c ne)
      (λ low.
      let f = p.follows b low in (
        with_copy me image.front.version upto (risen me s f.h),
        copy-is-taken me from s image upto core.net.links f.h b f.entry _ f.shown (comes count steps blocks core insts disk p n at from s message first) refl,
        refl,
        (λ i apart. put-other f.h.places me (with_ask None (f.h.places me)) i (λ e. apart (sym e))),
        put-same f.h.places me (with_ask None (f.h.places me)) ∙ ap (with_ask None) (own-place count steps blocks core insts disk p n at b low) ∙ sym (place-own (with_ask None) n.cache b (within count steps blocks core insts disk p n at b low)),
        f.on_disk,
      ))

  undo-comes : (s : ℕ) (image : UndoImage) (job : ℕ) → first_from core from me Main ≡ packet_of s (messages.UndoIs image job)
      → Plays count steps blocks (taken core.net.links from me Main) core.net.masters (slice_set insts me (undo_came (risen_inst (packet_of s (messages.UndoIs image job))) job image)) disk
  undo-comes s image job first =
      let message : Message = messages.UndoIs image job in
      let m : Inst = undo_came (risen_inst (packet_of s message)) job image in
      plays-hearing count steps blocks core insts disk p n at from s Main message m first refl (alike-at n m refl refl refl refl refl refl refl refl (λ are. are)) refl (λ c. refl)

  taken-of : (s : ℕ) (message : Message) → first_from core from me Main ≡ packet_of s message → has_come (Some message) ≡ true
      → Plays count steps blocks (taken core.net.links from me Main) core.net.masters (slice_set insts me (came_by (risen_inst (packet_of s message)) (Some message))) disk
  taken-of s (messages.Copy image upto) first may = copy-comes s image upto first
  taken-of s (messages.UndoIs image job) first may = undo-comes s image job first
  taken-of s _ first may = absurd (let clash : false ≡ true = may in cc)

  taken-by : (o : Option Packet) → first_from core from me Main ≡ o → has_come (option_map (λ (packet : Packet). packet.message) o) ≡ true
      → Plays count steps blocks (taken core.net.links from me Main) core.net.masters (slice_set insts me (came_by (risen_inst o) (option_map (λ (packet : Packet). packet.message) o))) disk
  taken-by None first may = absurd (let clash : false ≡ true = may in cc)
  taken-by (Some packet) first may = taken-of packet.scn packet.message first may

  pub taken-plays : may_take_copy n core from Main ≡ true → Plays count steps blocks (heard n core from Main).net.links core.net.masters (slice_set insts me (copy_taken n core from Main)) disk
  taken-plays may = taken-by (first_from core from me Main) refl may

  -- ---- Install

  -- an image is installed whose master is told
  install-plays : (s b grant : ℕ) (mode : Mode) (past : Option PastHolder) (message : Message) (current : Option Current) → first_from core from me Main ≡ packet_of s message → block_of message ≡ Some b → IsPastNumbered past
      → ((now : Current) → current ≡ Some now → now.image.front.number ≡ b)
      → ((low : b < blocks) → let f = p.follows b low in GoesOn me s core.net.links (answered me from (master_of core.net.masters b) (clock_then me s f.h) (messages.Done b grant mode past) core.net.links) (held_with me current (risen me s f.h)) b f.entry (view p.whole b).block)
      → Plays count steps blocks (done_sent (risen_inst (packet_of s message)) (heard n core from Main) b grant mode past).net.links core.net.masters (slice_set insts me (with_image (risen_inst (packet_of s message)) b current)) disk
  install-plays s b grant mode past message current first about numbered number law =
      let m : Inst = with_image (risen_inst (packet_of s message)) b current in
      plays-answering count steps blocks core insts disk p n at from s b message (messages.Done b grant mode past) (master_of core.net.masters b) m first about refl (p.named b) numbered
      (alike-at n m refl refl refl refl refl refl refl (place-long (with_current current) n.cache b) (λ are. numbers-place (with_current current) n.cache b are (same-number (lacking (past_mine (place_at n.cache b).past)) (λ x. refl) b current number))) refl
      (λ c ne. place-other (with_current current) n.cache b c ne)
      (λ low.
      let f = p.follows b low in (
        held_with me current (risen me s f.h),
        law low,
        refl,
        (λ i apart. put-other f.h.places me (with_current current (f.h.places me)) i (λ e. apart (sym e))),
        put-same f.h.places me (with_current current (f.h.places me)) ∙ ap (with_current current) (own-place count steps blocks core insts disk p n at b low) ∙ sym (place-own (with_current current) n.cache b (within count steps blocks core insts disk p n at b low)),
        f.on_disk,
      ))

  shipment-comes : (s : ℕ) (shipment : Shipment) → first_from core from me Main ≡ packet_of s (messages.Shipped shipment)
      → Plays count steps blocks (done_sent (risen_inst (packet_of s (messages.Shipped shipment))) (heard n core from Main) shipment.block shipment.grant (mode_of shipment) shipment.past).net.links core.net.masters
      (slice_set insts me (with_image (risen_inst (packet_of s (messages.Shipped shipment))) shipment.block (Some (shipped shipment)))) disk
  shipment-comes s shipment first =
      let message : Message = messages.Shipped shipment in
      let sane = heard-sane count steps blocks core insts disk p n at from s Main message first in
      install-plays s shipment.block shipment.grant (mode_of shipment) shipment.past message (Some (shipped shipment)) first refl sane.0
      (λ now is. ap (λ (x : Current). x.image.front.number) (sym (some-one (shipped shipment) now is)) ∙ sane.1)
      (λ low.
      let f = p.follows shipment.block low in
      shipment-is-installed me from (master_of core.net.masters shipment.block) s shipment (mode_of shipment) shipment.past core.net.links f.h shipment.block f.entry _ f.shown (comes count steps blocks core insts disk p n at from s message first) refl (p.named shipment.block))

  -- the image that was read is the one at the disk's version
  read-version : (b : ℕ) (low : b < blocks) (image : BlockContent) → AreFew steps → block_at disk b ≡ block_bytes image → image.front.version < 2 ^ 62 → image.front.version ≡ (p.follows b low).h.disk
  read-version b low image few bytes small =
      let f = p.follows b low in
      let had : (view p.whole b).block.disk ≡ f.h.disk = f.shown.around.disk in
      let within : (view p.whole b).block.disk ≤ newest p.whole b = (era-at count steps blocks core insts disk p n at from b).lasting.stable.written.0 in
      let made : newest p.whole b ≤ steps = p.made b in
      let numbered : f.on_disk.image.front.version ≡ f.h.disk = f.on_disk.numbered in
      let low_there : f.on_disk.image.front.version < 256 ^ 8 = below-all steps (view p.whole b).block.disk f.on_disk.image.front.version few (omega (arith, within, made)) (numbered ∙ sym had) in
      same-version image f.on_disk.image (small-enough image.front.version small) low_there (sym bytes ∙ f.on_disk.bytes) ∙ numbered

  image-is-read : (s b grant : ℕ) (mode : Mode) (image : BlockContent) → first_from core from me Main ≡ packet_of s (messages.Grant b grant mode true) → AreFew steps → block_at disk b ≡ block_bytes image → is_data_of b image ≡ true
      → Plays count steps blocks (done_sent (risen_inst (packet_of s (messages.Grant b grant mode true))) (heard n core from Main) b grant mode None).net.links core.net.masters
      (slice_set insts me (with_image (risen_inst (packet_of s (messages.Grant b grant mode true))) b (Some (read_from_disk grant mode image)))) disk
  image-is-read s b grant mode image first few bytes fits =
      let message : Message = messages.Grant b grant mode true in
      let front = and_parts (image.front.number == b && is_small image.front.version && is_small image.front.scn) (list_all is_small_slot image.itl) fits in
      let numbers = and_parts (image.front.number == b) (is_small image.front.version) (and_parts (image.front.number == b && is_small image.front.version) (is_small image.front.scn) front.0).0 in
      let small : image.front.version < 2 ^ 62 = ltb-true image.front.version (2 ^ 62) numbers.1 in
      install-plays s b grant mode None message (Some (read_from_disk grant mode image)) first refl tt
      (λ now is. ap (λ (x : Current). x.image.front.number) (sym (some-one (read_from_disk grant mode image) now is)) ∙ eqb-true image.front.number b numbers.0)
      (λ low.
      let f = p.follows b low in
      disk-image-is-installed me from (master_of core.net.masters b) s grant mode image core.net.links f.h b f.entry _ f.shown (comes count steps blocks core insts disk p n at from s message first)
      (heard-sane count steps blocks core insts disk p n at from s Main message first) (p.named b) (read-version b low image few bytes small))

  image-is-granted : (s b grant : ℕ) (mode : Mode) → first_from core from me Main ≡ packet_of s (messages.Grant b grant mode false)
      → Plays count steps blocks (done_sent (risen_inst (packet_of s (messages.Grant b grant mode false))) (heard n core from Main) b grant mode None).net.links core.net.masters
      (slice_set insts me (with_image (risen_inst (packet_of s (messages.Grant b grant mode false))) b (option_map (upgraded grant) (place_at n.cache b).current))) disk
  image-is-granted s b grant mode first =
      let message : Message = messages.Grant b grant mode false in
      install-plays s b grant mode None message (option_map (upgraded grant) (place_at n.cache b).current) first refl tt
      (same-number (upgraded grant) (λ x. refl) b (place_at n.cache b).current ((p.each me n at).numbers b))
      (λ low.
      let f = p.follows b low in
      subst (λ (current : Option Current). GoesOn me s core.net.links (answered me from (master_of core.net.masters b) (clock_then me s f.h) (messages.Done b grant mode None) core.net.links) (held_with me (option_map (upgraded grant) current) (risen me s f.h)) b f.entry (view p.whole b).block)
      (ap (λ (q : Place). q.current) (own-place count steps blocks core insts disk p n at b low))
      (image-is-upgraded me from (master_of core.net.masters b) s grant mode core.net.links f.h b f.entry _ f.shown (comes count steps blocks core insts disk p n at from s message first)
      (heard-sane count steps blocks core insts disk p n at from s Main message first) (p.named b)))

  -- what an Install leads to, as its read went
  abbrev InstallPlays : ℕ → Message → Installed → State → Type 0
  InstallPlays s message how new =
      (later : Content) × (new.told ≡ Some later) × Plays count steps blocks (brought_core (risen_inst (packet_of s message)) (heard n core from Main) (Some message) how).net.links core.net.masters
      (slice_set insts me (brought (risen_inst (packet_of s message)) (Some message) how)) later

  granted-of : (s b grant : ℕ) (mode : Mode) (how : Installed) (old new : State) → first_from core from me Main ≡ packet_of s (messages.Grant b grant mode true) → AreFew steps → old.told ≡ Some disk → HasRead (Some (messages.Grant b grant mode true)) how
      → InstallsAs (Some (messages.Grant b grant mode true)) how old new → InstallPlays s (messages.Grant b grant mode true) how new
  granted-of s b grant mode (Read (read.Image image)) old new first few told well left =
      let keeps : new.told ≡ Some disk = subst (λ (o : Option Content). IfSome o (λ it. new.told ≡ Some it)) told left.loads.told in
      let gives : block_at disk b ≡ block_bytes image.value = subst (λ (o : Option Content). IfSome o (λ it. block_at it b ≡ block_bytes image.value)) told left.loads.gives in
      (disk, keeps, image-is-read s b grant mode image.value first few gives left.fits)
  granted-of s b grant mode (Read read.Bad) old new first few told well left = absurd well
  granted-of s b grant mode (Read read.Failed) old new first few told well left = absurd well
  granted-of s b grant mode Calm old new first few told well left = absurd well

  install-of : (s : ℕ) (message : Message) (how : Installed) (old new : State) → first_from core from me Main ≡ packet_of s message → AreFew steps → old.told ≡ Some disk → brings_image (Some message) ≡ true → HasRead (Some message) how
      → InstallsAs (Some message) how old new → InstallPlays s message how new
  install-of s (messages.Shipped shipment) how old new first few told may well left = (disk, ap (λ (x : State). x.told) left ∙ told, shipment-comes s shipment first)
  install-of s (messages.Grant b grant mode true) how old new first few told may well left = granted-of s b grant mode how old new first few told well left
  install-of s (messages.Grant b grant mode false) how old new first few told may well left = (disk, ap (λ (x : State). x.told) left ∙ told, image-is-granted s b grant mode first)
  install-of s _ how old new first few told may well left = absurd (let clash : false ≡ true = may in cc)

  install-by : (o : Option Packet) (how : Installed) (old new : State) → first_from core from me Main ≡ o → AreFew steps → old.told ≡ Some disk → brings_image (option_map (λ (packet : Packet). packet.message) o) ≡ true
      → HasRead (option_map (λ (packet : Packet). packet.message) o) how → InstallsAs (option_map (λ (packet : Packet). packet.message) o) how old new
      → (later : Content) × (new.told ≡ Some later) × Plays count steps blocks (brought_core (risen_inst o) (heard n core from Main) (option_map (λ (packet : Packet). packet.message) o) how).net.links core.net.masters
      (slice_set insts me (brought (risen_inst o) (option_map (λ (packet : Packet). packet.message) o) how)) later
  install-by None how old new first few told may well left = absurd (let clash : false ≡ true = may in cc)
  install-by (Some packet) how old new first few told may well left = install-of packet.scn packet.message how old new first few told may well left

  pub image-comes : (how : Installed) (old new : State) → AreFew steps → old.told ≡ Some disk → may_install n core from ≡ true → HasRead (first_message n core from Main) how → InstallsAs (first_message n core from Main) how old new
      → (later : Content) × (new.told ≡ Some later) × Plays count steps blocks (install_told n core from how).net.links core.net.masters (slice_set insts me (image_installed n core from how)) later
  image-comes how old new few told may well left = install-by (first_from core from me Main) how old new refl few told may well left
