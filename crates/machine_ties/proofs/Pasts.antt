-- Past images, pleas, installs and copies that come, by each kind of step.
use Rattle.std.proofs.Common.{◌≡◌, ◌∙◌, ℕ, List, refl, sym, ap, subst}
use Rattle.std.specs.Prelude.{is_some, option_map, if◌then◌else◌, Option, None, Some, slice_get, slice_set, true, false, Bool}
use Rattle.wire_net.specs.declared.message.Lane.TheVariants.{Main}
use Rattle.wire_net.specs.declared.message.Message.{Message}
use Rattle.wire_net.specs.declared.message.Message.TheVariants as messages
use Rattle.wire_net.specs.declared.message.Packet.{Packet}
use Rattle.wire_net.specs.Links.{taken}
use Rattle.wire_net.specs.Masters.{master_of}
use Rattle.buffer_cache.specs.declared.place.Current.{Current}
use Rattle.buffer_cache.specs.declared.place.Place.{Place}
use Rattle.buffer_cache.specs.Cache.{at_place, place_at}
use Rattle.rac_disk.specs.Content.{Content}
use Rattle.inst_state.specs.declared.inst.Inst.{Inst}
use Rattle.inst_state.specs.declared.shared.Core.{Core}
use Rattle.inst_state.specs.Sending.{first_from}
use Rattle.image_steps.specs.Sends.{sends_to_master}
use Rattle.image_steps.specs.Hear.{clock_heard, heard}
use Rattle.wire_net.specs.declared.message.Unfound.TheVariants as unfound
use Rattle.buffer_cache.specs.Place.{with_wish, without_past, holds_dirty}
use Rattle.image_steps.specs.DropPast.{cache_ordered, may_drop_past, past_dropped, past_order_of, past_order_sent, past_sent, plea_answered}
use Rattle.block_protocol.proofs.Basics.{put-other, put-same}
use Rattle.holder_ties.specs.Shown.{risen, with_place}
use Rattle.holder_ties.proofs.Pasts.{past-is-dropped, plea-comes-back, plea-is-met, plea-is-noted}
use Rattle.machine_ties.proofs.Heard.{comes, heard-sane, numbers-place, own-place, place-long, place-other, place-own, plays-answering, within}
use Rattle.machine_ties.proofs.Holds.{Alike}
use Rattle.machine_ties.proofs.Images.{alike-at}
use Rattle.machine_ties.specs.Plays.{Plays}
use Rattle.machine_ties.proofs.Heard.{plays-silent}
use Rattle.image_steps.specs.declared.pasts.PastOrder.TheVariants.{Write}
use Rattle.image_steps.specs.declared.pasts.Plea.{Plea}

module _ (count steps blocks : ℕ) (core : Core) (insts : List Inst) (disk : Content) (p : Plays count steps blocks core.net.links core.net.masters insts disk) (n : Inst) (at : slice_get insts n.plan.me ≡ Some n) (from : ℕ) where
  abbrev me : ℕ
  me = n.plan.me

  abbrev risen_inst : Option Packet → Inst
  risen_inst o = record n { clock = clock_heard n.clock o }

  abbrev packet_of : ℕ → Message → Option Packet
  packet_of s message = Some (record { scn = s; message = message })

  -- ---- DropPast

  drop-to : (s b version : ℕ) → first_from core from me Main ≡ packet_of s (messages.DropPast b version)
      → Plays count steps blocks (taken core.net.links from me Main) core.net.masters (slice_set insts me (record (risen_inst (packet_of s (messages.DropPast b version))) { cache = at_place (without_past version) n.cache b })) disk
  drop-to s b version first =
      let message : Message = messages.DropPast b version in
      let m : Inst = record (risen_inst (packet_of s message)) { cache = at_place (without_past version) n.cache b } in
      plays-silent count steps blocks core insts disk p n at from s b message m first refl
      (alike-at n m refl refl refl refl refl refl refl (place-long (without_past version) n.cache b) (λ are. numbers-place (without_past version) n.cache b are (λ now held. are b now held))) refl
      (λ c ne. place-other (without_past version) n.cache b c ne)
      (λ low.
      let f = p.follows b low in (
        with_place me (without_past version (f.h.places me)) (risen me s f.h),
        past-is-dropped me from s version core.net.links f.h b f.entry _ f.shown (comes count steps blocks core insts disk p n at from s message first),
        refl,
        (λ i apart. put-other f.h.places me (without_past version (f.h.places me)) i (λ e. apart (sym e))),
        put-same f.h.places me (without_past version (f.h.places me)) ∙ ap (without_past version) (own-place count steps blocks core insts disk p n at b low) ∙ sym (place-own (without_past version) n.cache b (within count steps blocks core insts disk p n at b low)),
        f.on_disk,
      ))

  -- what a plea leads to by the image that is there
  abbrev PleaPlays : ℕ → ℕ → ℕ → ℕ → ℕ → Option Current → Type 0
  PleaPlays s b version holder g c =
      let shown : Inst = risen_inst (packet_of s (messages.WritePlease b version holder (Some g))) in
      Plays count steps blocks (plea_answered shown (heard n core from Main) (record { block = b; version = version; holder = holder; grant = g }) c).net.links core.net.masters
      (slice_set insts me (record shown { cache = if holds_dirty c then at_place with_wish n.cache b else n.cache })) disk

  plea-to : (s b version holder g : ℕ) → first_from core from me Main ≡ packet_of s (messages.WritePlease b version holder (Some g))
      → let o : Option Packet = packet_of s (messages.WritePlease b version holder (Some g)) in
      let plea : Plea = record { block = b; version = version; holder = holder; grant = g } in
      Plays count steps blocks (past_order_sent (risen_inst o) (heard n core from Main) (Some (Write plea))).net.links core.net.masters (slice_set insts me (record (risen_inst o) { cache = cache_ordered n.cache (Some (Write plea)) })) disk
  plea-to s b version holder g first = go (place_at n.cache b).current refl
    where
      message : Message
      message = messages.WritePlease b version holder (Some g)

      plea : Plea
      plea = record { block = b; version = version; holder = holder; grant = g }

      shown : Inst
      shown = risen_inst (packet_of s message)

      alike : Alike n shown
      alike = alike-at n shown refl refl refl refl refl refl refl refl (λ are. are)

      wished : Inst
      wished = record shown { cache = at_place with_wish n.cache b }

      some : (now : Current) → (place_at n.cache b).current ≡ Some now → (t : Bool) → now.dirty ≡ t
          → Plays count steps blocks (if t then heard n core from Main else sends_to_master shown (heard n core from Main) b (messages.Wrote b now.image.front.version)).net.links core.net.masters (slice_set insts me (record shown { cache = if t then at_place with_wish n.cache b else n.cache })) disk
      some now held true dirty =
          plays-silent count steps blocks core insts disk p n at from s b message wished first refl
          (alike-at n wished refl refl refl refl refl refl refl (place-long with_wish n.cache b) (λ are. numbers-place with_wish n.cache b are (λ x there. are b x there))) refl
          (λ c ne. place-other with_wish n.cache b c ne)
          (λ low.
          let f = p.follows b low in (
            with_place me (with_wish (f.h.places me)) (risen me s f.h),
            plea-is-noted me from s version holder g core.net.links f.h b f.entry _ f.shown (comes count steps blocks core insts disk p n at from s message first),
            refl,
            (λ i apart. put-other f.h.places me (with_wish (f.h.places me)) i (λ e. apart (sym e))),
            put-same f.h.places me (with_wish (f.h.places me)) ∙ ap with_wish (own-place count steps blocks core insts disk p n at b low) ∙ sym (place-own with_wish n.cache b (within count steps blocks core insts disk p n at b low)),
            f.on_disk,
          ))
      some now held false clean =
          plays-answering count steps blocks core insts disk p n at from s b message (messages.Wrote b now.image.front.version) (master_of core.net.masters b) shown first refl refl (p.named b) tt alike refl (λ c ne. refl)
          (λ low.
          let f = p.follows b low in (
            risen me s f.h,
            plea-is-met me from (master_of core.net.masters b) s version holder g now core.net.links f.h b f.entry _ f.shown (comes count steps blocks core insts disk p n at from s message first) (p.named b)
                (ap (λ (q : Place). q.current) (own-place count steps blocks core insts disk p n at b low) ∙ held) clean,
            refl,
            (λ i apart. refl),
            own-place count steps blocks core insts disk p n at b low,
            f.on_disk,
          ))

      go : (c : Option Current) → (place_at n.cache b).current ≡ c → PleaPlays s b version holder g (place_at n.cache b).current
      go None empty =
          subst (PleaPlays s b version holder g) (sym empty)
          (plays-answering count steps blocks core insts disk p n at from s b message (messages.Back (unfound.WritePlease b g version holder)) (master_of core.net.masters b) shown first refl refl (p.named b)
          (heard-sane count steps blocks core insts disk p n at from s Main message first) alike refl (λ c ne. refl)
          (λ low.
          let f = p.follows b low in (
            risen me s f.h,
            plea-comes-back me from (master_of core.net.masters b) s version holder g core.net.links f.h b f.entry _ f.shown (comes count steps blocks core insts disk p n at from s message first) (p.named b)
                (ap (λ (q : Place). q.current) (own-place count steps blocks core insts disk p n at b low) ∙ empty),
            refl,
            (λ i apart. refl),
            own-place count steps blocks core insts disk p n at b low,
            f.on_disk,
          )))
      go (Some now) held = subst (PleaPlays s b version holder g) (sym held) (some now held now.dirty refl)

  past-of : (s : ℕ) (message : Message) → first_from core from me Main ≡ packet_of s message → is_some (past_order_of (Some message)) ≡ true
      → Plays count steps blocks (past_order_sent (risen_inst (packet_of s message)) (heard n core from Main) (past_order_of (Some message))).net.links core.net.masters (slice_set insts me (record (risen_inst (packet_of s message)) { cache = cache_ordered n.cache (past_order_of (Some message)) })) disk
  past-of s (messages.DropPast b version) first may = drop-to s b version first
  past-of s (messages.WritePlease b version holder (Some g)) first may = plea-to s b version holder g first
  past-of s (messages.WritePlease b version holder None) first may = absurd (let clash : false ≡ true = may in cc)
  past-of s _ first may = absurd (let clash : false ≡ true = may in cc)

  past-by : (o : Option Packet) → first_from core from me Main ≡ o → is_some (past_order_of (option_map (λ (packet : Packet). packet.message) o)) ≡ true
      → Plays count steps blocks (past_order_sent (risen_inst o) (heard n core from Main) (past_order_of (option_map (λ (packet : Packet). packet.message) o))).net.links core.net.masters (slice_set insts me (record (risen_inst o) { cache = cache_ordered n.cache (past_order_of (option_map (λ (packet : Packet). packet.message) o)) })) disk
  past-by None first may = absurd (let clash : false ≡ true = may in cc)
  past-by (Some packet) first may = past-of packet.scn packet.message first may

  pub past-plays : may_drop_past n core from ≡ true → Plays count steps blocks (past_sent n core from).net.links core.net.masters (slice_set insts me (past_dropped n core from)) disk
  past-plays may = past-by (first_from core from me Main) refl may
