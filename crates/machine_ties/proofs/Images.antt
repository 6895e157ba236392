-- What an instance does with its images, by each kind of step.
use Rattle.std.proofs.Common.{◌≡◌, ◌∙◌, ℕ, ◌+◌, ◌<◌, ◌≤◌, List, length, refl, sym, ap, subst, arith, true≢false}
use Rattle.std.specs.Prelude.{max, is_some, option_map, if◌then◌else◌, not, ◌&&◌, ◌==◌, Option, None, Some, slice_get, slice_set, true, false, Bool}
use Rattle.std.proofs.lemmas.Bool.{and_parts, eqb-true}
use Rattle.std.proofs.lemmas.Option.{none-some}
use Rattle.base_types.specs.declared.names.BlockNo.{BlockNo}
use Rattle.wire_net.specs.declared.message.Lane.TheVariants.{Main}
use Rattle.wire_net.specs.declared.message.Message.{Message}
use Rattle.wire_net.specs.declared.message.Message.TheVariants as messages
use Rattle.wire_net.specs.declared.message.Packet.{Packet}
use Rattle.wire_net.specs.Masters.{master_of}
use Rattle.buffer_cache.specs.declared.place.Current.{Current}
use Rattle.buffer_cache.specs.declared.place.Place.{Place}
use Rattle.buffer_cache.specs.Cache.{place_at}
use Rattle.buffer_cache.specs.Place.{without_grant}
use Rattle.rac_disk.specs.Content.{Content}
use Rattle.inst_state.specs.declared.inst.Inst.{Inst}
use Rattle.inst_state.specs.declared.shared.Core.{Core}
use Rattle.inst_state.specs.Sending.{first_from}
use Rattle.image_steps.specs.Hear.{clock_heard, heard, hears}
use Rattle.image_steps.specs.Invalidate.{gone_sent, image_to_go, invalidate_sent, invalidated, may_go, may_invalidate, without_image}
use Rattle.wire_net.specs.declared.message.Mode.{Mode}
use Rattle.wire_net.specs.declared.message.Mode.TheVariants as modes
use Rattle.wire_net.specs.declared.message.Unfound.TheVariants as unfound
use Rattle.buffer_cache.specs.Place.{unless_granted, left_behind, given_up, is_shared, shareable}
use Rattle.inst_state.specs.State.{is_forced, newest_at}
use Rattle.image_steps.specs.declared.shipping.Order.{Order}
use Rattle.image_steps.specs.declared.copying.CopyOrder.{CopyOrder}
use Rattle.image_steps.specs.Ship.{first_order, follow_sent, followed, is_shippable, kept_behind, may_ship, moving, order_of, sent_for, sharing, ship_sent, shipped}
use Rattle.image_steps.specs.ServeCopy.{first_copy_order, copy_order_of, copy_sent, copy_sent_by, copy_sent_of, may_serve_copy}
use Rattle.block_protocol.specs.AllBlocks.{view}
use Rattle.block_protocol.specs.Invariant.{Era, HoldsIn, Invariant}
use Rattle.block_protocol.specs.Members.{Phase}
use Rattle.block_protocol.specs.Whole.{Whole}
use Rattle.block_protocol.proofs.AllBlocksLemmas.{invariant-first, invariant-of-run}
use Rattle.protocol_ties.specs.Numbered.{IsPastNumbered}
use Rattle.protocol_ties.proofs.Origins.{some-one}
use Rattle.block_protocol.specs.Block.{Exclusive, Grants, Hold, Mode as ProtocolMode, Shared, ShipTo}
use Rattle.block_protocol.specs.Images.{IsMarked}
use Rattle.block_protocol.proofs.Keep.{Sound-at}
use Rattle.protocol_ties.specs.Messages.{hold_of}
use Rattle.protocol_ties.specs.Places.{hold_at}
use Rattle.block_protocol.specs.Steps.{IsForced}
use Rattle.block_protocol.proofs.Basics.{put-other, put-same}
use Rattle.holder_ties.specs.Shown.{GoesOn, answered, clock_then, risen, with_place}
use Rattle.holder_ties.proofs.Copies.{copy-comes-back, copy-is-served}
use Rattle.holder_ties.proofs.Invalidates.{invalidate-is-obeyed}
use Rattle.holder_ties.proofs.Orders.{one-held, ordered, image-is-shared, image-is-shipped, share-comes-back, ship-comes-back}
use Rattle.machine_ties.proofs.Heard.{comes, had-clock, heard-sane, low-me, numbers-place, own-place, place-long, place-other, place-own, plays-answering, within}
use Rattle.machine_ties.proofs.Holds.{Alike}
use Rattle.machine_ties.specs.Plays.{AreOfBlocks, IsDurableOf, Plays}

-- a cache that changes at one place leaves the rest of an instance
pub alike-at : (n m : Inst) → m.plan ≡ n.plan → m.life ≡ n.life → m.paused ≡ n.paused → m.leading ≡ n.leading → m.mastering ≡ n.mastering → m.newest ≡ n.newest → m.thread ≡ n.thread → length m.cache.places ≡ length n.cache.places → (AreOfBlocks n.cache → AreOfBlocks m.cache) → Alike n m
alike-at n m a b c d e f g h k = record { plan = a; life = b; paused = c; leading = d; mastering = e; newest = f; thread = g; cached = h; numbers = k }

-- an image that stays where another place changes
unless-number : (g b : ℕ) (o : Option Current) (now : Current) → ((x : Current) → o ≡ Some x → x.image.front.number ≡ b) → unless_granted g o ≡ Some now → now.image.front.number ≡ b
unless-number g b None now is e = absurd (none-some now e)
unless-number g b (Some x) now is e = go (x.grant == g) refl
  where
    go : (t : Bool) → (x.grant == g) ≡ t → now.image.front.number ≡ b
    go true t = absurd (none-some now (sym (ap (λ (u : Bool). if u then None else Some x) t) ∙ e))
    go false t = let same : x ≡ now = some-one x now (sym (ap (λ (u : Bool). if u then None else Some x) t) ∙ e) in subst (λ (y : Current). y.image.front.number ≡ b) same (is x refl)

shared-mode : (m : Mode) (h g : ℕ) → hold_of m h ≡ Some (record { mode = Shared; grant = g }) → m ≡ modes.Shared
shared-mode modes.Null h g e = absurd (none-some _ e)
shared-mode modes.Shared h g e = refl
shared-mode modes.Exclusive h g e = absurd (let clash : Exclusive ≡ Shared = ap (λ (k : Hold). k.mode) (some-one _ _ e) in cc)

clean-mark : (disk newest : ℕ) (mode : ProtocolMode) (dirty : ℕ → Bool) (me : ℕ) (own : Bool) → IsMarked disk newest mode (dirty me) → dirty me ≡ own → mode ≡ Shared → own ≡ false
clean-mark disk newest mode dirty me true marked same shared =
    let k : IsMarked disk newest mode true = subst (λ (t : Bool). IsMarked disk newest mode t) same marked in
    absurd (let clash : Shared ≡ Exclusive = sym shared ∙ k.1 in cc)
clean-mark disk newest mode dirty me false marked same shared = refl

not-dirty : (t : Bool) → not t ≡ true → t ≡ false
not-dirty true e = absurd (let clash : false ≡ true = e in cc)
not-dirty false e = refl

module _ (count steps blocks : ℕ) (core : Core) (insts : List Inst) (disk : Content) (p : Plays count steps blocks core.net.links core.net.masters insts disk) (n : Inst) (at : slice_get insts n.plan.me ≡ Some n) (from : ℕ) where
  abbrev me : ℕ
  me = n.plan.me

  -- the instance once its clock has risen to a packet's
  abbrev risen_inst : Option Packet → Inst
  risen_inst o = record n { clock = clock_heard n.clock o }

  -- ---- Invalidate

  invalidate-of : (s : ℕ) (message : Message) → first_from core from me Main ≡ Some (record { scn = s; message = message }) → may_go n (image_to_go (Some message)) ≡ true
      → let o : Option Packet = Some (record { scn = s; message = message }) in
      Plays count steps blocks (gone_sent (risen_inst o) (heard n core from Main) (image_to_go (Some message))).net.links core.net.masters (slice_set insts me (without_image (risen_inst o) (image_to_go (Some message)))) disk
  invalidate-of s (messages.Invalidate b g) first may =
      let o : Option Packet = Some (record { scn = s; message = messages.Invalidate b g }) in
      let m : Inst = without_image (risen_inst o) (Some (record { block = b; grant = g })) in
      plays-answering count steps blocks core insts disk p n at from s b (messages.Invalidate b g) (messages.Gone b g) (master_of core.net.masters b) m first refl refl (p.named b) tt
      (alike-at n m refl refl refl refl refl refl refl (place-long (without_grant g) n.cache b)
      (λ are. numbers-place (without_grant g) n.cache b are (λ now held. unless-number g b (place_at n.cache b).current now (λ x is. are b x is) held))) refl
      (λ c ne. place-other (without_grant g) n.cache b c ne)
      (λ low.
      let f = p.follows b low in (
        with_place me (without_grant g (f.h.places me)) (risen me s f.h),
        invalidate-is-obeyed me from (master_of core.net.masters b) s g core.net.links f.h b f.entry _ f.shown (comes count steps blocks core insts disk p n at from s (messages.Invalidate b g) first) (p.named b),
        refl,
        (λ i apart. put-other f.h.places me (without_grant g (f.h.places me)) i (λ e. apart (sym e))),
        put-same f.h.places me (without_grant g (f.h.places me)) ∙ ap (without_grant g) (own-place count steps blocks core insts disk p n at b low) ∙ sym (place-own (without_grant g) n.cache b (within count steps blocks core insts disk p n at b low)),
        f.on_disk,
      ))
  invalidate-of s _ first may = absurd (let clash : false ≡ true = may in cc)

  invalidate-by : (o : Option Packet) → first_from core from me Main ≡ o → may_go n (image_to_go (option_map (λ (packet : Packet). packet.message) o)) ≡ true
      → Plays count steps blocks (gone_sent (risen_inst o) (heard n core from Main) (image_to_go (option_map (λ (packet : Packet). packet.message) o))).net.links core.net.masters (slice_set insts me (without_image (risen_inst o) (image_to_go (option_map (λ (packet : Packet). packet.message) o)))) disk
  invalidate-by None first may = absurd (let clash : false ≡ true = may in cc)
  invalidate-by (Some packet) first may = invalidate-of packet.scn packet.message first may

  pub invalidate-plays : may_invalidate n core from ≡ true → Plays count steps blocks (invalidate_sent n core from).net.links core.net.masters (slice_set insts me (invalidated n core from)) disk
  invalidate-plays may = invalidate-by (first_from core from me Main) refl may

  -- ---- what holds of a block in each state

  pub era-at : (b : BlockNo) → Era (view p.whole b)
  era-at b =
      let it : Invariant (view p.whole b) = invariant-of-run p.run (invariant-first count p.first_master) b in
      subst (λ (x : Phase). HoldsIn x (view p.whole b)) p.phase it.holds

  pub whole-at : (b : BlockNo) → Whole (view p.whole b).block
  whole-at b = (era-at b).whole

  -- ---- Ship

  -- all own redo is on the disk where none waits
  forced : is_forced n ≡ true → (b : BlockNo) (low : b < blocks) → IsForced (view p.whole b).block me
  forced none b low = (p.follows b low).durable me (subst (λ (x : Option Inst). IsDurableOf x b) (sym at) (durable-now none))
    where
      durable-now : is_forced n ≡ true → newest_at n b ≤ n.thread.durable
      durable-now e =
          let empty : length n.thread.waiting ≡ 0 = eqb-true (length n.thread.waiting) 0 e in
          let reached : newest_at n b ≤ n.thread.durable + length n.thread.waiting = (p.each me n at).reached b in
          omega (arith, empty)

  -- a place without a current image stays as it is where that is given up
  none-given : (place : Place) → place.current ≡ None → given_up place ≡ place
  none-given place none = λ i. record { current = (sym none) i; past = (ap (λ (c : Option Current). left_behind c place.past) none) i; asked = place.asked; wish = place.wish }

  -- a past image that a holder keeps names it
  kept-numbered : (now : Current) → IsPastNumbered (kept_behind me now)
  kept-numbered now = go now.dirty
    where
      go : (t : Bool) → IsPastNumbered (if t then Some (record { inst = me; version = now.image.front.version }) else None)
      go true = low-me count steps blocks core insts disk p n at
      go false = tt

  abbrev packet_of : ℕ → Message → Option Packet
  packet_of s message = Some (record { scn = s; message = message })

  ship-to : (s b g new asker : ℕ) → first_from core from me Main ≡ packet_of s (messages.ShipTo b g new asker) → is_forced n ≡ true
      → let order : Order = record { block = b; grant = g; new_grant = new; asker = asker; shared = false } in
      Plays count steps blocks (follow_sent (risen_inst (packet_of s (messages.ShipTo b g new asker))) (heard n core from Main) (Some order)).net.links core.net.masters (slice_set insts me (followed (risen_inst (packet_of s (messages.ShipTo b g new asker))) (Some order))) disk
  ship-to s b g new asker first none = go (place_at n.cache b).current refl
    where
      message : Message
      message = messages.ShipTo b g new asker

      order : Order
      order = record { block = b; grant = g; new_grant = new; asker = asker; shared = false }

      shown : Inst
      shown = risen_inst (packet_of s message)

      after : Inst
      after = followed shown (Some order)

      alike : Alike n after
      alike = alike-at n after refl refl refl refl refl refl refl (place-long given_up n.cache b) (λ are. numbers-place given_up n.cache b are (λ now held. absurd (none-some now held)))

      go : (c : Option Current) → (place_at n.cache b).current ≡ c → Plays count steps blocks (sent_for shown (heard n core from Main) order (option_map (moving me order) (place_at n.cache b).current)).net.links core.net.masters (slice_set insts me after) disk
      go None empty =
          subst (λ (c : Option Current). Plays count steps blocks (sent_for shown (heard n core from Main) order (option_map (moving me order) c)).net.links core.net.masters (slice_set insts me after) disk) (sym empty)
          (plays-answering count steps blocks core insts disk p n at from s b message (messages.Back (unfound.ShipTo b g new asker)) (master_of core.net.masters b) after first refl refl (p.named b)
          (heard-sane count steps blocks core insts disk p n at from s Main message first) alike refl (λ c ne. place-other given_up n.cache b c ne)
          (λ low.
          let f = p.follows b low in (
            risen me s f.h,
            ship-comes-back me from (master_of core.net.masters b) s g new asker core.net.links f.h b f.entry _ f.shown (comes count steps blocks core insts disk p n at from s message first) (p.named b)
                (ap (λ (q : Place). q.current) (own-place count steps blocks core insts disk p n at b low) ∙ empty),
            refl,
            (λ i apart. refl),
            own-place count steps blocks core insts disk p n at b low ∙ sym (none-given (place_at n.cache b) empty) ∙ sym (place-own given_up n.cache b (within count steps blocks core insts disk p n at b low)),
            f.on_disk,
          )))
      go (Some now) held =
          subst (λ (c : Option Current). Plays count steps blocks (sent_for shown (heard n core from Main) order (option_map (moving me order) c)).net.links core.net.masters (slice_set insts me after) disk) (sym held)
          (plays-answering count steps blocks core insts disk p n at from s b message (messages.Shipped (moving me order now)) asker after first refl refl
          (heard-sane count steps blocks core insts disk p n at from s Main message first) (kept-numbered now, (p.each me n at).numbers b now held) alike refl (λ c ne. place-other given_up n.cache b c ne)
          (λ low.
          let f = p.follows b low in (
            with_place me (given_up (f.h.places me)) (risen me s f.h),
            image-is-shipped me from s g new asker now (moving me order now) core.net.links f.h b f.entry _ f.shown (comes count steps blocks core insts disk p n at from s message first)
                (ap (λ (q : Place). q.current) (own-place count steps blocks core insts disk p n at b low) ∙ held) (forced none b low) (record { numbered = refl; granted = refl; image = refl; dirty = refl }) refl,
            refl,
            (λ i apart. put-other f.h.places me (given_up (f.h.places me)) i (λ e. apart (sym e))),
            put-same f.h.places me (given_up (f.h.places me)) ∙ ap given_up (own-place count steps blocks core insts disk p n at b low) ∙ sym (place-own given_up n.cache b (within count steps blocks core insts disk p n at b low)),
            f.on_disk,
          )))

  -- a shared image is held shared, and the disk has it
  shared-clean : (s b g new asker : ℕ) → first_from core from me Main ≡ packet_of s (messages.ShareTo b g new asker) → (low : b < blocks) → (now : Current) → (place_at n.cache b).current ≡ Some now → (is_shared now.mode && not now.dirty) ≡ true
  shared-clean s b g new asker first low now held =
      let f = p.follows b low in
      let there : (f.h.places me).current ≡ Some now = ap (λ (q : Place). q.current) (own-place count steps blocks core insts disk p n at b low) ∙ held in
      let granted : Hold = record { mode = Shared; grant = new } in
      let it = ordered me from s core.net.links f.h b f.entry (view p.whole b).block f.shown (messages.ShareTo b g new asker) refl (comes count steps blocks core insts disk p n at from s (messages.ShareTo b g new asker) first) g asker granted refl in
      let image = one-held (view p.whole b).block f.h.places me now f.shown.around.images there in
      let was = Sound-at (view p.whole b).block (Grants asker granted (ShipTo me g)) it.0 f.shown.sound in
      let same : image.0 ≡ record { mode = Shared; grant = g } = was.operation.carrier.image image.0 image.1 in
      let mode : now.mode ≡ modes.Shared = shared-mode now.mode now.grant g (sym (ap hold_at there) ∙ sym (f.shown.around.images me).held ∙ image.1 ∙ ap Some same) in
      let clean : now.dirty ≡ false = clean-mark (view p.whole b).block.disk (length (view p.whole b).block.records) image.0.mode (view p.whole b).block.dirty me now.dirty
      ((whole-at b).images.marked me image.0 image.1) ((f.shown.around.images me).marked now there) (ap (λ (k : Hold). k.mode) same) in
      rw (mode, clean) refl

  share-to : (s b g new asker : ℕ) → first_from core from me Main ≡ packet_of s (messages.ShareTo b g new asker) → is_forced n ≡ true
      → let order : Order = record { block = b; grant = g; new_grant = new; asker = asker; shared = true } in
      Plays count steps blocks (follow_sent (risen_inst (packet_of s (messages.ShareTo b g new asker))) (heard n core from Main) (Some order)).net.links core.net.masters (slice_set insts me (followed (risen_inst (packet_of s (messages.ShareTo b g new asker))) (Some order))) disk
  share-to s b g new asker first none = go (place_at n.cache b).current refl
    where
      message : Message
      message = messages.ShareTo b g new asker

      order : Order
      order = record { block = b; grant = g; new_grant = new; asker = asker; shared = true }

      shown : Inst
      shown = risen_inst (packet_of s message)

      alike : Alike n shown
      alike = alike-at n shown refl refl refl refl refl refl refl refl (λ are. are)

      back : ((low : b < blocks) → (place_at n.cache b).current ≡ None) → Plays count steps blocks (sent_for shown (heard n core from Main) order None).net.links core.net.masters (slice_set insts me shown) disk
      back empty =
          plays-answering count steps blocks core insts disk p n at from s b message (messages.Back (unfound.ShareTo b g new asker)) (master_of core.net.masters b) shown first refl refl (p.named b)
          (heard-sane count steps blocks core insts disk p n at from s Main message first) alike refl (λ c ne. refl)
          (λ low.
          let f = p.follows b low in (
            risen me s f.h,
            share-comes-back me from (master_of core.net.masters b) s g new asker core.net.links f.h b f.entry _ f.shown (comes count steps blocks core insts disk p n at from s message first) (p.named b)
                (ap (λ (q : Place). q.current) (own-place count steps blocks core insts disk p n at b low) ∙ empty low),
            refl,
            (λ i apart. refl),
            own-place count steps blocks core insts disk p n at b low,
            f.on_disk,
          ))

      out : (now : Current) → (place_at n.cache b).current ≡ Some now → now.dirty ≡ false → Plays count steps blocks (sent_for shown (heard n core from Main) order (Some (sharing order now.image))).net.links core.net.masters (slice_set insts me shown) disk
      out now held clean =
          plays-answering count steps blocks core insts disk p n at from s b message (messages.Shipped (sharing order now.image)) asker shown first refl refl
          (heard-sane count steps blocks core insts disk p n at from s Main message first) (tt, (p.each me n at).numbers b now held) alike refl (λ c ne. refl)
          (λ low.
          let f = p.follows b low in (
            risen me s f.h,
            image-is-shared me from s g new asker now (sharing order now.image) core.net.links f.h b f.entry _ f.shown (comes count steps blocks core insts disk p n at from s message first)
                (ap (λ (q : Place). q.current) (own-place count steps blocks core insts disk p n at b low) ∙ held) (forced none b low) (record { numbered = refl; granted = refl; image = refl; dirty = sym clean }) refl,
            refl,
            (λ i apart. refl),
            own-place count steps blocks core insts disk p n at b low,
            f.on_disk,
          ))

      pick : (now : Current) → (place_at n.cache b).current ≡ Some now → (t : Bool) → (is_shared now.mode && not now.dirty) ≡ t
          → Plays count steps blocks (sent_for shown (heard n core from Main) order (option_map (sharing order) (if t then Some now.image else None))).net.links core.net.masters (slice_set insts me shown) disk
      pick now held true e = out now held (not-dirty now.dirty (and_parts (is_shared now.mode) (not now.dirty) e).1)
      pick now held false e = back (λ low. absurd (true≢false (sym (shared-clean s b g new asker first low now held) ∙ e)))

      go : (c : Option Current) → (place_at n.cache b).current ≡ c → Plays count steps blocks (sent_for shown (heard n core from Main) order (option_map (sharing order) (shareable (place_at n.cache b).current))).net.links core.net.masters (slice_set insts me shown) disk
      go None empty = subst (λ (c : Option Current). Plays count steps blocks (sent_for shown (heard n core from Main) order (option_map (sharing order) (shareable c))).net.links core.net.masters (slice_set insts me shown) disk) (sym empty) (back (λ low. empty))
      go (Some now) held =
          subst (λ (c : Option Current). Plays count steps blocks (sent_for shown (heard n core from Main) order (option_map (sharing order) (shareable c))).net.links core.net.masters (slice_set insts me shown) disk) (sym held)
          (pick now held (is_shared now.mode && not now.dirty) refl)

  ship-of : (s : ℕ) (message : Message) → first_from core from me Main ≡ packet_of s message → is_forced n ≡ true → is_shippable n (order_of (Some message)) ≡ true
      → Plays count steps blocks (follow_sent (risen_inst (packet_of s message)) (heard n core from Main) (order_of (Some message))).net.links core.net.masters (slice_set insts me (followed (risen_inst (packet_of s message)) (order_of (Some message)))) disk
  ship-of s (messages.ShipTo b g new asker) first none may = ship-to s b g new asker first none
  ship-of s (messages.ShareTo b g new asker) first none may = share-to s b g new asker first none
  ship-of s _ first none may = absurd (let clash : false ≡ true = may in cc)

  ship-by : (o : Option Packet) → first_from core from me Main ≡ o → is_forced n ≡ true → is_shippable n (order_of (option_map (λ (packet : Packet). packet.message) o)) ≡ true
      → Plays count steps blocks (follow_sent (risen_inst o) (heard n core from Main) (order_of (option_map (λ (packet : Packet). packet.message) o))).net.links core.net.masters (slice_set insts me (followed (risen_inst o) (order_of (option_map (λ (packet : Packet). packet.message) o)))) disk
  ship-by None first none may = absurd (let clash : false ≡ true = may in cc)
  ship-by (Some packet) first none may = ship-of packet.scn packet.message first none may

  pub ship-plays : may_ship n core from ≡ true → Plays count steps blocks (ship_sent n core from).net.links core.net.masters (slice_set insts me (shipped n core from)) disk
  ship-plays may = let k = and_parts (is_forced n) (is_shippable n (first_order n core from)) may in ship-by (first_from core from me Main) refl k.0 k.1

  -- ---- ServeCopy

  copy-to : (s b g reader : ℕ) → first_from core from me Main ≡ packet_of s (messages.CopyTo b g reader) → is_forced n ≡ true
      → Plays count steps blocks (copy_sent_of (risen_inst (packet_of s (messages.CopyTo b g reader))) (heard n core from Main) (record { block = b; grant = g; reader = reader }) (option_map (λ (now : Current). now.image) (place_at n.cache b).current)).net.links core.net.masters
      (slice_set insts me (risen_inst (packet_of s (messages.CopyTo b g reader)))) disk
  copy-to s b g reader first none = go (place_at n.cache b).current refl
    where
      message : Message
      message = messages.CopyTo b g reader

      order : CopyOrder
      order = record { block = b; grant = g; reader = reader }

      shown : Inst
      shown = risen_inst (packet_of s message)

      alike : Alike n shown
      alike = alike-at n shown refl refl refl refl refl refl refl refl (λ are. are)

      go : (c : Option Current) → (place_at n.cache b).current ≡ c → Plays count steps blocks (copy_sent_of shown (heard n core from Main) order (option_map (λ (now : Current). now.image) (place_at n.cache b).current)).net.links core.net.masters (slice_set insts me shown) disk
      go None empty =
          subst (λ (c : Option Current). Plays count steps blocks (copy_sent_of shown (heard n core from Main) order (option_map (λ (now : Current). now.image) c)).net.links core.net.masters (slice_set insts me shown) disk) (sym empty)
          (plays-answering count steps blocks core insts disk p n at from s b message (messages.Back (unfound.CopyTo b g reader)) (master_of core.net.masters b) shown first refl refl (p.named b)
          (heard-sane count steps blocks core insts disk p n at from s Main message first) alike refl (λ c ne. refl)
          (λ low.
          let f = p.follows b low in (
            risen me s f.h,
            copy-comes-back me from (master_of core.net.masters b) s g reader core.net.links f.h b f.entry _ f.shown (comes count steps blocks core insts disk p n at from s message first) (p.named b)
                (ap (λ (q : Place). q.current) (own-place count steps blocks core insts disk p n at b low) ∙ empty),
            refl,
            (λ i apart. refl),
            own-place count steps blocks core insts disk p n at b low,
            f.on_disk,
          )))
      go (Some now) held =
          let number : now.image.front.number ≡ b = (p.each me n at).numbers b now held in
          subst (λ (c : Option Current). Plays count steps blocks (copy_sent_of shown (heard n core from Main) order (option_map (λ (now : Current). now.image) c)).net.links core.net.masters (slice_set insts me shown) disk) (sym held)
          (plays-answering count steps blocks core insts disk p n at from s b message (messages.Copy now.image (max n.clock.scn s)) reader shown first refl (ap Some number)
          (heard-sane count steps blocks core insts disk p n at from s Main message first) tt alike refl (λ c ne. refl)
          (λ low.
          let f = p.follows b low in
          let clock : clock_then me s f.h ≡ max n.clock.scn s = ap (λ (c : ℕ). max c s) (had-clock count steps blocks core insts disk p n at b low) in (
            risen me s f.h,
            subst (λ (c : ℕ). GoesOn me s core.net.links (answered me from reader (clock_then me s f.h) (messages.Copy now.image c) core.net.links) (risen me s f.h) b f.entry (view p.whole b).block) clock
                (copy-is-served me from s g reader now core.net.links f.h b f.entry _ f.shown (comes count steps blocks core insts disk p n at from s message first)
                (ap (λ (q : Place). q.current) (own-place count steps blocks core insts disk p n at b low) ∙ held) number (forced none b low)),
            refl,
            (λ i apart. refl),
            own-place count steps blocks core insts disk p n at b low,
            f.on_disk,
          )))

  copy-of : (s : ℕ) (message : Message) → first_from core from me Main ≡ packet_of s message → is_forced n ≡ true → is_some (copy_order_of (Some message)) ≡ true
      → Plays count steps blocks (copy_sent_by (risen_inst (packet_of s message)) (heard n core from Main) (copy_order_of (Some message))).net.links core.net.masters (slice_set insts me (risen_inst (packet_of s message))) disk
  copy-of s (messages.CopyTo b g reader) first none may = copy-to s b g reader first none
  copy-of s _ first none may = absurd (let clash : false ≡ true = may in cc)

  copy-by : (o : Option Packet) → first_from core from me Main ≡ o → is_forced n ≡ true → is_some (copy_order_of (option_map (λ (packet : Packet). packet.message) o)) ≡ true
      → Plays count steps blocks (copy_sent_by (risen_inst o) (heard n core from Main) (copy_order_of (option_map (λ (packet : Packet). packet.message) o))).net.links core.net.masters (slice_set insts me (risen_inst o)) disk
  copy-by None first none may = absurd (let clash : false ≡ true = may in cc)
  copy-by (Some packet) first none may = copy-of packet.scn packet.message first none may

  pub copy-plays : may_serve_copy n core from ≡ true → Plays count steps blocks (copy_sent n core from).net.links core.net.masters (slice_set insts me (hears n core from Main)) disk
  copy-plays may = let k = and_parts (is_some (first_copy_order n core from)) (is_forced n) may in copy-by (first_from core from me Main) refl k.1 k.0
