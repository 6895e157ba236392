-- What an instance does of its own accord with what it has of a block: it asks, evicts, or asks that the block be written.
use Rattle.std.proofs.Common.{◌≡◌, ◌≢◌, ◌∙◌, ℕ, ◌<◌, ◌≤◌, Bool, true, false, List, length, refl, sym, ap, subst, arith, true≢false, ◌⊎◌, inl, inr}
use Rattle.std.specs.Prelude.{◌&&◌, is_none, is_some, not, if◌then◌else◌, option_map, Option, None, Some, slice_get, slice_set}
use Rattle.std.proofs.lemmas.Bool.{and_parts}
use Rattle.std.proofs.lemmas.Option.{none-some}
use Rattle.base_types.specs.declared.names.BlockNo.{BlockNo}
use Rattle.rac_disk.specs.Content.{Content}
use Rattle.wire_net.specs.declared.message.Message.TheVariants as messages
use Rattle.wire_net.specs.declared.message.Mode.{Mode}
use Rattle.wire_net.specs.declared.message.Mode.TheVariants as modes
use Rattle.wire_net.specs.Masters.{master_of}
use Rattle.buffer_cache.specs.declared.place.Current.{Current}
use Rattle.buffer_cache.specs.declared.place.Place.{Place}
use Rattle.buffer_cache.specs.Cache.{place_at}
use Rattle.buffer_cache.specs.Place.{clean_grant, empty_place, holds_clean, is_marked, unless_clean, with_ask, with_past_asked, without_clean}
use Rattle.inst_state.specs.declared.inst.Inst.{Inst}
use Rattle.inst_state.specs.declared.shared.Core.{Core}
use Rattle.inst_state.specs.Needs.{is_used}
use Rattle.image_steps.specs.Ask.{ask_sent, ask_sent_in, asked, asked_in, has_frame, held_mode, lacked, may_ask, needs_frame}
use Rattle.image_steps.specs.AskWrite.{is_to_go, may_ask_write, past_version, plea_sent, write_asked, write_plea_sent}
use Rattle.image_steps.specs.Evict.{evict_sent, evicted, gave_up, is_free_to_go, may_evict}
use Rattle.block_protocol.proofs.Basics.{put-other, put-same}
use Rattle.protocol_ties.specs.Messages.{hold_of, want_of}
use Rattle.protocol_ties.specs.Places.{hold_at, past_version_of}
use Rattle.protocol_ties.proofs.Origins.{some-one}
use Rattle.holder_ties.specs.Holders.{is_held}
use Rattle.holder_ties.specs.Own.{MayAskBeside}
use Rattle.holder_ties.specs.Shown.{with_place}
use Rattle.holder_ties.proofs.Own.{ask-goes-out, image-is-evicted, write-is-pleaded}
use Rattle.machine_ties.proofs.Heard.{low-me, numbers-place, own-place, past-end, place-long, place-other, place-own, plays-telling, within}
use Rattle.machine_ties.proofs.Images.{alike-at, whole-at}
use Rattle.machine_ties.proofs.Lacking.{may-ask-beside}
use Rattle.machine_ties.proofs.Moves.{low-or-not}
use Rattle.machine_ties.specs.Plays.{Plays, newest}

-- what is asked for beside an image
wants-something : (mode held : Mode) (place : Place) → MayAskBeside mode held place → is_some (want_of mode held) ≡ true
wants-something modes.Null modes.Null place may = absurd (true≢false (sym may.1))
wants-something modes.Shared modes.Null place may = refl
wants-something modes.Exclusive modes.Null place may = refl
wants-something modes.Exclusive modes.Shared place may = refl
wants-something modes.Null modes.Shared place may = absurd (let clash : modes.Null ≡ modes.Exclusive = may.0 in cc)
wants-something modes.Shared modes.Shared place may = absurd (let clash : modes.Shared ≡ modes.Exclusive = may.0 in cc)
wants-something mode modes.Exclusive place may = absurd may

held-mode : (mode : Mode) (grant : ℕ) → hold_of mode grant ≢ None → is_held mode ≡ true
held-mode modes.Null grant ne = absurd (ne refl)
held-mode modes.Shared grant ne = refl
held-mode modes.Exclusive grant ne = refl

-- an image that stays where a clean one goes
unless-number : (b : ℕ) (o : Option Current) (now : Current) → ((x : Current) → o ≡ Some x → x.image.front.number ≡ b) → unless_clean o ≡ Some now → now.image.front.number ≡ b
unless-number b None now is e = absurd (none-some now e)
unless-number b (Some x) now is e = go x.dirty e
  where
    go : (t : Bool) → (if t then Some x else None) ≡ Some now → now.image.front.number ≡ b
    go true same = ap (λ (y : Current). y.image.front.number) (sym (some-one x now same)) ∙ is x refl
    go false none = absurd (none-some now none)

none-of : {A : Type 0} (o : Option A) → is_none o ≡ true → o ≡ None
none-of None e = refl
none-of (Some x) e = absurd (true≢false (sym e))

clean-of : (t : Bool) → not t ≡ true → t ≡ false
clean-of true e = sym e
clean-of false e = refl

module _ (count steps blocks : ℕ) (core : Core) (insts : List Inst) (disk : Content) (p : Plays count steps blocks core.net.links core.net.masters insts disk) (n : Inst) (at : slice_get insts n.plan.me ≡ Some n) (b : BlockNo) where
  abbrev me : ℕ
  me = n.plan.me

  abbrev master : ℕ
  master = master_of core.net.masters b

  -- of a block that there isn't it has nothing
  nothing : blocks ≤ b → place_at n.cache b ≡ empty_place
  nothing high = past-end n.cache.places b (let long = (p.each me n at).cached in omega (arith, long, high))

  -- ---- Ask

  -- an image that is there is held in a mode
  held-here : (now : Current) → (place_at n.cache b).current ≡ Some now → is_held now.mode ≡ true
  held-here now there = go (low-or-not b blocks)
    where
      go : (b < blocks) ⊎ (blocks ≤ b) → is_held now.mode ≡ true
      go (inl low) =
          let f = p.follows b low in
          let held : (f.h.places me).current ≡ Some now = ap (λ (q : Place). q.current) (own-place count steps blocks core insts disk p n at b low) ∙ there in
          held-mode now.mode now.grant (λ none. (f.shown.around.images me).there now held ((f.shown.around.images me).held ∙ ap hold_at held ∙ none))
      go (inr high) = absurd (none-some now (sym (ap (λ (q : Place). q.current) (nothing high)) ∙ there))

  ask-of : (o : Option Mode) → lacked n b ≡ o → is_some o ≡ true → (place_at n.cache b).asked ≡ None → Plays count steps blocks (ask_sent_in n core b o).net.links core.net.masters (slice_set insts me (asked_in n b o)) disk
  ask-of None e may free = absurd (true≢false (sym may))
  ask-of (Some mode) e may free =
      let held : Mode = held_mode (place_at n.cache b).current in
      let beside : MayAskBeside mode held (place_at n.cache b) = may-ask-beside n b (p.each me n at).leads mode e (place_at n.cache b).current refl held-here in
      let m : Inst = asked_in n b (Some mode) in
      plays-telling count steps blocks core insts disk p n at b (messages.Ask b mode held me) master m refl (p.named b) (low-me count steps blocks core insts disk p n at, wants-something mode held (place_at n.cache b) beside)
      (alike-at n m refl refl refl refl refl refl refl (place-long (with_ask (Some mode)) n.cache b) (λ are. numbers-place (with_ask (Some mode)) n.cache b are (λ now there. are b now there))) refl
      (λ c ne. place-other (with_ask (Some mode)) n.cache b c ne)
      (λ low.
      let f = p.follows b low in
      let own : f.h.places me ≡ place_at n.cache b = own-place count steps blocks core insts disk p n at b low in (
        with_place me (with_ask (Some mode) (f.h.places me)) f.h,
        ask-goes-out me master mode held core.net.links f.h b f.entry _ f.shown (low-me count steps blocks core insts disk p n at) (p.named b) (ap (λ (q : Place). q.asked) own ∙ free) (subst (λ (q : Place). MayAskBeside mode held q) (sym own) beside),
        refl,
        (λ i apart. put-other f.h.places me (with_ask (Some mode) (f.h.places me)) i (λ e. apart (sym e))),
        put-same f.h.places me (with_ask (Some mode) (f.h.places me)) ∙ ap (with_ask (Some mode)) own ∙ sym (place-own (with_ask (Some mode)) n.cache b (within count steps blocks core insts disk p n at b low)),
        f.on_disk,
      ))

  pub ask-plays : may_ask n b ≡ true → Plays count steps blocks (ask_sent n core b).net.links core.net.masters (slice_set insts me (asked n b)) disk
  ask-plays may =
      let k = and_parts (is_none (place_at n.cache b).asked && has_frame n b) (is_some (lacked n b)) may in
      ask-of (lacked n b) refl k.1 (none-of (place_at n.cache b).asked (and_parts (is_none (place_at n.cache b).asked) (has_frame n b) k.0).0)

  -- ---- Evict

  evict-of : (c : Option Current) → (place_at n.cache b).current ≡ c → holds_clean c ≡ true → (place_at n.cache b).asked ≡ None → Plays count steps blocks (gave_up n core b (clean_grant c)).net.links core.net.masters (slice_set insts me (evicted n b)) disk
  evict-of None there may free = absurd (true≢false (sym may))
  evict-of (Some now) there may free =
      let clean : now.dirty ≡ false = clean-of now.dirty may in
      let m : Inst = evicted n b in
      subst (λ (t : Bool). Plays count steps blocks (gave_up n core b (if t then None else Some now.grant)).net.links core.net.masters (slice_set insts me m) disk) (sym clean)
      (plays-telling count steps blocks core insts disk p n at b (messages.GaveUp b now.grant) master m refl (p.named b) tt
      (alike-at n m refl refl refl refl refl refl refl (place-long without_clean n.cache b) (λ are. numbers-place without_clean n.cache b are (λ x held. unless-number b (place_at n.cache b).current x (are b) held))) refl
      (λ c ne. place-other without_clean n.cache b c ne)
      (λ low.
      let f = p.follows b low in
      let own : f.h.places me ≡ place_at n.cache b = own-place count steps blocks core insts disk p n at b low in (
        with_place me (without_clean (f.h.places me)) f.h,
        image-is-evicted me master now core.net.links f.h b f.entry _ f.shown (low-me count steps blocks core insts disk p n at) (p.named b) (ap (λ (q : Place). q.asked) own ∙ free) (ap (λ (q : Place). q.current) own ∙ there) clean,
        refl,
        (λ i apart. put-other f.h.places me (without_clean (f.h.places me)) i (λ e. apart (sym e))),
        put-same f.h.places me (without_clean (f.h.places me)) ∙ ap without_clean own ∙ sym (place-own without_clean n.cache b (within count steps blocks core insts disk p n at b low)),
        f.on_disk,
      )))

  pub evict-plays : may_evict n b ≡ true → Plays count steps blocks (evict_sent n core b).net.links core.net.masters (slice_set insts me (evicted n b)) disk
  evict-plays may =
      let free = (and_parts (is_free_to_go n b) (needs_frame n) may).0 in
      let k = and_parts (holds_clean (place_at n.cache b).current) (is_none (place_at n.cache b).asked) (and_parts (holds_clean (place_at n.cache b).current && is_none (place_at n.cache b).asked) (not (is_used n b)) free).0 in
      evict-of (place_at n.cache b).current refl k.0 (none-of (place_at n.cache b).asked k.1)

  -- ---- AskWrite

  -- a past image is at a version that was made
  past-made : (version : ℕ) → past_version n b ≡ Some version → version ≤ newest p.whole b
  past-made version is = go (low-or-not b blocks)
    where
      go : (b < blocks) ⊎ (blocks ≤ b) → version ≤ newest p.whole b
      go (inl low) =
          let f = p.follows b low in
          let had : option_map past_version_of (f.h.places me).past ≡ Some version = ap (λ (q : Place). option_map past_version_of q.past) (own-place count steps blocks core insts disk p n at b low) ∙ is in
          (whole-at count steps blocks core insts disk p n at b b).pasts.bounded me version ((f.shown.around.images me).kept ∙ had)
      go (inr high) = absurd (none-some version (sym (ap (λ (q : Place). option_map past_version_of q.past) (nothing high)) ∙ is))

  plea-of : (o : Option ℕ) → past_version n b ≡ o → is_to_go n b o ≡ true → Plays count steps blocks (plea_sent n core b o).net.links core.net.masters (slice_set insts me (write_asked n b)) disk
  plea-of None e may = absurd (true≢false (sym may))
  plea-of (Some version) e may =
      let m : Inst = write_asked n b in
      let made : version ≤ newest p.whole b = past-made version e in
      plays-telling count steps blocks core insts disk p n at b (messages.WritePlease b version me None) master m refl (p.named b) (low-me count steps blocks core insts disk p n at, made)
      (alike-at n m refl refl refl refl refl refl refl (place-long with_past_asked n.cache b) (λ are. numbers-place with_past_asked n.cache b are (λ now there. are b now there))) refl
      (λ c ne. place-other with_past_asked n.cache b c ne)
      (λ low.
      let f = p.follows b low in
      let own : f.h.places me ≡ place_at n.cache b = own-place count steps blocks core insts disk p n at b low in (
        with_place me (with_past_asked (f.h.places me)) f.h,
        write-is-pleaded me master version core.net.links f.h b f.entry _ f.shown (low-me count steps blocks core insts disk p n at) (p.named b) (subst (λ l. version ≤ length l) f.shown.around.records made),
        refl,
        (λ i apart. put-other f.h.places me (with_past_asked (f.h.places me)) i (λ e. apart (sym e))),
        put-same f.h.places me (with_past_asked (f.h.places me)) ∙ ap with_past_asked own ∙ sym (place-own with_past_asked n.cache b (within count steps blocks core insts disk p n at b low)),
        f.on_disk,
      ))

  pub plea-plays : may_ask_write n b ≡ true → Plays count steps blocks (write_plea_sent n core b).net.links core.net.masters (slice_set insts me (write_asked n b)) disk
  plea-plays may = plea-of (past_version n b) refl (and_parts (not (is_marked (place_at n.cache b).past)) (is_to_go n b (past_version n b)) may).1
