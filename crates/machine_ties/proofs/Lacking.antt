-- In which mode a block is lacked, beside the image that is there.
use Rattle.std.proofs.Common.{◌≡◌, ◌∙◌, ℕ, Bool, true, false, List, [], ◌∷◌, refl, sym, ap, true≢false, ◌⊎◌, inl, inr}
use Rattle.std.specs.Prelude.{◌==◌, ◌&&◌, ◌||◌, if◌then◌else◌, is_none, not, option_map, Option, None, Some}
use Rattle.std.specs.List.{list_any}
use Rattle.std.specs.Option.{option_and_then}
use Rattle.std.proofs.lemmas.Bool.{and_from, and_parts, eqb-true, or_cases, or_left, or_right}
use Rattle.std.proofs.lemmas.Option.{none-some}
use Rattle.block_image.specs.Block.{BlockContent}
use Rattle.wire_net.specs.declared.message.Mode.{Mode}
use Rattle.wire_net.specs.declared.message.Mode.TheVariants.{Exclusive, Null, Shared}
use Rattle.buffer_cache.specs.declared.place.Current.{Current}
use Rattle.buffer_cache.specs.Cache.{place_at}
use Rattle.buffer_cache.specs.Place.{is_exclusive}
use Rattle.inst_state.specs.declared.inst.Inst.{Inst}
use Rattle.inst_state.specs.declared.needs.Needed.{Needed}
use Rattle.inst_state.specs.Hand.{came, current_image, first_of, image_for, kept}
use Rattle.inst_state.specs.Needs.{dead_needed, holds, is_held_in, needed, needed_of, serves}
use Rattle.recovery.specs.declared.dead.NextBack.TheVariants as lost
use Rattle.recovery.specs.Dead.{next_back}
use Rattle.image_steps.specs.Ask.{dead_lacks, held_mode, is_lacked, is_need, lacked, lacks}
use Rattle.protocol_ties.proofs.Origins.{some-one}
use Rattle.holder_ties.specs.Holders.{is_held}
use Rattle.holder_ties.specs.Own.{MayAskBeside}

-- a test that a stronger one holds wherever it holds
any-weaker : {A : Type 0} (p q : A → Bool) (xs : List A) → ((x : A) → p x ≡ true → q x ≡ true) → list_any p xs ≡ true → list_any q xs ≡ true
any-weaker p q [] w e = e
any-weaker p q (x ∷ xs) w e = go (or_cases (p x) (list_any p xs) e) (any-weaker p q xs w)
  where
    go : (p x ≡ true) ⊎ (list_any p xs ≡ true) → (list_any p xs ≡ true → list_any q xs ≡ true) → (q x || list_any q xs) ≡ true
    go (inl is) rest = or_left (q x) (list_any q xs) (w x is)
    go (inr is) rest = or_right (q x) (list_any q xs) (rest is)

none-any : {A : Type 0} (p : A → Bool) (xs : List A) → ((x : A) → p x ≡ true → ⊥) → list_any p xs ≡ true → ⊥
none-any p [] w e = true≢false (sym e)
none-any p (x ∷ xs) w e = go (or_cases (p x) (list_any p xs) e) (none-any p xs w)
  where
    go : (p x ≡ true) ⊎ (list_any p xs ≡ true) → (list_any p xs ≡ true → ⊥) → ⊥
    go (inl is) rest = w x is
    go (inr is) rest = rest is

-- what is needed exclusively where a shared image doesn't serve
needs-exclusive : (need : Mode) → serves need Shared ≡ true → serves Shared need ≡ false → need ≡ Exclusive
needs-exclusive Null is isnt = absurd (true≢false (sym is))
needs-exclusive Shared is isnt = absurd (true≢false isnt)
needs-exclusive Exclusive is isnt = refl

module _ (n : Inst) (b : ℕ) where
  -- a line that lacks a block needs it in a mode in which the image that is there doesn't serve
  pub record IsLacking (mode : Mode) (z : ℕ) (now : Current) : Type 0 where
    pub need : Needed
    pub is : needed n z ≡ Some need
    pub block : (need.block == b) ≡ true
    pub wants : serves need.mode mode ≡ true
    pub beside : serves now.mode need.mode ≡ false

  -- an image that serves is in hand
  in-hand : (z : ℕ) (need : Needed) (now : Current) → (place_at n.cache need.block).current ≡ Some now → (t : Bool) → serves now.mode need.mode ≡ t → is_none (image_for n z need) ≡ true → t ≡ false
  in-hand z need now there true e none =
      let held : is_held_in need.mode (place_at n.cache need.block).current ≡ true = ap (is_held_in need.mode) there ∙ e in
      let hand : image_for n z need ≡ Some now.image =
      ap (λ (t : Bool). if t then current_image n need.block else if is_exclusive need.mode then None else first_of (came n z need.block) (kept n z need.block)) held
      ∙ ap (option_map (λ (x : Current). x.image)) there in
      absurd (true≢false (sym none ∙ ap (λ (o : Option BlockContent). is_none o) hand))
  in-hand z need now there false e none = refl

  lacking-of : (mode : Mode) (z : ℕ) (now : Current) → (place_at n.cache b).current ≡ Some now → (o : Option Needed) → needed n z ≡ o → (is_need b mode o && is_none (option_and_then (image_for n z) o)) ≡ true → IsLacking mode z now
  lacking-of mode z now there None e is = absurd (true≢false (sym is))
  lacking-of mode z now there (Some need) e is =
      let k = and_parts (is_need b mode (Some need)) (is_none (image_for n z need)) is in
      let w = and_parts (need.block == b) (serves need.mode mode) k.0 in
      let same : need.block ≡ b = eqb-true need.block b w.0 in
      record {
        need = need;
        is = e;
        block = w.0;
        wants = w.1;
        beside = in-hand z need now (ap (λ (c : ℕ). (place_at n.cache c).current) same ∙ there) (serves now.mode need.mode) refl k.1;
      }

  lacking : (mode : Mode) (z : ℕ) (now : Current) → (place_at n.cache b).current ≡ Some now → lacks n b mode z ≡ true → IsLacking mode z now
  lacking mode z now there is = lacking-of mode z now there (needed n z) refl is

  -- beside an exclusive image nothing is lacked
  none-lacked : (mode : Mode) (z : ℕ) (now : Current) → (place_at n.cache b).current ≡ Some now → now.mode ≡ Exclusive → lacks n b mode z ≡ true → ⊥
  none-lacked mode z now there exclusive is =
      let k = lacking mode z now there is in
      true≢false (sym (ap (λ (m : Mode). serves m k.need.mode) exclusive) ∙ k.beside)

  -- beside a shared one it is lacked exclusively
  lacked-more : (z : ℕ) (now : Current) → (place_at n.cache b).current ≡ Some now → now.mode ≡ Shared → lacks n b Shared z ≡ true → lacks n b Exclusive z ≡ true
  lacked-more z now there shared is =
      let k = lacking Shared z now there is in
      let mode : k.need.mode ≡ Exclusive = needs-exclusive k.need.mode k.wants (sym (ap (λ (m : Mode). serves m k.need.mode) shared) ∙ k.beside) in
      let need : is_need b Exclusive (needed n z) ≡ true = ap (is_need b Exclusive) k.is ∙ and_from (k.need.block == b) (serves k.need.mode Exclusive) k.block (ap (λ (m : Mode). serves m Exclusive) mode) in
      and_from (is_need b Exclusive (needed n z)) (is_none (option_and_then (image_for n z) (needed n z))) need (and_parts (is_need b Shared (needed n z)) (is_none (option_and_then (image_for n z) (needed n z))) is).1

  -- who leads no recovery has no dead transaction
  module _ (leads : n.leading.leads ≡ false) where
    none-dead : dead_needed n ≡ None
    none-dead = ap (λ (t : Bool). needed_of (if t then next_back n.leading.adopted else lost.Nothing)) leads

    lacked-by-line : (mode : Mode) → is_lacked n b mode ≡ true → list_any (lacks n b mode) n.plan.mine ≡ true
    lacked-by-line mode is = go (or_cases (list_any (lacks n b mode) n.plan.mine) (dead_lacks n b mode) is)
      where
        go : (list_any (lacks n b mode) n.plan.mine ≡ true) ⊎ (dead_lacks n b mode ≡ true) → list_any (lacks n b mode) n.plan.mine ≡ true
        go (inl line) = line
        go (inr dead) = absurd (true≢false (sym (and_parts (is_need b mode (dead_needed n)) (not (holds n b Exclusive)) dead).0 ∙ ap (is_need b mode) none-dead))

    -- an Ask may be made beside what is there
    pub may-ask-beside : (mode : Mode) → lacked n b ≡ Some mode → (c : Option Current) → (place_at n.cache b).current ≡ c → ((now : Current) → c ≡ Some now → is_held now.mode ≡ true) → MayAskBeside mode (held_mode c) (place_at n.cache b)
    may-ask-beside mode is None there held = (there, asked-mode mode (is_lacked n b Exclusive) (is_lacked n b Shared) is)
      where
        asked-mode : (mode : Mode) (x s : Bool) → (if x then Some Exclusive else if s then Some Shared else None) ≡ Some mode → is_held mode ≡ true
        asked-mode mode true s e = ap is_held (sym (some-one Exclusive mode e))
        asked-mode mode false true e = ap is_held (sym (some-one Shared mode e))
        asked-mode mode false false e = absurd (none-some mode e)
    may-ask-beside mode is (Some now) there held = go now.mode refl (is_lacked n b Exclusive) refl (is_lacked n b Shared) refl is
      where
        go : (m : Mode) → now.mode ≡ m → (x : Bool) → is_lacked n b Exclusive ≡ x → (s : Bool) → is_lacked n b Shared ≡ s → (if x then Some Exclusive else if s then Some Shared else None) ≡ Some mode
            → (mode ≡ Exclusive) × ((held : Current) × ((place_at n.cache b).current ≡ Some held) × (held.mode ≡ Shared))
        go Null e x ex s es is = absurd (true≢false (sym (held now refl) ∙ ap is_held e))
        go Shared e true ex s es is = (sym (some-one Exclusive mode is), (now, there, e))
        go Shared e false ex true es is =
            absurd (true≢false (sym (ap (λ (t : Bool). t || dead_lacks n b Exclusive) (any-weaker (lacks n b Shared) (lacks n b Exclusive) n.plan.mine (λ z. lacked-more z now there e) (lacked-by-line Shared es))) ∙ ex))
        go Shared e false ex false es is = absurd (none-some mode is)
        go Exclusive e true ex s es is = absurd (none-any (lacks n b Exclusive) n.plan.mine (λ z. none-lacked Exclusive z now there e) (lacked-by-line Exclusive ex))
        go Exclusive e false ex true es is = absurd (none-any (lacks n b Shared) n.plan.mine (λ z. none-lacked Shared z now there e) (lacked-by-line Shared es))
        go Exclusive e false ex false es is = absurd (none-some mode is)
