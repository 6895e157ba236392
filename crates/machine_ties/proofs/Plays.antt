-- The machine plays the protocol of each block.
use Rattle.std.proofs.Common.{◌≡◌, ◌≢◌, ◌∙◌, ℕ, zero, suc, ◌∷◌, ◌≤◌, Bool, true, false, List, [], refl, sym, ap, subst, ◌⊎◌, inl, inr}
use Rattle.std.specs.Prelude.{◌==◌, Option, Some, slice_get, slice_set}
use Rattle.std.proofs.lemmas.Bool.{eqb-false, eqb-true}
use Rattle.std.proofs.lemmas.Option.{none-some}
use Rattle.base_types.specs.declared.names.BlockNo.{BlockNo}
use Rattle.wire_net.specs.declared.entry.Entry.{Entry}
use Rattle.wire_net.specs.declared.message.Packet.{Packet}
use Rattle.inst_state.specs.declared.inst.Inst.{Inst}
use Rattle.inst_state.specs.State.{newest_at}
use Rattle.block_protocol.specs.Block.{Block, Scn}
use Rattle.block_protocol.specs.Wire.{Same}
use Rattle.protocol_ties.specs.Bags.{AreLinks, bag_of}
use Rattle.protocol_ties.proofs.OnLinks.{shows-same, same-sym}
use Rattle.holder_ties.specs.Shown.{Holdings, IsShown}
use Rattle.line_laws.proofs.Worlds.{set_get}
use Rattle.machine_ties.specs.Plays.{IsDurableIn, IsDurableOf}

-- a block is shown whatever the clocks are
pub other-clocks : (links : List (List Packet)) (h : Holdings) (b : BlockNo) (entry : Entry) (block : Block) (clock : ℕ → Scn) → IsShown links h b entry block → IsShown links (record h { clock = clock }) b entry (record block { clock = clock })
other-clocks links h b entry block clock is = record {
  sized = is.sized;
  sound = record { listing = is.sound.listing; listed = is.sound.listed; operation = is.sound.operation; served = is.sound.served; requests = is.sound.requests; notes = is.sound.notes };
  shows = record {
    tied = record { lists = is.shows.tied.lists; alone = is.shows.tied.alone; sized = is.shows.tied.sized; draws = is.shows.tied.draws; operation = is.shows.tied.operation; known = is.shows.tied.known };
    messages = is.shows.messages;
    requests = is.shows.requests;
    proper = is.shows.proper;
  };
  around = record {
    images = is.around.images;
    unasked = is.around.unasked;
    copies = is.around.copies;
    clock = refl;
    records = is.around.records;
    disk = is.around.disk;
  };
  upgrade = is.upgrade;
}

-- by other links that bear the same
pub other-links : (links later : List (List Packet)) (h : Holdings) (b : BlockNo) (entry : Entry) (block : Block) → IsShown links h b entry block → AreLinks later → Same (bag_of b links) (bag_of b later) → IsShown later h b entry block
other-links links later h b entry block is sized same = record {
  sized = sized;
  sound = is.sound;
  shows = shows-same (same-sym (bag_of b links) (bag_of b later) same) is.shows;
  around = is.around;
  upgrade = is.upgrade;
}

-- two numbers are one or two
pub same-or-not : (i j : ℕ) → (i ≡ j) ⊎ (i ≢ j)
same-or-not i j = go (i == j) refl
  where
    go : (t : Bool) → (i == j) ≡ t → (i ≡ j) ⊎ (i ≢ j)
    go true e = inl (eqb-true i j e)
    go false e = inr (eqb-false i j e)

-- another instance in the place of one that is there
pub set-here : (insts : List Inst) (i : ℕ) (n m : Inst) → slice_get insts i ≡ Some n → slice_get (slice_set insts i m) i ≡ Some m
set-here [] i n m e = absurd (none-some n e)
set-here (x ∷ insts) zero n m e = refl
set-here (x ∷ insts) (suc i) n m e = set-here insts i n m e

pub set-there : (insts : List Inst) (i j : ℕ) (m : Inst) → j ≢ i → slice_get (slice_set insts i m) j ≡ slice_get insts j
set-there [] i j m ne = refl
set-there (x ∷ insts) zero zero m ne = absurd (ne refl)
set-there (x ∷ insts) zero (suc j) m ne = refl
set-there (x ∷ insts) (suc i) zero m ne = refl
set-there (x ∷ insts) (suc i) (suc j) m ne = set-there insts i j m (λ e. ne (ap suc e))

module _ (insts : List Inst) (me : ℕ) (n m : Inst) (at : slice_get insts me ≡ Some n) where
  -- what is read of the instances after one has changed
  pub read-after : {A : Type 0} (f : Option Inst → A) (g : ℕ → A) → ((i : ℕ) → i ≢ me → g i ≡ f (slice_get insts i)) → g me ≡ f (Some m) → (i : ℕ) → g i ≡ f (slice_get (slice_set insts me m) i)
  read-after {A = A} f g others own i = go (same-or-not i me)
    where
      go : (i ≡ me) ⊎ (i ≢ me) → g i ≡ f (slice_get (slice_set insts me m) i)
      go (inl e) = subst (λ (k : ℕ). g k ≡ f (slice_get (slice_set insts me m) k)) (sym e) (own ∙ ap f (sym (set-here insts me n m at)))
      go (inr ne) = others i ne ∙ ap f (sym (set-there insts me i m ne))

  -- a fact of each instance after one has changed
  pub each-after : (P : ℕ → Inst → Type 0) → ((i : ℕ) (k : Inst) → slice_get insts i ≡ Some k → P i k) → P me m → (i : ℕ) (k : Inst) → slice_get (slice_set insts me m) i ≡ Some k → P i k
  each-after P others own i k is = go (set_get insts me m i k is)
    where
      go : ((i ≡ me) × (k ≡ m)) ⊎ ((i ≡ me → ⊥) × (slice_get insts i ≡ Some k)) → P i k
      go (inl e) = subst (λ (j : ℕ). P j k) (sym e.0) (subst (λ (x : Inst). P me x) (sym e.1) own)
      go (inr e) = others i k e.1

  -- whose own redo is durable still
  pub durable-before : (b i : ℕ) → (newest_at m b ≡ newest_at n b) → (m.thread.durable ≡ n.thread.durable) → IsDurableIn (slice_set insts me m) b i → IsDurableIn insts b i
  durable-before b i same_place same_durable d = go (same-or-not i me)
    where
      go : (i ≡ me) ⊎ (i ≢ me) → IsDurableIn insts b i
      go (inl e) =
          let own : newest_at m b ≤ m.thread.durable = subst (λ (o : Option Inst). IsDurableOf o b) (ap (slice_get (slice_set insts me m)) e ∙ set-here insts me n m at) d in
          let was : newest_at n b ≤ n.thread.durable = subst (λ (x : ℕ). newest_at n b ≤ x) same_durable (subst (λ (x : ℕ). x ≤ m.thread.durable) same_place own) in
          subst (λ (o : Option Inst). IsDurableOf o b) (sym (ap (slice_get insts) e ∙ at)) was
      go (inr ne) = subst (λ (o : Option Inst). IsDurableOf o b) (set-there insts me i m ne) d
