-- An instance forces its redo: all blocks play on.
use Rattle.std.proofs.Common.{◌≡◌, ◌≢◌, ◌∙◌, ℕ, ◌≤◌, Bool, true, false, List, [], ◌∷◌, ◌++◌, refl, sym, ap, subst, arith, ◌⊎◌, inl, inr}
use Rattle.std.specs.Prelude.{◌==◌, if◌then◌else◌, fold, Option, None, Some, slice_get, slice_index_or, slice_set}
use Rattle.std.specs.List.{AllByRecursion}
use Rattle.std.proofs.lemmas.Bool.{eq-eqb}
use Rattle.std.proofs.lemmas.List.{set-set}
use Rattle.base_types.specs.declared.names.BlockNo.{BlockNo}
use Rattle.wire_net.specs.declared.entry.Entry.{Entry}
use Rattle.rac_disk.specs.Content.{Content, log_at, with_log}
use Rattle.rac_disk.specs.State.{Leaves, PutBehind, State, WhereTold}
use Rattle.scn_clock.specs.declared.clock.Clock.{Clock}
use Rattle.redo_thread.specs.Thread.{forced as thread_forced}
use Rattle.disk_calls.specs.Calls.{done}
use Rattle.disk_calls.specs.declared.appends.Appended.{Appended}
use Rattle.disk_calls.specs.declared.appends.Appended.TheVariants.{Whole as WholeAppended}
use Rattle.disk_steps.specs.Force.{ForcesAs, all_forced as inst_forced, end_learnt, force_told, forced_as}
use Rattle.inst_state.specs.declared.inst.Inst.{Inst}
use Rattle.inst_state.specs.declared.inst.Mastering.{Mastering}
use Rattle.inst_state.specs.declared.inst.WaitingEnd.{WaitingEnd}
use Rattle.inst_state.specs.declared.shared.Core.{Core}
use Rattle.image_steps.specs.MasterTake.{is_master}
use Rattle.resource_dir.specs.Directory.{entry_of}
use Rattle.block_protocol.specs.AllBlocks.{AllBlocks, RunOfAll, all_end, all_force, all_forced, all_go, view}
use Rattle.block_protocol.specs.Block.{Record, Scn, put}
use Rattle.block_protocol.specs.Invariant.{Era}
use Rattle.block_protocol.specs.Members.{RedoComes}
use Rattle.block_protocol.specs.Steps.{forced, made_durable}
use Rattle.block_protocol.proofs.Basics.{put-other, put-same}
use Rattle.block_protocol.proofs.Bags.{same-refl}
use Rattle.block_protocol.proofs.BoardParts.{length-forced}
use Rattle.protocol_ties.specs.Bags.{bag_of}
use Rattle.protocol_ties.proofs.Origins.{some-one}
use Rattle.protocol_ties.proofs.Turns.{all-after}
use Rattle.holder_ties.specs.Beside.{with_forced}
use Rattle.holder_ties.proofs.Beside.{redo-may-be-forced}
use Rattle.machine_ties.specs.InstPlaces.{place_of}
use Rattle.machine_ties.proofs.Images.{era-at}
use Rattle.machine_ties.proofs.Links.{links-later, queue-later}
use Rattle.machine_ties.proofs.Moves.{plays-rises}
use Rattle.machine_ties.proofs.Plays.{each-after, read-after, same-or-not, set-here, set-there}
use Rattle.machine_ties.specs.Plays.{Follows, IsDurableIn, IsDurableOf, IsFine, Plays, Serves, clock_of, newest}

-- all records of who forced are on disk, and whose were are still
forced-own : (me : ℕ) (records : List Record) → AllByRecursion (λ redo. redo.maker ≡ me → redo.durable ≡ true) (forced me records)
forced-own me [] = tt
forced-own me (redo ∷ records) = (λ own. ap (λ (t : Bool). if t then true else redo.durable) (eq-eqb me redo.maker (sym own)), forced-own me records)

kept-durable : (me i : ℕ) (redo : Record) → (redo.maker ≡ i → redo.durable ≡ true) → redo.maker ≡ i → (made_durable me redo).durable ≡ true
kept-durable me i redo was own = go (me == redo.maker)
  where
    go : (t : Bool) → (if t then true else redo.durable) ≡ true
    go true = refl
    go false = was own

forced-keeps : (me i : ℕ) (records : List Record) → AllByRecursion (λ redo. redo.maker ≡ i → redo.durable ≡ true) records → AllByRecursion (λ redo. redo.maker ≡ i → redo.durable ≡ true) (forced me records)
forced-keeps me i [] all = tt
forced-keeps me i (redo ∷ records) all = (kept-durable me i redo all.0, forced-keeps me i records all.1)

-- the records that an instance has made, by its clock
own-drawn : (clock : ℕ → Scn) (me : ℕ) (records : List Record) → AllByRecursion (λ redo. redo.scn ≤ clock redo.maker) records → AllByRecursion (λ redo. redo.maker ≡ me → redo.scn ≤ clock me) records
own-drawn clock me [] all = tt
own-drawn clock me (redo ∷ records) all = (λ own. subst (λ (i : ℕ). redo.scn ≤ clock i) own all.0, own-drawn clock me records all.1)

module _ (count steps blocks : ℕ) (core : Core) (insts : List Inst) (disk : Content) (p : Plays count steps blocks core.net.links core.net.masters insts disk) (n : Inst) (at : slice_get insts n.plan.me ≡ Some n) where
  abbrev me : ℕ
  me = n.plan.me

  m : Inst
  m = record n { thread = thread_forced n.thread }

  abbrev found_then : ℕ → Scn
  found_then = put p.whole.members.found me (p.whole.clock me)

  abbrev whole : AllBlocks
  whole = record { members = record p.whole.members { found = found_then }; clock = p.whole.clock; blocks = all_forced p.whole me }

  live : p.whole.members.live me ≡ true
  live = p.live me (p.each me n at).low

  awake-me : p.whole.members.actual me ≡ p.whole.clock me
  awake-me = ap (λ (c : ℕ → Scn). c me) p.awake

  comes : RedoComes p.whole.members found_then
  comes = record {
    rises = λ i. rise i (same-or-not i me);
    drawn = λ i up closed. drawn i (same-or-not i me);
  }
    where
      era : Era (view p.whole 0)
      era = era-at count steps blocks core insts disk p n at 0 0

      paced : p.whole.members.found me ≤ p.whole.clock me
      paced = subst (λ (c : ℕ). p.whole.members.found me ≤ c) awake-me (era.clocks.paced me live (era.closed me))

      rise : (i : ℕ) → (i ≡ me) ⊎ (i ≢ me) → p.whole.members.found i ≤ found_then i
      rise i (inl e) = subst (λ (j : ℕ). p.whole.members.found j ≤ found_then j) (sym e) (subst (λ (c : ℕ). p.whole.members.found me ≤ c) (sym (put-same p.whole.members.found me (p.whole.clock me))) paced)
      rise i (inr ne) = subst (λ (c : ℕ). p.whole.members.found i ≤ c) (sym (put-other p.whole.members.found me (p.whole.clock me) i (λ e. ne (sym e)))) (omega arith)

      drawn : (i : ℕ) → (i ≡ me) ⊎ (i ≢ me) → (found_then i ≡ p.whole.members.found i) ⊎ (found_then i ≤ p.whole.members.actual i)
      drawn i (inl e) = inr (subst (λ (j : ℕ). found_then j ≤ p.whole.members.actual j) (sym e) (let same = put-same p.whole.members.found me (p.whole.clock me) in let up = awake-me in omega (arith, same, up)))
      drawn i (inr ne) = inl (put-other p.whole.members.found me (p.whole.clock me) i (λ e. ne (sym e)))

  reached : (b : BlockNo) → AllByRecursion (λ redo. redo.maker ≡ me → redo.scn ≤ found_then me) (p.whole.blocks b).block.records
  reached b = subst (λ (c : ℕ). AllByRecursion (λ redo. redo.maker ≡ me → redo.scn ≤ c) (p.whole.blocks b).block.records) (sym (put-same p.whole.members.found me (p.whole.clock me)))
      (own-drawn p.whole.clock me (p.whole.blocks b).block.records (era-at count steps blocks core insts disk p n at 0 b).whole.floor.drawn)

  run : RunOfAll p.whole whole
  run = all_go (all_force p.whole me found_then comes reached) (all_end whole)

  made-same : (b : BlockNo) → newest whole b ≡ newest p.whole b
  made-same b = length-forced me (p.whole.blocks b).block.records

  serves : Serves count blocks me m
  unfolding m
  serves = let s = p.each me n at in record {
    low = s.low;
    me = s.me;
    up = s.up;
    paused = s.paused;
    leads = s.leads;
    adopted = s.adopted;
    sized = s.sized;
    passes = s.passes;
    cached = s.cached;
    numbers = s.numbers;
    reached = λ b. let was = s.reached b in omega (arith, was);
  }

  seat-after : (i : ℕ) (k : Inst) → slice_get insts i ≡ Some k → (l : Inst) × (slice_get (slice_set insts me m) i ≡ Some l) × (l.mastering ≡ k.mastering)
  unfolding m
  seat-after i k is = go (same-or-not i me)
    where
      go : (i ≡ me) ⊎ (i ≢ me) → (l : Inst) × (slice_get (slice_set insts me m) i ≡ Some l) × (l.mastering ≡ k.mastering)
      go (inl e) = (m, ap (slice_get (slice_set insts me m)) e ∙ set-here insts me n m at, ap (λ (x : Inst). x.mastering) (some-one n k (sym at ∙ ap (slice_get insts) (sym e) ∙ is)))
      go (inr ne) = (k, set-there insts me i m ne ∙ is, refl)

  durable-after : (b : BlockNo) (f : Follows core.net.links insts disk p.whole b) (i : ℕ) → IsDurableIn (slice_set insts me m) b i → AllByRecursion (λ redo. redo.maker ≡ i → redo.durable ≡ true) (forced me (view p.whole b).block.records)
  durable-after b f i d = go (same-or-not i me)
    where
      go : (i ≡ me) ⊎ (i ≢ me) → AllByRecursion (λ redo. redo.maker ≡ i → redo.durable ≡ true) (forced me (view p.whole b).block.records)
      go (inl e) = subst (λ (j : ℕ). AllByRecursion (λ redo. redo.maker ≡ j → redo.durable ≡ true) (forced me (view p.whole b).block.records)) (sym e) (forced-own me (view p.whole b).block.records)
      go (inr ne) = forced-keeps me i (view p.whole b).block.records (f.durable i (subst (λ (o : Option Inst). IsDurableOf o b) (set-there insts me i m ne) d))

  follows-after : (later : Content) → later.blocks ≡ disk.blocks → (b : BlockNo) → Follows core.net.links insts disk p.whole b → Follows core.net.links (slice_set insts me m) later whole b
  unfolding m
  follows-after later same b f =
      let seat = seat-after f.master f.seat f.there in
      record {
        entry = f.entry;
        h = with_forced me f.h;
        shown = redo-may-be-forced me core.net.links f.h b f.entry (view p.whole b).block f.shown;
        places = read-after insts me n m at (λ (o : Option Inst). place_of o b) f.h.places (λ i apart. f.places i) (f.places me ∙ ap (λ (o : Option Inst). place_of o b) at);
        on_disk = record { image = f.on_disk.image; bytes = ap (λ (bs : List (List ℕ)). slice_index_or bs b []) same ∙ f.on_disk.bytes; numbered = f.on_disk.numbered };
        master = f.master;
        seat = seat.0;
        there = seat.1;
        is_entry = ap (λ (g : Mastering). entry_of g.directory b) seat.2 ∙ f.is_entry;
        at_master = f.at_master;
        only = each-after insts me n m at (λ i k. is_master k b ≡ true → i ≡ f.master) f.only (λ is. f.only me n at is);
        durable = λ i d. durable-after b f i d;
      }

  entries-after : (i : ℕ) (k : Inst) → slice_get (slice_set insts me m) i ≡ Some k → (b : BlockNo) (entry : Entry) → entry_of k.mastering.directory b ≡ Some entry → IsFine (newest whole) steps b entry
  unfolding m
  entries-after = each-after insts me n m at (λ i k. (b : BlockNo) (entry : Entry) → entry_of k.mastering.directory b ≡ Some entry → IsFine (newest whole) steps b entry)
      (λ i k is b entry e. still b entry (p.entries i k b entry is e)) (λ b entry e. still b entry (p.entries me n b entry at e))
    where
      still : (b : BlockNo) (entry : Entry) → IsFine (newest p.whole) steps b entry → IsFine (newest whole) steps b entry
      still b entry it = record { names = it.names; waits = queue-later (newest p.whole) (newest whole) (λ d. let same = made-same d in omega (arith, same)) entry.queue it.waits; drawn = it.drawn }

  -- its thread is on the disk
  pub thread-plays : (later : Content) → later.blocks ≡ disk.blocks → Plays count steps blocks core.net.links core.net.masters (slice_set insts me (record n { thread = thread_forced n.thread })) later
  unfolding m
  thread-plays later same = record {
    whole = whole;
    first_master = p.first_master;
    run = all-after p.run run;
    phase = p.phase;
    live = p.live;
    awake = p.awake;
    few = p.few;
    sized = p.sized;
    each = each-after insts me n m at (Serves count blocks) p.each serves;
    named = p.named;
    clocks = read-after insts me n m at clock_of p.whole.clock (λ i apart. p.clocks i) (p.clocks me ∙ ap clock_of at);
    sane = links-later (newest p.whole) (newest whole) (λ b. let made = made-same b in omega (arith, made)) core.net.links p.sane;
    made = λ b. let made = made-same b in let few = p.made b in omega (arith, made, few);
    entries = λ i k b entry there is. entries-after i k there b entry is;
    follows = λ b low. follows-after later same b (p.follows b low);
  }

-- what a force left that was done
after-append : (disk : Content) (thread : ℕ) (bytes : List ℕ) (told : Option Content) → WhereTold (Some disk) told (Leaves (PutBehind thread bytes) done) → told ≡ Some (with_log disk thread (log_at disk thread ++ bytes))
after-append disk thread bytes None left = absurd left
after-append disk thread bytes (Some later) left = ap Some left.2

-- a clock doesn't go back as ends are learnt
ends-learnt : (ends : List WaitingEnd) (clock : Clock) → clock.scn ≤ (fold end_learnt clock ends).scn
ends-learnt [] clock = omega arith
ends-learnt (end ∷ ends) clock = let later = ends-learnt ends (end_learnt clock end) in omega (arith, later)

module _ (count steps blocks : ℕ) (core : Core) (insts : List Inst) (disk : Content) (p : Plays count steps blocks core.net.links core.net.masters insts disk) (n : Inst) (at : slice_get insts n.plan.me ≡ Some n) where
  -- it has learnt its ends, but its thread is as it was
  abbrev learns : Inst
  learns = record n { clock = (inst_forced n).clock; sessions = (inst_forced n).sessions; ends = [] }

  learns-plays : Plays count steps blocks core.net.links core.net.masters (slice_set insts n.plan.me learns) disk
  learns-plays =
      plays-rises count steps blocks core.net.links core.net.masters insts disk p n.plan.me n learns at
      (record { plan = refl; life = refl; paused = refl; leading = refl; mastering = refl; newest = refl; thread = refl; cached = refl; numbers = λ are. are })
      learns.clock.scn core.net.links disk (let later = ends-learnt n.ends n.clock in omega (arith, later)) (λ c low. refl) (λ c low. refl) p.sized (λ c low. same-refl (bag_of c core.net.links)) p.sane

  forced-plays : (later : Content) → later.blocks ≡ disk.blocks → Plays count steps blocks core.net.links core.net.masters (slice_set insts n.plan.me (inst_forced n)) later
  forced-plays later same =
      subst (λ (all : List Inst). Plays count steps blocks core.net.links core.net.masters all later) (set-set insts n.plan.me learns (inst_forced n))
      (thread-plays count steps blocks core (slice_set insts n.plan.me learns) disk learns-plays learns (set-here insts n.plan.me n learns at) later same)

  pub force-plays : (how : Appended) (old new : State) → how ≡ WholeAppended → old.told ≡ Some disk → ForcesAs n.thread n.plan.me how old new
      → (later : Content) × (new.told ≡ Some later) × Plays count steps blocks (force_told n core how).net.links core.net.masters (slice_set insts n.plan.me (forced_as n how)) later
  force-plays how old new well told left =
      let was : ForcesAs n.thread n.plan.me WholeAppended old new = subst (λ (x : Appended). ForcesAs n.thread n.plan.me x old new) well left in
      let now = after-append disk n.thread.number n.thread.waiting new.told (subst (λ (o : Option Content). WhereTold o new.told (Leaves (PutBehind n.thread.number n.thread.waiting) done)) told was.disk) in
      let later : Content = with_log disk n.thread.number (log_at disk n.thread.number ++ n.thread.waiting) in
      subst (λ (x : Appended). (later : Content) × (new.told ≡ Some later) × Plays count steps blocks (force_told n core x).net.links core.net.masters (slice_set insts n.plan.me (forced_as n x)) later) (sym well)
      (later, now, forced-plays later refl)
