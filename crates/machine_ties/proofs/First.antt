-- The first world plays the protocol of each block.
use Rattle.std.proofs.Common.{◌≡◌, ◌∙◌, ℕ, zero, suc, ◌+◌, ◌-◌, ◌/◌, ◌%◌, ◌<◌, ◌≤◌, Bool, true, false, cond, eqb, List, [], ◌∷◌, length, replicate, refl, sym, ap, subst, arith}
use Rattle.std.specs.Prelude.{is_some, map, nat_lt, Option, None, Some, slice_get, slice_index, slice_index_or}
use Rattle.std.specs.List.{list_all}
use Rattle.std.proofs.lemmas.Bool.{and_parts, eq-eqb, eqb-true, lt-ltb, ltb-true}
use Rattle.std.proofs.lemmas.List.{length-replicate}
use Rattle.std.proofs.lemmas.Option.{none-some, same_Some, slice_get_within}
use Rattle.base_types.specs.Layout.{segment_blocks}
use Rattle.base_types.specs.declared.layout.Layout.{Layout}
use Rattle.block_image.specs.Block.{block_bytes}
use Rattle.block_image.specs.Changes.{empty_block}
use Rattle.rac_disk.specs.Content.{Content}
use Rattle.wire_net.specs.declared.entry.Entry.{Entry}
use Rattle.wire_net.specs.declared.masters.Masters.{Masters}
use Rattle.wire_net.specs.declared.message.Packet.{Packet}
use Rattle.wire_net.specs.Entry.{empty_entry}
use Rattle.wire_net.specs.Links.{no_packets}
use Rattle.wire_net.specs.Masters.{all_buckets, dealt, master_of}
use Rattle.resource_dir.specs.Directory.{bucket_of, entry_in, entry_of}
use Rattle.resource_dir.specs.Rebuilt.{rebuilt_at, rebuilt_bucket, rebuilt_directory}
use Rattle.buffer_cache.specs.declared.place.Place.{Place}
use Rattle.buffer_cache.specs.Cache.{place_at}
use Rattle.buffer_cache.specs.Place.{empty_place}
use Rattle.script_text.specs.ScriptParts.{ScriptParts}
use Rattle.script_text.specs.WellFormed.{IsWellFormed}
use Rattle.inst_state.specs.declared.inst.Inst.{Inst}
use Rattle.inst_state.specs.declared.plan.Plan.{Plan}
use Rattle.inst_state.specs.declared.shared.Core.{Core}
use Rattle.inst_state.specs.Shared.{insts_below}
use Rattle.image_steps.specs.MasterTake.{is_master}
use Rattle.first_state.specs.Core.{first_core, first_net}
use Rattle.first_state.specs.Create.{IsNew, first_block, segment_block}
use Rattle.first_state.specs.Inst.{first_inst}
use Rattle.first_state.specs.Plan.{PlanParts, layout_of}
use Rattle.world_machine.specs.declared.worlds.World.{World}
use Rattle.cluster_run.specs.First.{IsFirst, IsFirstWorld}
use Rattle.line_laws.proofs.Worlds.{first_at_place}
use Rattle.block_protocol.specs.AllBlocks.{all_end, first_of_all}
use Rattle.block_protocol.specs.Runs.{start}
use Rattle.block_protocol.specs.Wire.{Wire}
use Rattle.block_protocol.proofs.Directory.{Sound-start}
use Rattle.protocol_ties.specs.Entries.{Shows}
use Rattle.protocol_ties.specs.Places.{IsPlaceOf}
use Rattle.protocol_ties.proofs.Links.{nothing-is-borne}
use Rattle.protocol_ties.proofs.Made.{directory-is-made-by-entries}
use Rattle.protocol_ties.proofs.Places.{no-cache-has-new-block}
use Rattle.protocol_ties.proofs.Reports.{new-block-is-shown}
use Rattle.holder_ties.specs.Shown.{Holdings, IsShown}
use Rattle.machine_ties.specs.InstPlaces.{place_in, place_of}
use Rattle.machine_ties.specs.Plays.{Follows, IsFine, IsOnDisk, Plays, Serves, clock_in, clock_of, newest}
use Rattle.machine_ties.proofs.Links.{no-packets-sane}

-- a list of one value has it everywhere
same-at : {A : Type 0} (a : A) (n i : ℕ) → slice_index_or (replicate n a) i a ≡ a
same-at a zero i = refl
same-at a (suc n) zero = refl
same-at a (suc n) (suc i) = same-at a n i

-- ---- the buckets that an instance masters

-- numbers that are counted from one on
abbrev AreCounted : ℕ → List ℕ → Type 0
AreCounted from [] = Unit {0}
AreCounted from (x ∷ xs) = (x ≡ from) × AreCounted (from + 1) xs

counted-at : {A : Type 0} (f : ℕ → Option A) (from : ℕ) (xs : List ℕ) (i : ℕ) → AreCounted from xs → i < length xs → slice_index_or (map f xs) i None ≡ f (from + i)
counted-at f from [] i are low = absurd (omega (arith, low))
counted-at f from (x ∷ xs) zero are low = ap f (are.0 ∙ omega arith)
counted-at f from (x ∷ xs) (suc i) are low = counted-at f (from + 1) xs i are.1 (omega (arith, low)) ∙ ap f (omega arith)

bucket-there : (me : ℕ) (masters : Masters) (bucket : ℕ) → bucket < 16 → bucket_of (rebuilt_directory me masters []) bucket ≡ rebuilt_at me masters [] bucket
bucket-there me masters bucket low =
    counted-at (rebuilt_at me masters []) 0 all_buckets bucket (refl, (refl, (refl, (refl, (refl, (refl, (refl, (refl, (refl, (refl, (refl, (refl, (refl, (refl, (refl, (refl, tt)))))))))))))))) (omega (arith, low))
    ∙ ap (rebuilt_at me masters []) (omega arith)

master-again : (masters : Masters) (b : ℕ) → master_of masters (b % 16) ≡ master_of masters b
master-again masters b = ap (slice_index masters.by_bucket) (omega arith)

-- who masters a bucket is its master
bucket-own : (me : ℕ) (masters : Masters) (b : ℕ) → is_some (bucket_of (rebuilt_directory me masters []) (b % 16)) ≡ true → me ≡ master_of masters b
bucket-own me masters b is = go (eqb (master_of masters (b % 16)) me) refl (ap is_some (sym (bucket-there me masters (b % 16) (omega arith))) ∙ is)
  where
    go : (t : Bool) → eqb (master_of masters (b % 16)) me ≡ t → is_some (cond t (Some (rebuilt_bucket (b % 16) [])) None) ≡ true → me ≡ master_of masters b
    go true e some = sym (eqb-true (master_of masters (b % 16)) me e) ∙ master-again masters b
    go false e some = absurd (let no : false ≡ true = some in cc)

-- each entry that there is is that of a block that was never asked for
new-entry : (bucket place : ℕ) (entry : Entry) → slice_get (rebuilt_bucket bucket []) place ≡ Some entry → entry ≡ empty_entry
new-entry bucket zero entry is = sym (same_Some empty_entry entry is)
new-entry bucket (suc zero) entry is = sym (same_Some empty_entry entry is)
new-entry bucket (suc (suc zero)) entry is = sym (same_Some empty_entry entry is)
new-entry bucket (suc (suc (suc zero))) entry is = sym (same_Some empty_entry entry is)
new-entry bucket (suc (suc (suc (suc place)))) entry is = absurd (none-some entry is)

entry-new : (me : ℕ) (masters : Masters) (b : ℕ) (entry : Entry) → entry_of (rebuilt_directory me masters []) b ≡ Some entry → entry ≡ empty_entry
entry-new me masters b entry is =
    go (eqb (master_of masters (b % 16)) me) (ap (λ o. entry_in o (b / 16)) (sym (bucket-there me masters (b % 16) (omega arith))) ∙ is)
  where
    go : (t : Bool) → entry_in (cond t (Some (rebuilt_bucket (b % 16) [])) None) (b / 16) ≡ Some entry → entry ≡ empty_entry
    go true e = new-entry (b % 16) (b / 16) entry e
    go false e = absurd (none-some entry e)

-- ---- the masters to whom the buckets are dealt

-- of one instance up to eight
dealt-low : (count : ℕ) → 1 ≤ count → count ≤ 8 → list_all (λ m. nat_lt m count) (dealt (insts_below count)).by_bucket ≡ true
unfolding insts_below
dealt-low zero some few = absurd (omega (arith, some))
dealt-low (suc zero) some few = refl
dealt-low (suc (suc zero)) some few = refl
dealt-low (suc (suc (suc zero))) some few = refl
dealt-low (suc (suc (suc (suc zero)))) some few = refl
dealt-low (suc (suc (suc (suc (suc zero))))) some few = refl
dealt-low (suc (suc (suc (suc (suc (suc zero)))))) some few = refl
dealt-low (suc (suc (suc (suc (suc (suc (suc zero))))))) some few = refl
dealt-low (suc (suc (suc (suc (suc (suc (suc (suc zero)))))))) some few = refl
dealt-low (suc (suc (suc (suc (suc (suc (suc (suc (suc count))))))))) some few = absurd (omega (arith, few))

all-at : (t : ℕ → Bool) (xs : List ℕ) (i : ℕ) → list_all t xs ≡ true → i < length xs → t (slice_index xs i) ≡ true
all-at t [] i all low = absurd (omega (arith, low))
all-at t (x ∷ xs) zero all low = (and_parts (t x) (list_all t xs) all).0
all-at t (x ∷ xs) (suc i) all low = all-at t xs i (and_parts (t x) (list_all t xs) all).1 (omega (arith, low))

master-low : (count : ℕ) → 1 ≤ count → count ≤ 8 → (b : ℕ) → master_of (dealt (insts_below count)) b < count
master-low count some few b =
    let masters : Masters = dealt (insts_below count) in
    ltb-true (master_of masters b) count (all-at (λ m. nat_lt m count) masters.by_bucket (b % 16) (dealt-low count some few) (omega arith))

-- a data block of a new database
first-data : (layout : Layout) (b : ℕ) → b < layout.blocks → first_block layout b ≡ block_bytes (empty_block b)
first-data layout b low =
    ap (λ (t : Bool). cond t (block_bytes (empty_block b)) (segment_block b ((b - layout.blocks) / segment_blocks layout) ((b - layout.blocks) % segment_blocks layout))) (lt-ltb b layout.blocks low)

inst-there : (insts : List Inst) (i : ℕ) → i < length insts → (n : Inst) × (slice_get insts i ≡ Some n)
inst-there [] i low = absurd (omega (arith, low))
inst-there (n ∷ insts) zero low = (n, refl)
inst-there (n ∷ insts) (suc i) low = inst-there insts i (omega (arith, low))

-- ---- an instance of the first world

first-serves : (count blocks sessions i : ℕ) (masters : Masters) (plan : Plan) → i < count → plan.me ≡ i → plan.blocks ≡ blocks → Serves count blocks i (first_inst sessions masters plan)
first-serves count blocks sessions i masters plan low me size = record {
  low = low;
  me = me;
  up = refl;
  paused = refl;
  leads = refl;
  adopted = refl;
  sized = refl;
  passes = λ bucket to is. absurd (none-some to (sym (same-at {A = Option ℕ} None 16 bucket) ∙ is));
  cached = length-replicate plan.blocks empty_place ∙ size;
  numbers = λ c now held. absurd (none-some now (sym (ap (λ (p : Place). p.current) (same-at empty_place plan.blocks c)) ∙ held));
  reached = λ b. let nothing = same-at {A = ℕ} 0 64 b in omega (arith, nothing);
}

-- ---- the first world

module _ (script : ScriptParts) (core : Core) (insts : List Inst) (disk : Content) (fit : IsWellFormed script) (is : core ≡ first_core script) (sized : length insts ≡ script.settings.instances)
    (firsts : (i : ℕ) (n : Inst) → slice_get insts i ≡ Some n → IsFirst script (first_core script).net.masters i n) (new : IsNew (layout_of script) disk) where
  abbrev masters : Masters
  masters = dealt (insts_below script.settings.instances)

  few : script.settings.instances ≤ 8
  few = fit.settings_fit.few_instances

  links-are : core.net.links ≡ no_packets
  unfolding first_net
  links-are = ap (λ (c : Core). c.net.links) is

  masters-are : core.net.masters ≡ masters
  unfolding first_net
  masters-are = ap (λ (c : Core). c.net.masters) is

  low-master : (b : ℕ) → master_of masters b < script.settings.instances
  low-master b = master-low script.settings.instances fit.settings_fit.some_instances few b

  -- an instance, by its plan
  inst-is : (i : ℕ) (n : Inst) → slice_get insts i ≡ Some n → (plan : Plan) × (n ≡ first_inst (length script.names) masters plan) × (plan.me ≡ i) × (plan.blocks ≡ script.settings.blocks)
  unfolding first_net
  inst-is i n at = (n.plan, (firsts i n at).part, ap (λ (p : PlanParts). p.me) (firsts i n at).plan, ap (λ (p : PlanParts). p.blocks) (firsts i n at).plan)

  low-inst : (i : ℕ) (n : Inst) → slice_get insts i ≡ Some n → i < script.settings.instances
  low-inst i n at = let low : i < length insts = slice_get_within insts i n at in omega (arith, low, sized)

  -- nobody has anything of a block, and each clock shows nothing
  place-empty : (b i : ℕ) → place_in insts b i ≡ empty_place
  place-empty b i = go (slice_get insts i) refl
    where
      go : (o : Option Inst) → slice_get insts i ≡ o → place_of o b ≡ empty_place
      go None e = refl
      go (Some n) e = let k = inst-is i n e in ap (λ (x : Inst). place_at x.cache b) k.1 ∙ same-at empty_place k.0.blocks b

  clock-none : (i : ℕ) → 0 ≡ clock_in insts i
  clock-none i = go (slice_get insts i) refl
    where
      go : (o : Option Inst) → slice_get insts i ≡ o → 0 ≡ clock_of o
      go None e = refl
      go (Some n) e = sym (ap (λ (x : Inst). x.clock.scn) (inst-is i n e).1)

  first-held : ℕ → Holdings
  first-held b = record { places = place_in insts b; copies = λ i. []; clock = λ i. 0; records = []; disk = 0 }

  shown-first : (b : ℕ) → IsShown no_packets (first-held b) b empty_entry (start (master_of masters b))
  unfolding first-held
  shown-first b = record {
    sized = refl;
    sound = Sound-start (master_of masters b);
    shows = subst (λ (ws : List Wire). Shows ws empty_entry (start (master_of masters b))) (sym (nothing-is-borne b)) (new-block-is-shown (master_of masters b)).0;
    around = record {
      images = λ i. subst (λ (p : Place). IsPlaceOf None 0 false None p.current p.past) (sym (place-empty b i)) (no-cache-has-new-block (master_of masters b) i);
      unasked = λ i none. (refl, tt);
      copies = refl;
      clock = refl;
      records = refl;
      disk = refl;
    };
    upgrade = tt;
  }

  on-disk-first : (b : ℕ) → b < script.settings.blocks → IsOnDisk disk b 0
  on-disk-first b low = record {
    image = empty_block b;
    bytes = new.blocks b (omega (arith, low)) ∙ first-data (layout_of script) b low;
    numbered = refl;
  }

  follows-first : (b : ℕ) → b < script.settings.blocks → Follows no_packets insts disk (first_of_all script.settings.instances (master_of masters)) b
  unfolding first-held
  follows-first b low =
      let master : ℕ = master_of masters b in
      let there = inst-there insts master (let few = low-master b in omega (arith, few, sized)) in
      let k = inst-is master there.0 there.1 in
      record {
        entry = empty_entry;
        h = first-held b;
        shown = shown-first b;
        places = λ i. refl;
        on_disk = on-disk-first b low;
        master = master;
        seat = there.0;
        there = there.1;
        is_entry = ap (λ (x : Inst). entry_of x.mastering.directory b) k.1 ∙ ap (λ (me : ℕ). entry_of (rebuilt_directory me masters []) b) k.2 ∙ entry-here b (let few = fit.settings_fit.few_blocks in omega (arith, low, few));
        at_master = refl;
        only = λ i n at own. let l = inst-is i n at in bucket-own i masters b (subst (λ (me : ℕ). is_some (bucket_of (rebuilt_directory me masters []) (b % 16)) ≡ true) l.2 (subst (λ (x : Inst). is_master x b ≡ true) l.1 own));
        durable = λ i own. tt;
      }
    where
      entry-here : (c : ℕ) → c < 64 → entry_of (rebuilt_directory (master_of masters c) masters []) c ≡ Some empty_entry
      entry-here c few = directory-is-made-by-entries (master_of masters c) masters [] c few ∙ ap (λ t. cond t (Some empty_entry) None) (eq-eqb (master_of masters c) (master_of masters c) refl)

  pub first-plays : Plays script.settings.instances 0 script.settings.blocks core.net.links core.net.masters insts disk
  first-plays = subst (λ (m : Masters). Plays script.settings.instances 0 script.settings.blocks core.net.links m insts disk) (sym masters-are)
      (subst (λ (l : List (List Packet)). Plays script.settings.instances 0 script.settings.blocks l masters insts disk) (sym links-are)
      (record {
        whole = first_of_all script.settings.instances (master_of masters);
        first_master = master_of masters;
        run = all_end (first_of_all script.settings.instances (master_of masters));
        phase = refl;
        live = λ i low. lt-ltb i script.settings.instances low;
        awake = refl;
        few = few;
        sized = refl;
        each = λ i n at. let k = inst-is i n at in subst (λ (x : Inst). Serves script.settings.instances script.settings.blocks i x) (sym k.1) (first-serves script.settings.instances script.settings.blocks (length script.names) i masters k.0 (low-inst i n at) k.2 k.3);
        named = λ b. let low = low-master b in omega (arith, low, few);
        clocks = clock-none;
        sane = no-packets-sane (newest (first_of_all script.settings.instances (master_of masters)));
        made = λ b. omega arith;
        entries = λ i n b entry at it. let k = inst-is i n at in
            subst (λ (e : Entry). IsFine (newest (first_of_all script.settings.instances (master_of masters))) 0 b e)
            (sym (entry-new i masters b entry (sym (ap (λ (me : ℕ). entry_of (rebuilt_directory me masters []) b) k.2) ∙ sym (ap (λ (x : Inst). entry_of x.mastering.directory b) k.1) ∙ it)))
            (record { names = (tt, (new-block-is-shown 0).1); waits = tt; drawn = omega arith });
        follows = λ b low. follows-first b low;
      }))

-- the first world of a script, over a new database
pub first-world-plays : (script : ScriptParts) (w : World) (disk : Content) → IsWellFormed script → IsFirstWorld script w → IsNew (layout_of script) disk
    → Plays script.settings.instances 0 script.settings.blocks w.core.net.links w.core.net.masters w.insts disk
first-world-plays script w disk fit is new =
    first-plays script w.core w.insts disk fit is.core is.count (λ i n at. first_at_place script (first_core script).net.masters w.insts is.insts i n at) new
