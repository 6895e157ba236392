-- A turn of all blocks is a turn at each: a step at one block is, at each other, a rise of a clock and of what is on disk.
use Rattle.std.proofs.Common.{◌≡◌, ℕ, ◌+◌, ◌≤◌, true, false, refl, sym, subst, arith}
use Rattle.std.specs.Prelude.{None}
use Rattle.std.specs.List.{AllByRecursion}
use Rattle.block_protocol.specs.Block.{Block, put}
use Rattle.block_protocol.specs.Steps.{Step, changes, writes, forces, uses, uses_copy, drops_copy, raises}
use Rattle.block_protocol.specs.Crash.{left_over}
use Rattle.block_protocol.specs.Members.{Phase, Frozen, Thawed, Running, Members, Cluster, ComesToDisk, IsStill, IsBound, actual_after, after_loss}
use Rattle.block_protocol.specs.Turns.{IsEra, Turn, acts, hears, stirs, loses, joins, reports, rebuilds, closes, thaws, checks, reopens, resumes}
use Rattle.block_protocol.specs.ClusterRuns.{Turns, ends_here, goes_on}
use Rattle.block_protocol.specs.Invariant.{Holds, Invariant}
use Rattle.block_protocol.specs.AllBlocks.{AllBlocks, seen, view, after_step, all_forced, TurnOfAll, one_acts, one_stirs, one_rebuilds, all_force, all_lose, all_join, all_report, all_close, all_thaw, all_check, all_reopen, all_resume, first_of_all, RunOfAll, all_end, all_go}
use Rattle.block_protocol.proofs.Basics.{put-elim}
use Rattle.block_protocol.proofs.Waits.{loses-above}
use Rattle.block_protocol.proofs.Phases.{core-in}
use Rattle.block_protocol.proofs.ClusterClaims.{Holds-first, Located-first, Holds-turns, Located-turns}

stays-frozen : (w : Cluster) (m : Members) (later clock : ℕ → ℕ) → m.phase ≡ Frozen → ComesToDisk m.live m.unclosed m.actual m.found later → Turns (seen m clock w) (seen (record m { phase = Frozen; found = later }) clock w)
stays-frozen w m later clock e rises = subst (λ p. Turns (seen m clock w) (seen (record m { phase = p; found = later }) clock w)) e (goes_on (hears (seen m clock w) later rises) (ends_here _))

-- a step at one block is a rise of a clock and of what is on disk at another
pub acts-beside : (w : Cluster) (m : Members) (later : ℕ → ℕ) {s t : Block} (step : Step s t) → IsEra m.phase → ComesToDisk m.live m.unclosed m.actual m.found later
    → Turns (seen m s.clock w) (seen (record m { found = later; actual = actual_after step m.actual }) t.clock w)
acts-beside w m later (changes s i f image mode) era rises =
    goes_on (acts (seen m s.clock w) _ later (raises (record w.block { clock = s.clock }) i (s.clock i + 1) (omega arith)) era rises tt tt) (ends_here _)
acts-beside w m later (raises s i scn le) era rises =
    goes_on (acts (seen m s.clock w) _ later (raises (record w.block { clock = s.clock }) i scn le) era rises tt tt) (ends_here _)
acts-beside w m later step era rises = goes_on (hears (seen m _ w) later rises) (ends_here _)

pub stirs-beside : (w : Cluster) (m : Members) (later : ℕ → ℕ) {s t : Block} (step : Step s t) → m.phase ≡ Frozen → ComesToDisk m.live m.unclosed m.actual m.found later → IsStill m.live m.reported step
    → Turns (seen m s.clock w) (seen (record m { phase = Frozen; found = later; actual = actual_after step m.actual }) t.clock w)
stirs-beside w m later (changes s i f image mode) e rises free =
    goes_on (stirs (seen m s.clock w) _ later (raises (record w.block { clock = s.clock }) i (s.clock i + 1) (omega arith)) e rises tt tt) (ends_here _)
stirs-beside w m later (writes s i f image dirty forced) e rises free = stays-frozen w m later s.clock e rises
stirs-beside w m later (forces s i) e rises free = stays-frozen w m later s.clock e rises
stirs-beside w m later (uses s i f scn image le) e rises free = stays-frozen w m later s.clock e rises
stirs-beside w m later (uses_copy s i scn x rest takes le) e rises free = stays-frozen w m later s.clock e rises
stirs-beside w m later (drops_copy s i x rest takes) e rises free = stays-frozen w m later s.clock e rises
stirs-beside w m later (raises s i scn le) e rises free =
    goes_on (stirs (seen m s.clock w) _ later (raises (record w.block { clock = s.clock }) i scn le) e rises tt tt) (ends_here _)
stirs-beside w m later step e rises free = absurd free

-- whichever records an instance leaves, told by the SCN of the last one that came to disk: a turn at each block
pub crash-at : (w : Cluster) (i z scn bound : ℕ) (later : ℕ → ℕ) → Holds w → w.members.live i ≡ true → ComesToDisk (put w.members.live i false) w.members.unclosed w.members.actual w.members.found later
    → AllByRecursion (λ r. r.maker ≡ i → r.scn ≤ later i) (left_over i z w.block.records) → IsBound (put w.members.live i false) (put w.members.actual i scn) later bound
    → Turn w (record w {
      members = record w.members { phase = Frozen; live = put w.members.live i false; reported = λ j. false; unclosed = put w.members.unclosed i true; found = later; actual = put w.members.actual i scn };
      block = after_loss w.block w.members.actual i (left_over i z w.block.records) bound scn;
      mine = put w.mine i None;
      rebuilt = false;
    })
crash-at w i z scn bound later h up rises stamps b =
    let c = core-in w w.members.phase h in
    let x = loses-above w.block i z c.directory c.order.board c.lasting.waits in
    loses w i scn bound x.0 (left_over i z w.block.records) later up x.1 rises stamps b

-- an update at one block
at-one : (m : AllBlocks) (members : Members) (clock : ℕ → ℕ) (b : ℕ) (after : Cluster) → Turns (view m b) (seen members clock after) → ((c : ℕ) → Turns (view m c) (seen members clock (m.blocks c)))
    → (c : ℕ) → Turns (view m c) (seen members clock (put m.blocks b after c))
at-one m members clock b after here others c = put-elim (λ x. Turns (view m c) (seen members clock x)) m.blocks b after c
    (λ same. subst (λ d. Turns (view m d) (seen members clock after)) same here) (λ ne. others c)

in-era : (m : AllBlocks) (i : ℕ) (later : ℕ → ℕ) → ComesToDisk m.members.live m.members.unclosed m.members.actual m.members.found later → (b : ℕ)
    → AllByRecursion (λ r. r.maker ≡ i → r.scn ≤ later i) (m.blocks b).block.records → (p : Phase) → IsEra p → m.members.phase ≡ p
    → Turns (view m b) (seen (record m.members { phase = p; found = later }) m.clock (all_forced m i b))
in-era m i later comes b stamps p era e = subst (λ q. Turns (view m b) (seen (record m.members { phase = q; found = later }) m.clock (all_forced m i b))) e
    (goes_on (acts (view m b) _ later (forces (view m b).block i) (subst (λ q. IsEra q) (sym e) era) comes stamps tt) (ends_here _))

forces-at : (m : AllBlocks) (i : ℕ) (later : ℕ → ℕ) → ComesToDisk m.members.live m.members.unclosed m.members.actual m.members.found later → (b : ℕ)
    → AllByRecursion (λ r. r.maker ≡ i → r.scn ≤ later i) (m.blocks b).block.records → (p : Phase) → m.members.phase ≡ p
    → Turns (view m b) (seen (record m.members { phase = p; found = later }) m.clock (all_forced m i b))
forces-at m i later comes b stamps Frozen e = goes_on (stirs (view m b) _ later (forces (view m b).block i) e comes stamps tt) (ends_here _)
forces-at m i later comes b stamps Thawed e = in-era m i later comes b stamps Thawed tt e
forces-at m i later comes b stamps Running e = in-era m i later comes b stamps Running tt e

pub turns-of-all : {m n : AllBlocks} → TurnOfAll m n → ((b : ℕ) → Invariant (view m b)) → (b : ℕ) → Turns (view m b) (view n b)
turns-of-all (one_acts m b t later step era comes permits awake) h c =
    at-one m (record m.members { found = later; actual = actual_after step m.members.actual }) t.clock b (after_step m b step)
    (goes_on (acts (view m b) t later step era comes permits awake) (ends_here _)) (λ c. acts-beside (m.blocks c) m.members later step era comes) c
turns-of-all (one_stirs m b t later step e comes permits free) h c =
    at-one m (record m.members { phase = Frozen; found = later; actual = actual_after step m.members.actual }) t.clock b (after_step m b step)
    (goes_on (stirs (view m b) t later step e comes permits free) (ends_here _)) (λ c. stirs-beside (m.blocks c) m.members later step e comes free) c
turns-of-all (one_rebuilds m b base v e led all none is x) h c =
    at-one m (record m.members { phase = Frozen }) m.clock b (record (view m b) { block = record (view m b).block { disk = v }; rebuilt = true })
    (goes_on (rebuilds (view m b) base v e led all none is x) (ends_here _)) (λ c. subst (λ p. Turns (view m c) (seen (record m.members { phase = p }) m.clock (m.blocks c))) e (ends_here _)) c
turns-of-all (all_force m i later comes stamps) h b = forces-at m i later comes b (stamps b) m.members.phase refl
turns-of-all (all_lose m i z scn bound later up comes stamps bounds) h b = goes_on (crash-at (view m b) i z scn bound later (h b).holds up comes (stamps b) bounds) (ends_here _)
turns-of-all (all_join m i scn bound down paced bounds) h b = goes_on (joins (view m b) i scn bound down paced bounds) (ends_here _)
turns-of-all (all_report m i e up own) h b = goes_on (reports (view m b) i e up (own b)) (ends_here _)
turns-of-all (all_close m t e led all ready dead came) h b = goes_on (closes (view m b) t e led all (ready b) dead came) (ends_here _)
turns-of-all (all_thaw m number next bound e led all ready none runs grants above) h b =
    goes_on (thaws (view m b) (number b) (next b) bound e led all (ready b) none runs (grants b) above) (ends_here _)
turns-of-all (all_check m i p up runs le next) h b = goes_on (checks (view m b) i p up runs (le b) next) (ends_here _)
turns-of-all (all_reopen m e) h b = goes_on (reopens (view m b) e) (ends_here _)
turns-of-all (all_resume m i e le) h b = goes_on (resumes (view m b) i e le) (ends_here _)

pub invariant-of-all : {m n : AllBlocks} → TurnOfAll m n → ((b : ℕ) → Invariant (view m b)) → (b : ℕ) → Invariant (view n b)
invariant-of-all turn h b =
    let run = turns-of-all turn h b in
    record { holds = Holds-turns run (h b).holds (h b).located; located = Located-turns run (h b).holds (h b).located }

pub invariant-of-run : {m n : AllBlocks} → RunOfAll m n → ((b : ℕ) → Invariant (view m b)) → (b : ℕ) → Invariant (view n b)
invariant-of-run (all_end m) h b = h b
invariant-of-run (all_go turn rest) h b = invariant-of-run rest (λ c. invariant-of-all turn h c) b

pub invariant-first : (n : ℕ) (master : ℕ → ℕ) (b : ℕ) → Invariant (view (first_of_all n master) b)
invariant-first n master b = record { holds = Holds-first n (master b); located = Located-first n (master b) }
