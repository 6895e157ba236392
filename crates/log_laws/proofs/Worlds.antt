-- The logs are right in each world of a run.
use Rattle.std.proofs.Common.{◌≡◌, ℕ, zero, suc, ◌+◌, ◌≤◌, true, List, [], ◌∷◌, length, map, Some, slice_get, refl, sym, ap, subst, ◌∙◌, arith}
use Rattle.std.specs.Prelude.{IfSome, slice_set}
use Rattle.std.proofs.lemmas.Option.{none-some, same_Some}
use Rattle.rand_pcg.specs.Lcg.{Lcg}
use Rattle.rac_disk.specs.State.{State}
use Rattle.inst_state.specs.declared.inst.Inst.{Inst}
use Rattle.inst_state.specs.declared.shared.Core.{Core}
use Rattle.inst_node.specs.declared.actions.Action.{Action}
use Rattle.inst_node.specs.declared.actions.Action.TheVariants.{Block, Dead, Inst as OfInst, Line, Plain, Session}
use Rattle.inst_node.specs.declared.actions.Step.{Step}
use Rattle.inst_node.specs.declared.hows.How.{How}
use Rattle.inst_node.specs.Moves.{DiskAfter, core_after, counted, part_after, prepared}
use Rattle.inst_node.specs.Made.{record_made}
use Rattle.inst_node.specs.Needs.{needs}
use Rattle.rac_disk.specs.Content.{Content}
use Rattle.redo_record.specs.Redo.{IsRedo}
use Rattle.world_machine.specs.declared.worlds.World.{World}
use Rattle.world_machine.specs.Runs.{IsRun}
use Rattle.run_laws.proofs.RunLemmas.{Made, made_of}
use Rattle.log_laws.proofs.ByKind.{block_keeps, dead_keeps, inst_keeps, line_keeps, plain_keeps, session_keeps}
use Rattle.log_laws.proofs.Cluster.{Logs, Own, Shared, files_of, own_of, shared_of}
use Rattle.log_laws.proofs.Sets.{get_set, set_twice}
use Rattle.log_laws.proofs.Epochs.{step_slow}
use Rattle.log_laws.proofs.Facts.{counted_shared, dead_may, line_may, plain_may, prepared_eases, session_may, thread_may}
use Rattle.log_laws.proofs.Keeps.{HoldsAt, Keeps, and_on, eased_logs}
use Rattle.log_laws.proofs.Leaving.{IsSmall}

-- a step

ready_keeps : (n : Inst) (core : Core) (action : Action) (it : How) (old new : State) → needs n core action ≡ true
    → IfSome (record_made (prepared n core action) action) IsRedo → DiskAfter n core action it old new
    → Keeps (prepared n core action) (part_after n core action it) (counted core n.plan.me action) (core_after n core action it) old new
ready_keeps n core (Session kind z) it old new may redo disk =
    session_keeps (prepared n core (Session kind z)) (counted core n.plan.me (Session kind z)) kind z it old new (session_may n core kind z may redo) disk
ready_keeps n core (Dead kind job) it old new may redo disk =
    dead_keeps (prepared n core (Dead kind job)) (counted core n.plan.me (Dead kind job)) kind job old new (dead_may n core kind job may redo) disk
ready_keeps n core (Block kind number) it old new may redo disk =
    block_keeps (prepared n core (Block kind number)) (counted core n.plan.me (Block kind number)) kind number it old new disk
ready_keeps n core (OfInst kind from) it old new may redo disk =
    inst_keeps (prepared n core (OfInst kind from)) (counted core n.plan.me (OfInst kind from)) kind from it old new (thread_may n core kind from may) disk
ready_keeps n core (Line kind number) it old new may redo disk =
    line_keeps (prepared n core (Line kind number)) (counted core n.plan.me (Line kind number)) kind number it old new (line_may n core kind number may) disk
ready_keeps n core (Plain kind) it old new may redo disk =
    plain_keeps (prepared n core (Plain kind)) (counted core n.plan.me (Plain kind)) kind it old new (plain_may n core kind may) disk

step_keeps : (n : Inst) (core : Core) (action : Action) (it : How) (old new : State) → needs n core action ≡ true
    → IfSome (record_made (prepared n core action) action) IsRedo → DiskAfter n core action it old new → Keeps n (part_after n core action it) core (core_after n core action it) old new
step_keeps n core action it old new may redo disk owns i at small holds =
    let ready = prepared n core action in
    let part = part_after n core action it in
    let eased = and_on (λ (c : Content). Logs (shared_of core) owns (files_of c)) (λ (c : Content). Logs (shared_of core) (slice_set owns i (own_of ready)) (files_of c)) old.told
    (λ c logs. eased_logs (shared_of core) (files_of c) owns i n ready (prepared_eases n core action) at logs) holds in
    subst (λ (l : List Own). HoldsAt (shared_of (core_after n core action it)) l new.told) (set_twice owns i (own_of ready) (own_of part))
    (ready_keeps n core action it old new may redo disk (slice_set owns i (own_of ready)) i (get_set owns i (own_of ready) (own_of n) at) small
    (subst (λ (s : Shared). HoldsAt s (slice_set owns i (own_of ready)) old.told) (sym (counted_shared core n.plan.me action)) eased))

map_set : (l : List Inst) (i : ℕ) (m : Inst) → map own_of (slice_set l i m) ≡ slice_set (map own_of l) i (own_of m)
map_set [] i m = refl
map_set (n ∷ l) zero m = refl
map_set (n ∷ l) (suc i) m = ap (λ (x : List Own). own_of n ∷ x) (map_set l i m)

pub map_get : (l : List Inst) (i : ℕ) (n : Inst) → slice_get l i ≡ Some n → slice_get (map own_of l) i ≡ Some (own_of n)
map_get [] i n e = absurd (none-some n e)
map_get (m ∷ l) zero n e = ap (λ (x : Inst). Some (own_of x)) (same_Some m n e)
map_get (m ∷ l) (suc i) n e = map_get l i n e

pub get_map : (l : List Inst) (i : ℕ) (o : Own) → slice_get (map own_of l) i ≡ Some o → (n : Inst) × (slice_get l i ≡ Some n) × (o ≡ own_of n)
get_map [] i o e = absurd (none-some o e)
get_map (m ∷ l) zero o e = (m, refl, sym (same_Some (own_of m) o e))
get_map (m ∷ l) (suc i) o e = get_map l i o e

-- The logs are right in a world, and the disk tells them.
abbrev pub Holds : World → State → Type 0
Holds w disk = HoldsAt (shared_of w.core) (map own_of w.insts) disk.told

made_holds : (old : World) (disk : State) (step : Step) (new : World) (disk_now : State) → Made old disk step new disk_now → IsSmall new.core.members.epoch
    → Holds old disk → Holds new disk_now
made_holds old disk step new disk_now m small holds =
    let part = part_after m.n old.core step.action m.how in
    let core = core_after m.n old.core step.action m.how in
    let after = step_keeps m.n old.core step.action m.how disk disk_now m.needs m.moved.redo m.moved.left (map own_of old.insts) step.inst (map_get old.insts step.inst m.n m.at)
    (subst (λ (c : Core). IsSmall c.members.epoch) m.moved.core small) holds in
    let insts : map own_of new.insts ≡ slice_set (map own_of old.insts) step.inst (own_of part) = ap (map own_of) m.moved.insts ∙ map_set old.insts step.inst part in
    subst (λ (l : List Own). HoldsAt (shared_of new.core) l disk_now.told) (sym insts)
    (subst (λ (c : Core). HoldsAt (shared_of c) (slice_set (map own_of old.insts) step.inst (own_of part)) disk_now.told) (sym m.moved.core) after)

-- the membership changes at most once a step
made_slow : (old : World) (disk : State) (step : Step) (new : World) (disk_now : State) → Made old disk step new disk_now
    → new.core.members.epoch ≤ old.core.members.epoch + 1
made_slow old disk step new disk_now m =
    subst (λ (c : Core). c.members.epoch ≤ old.core.members.epoch + 1) (sym m.moved.core) (step_slow m.n old.core step.action m.how)

-- a run in which the membership can't have changed so often that its count stands still
pub run_holds : (g : Lcg) (old : World) (disk : State) (book : List Step) (h : Lcg) (new : World) (disk_now : State) → IsRun g old disk book h new disk_now
    → IsSmall (old.core.members.epoch + length book) → Holds old disk → Holds new disk_now
run_holds g old disk [] h new disk_now run small holds =
    subst (λ (w : World). Holds w disk_now) (sym run.1) (subst (λ (d : State). Holds old d) (sym run.2) holds)
run_holds g old disk (step ∷ book) h new disk_now run small holds =
    let m = made_of old disk step run.1 run.2 run.4 in
    let slow = made_slow old disk step run.1 run.2 m in
    run_holds run.0 run.1 run.2 book h new disk_now run.5 (omega (arith, slow, small)) (made_holds old disk step run.1 run.2 m (omega (arith, slow, small)) holds)
