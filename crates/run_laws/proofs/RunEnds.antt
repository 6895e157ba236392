-- The disk counts the faults that end instances.
use Rattle.std.proofs.Common.{◌≡◌, ℕ, List, [], ◌++◌, ◌∙◌, refl, sym, subst, inl, inr, arith}
use Rattle.std.proofs.lemmas.List.{append_cancel_right}
use Rattle.rand_pcg.specs.Lcg.{Lcg}
use Rattle.rac_io.specs.Counts.{Rose}
use Rattle.rac_disk.specs.State.{State}
use Rattle.journal.specs.declared.entry.Entry.{Entry}
use Rattle.inst_node.specs.declared.actions.Step.{Step}
use Rattle.world_machine.specs.declared.worlds.World.{World}
use Rattle.world_machine.specs.Machine.{W}
use Rattle.world_machine.specs.Runs.{IsRun}
use Rattle.run_laws.specs.Ends.{AreEndsCounted, IsEndCounted, HasRisen, IsUnharmed, fault_ends_in}
use Rattle.run_laws.specs.Runs.{Adds}
use Rattle.run_laws.specs.Tells.{tells}
use Rattle.run_laws.proofs.Added.{adds_then, made_adds}
use Rattle.run_laws.proofs.Counts.{same_later, then_later}
use Rattle.run_laws.proofs.EndLists.{faults-append, faults_are_ends}
use Rattle.run_laws.proofs.EndsByKind.{step_ends}
use Rattle.run_laws.proofs.RunLemmas.{Made, made_of, run_keeps}
use Rattle.run_laws.proofs.Sums.{Counted, counted_more, none_counted, stayed}

-- the entries that were added are these alone
pub adds_alone : (old new : World) (es others : List Entry) → Adds old new es → Adds old new others → es ≡ others
adds_alone old new es others first second = append_cancel_right es others old.core.journal (sym first ∙ second)

made_ends : (old : World) (disk : State) (step : Step) (new : World) (disk_now : State) (m : Made old disk step new disk_now)
    → IsEndCounted (tells m.n old.core step.action m.how) disk disk_now
made_ends old disk step new disk_now m = step_ends m.n old.core step.action m.how disk disk_now m.moved.left

-- a step tells of one end at most, and a fault that ended an instance was counted
pub steps_count : (old : World) (disk : State) (step : Step) (new : World) (disk_now : State) → W old disk step new disk_now
    → (entries : List Entry) → Adds old new entries → IsEndCounted entries disk disk_now
steps_count old disk step new disk_now it entries adds =
    let m = made_of old disk step new disk_now it in
    subst (λ (es : List Entry). IsEndCounted es disk disk_now)
    (adds_alone old new (tells m.n old.core step.action m.how) entries (made_adds old disk step new disk_now m) adds)
    (made_ends old disk step new disk_now m)

-- after a run with faults counted comes one step more
ends_more : (es later : List Entry) (first mid last : State) → AreEndsCounted es first mid → IsEndCounted later mid last → AreEndsCounted (later ++ es) first last
ends_more es later first mid last before after =
    let few = faults_are_ends later in
    let one = after.one in
    record {
      later = then_later first mid last before.later after.later;
      counted = subst (λ (k : ℕ). Counted k first last) (sym (faults-append later es))
          (counted_more (fault_ends_in es) (fault_ends_in later) first mid last before.later after.later (omega arith) after.counted before.counted);
    }

-- what a run added, and that the ends in it were counted
run_added : (g : Lcg) (old : World) (disk : State) (book : List Step) (h : Lcg) (new : World) (disk_now : State)
    → IsRun g old disk book h new disk_now → (entries : List Entry) × Adds old new entries × AreEndsCounted entries disk disk_now
run_added g old disk book h new disk_now run =
    run_keeps (λ (w : World) (d : State). (entries : List Entry) × Adds old w entries × AreEndsCounted entries disk d)
    (λ w d step w' d' made so_far.
    let m = made_of w d step w' d' made in
    let later = tells m.n w.core step.action m.how in (
      later ++ so_far.0,
      adds_then old w w' so_far.0 later so_far.1 (made_adds w d step w' d' m),
      ends_more so_far.0 later disk d d' so_far.2 (made_ends w d step w' d' m),
    ))
    g old disk book h new disk_now run
    ([], refl, record { later = same_later disk disk refl; counted = inl (omega arith) })

-- in a run the faults that end instances are counted
pub runs_count : (g : Lcg) (old : World) (disk : State) (book : List Step) (h : Lcg) (new : World) (disk_now : State)
    → IsRun g old disk book h new disk_now → (entries : List Entry) → Adds old new entries → AreEndsCounted entries disk disk_now
runs_count g old disk book h new disk_now run entries adds =
    let all = run_added g old disk book h new disk_now run in
    subst (λ (es : List Entry). AreEndsCounted es disk disk_now) (adds_alone old new all.0 entries all.1 adds) all.2

-- where neither count rose nobody ended by a fault
pub calm_runs : (g : Lcg) (old : World) (disk : State) (book : List Step) (h : Lcg) (new : World) (disk_now : State)
    → IsRun g old disk book h new disk_now → (HasRisen disk disk_now → ⊥) → (entries : List Entry) → Adds old new entries → IsUnharmed entries disk disk_now
calm_runs g old disk book h new disk_now run calm entries adds =
    let ends = runs_count g old disk book h new disk_now run entries adds in
    record {
      none = none_counted (fault_ends_in entries) disk disk_now ends.later calm ends.counted;
      calm = record {
        faults = (stayed disk.faults disk_now.faults ends.later.faults (λ (rose : Rose disk.faults disk_now.faults). calm (inl rose))).0;
        full = (stayed disk.full disk_now.full ends.later.full (λ (rose : Rose disk.full disk_now.full). calm (inr rose))).0;
      };
    }
