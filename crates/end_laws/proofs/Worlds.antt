-- What a run leaves true of the ends that sessions wait for.
use Rattle.std.proofs.Common.{◌≡◌, ℕ, false, List, ◌++◌, replicate, length, Some, sym, ap, subst, ◌∙◌, ◌⊎◌, inl, inr}
use Rattle.std.specs.Prelude.{slice_get, slice_index_or, slice_set}
use Rattle.std.specs.List.{AllByRecursion}
use Rattle.std.proofs.lemmas.List.{append_cancel_right}
use Rattle.rand_pcg.specs.Lcg.{Lcg}
use Rattle.rac_disk.specs.State.{State}
use Rattle.journal.specs.declared.entry.Entry.{Entry}
use Rattle.journal.specs.Good.{AckIsProper}
use Rattle.journal.specs.Past.{Each, Past}
use Rattle.script_text.specs.ScriptParts.{ScriptParts}
use Rattle.inst_state.specs.declared.inst.Inst.{Inst}
use Rattle.inst_state.specs.declared.session.Session.{Session}
use Rattle.inst_state.specs.declared.shared.Core.{Core}
use Rattle.inst_state.specs.Sessions.{new_session}
use Rattle.first_state.specs.Core.{first_core}
use Rattle.inst_node.specs.declared.actions.Step.{Step}
use Rattle.inst_node.specs.Moves.{counted, part_after, prepared}
use Rattle.world_machine.specs.declared.worlds.World.{World}
use Rattle.world_machine.specs.Machine.{W}
use Rattle.world_machine.specs.Runs.{IsRun}
use Rattle.cluster_run.specs.First.{IsFirst, IsFirstWorld}
use Rattle.run_laws.specs.Runs.{Adds}
use Rattle.run_laws.specs.Tells.{tells}
use Rattle.run_laws.proofs.Added.{made_adds}
use Rattle.run_laws.proofs.RunLemmas.{Made, made_of, run_keeps}
use Rattle.line_laws.proofs.Worlds.{first_at_place, session_new, set_get}
use Rattle.inst_state.specs.declared.inst.WaitingEnd.{WaitingEnd}
use Rattle.end_laws.specs.Marked.{CommitIsMarked, EachAdded, is_log_read}
use Rattle.end_laws.proofs.Backs.{Backs, Honest, honest_on, stake_in}
use Rattle.end_laws.proofs.Honest.{IsHonest, Leaves, honest_kept, leave}
use Rattle.end_laws.proofs.Making.{did}
use Rattle.end_laws.proofs.Marks.{IsMarked, IsOwned, Owns, owned_as, owned_on, owns}
use Rattle.end_laws.proofs.Parts.{prepared_keeps}
use Rattle.end_laws.proofs.Stakes.{ledger, Stake, stake_is, stake_of, stakes, stmt_in}

-- what holds of the instance that made a step, and of each other one, holds of each
pub insts_kept : (P Q : ℕ → Inst → Type 0) (insts : List Inst) (i : ℕ) (m : Inst) → ((y : ℕ) (x : Inst) → slice_get insts y ≡ Some x → P y x) → Q i m
    → ((y : ℕ) (x : Inst) → (y ≡ i → ⊥) → P y x → Q y x) → (y : ℕ) (x : Inst) → slice_get (slice_set insts i m) y ≡ Some x → Q y x
insts_kept P Q insts i m was own others y x at = by (set_get insts i m y x at)
  where
    by : ((y ≡ i) × (x ≡ m)) ⊎ ((y ≡ i → ⊥) × (slice_get insts y ≡ Some x)) → Q y x
    by (inl is) = subst (λ (k : ℕ). Q k x) (sym is.0) (subst (λ (n : Inst). Q i n) (sym is.1) own)
    by (inr is) = others y x is.0 (was y x is.1)

-- What the sessions of each instance wait for is backed by the journal, and each answer of a commit is proper.
pub record Backed (w : World) : Type 0 where
  pub insts : (i : ℕ) (n : Inst) → slice_get w.insts i ≡ Some n → IsHonest n w.core.journal
  pub proper : Each AckIsProper w.core.journal

first_honest : (script : ScriptParts) (i : ℕ) (n : Inst) (past : Past) → IsFirst script (first_core script).net.masters i n → IsHonest n past
first_honest script i n past first =
    let count = length script.names in
    let sessions : n.sessions ≡ replicate count new_session = ap (λ (x : Inst). x.sessions) first.part in
    let ends = ap (λ (x : Inst). x.ends) first.part in
    let new : (z : ℕ) → stake_in (stakes n) z ≡ stake_of new_session =
    λ z. stake_is n z ∙ ap (λ (l : List Session). stake_of (slice_index_or l z new_session)) sessions ∙ ap stake_of (session_new count z) in
    subst (λ (l : List WaitingEnd). Honest n.plan l (stakes n) past) (sym ends) (record {
      backed = λ z. subst (λ (s : Stake). Backs past (stmt_in n.plan z s.next) s.awaits) (sym (new z)) tt;
      tied = tt;
    })

pub first_backed : (script : ScriptParts) (w : World) → IsFirstWorld script w → Backed w
first_backed script w first = record {
  insts = λ i n at. first_honest script i n w.core.journal (first_at_place script (first_core script).net.masters w.insts first.insts i n at);
  proper = subst (λ (c : Core). Each AckIsProper c.journal) (sym first.core) tt;
}

pub step_backed : (old : World) (disk : State) (step : Step) (new : World) (disk_now : State) → Made old disk step new disk_now → Backed old → Backed new
step_backed old disk step new disk_now made was =
    let n = made.n in
    let core = old.core in
    let action = step.action in
    let k = prepared n core action in
    let m = part_after n core action made.how in
    let es = tells n core action made.how in
    let told : new.core.journal ≡ es ++ core.journal = made_adds old disk step new disk_now made in
    let left : Leaves m (es ++ core.journal) =
    leave k (counted core n.plan.me action) (is_log_read action) m es core.journal (did n core action made.how disk disk_now made.needs made.moved.left)
    (honest_kept n k core.journal (prepared_keeps n core action) (was.insts step.inst n made.at)) was.proper in
    record {
      insts = λ y x at. subst (λ (j : Past). IsHonest x j) (sym told)
          (insts_kept (λ (i : ℕ) (x : Inst). IsHonest x core.journal) (λ (i : ℕ) (x : Inst). IsHonest x (es ++ core.journal)) old.insts step.inst m was.insts left.honest
          (λ y x apart it. honest_on x.plan x.ends (stakes x) es core.journal it) y x (subst (λ (l : List Inst). slice_get l y ≡ Some x) made.moved.insts at));
      proper = subst (λ (j : Past). Each AckIsProper j) (sym told) left.proper;
    }

-- what holds of each world of a run
pub run_backed : (script : ScriptParts) (g : Lcg) (first : World) (disk : State) (book : List Step) (h : Lcg) (w : World) (disk_now : State)
    → IsFirstWorld script first → IsRun g first disk book h w disk_now → Backed w
run_backed script g first disk book h w disk_now starts run =
    run_keeps (λ (v : World) (d : State). Backed v)
    (λ v d step u e made was. step_backed v d step u e (made_of v d step u e made) was)
    g first disk book h w disk_now run (first_backed script first starts)

-- Each instance's segment is its own, and its commits that wait for the disk are marked.
abbrev pub AreOwned : World → Type 0
AreOwned w = (i : ℕ) (n : Inst) → slice_get w.insts i ≡ Some n → IsOwned n w.core.journal

pub first_owned : (script : ScriptParts) (i : ℕ) (n : Inst) (past : Past) → IsFirst script (first_core script).net.masters i n → IsOwned n past
first_owned script i n past first = record {
  seg_is = ap (λ (x : Inst). x.segment.head.front.seg) first.part;
  marked = subst (λ (l : List WaitingEnd). AllByRecursion (IsMarked n.plan.me past) l) (sym (ap (λ (x : Inst). x.ends) first.part)) tt;
}

-- what a step of an instance tells and leaves, where its segment is its own
pub step_owns : (old : World) (disk : State) (step : Step) (new : World) (disk_now : State) (made : Made old disk step new disk_now) → AreOwned old
    → Owns (is_log_read step.action) (part_after made.n old.core step.action made.how) (tells made.n old.core step.action made.how) old.core.journal
step_owns old disk step new disk_now made was =
    let n = made.n in
    let core = old.core in
    let action = step.action in
    let k = prepared n core action in
    owns k (counted core n.plan.me action) (is_log_read action) (part_after n core action made.how) (tells n core action made.how) core.journal
    (did n core action made.how disk disk_now made.needs made.moved.left)
    (owned_as n (ledger k) core.journal (prepared_keeps n core action).same (was step.inst n made.at))

pub step_owned : (old : World) (disk : State) (step : Step) (new : World) (disk_now : State) → Made old disk step new disk_now → AreOwned old → AreOwned new
step_owned old disk step new disk_now made was y x at =
    let core = old.core in
    let es = tells made.n core step.action made.how in
    subst (λ (j : Past). IsOwned x j) (sym (made_adds old disk step new disk_now made))
    (insts_kept (λ (i : ℕ) (x : Inst). IsOwned x core.journal) (λ (i : ℕ) (x : Inst). IsOwned x (es ++ core.journal)) old.insts step.inst
    (part_after made.n core step.action made.how) was (step_owns old disk step new disk_now made was).owned
    (λ y x apart it. owned_on x.plan.me x.segment.head.front.seg x.ends es core.journal it) y x (subst (λ (l : List Inst). slice_get l y ≡ Some x) made.moved.insts at))

pub run_owned : (script : ScriptParts) (g : Lcg) (first : World) (disk : State) (book : List Step) (h : Lcg) (w : World) (disk_now : State)
    → IsFirstWorld script first → IsRun g first disk book h w disk_now → AreOwned w
run_owned script g first disk book h w disk_now starts run =
    run_keeps (λ (v : World) (d : State). AreOwned v)
    (λ v d step u e made was. step_owned v d step u e (made_of v d step u e made) was)
    g first disk book h w disk_now run
    (λ i n at. first_owned script i n first.core.journal (first_at_place script (first_core script).net.masters first.insts starts.insts i n at))

-- a step that reads no log of a dead thread tells only commits that were marked
pub step_marked : (script : ScriptParts) (g : Lcg) (first : World) (disk : State) (book : List Step) (h : Lcg) (w : World) (disk_now : State)
    → IsFirstWorld script first → IsRun g first disk book h w disk_now → (step : Step) (v : World) (disk_then : State) → W w disk_now step v disk_then
    → is_log_read step.action ≡ false → (entries : List Entry) → Adds w v entries → EachAdded CommitIsMarked entries w.core.journal
step_marked script g first disk book h w disk_now starts run step v disk_then it reads entries adds =
    let made = made_of w disk_now step v disk_then it in
    let es = tells made.n w.core step.action made.how in
    subst (λ (l : List Entry). EachAdded CommitIsMarked l w.core.journal)
    (append_cancel_right es entries w.core.journal (sym (made_adds w disk_now step v disk_then made) ∙ adds))
    ((step_owns w disk_now step v disk_then made (run_owned script g first disk book h w disk_now starts run)).entered reads)
