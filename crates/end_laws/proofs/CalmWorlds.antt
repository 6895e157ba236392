-- What a run in which no instance is lost leaves true of transactions.
use Rattle.std.proofs.Common.{◌≡◌, ℕ, ◌<◌, ◌≤◌, Bool, true, false, not, List, [], ◌++◌, length, replicate, get_or, zero, suc, Some, refl, sym, ap, subst, ◌∙◌, inl, inr, arith}
use Rattle.std.specs.Prelude.{slice_get}
use Rattle.std.proofs.Math.Nat.{le_refl}
use Rattle.std.proofs.lemmas.Bool.{lt-ltb}
use Rattle.inst_set.specs.Sets.{has}
use Rattle.base_types.specs.declared.names.Xid.{Xid}
use Rattle.rand_pcg.specs.Lcg.{Lcg}
use Rattle.rac_disk.specs.State.{State}
use Rattle.undo_image.specs.Header.{never_slot}
use Rattle.undo_segment.specs.Begin.{next_xid}
use Rattle.recovery.specs.declared.members.Membership.{Membership}
use Rattle.journal.specs.Good.{AckIsProper, CommitIsProper}
use Rattle.journal.specs.Past.{Each, Past}
use Rattle.journal.specs.Stood.{stood}
use Rattle.script_text.specs.ScriptParts.{ScriptParts}
use Rattle.script_text.specs.WellFormed.{IsWellFormed}
use Rattle.inst_state.specs.declared.inst.Inst.{Inst}
use Rattle.inst_state.specs.declared.plan.Plan.{Plan}
use Rattle.inst_state.specs.declared.shared.Core.{Core}
use Rattle.inst_state.specs.Shared.{insts_below, is_live, is_running}
use Rattle.first_state.specs.Core.{first_core, first_members}
use Rattle.first_state.specs.Plan.{PlanParts}
use Rattle.inst_node.specs.declared.actions.Step.{Step}
use Rattle.inst_node.specs.Moves.{core_of, counted, part_after, prepared}
use Rattle.world_machine.specs.declared.worlds.World.{World}
use Rattle.world_machine.specs.Runs.{IsRun}
use Rattle.cluster_run.specs.First.{IsFirst, IsFirstWorld}
use Rattle.run_laws.specs.Tells.{tells}
use Rattle.run_laws.proofs.Added.{made_adds}
use Rattle.run_laws.proofs.RunLemmas.{Made, made_of, run_keeps}
use Rattle.line_laws.proofs.Worlds.{Lines, first_at_place, first_lines, step_made}
use Rattle.end_laws.specs.Calm.{is_calm, is_loss}
use Rattle.end_laws.specs.Marked.{is_log_read}
use Rattle.end_laws.specs.Names.{names}
use Rattle.end_laws.proofs.Backs.{stood_on}
use Rattle.end_laws.proofs.Calmly.{CalmAs, Goes, IsCalm, calm_on, go, next_above}
use Rattle.end_laws.proofs.Counted.{has_wraps}
use Rattle.end_laws.proofs.Did.{IsUnrest, Keeps}
use Rattle.end_laws.proofs.Making.{did, if_made}
use Rattle.end_laws.proofs.Marks.{IsOwned, owned_as}
use Rattle.end_laws.proofs.Members.{Calmly, Steady, lossy, members_by, same}
use Rattle.end_laws.proofs.Parts.{prepared_keeps}
use Rattle.end_laws.proofs.Slots.{begins_of}
use Rattle.end_laws.proofs.Sound.{above_unnamed, not_so}
use Rattle.end_laws.proofs.Stakes.{Ledger, ledger}
use Rattle.end_laws.proofs.Worlds.{AreOwned, Backed, first_backed, first_owned, insts_kept, step_backed, step_owned}

-- The members are those of the first world.
abbrev pub AreWhole : ScriptParts → Membership → Type 0
AreWhole script members = members ≡ first_members (insts_below script.settings.instances)

-- No instance was lost: all are members, each one's transactions are as the journal says, and each commit is proper.
pub record CalmWorld (script : ScriptParts) (w : World) : Type 0 where
  pub members : AreWhole script w.core.members
  pub insts : (i : ℕ) (n : Inst) → slice_get w.insts i ≡ Some n → IsCalm n w.core.journal
  pub proper : Each CommitIsProper w.core.journal

-- the first world

first_wraps : (count k : ℕ) → (get_or (replicate count never_slot) k never_slot).wrap ≤ 0
first_wraps zero k = omega arith
first_wraps (suc count) zero = omega arith
first_wraps (suc count) (suc k) = first_wraps count k

first_calm : (script : ScriptParts) (i : ℕ) (n : Inst) → IsFirst script (first_core script).net.masters i n → IsCalm n []
first_calm script i n first = subst (λ (x : Inst). IsCalm x []) (sym first.part) (record {
  leads_not = refl;
  sound = record {
    named = λ x seg is. absurd (let no : false ≡ true = is in cc);
    committed = λ x seg is. absurd (let no : false ≡ true = is in cc);
    used = λ c is. absurd (let no : false ≡ true = is in cc);
    ready = tt;
    apart = tt;
  };
  wraps = λ k. first_wraps 8 k;
})

first_world : (script : ScriptParts) (w : World) → IsFirstWorld script w → CalmWorld script w
first_world script w first = record {
  members = ap (λ (c : Core). c.members) first.core;
  insts = λ i n at. subst (λ (c : Core). IsCalm n c.journal) (sym first.core)
      (first_calm script i n (first_at_place script (first_core script).net.masters w.insts first.insts i n at));
  proper = subst (λ (c : Core). Each CommitIsProper c.journal) (sym first.core) tt;
}

-- a step

pub calm_kept : (n m : Inst) (past : Past) → Keeps n m → IsCalm n past → IsCalm m past
calm_kept n m past kept was =
    subst (λ (l : Ledger). CalmAs l m.clock.scn past) (sym kept.same) (calm_on (ledger n) n.clock.scn m.clock.scn [] past kept.clock tt was)

below_has : (n y : ℕ) → y < n → y < 8 → has (insts_below n) y ≡ true
unfolding insts_below
below_has n zero less few = lt-ltb 0 n less
below_has n (suc zero) less few = lt-ltb 1 n less
below_has n (suc (suc zero)) less few = lt-ltb 2 n less
below_has n (suc (suc (suc zero))) less few = lt-ltb 3 n less
below_has n (suc (suc (suc (suc zero)))) less few = lt-ltb 4 n less
below_has n (suc (suc (suc (suc (suc zero))))) less few = lt-ltb 5 n less
below_has n (suc (suc (suc (suc (suc (suc zero)))))) less few = lt-ltb 6 n less
below_has n (suc (suc (suc (suc (suc (suc (suc zero))))))) less few = lt-ltb 7 n less
below_has n (suc (suc (suc (suc (suc (suc (suc (suc y)))))))) less few = absurd (omega arith)

-- where all instances are members and the cluster runs, none recovers
pub rests_not : (script : ScriptParts) (core : Core) (me : ℕ) → AreWhole script core.members → me < script.settings.instances → me < 8 → IsUnrest core me → ⊥
rests_not script core me whole less few (inl is) =
    let runs : is_running core.members.phase ≡ true = ap (λ (m : Membership). is_running m.phase) whole in
    let no : true ≡ false = sym runs ∙ is in cc
rests_not script core me whole less few (inr is) =
    let lives : is_live core me ≡ true = ap (λ (m : Membership). has m.live me) whole ∙ below_has script.settings.instances me less few in
    let no : true ≡ false = sym lives ∙ is in cc

steady_members : (core now : Core) → stood is_loss now.journal ≡ false → Steady core now → now.members ≡ core.members
steady_members core now calm (same e) = e
steady_members core now calm (lossy is) = absurd (let no : true ≡ false = sym is ∙ calm in cc)

calm_members : (n : Inst) (core now : Core) → stood is_loss now.journal ≡ false → (IsUnrest core n.plan.me → ⊥) → Calmly n core now → now.members ≡ core.members
calm_members n core now calm rest (inl steady) = steady_members core now calm steady
calm_members n core now calm rest (inr unrest) = absurd (rest unrest)

-- What is known of each world of a run.
pub record Known (script : ScriptParts) (w : World) : Type 0 where
  pub lines : Lines script w
  pub backed : Backed w
  pub owned : AreOwned w
  pub calm : stood is_loss w.core.journal ≡ false → CalmWorld script w

step_calm : (script : ScriptParts) (old : World) (disk : State) (step : Step) (new : World) (disk_now : State) → IsWellFormed script → Made old disk step new disk_now
    → Known script old → Backed new → stood is_loss new.core.journal ≡ false → CalmWorld script new
unfolding counted
step_calm script old disk step new disk_now fit made was backed calm =
    let n = made.n in
    let i = step.inst in
    let core = old.core in
    let action = step.action in
    let k = prepared n core action in
    let now = counted core n.plan.me action in
    let m = part_after n core action made.how in
    let es = tells n core action made.how in
    let told : new.core.journal ≡ es ++ core.journal = made_adds old disk step new disk_now made in
    let calm_now : stood is_loss (es ++ core.journal) ≡ false = subst (λ (j : Past). stood is_loss j ≡ false) told calm in
    let calm_old : stood is_loss core.journal ≡ false =
    not_so (stood is_loss core.journal) (λ is. (let no : true ≡ false = sym (stood_on is_loss es core.journal is) ∙ calm_now in cc)) in
    let before : CalmWorld script old = was.calm calm_old in
    let kept = prepared_keeps n core action in
    let plan : k.plan ≡ n.plan = ap (λ (l : Ledger). l.plan) kept.same in
    let at = was.lines.insts i n made.at in
    let me : n.plan.me ≡ i = ap (λ (p : PlanParts). p.me) at.plan in
    let mine : k.plan.me ≡ i = ap (λ (p : Plan). p.me) plan ∙ me in
    let within : i < length old.insts = made.within in
    let count : length old.insts ≡ script.settings.instances = was.lines.count in
    let eight : script.settings.instances ≤ 8 = fit.settings_fit.few_instances in
    let rest : IsUnrest now k.plan.me → ⊥ = rests_not script now k.plan.me before.members (omega (arith, mine, within, count)) (omega (arith, mine, within, count, eight)) in
    let calm_k : IsCalm k core.journal = calm_kept n k core.journal kept (before.insts i n made.at) in
    let owned : IsOwned k core.journal = owned_as n (ledger k) core.journal kept.same (was.owned i n made.at) in
    let goes : Goes k.plan.me m es core.journal =
    go k now (is_log_read action) m es core.journal (did n core action made.how disk disk_now made.needs made.moved.left) rest calm_now
    (subst (λ (j : Past). Each AckIsProper j) told backed.proper)
    (has_wraps script k.segment.head core.journal fit was.lines.turns calm_k.wraps) owned calm_k before.proper in
    let steady : new.core.members ≡ core.members =
    ap (λ (c : Core). c.members) made.moved.core
    ∙ calm_members k now (core_of k now action made.how) (subst (λ (c : Core). stood is_loss c.journal ≡ false) made.moved.core calm) rest
    (members_by k now action made.how (if_made n core action made.how disk disk_now made.needs made.moved.left)) in
    record {
      members = steady ∙ before.members;
      insts = λ y x there. subst (λ (j : Past). IsCalm x j) (sym told)
          (insts_kept (λ (y : ℕ) (x : Inst). (x.plan.me ≡ y) × IsCalm x core.journal) (λ (y : ℕ) (x : Inst). IsCalm x (es ++ core.journal)) old.insts i m
          (λ y x there. (ap (λ (p : PlanParts). p.me) (was.lines.insts y x there).plan, before.insts y x there)) goes.calm
          (λ y x apart it. calm_on (ledger x) x.clock.scn x.clock.scn es core.journal (le_refl x.clock.scn)
          (goes.others x.plan.me x.segment.head (λ clash. apart (sym it.0 ∙ clash ∙ mine))) it.1)
          y x (subst (λ (l : List Inst). slice_get l y ≡ Some x) made.moved.insts there));
      proper = subst (λ (j : Past). Each CommitIsProper j) (sym told) goes.proper;
    }

pub step_known : (script : ScriptParts) (old : World) (disk : State) (step : Step) (new : World) (disk_now : State) → IsWellFormed script → Made old disk step new disk_now
    → Known script old → Known script new
step_known script old disk step new disk_now fit made was =
    let backed = step_backed old disk step new disk_now made was.backed in
    record {
      lines = step_made script old disk step new disk_now fit made was.lines;
      backed = backed;
      owned = step_owned old disk step new disk_now made was.owned;
      calm = λ calm. step_calm script old disk step new disk_now fit made was backed calm;
    }

pub first_known : (script : ScriptParts) (w : World) → IsWellFormed script → IsFirstWorld script w → Known script w
first_known script w fit first = record {
  lines = first_lines script w fit first;
  backed = first_backed script w first;
  owned = λ i n at. first_owned script i n w.core.journal (first_at_place script (first_core script).net.masters w.insts first.insts i n at);
  calm = λ calm. first_world script w first;
}

pub run_known : (script : ScriptParts) (g : Lcg) (first : World) (disk : State) (book : List Step) (h : Lcg) (w : World) (disk_now : State)
    → IsWellFormed script → IsFirstWorld script first → IsRun g first disk book h w disk_now → Known script w
run_known script g first disk book h w disk_now fit starts run =
    run_keeps (λ (v : World) (d : State). Known script v)
    (λ v d step u e made was. step_known script v d step u e fit (made_of v d step u e made) was)
    g first disk book h w disk_now run (first_known script first fit starts)

pub calm_is : (b : Bool) → not b ≡ true → b ≡ false
calm_is true e = absurd (let no : false ≡ true = e in cc)
calm_is false e = refl

-- in a calm run each commit is proper
pub calm_proper : (script : ScriptParts) (w : World) → Known script w → is_calm w.core.journal ≡ true → Each CommitIsProper w.core.journal
calm_proper script w known calm = (known.calm (calm_is (stood is_loss w.core.journal) calm)).proper

-- in a calm run the next transaction of an instance is named in no entry
pub next_unnamed : (script : ScriptParts) (w : World) → IsWellFormed script → Known script w → is_calm w.core.journal ≡ true → (i : ℕ) (n : Inst) → slice_get w.insts i ≡ Some n
    → (x : Xid) → next_xid n.segment ≡ Some x → stood (names x) w.core.journal ≡ false
next_unnamed script w fit known calm i n at x next =
    let past = w.core.journal in
    let here : IsCalm n past = (known.calm (calm_is (stood is_loss past) calm)).insts i n at in
    above_unnamed n.plan.me n.segment.head n.clock.scn n.ends past x ((begins_of n.segment x next).seg ∙ (known.owned i n at).seg_is)
    (next_above n.segment x (has_wraps script n.segment.head past fit known.lines.turns here.wraps) next) here.sound
