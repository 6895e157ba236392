-- In a run in which no instance is lost, sessions own what the journal says.
use Rattle.std.proofs.Common.{◌≡◌, ℕ, ◌<◌, ◌≤◌, true, false, List, [], ◌++◌, length, Some, sym, ap, subst, ◌∙◌, ◌⊎◌, inl, inr, arith}
use Rattle.std.specs.Prelude.{slice_get, slice_index_or}
use Rattle.std.proofs.lemmas.Option.{none-some}
use Rattle.rand_pcg.specs.Lcg.{Lcg}
use Rattle.rac_disk.specs.State.{State}
use Rattle.journal.specs.Past.{Past}
use Rattle.journal.specs.Stood.{stood}
use Rattle.script_text.specs.ScriptParts.{ScriptParts}
use Rattle.script_text.specs.WellFormed.{IsWellFormed}
use Rattle.inst_state.specs.declared.inst.Inst.{Inst}
use Rattle.inst_state.specs.declared.plan.Plan.{Plan}
use Rattle.inst_state.specs.declared.session.Session.{Session}
use Rattle.inst_state.specs.declared.shared.Core.{Core}
use Rattle.inst_state.specs.Sessions.{new_session}
use Rattle.first_state.specs.Core.{first_core}
use Rattle.first_state.specs.Plan.{first_plan, parts_of, PlanParts}
use Rattle.inst_node.specs.declared.actions.Step.{Step}
use Rattle.inst_node.specs.Moves.{counted, part_after, prepared}
use Rattle.world_machine.specs.declared.worlds.World.{World}
use Rattle.world_machine.specs.Runs.{IsRun}
use Rattle.cluster_run.specs.First.{IsFirst, IsFirstWorld}
use Rattle.run_laws.specs.Tells.{tells}
use Rattle.run_laws.proofs.Added.{made_adds}
use Rattle.run_laws.proofs.RunLemmas.{Made, made_of, run_keeps}
use Rattle.line_laws.proofs.Courses.{lines_in}
use Rattle.line_laws.proofs.Parts.{prepared_stays}
use Rattle.line_laws.proofs.Places.{apart, placed}
use Rattle.line_laws.proofs.Worlds.{first_at_place, session_new, stands_ready}
use Rattle.end_laws.specs.Calm.{is_calm, is_loss}
use Rattle.end_laws.specs.Marked.{is_log_read}
use Rattle.end_laws.proofs.Backs.{stood_on}
use Rattle.end_laws.proofs.Calmly.{IsCalm}
use Rattle.end_laws.proofs.CalmWorlds.{CalmWorld, Known, calm_is, calm_kept, first_known, rests_not, step_known}
use Rattle.end_laws.proofs.Counted.{has_wraps}
use Rattle.end_laws.proofs.Did.{IsUnrest}
use Rattle.end_laws.proofs.Making.{did}
use Rattle.end_laws.proofs.Marks.{IsOwned, owned_as}
use Rattle.end_laws.proofs.OwnSteps.{Agreed, Agrees, HasLines, agree, are_started, kept_own}
use Rattle.end_laws.proofs.Owning.{AreOwns}
use Rattle.end_laws.proofs.Parts.{prepared_keeps}
use Rattle.end_laws.proofs.Sound.{not_so}
use Rattle.end_laws.proofs.Stakes.{Ledger, ledger}
use Rattle.end_laws.proofs.Worlds.{insts_kept}

-- Each session owns what the journal says, and each transaction that one changed last it changed alone.
pub record Owning (w : World) : Type 0 where
  pub agrees : (i : ℕ) (n : Inst) → slice_get w.insts i ≡ Some n → Agrees n w.core.journal
  pub are : AreOwns w.core.journal

-- So it is in each world of a run in which no instance is lost.
pub record OwnsIfCalm (script : ScriptParts) (w : World) : Type 0 where
  pub known : Known script w
  pub owning : stood is_loss w.core.journal ≡ false → Owning w

first_agrees : (script : ScriptParts) (i : ℕ) (n : Inst) → IsFirst script (first_core script).net.masters i n → Agrees n []
first_agrees script i n first z has =
    ap (λ (l : List Session). (slice_index_or l z new_session).own) (ap (λ (x : Inst). x.sessions) first.part)
    ∙ ap (λ (s : Session). s.own) (session_new (length script.names) z)

first_owning : (script : ScriptParts) (w : World) → IsFirstWorld script w → Owning w
first_owning script w first = record {
  agrees = λ i n at. subst (λ (c : Core). Agrees n c.journal) (sym first.core)
      (first_agrees script i n (first_at_place script (first_core script).net.masters w.insts first.insts i n at));
  are = subst (λ (c : Core). AreOwns c.journal) (sym first.core) (record {
    alone = λ y z x is later. absurd (none-some x is);
    named = λ z x is. absurd (none-some x is);
  });
}

-- a session of another instance has its lines there, and so none here
elsewhere : (script : ScriptParts) (k x : Inst) (m : Inst) (es past : Past) (i y : ℕ) → Agreed k m es past → (y ≡ i → ⊥) → parts_of k.plan ≡ first_plan script i
    → parts_of x.plan ≡ first_plan script y → Agrees x past → Agrees x (es ++ past)
elsewhere script k x m es past i y agreed other here there agrees z has =
    agrees z has ∙ sym (agreed.others z (by (apart script k.plan x.plan i y z other here there)))
  where
    by : (length (lines_in x.plan z) ≡ 0) ⊎ (length (lines_in k.plan z) ≡ 0) → length (lines_in k.plan z) ≡ 0
    by (inl none) = absurd (omega (arith, none, has))
    by (inr none) = none

step_owning : (script : ScriptParts) (old : World) (disk : State) (step : Step) (new : World) (disk_now : State) → IsWellFormed script → Made old disk step new disk_now
    → OwnsIfCalm script old → stood is_loss new.core.journal ≡ false → Owning new
unfolding counted
step_owning script old disk step new disk_now fit made was calm =
    let n = made.n in
    let i = step.inst in
    let core = old.core in
    let past = core.journal in
    let action = step.action in
    let k = prepared n core action in
    let now = counted core n.plan.me action in
    let m = part_after n core action made.how in
    let es = tells n core action made.how in
    let told : new.core.journal ≡ es ++ past = made_adds old disk step new disk_now made in
    let calm_now : stood is_loss (es ++ past) ≡ false = subst (λ (j : Past). stood is_loss j ≡ false) told calm in
    let calm_old : stood is_loss past ≡ false =
    not_so (stood is_loss past) (λ is. (let no : true ≡ false = sym (stood_on is_loss es past is) ∙ calm_now in cc)) in
    let before : CalmWorld script old = was.known.calm calm_old in
    let owning : Owning old = was.owning calm_old in
    let lines = was.known.lines in
    let kept = prepared_keeps n core action in
    let stays = prepared_stays n core action in
    let at = lines.insts i n made.at in
    let plan : parts_of k.plan ≡ first_plan script i = ap parts_of stays.plan ∙ at.plan in
    let mine : k.plan.me ≡ i = ap (λ (p : PlanParts). p.me) plan in
    let within : i < length old.insts = made.within in
    let count : length old.insts ≡ script.settings.instances = lines.count in
    let eight : script.settings.instances ≤ 8 = fit.settings_fit.few_instances in
    let rest : IsUnrest now k.plan.me → ⊥ = rests_not script now k.plan.me before.members (omega (arith, mine, within, count)) (omega (arith, mine, within, count, eight)) in
    let calm_k : IsCalm k past = calm_kept n k past kept (before.insts i n made.at) in
    let owned : IsOwned k past = owned_as n (ledger k) past kept.same (was.known.owned i n made.at) in
    let agrees_k : Agrees k past =
    λ z has. kept_own n k z (ap (λ (l : Ledger). l.stakes) kept.same) ∙ owning.agrees i n made.at z (subst (λ (p : Plan). HasLines p z) stays.plan has) in
    let started = are_started script k past (length script.names) (placed script k.plan i fit plan) lines.turns (stands_ready script n k past stays at.stands) in
    let agreed : Agreed k m es past =
    agree k now (is_log_read action) m es past (did n core action made.how disk disk_now made.needs made.moved.left) rest calm_now started
    (has_wraps script k.segment.head past fit lines.turns calm_k.wraps) owned calm_k agrees_k owning.are in
    record {
      agrees = λ y x there. subst (λ (j : Past). Agrees x j) (sym told)
          (insts_kept (λ (y : ℕ) (x : Inst). (parts_of x.plan ≡ first_plan script y) × Agrees x past) (λ (y : ℕ) (x : Inst). Agrees x (es ++ past)) old.insts i m
          (λ y x there. ((lines.insts y x there).plan, owning.agrees y x there)) agreed.agrees
          (λ y x other it. elsewhere script k x m es past i y agreed other plan it.0 it.1)
          y x (subst (λ (l : List Inst). slice_get l y ≡ Some x) made.moved.insts there));
      are = subst (λ (j : Past). AreOwns j) (sym told) agreed.are;
    }

pub run_owning : (script : ScriptParts) (g : Lcg) (first : World) (disk : State) (book : List Step) (h : Lcg) (w : World) (disk_now : State)
    → IsWellFormed script → IsFirstWorld script first → IsRun g first disk book h w disk_now → OwnsIfCalm script w
run_owning script g first disk book h w disk_now fit starts run =
    run_keeps (λ (v : World) (d : State). OwnsIfCalm script v)
    (λ v d step u e made was. record {
      known = step_known script v d step u e fit (made_of v d step u e made) was.known;
      owning = λ calm. step_owning script v d step u e fit (made_of v d step u e made) was calm;
    })
    g first disk book h w disk_now run (record {
      known = first_known script first fit starts;
      owning = λ calm. first_owning script first starts;
    })

-- in a calm run each session with lines on an instance owns there what the journal says
pub calm_owns : (script : ScriptParts) (w : World) → OwnsIfCalm script w → is_calm w.core.journal ≡ true → (i : ℕ) (n : Inst) → slice_get w.insts i ≡ Some n
    → Agrees n w.core.journal
calm_owns script w it calm = (it.owning (calm_is (stood is_loss w.core.journal) calm)).agrees
