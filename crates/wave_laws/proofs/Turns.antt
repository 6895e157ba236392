-- In each run each opening, start and answer has its turn.
use Rattle.std.proofs.Common.{◌≡◌, ℕ, ◌<◌, ◌≤◌, Bool, true, false, List, [], ◌∷◌, ◌++◌, length, Option, Some, None, slice_get, refl, sym, ap, subst, ◌∙◌, ◌⊎◌, inl, inr, arith}
use Rattle.std.specs.Prelude.{◌&&◌, ◌||◌, not, IsSomeAnd}
use Rattle.std.specs.List.{AllByRecursion}
use Rattle.std.specs.Option.{option_map_or}
use Rattle.std.proofs.lemmas.Bool.{and_from, and_parts, or_left, or_right}
use Rattle.rand_pcg.specs.Lcg.{Lcg}
use Rattle.rac_disk.specs.State.{State}
use Rattle.journal.specs.declared.entry.Entry.{Entry}
use Rattle.journal.specs.declared.entry.Entry.TheVariants.{Opened, Started}
use Rattle.journal.specs.Past.{Each, Past}
use Rattle.journal.specs.Stood.{stood}
use Rattle.script_text.specs.declared.item.Stmt.{Stmt}
use Rattle.script_text.specs.ScriptParts.{ScriptParts}
use Rattle.script_text.specs.Lines.{answers_stmt, stmt_at as script_stmt}
use Rattle.script_text.specs.WellFormed.{IsWellFormed}
use Rattle.inst_state.specs.declared.inst.Inst.{Inst}
use Rattle.inst_state.specs.declared.plan.Opening.{Opening}
use Rattle.inst_state.specs.declared.plan.Plan.{Plan}
use Rattle.inst_state.specs.declared.shared.Core.{Core}
use Rattle.first_state.specs.Plan.{first_plan, parts_of}
use Rattle.inst_node.specs.declared.actions.Action.{Action}
use Rattle.inst_node.specs.declared.actions.Step.{Step}
use Rattle.inst_node.specs.Moves.{core_after, counted, part_after, prepared}
use Rattle.world_machine.specs.declared.worlds.World.{World}
use Rattle.world_machine.specs.Runs.{IsRun}
use Rattle.cluster_run.specs.First.{IsFirstWorld}
use Rattle.run_laws.specs.Tells.{tells as step_tells}
use Rattle.run_laws.proofs.Added.{made_adds}
use Rattle.run_laws.proofs.RunLemmas.{Made, made_of, run_keeps}
use Rattle.run_report.specs.Ends.{answers_any}
use Rattle.good_run.specs.Good.{turns_are_kept}
use Rattle.good_run.specs.Turns.{is_in_turn, is_next, may_start_again, opens, starts}
use Rattle.good_run.specs.Waves.{each_passes, has_begun}
use Rattle.line_laws.specs.Turns.{AreInTurn, IsInTurn, IsNext}
use Rattle.line_laws.proofs.ByKind.{took}
use Rattle.line_laws.proofs.Courses.{Course, course_at, lines_in, same_count, same_course}
use Rattle.line_laws.proofs.Entered.{prepared_wave}
use Rattle.line_laws.proofs.Kept.{Standing}
use Rattle.line_laws.proofs.Losses.{Placed}
use Rattle.line_laws.proofs.Parts.{prepared_stays}
use Rattle.line_laws.proofs.Places.{placed}
use Rattle.line_laws.proofs.Took.{Stays, Took}
use Rattle.line_laws.proofs.Took.{answers as took_answers, loses as took_loses, opens as took_opens, rests as took_rests, starts as took_starts}
use Rattle.line_laws.proofs.Worlds.{set_get, stands_ready}
use Rattle.wave_laws.proofs.Begun.{begins}
use Rattle.wave_laws.proofs.ByKind.{ruled}
use Rattle.wave_laws.proofs.Fresh.{IsFresh, next_of, not_answered_yet, speaks_fresh}
use Rattle.wave_laws.proofs.Opening.{Enters, enters_first, enters_of, IsFirst, other_unopened, own_unopened, Unopened}
use Rattle.wave_laws.proofs.Ruled.{answers, comes, enters, loses, rests, rises, Ruled, turns}
use Rattle.wave_laws.proofs.Speaks.{speaks}
use Rattle.wave_laws.proofs.Starting.{AreUnstarted, other_unstarted, took_unstarted, Unstarted}
use Rattle.wave_laws.proofs.Turning.{Begins, first_begins, step_begins}
use Rattle.wave_laws.proofs.Waved.{fits_whole}

-- What a journal tells of an instance's lines and sessions that haven't begun.
pub record IsKept (n : Inst) (past : Past) : Type 0 where
  pub unstarted : Unstarted n past
  pub unopened : Unopened n past

-- What holds in each world: each line stands in its wave, and starts and openings are the first ones.
pub record Turns (script : ScriptParts) (w : World) : Type 0 where
  pub begins : Begins script w
  pub insts : (i : ℕ) (n : Inst) → slice_get w.insts i ≡ Some n → IsKept n w.core.journal
  pub fresh : Each (IsFresh script) w.core.journal
  pub first : Each IsFirst w.core.journal

took_plan : (k m : Inst) (es : List Entry) → Took k m es → m.plan ≡ k.plan
took_plan k m es (took_rests same q) = same.plan
took_plan k m es (took_opens same told) = same.plan
took_plan k m es (took_starts z s plan may set told) = plan
took_plan k m es (took_answers z e plan may set of told) = plan
took_plan k m es (took_loses q quiet same is silents told) = ap (λ (x : Inst). x.plan) is ∙ same.plan

-- an instance stays in its wave, or enters the current one
ruled_wave : (k m : Inst) (core now : Core) (es : List Entry) → Ruled k core m now es → (m.wave.entered ≡ k.wave.entered) ⊎ (m.wave.entered ≡ core.waves.wave)
ruled_wave k m core now es (rests same rule q) = inl same.entered
ruled_wave k m core now es (enters entered life begun rule q) = inr entered
ruled_wave k m core now es (comes entered c is start live life lines waves lives none) = inl entered
ruled_wave k m core now es (rises entered line was life lines rule told) = inl entered
ruled_wave k m core now es (answers entered c e is life lines rule how_ told) = inl entered
ruled_wave k m core now es (loses entered e later first life lines how_ wave live q1 q2 told) = inl entered
ruled_wave k m core now es (turns same all waves live none) = inl same.entered

ready_kept : (n k : Inst) (past : Past) → Stays n k → k.wave.entered ≡ n.wave.entered → IsKept n past → IsKept k past
ready_kept n k past same entered is = record {
  unstarted = λ z. subst (λ (p : Plan). AreUnstarted (lines_in p z) (course_at k z) past) (sym same.plan)
      (subst (λ (c : Course). AreUnstarted (lines_in n.plan z) c past) (sym (same_course n k z same.course)) (is.unstarted z));
  unopened = subst (λ (p : Plan). AllByRecursion (λ o. k.wave.entered < o.wave → stood (opens o.session) past ≡ false) p.openings) (sym same.plan)
      (subst (λ (w : ℕ). AllByRecursion (λ o. w < o.wave → stood (opens o.session) past ≡ false) n.plan.openings) (sym entered) is.unopened);
}

counted_wave : (core : Core) (me : ℕ) (action : Action) → (counted core me action).waves.wave ≡ core.waves.wave
unfolding counted
counted_wave core me action = refl

each_kept : (script : ScriptParts) (k m : Inst) (core : Core) (i : ℕ) (past es : Past) (insts : List Inst) → IsWellFormed script → parts_of k.plan ≡ first_plan script i
    → Standing script k past → Took k m es → Enters k m core es → IsKept m (es ++ past)
    → ((y : ℕ) (x : Inst) → slice_get insts y ≡ Some x → (parts_of x.plan ≡ first_plan script y) × IsKept x past) → (y : ℕ) (x : Inst)
    → ((y ≡ i) × (x ≡ m)) ⊎ ((y ≡ i → ⊥) × (slice_get insts y ≡ Some x)) → IsKept x (es ++ past)
each_kept script k m core i past es insts fit plan stands took_ enters_ own was y x (inl is) = subst (λ (q : Inst). IsKept q (es ++ past)) (sym is.1) own
each_kept script k m core i past es insts fit plan stands took_ enters_ own was y x (inr is) =
    let it = was y x is.1 in record {
      unstarted = other_unstarted script k m x i y past es fit is.0 plan it.0 stands took_ it.1.unstarted;
      unopened = other_unopened script k m x core i y past es fit is.0 plan it.0 enters_ it.1.unopened;
    }

step_turns : (script : ScriptParts) (old : World) (disk : State) (step : Step) (new : World) (disk_now : State) → IsWellFormed script
    → Made old disk step new disk_now → Turns script old → Turns script new
step_turns script old disk step new disk_now fit made was =
    let n = made.n in
    let i = step.inst in
    let core = old.core in
    let action = step.action in
    let k = prepared n core action in
    let core1 = counted core n.plan.me action in
    let m = part_after n core action made.how in
    let es = step_tells n core action made.how in
    let lines = was.begins.timely.lines in
    let at = lines.insts i n made.at in
    let same = prepared_stays n core action in
    let plan : parts_of k.plan ≡ first_plan script i = ap parts_of same.plan ∙ at.plan in
    let count : length k.sessions ≡ length script.names = same_count n k same.course ∙ at.count in
    let owned : Placed script k.plan (length k.sessions) = subst (λ (c : ℕ). Placed script k.plan c) (sym count) (placed script k.plan i fit plan) in
    let stands = stands_ready script n k core.journal same at.stands in
    let took_ = took n core action made.how made.needs in
    let speaks_ = speaks n core action made.how made.needs in
    let enters_ = enters_of k m core1 es took_ speaks_ in
    let ready = ready_kept n k core.journal same (prepared_wave n core action) (was.insts i n made.at) in
    let wave = counted_wave core n.plan.me action in
    let le : k.wave.entered ≤ core1.waves.wave =
    (let e = prepared_wave n core action in let low = (was.begins.timely.insts i n made.at).entered in omega (arith, e, low, wave)) in
    let own : IsKept m (es ++ core.journal) = record {
      unstarted = took_unstarted script k m core.journal es owned stands took_ ready.unstarted;
      unopened = own_unopened script k m core1 i core.journal es fit plan (took_plan k m es took_)
          (ruled_wave k m core1 (core_after n core action made.how) es (ruled n core action made.how made.needs)) le enters_ ready.unopened;
    } in
    let told : new.core.journal ≡ es ++ core.journal = made_adds old disk step new disk_now made in
    record {
      begins = step_begins script old disk step new disk_now fit made was.begins;
      insts = λ y x there. subst (λ (j : Past). IsKept x j) (sym told)
          (each_kept script k m core1 i core.journal es old.insts fit plan stands took_ enters_ own
          (λ v u is. ((lines.insts v u is).plan, was.insts v u is)) y x
          (set_get old.insts i m y x (subst (λ (l : List Inst). slice_get l y ≡ Some x) made.moved.insts there)));
      fresh = subst (λ (j : Past). Each (IsFresh script) j) (sym told)
          (speaks_fresh script k m core1 i core.journal es fit plan stands ready.unstarted took_ speaks_ was.fresh);
      first = subst (λ (j : Past). Each IsFirst j) (sym told) (enters_first script k m core1 i core.journal es fit plan enters_ ready.unopened was.first);
    }

first_kept : (n : Inst) → IsKept n []
first_kept n = record { unstarted = λ z j within from busy. refl; unopened = none n.plan.openings }
  where
    none : (os : List Opening) → AllByRecursion (λ o. n.wave.entered < o.wave → stood (opens o.session) [] ≡ false) os
    none [] = tt
    none (o ∷ os) = ((λ less. refl), none os)

pub run_turns : (script : ScriptParts) (g : Lcg) (old : World) (disk : State) (book : List Step) (h : Lcg) (new : World) (disk_now : State) → IsWellFormed script
    → IsFirstWorld script old → IsRun g old disk book h new disk_now → Turns script new
run_turns script g old disk book h new disk_now fit first run =
    run_keeps (λ (w : World) (d : State). Turns script w)
    (λ w d step v e made was. step_turns script w d step v e fit (made_of w d step v e made) was)
    g old disk book h new disk_now run (record {
      begins = first_begins script old fit first;
      insts = λ i n there. subst (λ (c : Core). IsKept n c.journal) (sym first.core) (first_kept n);
      fresh = subst (λ (c : Core). Each (IsFresh script) c.journal) (sym first.core) tt;
      first = subst (λ (c : Core). Each IsFirst c.journal) (sym first.core) tt;
    })

-- an entry has its turn

some_at : (script : ScriptParts) (n z : ℕ) (o : Option (ℕ × Stmt)) → script_stmt script n ≡ o → IsSomeAnd o (λ stmt. stmt.0 ≡ z)
    → (what : Stmt) × (script_stmt script n ≡ Some (z, what))
some_at script n z None is some = absurd some
some_at script n z (Some stmt) is some = (stmt.1, is ∙ ap (λ (y : ℕ). Some (y, stmt.1)) some)

may_again : (o : Option (ℕ × Stmt)) → IsSomeAnd o (λ asked. may_start_again asked.1 ≡ true) → option_map_or (λ asked. may_start_again asked.1) o false ≡ true
may_again None some = absurd some
may_again (Some stmt) some = some

fresh_test : (script : ScriptParts) (n : ℕ) (past : Past) → (stood (starts n) past ≡ false) ⊎ IsSomeAnd (script_stmt script n) (λ asked. may_start_again asked.1 ≡ true)
    → (not (stood (starts n) past) || option_map_or (λ asked. may_start_again asked.1) (script_stmt script n) false) ≡ true
fresh_test script n past (inl none) =
    or_left (not (stood (starts n) past)) (option_map_or (λ asked. may_start_again asked.1) (script_stmt script n) false) (ap not none)
fresh_test script n past (inr some) =
    or_right (not (stood (starts n) past)) (option_map_or (λ asked. may_start_again asked.1) (script_stmt script n) false) (may_again (script_stmt script n) some)

start_turn : (script : ScriptParts) (ever : ℕ → Bool) (past : Past) (n z : ℕ) → IsWellFormed script → has_begun ever script past n ≡ true
    → IsSomeAnd (script_stmt script n) (λ stmt. stmt.0 ≡ z) → IsNext script z n past → AreInTurn script past
    → (stood (starts n) past ≡ false) ⊎ IsSomeAnd (script_stmt script n) (λ asked. may_start_again asked.1 ≡ true)
    → (has_begun ever script past n && is_next script z n past && not (stood (answers_stmt n) past)
    && (not (stood (starts n) past) || option_map_or (λ asked. may_start_again asked.1) (script_stmt script n) false)) ≡ true
start_turn script ever past n z fit begun line next in_turn fresh =
    let what = some_at script n z (script_stmt script n) refl line in
    and_from (has_begun ever script past n && is_next script z n past && not (stood (answers_stmt n) past))
    (not (stood (starts n) past) || option_map_or (λ asked. may_start_again asked.1) (script_stmt script n) false)
    (and_from (has_begun ever script past n && is_next script z n past) (not (stood (answers_stmt n) past))
    (and_from (has_begun ever script past n) (is_next script z n past) begun (next_of script n z past fit next))
    (ap not (not_answered_yet script n z what.0 past what.1 in_turn next)))
    (fresh_test script n past fresh)

entry_turn : (script : ScriptParts) (ever : ℕ → Bool) (past : Past) (e : Entry) → IsWellFormed script → begins ever script past e ≡ true → IsInTurn script past e
    → AreInTurn script past → IsFresh script past e → IsFirst past e → is_in_turn ever script past e ≡ true
entry_turn script ever past (Opened z i) fit begun turn in_turn fresh first = and_from (not (stood (opens z) past)) _ (ap not first) begun
entry_turn script ever past (Started n z s) fit begun turn in_turn fresh first = start_turn script ever past n z fit begun turn.1.0 turn.1.1 in_turn fresh
entry_turn script ever past e fit begun turn in_turn fresh first = begun

turns_by : (script : ScriptParts) (ever : ℕ → Bool) (past : Past) → IsWellFormed script → each_passes (begins ever script) past ≡ true → AreInTurn script past
    → Each (IsFresh script) past → Each IsFirst past → each_passes (is_in_turn ever script) past ≡ true
turns_by script ever [] fit begun in_turn fresh first = refl
turns_by script ever (e ∷ past) fit begun in_turn fresh first =
    let b = and_parts (begins ever script past e) (each_passes (begins ever script) past) begun in
    and_from (is_in_turn ever script past e) (each_passes (is_in_turn ever script) past)
    (entry_turn script ever past e fit b.0 in_turn.0 in_turn.1 fresh.0 first.0) (turns_by script ever past fit b.1 in_turn.1 fresh.1 first.1)

-- each opening, start and answer of the journal has its turn
pub kept : (script : ScriptParts) (w : World) → IsWellFormed script → Turns script w → turns_are_kept script w.core.journal ≡ true
kept script w fit was =
    turns_by script (answers_any w.core.journal) w.core.journal fit
    (was.begins.begins (answers_any w.core.journal) (fits_whole script w fit was.begins.waved.commands)) was.begins.timely.lines.turns was.fresh was.first
