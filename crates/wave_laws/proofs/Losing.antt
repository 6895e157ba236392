-- What the loss of an instance, and a new wave, leave true of the control lines.
use Rattle.std.proofs.Common.{◌≡◌, ℕ, ◌+◌, ◌-◌, ◌^◌, ◌<◌, ◌≤◌, min, Bool, true, false, List, [], ◌∷◌, ◌++◌, length, Some, if◌then◌else◌, refl, sym, ap, subst, ◌∙◌, ◌⊎◌, inl, inr, arith, append_assoc}
use Rattle.std.specs.Prelude.{not, slice_set}
use Rattle.std.proofs.lemmas.Bool.{leb-false, cases_eq, eq-eqb, ne_eqb}
use Rattle.std.proofs.lemmas.List.{length-set}
use Rattle.inst_set.specs.Sets.{without_inst}
use Rattle.journal.specs.declared.entry.Entry.{Entry}
use Rattle.journal.specs.declared.entry.Entry.TheVariants as entry
use Rattle.journal.specs.Past.{is_up as is_told_up, Past, up_after}
use Rattle.script_text.specs.ScriptParts.{ScriptParts}
use Rattle.script_text.specs.WellFormed.{IsWellFormed}
use Rattle.inst_state.specs.declared.control.Control.{Control}
use Rattle.inst_state.specs.declared.control.Wanted.{Wanted}
use Rattle.inst_state.specs.declared.control.Wanted.TheVariants.{Crash, Start}
use Rattle.inst_state.specs.declared.inst.Inst.{Inst}
use Rattle.inst_state.specs.declared.inst.Life.{Life}
use Rattle.inst_state.specs.declared.inst.Life.TheVariants.{Down, Joining, Up}
use Rattle.inst_state.specs.declared.shared.Core.{Core}
use Rattle.inst_state.specs.Controls.{maker}
use Rattle.inst_state.specs.Shared.{are_answered, wave_controls}
use Rattle.inst_state.specs.State.{is_down, is_up}
use Rattle.wave_steps.specs.WaveEnd.{is_last, next_wave}
use Rattle.good_run.specs.ControlLines.{asks_for}
use Rattle.wave_laws.proofs.Closing.{all_done, at}
use Rattle.wave_laws.proofs.Items.{item_of, item_wants, same_wanted, wants_crash}
use Rattle.wave_laws.proofs.Ruled.{begun_lines, Calms, closed, crashes, cuts, fails, IsDue, IsIn, IsOf, IsOpen, Keeps, Loses, Rule, rule_of, start_closed, stays_out}
use Rattle.wave_laws.proofs.Rules.{calms, calms_up, close, Holds, IsJoining, IsRuled, none_open, quiet, still_joining, tell}
use Rattle.wave_laws.proofs.Steps.{asked_at, down_not, Next, out_by, out_other, start_not_crash, wanted_is}

-- What is so once it is told how an instance ended: what holds, and that the start lines of others are open.
record Fallen (script : ScriptParts) (rule now : Rule) (first : Past) (e : Entry) (i : ℕ) : Type 0 where
  holds : Holds script now (e ∷ first)
  wave : now.wave ≡ rule.wave
  joining : (y line : ℕ) → (y ≡ i → ⊥) → IsJoining rule y line → IsJoining now y line
  down : (before : Bool) → up_after i e before ≡ false
  elsewhere : (y : ℕ) (before : Bool) → (y ≡ i → ⊥) → up_after y e before ≡ before

-- who is live changes nothing else
others_live : (script : ScriptParts) (rule : Rule) (past : Past) (live : List Bool) → length live ≡ 8 → Holds script rule past
    → Holds script (record rule { live = record { present = live } }) past
others_live script rule past live eight h =
    record { shape = h.shape; first = h.first; within = h.within; small = h.small; done = h.done; unanswered = h.unanswered; asked = h.asked; eight = eight }

fallen_next : (script : ScriptParts) (rule now : Rule) (past : Past) (later first : List Entry) (e : Entry) (i : ℕ) (n m : Inst) → m.life ≡ Down
    → begun_lines m ≡ begun_lines n → m.plan.me ≡ i → Calms later → Calms first → Fallen script rule now (first ++ past) e i
    → Holds script rule past → IsRuled script rule past i n
    → Next script rule (record now { live = without_inst rule.live i }) past (later ++ e ∷ first) i m
fallen_next script rule now past later first e i n m life lines mine q1 q2 f h own =
    let es : (later ++ e ∷ first) ++ past ≡ later ++ (e ∷ first ++ past) = append_assoc later (e ∷ first) past in
    record {
      holds = subst (λ (j : Past). Holds script (record now { live = without_inst rule.live i }) j) (sym es)
          (calms script (record now { live = without_inst rule.live i }) (e ∷ first ++ past) later q1
          (others_live script now (e ∷ first ++ past) (slice_set rule.live.present i false) (length-set rule.live.present i false ∙ h.eight) f.holds));
      own = record {
        me = mine;
        few = own.few;
        up = ap (λ (j : Past). is_told_up i j) es ∙ calms_up i later (e ∷ first ++ past) q1 ∙ f.down (is_told_up i (first ++ past)) ∙ ap is_up (sym life);
        live = out_by rule.live.present i ∙ ap (λ (l : Life). not (is_down l)) (sym life);
        joining = λ line e_. absurd (down_not line (sym life ∙ e_));
        begun = λ line of. own.begun line (subst (λ (ls : List ℕ). IsOf line ls) lines of);
      };
      others = λ y x apart it. record {
        me = it.me;
        few = it.few;
        up = ap (λ (j : Past). is_told_up y j) es ∙ calms_up y later (e ∷ first ++ past) q1 ∙ f.elsewhere y (is_told_up y (first ++ past)) apart
            ∙ calms_up y first past q2 ∙ it.up;
        live = out_other rule.live i y apart ∙ it.live;
        joining = λ line e_. (let j = f.joining y line apart (it.joining line e_) in record { by = j.by; here = j.here; number = j.number; wanted = j.wanted; open_ = j.open_ });
        begun = it.begun;
      };
    }

end_down : (i me : ℕ) (bad before : Bool) → me ≡ i → up_after i (entry.Ended me bad) before ≡ false
end_down i me bad before is = ap (λ (b : Bool). if b then false else before) (eq-eqb i me (sym is))

end_elsewhere : (i me y : ℕ) (bad before : Bool) → me ≡ i → (y ≡ i → ⊥) → up_after y (entry.Ended me bad) before ≡ before
end_elsewhere i me y bad before is apart = ap (λ (b : Bool). if b then false else before) (ne_eqb y me (λ same. apart (same ∙ is)))

-- an end that answers no line
fallen_by : (script : ScriptParts) (rule now : Rule) (first : Past) (me i : ℕ) (bad : Bool) → me ≡ i → now.wave ≡ rule.wave → Holds script now first
    → ((y line : ℕ) → (y ≡ i → ⊥) → IsJoining rule y line → IsJoining now y line) → Fallen script rule now first (entry.Ended me bad) i
fallen_by script rule now first me i bad is wave h joining = record {
  holds = quiet script now first (entry.Ended me bad) refl h;
  wave = wave;
  joining = joining;
  down = λ before. end_down i me bad before is;
  elsewhere = λ y before apart. end_elsewhere i me y bad before is apart;
}

-- the start line is answered by which an instance was on its way up
fallen_start : (script : ScriptParts) (rule now : Rule) (first : Past) (me i : ℕ) (bad : Bool) (life : Life) → IsWellFormed script → me ≡ i → now.wave ≡ rule.wave
    → Holds script now first → ((line : ℕ) → life ≡ Joining line → IsJoining now i line) → ((y line : ℕ) → (y ≡ i → ⊥) → IsJoining rule y line → IsJoining now y line)
    → Fallen script rule (start_closed life now) first (entry.Ended me bad) i
fallen_start script rule now first me i bad Up fit is wave h own joining = fallen_by script rule now first me i bad is wave h joining
fallen_start script rule now first me i bad Down fit is wave h own joining = fallen_by script rule now first me i bad is wave h joining
fallen_start script rule now first me i bad (Joining line) fit is wave h own joining =
    let j = own line refl in
    subst (λ (k : ℕ). Fallen script rule (closed now k) first (entry.Ended me bad) i) j.number
    (fallen_by script rule (closed now j.by.line) first me i bad is wave (close script now first j.by.line h)
    (λ y k apart it. still_joining script now first y k j.by fit h j.here (λ same start. apart (sym (ap maker (sym j.wanted ∙ start)))) (joining y k apart it)))

-- a due line asks for a crash
pub due_wanted : (script : ScriptParts) (core : Core) (past : Past) (me : ℕ) (c : Control) → IsWellFormed script → Holds script (rule_of core) past → IsOpen core c
    → (due : IsDue core me c.line) → c.wanted ≡ Crash me due.wants.0 due.wants.1
due_wanted script core past me c fit h is due =
    same_wanted script (core.waves.wave - 1) (core.waves.wave - 1) c due.by (item_of script core.waves.controls (core.waves.wave - 1) c fit h.shape is.here)
    (item_of script core.waves.controls (core.waves.wave - 1) due.by fit h.shape due.is.here) (sym due.number) ∙ due.wants.2

no_start : (y me : ℕ) (wanted : Wanted) (c : Wanted) → c ≡ wanted → wanted_is wanted ≡ 0 → c ≡ Start y → ⊥
no_start y me wanted c is crash start = start_not_crash y me c start (ap wanted_is is ∙ crash)

crash_is : (me : ℕ) (wanted : Wanted) (core : Core) (line : ℕ) (due : IsDue core me line) → wanted ≡ Crash me due.wants.0 due.wants.1 → wanted_is wanted ≡ 0
crash_is me wanted core line due is = ap wanted_is is

fallen : (script : ScriptParts) (n : Inst) (core : Core) (now : Rule) (past first : List Entry) (e : Entry) (i : ℕ) → IsWellFormed script
    → now.wave ≡ core.waves.wave → now.live ≡ without_inst core.members.live n.plan.me → Loses n core now.controls e → Calms first
    → Holds script (rule_of core) past → IsRuled script (rule_of core) past i n
    → (r : Rule) × Fallen script (rule_of core) r (first ++ past) e i × (now ≡ record r { live = without_inst core.members.live i })
fallen script n core now past first e i fit wave live (crashes c is due controls told) q h own =
    let rule = rule_of core in
    let h1 = calms script rule past first q h in
    let a = item_of script rule.controls (rule.wave - 1) c fit h.shape is.here in
    let wanted = due_wanted script core past n.plan.me c fit h is due in
    let e1 = entry.Crashed c.line n.plan.me in (
      closed rule c.line,
      subst (λ (x : Entry). Fallen script rule (closed rule c.line) (first ++ past) x i) (sym told) (record {
        holds = tell script (closed rule c.line) (first ++ past) e1 c.line refl
            (asked_at script c.line a.it (λ it. asks_for e1 it ≡ true) a.in_script
            (wants_crash a.it n.plan.me due.wants.0 due.wants.1 (item_wants script (rule.wave - 1) c a ∙ ap Some wanted)))
            (h1.unanswered (rule.wave - 1) c is.here is.open_)
            (λ j d there open_ same. none_open script rule (first ++ past) c fit h1 is.here j d there open_ same)
            (close script rule (first ++ past) c.line h1);
        wave = refl;
        joining = λ y line apart it. still_joining script rule past y line c fit h is.here
            (λ same start. start_not_crash y n.plan.me c.wanted start (crash_is n.plan.me c.wanted core c.line due wanted)) it;
        down = λ before. ap (λ (b : Bool). if b then false else before) (eq-eqb i n.plan.me (sym own.me));
        elsewhere = λ y before apart. ap (λ (b : Bool). if b then false else before) (ne_eqb y n.plan.me (λ same. apart (same ∙ own.me)));
      }),
      λ t. record { controls = controls t; wave = wave t; live = (live ∙ ap (λ (k : ℕ). without_inst core.members.live k) own.me) t },
    )
fallen script n core now past first e i fit wave live (cuts c bad is due controls told) q h own =
    let rule = rule_of core in
    let h1 = calms script rule past first q h in
    let wanted = due_wanted script core past n.plan.me c fit h is due in
    let apart_ : (y line : ℕ) → IsJoining rule y line → IsJoining (closed rule c.line) y line =
    λ y line it. still_joining script rule past y line c fit h is.here
    (λ same start. start_not_crash y n.plan.me c.wanted start (crash_is n.plan.me c.wanted core c.line due wanted)) it in
    let f = fallen_start script rule (closed rule c.line) (first ++ past) n.plan.me i bad n.life fit own.me refl (close script rule (first ++ past) c.line h1)
    (λ line life. apart_ i line (own.joining line life)) (λ y line apart it. apart_ y line it) in (
      start_closed n.life (closed rule c.line),
      subst (λ (x : Entry). Fallen script rule (start_closed n.life (closed rule c.line)) (first ++ past) x i) (sym told) f,
      λ t. record { controls = controls t; wave = (wave ∙ sym f.wave) t; live = (live ∙ ap (λ (k : ℕ). without_inst core.members.live k) own.me) t },
    )
fallen script n core now past first e i fit wave live (fails bad lives controls told) q h own =
    let rule = rule_of core in
    let f = fallen_start script rule rule (first ++ past) n.plan.me i bad n.life fit own.me refl (calms script rule past first q h)
    (λ line life. own.joining line life) (λ y line apart it. it) in (
      start_closed n.life rule,
      subst (λ (x : Entry). Fallen script rule (start_closed n.life rule) (first ++ past) x i) (sym told) f,
      λ t. record { controls = controls t; wave = (wave ∙ sym f.wave) t; live = (live ∙ ap (λ (k : ℕ). without_inst core.members.live k) own.me) t },
    )
fallen script n core now past first e i fit wave live (stays_out c bad is start lives controls told) q h own =
    let rule = rule_of core in
    let h1 = calms script rule past first q h in (
      closed rule c.line,
      subst (λ (x : Entry). Fallen script rule (closed rule c.line) (first ++ past) x i) (sym told)
          (fallen_by script rule (closed rule c.line) (first ++ past) n.plan.me i bad own.me refl (close script rule (first ++ past) c.line h1)
          (λ y line apart it. still_joining script rule past y line c fit h is.here (λ same starts. apart (sym (sym own.me ∙ ap maker (sym start ∙ starts)))) it)),
      λ t. record { controls = controls t; wave = wave t; live = (live ∙ ap (λ (k : ℕ). without_inst core.members.live k) own.me) t },
    )

pub next_loses : (script : ScriptParts) (n m : Inst) (core : Core) (now : Rule) (past es later first : List Entry) (e : Entry) (i : ℕ) → IsWellFormed script
    → m.life ≡ Down → begun_lines m ≡ begun_lines n → m.plan.me ≡ i → Loses n core now.controls e → now.wave ≡ core.waves.wave
    → now.live ≡ without_inst core.members.live n.plan.me → Calms later → Calms first → es ≡ later ++ e ∷ first
    → Holds script (rule_of core) past → IsRuled script (rule_of core) past i n → Next script (rule_of core) now past es i m
next_loses script n m core now past es later first e i fit life lines mine how_ wave live q1 q2 told h own =
    let f = fallen script n core now past first e i fit wave live how_ q2 h own in
    subst (λ (r : Rule). Next script (rule_of core) r past es i m) (sym f.2)
    (subst (λ (l : List Entry). Next script (rule_of core) (record f.0 { live = without_inst core.members.live i }) past l i m) (sym told)
    (fallen_next script (rule_of core) f.0 past later first e i n m life lines mine q1 q2 f.1 h own))

-- the next wave rises

rises_within : (last : Bool) (wave : ℕ) → (if last then wave else min (wave + 1) (2 ^ 32 - 1)) ≤ wave + 1
rises_within true wave = omega arith
rises_within false wave = omega arith

rises_from : (last : Bool) (wave : ℕ) → 1 ≤ wave → 1 ≤ (if last then wave else min (wave + 1) (2 ^ 32 - 1))
rises_from true wave le = le
rises_from false wave le = omega (arith, le)

rises_below : (last : Bool) (wave count : ℕ) → wave ≤ count → (last ≡ false → wave < count) → (if last then wave else min (wave + 1) (2 ^ 32 - 1)) ≤ count
rises_below true wave count le less = le
rises_below false wave count le less = let up : wave < count = less refl in omega (arith, up)

rises_small : (last : Bool) (wave : ℕ) → wave ≤ 2 ^ 32 - 1 → (if last then wave else min (wave + 1) (2 ^ 32 - 1)) ≤ 2 ^ 32 - 1
rises_small true wave le = le
rises_small false wave le = omega arith

pub next_turns : (script : ScriptParts) (n m : Inst) (core : Core) (now : Rule) (past es : List Entry) (i : ℕ) → IsWellFormed script
    → core.waves.count ≡ length script.waves → Keeps n m
    → are_answered core ≡ true → now ≡ record { controls = core.waves.controls; wave = (next_wave core.waves).wave; live = core.members.live } → es ≡ []
    → Holds script (rule_of core) past → IsRuled script (rule_of core) past i n → Next script (rule_of core) now past es i m
next_turns script n m core now past es i fit count same all is told h own =
    let r : Rule = record { controls = core.waves.controls; wave = (next_wave core.waves).wave; live = core.members.live } in
    let none : (y line : ℕ) → IsJoining (rule_of core) y line → ⊥ =
    λ y line j. (let no : true ≡ false = sym (all_done (wave_controls core.waves) j.by all j.here) ∙ j.open_ in cc) in
    let next : (y : ℕ) (x : Inst) → IsRuled script (rule_of core) past y x → IsRuled script r past y x =
    λ y x it. record {
      me = it.me;
      few = it.few;
      up = it.up;
      live = it.live;
      joining = λ line e. absurd (none y line (it.joining line e));
      begun = it.begun;
    } in
    let within : (next_wave core.waves).wave ≤ core.waves.wave + 1 = rises_within (is_last core.waves) core.waves.wave in
    subst (λ (q : Rule). Next script (rule_of core) q past es i m) (sym is)
    (subst (λ (l : List Entry). Next script (rule_of core) r past l i m) (sym told) (record {
      holds = record {
        shape = h.shape;
        first = rises_from (is_last core.waves) core.waves.wave h.first;
        within = rises_below (is_last core.waves) core.waves.wave (length script.waves) h.within
            (λ e. (let less : core.waves.wave < core.waves.count = leb-false core.waves.count core.waves.wave e in omega (arith, less, count)));
        small = rises_small (is_last core.waves) core.waves.wave h.small;
        done = λ j c here less. done_at j c here (omega (arith, less, within)) (cases_eq j (core.waves.wave - 1));
        unanswered = h.unanswered;
        asked = h.asked;
        eight = h.eight;
      };
      own = next i m (kept i own);
      others = λ y x apart it. next y x it;
    }))
  where
    done_at : (j : ℕ) (c : Control) → IsIn c (at core.waves.controls j) → j < core.waves.wave → (j ≡ core.waves.wave - 1) ⊎ (j ≡ core.waves.wave - 1 → ⊥) → c.done ≡ true
    done_at j c here less (inl last) = all_done (wave_controls core.waves) c all (subst (λ (k : ℕ). IsIn c (at core.waves.controls k)) last here)
    done_at j c here less (inr apart) = h.done j c here (lower j core.waves.wave less apart)
      where
        lower : (a b : ℕ) → a < b → (a ≡ b - 1 → ⊥) → a + 1 < b
        lower a b less apart = omega (arith, less, apart)

    kept : (k : ℕ) → IsRuled script (rule_of core) past k n → IsRuled script (rule_of core) past k m
    kept k it = record {
      me = same.me ∙ it.me;
      few = it.few;
      up = it.up ∙ ap is_up (sym same.life);
      live = it.live ∙ ap (λ (l : Life). not (is_down l)) (sym same.life);
      joining = λ line e. it.joining line (sym same.life ∙ e);
      begun = λ line of. it.begun line (subst (λ (ls : List ℕ). IsOf line ls) same.lines of);
    }
