-- The wave that a journal tells as control lines are answered and instances end.
use Rattle.std.proofs.Common.{◌≡◌, ℕ, ◌+◌, ◌-◌, ◌<◌, ◌≤◌, Bool, true, false, List, [], ◌∷◌, ◌++◌, take, Option, Some, if◌then◌else◌, refl, sym, ap, subst, ◌∙◌, ◌⊎◌, inl, inr, arith}
use Rattle.std.specs.Prelude.{◌==◌, ◌&&◌, ◌||◌, not}
use Rattle.std.specs.Option.{option_map_or}
use Rattle.std.proofs.lemmas.Bool.{and_from, and_parts, cases_lt, eq-eqb, eqb-true, or_left, or_right}
use Rattle.std.proofs.lemmas.Option.{same_Some}
use Rattle.journal.specs.declared.entry.Entry.{Entry}
use Rattle.journal.specs.declared.entry.Entry.TheVariants as entry
use Rattle.journal.specs.Past.{is_up as is_told_up, Past, up_after}
use Rattle.journal.specs.Stood.{stood}
use Rattle.script_text.specs.declared.item.Item.{Item}
use Rattle.script_text.specs.declared.item.Item.TheVariants as item
use Rattle.script_text.specs.ScriptParts.{ScriptParts}
use Rattle.script_text.specs.Lines.{AreAnswered}
use Rattle.script_text.specs.Reading.{item_in, joined}
use Rattle.script_text.specs.WellFormed.{IsWellFormed}
use Rattle.inst_state.specs.declared.control.Control.{Control}
use Rattle.inst_state.specs.declared.control.Wanted.TheVariants.{Start}
use Rattle.run_report.specs.Ends.{answers_any, ended_in, is_answered, is_ended}
use Rattle.good_run.specs.ControlLines.{names_line}
use Rattle.good_run.specs.Waves.{wave_at}
use Rattle.line_laws.specs.Turns.{AreInTurn}
use Rattle.std.proofs.lemmas.Bool.{true_from_ne_false, and_from}
use Rattle.std.proofs.lemmas.Bool.{false_from_ne_true}
use Rattle.wave_laws.proofs.Items.{wants_start}
use Rattle.wave_laws.proofs.Items.{wants_crash}
use Rattle.std.specs.Prelude.{IsSomeAnd}
use Rattle.wave_laws.proofs.Effects.{crash_no_start, start_once}
use Rattle.good_run.specs.ControlLines.{asks_crash, is_asked_by, asks_for}
use Rattle.good_run.specs.Waves.{lines_in}
use Rattle.inst_state.specs.declared.control.When.{When}
use Rattle.script_text.specs.declared.item.Keep.{Keep}
use Rattle.inst_state.specs.declared.control.Wanted.TheVariants.{Crash}
use Rattle.wave_laws.proofs.Closing.{at, was, Was}
use Rattle.wave_laws.proofs.Current.{answered_grows, ended_same, name_any, named_ends}
use Rattle.wave_laws.proofs.Effects.{IsHere, Names, start_stands}
use Rattle.wave_laws.proofs.Items.{found_at, IsItem, item_of, item_wants, items_at, Stands, wants_some}
use Rattle.wave_laws.proofs.Reached.{awaited, none_later, not_answered, not_past, reached}
use Rattle.wave_laws.proofs.Ruled.{closed, IsIn, Rule}
use Rattle.wave_laws.proofs.Rules.{Holds}
use Rattle.wave_laws.proofs.Timed.{DoneBy, Timed}

-- What is so before an entry is told.
pub record Before (script : ScriptParts) (ever : ℕ → Bool) (rule : Rule) (past : Past) : Type 0 where
  pub holds : Holds script rule past
  pub timed : Timed script ever rule.controls rule.wave past
  pub answered : AreAnswered (joined (take (rule.wave - 1) script.waves)) past
  pub turns : AreInTurn script past

-- an open line of the current wave, as an item

pub item_here : (script : ScriptParts) (rule : Rule) (past : Past) (d : Control) → IsWellFormed script → Holds script rule past → IsHere rule d
    → IsItem script (rule.wave - 1) d
item_here script rule past d fit h is = item_of script rule.controls (rule.wave - 1) d fit h.shape is.here

-- the wave is the current one where an open line isn't done
current : (script : ScriptParts) (ever : ℕ → Bool) (rule : Rule) (past : Past) (d : Control) → IsWellFormed script → Before script ever rule past
    → (is : IsHere rule d) → (a : IsItem script (rule.wave - 1) d)
    → (ever d.line ≡ true) ⊎ (is_ended (ended_in ever script.waves past) (rule.wave - 1) a.it ≡ false) → wave_at ever script past ≡ rule.wave - 1
current script ever rule past d fit b is a open_ =
    let control = wants_some a.it d.wanted (item_wants script (rule.wave - 1) d a) in
    let none = not_answered script past d.line a.it b.turns a.in_script control (b.holds.unanswered (rule.wave - 1) d is.here is.open_) in
    let le : wave_at ever script past ≤ rule.wave - 1 =
    not_past script ever past (rule.wave - 1) d.line a.it a.stands (awaited ever past (ended_in ever script.waves past) (rule.wave - 1) d.line a.it control none open_) in
    let ge : rule.wave - 1 ≤ wave_at ever script past = reached script ever rule past past b.holds b.answered b.timed.done in
    omega (arith, le, ge)

-- a line that was done stays answered
kept_done : (script : ScriptParts) (ever : ℕ → Bool) (rule : Rule) (past es : Past) (line j : ℕ) (c : Control) (it : Item) → DoneBy script ever rule.controls past
    → (w : Was rule line j c) → w.old.done ≡ true → Stands (c.line, it) (items_at script j)
    → is_answered ever (es ++ past) (ended_in ever script.waves (es ++ past)) j (c.line, it) ≡ true
kept_done script ever rule past es line j c it done w old stands =
    answered_grows ever script.waves es past j c.line it
    (subst (λ (n : ℕ). is_answered ever past (ended_in ever script.waves past) j (n, it) ≡ true) (sym w.number)
    (done j w.old w.here old it (subst (λ (n : ℕ). Stands (n, it) (items_at script j)) w.number stands)))

closed_done : (script : ScriptParts) (ever : ℕ → Bool) (rule : Rule) (past : Past) (e : Entry) (line : ℕ) → DoneBy script ever rule.controls past
    → ((it : Item) → Stands (line, it) (items_at script (rule.wave - 1))
    → is_answered ever (e ∷ past) (ended_in ever script.waves (e ∷ past)) (rule.wave - 1) (line, it) ≡ true)
    → DoneBy script ever (closed rule line).controls (e ∷ past)
closed_done script ever rule past e line done answer j c here is it stands = by (was rule line j c here)
  where
    by : Was rule line j c → is_answered ever (e ∷ past) (ended_in ever script.waves (e ∷ past)) j (c.line, it) ≡ true
    by w = with_ (w.done is)
      where
        with_ : (w.old.done ≡ true) ⊎ ((c.line ≡ line) × (j ≡ rule.wave - 1)) → is_answered ever (e ∷ past) (ended_in ever script.waves (e ∷ past)) j (c.line, it) ≡ true
        with_ (inl old) = kept_done script ever rule past (e ∷ []) line j c it done w old stands
        with_ (inr p) =
            subst (λ (k : ℕ). is_answered ever (e ∷ past) (ended_in ever script.waves (e ∷ past)) k (c.line, it) ≡ true) (sym p.1)
            (subst (λ (n : ℕ). is_answered ever (e ∷ past) (ended_in ever script.waves (e ∷ past)) (rule.wave - 1) (n, it) ≡ true) (sym p.0)
            (answer it (subst (λ (n : ℕ). Stands (n, it) (items_at script (rule.wave - 1))) p.0
            (subst (λ (k : ℕ). Stands (c.line, it) (items_at script k)) p.1 stands))))

closed_starts : (rule : Rule) (line j i : ℕ) → ((c : Control) → IsIn c (at rule.controls j) → c.wanted ≡ Start i → c.done ≡ true)
    → (c : Control) → IsIn c (at (closed rule line).controls j) → c.wanted ≡ Start i → c.done ≡ true
closed_starts rule line j i all c here start =
    let w = was rule line j c here in w.keeps (all w.old w.here (sym w.wanted ∙ start))

-- a control line is answered by an entry

named_up : (script : ScriptParts) (ever : ℕ → Bool) (rule : Rule) (past : Past) (d : Control) (e : Entry) (i j : ℕ) → IsWellFormed script → Before script ever rule past
    → (is : IsHere rule d) → IsItem script (rule.wave - 1) d → ever d.line ≡ true → (is_told_up i past ≡ true) ⊎ (d.wanted ≡ Start i) → rule.wave ≤ j + 1
    → ended_in ever script.waves past j false i ≡ true → (n : ℕ) × Stands (n, item.Start i) (items_at script j)
named_up script ever rule past d e i j fit b is a told (inl up) le ended = b.timed.up i j up le ended
named_up script ever rule past d e i j fit b is a told (inr start) le ended = by (cases_lt (rule.wave - 1) j)
  where
    by : (rule.wave - 1 < j) ⊎ (j ≤ rule.wave - 1) → (n : ℕ) × Stands (n, item.Start i) (items_at script j)
    by (inl less) =
        let control = wants_some a.it d.wanted (item_wants script (rule.wave - 1) d a) in
        let none = not_answered script past d.line a.it b.turns a.in_script control (b.holds.unanswered (rule.wave - 1) d is.here is.open_) in
        absurd (let no : true ≡ false = sym ended ∙ none_later script ever past (rule.wave - 1) d.line a.it a.stands control none told j false i less in cc)
    by (inr low) =
        let first : 1 ≤ rule.wave = b.holds.first in
        let same : rule.wave - 1 ≡ j = omega (arith, low, le, first) in
        (d.line, subst (λ (k : ℕ). Stands (d.line, item.Start i) (items_at script k)) same (start_stands script (rule.wave - 1) i d a start))

pub timed_named : (script : ScriptParts) (ever : ℕ → Bool) (rule : Rule) (past : Past) (d : Control) (e : Entry) → IsWellFormed script → Before script ever rule past
    → IsHere rule d → Names script d e → ever d.line ≡ true → Timed script ever (closed rule d.line).controls rule.wave (e ∷ past)
timed_named script ever rule past d e fit b is names told =
    let a = item_here script rule past d fit b.holds is in
    let same = λ (j : ℕ) (down : Bool) (i : ℕ). ended_same ever script.waves e past j down i (named_ends e i d.line names.names) in
    record {
      done = closed_done script ever rule past e d.line b.timed.done
          (λ it stands. or_left (answers_any (e ∷ past) d.line) _ (name_any d.line (e ∷ past) (or_left (names_line d.line e) (stood (names_line d.line) past)
          (ap (λ (o : Option ℕ). option_map_or (λ n. n == d.line) o false) names.names ∙ eq-eqb d.line d.line refl))));
      up = λ i j was_up le ended. named_up script ever rule past d e i j fit b is a told (names.up i (is_told_up i past) was_up) le (sym (same j false i) ∙ ended);
      down = λ i j le ended. (let p = b.timed.down i j le (sym (same j true i) ∙ ended) in (p.0, closed_starts rule d.line j i p.1));
    }

-- an instance ends

-- what an end more says: it is an old one, or this one
ended_new : (ever : ℕ → Bool) (script : ScriptParts) (i : ℕ) (bad : Bool) (past : Past) (j : ℕ) (down : Bool) (y : ℕ)
    → ended_in ever script.waves (entry.Ended i bad ∷ past) j down y ≡ true
    → (ended_in ever script.waves past j down y ≡ true) ⊎ ((i ≡ y) × (not (down && is_told_up y past) ≡ true) × (wave_at ever script past ≡ j))
ended_new ever script i bad past j down y is = by (ended_in ever script.waves past j down y) is
  where
    by : (b : Bool) → (b || ((i == y) && not (down && is_told_up y past) && (wave_at ever script past == j))) ≡ true
        → (b ≡ true) ⊎ ((i ≡ y) × (not (down && is_told_up y past) ≡ true) × (wave_at ever script past ≡ j))
    by true is = inl refl
    by false is =
        let a = and_parts ((i == y) && not (down && is_told_up y past)) (wave_at ever script past == j) is in
        let c = and_parts (i == y) (not (down && is_told_up y past)) a.0 in
        inr (eqb-true i y c.0, c.1, eqb-true (wave_at ever script past) j a.1)

end_up : (y i : ℕ) (bad before : Bool) → up_after y (entry.Ended i bad) before ≡ true → (i ≡ y → ⊥) × (before ≡ true)
end_up y i bad before is = by (y == i) refl is
  where
    by : (b : Bool) → (y == i) ≡ b → (if b then false else before) ≡ true → (i ≡ y → ⊥) × (before ≡ true)
    by true e is = absurd (let no : false ≡ true = is in cc)
    by false e is = ((λ same. (let no : true ≡ false = sym (eq-eqb y i (sym same)) ∙ e in cc)), is)

end_starts : (script : ScriptParts) (ever : ℕ → Bool) (controls : List (List Control)) (wave : ℕ) (past : Past) (i : ℕ) (bad : Bool) → Timed script ever controls wave past
    → (y j : ℕ) → is_told_up y (entry.Ended i bad ∷ past) ≡ true → wave ≤ j + 1 → ended_in ever script.waves (entry.Ended i bad ∷ past) j false y ≡ true
    → (n : ℕ) × Stands (n, item.Start y) (items_at script j)
end_starts script ever controls wave past i bad t y j up le ended =
    let p = end_up y i bad (is_told_up y past) up in by p.0 p.1 (ended_new ever script i bad past j false y ended)
  where
    by : (i ≡ y → ⊥) → is_told_up y past ≡ true
        → (ended_in ever script.waves past j false y ≡ true) ⊎ ((i ≡ y) × (true ≡ true) × (wave_at ever script past ≡ j))
        → (n : ℕ) × Stands (n, item.Start y) (items_at script j)
    by apart was (inl old) = t.up y j was le old
    by apart was (inr p) = absurd (apart p.0)

not_up : (y i : ℕ) (past : Past) → is_told_up i past ≡ true → i ≡ y → not (is_told_up y past) ≡ true → ⊥
not_up y i past up same is =
    let no : false ≡ true = sym (ap not (ap (λ (k : ℕ). is_told_up k past) (sym same) ∙ up)) ∙ is in cc

-- the end of an instance that was up, which answers no start line
pub timed_up : (script : ScriptParts) (ever : ℕ → Bool) (rule : Rule) (past : Past) (i : ℕ) (bad : Bool) → is_told_up i past ≡ true
    → Before script ever rule past → Timed script ever rule.controls rule.wave (entry.Ended i bad ∷ past)
timed_up script ever rule past i bad up b = record {
  done = λ j c here is it stands. answered_grows ever script.waves (entry.Ended i bad ∷ []) past j c.line it (b.timed.done j c here is it stands);
  up = end_starts script ever rule.controls rule.wave past i bad b.timed;
  down = λ y j le ended. by y j le (ended_new ever script i bad past j true y ended);
}
  where
    by : (y j : ℕ) → rule.wave ≤ j + 1
        → (ended_in ever script.waves past j true y ≡ true) ⊎ ((i ≡ y) × (not (is_told_up y past) ≡ true) × (wave_at ever script past ≡ j))
        → (j + 1 ≡ rule.wave) × ((c : Control) → IsIn c (at rule.controls j) → c.wanted ≡ Start y → c.done ≡ true)
    by y j le (inl old) = b.timed.down y j le old
    by y j le (inr p) = absurd (not_up y i past up p.0 p.1)

-- an end that answers a line of the current wave
ended_answer : (ever : ℕ → Bool) (script : ScriptParts) (i n k : ℕ) (bad down : Bool) (past : Past) (it : Item) → ever n ≡ false
    → is_ended (ended_in ever script.waves (entry.Ended i bad ∷ past)) k it ≡ ended_in ever script.waves (entry.Ended i bad ∷ past) k down i
    → (down && is_told_up i past) ≡ false → wave_at ever script past ≡ k
    → is_answered ever (entry.Ended i bad ∷ past) (ended_in ever script.waves (entry.Ended i bad ∷ past)) k (n, it) ≡ true
ended_answer ever script i n k bad down past it silent is not_up now =
    or_right (answers_any (entry.Ended i bad ∷ past) n) _
    (and_from (not (ever n)) (is_ended (ended_in ever script.waves (entry.Ended i bad ∷ past)) k it) (ap not silent)
    (is ∙ or_right (ended_in ever script.waves past k down i) _
    (and_from ((i == i) && not (down && is_told_up i past)) (wave_at ever script past == k)
    (and_from (i == i) (not (down && is_told_up i past)) (eq-eqb i i refl) (ap not not_up))
    (eq-eqb (wave_at ever script past) k now))))

-- an item with the number of another one of its wave
one_item : (script : ScriptParts) (k n : ℕ) (it other : Item) → IsWellFormed script → item_in (items_at script k) n ≡ Some it
    → Stands (n, other) (items_at script k) → other ≡ it
one_item script k n it other fit is stands = same_Some other it (sym (found_at script k n other fit stands) ∙ is)

-- the end of an instance on its way up, which answers its start line
pub timed_start : (script : ScriptParts) (ever : ℕ → Bool) (rule : Rule) (past : Past) (i : ℕ) (bad : Bool) (d : Control) → IsWellFormed script
    → Before script ever rule past → IsHere rule d → d.wanted ≡ Start i → is_told_up i past ≡ false → ever d.line ≡ false
    → Timed script ever (closed rule d.line).controls rule.wave (entry.Ended i bad ∷ past)
timed_start script ever rule past i bad d fit b is start was_down silent =
    let k = rule.wave - 1 in
    let a = item_here script rule past d fit b.holds is in
    let it : a.it ≡ item.Start i = wants_start a.it i (item_wants script k d a ∙ ap Some start) in
    let first : 1 ≤ rule.wave = b.holds.first in
    let not_ended : ended_in ever script.waves past k true i ≡ false =
    false_from_ne_true (ended_in ever script.waves past k true i)
    (λ ended. (let no : true ≡ false = sym ((b.timed.down i k (omega (arith, first)) ended).1 d is.here start) ∙ is.open_ in cc)) in
    let now : wave_at ever script past ≡ k =
    current script ever rule past d fit b is a (inr (ap (λ (x : Item). is_ended (ended_in ever script.waves past) k x) it ∙ not_ended)) in
    record {
      done = closed_done script ever rule past (entry.Ended i bad) d.line b.timed.done
          (λ x stands. subst (λ (y : Item). is_answered ever (entry.Ended i bad ∷ past) (ended_in ever script.waves (entry.Ended i bad ∷ past)) k (d.line, y) ≡ true)
          (sym (one_item script k d.line a.it x fit a.in_wave stands ∙ it))
          (ended_answer ever script i d.line k bad true past (item.Start i) silent refl was_down now));
      up = end_starts script ever rule.controls rule.wave past i bad b.timed;
      down = λ y j le ended. by now first all_done y j le (ended_new ever script i bad past j true y ended);
    }
  where
    all_done : (y : ℕ) (c : Control) → i ≡ y → IsIn c (at (closed rule d.line).controls (rule.wave - 1)) → c.wanted ≡ Start y → c.done ≡ true
    all_done y c same here begins =
        let k = rule.wave - 1 in
        let w = was rule d.line k c here in
        let old = item_of script rule.controls k w.old fit b.holds.shape w.here in
        let a = item_here script rule past d fit b.holds is in
        let number : w.old.line ≡ d.line =
        start_once script k w.old.line d.line i fit (start_stands script k i w.old old (sym w.wanted ∙ begins ∙ ap Start (sym same))) (start_stands script k i d a start) in
        true_from_ne_false c.done (λ open_. w.other open_ refl (w.number ∙ number))

    by : wave_at ever script past ≡ rule.wave - 1 → 1 ≤ rule.wave → ((y : ℕ) (c : Control) → i ≡ y → IsIn c (at (closed rule d.line).controls (rule.wave - 1)) → c.wanted ≡ Start y → c.done ≡ true)
        → (y j : ℕ) → rule.wave ≤ j + 1
        → (ended_in ever script.waves past j true y ≡ true) ⊎ ((i ≡ y) × (not (is_told_up y past) ≡ true) × (wave_at ever script past ≡ j))
        → (j + 1 ≡ rule.wave) × ((c : Control) → IsIn c (at (closed rule d.line).controls j) → c.wanted ≡ Start y → c.done ≡ true)
    by now first all y j le (inl old) = let p = b.timed.down y j le old in (p.0, closed_starts rule d.line j y p.1)
    by now first all y j le (inr p) =
        let same : j ≡ rule.wave - 1 = sym p.2 ∙ now in
        (omega (arith, same, first), λ c here begins. all y c p.0 (subst (λ (q : ℕ). IsIn c (at (closed rule d.line).controls q)) same here) begins)

crash_ended : (ended : ℕ → Bool → ℕ → Bool) (k i : ℕ) (it : Item) → asks_crash i it ≡ true → is_ended ended k it ≡ ended k false i
crash_ended ended k i (item.CrashAfter inst steps keep) e = ap (λ (x : ℕ). ended k false x) (sym (eqb-true i inst e))
crash_ended ended k i (item.CrashMark inst keep) e = ap (λ (x : ℕ). ended k false x) (sym (eqb-true i inst e))
crash_ended ended k i (item.Start inst) e = absurd (let no : false ≡ true = e in cc)
crash_ended ended k i (item.Remaster bucket to) e = absurd (let no : false ≡ true = e in cc)
crash_ended ended k i (item.Checkpoint inst) e = absurd (let no : false ≡ true = e in cc)
crash_ended ended k i (item.Session session inst) e = absurd (let no : false ≡ true = e in cc)
crash_ended ended k i (item.Stmt session what) e = absurd (let no : false ≡ true = e in cc)
crash_ended ended k i (item.Hold reader until) e = absurd (let no : false ≡ true = e in cc)

-- the end of an instance that was to crash, which answers the line that asks for that
pub timed_crash : (script : ScriptParts) (ever : ℕ → Bool) (rule : Rule) (past : Past) (i : ℕ) (bad : Bool) (d : Control) (when : When) (keep : Keep) → IsWellFormed script
    → Before script ever rule past → IsHere rule d → d.wanted ≡ Crash i when keep → is_told_up i past ≡ true → ever d.line ≡ false
    → Timed script ever (closed rule d.line).controls rule.wave (entry.Ended i bad ∷ past)
timed_crash script ever rule past i bad d when keep fit b is crash up silent =
    let k = rule.wave - 1 in
    let a = item_here script rule past d fit b.holds is in
    let it : asks_crash i a.it ≡ true = wants_crash a.it i when keep (item_wants script k d a ∙ ap Some crash) in
    let first : 1 ≤ rule.wave = b.holds.first in
    let not_ended : ended_in ever script.waves past k false i ≡ false =
    false_from_ne_true (ended_in ever script.waves past k false i)
    (λ ended. (let starts = b.timed.up i k up (omega (arith, first)) ended in crash_no_start script k d.line starts.0 i a.it fit a.stands it starts.1)) in
    let now : wave_at ever script past ≡ k =
    current script ever rule past d fit b is a (inr (crash_ended (ended_in ever script.waves past) k i a.it it ∙ not_ended)) in
    record {
      done = closed_done script ever rule past (entry.Ended i bad) d.line b.timed.done
          (λ x stands. subst (λ (y : Item). is_answered ever (entry.Ended i bad ∷ past) (ended_in ever script.waves (entry.Ended i bad ∷ past)) k (d.line, y) ≡ true)
          (sym (one_item script k d.line a.it x fit a.in_wave stands))
          (ended_answer ever script i d.line k bad false past a.it silent
          (crash_ended (ended_in ever script.waves (entry.Ended i bad ∷ past)) k i a.it it) refl now));
      up = end_starts script ever rule.controls rule.wave past i bad b.timed;
      down = λ y j le ended. by y j le (ended_new ever script i bad past j true y ended);
    }
  where
    by : (y j : ℕ) → rule.wave ≤ j + 1
        → (ended_in ever script.waves past j true y ≡ true) ⊎ ((i ≡ y) × (not (is_told_up y past) ≡ true) × (wave_at ever script past ≡ j))
        → (j + 1 ≡ rule.wave) × ((c : Control) → IsIn c (at (closed rule d.line).controls j) → c.wanted ≡ Start y → c.done ≡ true)
    by y j le (inl old) = let p = b.timed.down y j le old in (p.0, closed_starts rule d.line j y p.1)
    by y j le (inr p) = absurd (not_up y i past up p.0 p.1)

-- the wave of the journal is the machine's where a line is answered by its number
pub told_wave : (script : ScriptParts) (ever : ℕ → Bool) (rule : Rule) (past : Past) (d : Control) → IsWellFormed script → Before script ever rule past
    → IsHere rule d → ever d.line ≡ true → wave_at ever script past ≡ rule.wave - 1
told_wave script ever rule past d fit b is told = current script ever rule past d fit b is (item_here script rule past d fit b.holds is) (inl told)

-- an entry that names a control line is one of the current wave that asks for it
pub asked_now : (script : ScriptParts) (ever : ℕ → Bool) (rule : Rule) (past : Past) (d : Control) (e : Entry) → IsWellFormed script → Before script ever rule past
    → IsHere rule d → Names script d e → ever d.line ≡ true → is_asked_by ever script past e d.line ≡ true
asked_now script ever rule past d e fit b is names told =
    let a = item_here script rule past d fit b.holds is in
    let now = told_wave script ever rule past d fit b is told in
    let asked : asks_for e a.it ≡ true = subst (λ (o : Option Item). IsSomeAnd o (λ it. asks_for e it ≡ true)) a.in_script names.asked in
    and_from (option_map_or (asks_for e) (item_in (lines_in script (wave_at ever script past)) d.line) false) (not (stood (names_line d.line) past))
    (ap (λ (k : ℕ). option_map_or (asks_for e) (item_in (lines_in script k) d.line) false) now
    ∙ ap (λ (o : Option Item). option_map_or (asks_for e) o false) a.in_wave ∙ asked)
    (ap not (b.holds.unanswered (rule.wave - 1) d is.here is.open_))
