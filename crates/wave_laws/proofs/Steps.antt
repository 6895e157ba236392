-- What a step leaves true of the control lines.
use Rattle.std.proofs.Common.{◌≡◌, ℕ, zero, suc, ◌-◌, ◌<◌, Bool, true, false, List, [], ◌∷◌, ◌++◌, length, map, Option, Some, if◌then◌else◌, refl, sym, ap, subst, ◌∙◌, inl, inr, arith}
use Rattle.std.specs.Prelude.{not, IsSomeAnd, slice_set}
use Rattle.std.proofs.lemmas.Bool.{and_parts, eq-eqb, eqb-true, ne_eqb}
use Rattle.std.proofs.lemmas.List.{get_or-set_other, get_or-set_same, length-set}
use Rattle.inst_set.specs.declared.set.InstSet.{InstSet}
use Rattle.inst_set.specs.Sets.{has, with_inst, without_inst}
use Rattle.journal.specs.declared.entry.Entry.{Entry}
use Rattle.journal.specs.declared.entry.Entry.TheVariants as entry
use Rattle.journal.specs.Past.{is_up as is_told_up, Past, up_after}
use Rattle.script_text.specs.declared.item.Item.{Item}
use Rattle.script_text.specs.declared.item.Item.TheVariants as item
use Rattle.script_text.specs.ScriptParts.{ScriptParts}
use Rattle.script_text.specs.Reading.{item_at}
use Rattle.script_text.specs.WellFormed.{IsWellFormed}
use Rattle.inst_state.specs.declared.control.Control.{Control}
use Rattle.inst_state.specs.declared.control.Wanted.{Wanted}
use Rattle.inst_state.specs.declared.control.Wanted.TheVariants.{Checkpoint, Crash, Move, Start}
use Rattle.inst_state.specs.declared.inst.Begun.{Begun}
use Rattle.inst_state.specs.declared.inst.Inst.{Inst}
use Rattle.inst_state.specs.declared.inst.Life.{Life}
use Rattle.inst_state.specs.declared.inst.Life.TheVariants.{Down, Joining, Up}
use Rattle.inst_state.specs.declared.shared.Core.{Core}
use Rattle.inst_state.specs.Controls.{is_checkpoint_of, maker}
use Rattle.inst_state.specs.Shared.{is_live, wave_controls}
use Rattle.inst_state.specs.State.{is_down, is_up}
use Rattle.wave_steps.specs.Begins.{begins_by, begun_in, begun_now}
use Rattle.wave_steps.specs.WaveEnd.{finds_nothing, joins_by}
use Rattle.good_run.specs.ControlLines.{asks_checkpoint, asks_for, control_line}
use Rattle.wave_laws.proofs.Closing.{at}
use Rattle.wave_laws.proofs.Items.{IsItem, item_of, item_wants, wants_check, wants_move, wants_some, wants_start}
use Rattle.wave_laws.proofs.Ruled.{Answers, begun_lines, Calms, checks, closed, IsIn, IsOf, IsOpen, Keeps, moves, Rule, rule_of, skips}
use Rattle.wave_laws.proofs.Rules.{calms, calms_up, close, Holds, IsRuled, none_open, still_joining, tell}

-- What a step leaves of what holds: of the control lines, of the instance that makes it, and of the others.
pub record Next (script : ScriptParts) (rule now : Rule) (past : Past) (es : List Entry) (i : ℕ) (m : Inst) : Type 0 where
  pub holds : Holds script now (es ++ past)
  pub own : IsRuled script now (es ++ past) i m
  pub others : (y : ℕ) (x : Inst) → (y ≡ i → ⊥) → IsRuled script rule past y x → IsRuled script now (es ++ past) y x

-- entries that tell of no control line

other_calm : (script : ScriptParts) (rule : Rule) (past : Past) (es : List Entry) (y : ℕ) (x : Inst) → Calms es → IsRuled script rule past y x
    → IsRuled script rule (es ++ past) y x
other_calm script rule past es y x q is = record {
  me = is.me;
  few = is.few;
  up = calms_up y es past q ∙ is.up;
  live = is.live;
  joining = is.joining;
  begun = is.begun;
}

pub own_kept : (script : ScriptParts) (rule : Rule) (past : Past) (i : ℕ) (n m : Inst) → Keeps n m → IsRuled script rule past i n → IsRuled script rule past i m
own_kept script rule past i n m same is = record {
  me = same.me ∙ is.me;
  few = is.few;
  up = is.up ∙ ap is_up (sym same.life);
  live = is.live ∙ ap (λ (l : Life). not (is_down l)) (sym same.life);
  joining = λ line e. is.joining line (sym same.life ∙ e);
  begun = λ line h. is.begun line (subst (λ (ls : List ℕ). IsOf line ls) same.lines h);
}

pub next_rests : (script : ScriptParts) (rule now : Rule) (past : Past) (es : List Entry) (i : ℕ) (n m : Inst) → Keeps n m → now ≡ rule → Calms es
    → Holds script rule past → IsRuled script rule past i n → Next script rule now past es i m
next_rests script rule now past es i n m same is q h own =
    subst (λ (r : Rule). Next script rule r past es i m) (sym is) (record {
      holds = calms script rule past es q h;
      own = other_calm script rule past es i m q (own_kept script rule past i n m same own);
      others = λ y x apart it. other_calm script rule past es y x q it;
    })

-- an instance enters the wave

wants_of_check : (me : ℕ) (wanted : Wanted) → is_checkpoint_of me wanted ≡ true → wanted ≡ Checkpoint me
wants_of_check me (Checkpoint inst) e = ap Checkpoint (eqb-true inst me e)
wants_of_check me (Crash inst when keep) e = absurd (let no : false ≡ true = e in cc)
wants_of_check me (Start inst) e = absurd (let no : false ≡ true = e in cc)
wants_of_check me (Move bucket to) e = absurd (let no : false ≡ true = e in cc)

now_line : (n : Inst) (line : ℕ) → (begun_now n line).line ≡ line
unfolding begun_now
now_line n line = refl

begun_asked : (n : Inst) (cs : List Control) (line : ℕ) → IsOf line (map (λ (begun : Begun). begun.line) (begun_in n cs))
    → (c : Control) × IsIn c cs × (c.line ≡ line) × (c.wanted ≡ Checkpoint n.plan.me)
begun_asked n [] line h = absurd h
begun_asked n (c ∷ cs) line h = by (begins_by n c) refl h (begun_asked n cs line)
  where
    by : (b : Bool) → begins_by n c ≡ b
        → IsOf line (map (λ (begun : Begun). begun.line) ((if b then begun_now n c.line ∷ [] else []) ++ begun_in n cs))
        → (IsOf line (map (λ (begun : Begun). begun.line) (begun_in n cs)) → (d : Control) × IsIn d cs × (d.line ≡ line) × (d.wanted ≡ Checkpoint n.plan.me))
        → (d : Control) × IsIn d (c ∷ cs) × (d.line ≡ line) × (d.wanted ≡ Checkpoint n.plan.me)
    by true is (inl same) rest =
        (c, inl refl, sym (now_line n c.line) ∙ same, wants_of_check n.plan.me c.wanted (and_parts (not c.done) (is_checkpoint_of n.plan.me c.wanted) is).1)
    by true is (inr later) rest = let more = rest later in (more.0, inr more.1, more.2, more.3)
    by false is later rest = let more = rest later in (more.0, inr more.1, more.2, more.3)

pub asked_at : (script : ScriptParts) (line : ℕ) (it : Item) (P : Item → Type 0) → item_at script line ≡ Some it → P it → IsSomeAnd (item_at script line) P
asked_at script line it P is p = subst (λ (o : Option Item). IsSomeAnd o P) (sym is) p

pub next_enters : (script : ScriptParts) (n m : Inst) (core : Core) (now : Rule) (past : Past) (es : List Entry) (i : ℕ) → IsWellFormed script
    → m.life ≡ n.life → m.plan.me ≡ n.plan.me → m.wave.checkpoints ≡ begun_in n (wave_controls core.waves) → now ≡ rule_of core → Calms es
    → Holds script (rule_of core) past → IsRuled script (rule_of core) past i n → Next script (rule_of core) now past es i m
next_enters script n m core now past es i fit life me begins is q h own =
    subst (λ (r : Rule). Next script (rule_of core) r past es i m) (sym is) (record {
      holds = calms script (rule_of core) past es q h;
      own = record {
        me = me ∙ own.me;
        few = own.few;
        up = calms_up i es past q ∙ own.up ∙ ap is_up (sym life);
        live = own.live ∙ ap (λ (l : Life). not (is_down l)) (sym life);
        joining = λ line e. own.joining line (sym life ∙ e);
        begun = λ line of. (
            let it = begun_asked n (wave_controls core.waves) line (subst (λ (xs : List Begun). IsOf line (map (λ (begun : Begun). begun.line) xs)) begins of) in
            let a = item_of script core.waves.controls (core.waves.wave - 1) it.0 fit h.shape it.1 in
            asked_at script line a.it (λ it. asks_checkpoint it ≡ true) (ap (λ (k : ℕ). item_at script k) (sym it.2) ∙ a.in_script)
            (wants_check a.it n.plan.me (item_wants script (core.waves.wave - 1) it.0 a ∙ ap Some it.3)));
      };
      others = λ y x apart it. other_calm script (rule_of core) past es y x q it;
    })

-- sets of instances

pub now_in : (live : InstSet) (i : ℕ) → length live.present ≡ 8 → i < 8 → has (with_inst live i) i ≡ true
now_in live i eight few = get_or-set_same live.present i true false (omega (arith, eight, few))

pub in_other : (live : InstSet) (i y : ℕ) → (y ≡ i → ⊥) → has (with_inst live i) y ≡ has live y
in_other live i y apart = get_or-set_other live.present i y true false apart

pub out_by : (xs : List Bool) (i : ℕ) → has (record { present = slice_set xs i false }) i ≡ false
out_by [] i = refl
out_by (x ∷ xs) zero = refl
out_by (x ∷ xs) (suc i) = out_by xs i

pub out_other : (live : InstSet) (i y : ℕ) → (y ≡ i → ⊥) → has (without_inst live i) y ≡ has live y
out_other live i y apart = get_or-set_other live.present i y false false apart

-- what a life is

down_by : (l : Life) → not (is_down l) ≡ false → l ≡ Down
down_by Down e = refl
down_by Up e = absurd (let no : true ≡ false = e in cc)
down_by (Joining line) e = absurd (let no : true ≡ false = e in cc)

line_in : Life → ℕ
line_in (Joining line) = line
line_in _ = 0

pub same_line : (a b : ℕ) → Joining a ≡ Joining b → a ≡ b
unfolding line_in
same_line a b e = ap line_in e

is_joining : Life → Bool
is_joining (Joining line) = true
is_joining _ = false

pub up_not : (line : ℕ) → Up ≡ Joining line → ⊥
unfolding is_joining
up_not line e = let no : false ≡ true = ap is_joining e in cc

pub down_not : (line : ℕ) → Down ≡ Joining line → ⊥
unfolding is_joining
down_not line e = let no : false ≡ true = ap is_joining e in cc

-- an instance comes in

pub next_comes : (script : ScriptParts) (n m : Inst) (core : Core) (now : Rule) (past : Past) (i : ℕ) (c : Control) → IsOpen core c → c.wanted ≡ Start n.plan.me
    → is_live core n.plan.me ≡ false → m.life ≡ Joining c.line → begun_lines m ≡ begun_lines n → m.plan.me ≡ n.plan.me
    → now ≡ record { controls = core.waves.controls; wave = core.waves.wave; live = with_inst core.members.live n.plan.me }
    → Holds script (rule_of core) past → IsRuled script (rule_of core) past i n → Next script (rule_of core) now past [] i m
next_comes script n m core now past i c is start live life lines me is_now h own =
    let r : Rule = record { controls = core.waves.controls; wave = core.waves.wave; live = with_inst core.members.live n.plan.me } in
    subst (λ (q : Rule). Next script (rule_of core) q past [] i m) (sym is_now) (record {
      holds = record { shape = h.shape; first = h.first; within = h.within; small = h.small; done = h.done; unanswered = h.unanswered; asked = h.asked; eight = length-set core.members.live.present n.plan.me true ∙ h.eight };
      own = record {
        me = me ∙ own.me;
        few = own.few;
        up = own.up ∙ ap is_up (down_by n.life (sym own.live ∙ ap (λ (k : ℕ). has core.members.live k) (sym own.me) ∙ live)) ∙ ap is_up (sym life);
        live = ap (λ (k : ℕ). has (with_inst core.members.live k) i) own.me ∙ now_in core.members.live i h.eight own.few ∙ ap (λ (l : Life). not (is_down l)) (sym life);
        joining = λ line e. record {
          by = c;
          here = is.here;
          number = same_line c.line line (sym life ∙ e);
          wanted = start ∙ ap Start own.me;
          open_ = is.open_;
        };
        begun = λ line of. own.begun line (subst (λ (ls : List ℕ). IsOf line ls) lines of);
      };
      others = λ y x apart it. record {
        me = it.me;
        few = it.few;
        up = it.up;
        live = in_other core.members.live n.plan.me y (λ same. apart (same ∙ own.me)) ∙ it.live;
        joining = λ line e. (let j = it.joining line e in record { by = j.by; here = j.here; number = j.number; wanted = j.wanted; open_ = j.open_ });
        begun = it.begun;
      };
    })

-- a control line of the wave is answered

closes : (script : ScriptParts) (rule : Rule) (past : Past) (i : ℕ) (m : Inst) (d : Control) (e : Entry) → IsWellFormed script → Holds script rule past
    → IsIn d (at rule.controls (rule.wave - 1)) → d.done ≡ false → control_line e ≡ Some d.line → IsSomeAnd (item_at script d.line) (λ it. asks_for e it ≡ true)
    → ((y : ℕ) → (y ≡ i → ⊥) → d.wanted ≡ Start y → ⊥) → ((y : ℕ) (before : Bool) → (y ≡ i → ⊥) → up_after y e before ≡ before)
    → IsRuled script (closed rule d.line) (e ∷ past) i m → Next script rule (closed rule d.line) past (e ∷ []) i m
closes script rule past i m d e fit h here open_ is asked away elsewhere own = record {
  holds = tell script (closed rule d.line) past e d.line is asked (h.unanswered (rule.wave - 1) d here open_)
      (λ j c there was_open same. none_open script rule past d fit h here j c there was_open same) (close script rule past d.line h);
  own = own;
  others = λ y x apart it. record {
    me = it.me;
    few = it.few;
    up = elsewhere y (is_told_up y past) apart ∙ it.up;
    live = it.live;
    joining = λ line e. still_joining script rule past y line d fit h here (λ same wanted. away y apart wanted) (it.joining line e);
    begun = it.begun;
  };
}

pub next_rises : (script : ScriptParts) (rule now : Rule) (past : Past) (es : List Entry) (i : ℕ) (n m : Inst) (line : ℕ) → IsWellFormed script
    → n.life ≡ Joining line → m.life ≡ Up → begun_lines m ≡ begun_lines n → m.plan.me ≡ i → now ≡ closed rule line → es ≡ entry.Up line n.plan.me ∷ []
    → Holds script rule past → IsRuled script rule past i n → Next script rule now past es i m
next_rises script rule now past es i n m line fit was life lines mine is told h own =
    let j = own.joining line was in
    let a = item_of script rule.controls (rule.wave - 1) j.by fit h.shape j.here in
    let it : a.it ≡ item.Start i = wants_start a.it i (item_wants script (rule.wave - 1) j.by a ∙ ap Some j.wanted) in
    subst (λ (r : Rule). Next script rule r past es i m) (sym is)
    (subst (λ (l : List Entry). Next script rule (closed rule line) past l i m) (sym told)
    (subst (λ (k : ℕ). Next script rule (closed rule k) past (entry.Up k n.plan.me ∷ []) i m) j.number
    (closes script rule past i m j.by (entry.Up j.by.line n.plan.me) fit h j.here j.open_ refl
    (asked_at script j.by.line a.it (λ it. asks_for (entry.Up j.by.line n.plan.me) it ≡ true) a.in_script
    (ap (λ (x : Item). asks_for (entry.Up j.by.line n.plan.me) x) it ∙ eq-eqb n.plan.me i own.me))
    (λ y apart start. apart (sym (ap maker (sym j.wanted ∙ start))))
    (λ y before apart. ap (λ (b : Bool). if b then true else before) (ne_eqb y n.plan.me (λ same. apart (same ∙ own.me))))
    (record {
      me = mine;
      few = own.few;
      up = ap (λ (b : Bool). if b then true else is_told_up i past) (eq-eqb i n.plan.me (sym own.me)) ∙ ap is_up (sym life);
      live = own.live ∙ ap (λ (l : Life). not (is_down l)) was ∙ ap (λ (l : Life). not (is_down l)) (sym life);
      joining = λ k e. absurd (up_not k (sym life ∙ e));
      begun = λ k of. own.begun k (subst (λ (ls : List ℕ). IsOf k ls) lines of);
    }))))

-- a line is answered that is done or finds nothing to do

abbrev pub wanted_is : Wanted → ℕ
wanted_is (Crash inst when keep) = 0
wanted_is (Start inst) = 1
wanted_is (Move bucket to) = 2
wanted_is (Checkpoint inst) = 3

start_not_move : (y bucket to : ℕ) (wanted : Wanted) → wanted ≡ Start y → wanted ≡ Move bucket to → ⊥
start_not_move y bucket to wanted a b = let no : 1 ≡ 2 = ap wanted_is (sym a ∙ b) in omega (arith, no)

pub start_not_crash : (y me : ℕ) (wanted : Wanted) → wanted ≡ Start y → (wanted_is wanted ≡ 0) → ⊥
start_not_crash y me wanted a b = let no : 1 ≡ 0 = ap wanted_is (sym a) ∙ b in omega (arith, no)

start_not_check : (script : ScriptParts) (j : ℕ) (d : Control) (y : ℕ) (a : IsItem script j d) → d.wanted ≡ Start y
    → IsSomeAnd (item_at script d.line) (λ it. asks_checkpoint it ≡ true) → ⊥
start_not_check script j d y a start asked =
    let it : a.it ≡ item.Start y = wants_start a.it y (item_wants script j d a ∙ ap Some start) in
    let no : false ≡ true = subst (λ (o : Option Item). IsSomeAnd o (λ it. asks_checkpoint it ≡ true)) (a.in_script ∙ ap Some it) asked in cc

joins_not : (line number : ℕ) (life : Life) → life ≡ Joining line → number ≡ line → not (joins_by number life) ≡ true → ⊥
joins_not line number life is same e =
    let no : false ≡ true = sym (ap (λ (l : Life). not (joins_by number l)) is ∙ ap not (eq-eqb line number (sym same))) ∙ e in cc

-- No start line of the instance itself is answered so by which it is on its way up, nor one of another.
away_from : (script : ScriptParts) (n : Inst) (core : Core) (past : Past) (i : ℕ) (c : Control) (e : Entry) → IsItem script (core.waves.wave - 1) c
    → IsRuled script (rule_of core) past i n → Answers n core c e → (y : ℕ) → (y ≡ i → ⊥) → c.wanted ≡ Start y → ⊥
away_from script n core past i c e a own (skips by none is) y apart start = apart (sym (ap maker start) ∙ by ∙ own.me)
away_from script n core past i c e a own (moves bucket to move is) y apart start = start_not_move y bucket to c.wanted start move
away_from script n core past i c e a own (checks of is) y apart start = start_not_check script (core.waves.wave - 1) c y a start (own.begun c.line of)

away_own : (script : ScriptParts) (n : Inst) (core : Core) (past : Past) (i : ℕ) (c : Control) (e : Entry) → IsItem script (core.waves.wave - 1) c
    → IsRuled script (rule_of core) past i n → Answers n core c e → (line : ℕ) → n.life ≡ Joining line → c.line ≡ line → c.wanted ≡ Start i → ⊥
away_own script n core past i c e a own (skips by none is) line life same start =
    joins_not line c.line n.life life same
    (and_parts (is_live core n.plan.me) (not (joins_by c.line n.life)) (sym (ap (λ (w : Wanted). finds_nothing n core c.line w) start) ∙ none)).1
away_own script n core past i c e a own (moves bucket to move is) line life same start = start_not_move i bucket to c.wanted start move
away_own script n core past i c e a own (checks of is) line life same start = start_not_check script (core.waves.wave - 1) c i a start (own.begun c.line of)

-- what such an answer tells
pub record Told (script : ScriptParts) (c : Control) (e : Entry) : Type 0 where
  pub names : control_line e ≡ Some c.line
  pub asked : IsSomeAnd (item_at script c.line) (λ it. asks_for e it ≡ true)
  pub up : (y : ℕ) (before : Bool) → up_after y e before ≡ before

pub told_by : (script : ScriptParts) (n : Inst) (core : Core) (past : Past) (i : ℕ) (c : Control) (e : Entry) → IsItem script (core.waves.wave - 1) c
    → IsRuled script (rule_of core) past i n → Answers n core c e → Told script c e
told_by script n core past i c e a own (skips by none is) =
    subst (λ (x : Entry). Told script c x) (sym is) (record {
      names = refl;
      asked = asked_at script c.line a.it (λ it. asks_for (entry.NotDone c.line) it ≡ true) a.in_script (wants_some a.it c.wanted (item_wants script (core.waves.wave - 1) c a));
      up = λ y before. refl;
    })
told_by script n core past i c e a own (moves bucket to move is) =
    subst (λ (x : Entry). Told script c x) (sym is) (record {
      names = refl;
      asked = asked_at script c.line a.it (λ it. asks_for (entry.Moved c.line) it ≡ true) a.in_script
          (wants_move a.it bucket to (item_wants script (core.waves.wave - 1) c a ∙ ap Some move));
      up = λ y before. refl;
    })
told_by script n core past i c e a own (checks of is) =
    subst (λ (x : Entry). Told script c x) (sym is) (record { names = refl; asked = own.begun c.line of; up = λ y before. refl })

pub next_answers : (script : ScriptParts) (n m : Inst) (core : Core) (now : Rule) (past : Past) (es : List Entry) (i : ℕ) (c : Control) (e : Entry) → IsWellFormed script
    → IsOpen core c → m.life ≡ n.life → ((line : ℕ) → IsOf line (begun_lines m) → IsOf line (begun_lines n)) → m.plan.me ≡ i
    → now ≡ closed (rule_of core) c.line → Answers n core c e → es ≡ e ∷ []
    → Holds script (rule_of core) past → IsRuled script (rule_of core) past i n → Next script (rule_of core) now past es i m
next_answers script n m core now past es i c e fit is life lines mine is_now how_ told h own =
    let rule = rule_of core in
    let a = item_of script rule.controls (rule.wave - 1) c fit h.shape is.here in
    let t = told_by script n core past i c e a own how_ in
    subst (λ (r : Rule). Next script rule r past es i m) (sym is_now)
    (subst (λ (l : List Entry). Next script rule (closed rule c.line) past l i m) (sym told)
    (closes script rule past i m c e fit h is.here is.open_ t.names t.asked (away_from script n core past i c e a own how_) (λ y before apart. t.up y before)
    (record {
      me = mine;
      few = own.few;
      up = t.up i (is_told_up i past) ∙ own.up ∙ ap is_up (sym life);
      live = own.live ∙ ap (λ (l : Life). not (is_down l)) (sym life);
      joining = λ line e_. still_joining script rule past i line c fit h is.here (away_own script n core past i c e a own how_ line (sym life ∙ e_)) (own.joining line (sym life ∙ e_));
      begun = λ line of. own.begun line (lines line of);
    })))
