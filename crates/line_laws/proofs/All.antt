-- Where the last wave is over, each line is answered.
use Rattle.std.proofs.Common.{◌≡◌, ℕ, zero, suc, ◌+◌, ◌<◌, ◌≤◌, Bool, true, List, [], ◌∷◌, length, Option, Some, slice_get, if◌then◌else◌, refl, sym, ap, subst, ◌∙◌, ◌⊎◌, inl, inr, arith}
use Rattle.std.specs.List.{AllByRecursion}
use Rattle.std.specs.Option.{option_and_then}
use Rattle.std.proofs.lemmas.Bool.{cases_eq, eq-eqb, ne_eqb}
use Rattle.std.proofs.lemmas.Option.{none-some, slice_get_within}
use Rattle.journal.specs.Past.{Past}
use Rattle.journal.specs.Stood.{stood}
use Rattle.script_text.specs.declared.item.Item.{Item}
use Rattle.script_text.specs.declared.item.Item.TheVariants.{Session, Stmt as OfSession}
use Rattle.script_text.specs.declared.item.Stmt.{Stmt}
use Rattle.script_text.specs.declared.script.Settings.{Settings}
use Rattle.script_text.specs.ScriptParts.{ScriptParts}
use Rattle.script_text.specs.GoodLines.{AllAnswered}
use Rattle.script_text.specs.Lines.{answers_stmt, AreAnswered, IsAnswered, stmt_in}
use Rattle.script_text.specs.Lines.{stmt_at as script_stmt}
use Rattle.script_text.specs.Reading.{item_in, items_of}
use Rattle.script_text.specs.WellFormed.{AreOpened, IsItemWithin, IsOpened, IsWellFormed, opened_after, RiseWithin}
use Rattle.inst_state.specs.declared.inst.Inst.{Inst}
use Rattle.inst_state.specs.declared.line.Line.{Line}
use Rattle.first_state.specs.Lines.{session_lines}
use Rattle.first_state.specs.Plan.{numbered}
use Rattle.world_machine.specs.declared.worlds.World.{World}
use Rattle.line_laws.proofs.Courses.{course_at, lines_in}
use Rattle.line_laws.proofs.Places.{at_home}
use Rattle.line_laws.proofs.ScriptLines.{has_line, stmt_no}
use Rattle.line_laws.proofs.Worlds.{Lines}

-- A session has a home among the instances.
abbrev pub HasHome : Settings → List ℕ → ℕ → Type 0
HasHome settings homes z = (i : ℕ) × (slice_get homes z ≡ Some i) × (i < settings.instances)

-- Each session that was opened has a home.
abbrev pub HaveHomes : Settings → List ℕ → ℕ → Type 0
HaveHomes settings homes opened = (z : ℕ) → z < opened → HasHome settings homes z

home_more : (settings : Settings) (homes : List ℕ) (opened inst : ℕ) → HaveHomes settings homes opened → slice_get homes opened ≡ Some inst → inst < settings.instances
    → (z : ℕ) → z < opened + 1 → (z ≡ opened) ⊎ (z ≡ opened → ⊥) → HasHome settings homes z
home_more settings homes opened inst have at less z within (inl same) =
    (inst, ap (λ (k : ℕ). slice_get homes k) same ∙ at, less)
home_more settings homes opened inst have at less z within (inr apart) = have z (omega (arith, within, apart))

pub homes_after : (settings : Settings) (homes : List ℕ) (opened : ℕ) (it : Item) → HaveHomes settings homes opened → IsOpened opened it → IsItemWithin settings homes it
    → HaveHomes settings homes (opened_after opened it)
homes_after settings homes opened (Session session inst) have next within z less =
    home_more settings homes opened inst have (ap (λ (k : ℕ). slice_get homes k) (sym next) ∙ within.0) within.2 z less (cases_eq z opened)
homes_after settings homes opened _ have next within z less = have z less

-- what an item's statement asks for: that its line is answered
item_answered : (settings : Settings) (homes : List ℕ) (opened n : ℕ) (it : Item) (past : Past) → HaveHomes settings homes opened → IsOpened opened it
    → ((z : ℕ) (what : Stmt) → it ≡ OfSession z what → HasHome settings homes z → stood (answers_stmt n) past ≡ true) → IsAnswered n it past
item_answered settings homes opened n (OfSession session what) past have next done = done session what refl (have session next)
item_answered settings homes opened n _ past have next done = tt

-- the item with a number stands behind what has lower ones
item_above : (before most : ℕ) (items : List (ℕ × Item)) (m : ℕ) (found : Item) → RiseWithin before most items → item_in items m ≡ Some found → before < m
item_above before most [] m found rises e = absurd (none-some found e)
item_above before most (x ∷ items) m found rises e =
    by (λ is. item_above x.0 most items m found rises.2 is) (cases_eq x.0 m)
  where
    up : before < x.0
    up = rises.0

    by : (item_in items m ≡ Some found → x.0 < m) → (x.0 ≡ m) ⊎ (x.0 ≡ m → ⊥) → before < m
    by above (inl same) = omega (arith, up, same)
    by above (inr apart) =
        let later : x.0 < m = above (sym (ap (λ (b : Bool). if b then Some x.1 else item_in items m) (ne_eqb x.0 m apart)) ∙ e) in
        omega (arith, up, later)

all_answered : (settings : Settings) (homes : List ℕ) (past : Past) (most before opened : ℕ) (items : List (ℕ × Item)) → RiseWithin before most items
    → AreOpened opened items → AllByRecursion (λ item. IsItemWithin settings homes item.1) items → HaveHomes settings homes opened
    → ((m z : ℕ) (what : Stmt) → item_in items m ≡ Some (OfSession z what) → HasHome settings homes z → stood (answers_stmt m) past ≡ true)
    → AreAnswered items past
all_answered settings homes past most before opened [] rises opens within have done = tt
all_answered settings homes past most before opened (x ∷ items) rises opens within have done = (
  item_answered settings homes opened x.0 x.1 past have opens.0
      (λ z what is home. done x.0 z what (ap (λ (b : Bool). if b then Some x.1 else item_in items x.0) (eq-eqb x.0 x.0 refl) ∙ ap Some is) home),
  all_answered settings homes past most x.0 (opened_after opened x.1) items rises.2 opens.1 within.1 (homes_after settings homes opened x.1 have opens.0 within.0)
      (λ m z what is home. done m z what (
      let above : x.0 < m = item_above x.0 most items m (OfSession z what) rises.2 is in
      ap (λ (b : Bool). if b then Some x.1 else item_in items m) (ne_eqb x.0 m (λ same. omega (arith, same, above))) ∙ is) home),
)

pub inst_there : (insts : List Inst) (i : ℕ) → i < length insts → (n : Inst) × (slice_get insts i ≡ Some n)
inst_there [] i h = absurd (omega (arith, h))
inst_there (x ∷ insts) zero h = (x, refl)
inst_there (x ∷ insts) (suc i) h = inst_there insts i (omega (arith, h))

-- a line before a session's next one is answered
done_at : (ls : List Line) (next m : ℕ) (past : Past) → ((j : ℕ) → j < next → stood (answers_stmt (stmt_no ls j)) past ≡ true) → length ls ≤ next
    → (j : ℕ) × (j < length ls) × (stmt_no ls j ≡ m) → stood (answers_stmt m) past ≡ true
done_at ls next m past done all h =
    subst (λ (k : ℕ). stood (answers_stmt k) past ≡ true) h.2 (done h.0 (let at = h.1 in omega (arith, at, all)))

-- a session's line is answered whose instance has all its lines answered
line_done : (script : ScriptParts) (w : World) (z m : ℕ) (what : Stmt) → IsWellFormed script → Lines script w → w.core.waves.over ≡ true
    → script_stmt script m ≡ Some (z, what) → HasHome script.settings script.homes z → stood (answers_stmt m) w.core.journal ≡ true
line_done script w z m what fit lines over is home =
    let i = home.0 in
    let within : i < length w.insts = (let less = home.2 in let count = lines.count in omega (arith, less, count)) in
    let found = inst_there w.insts i within in
    let n = found.0 in
    let at = lines.insts i n found.1 in
    let named : z < length script.names = (let known = slice_get_within script.homes z i home.1 in let same = fit.sessions_are_named in omega (arith, known, same)) in
    let same : lines_in n.plan z ≡ session_lines z (numbered script) = at_home script n.plan i z at.plan home.1 named in
    let all : length (lines_in n.plan z) ≤ (course_at n z).next = (at.waits z).none over in
    done_at (lines_in n.plan z) (course_at n z).next m w.core.journal (at.stands z).done all
    (subst (λ (l : List Line). (j : ℕ) × (j < length l) × (stmt_no l j ≡ m)) (sym same) (has_line script z m what fit is))

-- each line of a script is answered
pub all : (script : ScriptParts) (w : World) → IsWellFormed script → Lines script w → w.core.waves.over ≡ true → AllAnswered script w.core.journal
all script w fit lines over =
    all_answered script.settings script.homes w.core.journal script.lines 0 0 (items_of script) fit.lines_rise fit.items_opened fit.items_within
    (λ z less. absurd (omega (arith, less)))
    (λ m z what is home. line_done script w z m what fit lines over (ap (λ (o : Option Item). option_and_then stmt_in o) is) home)
