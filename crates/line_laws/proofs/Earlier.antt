-- The lines of the waves before the current one are answered.
use Rattle.std.proofs.Common.{◌≡◌, ℕ, zero, suc, ◌+◌, ◌-◌, ◌<◌, ◌≤◌, Bool, true, false, List, [], ◌∷◌, ◌++◌, length, take, Some, if◌then◌else◌, refl, sym, ap, subst, ◌∙◌, ◌⊎◌, inl, inr, arith}
use Rattle.std.specs.Prelude.{◌==◌}
use Rattle.std.specs.List.{AllByRecursion, enumerate_from, flat_map}
use Rattle.std.proofs.lemmas.Bool.{cases_lt}
use Rattle.std.proofs.lemmas.Option.{none-some, same_Some, slice_get_within}
use Rattle.journal.specs.Past.{Past}
use Rattle.journal.specs.Stood.{stood}
use Rattle.script_text.specs.declared.item.Item.{Item}
use Rattle.script_text.specs.declared.item.Item.TheVariants.{Stmt as OfSession}
use Rattle.script_text.specs.declared.item.Stmt.{Stmt}
use Rattle.script_text.specs.declared.script.Settings.{Settings}
use Rattle.script_text.specs.ScriptParts.{ScriptParts}
use Rattle.script_text.specs.Lines.{answers_stmt, AreAnswered, IsAnswered}
use Rattle.script_text.specs.Reading.{item_in, items_of, joined}
use Rattle.script_text.specs.WellFormed.{AreOpened, IsItemWithin, IsOpened, IsWellFormed, opened_after}
use Rattle.inst_state.specs.declared.line.Line.{Line}
use Rattle.first_state.specs.Lines.{lines_at, session_lines, turn_of, wave_lines}
use Rattle.first_state.specs.Plan.{numbered}
use Rattle.world_machine.specs.declared.worlds.World.{World}
use Rattle.line_laws.specs.Turns.{AreEarlierWavesAnswered}
use Rattle.line_laws.proofs.All.{HasHome, HaveHomes, homes_after, inst_there}
use Rattle.line_laws.proofs.Courses.{course_at, lines_in}
use Rattle.line_laws.proofs.Places.{at_home}
use Rattle.line_laws.proofs.ScriptLines.{HasLine, item_at_stmt, line_first, line_later, line_place, lines_are, stmt_line, stmt_no, wave_no}
use Rattle.line_laws.proofs.Worlds.{Lines}

home_if : (settings : Settings) (homes : List ℕ) (opened : ℕ) (it : Item) (z : ℕ) (what : Stmt) → HaveHomes settings homes opened → IsOpened opened it
    → it ≡ OfSession z what → HasHome settings homes z
home_if settings homes opened it z what have next is =
    have z (subst (λ (x : Item). IsOpened opened x) is next)

-- a session with a statement has a home
home_of_item : (settings : Settings) (homes : List ℕ) (opened : ℕ) (items : List (ℕ × Item)) (m z : ℕ) (what : Stmt) → AreOpened opened items
    → AllByRecursion (λ item. IsItemWithin settings homes item.1) items → HaveHomes settings homes opened → item_in items m ≡ Some (OfSession z what)
    → HasHome settings homes z
home_of_item settings homes opened [] m z what opens within have e = absurd (none-some (OfSession z what) e)
home_of_item settings homes opened (x ∷ items) m z what opens within have e =
    by (λ is. home_of_item settings homes (opened_after opened x.1) items m z what opens.1 within.1 (homes_after settings homes opened x.1 have opens.0 within.0) is) (x.0 == m) refl
  where
    by : (item_in items m ≡ Some (OfSession z what) → HasHome settings homes z) → (b : Bool) → (x.0 == m) ≡ b → HasHome settings homes z
    by later true hit =
        home_if settings homes opened x.1 z what have opens.0
        (same_Some x.1 (OfSession z what) (sym (ap (λ (b : Bool). if b then Some x.1 else item_in items m) hit) ∙ e))
    by later false hit = later (sym (ap (λ (b : Bool). if b then Some x.1 else item_in items m) hit) ∙ e)

-- a line that doesn't wait is answered
before_next : (ls : List Line) (next wave j m : ℕ) (past : Past) → ((i : ℕ) → i < next → stood (answers_stmt (stmt_no ls i)) past ≡ true)
    → ((i : ℕ) → next ≤ i → i < length ls → wave ≤ wave_no ls i) → j < length ls → wave_no ls j < wave → stmt_no ls j ≡ m
    → (j < next) ⊎ (next ≤ j) → stood (answers_stmt m) past ≡ true
before_next ls next wave j m past done now at early is (inl before) = subst (λ (k : ℕ). stood (answers_stmt k) past ≡ true) is (done j before)
before_next ls next wave j m past done now at early is (inr from) = absurd (let late : wave ≤ wave_no ls j = now j from at in omega (arith, late, early))

-- each line of a wave before the current one is answered
pub line_before : (script : ScriptParts) (w : World) (z m v : ℕ) → IsWellFormed script → Lines script w → HasLine m v (session_lines z (numbered script))
    → v < 1 + (w.core.waves.wave - 1) → stood (answers_stmt m) w.core.journal ≡ true
line_before script w z m v fit lines has early =
    let ls = session_lines z (numbered script) in
    let are = lines_are script z fit in
    let place = line_place m v ls has in
    let j = place.0 in
    let at : j < length ls = place.1 in
    let stmt = are.are j at in
    let item = item_at_stmt script (stmt_no ls j) z stmt.0 stmt.1 in
    let home = home_of_item script.settings script.homes 0 (items_of script) (stmt_no ls j) z stmt.0 fit.items_opened fit.items_within (λ y less. absurd (omega (arith, less))) item in
    let i = home.0 in
    let within : i < length w.insts = (let less = home.2 in let count = lines.count in omega (arith, less, count)) in
    let found = inst_there w.insts i within in
    let n = found.0 in
    let here = lines.insts i n found.1 in
    let named : z < length script.names = (let known = slice_get_within script.homes z i home.1 in let same = fit.sessions_are_named in omega (arith, known, same)) in
    let same : lines_in n.plan z ≡ ls = at_home script n.plan i z here.plan home.1 named in
    let first : 1 ≤ wave_no ls j = are.first j at in
    let wave : wave_no ls j ≡ v = place.3 in
    before_next ls (course_at n z).next w.core.waves.wave j m w.core.journal
    (λ k before. subst (λ (l : List Line). stood (answers_stmt (stmt_no l k)) w.core.journal ≡ true) same ((here.stands z).done k before))
    (λ k from within_now. subst (λ (l : List Line). w.core.waves.wave ≤ wave_no l k) same ((here.waits z).now k from (subst (λ (l : List Line). k < length l) (sym same) within_now)))
    at (omega (arith, first, wave, early)) place.2 (cases_lt j (course_at n z).next)

pub both_answered : (xs ys : List (ℕ × Item)) (past : Past) → AreAnswered xs past → AreAnswered ys past → AreAnswered (xs ++ ys) past
both_answered [] ys past a b = b
both_answered (x ∷ xs) ys past a b = (a.0, both_answered xs ys past a.1 b)

item_done : (n : ℕ) (it : Item) (past : Past) → ((z : ℕ) (what : Stmt) → it ≡ OfSession z what → stood (answers_stmt n) past ≡ true) → IsAnswered n it past
item_done n (OfSession session what) past done = done session what refl
item_done n _ past done = tt

-- each statement of a wave, of which some items are left, is answered
pub wave_done : (k : ℕ) (wave items : List (ℕ × Item)) (past : Past)
    → ((z m : ℕ) → HasLine m k (flat_map (lines_at (turn_of z (k, wave))) items) → stood (answers_stmt m) past ≡ true) → AreAnswered items past
wave_done k wave [] past done = tt
wave_done k wave (x ∷ items) past done = (
  item_done x.0 x.1 past (λ z what is. done z x.0 (line_first x.0 k (lines_at (turn_of z (k, wave)) (x.0, x.1)) (flat_map (lines_at (turn_of z (k, wave))) items) (stmt_line (turn_of z (k, wave)) x.0 x.1 what is))),
  wave_done k wave items past (λ z m h. done z m (line_later m k (lines_at (turn_of z (k, wave)) (x.0, x.1)) (flat_map (lines_at (turn_of z (k, wave))) items) h)),
)

-- each statement of the first so many waves is answered
waves_done : (d k : ℕ) (waves : List (List (ℕ × Item))) (past : Past)
    → ((z m v : ℕ) → HasLine m v (session_lines z (enumerate_from k waves)) → v < k + d → stood (answers_stmt m) past ≡ true) → AreAnswered (joined (take d waves)) past
waves_done zero k waves past done = tt
waves_done (suc d) k [] past done = tt
waves_done (suc d) k (wave ∷ waves) past done =
    both_answered wave (joined (take d waves)) past
    (wave_done k wave wave past (λ z m h. done z m k (line_first m k (wave_lines z (k, wave)) (session_lines z (enumerate_from (k + 1) waves)) h) (omega arith)))
    (waves_done d (k + 1) waves past (λ z m v h less. done z m v (line_later m v (wave_lines z (k, wave)) (session_lines z (enumerate_from (k + 1) waves)) h) (omega (arith, less))))

-- the waves before the current one are answered
pub earlier : (script : ScriptParts) (w : World) → IsWellFormed script → Lines script w → AreEarlierWavesAnswered script w.core.waves.wave w.core.journal
earlier script w fit lines =
    waves_done (w.core.waves.wave - 1) 1 script.waves w.core.journal (λ z m v h less. line_before script w z m v fit lines h less)
