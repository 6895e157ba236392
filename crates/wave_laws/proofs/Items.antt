-- The control lines of the waves are those of the script.
use Rattle.std.proofs.Common.{◌≡◌, ℕ, zero, suc, ◌<◌, Bool, true, false, List, [], ◌∷◌, ◌++◌, map, get_or, Option, Some, None, if◌then◌else◌, refl, sym, ap, subst, ◌∙◌, ◌⊎◌, inl, inr, arith}
use Rattle.std.specs.Prelude.{slice_index_or}
use Rattle.std.specs.List.{flat_map}
use Rattle.std.proofs.Math.ListN.{get_or-map}
use Rattle.std.proofs.lemmas.Bool.{eq-eqb, ne_eqb}
use Rattle.std.proofs.lemmas.Option.{none-some, same_Some}
use Rattle.script_text.specs.declared.item.Item.{Item}
use Rattle.script_text.specs.declared.item.Item.TheVariants as item
use Rattle.script_text.specs.declared.item.Keep.{Keep}
use Rattle.script_text.specs.ScriptParts.{ScriptParts}
use Rattle.script_text.specs.Reading.{item_at, item_in, items_of, joined}
use Rattle.script_text.specs.WellFormed.{IsWellFormed, RiseWithin}
use Rattle.inst_state.specs.declared.control.Control.{Control}
use Rattle.inst_state.specs.declared.control.Wanted.{Wanted}
use Rattle.inst_state.specs.declared.control.Wanted.TheVariants.{Checkpoint, Crash, Move, Start}
use Rattle.inst_state.specs.declared.control.When.{When}
use Rattle.inst_state.specs.declared.control.When.TheVariants.{After, AtMark}
use Rattle.inst_state.specs.Controls.{maker}
use Rattle.first_state.specs.Controls.{controls_at, controls_in, controls_of}
use Rattle.good_run.specs.ControlLines.{asks_checkpoint, asks_crash, asks_move, is_control}
use Rattle.wave_laws.proofs.Closing.{at, fresh, map_in}
use Rattle.wave_laws.proofs.Ruled.{IsIn}

-- an item with a number is among these
abbrev pub Stands : ℕ × Item → List (ℕ × Item) → Type 0
Stands x [] = ⊥
Stands x (y ∷ ys) = (y ≡ x) ⊎ Stands x ys

-- the items of a wave, counted from 0
abbrev pub items_at : ScriptParts → ℕ → List (ℕ × Item)
items_at script j = slice_index_or script.waves j []

above : (before most : ℕ) (items : List (ℕ × Item)) (x : ℕ × Item) → RiseWithin before most items → Stands x items → before < x.0
above before most [] x rises h = absurd h
above before most (y ∷ items) x rises (inl same) =
    let up : before < y.0 = rises.0 in let is : y.0 ≡ x.0 = ap (λ (z : ℕ × Item). z.0) same in omega (arith, up, is)
above before most (y ∷ items) x rises (inr h) =
    let up : before < y.0 = rises.0 in let more : y.0 < x.0 = above y.0 most items x rises.2 h in omega (arith, up, more)

-- an item is the one with its number
pub found : (before most : ℕ) (items : List (ℕ × Item)) (n : ℕ) (it : Item) → RiseWithin before most items → Stands (n, it) items → item_in items n ≡ Some it
found before most [] n it rises h = absurd h
found before most (y ∷ items) n it rises (inl same) =
    ap (λ (b : Bool). if b then Some y.1 else item_in items n) (eq-eqb y.0 n (ap (λ (z : ℕ × Item). z.0) same)) ∙ ap (λ (z : ℕ × Item). Some z.1) same
found before most (y ∷ items) n it rises (inr h) =
    let up : y.0 < n = above y.0 most items (n, it) rises.2 h in
    ap (λ (b : Bool). if b then Some y.1 else item_in items n) (ne_eqb y.0 n (λ same. omega (arith, same, up))) ∙ found y.0 most items n it rises.2 h

pub stands_left : (x : ℕ × Item) (xs ys : List (ℕ × Item)) → Stands x xs → Stands x (xs ++ ys)
stands_left x [] ys h = absurd h
stands_left x (y ∷ xs) ys (inl same) = inl same
stands_left x (y ∷ xs) ys (inr h) = inr (stands_left x xs ys h)

pub stands_right : (x : ℕ × Item) (xs ys : List (ℕ × Item)) → Stands x ys → Stands x (xs ++ ys)
stands_right x [] ys h = h
stands_right x (y ∷ xs) ys h = inr (stands_right x xs ys h)

pub stands_joined : (x : ℕ × Item) (waves : List (List (ℕ × Item))) (j : ℕ) → Stands x (slice_index_or waves j []) → Stands x (joined waves)
stands_joined x [] j h = absurd h
stands_joined x (w ∷ waves) zero h = stands_left x w (joined waves) h
stands_joined x (w ∷ waves) (suc j) h = stands_right x w (joined waves) (stands_joined x waves j h)

-- the numbers of one part rise, and those of the next one are above them
rises_left : (before most : ℕ) (xs ys : List (ℕ × Item)) → RiseWithin before most (xs ++ ys) → RiseWithin before most xs
rises_left before most [] ys rises = tt
rises_left before most (x ∷ xs) ys rises = (rises.0, rises.1, rises_left x.0 most xs ys rises.2)

rises_right : (before most : ℕ) (xs ys : List (ℕ × Item)) → RiseWithin before most (xs ++ ys) → (b : ℕ) × RiseWithin b most ys
rises_right before most [] ys rises = (before, rises)
rises_right before most (x ∷ xs) ys rises = rises_right x.0 most xs ys rises.2

rises_apart : (before most : ℕ) (xs ys : List (ℕ × Item)) (x y : ℕ × Item) → RiseWithin before most (xs ++ ys) → Stands x xs → Stands y ys → x.0 < y.0
rises_apart before most [] ys x y rises h k = absurd h
rises_apart before most (z ∷ xs) ys x y rises (inl same) k =
    let up : z.0 < y.0 = above z.0 most (xs ++ ys) y rises.2 (stands_right y xs ys k) in
    let is : z.0 ≡ x.0 = ap (λ (w : ℕ × Item). w.0) same in omega (arith, up, is)
rises_apart before most (z ∷ xs) ys x y rises (inr h) k = rises_apart z.0 most xs ys x y rises.2 h k

pub rises_at : (before most : ℕ) (waves : List (List (ℕ × Item))) (j : ℕ) → RiseWithin before most (joined waves)
    → (b : ℕ) × RiseWithin b most (slice_index_or waves j [])
rises_at before most [] j rises = (before, tt)
rises_at before most (w ∷ waves) zero rises = (before, rises_left before most w (joined waves) rises)
rises_at before most (w ∷ waves) (suc j) rises =
    let more = rises_right before most w (joined waves) rises in rises_at more.0 most waves j more.1

-- an item of a wave is the one there with its number
pub found_at : (script : ScriptParts) (j n : ℕ) (it : Item) → IsWellFormed script → Stands (n, it) (items_at script j) → item_in (items_at script j) n ≡ Some it
found_at script j n it fit stands =
    let rises = rises_at 0 script.lines script.waves j fit.lines_rise in found rises.0 script.lines (items_at script j) n it rises.1 stands

-- a number stands in one wave
pub wave_once : (before most : ℕ) (waves : List (List (ℕ × Item))) (i j : ℕ) (x y : ℕ × Item) → RiseWithin before most (joined waves)
    → Stands x (slice_index_or waves i []) → Stands y (slice_index_or waves j []) → x.0 ≡ y.0 → i ≡ j
wave_once before most [] i j x y rises h k same = absurd h
wave_once before most (w ∷ waves) zero zero x y rises h k same = refl
wave_once before most (w ∷ waves) zero (suc j) x y rises h k same =
    absurd (let up : x.0 < y.0 = rises_apart before most w (joined waves) x y rises h (stands_joined y waves j k) in omega (arith, up, same))
wave_once before most (w ∷ waves) (suc i) zero x y rises h k same =
    absurd (let up : y.0 < x.0 = rises_apart before most w (joined waves) y x rises k (stands_joined x waves i h) in omega (arith, up, same))
wave_once before most (w ∷ waves) (suc i) (suc j) x y rises h k same =
    let more = rises_right before most w (joined waves) rises in ap suc (wave_once more.0 most waves i j x y more.1 h k same)

-- A control line is an item of its wave.
pub record IsItem (script : ScriptParts) (j : ℕ) (c : Control) : Type 0 where
  pub it : Item
  pub stands : Stands (c.line, it) (items_at script j)
  pub gives : controls_at (c.line, it) ≡ fresh c ∷ []
  pub in_wave : item_in (items_at script j) c.line ≡ Some it
  pub in_script : item_at script c.line ≡ Some it

pub in_append : (c : Control) (xs ys : List Control) → IsIn c (xs ++ ys) → IsIn c xs ⊎ IsIn c ys
in_append c [] ys h = inr h
in_append c (x ∷ xs) ys (inl same) = inl (inl same)
in_append c (x ∷ xs) ys (inr h) = by (in_append c xs ys h)
  where
    by : IsIn c xs ⊎ IsIn c ys → IsIn c (x ∷ xs) ⊎ IsIn c ys
    by (inl a) = inl (inr a)
    by (inr b) = inr b

-- the item that gives a control line
gives_one : (n : ℕ) (it : Item) (c : Control) → IsIn c (controls_at (n, it)) → (c.line ≡ n) × (controls_at (n, it) ≡ c ∷ [])
gives_one n (item.CrashAfter inst steps keep) c (inl same) = (sym (ap (λ (x : Control). x.line) same), ap (λ (x : Control). x ∷ []) same)
gives_one n (item.CrashMark inst keep) c (inl same) = (sym (ap (λ (x : Control). x.line) same), ap (λ (x : Control). x ∷ []) same)
gives_one n (item.Start inst) c (inl same) = (sym (ap (λ (x : Control). x.line) same), ap (λ (x : Control). x ∷ []) same)
gives_one n (item.Remaster bucket to) c (inl same) = (sym (ap (λ (x : Control). x.line) same), ap (λ (x : Control). x ∷ []) same)
gives_one n (item.Checkpoint inst) c (inl same) = (sym (ap (λ (x : Control). x.line) same), ap (λ (x : Control). x ∷ []) same)
gives_one n (item.CrashAfter inst steps keep) c (inr h) = absurd h
gives_one n (item.CrashMark inst keep) c (inr h) = absurd h
gives_one n (item.Start inst) c (inr h) = absurd h
gives_one n (item.Remaster bucket to) c (inr h) = absurd h
gives_one n (item.Checkpoint inst) c (inr h) = absurd h
gives_one n (item.Session session inst) c h = absurd h
gives_one n (item.Stmt session what) c h = absurd h
gives_one n (item.Hold reader until) c h = absurd h

given : (items : List (ℕ × Item)) (c : Control) → IsIn c (flat_map controls_at items) → (it : Item) × Stands (c.line, it) items × (controls_at (c.line, it) ≡ c ∷ [])
given [] c h = absurd h
given (x ∷ items) c h = by (in_append c (controls_at x) (flat_map controls_at items) h) (given items c)
  where
    by : IsIn c (controls_at x) ⊎ IsIn c (flat_map controls_at items)
        → (IsIn c (flat_map controls_at items) → (it : Item) × Stands (c.line, it) items × (controls_at (c.line, it) ≡ c ∷ []))
        → (it : Item) × Stands (c.line, it) (x ∷ items) × (controls_at (c.line, it) ≡ c ∷ [])
    by (inl a) later =
        let one = gives_one x.0 x.1 c a in
        (x.1, inl (λ i. (sym one.0 i, x.1)), ap (λ (n : ℕ). controls_at (n, x.1)) one.0 ∙ one.1)
    by (inr b) later = let more = later b in (more.0, inr more.1, more.2)

pub item_of : (script : ScriptParts) (controls : List (List Control)) (j : ℕ) (c : Control) → IsWellFormed script
    → map (map fresh) controls ≡ controls_of script.waves → IsIn c (at controls j) → IsItem script j c
item_of script controls j c fit shape h =
    let same : map fresh (at controls j) ≡ controls_in (items_at script j) =
    sym (get_or-map (map fresh) controls j []) ∙ ap (λ (xs : List (List Control)). slice_index_or xs j []) shape ∙ get_or-map controls_in script.waves j [] in
    let it = given (items_at script j) (fresh c) (subst (λ (xs : List Control). IsIn (fresh c) xs) same (map_in fresh (at controls j) c h)) in
    let rises = rises_at 0 script.lines script.waves j fit.lines_rise in
    record {
      it = it.0;
      stands = it.1;
      gives = it.2;
      in_wave = found rises.0 script.lines (items_at script j) c.line it.0 rises.1 it.1;
      in_script = found 0 script.lines (items_of script) c.line it.0 fit.lines_rise (stands_joined (c.line, it.0) script.waves j it.1);
    }

head_of : (c d : Control) → c ∷ [] ≡ d ∷ [] → c ≡ d
head_of c d e = ap (λ (xs : List Control). get_or xs 0 c) e

-- lines with one number ask the same
pub same_wanted : (script : ScriptParts) (i j : ℕ) (c d : Control) → IsItem script i c → IsItem script j d → c.line ≡ d.line → c.wanted ≡ d.wanted
same_wanted script i j c d a b same =
    let it : a.it ≡ b.it = same_Some a.it b.it (sym a.in_script ∙ ap (λ (n : ℕ). item_at script n) same ∙ b.in_script) in
    let both : fresh c ∷ [] ≡ fresh d ∷ [] =
    sym a.gives ∙ (λ i. controls_at (same i, it i)) ∙ b.gives in
    ap (λ (x : Control). x.wanted) (head_of (fresh c) (fresh d) both)

-- lines with one number are of one wave
pub same_place : (script : ScriptParts) (i j : ℕ) (c d : Control) → IsWellFormed script → IsItem script i c → IsItem script j d → c.line ≡ d.line → i ≡ j
same_place script i j c d fit a b same =
    wave_once 0 script.lines script.waves i j (c.line, a.it) (d.line, b.it) fit.lines_rise a.stands b.stands same

-- what an item asks, as a control line
abbrev pub wanted_of : Item → Option Wanted
wanted_of (item.CrashAfter inst steps keep) = Some (Crash inst (After steps) keep)
wanted_of (item.CrashMark inst keep) = Some (Crash inst AtMark keep)
wanted_of (item.Start inst) = Some (Start inst)
wanted_of (item.Remaster bucket to) = Some (Move bucket to)
wanted_of (item.Checkpoint inst) = Some (Checkpoint inst)
wanted_of _ = None

wants_one : (n : ℕ) (it : Item) (c : Control) → controls_at (n, it) ≡ c ∷ [] → wanted_of it ≡ Some c.wanted
wants_one n (item.CrashAfter inst steps keep) c e = ap (λ (x : Control). Some x.wanted) (head_of (record { line = n; wanted = Crash inst (After steps) keep; done = false }) c e)
wants_one n (item.CrashMark inst keep) c e = ap (λ (x : Control). Some x.wanted) (head_of (record { line = n; wanted = Crash inst AtMark keep; done = false }) c e)
wants_one n (item.Start inst) c e = ap (λ (x : Control). Some x.wanted) (head_of (record { line = n; wanted = Start inst; done = false }) c e)
wants_one n (item.Remaster bucket to) c e = ap (λ (x : Control). Some x.wanted) (head_of (record { line = n; wanted = Move bucket to; done = false }) c e)
wants_one n (item.Checkpoint inst) c e = ap (λ (x : Control). Some x.wanted) (head_of (record { line = n; wanted = Checkpoint inst; done = false }) c e)
wants_one n (item.Session session inst) c e = absurd (let no : [] ≡ c ∷ [] = e in cc)
wants_one n (item.Stmt session what) c e = absurd (let no : [] ≡ c ∷ [] = e in cc)
wants_one n (item.Hold reader until) c e = absurd (let no : [] ≡ c ∷ [] = e in cc)

pub item_wants : (script : ScriptParts) (j : ℕ) (c : Control) (a : IsItem script j c) → wanted_of a.it ≡ Some c.wanted
item_wants script j c a = wants_one c.line a.it (fresh c) a.gives

pub wants_some : (it : Item) (wanted : Wanted) → wanted_of it ≡ Some wanted → is_control it ≡ true
wants_some (item.Session session inst) wanted e = absurd (none-some wanted e)
wants_some (item.Stmt session what) wanted e = absurd (none-some wanted e)
wants_some (item.Hold reader until) wanted e = absurd (none-some wanted e)
wants_some _ wanted e = refl

is_crash : Wanted → Bool
is_crash (Crash inst when keep) = true
is_crash _ = false

pub wants_crash : (it : Item) (me : ℕ) (when : When) (keep : Keep) → wanted_of it ≡ Some (Crash me when keep) → asks_crash me it ≡ true
unfolding is_crash
wants_crash (item.CrashAfter inst steps k) me when keep e = eq-eqb me inst (sym (ap maker (same_Some (Crash inst (After steps) k) (Crash me when keep) e)))
wants_crash (item.CrashMark inst k) me when keep e = eq-eqb me inst (sym (ap maker (same_Some (Crash inst AtMark k) (Crash me when keep) e)))
wants_crash (item.Start inst) me when keep e = absurd (let no : false ≡ true = ap is_crash (same_Some (Start inst) (Crash me when keep) e) in cc)
wants_crash (item.Remaster bucket to) me when keep e = absurd (let no : false ≡ true = ap is_crash (same_Some (Move bucket to) (Crash me when keep) e) in cc)
wants_crash (item.Checkpoint inst) me when keep e = absurd (let no : false ≡ true = ap is_crash (same_Some (Checkpoint inst) (Crash me when keep) e) in cc)
wants_crash _ me when keep e = absurd (none-some (Crash me when keep) e)

is_start : Wanted → Bool
is_start (Start inst) = true
is_start _ = false

pub wants_start : (it : Item) (me : ℕ) → wanted_of it ≡ Some (Start me) → it ≡ item.Start me
unfolding is_start
wants_start (item.Start inst) me e = ap item.Start (ap maker (same_Some (Start inst) (Start me) e))
wants_start (item.CrashAfter inst steps k) me e = absurd (let no : false ≡ true = ap is_start (same_Some (Crash inst (After steps) k) (Start me) e) in cc)
wants_start (item.CrashMark inst k) me e = absurd (let no : false ≡ true = ap is_start (same_Some (Crash inst AtMark k) (Start me) e) in cc)
wants_start (item.Remaster bucket to) me e = absurd (let no : false ≡ true = ap is_start (same_Some (Move bucket to) (Start me) e) in cc)
wants_start (item.Checkpoint inst) me e = absurd (let no : false ≡ true = ap is_start (same_Some (Checkpoint inst) (Start me) e) in cc)
wants_start _ me e = absurd (none-some (Start me) e)

is_move : Wanted → Bool
is_move (Move bucket to) = true
is_move _ = false

pub wants_move : (it : Item) (bucket to : ℕ) → wanted_of it ≡ Some (Move bucket to) → asks_move it ≡ true
unfolding is_move
wants_move (item.Remaster b t) bucket to e = refl
wants_move (item.CrashAfter inst steps k) bucket to e = absurd (let no : false ≡ true = ap is_move (same_Some (Crash inst (After steps) k) (Move bucket to) e) in cc)
wants_move (item.CrashMark inst k) bucket to e = absurd (let no : false ≡ true = ap is_move (same_Some (Crash inst AtMark k) (Move bucket to) e) in cc)
wants_move (item.Start inst) bucket to e = absurd (let no : false ≡ true = ap is_move (same_Some (Start inst) (Move bucket to) e) in cc)
wants_move (item.Checkpoint inst) bucket to e = absurd (let no : false ≡ true = ap is_move (same_Some (Checkpoint inst) (Move bucket to) e) in cc)
wants_move _ bucket to e = absurd (none-some (Move bucket to) e)

is_check : Wanted → Bool
is_check (Checkpoint inst) = true
is_check _ = false

pub wants_check : (it : Item) (me : ℕ) → wanted_of it ≡ Some (Checkpoint me) → asks_checkpoint it ≡ true
unfolding is_check
wants_check (item.Checkpoint inst) me e = refl
wants_check (item.CrashAfter inst steps k) me e = absurd (let no : false ≡ true = ap is_check (same_Some (Crash inst (After steps) k) (Checkpoint me) e) in cc)
wants_check (item.CrashMark inst k) me e = absurd (let no : false ≡ true = ap is_check (same_Some (Crash inst AtMark k) (Checkpoint me) e) in cc)
wants_check (item.Start inst) me e = absurd (let no : false ≡ true = ap is_check (same_Some (Start inst) (Checkpoint me) e) in cc)
wants_check (item.Remaster bucket to) me e = absurd (let no : false ≡ true = ap is_check (same_Some (Move bucket to) (Checkpoint me) e) in cc)
wants_check _ me e = absurd (none-some (Checkpoint me) e)
