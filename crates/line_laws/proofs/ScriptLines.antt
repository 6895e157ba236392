-- The lines that a script lays down for a session.
use Rattle.std.proofs.Common.{◌≡◌, ℕ, zero, suc, ◌+◌, ◌<◌, ◌≤◌, Bool, true, false, List, [], ◌∷◌, ◌++◌, length, Option, Some, None, slice_get, if◌then◌else◌, refl, sym, ap, subst, ◌∙◌, ◌⊎◌, inl, inr, arith}
use Rattle.std.specs.Prelude.{◌==◌}
use Rattle.std.specs.List.{enumerate_from, flat_map, list_any}
use Rattle.std.specs.Option.{option_and_then}
use Rattle.std.proofs.lemmas.Bool.{eq-eqb, eqb-true, ne_eqb, or_left, or_right}
use Rattle.std.proofs.lemmas.Option.{none-some, same_Some, some_pair_parts}
use Rattle.script_text.specs.declared.item.Item.{Item}
use Rattle.script_text.specs.declared.item.Item.TheVariants.{Stmt as OfSession}
use Rattle.script_text.specs.declared.item.Stmt.{Stmt}
use Rattle.script_text.specs.ScriptParts.{ScriptParts}
use Rattle.script_text.specs.Lines.{stmt_in}
use Rattle.script_text.specs.Lines.{stmt_at as script_stmt}
use Rattle.script_text.specs.Reading.{item_in, items_of, joined}
use Rattle.script_text.specs.WellFormed.{IsWellFormed, RiseWithin}
use Rattle.inst_state.specs.declared.line.Line.{Line}
use Rattle.inst_state.specs.State.{stmt_of}
use Rattle.first_state.specs.declared.turns.Turn.{Turn}
use Rattle.first_state.specs.Lines.{line_of, lines_at, session_lines, turn_of}
use Rattle.first_state.specs.Plan.{numbered}

-- the number of the line at a place
abbrev pub stmt_no : List Line → ℕ → ℕ
stmt_no ls j = stmt_of (slice_get ls j)

-- the wave of a line, 0 without one
abbrev pub wave_of : Option Line → ℕ
wave_of None = 0
wave_of (Some line) = line.wave

-- the wave of the line at a place
abbrev pub wave_no : List Line → ℕ → ℕ
wave_no ls j = wave_of (slice_get ls j)

-- the numbers of lines rise strictly, are above `before` and at most `most`
abbrev pub Rise : ℕ → ℕ → List Line → Type 0
Rise before most [] = Unit {0}
Rise before most (l ∷ ls) = (before < l.stmt) × (l.stmt ≤ most) × Rise l.stmt most ls

-- each line is a statement of the session among the items
abbrev pub FoundIn : ℕ → List (ℕ × Item) → List Line → Type 0
FoundIn z items [] = Unit {0}
FoundIn z items (l ∷ ls) = ((what : Stmt) × (item_in items l.stmt ≡ Some (OfSession z what))) × FoundIn z items ls

-- a line with this number is among them
abbrev pub HasStmt : ℕ → List Line → Type 0
HasStmt m [] = ⊥
HasStmt m (l ∷ ls) = (l.stmt ≡ m) ⊎ HasStmt m ls

-- the waves of lines rise, from `from` on, and are at most `most`
abbrev pub WavesRise : ℕ → ℕ → List Line → Type 0
WavesRise from most [] = Unit {0}
WavesRise from most (l ∷ ls) = (from ≤ l.wave) × (l.wave ≤ most) × WavesRise l.wave most ls

-- these are the lines of a session among items whose numbers rise from above `before`
pub record Lays (z most before : ℕ) (items : List (ℕ × Item)) (ls : List Line) : Type 0 where
  pub rise : Rise before most ls
  pub found : FoundIn z items ls
  pub whole : (m : ℕ) (what : Stmt) → item_in items m ≡ Some (OfSession z what) → HasStmt m ls

rise_weaker : (a b most : ℕ) (ls : List Line) → a ≤ b → Rise b most ls → Rise a most ls
rise_weaker a b most [] le r = tt
rise_weaker a b most (l ∷ ls) le r = let up : b < l.stmt = r.0 in (omega arith, r.1, r.2)

waves_weaker : (a b most : ℕ) (ls : List Line) → a ≤ b → WavesRise b most ls → WavesRise a most ls
waves_weaker a b most [] le r = tt
waves_weaker a b most (l ∷ ls) le r = let up : b ≤ l.wave = r.0 in (omega arith, r.1, r.2)

-- what an item gives a session: a line, or none
pub data Gives (turn : Turn) (n : ℕ) (it : Item) : Type 0 where
  none : lines_at turn (n, it) ≡ [] → Gives turn n it
  one : (what : Stmt) → it ≡ OfSession turn.session what → lines_at turn (n, it) ≡ line_of turn n what ∷ [] → Gives turn n it

gives_stmt : (turn : Turn) (n s : ℕ) (what : Stmt) (is : Bool) → (s == turn.session) ≡ is → Gives turn n (OfSession s what)
gives_stmt turn n s what true e =
    one what (ap (λ (k : ℕ). OfSession k what) (eqb-true s turn.session e))
    (ap (λ (b : Bool). if b then line_of turn n what ∷ [] else []) e)
gives_stmt turn n s what false e = none (ap (λ (b : Bool). if b then line_of turn n what ∷ [] else []) e)

pub gives : (turn : Turn) (n : ℕ) (it : Item) → Gives turn n it
gives turn n (OfSession s what) = gives_stmt turn n s what (s == turn.session) refl
gives turn n _ = none refl

stmt_gives : (turn : Turn) (n : ℕ) (it : Item) (what : Stmt) → it ≡ OfSession turn.session what → lines_at turn (n, it) ≡ line_of turn n what ∷ []
stmt_gives turn n it what is =
    ap (λ (x : Item). lines_at turn (n, x)) is
    ∙ ap (λ (b : Bool). if b then line_of turn n what ∷ [] else []) (eq-eqb turn.session turn.session refl)

found_more : (z most n : ℕ) (it : Item) (items : List (ℕ × Item)) (ls : List Line) → Rise n most ls → FoundIn z items ls → FoundIn z ((n, it) ∷ items) ls
found_more z most n it items [] r f = tt
found_more z most n it items (l ∷ ls) r f =
    let up : n < l.stmt = r.0 in
    let apart : (n == l.stmt) ≡ false = ne_eqb n l.stmt (λ e. omega (arith, e)) in (
      (f.0.0, ap (λ (b : Bool). if b then Some it else item_in items l.stmt) apart ∙ f.0.1),
      found_more z most n it items ls (rise_weaker n l.stmt most ls (omega arith) r.2) f.1,
    )

-- the item with a number is the first one, or a later one
first_or_later : (n m : ℕ) (it found : Item) (items : List (ℕ × Item)) (is : Bool) → (n == m) ≡ is → item_in ((n, it) ∷ items) m ≡ Some found
    → ((n ≡ m) × (it ≡ found)) ⊎ (item_in items m ≡ Some found)
first_or_later n m it found items true e is =
    inl (eqb-true n m e, same_Some it found (sym (ap (λ (b : Bool). if b then Some it else item_in items m) e) ∙ is))
first_or_later n m it found items false e is =
    inr (sym (ap (λ (b : Bool). if b then Some it else item_in items m) e) ∙ is)

whole_none : (turn : Turn) (n : ℕ) (it : Item) (items : List (ℕ × Item)) (ls : List Line) → lines_at turn (n, it) ≡ []
    → ((m : ℕ) (what : Stmt) → item_in items m ≡ Some (OfSession turn.session what) → HasStmt m ls)
    → (m : ℕ) (what : Stmt)
    → ((n ≡ m) × (it ≡ OfSession turn.session what)) ⊎ (item_in items m ≡ Some (OfSession turn.session what)) → HasStmt m ls
whole_none turn n it items ls e whole m what (inl p) =
    absurd (let clash : [] ≡ line_of turn n what ∷ [] = sym e ∙ stmt_gives turn n it what p.1 in cc)
whole_none turn n it items ls e whole m what (inr p) = whole m what p

whole_one : (turn : Turn) (n : ℕ) (it : Item) (items : List (ℕ × Item)) (ls : List Line) (l : Line) → l.stmt ≡ n
    → ((m : ℕ) (what : Stmt) → item_in items m ≡ Some (OfSession turn.session what) → HasStmt m ls)
    → (m : ℕ) (what : Stmt)
    → ((n ≡ m) × (it ≡ OfSession turn.session what)) ⊎ (item_in items m ≡ Some (OfSession turn.session what)) → HasStmt m (l ∷ ls)
whole_one turn n it items ls l is whole m what (inl p) = inl (is ∙ p.0)
whole_one turn n it items ls l is whole m what (inr p) = inr (whole m what p)

lays_one : (turn : Turn) (before most n : ℕ) (it : Item) (items : List (ℕ × Item)) (ls tail : List Line) → before < n → n ≤ most
    → Gives turn n it → Lays turn.session most n items (ls ++ tail)
    → Lays turn.session most before ((n, it) ∷ items) ((lines_at turn (n, it) ++ ls) ++ tail)
lays_one turn before most n it items ls tail up top (none e) lays =
    subst (λ (hd : List Line). Lays turn.session most before ((n, it) ∷ items) ((hd ++ ls) ++ tail)) (sym e) (record {
      rise = rise_weaker before n most (ls ++ tail) (omega arith) lays.rise;
      found = found_more turn.session most n it items (ls ++ tail) lays.rise lays.found;
      whole = λ m what is. whole_none turn n it items (ls ++ tail) e lays.whole m what (first_or_later n m it (OfSession turn.session what) items (n == m) refl is);
    })
lays_one turn before most n it items ls tail up top (one what is e) lays =
    subst (λ (hd : List Line). Lays turn.session most before ((n, it) ∷ items) ((hd ++ ls) ++ tail)) (sym e) (record {
      rise = (up, top, lays.rise);
      found = (
        (what, ap (λ (b : Bool). if b then Some it else item_in items n) (eq-eqb n n refl) ∙ ap Some is),
        found_more turn.session most n it items (ls ++ tail) lays.rise lays.found,
      );
      whole = λ m asked at. whole_one turn n it items (ls ++ tail) (line_of turn n what) refl lays.whole m asked (first_or_later n m it (OfSession turn.session asked) items (n == m) refl at);
    })

lays_items : (turn : Turn) (before most : ℕ) (items rest : List (ℕ × Item)) (tail : List Line) → RiseWithin before most (items ++ rest)
    → ((b : ℕ) → RiseWithin b most rest → Lays turn.session most b rest tail)
    → Lays turn.session most before (items ++ rest) (flat_map (lines_at turn) items ++ tail)
lays_items turn before most [] rest tail rises later = later before rises
lays_items turn before most (x ∷ items) rest tail rises later =
    lays_one turn before most x.0 x.1 (items ++ rest) (flat_map (lines_at turn) items) tail rises.0 rises.1 (gives turn x.0 x.1)
    (lays_items turn x.0 most items rest tail rises.2 later)

pub session_lays : (z most k before : ℕ) (waves : List (List (ℕ × Item))) → RiseWithin before most (joined waves)
    → Lays z most before (joined waves) (session_lines z (enumerate_from k waves))
session_lays z most k before [] rises =
    record { rise = tt; found = tt; whole = λ m what is. absurd (none-some (OfSession z what) is) }
session_lays z most k before (wave ∷ waves) rises =
    lays_items (turn_of z (k, wave)) before most wave (joined waves) (session_lines z (enumerate_from (k + 1) waves)) rises
    (λ b later. session_lays z most (k + 1) b waves later)

waves_one : (turn : Turn) (most n : ℕ) (it : Item) (ls tail : List Line) → turn.wave ≤ most → Gives turn n it → WavesRise turn.wave most (ls ++ tail)
    → WavesRise turn.wave most ((lines_at turn (n, it) ++ ls) ++ tail)
waves_one turn most n it ls tail top (none e) r =
    subst (λ (hd : List Line). WavesRise turn.wave most ((hd ++ ls) ++ tail)) (sym e) r
waves_one turn most n it ls tail top (one what is e) r =
    subst (λ (hd : List Line). WavesRise turn.wave most ((hd ++ ls) ++ tail)) (sym e) (omega arith, top, r)

waves_items : (turn : Turn) (most : ℕ) (items : List (ℕ × Item)) (tail : List Line) → turn.wave ≤ most → WavesRise turn.wave most tail
    → WavesRise turn.wave most (flat_map (lines_at turn) items ++ tail)
waves_items turn most [] tail top r = r
waves_items turn most (x ∷ items) tail top r =
    waves_one turn most x.0 x.1 (flat_map (lines_at turn) items) tail top (gives turn x.0 x.1) (waves_items turn most items tail top r)

pub session_waves : (z k most : ℕ) (waves : List (List (ℕ × Item))) → k + length waves ≤ most + 1 → WavesRise k most (session_lines z (enumerate_from k waves))
session_waves z k most [] few = tt
session_waves z k most (wave ∷ waves) few =
    waves_items (turn_of z (k, wave)) most wave (session_lines z (enumerate_from (k + 1) waves)) (omega arith)
    (waves_weaker k (k + 1) most (session_lines z (enumerate_from (k + 1) waves)) (omega arith) (session_waves z (k + 1) most waves (omega arith)))

rise_above : (before most : ℕ) (ls : List Line) (j : ℕ) → Rise before most ls → j < length ls → (before + j < stmt_no ls j) × (stmt_no ls j ≤ most)
rise_above before most [] j r at = absurd (omega arith)
rise_above before most (l ∷ ls) zero r at = let up : before < l.stmt = r.0 in (omega arith, r.1)
rise_above before most (l ∷ ls) (suc j) r at =
    let up : before < l.stmt = r.0 in
    let later = rise_above l.stmt most ls j r.2 (omega arith) in
    let above : l.stmt + j < stmt_no ls j = later.0 in
    (omega arith, later.1)

rise_apart : (before most : ℕ) (ls : List Line) (i j : ℕ) → Rise before most ls → i < j → j < length ls → stmt_no ls i < stmt_no ls j
rise_apart before most [] i j r less at = absurd (omega arith)
rise_apart before most (l ∷ ls) i zero r less at = absurd (omega arith)
rise_apart before most (l ∷ ls) zero (suc j) r less at =
    let above : l.stmt + j < stmt_no ls j = (rise_above l.stmt most ls j r.2 (omega arith)).0 in omega arith
rise_apart before most (l ∷ ls) (suc i) (suc j) r less at = rise_apart l.stmt most ls i j r.2 (omega arith) (omega arith)

found_at : (z : ℕ) (items : List (ℕ × Item)) (ls : List Line) (j : ℕ) → FoundIn z items ls → j < length ls → (what : Stmt) × (item_in items (stmt_no ls j) ≡ Some (OfSession z what))
found_at z items [] j f at = absurd (omega arith)
found_at z items (l ∷ ls) zero f at = f.0
found_at z items (l ∷ ls) (suc j) f at = found_at z items ls j f.1 (omega arith)

has_at : (m : ℕ) (ls : List Line) → HasStmt m ls → (j : ℕ) × (j < length ls) × (stmt_no ls j ≡ m)
has_at m [] h = absurd h
has_at m (l ∷ ls) (inl is) = (0, omega arith, is)
has_at m (l ∷ ls) (inr h) = let later = has_at m ls h in let at : later.0 < length ls = later.1 in (suc later.0, omega arith, later.2)

waves_above : (from most : ℕ) (ls : List Line) (j : ℕ) → WavesRise from most ls → j < length ls → (from ≤ wave_no ls j) × (wave_no ls j ≤ most)
waves_above from most [] j r at = absurd (omega arith)
waves_above from most (l ∷ ls) zero r at = (r.0, r.1)
waves_above from most (l ∷ ls) (suc j) r at =
    let up : from ≤ l.wave = r.0 in
    let later = waves_above l.wave most ls j r.2 (omega arith) in
    let above : l.wave ≤ wave_no ls j = later.0 in
    (omega arith, later.1)

waves_order : (from most : ℕ) (ls : List Line) (i j : ℕ) → WavesRise from most ls → i ≤ j → j < length ls → wave_no ls i ≤ wave_no ls j
waves_order from most [] i j r le at = absurd (omega arith)
waves_order from most (l ∷ ls) zero zero r le at = omega arith
waves_order from most (l ∷ ls) (suc i) zero r le at = absurd (omega arith)
waves_order from most (l ∷ ls) zero (suc j) r le at = (waves_above l.wave most ls j r.2 (omega arith)).0
waves_order from most (l ∷ ls) (suc i) (suc j) r le at = waves_order l.wave most ls i j r.2 (omega arith) (omega arith)

-- lines of a session of a script, in order
pub record AreLines (script : ScriptParts) (z : ℕ) (ls : List Line) : Type 0 where
  pub few : (j : ℕ) → j < length ls → j < 10000
  pub above : (j : ℕ) → j < length ls → 0 < stmt_no ls j
  pub rise : (i j : ℕ) → i < j → j < length ls → stmt_no ls i < stmt_no ls j
  pub are : (j : ℕ) → j < length ls → (what : Stmt) × (script_stmt script (stmt_no ls j) ≡ Some (z, what))
  pub whole : (m : ℕ) (what : Stmt) → script_stmt script m ≡ Some (z, what) → (length ls ≡ 0) ⊎ ((j : ℕ) × (j < length ls) × (stmt_no ls j ≡ m))
  pub waves : (i j : ℕ) → i ≤ j → j < length ls → wave_no ls i ≤ wave_no ls j
  pub last : (j : ℕ) → j < length ls → wave_no ls j ≤ length script.waves
  pub first : (j : ℕ) → j < length ls → 1 ≤ wave_no ls j

item_of_stmt : (o : Option Item) (z : ℕ) (what : Stmt) → option_and_then stmt_in o ≡ Some (z, what) → o ≡ Some (OfSession z what)
item_of_stmt None z what e = absurd (none-some (z, what) e)
item_of_stmt (Some (OfSession s w)) z what e =
    let same = some_pair_parts s z w what e in
    ap (λ (k : ℕ). Some (OfSession k w)) same.0 ∙ ap (λ (x : Stmt). Some (OfSession z x)) same.1
item_of_stmt (Some _) z what e = absurd (none-some (z, what) e)

-- no lines are lines of any session
pub no_lines : (script : ScriptParts) (z : ℕ) → AreLines script z []
no_lines script z = record {
  few = λ j at. absurd (omega (arith, at));
  above = λ j at. absurd (omega (arith, at));
  rise = λ i j less at. absurd (omega (arith, at));
  are = λ j at. absurd (omega (arith, at));
  whole = λ m what e. inl refl;
  waves = λ i j le at. absurd (omega (arith, at));
  last = λ j at. absurd (omega (arith, at));
  first = λ j at. absurd (omega (arith, at));
}

-- a session's lines are the statements of it
pub lines_are : (script : ScriptParts) (z : ℕ) → IsWellFormed script → AreLines script z (session_lines z (numbered script))
lines_are script z fit =
    let ls = session_lines z (numbered script) in
    let lays : Lays z script.lines 0 (items_of script) ls = session_lays z script.lines 1 0 script.waves fit.lines_rise in
    let up : WavesRise 1 (length script.waves) ls = session_waves z 1 (length script.waves) script.waves (omega arith) in
    let most : script.lines ≤ 10000 = fit.lines_fit in
    record {
      few = λ j at. (let above = rise_above 0 script.lines ls j lays.rise at in omega (arith, above.0, above.1, most));
      above = λ j at. (let above = rise_above 0 script.lines ls j lays.rise at in omega (arith, above.0));
      rise = λ i j less at. rise_apart 0 script.lines ls i j lays.rise less at;
      are = λ j at. (let found = found_at z (items_of script) ls j lays.found at in (found.0, ap (λ (o : Option Item). option_and_then stmt_in o) found.1));
      whole = λ m what e. inr (has_at m ls (lays.whole m what (item_of_stmt (item_in (items_of script) m) z what e)));
      waves = λ i j le at. waves_order 1 (length script.waves) ls i j up le at;
      last = λ j at. (waves_above 1 (length script.waves) ls j up at).1;
      first = λ j at. (waves_above 1 (length script.waves) ls j up at).0;
    }

-- each statement of a session is among its lines
pub has_line : (script : ScriptParts) (z m : ℕ) (what : Stmt) → IsWellFormed script → script_stmt script m ≡ Some (z, what)
    → (j : ℕ) × (j < length (session_lines z (numbered script))) × (stmt_no (session_lines z (numbered script)) j ≡ m)
has_line script z m what fit e =
    has_at m (session_lines z (numbered script))
    ((session_lays z script.lines 1 0 script.waves fit.lines_rise).whole m what (item_of_stmt (item_in (items_of script) m) z what e))

-- a line with this number and this wave is among them
abbrev pub HasLine : ℕ → ℕ → List Line → Type 0
HasLine m v [] = ⊥
HasLine m v (l ∷ ls) = ((l.stmt ≡ m) × (l.wave ≡ v)) ⊎ HasLine m v ls

pub line_first : (m v : ℕ) (xs ys : List Line) → HasLine m v xs → HasLine m v (xs ++ ys)
line_first m v [] ys h = absurd h
line_first m v (l ∷ xs) ys (inl p) = inl p
line_first m v (l ∷ xs) ys (inr h) = inr (line_first m v xs ys h)

pub line_later : (m v : ℕ) (xs ys : List Line) → HasLine m v ys → HasLine m v (xs ++ ys)
line_later m v [] ys h = h
line_later m v (l ∷ xs) ys h = inr (line_later m v xs ys h)

pub line_place : (m v : ℕ) (ls : List Line) → HasLine m v ls → (j : ℕ) × (j < length ls) × (stmt_no ls j ≡ m) × (wave_no ls j ≡ v)
line_place m v [] h = absurd h
line_place m v (l ∷ ls) (inl p) = (0, omega arith, p.0, p.1)
line_place m v (l ∷ ls) (inr h) =
    let later = line_place m v ls h in let at : later.0 < length ls = later.1 in (suc later.0, omega arith, later.2, later.3)

-- a statement of a session gives it a line of the wave
pub stmt_line : (turn : Turn) (n : ℕ) (it : Item) (what : Stmt) → it ≡ OfSession turn.session what → HasLine n turn.wave (lines_at turn (n, it))
stmt_line turn n it what is = subst (λ (ls : List Line). HasLine n turn.wave ls) (sym (stmt_gives turn n it what is)) (inl (refl, refl))

-- the item with a number, from what the script says of the number
pub item_at_stmt : (script : ScriptParts) (m z : ℕ) (what : Stmt) → script_stmt script m ≡ Some (z, what) → item_in (items_of script) m ≡ Some (OfSession z what)
item_at_stmt script m z what e = item_of_stmt (item_in (items_of script) m) z what e

pub line_split : (m v : ℕ) (xs ys : List Line) → HasLine m v (xs ++ ys) → HasLine m v xs ⊎ HasLine m v ys
line_split m v [] ys h = inr h
line_split m v (l ∷ xs) ys (inl p) = inl (inl p)
line_split m v (l ∷ xs) ys (inr h) = by (line_split m v xs ys h)
  where
    by : HasLine m v xs ⊎ HasLine m v ys → HasLine m v (l ∷ xs) ⊎ HasLine m v ys
    by (inl a) = inl (inr a)
    by (inr b) = inr b

pub line_at_place : (ls : List Line) (j : ℕ) → j < length ls → HasLine (stmt_no ls j) (wave_no ls j) ls
line_at_place [] j at = absurd (omega arith)
line_at_place (l ∷ ls) zero at = inl (refl, refl)
line_at_place (l ∷ ls) (suc j) at = inr (line_at_place ls j (omega arith))

line_given : (turn : Turn) (n : ℕ) (it : Item) (m v : ℕ) → Gives turn n it → HasLine m v (lines_at turn (n, it)) → (n ≡ m) × (v ≡ turn.wave)
line_given turn n it m v (none e) h = absurd (subst (λ (ls : List Line). HasLine m v ls) e h)
line_given turn n it m v (one what is e) h = by (subst (λ (ls : List Line). HasLine m v ls) e h)
  where
    by : HasLine m v (line_of turn n what ∷ []) → (n ≡ m) × (v ≡ turn.wave)
    by (inl p) = (p.0, sym p.1)
    by (inr no_line) = absurd no_line

-- a line of a wave is an item of it
pub line_in_wave : (turn : Turn) (items : List (ℕ × Item)) (m v : ℕ) → HasLine m v (flat_map (lines_at turn) items)
    → (list_any (λ line. line.0 == m) items ≡ true) × (v ≡ turn.wave)
line_in_wave turn [] m v h = absurd h
line_in_wave turn (x ∷ items) m v h =
    by (λ later. line_in_wave turn items m v later) (line_split m v (lines_at turn (x.0, x.1)) (flat_map (lines_at turn) items) h)
  where
    by : (HasLine m v (flat_map (lines_at turn) items) → (list_any (λ line. line.0 == m) items ≡ true) × (v ≡ turn.wave))
        → HasLine m v (lines_at turn (x.0, x.1)) ⊎ HasLine m v (flat_map (lines_at turn) items)
        → (list_any (λ line. line.0 == m) (x ∷ items) ≡ true) × (v ≡ turn.wave)
    by rest (inl a) =
        let given = line_given turn x.0 x.1 m v (gives turn x.0 x.1) a in
        (or_left (x.0 == m) (list_any (λ line. line.0 == m) items) (eq-eqb x.0 m given.0), given.1)
    by rest (inr b) = (or_right (x.0 == m) (list_any (λ line. line.0 == m) items) (rest b).0, (rest b).1)
