-- Control lines as one of them is answered.
use Rattle.std.proofs.Common.{◌≡◌, ℕ, zero, suc, ◌-◌, Bool, true, false, List, [], ◌∷◌, map, refl, sym, ap, subst, ◌∙◌, ◌⊎◌, inl, inr}
use Rattle.std.specs.Prelude.{◌==◌, ◌||◌, slice_index_or, slice_set}
use Rattle.std.specs.List.{list_all}
use Rattle.std.proofs.Math.Seq.{map-set_same}
use Rattle.std.proofs.lemmas.Bool.{and_parts, cases_eq, eq-eqb, eqb-true, ne_eqb}
use Rattle.std.proofs.lemmas.List.{get_or-set_other}
use Rattle.inst_state.specs.declared.control.Control.{Control}
use Rattle.inst_state.specs.Shared.{answered_if}
use Rattle.wave_laws.proofs.Ruled.{closed, IsIn, Rule}

-- the control lines of a wave, counted from 0
abbrev pub at : List (List Control) → ℕ → List Control
at controls j = slice_index_or controls j []

-- a control line as it stands before the first step
abbrev pub fresh : Control → Control
fresh c = record c { done = false }

fresh_map : (line : ℕ) (xs : List Control) → map fresh (map (answered_if line) xs) ≡ map fresh xs
fresh_map line [] = refl
fresh_map line (x ∷ xs) = λ i. fresh x ∷ fresh_map line xs i

-- what the lines ask stays as it is
pub closed_shape : (rule : Rule) (line : ℕ) → map (map fresh) (closed rule line).controls ≡ map (map fresh) rule.controls
closed_shape rule line =
    map-set_same (map fresh) rule.controls (rule.wave - 1) (map (answered_if line) (at rule.controls (rule.wave - 1))) []
    (fresh_map line (at rule.controls (rule.wave - 1)))

set_here : (g : Control → Control) (xs : List (List Control)) (i : ℕ) → at (slice_set xs i (map g (at xs i))) i ≡ map g (at xs i)
set_here g [] i = refl
set_here g (x ∷ xs) zero = refl
set_here g (x ∷ xs) (suc i) = set_here g xs i

closed_here : (rule : Rule) (line j : ℕ) → j ≡ rule.wave - 1 → at (closed rule line).controls j ≡ map (answered_if line) (at rule.controls j)
closed_here rule line j same =
    ap (λ (k : ℕ). at (closed rule line).controls k) same ∙ set_here (answered_if line) rule.controls (rule.wave - 1)
    ∙ ap (λ (k : ℕ). map (answered_if line) (at rule.controls k)) (sym same)

closed_there : (rule : Rule) (line j : ℕ) → (j ≡ rule.wave - 1 → ⊥) → at (closed rule line).controls j ≡ at rule.controls j
closed_there rule line j apart =
    get_or-set_other rule.controls (rule.wave - 1) j (map (answered_if line) (at rule.controls (rule.wave - 1))) [] apart

pub in_map : (g : Control → Control) (xs : List Control) (c : Control) → IsIn c (map g xs) → (old : Control) × IsIn old xs × (g old ≡ c)
in_map g [] c h = absurd h
in_map g (x ∷ xs) c (inl same) = (x, inl refl, same)
in_map g (x ∷ xs) c (inr h) = let more = in_map g xs c h in (more.0, inr more.1, more.2)

pub map_in : (g : Control → Control) (xs : List Control) (c : Control) → IsIn c xs → IsIn (g c) (map g xs)
map_in g [] c h = absurd h
map_in g (x ∷ xs) c (inl same) = inl (ap g same)
map_in g (x ∷ xs) c (inr h) = inr (map_in g xs c h)

-- A control line is what became of this one, where the line with a number of the current wave was answered.
pub record Was (rule : Rule) (line j : ℕ) (c : Control) : Type 0 where
  pub old : Control
  pub here : IsIn old (at rule.controls j)
  pub number : c.line ≡ old.line
  pub wanted : c.wanted ≡ old.wanted
  pub still : c.done ≡ false → old.done ≡ false
  pub other : c.done ≡ false → j ≡ rule.wave - 1 → c.line ≡ line → ⊥
  pub done : c.done ≡ true → (old.done ≡ true) ⊎ ((c.line ≡ line) × (j ≡ rule.wave - 1))
  pub keeps : old.done ≡ true → c.done ≡ true

or_open : (a b : Bool) → (a || b) ≡ false → a ≡ false
or_open true b e = e
or_open false b e = refl

or_open_right : (a b : Bool) → (a || b) ≡ false → b ≡ false
or_open_right true b e = absurd (let no : true ≡ false = e in cc)
or_open_right false b e = e

or_true : (a b : Bool) → (a || b) ≡ true → (a ≡ true) ⊎ (b ≡ true)
or_true true b e = inl refl
or_true false b e = inr e

or_keeps : (a b : Bool) → a ≡ true → (a || b) ≡ true
or_keeps true b e = refl
or_keeps false b e = absurd (let no : false ≡ true = e in cc)

done_by : (rule : Rule) (line j : ℕ) (old : Control) → j ≡ rule.wave - 1 → (old.done ≡ true) ⊎ ((old.line == line) ≡ true)
    → (old.done ≡ true) ⊎ ((old.line ≡ line) × (j ≡ rule.wave - 1))
done_by rule line j old same (inl is) = inl is
done_by rule line j old same (inr is) = inr (eqb-true old.line line is, same)

was_answered : (rule : Rule) (line j : ℕ) (old : Control) → j ≡ rule.wave - 1 → IsIn old (at rule.controls j) → Was rule line j (answered_if line old)
was_answered rule line j old same here = record {
  old = old;
  here = here;
  number = refl;
  wanted = refl;
  still = λ e. or_open old.done (old.line == line) e;
  other = λ e at_ is. (let no : true ≡ false = sym (eq-eqb old.line line is) ∙ or_open_right old.done (old.line == line) e in cc);
  done = λ e. done_by rule line j old same (or_true old.done (old.line == line) e);
  keeps = λ e. or_keeps old.done (old.line == line) e;
}

pub was : (rule : Rule) (line j : ℕ) (c : Control) → IsIn c (at (closed rule line).controls j) → Was rule line j c
was rule line j c h = by (cases_eq j (rule.wave - 1))
  where
    by : (j ≡ rule.wave - 1) ⊎ (j ≡ rule.wave - 1 → ⊥) → Was rule line j c
    by (inl same) =
        let it = in_map (answered_if line) (at rule.controls j) c (subst (λ (xs : List Control). IsIn c xs) (closed_here rule line j same) h) in
        subst (λ (x : Control). Was rule line j x) it.2 (was_answered rule line j it.0 same it.1)
    by (inr apart) = record {
      old = c;
      here = subst (λ (xs : List Control). IsIn c xs) (closed_there rule line j apart) h;
      number = refl;
      wanted = refl;
      still = λ e. e;
      other = λ e same. absurd (apart same);
      done = λ e. inl e;
      keeps = λ e. e;
    }

-- What becomes of a control line, where the line with a number of the current wave is answered.
pub record Becomes (rule : Rule) (line j : ℕ) (old : Control) : Type 0 where
  pub now : Control
  pub here : IsIn now (at (closed rule line).controls j)
  pub number : now.line ≡ old.line
  pub wanted : now.wanted ≡ old.wanted
  pub keeps : old.done ≡ true → now.done ≡ true
  pub done : old.line ≡ line → j ≡ rule.wave - 1 → now.done ≡ true
  pub open_ : old.done ≡ false → (old.line ≡ line → ⊥) → now.done ≡ false

or_false : (a b : Bool) → a ≡ false → b ≡ false → (a || b) ≡ false
or_false true b e f = e
or_false false b e f = f

or_right_true : (a b : Bool) → b ≡ true → (a || b) ≡ true
or_right_true true b e = refl
or_right_true false b e = e

pub becomes : (rule : Rule) (line j : ℕ) (old : Control) → IsIn old (at rule.controls j) → Becomes rule line j old
becomes rule line j old h = by (cases_eq j (rule.wave - 1))
  where
    by : (j ≡ rule.wave - 1) ⊎ (j ≡ rule.wave - 1 → ⊥) → Becomes rule line j old
    by (inl same) = record {
      now = answered_if line old;
      here = subst (λ (xs : List Control). IsIn (answered_if line old) xs) (sym (closed_here rule line j same)) (map_in (answered_if line) (at rule.controls j) old h);
      number = refl;
      wanted = refl;
      keeps = λ e. or_keeps old.done (old.line == line) e;
      done = λ is at_. or_right_true old.done (old.line == line) (eq-eqb old.line line is);
      open_ = λ e apart. or_false old.done (old.line == line) e (ne_eqb old.line line apart);
    }
    by (inr apart) = record {
      now = old;
      here = subst (λ (xs : List Control). IsIn old xs) (sym (closed_there rule line j apart)) h;
      number = refl;
      wanted = refl;
      keeps = λ e. e;
      done = λ is same. absurd (apart same);
      open_ = λ e other. e;
    }

pub all_done : (xs : List Control) (c : Control) → list_all (λ (x : Control). x.done) xs ≡ true → IsIn c xs → c.done ≡ true
all_done [] c all h = absurd h
all_done (x ∷ xs) c all (inl same) =
    subst (λ (y : Control). y.done ≡ true) same (and_parts x.done (list_all (λ (y : Control). y.done) xs) all).0
all_done (x ∷ xs) c all (inr h) = all_done xs c (and_parts x.done (list_all (λ (y : Control). y.done) xs) all).1 h
