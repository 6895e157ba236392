-- What a seat's turn comes to, put together from its steps on the table.
use Rattle.std.proofs.Common.{◌≡◌, ◌≢◌, ℕ, ◌||◌, List, [], ◌∷◌, ◌++◌, refl, sym, ap, ◌∙◌, subst, Bool, true, false, cond, Option, Some, None, append_assoc}
use Rattle.atomic_table.specs.Table.{Step}
use Rattle.step_book.specs.Actors.{Rules, Ready, MayWork, Turns, OfOthers, StartsWith}
use Rattle.step_book.specs.Turns.{Seats, LeftBy, ReadyIf, Found, Gives, after_turn, served}
use Rattle.step_book.specs.Seats.{BeganAt, Comes, Advanced, Took, is_finished, is_exhausted}
use Rattle.step_book.specs.declared.answer.Turn.{Turn}
use Rattle.step_book.specs.declared.answer.Turn.TheVariants.{Did, Nothing, Finished, NoMemory}
use Rattle.step_book.specs.declared.board.Board.{Board}
use Rattle.step_book.specs.declared.board.Own.{Own}
use Rattle.step_book.specs.declared.board.Known.{Known}
use Rattle.step_book.specs.declared.board.Stage.TheVariants.{Waiting, Holding}
use Rattle.step_book.proofs.Places.{false_of}
use Rattle.step_book.proofs.Walks.{follows_turn, follows_ready}

finished_is : (a : Turn) → is_finished a ≡ true → a ≡ Finished
finished_is Did e = absurd (let q : true ≡ false = sym e in cc)
finished_is Nothing e = absurd (let q : true ≡ false = sym e in cc)
finished_is Finished e = refl
finished_is NoMemory e = absurd (let q : true ≡ false = sym e in cc)

exhausted_is : (a : Turn) → is_exhausted a ≡ true → a ≡ NoMemory
exhausted_is Did e = absurd (let q : true ≡ false = sym e in cc)
exhausted_is Nothing e = absurd (let q : true ≡ false = sym e in cc)
exhausted_is Finished e = absurd (let q : true ≡ false = sym e in cc)
exhausted_is NoMemory e = refl

module _ {P H S : Type 0} (m : Rules P H S) where
  pub comes_ready : (o : Option (Own P H)) (me : ℕ) (p : P) (h : H) → Comes m o me p → ReadyIf m o me h → Ready m me p h
  comes_ready (Some own) me p h f r = follows_ready m me own.part p h f r
  comes_ready None me p h f r = absurd r

  remembers : (answer : Turn) (c : Board P H S) → c.spoilt ≡ is_exhausted answer → c.spoilt ≡ false → answer ≢ NoMemory
  remembers answer c e is q = let z : true ≡ false = sym (e ∙ ap is_exhausted q) ∙ is in cc

  fresh : (answer : Turn) (c : Board P H S) → c.spoilt ≡ is_exhausted answer → answer ≢ NoMemory → c.spoilt ≡ false
  fresh answer c e n = false_of c.spoilt (λ t. n (exhausted_is answer (sym e ∙ t)))

  pub gives_of : (v : Known P H S) (o : Option (Own P H)) (p q : P) (b c : Board P H S) (answer : Turn) → Comes m o v.number p → Advanced m v.number p q b c answer → Gives m v o b c
  gives_of v None p q b c answer f a = absurd f
  gives_of v (Some own) p q b c answer f a = λ e.
      let n = remembers answer c a.spoilt e in let t = a.turned n in record {
        answer = answer;
        steps = t.0;
        fresh = false_of b.spoilt (λ y. let z : true ≡ false = sym (a.still y) ∙ e in cc);
        memory = n;
        ends = λ y. finished_is answer (sym a.finished ∙ y);
        added = t.1;
        turns = subst (λ (z : P). Turns m answer v.number own.part b.shared t.0 z c.shared) (sym a.left) (follows_turn m answer v.number own.part p b.shared t.0 q c.shared f t.2);
      }

  took_own : (v : Known P H S) (own : Own P H) (t : ℕ) (p q : P) (b c : Board P H S) (between : List S) (answer : Turn)
      → OfOthers m v.number between → (v.spoilt ≡ true → b.spoilt ≡ true) → (b.spoilt ≡ false → b.steps ≡ v.seen ++ between) → (b.spoilt ≡ false → LeftBy m v.own b.steps b.shared)
      → Advanced m v.number p q b c answer → (c.spoilt ≡ false → MayWork m v.number c.left.value × LeftBy m (Some own) c.steps c.shared)
      → v.own ≡ Some own → Took m v (after_turn (record v { stage = Holding t b; seen = v.seen ++ between }) (Some own) c) p q answer
  took_own v own t p q b c between answer others told steps left a leaves mine =
      let w : Known P H S = after_turn (record v { stage = Holding t b; seen = v.seen ++ between }) (Some own) c in
      let b_fresh : c.spoilt ≡ false → b.spoilt ≡ false = λ e. false_of b.spoilt (λ y. let z : true ≡ false = sym (a.still y) ∙ e in cc) in
      let seen : (e : c.spoilt ≡ false) → c.steps ≡ (v.seen ++ between) ++ (a.turned (remembers answer c a.spoilt e)).0 =
      λ e. let t = a.turned (remembers answer c a.spoilt e) in t.1 ∙ ap (λ (z : List S). z ++ t.0) (steps (b_fresh e)) in record {
        same = (refl, refl, refl);
        idle = refl;
        part = a.left;
        turned = λ n.
            let e = fresh answer c a.spoilt n in let t = a.turned n in
            let sees : w.seen ≡ c.steps = ap (λ (x : Bool). cond x (v.seen ++ between) c.steps) e in record {
              between = between;
              steps = t.0;
              found = b.shared;
              left = c.shared;
              others = others;
              seen = sees ∙ (t.1 ∙ ap (λ (z : List S). z ++ t.0) (steps (b_fresh e)));
              before = subst (λ (z : List S). LeftBy m v.own z b.shared) (steps (b_fresh e)) (left (b_fresh e));
              turns = t.2;
              after = subst (λ (z : List S). LeftBy m w.own z c.shared) (sym sees) (leaves e).1;
              ready = subst (λ (z : P). MayWork m v.number z) a.left (leaves e).0;
            };
        ended = ap (λ (x : Bool). v.ended || x) a.finished;
        spoilt = a.spoilt;
        stays_spoilt = λ y. exhausted_is answer (sym a.spoilt ∙ a.still (told y));
        later = by_spoilt c.spoilt refl;
        began = λ start h. subst (λ (o : Option (Own P H)). BeganAt o start) mine h;
      } where
        by_spoilt : (x : Bool) → c.spoilt ≡ x → StartsWith (cond x (v.seen ++ between) c.steps) v.seen
        by_spoilt true e = (between, refl)
        by_spoilt false e =
            let n = remembers answer c a.spoilt e in let t = a.turned n in
            let b_fresh : b.spoilt ≡ false = false_of b.spoilt (λ y. let z : true ≡ false = sym (a.still y) ∙ e in cc) in
            (between ++ t.0, t.1 ∙ (ap (λ (z : List S). z ++ t.0) (steps b_fresh) ∙ append_assoc v.seen between t.0))

  -- the whole turn: the seat before it, with its ticket, with the slot, with the new board, and after it
  pub took : (v : Known P H S) (own : Own P H) (t : ℕ) (me2 me3 me4 : Seats P H S) (p q : P) (c : Board P H S) (answer : Turn) (st : Step (Option (Board P H S))) (n : ℕ)
      → (f : Found m t (record v { stage = Waiting t }, []) me2) → me3.0 ≡ me2.0 → me3.1 ≡ (0, Some c) ∷ [] → Advanced m v.number p q f.board c answer → v.own ≡ Some own
      → served m st me3 n me4 → Took m v me4.0 p q answer
  took v own t me2 me3 me4 p q c answer st n f same hand a mine s =
      let v2 : Known P H S = record v { stage = Holding t f.board; seen = v.seen ++ f.between } in
      let is : me3.0 ≡ v2 = same ∙ ap (λ (z : Seats P H S). z.0) f.held in
      let r = s t f.board c (ap (λ (z : Known P H S). z.stage) is) hand in
      let own3 : me3.0.own ≡ Some own = ap (λ (z : Known P H S). z.own) is ∙ mine in
      let w_is : me4.0 ≡ after_turn v2 (Some own) c = ap (λ (z : Seats P H S). z.0) r.0 ∙ (λ i. after_turn (is i) (own3 i) c) in
      let leaves : c.spoilt ≡ false → MayWork m v.number c.left.value × LeftBy m (Some own) c.steps c.shared =
      λ e. let x = r.1 e in (subst (λ (z : Known P H S). MayWork m z.number c.left.value) is x.0, subst (λ (o : Option (Own P H)). LeftBy m o c.steps c.shared) own3 x.1) in
      subst (λ (z : Known P H S). Took m v z p q answer) (sym w_is) (took_own v own t p q f.board c f.between answer f.others f.told f.steps f.left a leaves mine)
