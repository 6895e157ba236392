-- Each step on the table keeps its rule.
use Rattle.std.proofs.Common.{◌≡◌, ◌≢◌, ⊎_elim, ℕ, zero, suc, ◌+◌, ◌%◌, ◌^◌, ◌<◌, ◌≤◌, ◌||◌, List, [], ◌∷◌, ◌++◌, length, set, slice_get, slice_index, refl, sym, ap, ◌∙◌, subst, arith, All, Bool, true, false, cond, leb, leb-false, Option, Some, None, length-set, length-append}
use Rattle.std.proofs.lemmas.List.Elements.{All-nil, All-append, All-weaker}
use Rattle.std.proofs.lemmas.List.{append-nil}
use Rattle.std.proofs.Common.{append_assoc}
use mathlib.Core.Logic.{dite}
use mathlib.Core.Option.{none, some, some-injective, some-ne-none}
use mathlib.Core.Option as maybe
use native.Mathlib.Decide.{ℕ_discrete}
use lib.ListN.{get_elem?}
use lib.Seq.{set-get_or}
use Rattle.atomic_table.specs.Table.{State, Step, keeps, takes, gives, stepped, Allows, Splits, Joins, opening, Final, Seen, rest}
use Rattle.atomic_table.proofs.Lists.{set_here, set_else, set_again, at_longer, one_turn}
use Rattle.step_book.specs.Actors.{Rules, Waits, Ready, MayWork, Turns, Runs, Reaches, IsBare, OfOthers, StartsWith, KeepsSound, KeepsOver}
use Rattle.step_book.specs.Turns.{Seats, IsWithinParts, total, tickets_in, tickets_of, joined_of, made_of, spent, own_of, seat_of, first_known, left_of_split, right_by, right_of_split, longer, shorter, both_of_join, Stands, homes_of, after_turn, Sits, SitsIf, Sure, InTurn, LeftBy, ReadyIf, drew, compared, Found, looked, MadeTurn, Gives, served}
use Rattle.step_book.specs.Seats.{Closing}
use Rattle.step_book.specs.declared.board.Board.{Board}
use Rattle.step_book.specs.declared.board.Start.{Start}
use Rattle.step_book.specs.declared.board.Own.{Own}
use Rattle.step_book.specs.declared.board.Known.{Known}
use Rattle.step_book.specs.declared.board.Stage.{Stage}
use Rattle.step_book.specs.declared.board.Stage.TheVariants.{Idle, Waiting, Holding}
use Rattle.step_book.proofs.Places.{get_set_here, get_set_else, at_within, total_set, total_more, total_two, total_few, next_mod, all_set, all_added, all_right, cut_right, get_there, total_none, put, put_here, put_else, false_of, either_of}
use Rattle.step_book.proofs.Walks.{Acts, acts_more, enter_acts, end_acts, acts_of, acts_run, runs_more, acts_sound, enter_over, end_over, finished_over, bare_waits}

module _ {P H S : Type 0} (m : Rules P H S) (start : Start P H) where
  abbrev K : Type 0
  K = Known P H S

  abbrev B : Type 0
  B = Board P H S

  abbrev St : Type 0
  St = State (Option B) K

  abbrev Rule : St → Type 0
  Rule = InTurn m start

  few_tickets : (v : K) → tickets_of v ≤ 1
  few_tickets v = few_in v.stage where
    few_in : (st : Stage P H S) → tickets_in st ≤ 1
    few_in Idle = omega arith
    few_in (Waiting t) = omega arith
    few_in (Holding t b) = omega arith

  sit_of : (s : St) (r : Rule s) (id : ℕ) (v : K) (own : Own P H) → get_elem? s.views id ≡ some v → v.own ≡ Some own → Sits m start (length s.views) r.book id v own
  sit_of s r id v own at mine = subst (λ (o : Option (Own P H)). SitsIf m start (length s.views) r.book id v o) mine (r.sits id v at)

  -- a seat that was told of want of memory is still there
  tells : (vs : List K) (id : ℕ) (v w : K) → get_elem? vs id ≡ some v → (v.spoilt ≡ true → w.spoilt ≡ true) → (seat : ℕ) (u : K) → get_elem? vs seat ≡ some u → u.spoilt ≡ true
      → (seat' : ℕ) × (u' : K) × (get_elem? (set vs id w) seat' ≡ some u') × (u'.spoilt ≡ true)
  tells vs id v w at keep seat u at' told = dite (ℕ_discrete seat id)
      (λ e. (id, w, set_here vs id w (at_within vs id v at), keep (ap (λ (z : K). z.spoilt) (some-injective v u (sym at ∙ (ap (get_elem? vs) (sym e) ∙ at'))) ∙ told)))
      (λ n. (seat, u, set_else vs id seat w n ∙ at', told))

  -- what is sure stays so where a seat keeps its part, and what it was told of the end
  resure : (board : B) (book : List S) (vs : List K) (id : ℕ) (v w : K) → get_elem? vs id ≡ some v → w.own ≡ v.own → w.ended ≡ v.ended → Sure m start board book vs → Sure m start board book (set vs id w)
  resure board book vs id v w at own ended u = record {
    steps = u.steps;
    parts = u.parts;
    runs = u.runs;
    sound = u.sound;
    waits = λ j d o a e. all_set (λ j d. (o : Own P H) → d.own ≡ Some o → (origin : P) × (slice_get u.parts j ≡ Some origin) × Waits m j origin o.part) vs id w
        (λ o e. u.waits id v o at (sym own ∙ e)) (λ j d n a o e. u.waits j d o a e) j d a o e;
    unmade = λ k h. u.unmade k (subst (λ (n : ℕ). n ≤ k) (length-set vs id w) h);
    ends = all_set (λ j d. d.ended ≡ true → m.over board.shared) vs id w (λ e. u.ends id v at (sym ended ∙ e)) (λ j d n a. u.ends j d a);
  }

  -- only a seat's stage and what it has seen change, and whether the slot is taken
  reseat : (s : St) (r : Rule s) (id : ℕ) (v : K) (own : Own P H) → get_elem? s.views id ≡ some v → v.own ≡ Some own
      → (st : Stage P H S) (sn : List S) (drawn : ℕ) (taken : Bool) (line : ℕ → ℕ) (words : List ℕ) (homes : List (maybe.Option (Option B)))
      → words ≡ drawn % 2 ^ 64 ∷ r.served % 2 ^ 64 ∷ [] → homes ≡ homes_of taken r.board
      → drawn + tickets_in v.stage ≡ r.drawn + tickets_in st → (taken ≡ true → r.served < drawn)
      → Stands drawn r.served taken r.board r.book line id (record v { stage = st; seen = sn }) st
      → ((j : ℕ) (d : K) → j ≢ id → get_elem? s.views j ≡ some d → Stands drawn r.served taken r.board r.book line j d d.stage)
      → ((rest : List S) × (r.book ≡ sn ++ rest) × OfOthers m id rest)
      → Rule record { words = words; homes = homes; views = set s.views id (record v { stage = st; seen = sn }) }
  reseat s r id v own at mine st sn drawn taken line words homes ws hs count held stand stands seen =
      let w : K = record v { stage = st; seen = sn } in
      let long : length (set s.views id w) ≡ length s.views = length-set s.views id w in
      let tk = total_set tickets_of s.views id v w at in
      let jn = total_set joined_of s.views id v w at in
      let md = total_set made_of s.views id v w at in
      let t = r.tickets in let a = r.seats.0 in let b = r.seats.1 in
      let sit = sit_of s r id v own at mine in record {
        drawn = drawn;
        served = r.served;
        taken = taken;
        board = r.board;
        book = r.book;
        line = line;
        words = ws;
        slot = hs;
        tickets = omega arith;
        held = held;
        seats = (omega arith, omega arith);
        few = (subst (λ (n : ℕ). n ≤ length start.parts.value.items) (sym long) r.few.0, r.few.1);
        bare = r.bare;
        actors = subst (λ (n : ℕ). All (λ x. m.actor x < n) r.book) (sym long) r.actors;
        stands = all_set (λ j d. Stands drawn r.served taken r.board r.book line j d d.stage) s.views id w stand stands;
        sits = subst (λ (n : ℕ). (j : ℕ) (d : K) → get_elem? (set s.views id w) j ≡ some d → SitsIf m start n r.book j d d.own) (sym long)
            (all_set (λ j d. SitsIf m start (length s.views) r.book j d d.own) s.views id w
            (subst (λ (o : Option (Own P H)). SitsIf m start (length s.views) r.book id w o) (sym mine)
            (record { number = sit.number; start_is = sit.start_is; joined = sit.joined; made = sit.made; makes = sit.makes; seen = seen; met = sit.met }))
            (λ j d n a. r.sits j d a));
        told = all_set (λ j d. d.spoilt ≡ true → r.board.spoilt ≡ true) s.views id w (r.told id v at) (λ j d n a. r.told j d a);
        teller = λ e. let x = r.teller e in tells s.views id v w at (λ q. q) x.0 x.1 x.2 x.3;
        sure = λ e. resure r.board r.book s.views id v w at refl refl (r.sure e);
      }

  -- tickets drawn before stand as they did
  still_stands : (drawn served seat x : ℕ) (taken : Bool) (b : B) (book : List S) (line : ℕ → ℕ) (v : K) (st : Stage P H S) → served ≤ drawn → Stands drawn served taken b book line seat v st
      → Stands (drawn + 1) served taken b book (put line drawn x) seat v st
  still_stands drawn served seat x taken b book line v Idle le h = tt
  still_stands drawn served seat x taken b book line v (Waiting t) le h = let l = h.2 in (put_else line drawn x t (λ e. omega arith) ∙ h.0, h.1, omega arith, h.3)
  still_stands drawn served seat x taken b book line v (Holding t c) le h = let e = h.1 in let l = h.2 in (put_else line drawn x t (λ q. omega arith) ∙ h.0, h.1, omega arith, h.3, h.4, h.5)

  pub draws : (slots id : ℕ) (me : Seats P H S) (own : Own P H) (st : Step (Option B)) → me.0.stage ≡ Idle → me.0.own ≡ Some own
      → Allows Rule slots id me 0 (λ n. (n + 1) % 2 ^ 64) (drew st me)
  draws slots id me own st idle mine s r len at small =
      let v : K = me.0 in let t : ℕ = r.drawn in let c = r.tickets in
      let sit = sit_of s r id v own at mine in
      let count : t + 1 + tickets_in v.stage ≡ t + 1 = ap (λ (z : Stage P H S). t + 1 + tickets_in z) idle ∙ omega arith in
      let free : t ≡ r.served → r.taken ≡ false = λ e. false_of r.taken (λ b. let h = r.held b in omega arith) in (
        record v { stage = Waiting t },
        keeps,
        tt,
        reseat s r id v own at mine (Waiting t) v.seen (t + 1) r.taken (put r.line t id) (set s.words 0 ((slice_index s.words 0 + 1) % 2 ^ 64)) s.homes
            (ap (λ (ws : List ℕ). set ws 0 ((slice_index ws 0 + 1) % 2 ^ 64)) r.words ∙ ap (λ (k : ℕ). k ∷ r.served % 2 ^ 64 ∷ []) (next_mod t)) r.slot
            count (λ b. let h = r.held b in omega arith) (put_here r.line t id, omega arith, omega arith, free)
            (λ j d n a. still_stands t r.served j id r.taken r.board r.book r.line d d.stage (omega arith) (r.stands j d a)) sit.seen,
        (t, ap (λ (ws : List ℕ). slice_index ws 0) r.words, refl),
      )

  -- a load that changes nothing
  stays : (s : St) (id : ℕ) (v : K) (i : ℕ) → get_elem? s.views id ≡ some v → Rule s → Rule record { words = set s.words i (slice_index s.words i); homes = s.homes; views = set s.views id v }
  stays s id v i at r = subst (λ (z : List ℕ × List K). Rule record { words = z.0; homes = s.homes; views = z.1 }) (λ k. (sym (set-get_or s.words i 0) k, sym (set_again s.views id v at) k)) r

  -- the others stand as they did while a seat takes the slot with the ticket t
  taken_stands : (drawn served seat id t : ℕ) (b : B) (book : List S) (line : ℕ → ℕ) (v : K) (st : Stage P H S) → seat ≢ id → line t ≡ id → t ≡ served → Stands drawn served false b book line seat v st
      → Stands drawn served true b book line seat v st
  taken_stands drawn served seat id t b book line v Idle n l e h = tt
  taken_stands drawn served seat id t b book line v (Waiting k) n l e h = (h.0, h.1, h.2, λ q. absurd (n (sym h.0 ∙ (ap line (q ∙ sym e) ∙ l))))
  taken_stands drawn served seat id t b book line v (Holding k c) n l e h = (h.0, h.1, h.2, refl, h.4, h.5)

  pub looks : (slots id : ℕ) (me : Seats P H S) (own : Own P H) (t : ℕ) (st : Step (Option B)) → me.1 ≡ [] → me.0.stage ≡ Waiting t → me.0.own ≡ Some own
      → Allows Rule slots id me 1 (λ n. n) (looked m st me)
  looks slots id me own t st empty waits mine s r len at small =
      let v : K = me.0 in let n : ℕ = slice_index s.words 1 in let N : ℕ = 2 ^ 64 in
      let found_is : n ≡ r.served % 2 ^ 64 = ap (λ (ws : List ℕ). slice_index ws 1) r.words in
      let same : (t' : ℕ) → v.stage ≡ Waiting t' → t ≡ t' = λ t' e. (let q : Waiting t ≡ Waiting t' = sym waits ∙ e in cc) in
      let stand : Stands r.drawn r.served r.taken r.board r.book r.line id v (Waiting t) = subst (λ (z : Stage P H S). Stands r.drawn r.served r.taken r.board r.book r.line id v z) waits (r.stands id v at) in
      let sit = sit_of s r id v own at mine in
      let few = total_few tickets_of few_tickets s.views in let c = r.tickets in let f0 = r.few.0 in let f1 = r.few.1 in
      dite (ℕ_discrete n (t % 2 ^ 64))
      (λ yes.
      let s0 = stand.1 in let s1 = stand.2 in
      let here : r.served ≡ t = one_turn r.served t 18446744073709551616 stand.1 (omega arith) (sym found_is ∙ yes) in
      let free : r.taken ≡ false = stand.3 (sym here) in
      let home : s.homes ≡ homes_of false r.board = r.slot ∙ ap (λ (b : Bool). homes_of b r.board) free in
      let between : List S = sit.seen.0 in
      let w : K = record v { stage = Holding t r.board; seen = v.seen ++ between } in
      let less : r.served < r.drawn = subst (λ (k : ℕ). k < r.drawn) (sym here) stand.2 in
      let found : Found m t me (w, (0, Some r.board) ∷ me.1) = record {
        board = r.board;
        between = between;
        held = ap (λ (cs : List (ℕ × Option B)). (w, (0, Some r.board) ∷ cs)) empty;
        others = subst (λ (k : ℕ). OfOthers m k between) (sym sit.number) sit.seen.2;
        told = r.told id v at;
        steps = λ b. (r.sure b).steps ∙ sit.seen.1;
        left = λ b. let u = r.sure b in subst (λ (o : Option (Own P H)). LeftBy m o r.board.steps r.board.shared) (sym mine)
            (subst (λ (z : Start P H). Reaches m z.parts.value.items z.shared.value r.board.steps r.board.shared) (sym sit.start_is)
            (u.parts, subst (λ (z : List S). Runs m start.parts.value.items start.shared.value z u.parts r.board.shared) (sym u.steps) u.runs));
        ready = λ b. let u = r.sure b in let o = u.waits id v own at mine in subst (λ (o : Option (Own P H)). ReadyIf m o v.number r.board.shared) (sym mine)
            (subst (λ (k : ℕ). Ready m k own.part r.board.shared) (sym sit.number) (u.parts, o.0, u.sound, o.1, o.2));
      } in (
        w,
        takes 0 (Some r.board),
        ap (λ (hs : List (maybe.Option (Option B))). get_elem? hs 0) home,
        reseat s r id v own at mine (Holding t r.board) (v.seen ++ between) r.drawn true r.line (set s.words 1 n) (set s.homes 0 none)
            (set-get_or s.words 1 0 ∙ r.words) (ap (λ (hs : List (maybe.Option (Option B))). set hs 0 none) home)
            (ap (λ (z : Stage P H S). r.drawn + tickets_in z) waits) (λ _. less) (stand.0, sym here, less, refl, refl, sym sit.seen.1)
            (λ j d n a. taken_stands r.drawn r.served j id t r.board r.book r.line d d.stage n stand.0 (sym here)
            (subst (λ (b : Bool). Stands r.drawn r.served b r.board r.book r.line j d d.stage) free (r.stands j d a)))
            ([], sit.seen.1 ∙ sym (append-nil (v.seen ++ between)), All-nil (λ x. m.actor x ≢ id)),
        (λ t' e. ((λ _. subst (λ (k : ℕ). Found m k me (w, (0, Some r.board) ∷ me.1)) (same t' e) found), (λ n'. absurd (n' (yes ∙ ap (λ (k : ℕ). k % 2 ^ 64) (same t' e)))))),
      ))
      (λ no. (v, keeps, tt, stays s id v 1 at r, (λ t' e. ((λ q. absurd (no (q ∙ ap (λ (k : ℕ). k % 2 ^ 64) (sym (same t' e))))), (λ _. refl)))))

  within : (n seats parts : ℕ) → (0 < n → n ≡ seats) → seats ≤ parts → n ≤ parts
  within zero seats parts h le = omega arith
  within (suc n) seats parts h le = let e = h (omega arith) in omega arith

  pub compares : (slots id : ℕ) (me : Seats P H S) (own : Own P H) (st : Step (Option B)) → me.0.own ≡ Some own → Allows Rule slots id me 0 (λ n. n) (compared st me)
  compares slots id me own st mine s r len at small =
      let sit = sit_of s r id me.0 own at mine in let a = sit.seen in let b = sit.met in
      let few : (n : ℕ) → (0 < n → n ≡ length s.views) → n ≤ length start.parts.value.items = λ n h. within n (length s.views) (length start.parts.value.items) h r.few.0 in
      let made : IsWithinParts me.0.own me.0.made = subst (λ (o : Option (Own P H)). IsWithinParts o me.0.made) (sym mine)
      (subst (λ (z : Start P H). me.0.made ≤ length z.parts.value.items) (sym sit.start_is) (few me.0.made sit.made)) in
      (me.0, keeps, tt, stays s id me.0 0 at r, (refl, made, λ short. let c = cut_right me.0.met b.0 me.0.seen a.0 (sym b.1 ∙ a.1) short in (c.0, c.2)))

  -- what a turn that had memory does, from the actor's part without its waiting steps
  pub record Acted (id : ℕ) (origin : P) (b c : B) (steps : List S) : Type 0 where
    pub end : P
    pub acts : Acts m id origin b.shared steps end c.shared
    pub waits : Waits m id end c.left.value
    pub over : m.over b.shared → m.over c.shared
    pub finished : c.finished ≡ true → m.over c.shared

  acted : KeepsOver m → (id : ℕ) (v : K) (own : Own P H) (origin : P) (b c : B) → v.number ≡ id → Waits m id origin own.part → (g : MadeTurn m v own b c) → Acted id origin b c g.steps
  acted stay id v own origin b c number w g =
      let turns : Turns m g.answer id own.part b.shared g.steps c.left.value c.shared = subst (λ (k : ℕ). Turns m g.answer k own.part b.shared g.steps c.left.value c.shared) number g.turns in
      let t = turns origin w in
      let enters = enter_acts m id origin b.shared t.0 t.2 t.4 t.6 in
      let ends = end_acts m g.answer id t.2 t.4 t.1 t.3 c.shared g.memory t.7 in record {
        end = t.3;
        acts = subst (λ (xs : List S). Acts m id origin b.shared xs t.3 c.shared) (sym t.5) (acts_more m id origin b.shared t.0 t.2 t.4 t.1 t.3 c.shared enters ends);
        waits = t.8;
        over = λ o. end_over m g.answer id t.2 t.4 t.1 t.3 c.shared g.memory (enter_over m stay id origin b.shared t.0 t.2 t.4 o t.6) t.7;
        finished = λ e. finished_over m g.answer id t.2 t.4 t.1 t.3 c.shared (g.ends e) t.7;
      }

  -- a seat whose actor made none of the new steps knows what it did
  sits_more : (j : ℕ) (d : K) (o : Option (Own P H)) → (id : ℕ) → j ≢ id → (n : ℕ) (book book2 steps : List S) → All (λ x. m.actor x ≡ id) steps
      → ((xs rest : List S) → book ≡ xs ++ rest → book2 ≡ xs ++ (rest ++ steps)) → SitsIf m start n book j d o → SitsIf m start n book2 j d o
  sits_more j d None id n len book book2 steps of_id more h = h
  sits_more j d (Some own) id n len book book2 steps of_id more h = record {
    number = h.number;
    start_is = h.start_is;
    joined = h.joined;
    made = h.made;
    makes = h.makes;
    seen = (let z = h.seen in (z.0 ++ steps, more d.seen z.0 z.1, All-append (λ y. m.actor y ≢ j) z.0 steps z.2 (All-weaker (λ y. m.actor y ≡ id) (λ y. m.actor y ≢ j) (λ y e e'. n (sym e' ∙ e)) steps of_id)));
    met = (let z = h.met in (z.0 ++ steps, more d.met z.0 z.1));
  }

  abbrev top_of : List (ℕ × Option B) → B → B
  top_of [] c = c
  top_of ((k, Some b) ∷ cs) c = b
  top_of ((k, None) ∷ cs) c = c

  -- the others stand as they did once the ticket t is served
  served_stands : (drawn serving seat id t : ℕ) (taken : Bool) (b c : B) (book book2 : List S) (line : ℕ → ℕ) (v : K) (st : Stage P H S) → seat ≢ id → line t ≡ id → t ≡ serving → Stands drawn serving taken b book line seat v st
      → Stands drawn (serving + 1) false c book2 line seat v st
  served_stands drawn serving seat id t taken b c book book2 line v Idle n l e h = tt
  served_stands drawn serving seat id t taken b c book book2 line v (Waiting k) n l e h =
      let other : k ≢ serving = λ q. n (sym h.0 ∙ (ap line (q ∙ sym e) ∙ l)) in let h1 = h.1 in (h.0, omega arith, h.2, λ _. refl)
  served_stands drawn serving seat id t taken b c book book2 line v (Holding k d) n l e h = absurd (n (sym h.0 ∙ (ap line (h.1 ∙ sym e) ∙ l)))

  pub serves : KeepsSound m → KeepsOver m → (slots id : ℕ) (me : Seats P H S) (own : Own P H) (t : ℕ) (b c : B) (st : Step (Option B)) → me.1 ≡ (0, Some c) ∷ [] → me.0.stage ≡ Holding t b → me.0.own ≡ Some own
      → Gives m me.0 me.0.own b c → (b.spoilt ≡ true → c.spoilt ≡ true) → Allows Rule slots id me 1 (λ n. (n + 1) % 2 ^ 64) (served m st me)
  serves ks ko slots id me own t b c st hand holds mine gives_ told s r len at small =
      let v : K = me.0 in
      let make : c.spoilt ≡ false → MadeTurn m v own b c = subst (λ (o : Option (Own P H)). Gives m v o b c) mine gives_ in
      let stand : Stands r.drawn r.served r.taken r.board r.book r.line id v (Holding t b) = subst (λ (z : Stage P H S). Stands r.drawn r.served r.taken r.board r.book r.line id v z) holds (r.stands id v at) in
      let sit = sit_of s r id v own at mine in
      let same : b ≡ r.board = stand.4 in
      let inside : id < length s.views = at_within s.views id v at in
      let w : K = after_turn v (Some own) c in
      let views : List K = set s.views id w in
      let long : length views ≡ length s.views = length-set s.views id w in
      let tk = total_set tickets_of s.views id v w at in
      let one : tickets_in v.stage ≡ 1 = ap (λ (z : Stage P H S). tickets_in z) holds in
      let jn = total_set joined_of s.views id v w at in
      let md = total_set made_of s.views id v w at in
      let c0 = r.tickets in let c1 = r.seats.0 in let c2 = r.seats.1 in let s2 = stand.2 in
      let n : ℕ = slice_index s.words 1 in
      let words : set s.words 1 ((n + 1) % 2 ^ 64) ≡ r.drawn % 2 ^ 64 ∷ (r.served + 1) % 2 ^ 64 ∷ [] =
      ap (λ (ws : List ℕ). set ws 1 ((slice_index ws 1 + 1) % 2 ^ 64)) r.words ∙ ap (λ (k : ℕ). r.drawn % 2 ^ 64 ∷ k ∷ []) (next_mod r.served) in
      let homes : set s.homes 0 (some (Some c)) ≡ homes_of false c = ap (λ (hs : List (maybe.Option (Option B))). set hs 0 (some (Some c))) r.slot in
      let stands2 : (book : List S) (j : ℕ) (d : K) → get_elem? views j ≡ some d → Stands r.drawn (r.served + 1) false c book r.line j d d.stage =
      λ book. all_set (λ j d. Stands r.drawn (r.served + 1) false c book r.line j d d.stage) s.views id w tt
      (λ j d n a. served_stands r.drawn r.served j id t r.taken r.board c r.book book r.line d d.stage n stand.0 stand.1 (r.stands j d a)) in
      let rule : (book : List S) → All (λ x. m.actor x < length s.views) book
      → ((rest : List S) × (book ≡ w.seen ++ rest) × OfOthers m id rest) → StartsWith book v.met
      → ((j : ℕ) (d : K) → j ≢ id → get_elem? s.views j ≡ some d → SitsIf m start (length s.views) book j d d.own)
      → (c.spoilt ≡ false → Sure m start c book views)
      → Rule record { words = set s.words 1 ((n + 1) % 2 ^ 64); homes = set s.homes 0 (some (Some c)); views = views } =
      λ book of_all seen met sits sure. record {
        drawn = r.drawn;
        served = r.served + 1;
        taken = false;
        board = c;
        book = book;
        line = r.line;
        words = words;
        slot = homes;
        tickets = omega arith;
        held = λ e. absurd (let q : true ≡ false = sym e in cc);
        seats = (omega arith, omega arith);
        few = (subst (λ (k : ℕ). k ≤ length start.parts.value.items) (sym long) r.few.0, r.few.1);
        bare = r.bare;
        actors = subst (λ (k : ℕ). All (λ x. m.actor x < k) book) (sym long) of_all;
        stands = stands2 book;
        sits = subst (λ (k : ℕ). (j : ℕ) (d : K) → get_elem? views j ≡ some d → SitsIf m start k book j d d.own) (sym long)
            (all_set (λ j d. SitsIf m start (length s.views) book j d d.own) s.views id w
            (record { number = sit.number; start_is = sit.start_is; joined = sit.joined; made = sit.made; makes = sit.makes; seen = seen; met = met }) sits);
        told = all_set (λ j d. d.spoilt ≡ true → c.spoilt ≡ true) s.views id w (λ e. e) (λ j d n a e. told (ap (λ (z : B). z.spoilt) same ∙ r.told j d a e));
        teller = λ e. (id, w, set_here s.views id w inside, e);
        sure = sure;
      } in
      let kept : (x : Bool) → c.spoilt ≡ x → Rule record { words = set s.words 1 ((n + 1) % 2 ^ 64); homes = set s.homes 0 (some (Some c)); views = views }
      × (c.spoilt ≡ false → MayWork m v.number c.left.value × LeftBy m v.own c.steps c.shared) = elim [
        | true ↦ λ is.
            let sn : w.seen ≡ v.seen = ap (λ (z : Bool). cond z v.seen c.steps) is in (
              rule r.book r.actors (sit.seen.0, sit.seen.1 ∙ ap (λ (z : List S). z ++ sit.seen.0) (sym sn), sit.seen.2) sit.met (λ j d n a. r.sits j d a)
                  (λ e. absurd (let q : true ≡ false = sym is ∙ e in cc)),
              λ e. absurd (let q : true ≡ false = sym is ∙ e in cc),
            )
        | false ↦ λ is.
            let g = make is in
            let u : Sure m start b r.book s.views = subst (λ (z : B). Sure m start z r.book s.views) (sym same) (r.sure (ap (λ (z : B). z.spoilt) (sym same) ∙ g.fresh)) in
            let o = u.waits id v own at mine in
            let x = acted ko id v own o.0 b c sit.number o.2 g in
            let of_id = acts_of m id o.0 b.shared g.steps x.end c.shared x.acts in
            let book_is : c.steps ≡ r.book ++ g.steps = g.added ∙ ap (λ (z : List S). z ++ g.steps) u.steps in
            let sn : w.seen ≡ c.steps = ap (λ (z : Bool). cond z v.seen c.steps) is in
            let parts2 : List P = set u.parts id x.end in
            let run = acts_run m id u.parts o.0 b.shared g.steps x.end c.shared o.1 x.acts in
            let runs : Runs m start.parts.value.items start.shared.value c.steps parts2 c.shared = subst (λ (z : List S). Runs m start.parts.value.items start.shared.value z parts2 c.shared) (sym book_is)
            (runs_more m start.parts.value.items start.shared.value r.book u.parts b.shared g.steps parts2 c.shared u.runs run) in
            let sound : m.sound parts2 c.shared = acts_sound m ks id u.parts o.0 b.shared g.steps x.end c.shared u.sound o.1 x.acts in
            let more : (xs rest : List S) → r.book ≡ xs ++ rest → c.steps ≡ xs ++ (rest ++ g.steps) = λ xs rest e. book_is ∙ (ap (λ (z : List S). z ++ g.steps) e ∙ append_assoc xs rest g.steps) in
            let sure : Sure m start c c.steps views = record {
              steps = refl;
              parts = parts2;
              runs = runs;
              sound = sound;
              waits = λ j d own' a e. all_set (λ j d. (own' : Own P H) → d.own ≡ Some own' → (origin : P) × (slice_get parts2 j ≡ Some origin) × Waits m j origin own'.part) s.views id w
                  (λ own' e. let same_own : record own { part = c.left.value } ≡ own' = cc in (x.end, get_set_here u.parts id x.end o.0 o.1, subst (λ (z : Own P H). Waits m id x.end z.part) same_own x.waits))
                  (λ j d n a own' e. let y = u.waits j d own' a e in (y.0, get_set_else u.parts id j x.end n ∙ y.1, y.2)) j d a own' e;
              unmade = λ k h. get_set_else u.parts id k x.end (λ q. omega arith) ∙ u.unmade k (subst (λ (z : ℕ). z ≤ k) long h);
              ends = all_set (λ j d. d.ended ≡ true → m.over c.shared) s.views id w
                  (λ e. ⊎_elim (λ p. x.over (u.ends id v at p)) x.finished (either_of v.ended c.finished e)) (λ j d n a e. x.over (u.ends j d a e));
            } in (
              rule c.steps (subst (λ (z : List S). All (λ y. m.actor y < length s.views) z) (sym book_is)
                  (All-append (λ y. m.actor y < length s.views) r.book g.steps r.actors (All-weaker (λ y. m.actor y ≡ id) (λ y. m.actor y < length s.views) (λ y e. omega arith) g.steps of_id)))
                  ([], sym (append-nil w.seen ∙ sn), All-nil (λ y. m.actor y ≢ id))
                  (let z = sit.met in (z.0 ++ g.steps, more v.met z.0 z.1))
                  (λ j d n a. sits_more j d d.own id n (length s.views) r.book c.steps g.steps of_id more (r.sits j d a))
                  (λ _. sure),
              λ _. (
                (c.shared, (parts2, x.end, sound, subst (λ (k : ℕ). slice_get parts2 k ≡ Some x.end) (sym sit.number) (get_set_here u.parts id x.end o.0 o.1), subst (λ (k : ℕ). Waits m k x.end c.left.value) (sym sit.number) x.waits)),
                subst (λ (o : Option (Own P H)). LeftBy m o c.steps c.shared) (sym mine)
                    (subst (λ (z : Start P H). Reaches m z.parts.value.items z.shared.value c.steps c.shared) (sym sit.start_is) (parts2, runs)),
              ),
            )
      ] in
      let all = kept c.spoilt refl in
      let own_is : after_turn v v.own c ≡ w = ap (λ (o : Option (Own P H)). after_turn v o c) mine in (
        w,
        gives,
        tt,
        subst (λ (hand2 : List (ℕ × Option B)). Rule (stepped s 1 ((n + 1) % 2 ^ 64) id hand2 w gives)) (sym hand) all.0,
        (λ t' b' c' holds' hand'.
            let same_c : c ≡ c' = ap (λ (z : List (ℕ × Option B)). top_of z c) (sym hand ∙ hand') in
            subst (λ (z : B). (◌≡◌ {A = Seats P H S} (w, rest me.1) (after_turn me.0 me.0.own z, [])) × (z.spoilt ≡ false → MayWork m me.0.number z.left.value × LeftBy m me.0.own z.steps z.shared)) same_c
            ((λ i. (sym own_is i, rest (hand i))), all.1)),
      )

  -- a seat that makes no seats knows what it did where one is made
  sits_longer : (j : ℕ) (d : K) (o : Option (Own P H)) (n : ℕ) (book : List S) → ¬ 0 < d.made → SitsIf m start n book j d o → SitsIf m start (n + 1) book j d o
  sits_longer j d None n book no_more h = h
  sits_longer j d (Some own) n book no_more h = record { number = h.number; start_is = h.start_is; joined = h.joined; made = λ q. absurd (no_more q); makes = h.makes; seen = h.seen; met = h.met }

  pub splits : (id : ℕ) (v : K) (own : Own P H) → v.stage ≡ Idle → v.own ≡ Some own → v.number ≡ 0 → v.made < length own.start.parts.value.items → Splits Rule id v (left_of_split v) (right_of_split v)
  splits id v own idle mine first room s r at =
      let sit = sit_of s r id v own at mine in
      let inside : id < length s.views = at_within s.views id v at in
      let makes : 0 < v.made = sit.makes (sym sit.number ∙ first) in
      let made : v.made ≡ length s.views = sit.made makes in
      let w : K = left_of_split v in
      let new : K = seat_of v.made v.seen v.ended v.spoilt own.start in
      let there = get_there own.start.parts.value.items v.made room in
      let new_own : new.own ≡ Some (record { part = there.0; start = own.start }) = ap (λ (o : Option P). own_of o own.start) there.1 in
      let firsts : slice_get start.parts.value.items (length s.views) ≡ Some there.0 = subst (λ (z : Start P H). slice_get z.parts.value.items (length s.views) ≡ Some there.0) sit.start_is
      (subst (λ (k : ℕ). slice_get own.start.parts.value.items k ≡ Some there.0) made there.1) in
      let views : List K = set s.views id w in
      let long : length views ≡ length s.views = length-set s.views id w in
      let longer_ : length (views ++ new ∷ []) ≡ length s.views + 1 = length-append views (new ∷ []) ∙ ap (λ (k : ℕ). k + 1) long in
      let tk = total_set tickets_of s.views id v w at in let tm = total_more tickets_of views (new ∷ []) in
      let jn = total_set joined_of s.views id v w at in let jm = total_more joined_of views (new ∷ []) in
      let md = total_set made_of s.views id v w at in let mm = total_more made_of views (new ∷ []) in
      let c0 = r.tickets in let c1 = r.seats.0 in let c2 = r.seats.1 in
      let few : v.made < length start.parts.value.items = subst (λ (z : Start P H). v.made < length z.parts.value.items) sit.start_is room in
      let each : (X : ℕ → K → Type 0) → X id w → X (length s.views) new → ((j : ℕ) (d : K) → j ≢ id → get_elem? s.views j ≡ some d → X j d) → (j : ℕ) (d : K) → get_elem? (views ++ new ∷ []) j ≡ some d → X j d =
      λ X a b others. all_added X views new (subst (λ (k : ℕ). X k new) (sym long) b) (all_set X s.views id w a others) in
      let all_new : All (λ x. m.actor x ≢ length s.views) sit.seen.0 = All-weaker (λ x. m.actor x < length s.views) (λ x. m.actor x ≢ length s.views) (λ x h e. omega arith) sit.seen.0
      (all_right (λ x. m.actor x < length s.views) v.seen sit.seen.0 (subst (λ (z : List S). All (λ x. m.actor x < length s.views) z) sit.seen.1 r.actors)) in
      let sits : (j : ℕ) (d : K) → get_elem? (views ++ new ∷ []) j ≡ some d → SitsIf m start (length s.views + 1) r.book j d d.own =
      each (λ j d. SitsIf m start (length s.views + 1) r.book j d d.own)
      (subst (λ (o : Option (Own P H)). SitsIf m start (length s.views + 1) r.book id w o) (sym mine)
      (record { number = sit.number; start_is = sit.start_is; joined = sit.joined; made = λ _. ap (λ (k : ℕ). k + 1) made; makes = λ _. omega arith; seen = sit.seen; met = sit.met }))
      (subst (λ (o : Option (Own P H)). SitsIf m start (length s.views + 1) r.book (length s.views) new o) (sym new_own)
      (record { number = made; start_is = sit.start_is; joined = omega arith; made = λ h. absurd (omega arith); makes = λ h. absurd (omega arith); seen = (sit.seen.0, sit.seen.1, all_new); met = (r.book, refl) }))
      (λ j d n a. sits_longer j d d.own (length s.views) r.book (λ h. let two = total_two made_of s.views id j v d at a n in omega arith) (r.sits j d a)) in
      let rule : Rule record { words = s.words; homes = s.homes; views = views ++ new ∷ [] } = record {
        drawn = r.drawn;
        served = r.served;
        taken = r.taken;
        board = r.board;
        book = r.book;
        line = r.line;
        words = r.words;
        slot = r.slot;
        tickets = omega arith;
        held = r.held;
        seats = (omega arith, omega arith);
        few = (omega arith, r.few.1);
        bare = r.bare;
        actors = subst (λ (k : ℕ). All (λ x. m.actor x < k) r.book) (sym longer_) (All-weaker (λ x. m.actor x < length s.views) (λ x. m.actor x < length s.views + 1) (λ x h. omega arith) r.book r.actors);
        stands = each (λ j d. Stands r.drawn r.served r.taken r.board r.book r.line j d d.stage)
            (subst (λ (z : Stage P H S). Stands r.drawn r.served r.taken r.board r.book r.line id w z) (sym idle) tt) tt (λ j d n a. r.stands j d a);
        sits = subst (λ (k : ℕ). (j : ℕ) (d : K) → get_elem? (views ++ new ∷ []) j ≡ some d → SitsIf m start k r.book j d d.own) (sym longer_) sits;
        told = each (λ j d. d.spoilt ≡ true → r.board.spoilt ≡ true) (r.told id v at) (r.told id v at) (λ j d n a. r.told j d a);
        teller = λ e. let x = r.teller e in let y = tells s.views id v w at (λ q. q) x.0 x.1 x.2 x.3 in (y.0, y.1, at_longer views (new ∷ []) y.0 y.1 y.2, y.3);
        sure = λ e. let u = r.sure e in record {
          steps = u.steps;
          parts = u.parts;
          runs = u.runs;
          sound = u.sound;
          waits = λ j d o a q. each (λ j d. (o : Own P H) → d.own ≡ Some o → (origin : P) × (slice_get u.parts j ≡ Some origin) × Waits m j origin o.part)
              (λ o q. u.waits id v o at q)
              (λ o q. let same : there.0 ≡ o.part = (let z = sym new_own ∙ q in cc) in
              (there.0, u.unmade (length s.views) (omega arith) ∙ firsts, subst (λ (p : P). Waits m (length s.views) there.0 p) same (bare_waits m (length s.views) there.0 (r.bare (length s.views) there.0 firsts))))
              (λ j d n a o q. u.waits j d o a q) j d a o q;
          unmade = λ k h. u.unmade k (omega arith);
          ends = each (λ j d. d.ended ≡ true → m.over r.board.shared) (u.ends id v at) (u.ends id v at) (λ j d n a. u.ends j d a);
        };
      } in
      subst (λ (o : Option (Own P H)). Rule record { words = s.words; homes = s.homes; views = views ++ right_by v o ∷ [] }) (sym mine) rule

  or_left : (a b : Bool) → a ≡ true → a || b ≡ true
  or_left true b e = refl
  or_left false b e = absurd (let q : true ≡ false = sym e in cc)

  or_right : (a b : Bool) → b ≡ true → a || b ≡ true
  or_right true b e = refl
  or_right false b e = e

  -- the longer of two beginnings of a book, after which a seat's actor made no step where it made none after the one
  longer_begins : (id : ℕ) (book xs ys : List S) → ((rest : List S) × (book ≡ xs ++ rest) × OfOthers m id rest) → StartsWith book ys
      → ((rest : List S) × (book ≡ longer xs ys ++ rest) × OfOthers m id rest) × StartsWith book (shorter xs ys)
  longer_begins id book xs ys a b = by_test (leb (length ys) (length xs)) refl where
    by_test : (t : Bool) → leb (length ys) (length xs) ≡ t → ((rest : List S) × (book ≡ cond t xs ys ++ rest) × OfOthers m id rest) × StartsWith book (cond t ys xs)
    by_test true is = (a, b)
    by_test false is = let short = leb-false (length ys) (length xs) is in let c = cut_right xs a.0 ys b.0 (sym a.1 ∙ b.1) (omega arith) in
        ((b.0, b.1, all_right (λ x. m.actor x ≢ id) c.0 b.0 (subst (λ (z : List S). All (λ x. m.actor x ≢ id) z) c.1 a.2)), (a.0, a.1))

  made_sum : (a b n : ℕ) → 0 < a + b → (0 < a → a ≡ n) → (0 < b → b ≡ n) → a + b ≤ n → a + b ≡ n
  made_sum zero b n h f g le = let q = g (omega arith) in omega arith
  made_sum (suc a) b n h f g le = let q = f (omega arith) in omega arith

  none_some : (o : Own P H) → ¬ ◌≡◌ {A = Option (Own P H)} None (Some o)
  none_some o e = cc

  pub joins : (id other : ℕ) (v w : K) (own own2 : Own P H) → v.stage ≡ Idle → w.stage ≡ Idle → v.own ≡ Some own → w.own ≡ Some own2 → Joins Rule id v other w (both_of_join v w) spent
  joins id other v w own own2 idle idle2 mine mine2 s r at apart at2 =
      let n : ℕ = length s.views in
      let there : get_elem? s.views other ≡ some w = sym (set_else s.views id other (both_of_join v w) apart) ∙ at2 in
      let sit = sit_of s r id v own at mine in let sit2 = sit_of s r other w own2 there mine2 in
      let both : K = both_of_join v w in
      let vs : List K = set s.views id both in
      let views : List K = set vs other spent in
      let long : length views ≡ n = length-set vs other spent ∙ length-set s.views id both in
      let count : (f : K → ℕ) → total f views + f w ≡ total f vs + f spent = λ f. total_set f vs other w spent at2 in
      let count1 : (f : K → ℕ) → total f vs + f v ≡ total f s.views + f both = λ f. total_set f s.views id v both at in
      let t1 = count tickets_of in let t2 = count1 tickets_of in let j1 = count joined_of in let j2 = count1 joined_of in let m1 = count made_of in let m2 = count1 made_of in
      let i1 : tickets_in v.stage ≡ 0 = ap (λ (z : Stage P H S). tickets_in z) idle in let i2 : tickets_in w.stage ≡ 0 = ap (λ (z : Stage P H S). tickets_in z) idle2 in
      let c0 = r.tickets in let c1 = r.seats.0 in let c2 = r.seats.1 in
      let two = total_two made_of s.views id other v w at there apart in
      let begins = longer_begins id r.book v.seen w.seen sit.seen (sit2.seen.0, sit2.seen.1) in
      let each : (X : ℕ → K → Type 0) → X id both → X other spent → ((j : ℕ) (d : K) → j ≢ id → j ≢ other → get_elem? s.views j ≡ some d → X j d) → (j : ℕ) (d : K) → get_elem? views j ≡ some d → X j d =
      λ X a b others. all_set X vs other spent b (λ j d no e. all_set (λ j d. j ≢ other → X j d) s.views id both (λ _. a) (λ j d no2 e no. others j d no2 no e) j d e no) in
      let here : get_elem? views id ≡ some both = set_else vs other id spent (λ e. apart (sym e)) ∙ set_here s.views id both (at_within s.views id v at) in
      let made : 0 < both.made → both.made ≡ n = λ h. made_sum v.made w.made n h sit.made sit2.made (omega arith) in record {
        drawn = r.drawn;
        served = r.served;
        taken = r.taken;
        board = r.board;
        book = r.book;
        line = r.line;
        words = r.words;
        slot = r.slot;
        tickets = omega arith;
        held = r.held;
        seats = (omega arith, omega arith);
        few = (subst (λ (k : ℕ). k ≤ length start.parts.value.items) (sym long) r.few.0, r.few.1);
        bare = r.bare;
        actors = subst (λ (k : ℕ). All (λ x. m.actor x < k) r.book) (sym long) r.actors;
        stands = each (λ j d. Stands r.drawn r.served r.taken r.board r.book r.line j d d.stage)
            (subst (λ (z : Stage P H S). Stands r.drawn r.served r.taken r.board r.book r.line id both z) (sym idle) tt) tt (λ j d _ _ a. r.stands j d a);
        sits = subst (λ (k : ℕ). (j : ℕ) (d : K) → get_elem? views j ≡ some d → SitsIf m start k r.book j d d.own) (sym long)
            (each (λ j d. SitsIf m start n r.book j d d.own)
            (subst (λ (o : Option (Own P H)). SitsIf m start n r.book id both o) (sym mine)
            (let a = sit.joined in record { number = sit.number; start_is = sit.start_is; joined = omega arith; made = made; makes = λ e. (let h = sit.makes e in omega arith); seen = begins.0; met = begins.1 }))
            refl (λ j d _ _ a. r.sits j d a));
        told = each (λ j d. d.spoilt ≡ true → r.board.spoilt ≡ true)
            (λ e. ⊎_elim (r.told id v at) (r.told other w there) (either_of v.spoilt w.spoilt e)) (λ e. absurd (let q : true ≡ false = sym e in cc)) (λ j d _ _ a. r.told j d a);
        teller = λ e. let x = r.teller e in
            dite (ℕ_discrete x.0 id)
            (λ is. (id, both, here, or_left v.spoilt w.spoilt (ap (λ (z : K). z.spoilt) (some-injective v x.1 (sym at ∙ (ap (get_elem? s.views) (sym is) ∙ x.2))) ∙ x.3)))
            (λ no. dite (ℕ_discrete x.0 other)
            (λ is. (id, both, here, or_right v.spoilt w.spoilt (ap (λ (z : K). z.spoilt) (some-injective w x.1 (sym there ∙ (ap (get_elem? s.views) (sym is) ∙ x.2))) ∙ x.3)))
            (λ no2. (x.0, x.1, set_else vs other x.0 spent no2 ∙ (set_else s.views id x.0 both no ∙ x.2), x.3)));
        sure = λ e. let u = r.sure e in record {
          steps = u.steps;
          parts = u.parts;
          runs = u.runs;
          sound = u.sound;
          waits = λ j d o a q. each (λ j d. (o : Own P H) → d.own ≡ Some o → (origin : P) × (slice_get u.parts j ≡ Some origin) × Waits m j origin o.part)
              (λ o q. u.waits id v o at q) (λ o q. absurd (none_some o q)) (λ j d _ _ a o q. u.waits j d o a q) j d a o q;
          unmade = λ k h. u.unmade k (subst (λ (z : ℕ). z ≤ k) long h);
          ends = each (λ j d. d.ended ≡ true → m.over r.board.shared)
              (λ q. ⊎_elim (u.ends id v at) (u.ends other w there) (either_of v.ended w.ended q)) (λ q. absurd (let z : true ≡ false = sym q in cc)) (λ j d _ _ a. u.ends j d a);
        };
      }

  pub opens : (b : B) → 0 < length start.parts.value.items → length start.parts.value.items < 2 ^ 32 → ((k : ℕ) (p : P) → slice_get start.parts.value.items k ≡ Some p → IsBare m p)
      → m.sound start.parts.value.items start.shared.value → b.shared ≡ start.shared.value → b.steps ≡ [] → b.spoilt ≡ false → Rule (opening (0 ∷ 0 ∷ []) (Some b ∷ []) (first_known start))
  opens b some_ few bare sound shared steps fresh =
      let v : K = first_known start in
      let there = get_there start.parts.value.items 0 some_ in
      let mine : v.own ≡ Some (record { part = there.0; start = start }) = ap (λ (o : Option P). own_of o start) there.1 in
      let only : (X : ℕ → K → Type 0) → X 0 v → (j : ℕ) (d : K) → get_elem? (v ∷ []) j ≡ some d → X j d = λ X x. all_added X [] v x (λ j d e. absurd (some-ne-none d (sym e))) in record {
        drawn = 0;
        served = 0;
        taken = false;
        board = b;
        book = [];
        line = λ k. k;
        words = refl;
        slot = refl;
        tickets = omega arith;
        held = λ e. absurd (let q : true ≡ false = sym e in cc);
        seats = (omega arith, omega arith);
        few = (omega arith, few);
        bare = bare;
        actors = All-nil (λ x. m.actor x < 1);
        stands = only (λ j d. Stands 0 0 false b [] (λ k. k) j d d.stage) tt;
        sits = only (λ j d. SitsIf m start 1 [] j d d.own) (subst (λ (o : Option (Own P H)). SitsIf m start 1 [] 0 v o) (sym mine)
            (record { number = refl; start_is = refl; joined = omega arith; made = λ _. refl; makes = λ _. omega arith; seen = ([], refl, All-nil (λ x. m.actor x ≢ 0)); met = ([], refl) }));
        told = only (λ j d. d.spoilt ≡ true → b.spoilt ≡ true) (λ e. absurd (let q : true ≡ false = sym e in cc));
        teller = λ e. absurd (let q : true ≡ false = sym e ∙ fresh in cc);
        sure = λ _. record {
          steps = steps;
          parts = start.parts.value.items;
          runs = (refl, sym shared);
          sound = subst (λ (h : H). m.sound start.parts.value.items h) (sym shared) sound;
          waits = λ j d o a e. only (λ j d. (o : Own P H) → d.own ≡ Some o → (origin : P) × (slice_get start.parts.value.items j ≡ Some origin) × Waits m j origin o.part)
              (λ o e. let same : there.0 ≡ o.part = (let z = sym mine ∙ e in cc) in (there.0, there.1, subst (λ (p : P). Waits m 0 there.0 p) same (bare_waits m 0 there.0 (bare 0 there.0 there.1)))) j d a o e;
          unmade = λ k h. refl;
          ends = only (λ j d. d.ended ≡ true → m.over b.shared) (λ e. absurd (let q : true ≡ false = sym e in cc));
        };
      }

  same_bool : (a b : Bool) → (a ≡ true → b ≡ true) → (b ≡ true → a ≡ true) → a ≡ b
  same_bool true b f g = sym (f refl)
  same_bool false true f g = g refl
  same_bool false false f g = refl

  is_spent : (j : ℕ) (d : K) (o : Option (Own P H)) (n : ℕ) (book : List S) → d.joined ≡ 0 → SitsIf m start n book j d o → d ≡ spent
  is_spent j d None n book none_joined h = h
  is_spent j d (Some own) n book none_joined h = let a = h.joined in absurd (omega arith)

  pub closes : (id : ℕ) (v : K) (own : Own P H) (words : List ℕ) (slots : List (Option B)) → v.stage ≡ Idle → v.own ≡ Some own → v.joined ≡ v.made
      → Final (Seen Rule id v) words slots → (b : B) × (get_elem? slots 0 ≡ some (Some b)) × Closing m start v b
  closes id v own words slots idle mine whole f =
      let s : St = f.0 in let r : Rule s = f.1.0 in let at = f.1.1 in
      let sit = sit_of s r id v own at mine in
      let made : v.made ≡ length s.views = (let a = sit.joined in sit.made (omega arith)) in
      let c0 = r.tickets in let c1 = r.seats.0 in
      let others : (j : ℕ) (d : K) → j ≢ id → get_elem? s.views j ≡ some d → d ≡ spent =
      λ j d n a. is_spent j d d.own (length s.views) r.book (let two = total_two joined_of s.views id j v d at a n in omega arith) (r.sits j d a) in
      let each : (X : K → Type 0) → X v → X spent → (j : ℕ) (d : K) → get_elem? s.views j ≡ some d → X d =
      λ X a b j d e. dite (ℕ_discrete j id) (λ is. subst X (some-injective v d (sym at ∙ (ap (get_elem? s.views) (sym is) ∙ e))) a) (λ no. subst X (sym (others j d no e)) b) in
      let none_drawn : total tickets_of s.views ≡ 0 = total_none tickets_of s.views (each (λ d. tickets_of d ≡ 0) (ap (λ (z : Stage P H S). tickets_in z) idle) refl) in
      let free : r.taken ≡ false = false_of r.taken (λ e. let h = r.held e in omega arith) in
      let home : s.homes ≡ homes_of false r.board = r.slot ∙ ap (λ (b : Bool). homes_of b r.board) free in (
        r.board,
        f.4 0 (Some r.board) (ap (λ (hs : List (maybe.Option (Option B))). get_elem? hs 0) home),
        record {
          spoilt = same_bool r.board.spoilt v.spoilt
              (λ e. let x = r.teller e in each (λ d. d.spoilt ≡ true → v.spoilt ≡ true) (λ q. q) (λ q. absurd (let z : true ≡ false = sym q in cc)) x.0 x.1 x.2 x.3)
              (r.told id v at);
          begins = λ e. (let z = sit.seen in (z.0, (r.sure e).steps ∙ z.1));
          reaches = λ e. let u = r.sure e in (u.parts, subst (λ (b : List S). Runs m start.parts.value.items start.shared.value b u.parts r.board.shared) (sym u.steps) u.runs);
          over = λ e. (r.sure e).ends id v at;
        },
      )
