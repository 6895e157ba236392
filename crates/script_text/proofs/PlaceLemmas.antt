-- The places of lines, one line and one wave after another.
use Rattle.std.proofs.Common.{◌≡◌, ℕ, suc, ◌+◌, ◌-◌, ◌<◌, ◌≤◌, Bool, true, false, cond, List, [], ◌∷◌, ◌++◌, length, get_or, take, Option, Some, None, is_some, refl, sym, ap, ◌∙◌, arith, add-zero, length-take, slice_get, ◌==◌}
use Rattle.std.proofs.lemmas.List.{take_more}
use Rattle.std.specs.List.{position_from}
use Rattle.std.specs.Option.{option_map, option_or}
use Rattle.script_text.specs.declared.item.Item.{Item}
use Rattle.script_text.specs.Places.{place_in, place_of, item_at_place}
use Rattle.script_text.specs.Reading.{joined, item_in}

position_from-push : {X : Type 0} (p : X → Bool) (n : ℕ) (xs : List X) (x : X) → position_from p n (xs ++ x ∷ []) ≡ option_or (position_from p n xs) (cond (p x) (Some (n + length xs)) None)
position_from-push p n [] x = rw add-zero refl
position_from-push p n (y ∷ xs) x =
    elim (p y) as (λ b. cond b (Some n) (position_from p (n + 1) (xs ++ x ∷ [])) ≡ option_or (cond b (Some n) (position_from p (n + 1) xs)) (cond (p x) (Some (n + length (y ∷ xs))) None)) [
      | true ↦ refl
      | false ↦
          let e = position_from-push p (n + 1) xs x in
          let k : n + 1 + length xs ≡ n + suc (length xs) = omega arith in
          e ∙ ap (λ m. option_or (position_from p (n + 1) xs) (cond (p x) (Some m) None)) k
    ]

map_or : (wave : ℕ) (a b : Option ℕ) → option_map {U = ℕ × ℕ} (λ at. (wave, at)) (option_or a b) ≡ option_or (option_map {U = ℕ × ℕ} (λ at. (wave, at)) a) (option_map {U = ℕ × ℕ} (λ at. (wave, at)) b)
map_or wave (Some x) b = refl
map_or wave None b = refl

map_cond : (wave at : ℕ) (b : Bool) → option_map {U = ℕ × ℕ} (λ at. (wave, at)) (cond b (Some at) None) ≡ cond b (Some (wave, at)) None
map_cond wave at true = refl
map_cond wave at false = refl

-- one line more
pub place_in-more : (line wave : ℕ) (xs : List (ℕ × Item)) (i : ℕ) (x : ℕ × Item) → i < length xs → x ≡ get_or xs i x
    → place_in line wave (take (i + 1) xs) ≡ option_or (place_in line wave (take i xs)) (cond (x.0 == line) (Some (wave, i)) None)
place_in-more line wave xs i x within at_i =
    let p : ℕ × Item → Bool = λ item. item.0 == line in
    let more = take_more xs i x within in
    let len : 0 + length (take i xs) ≡ i = simp length-take (omega arith) in
    rw (more, ← at_i)
    (ap (option_map {U = ℕ × ℕ} (λ at. (wave, at))) (position_from-push p 0 (take i xs) x ∙ ap (λ k. option_or (position_from p 0 (take i xs)) (cond (p x) (Some k) None)) len)
    ∙ map_or wave (position_from p 0 (take i xs)) (cond (p x) (Some i) None)
    ∙ ap (option_or (place_in line wave (take i xs))) (map_cond wave i (p x)))

pub option_or-assoc : {X : Type 0} (a b c : Option X) → option_or (option_or a b) c ≡ option_or a (option_or b c)
option_or-assoc (Some x) b c = refl
option_or-assoc None b c = refl

option_or-none : {X : Type 0} (a : Option X) → option_or a None ≡ a
option_or-none (Some x) = refl
option_or-none None = refl

-- what is put where nothing was
pub put_or : (b : Bool) (before : Option (ℕ × ℕ)) (place : ℕ × ℕ) → cond b (option_or before (Some place)) before ≡ option_or before (cond b (Some place) None)
put_or true before place = refl
put_or false before place = sym (option_or-none before)

pub or_more : {X : Type 0} (old so_far next now : Option X) → now ≡ option_or old so_far → option_or now next ≡ option_or old (option_or so_far next)
or_more old so_far next now e = ap (λ o. option_or o next) e ∙ option_or-assoc old so_far next

-- one wave more
pub place_of-push : (line first : ℕ) (waves : List (List (ℕ × Item))) (wave : List (ℕ × Item)) → place_of line first (waves ++ wave ∷ []) ≡ option_or (place_of line first waves) (place_in line (first + length waves) wave)
place_of-push line first [] wave = rw add-zero (option_or-none (place_in line first wave))
place_of-push line first (lines ∷ waves) wave =
    let e = place_of-push line (first + 1) waves wave in
    let k : first + 1 + length waves ≡ first + suc (length waves) = omega arith in
    ap (option_or (place_in line first lines)) (e ∙ ap (λ n. option_or (place_of line (first + 1) waves) (place_in line n wave)) k)
    ∙ sym (option_or-assoc (place_in line first lines) (place_of line (first + 1) waves) (place_in line (first + suc (length waves)) wave))

item_in-append : (xs ys : List (ℕ × Item)) (line : ℕ) → item_in (xs ++ ys) line ≡ option_or (item_in xs line) (item_in ys line)
item_in-append [] ys line = refl
item_in-append (x ∷ xs) ys line =
    elim (x.0 == line) as (λ b. cond b (Some x.1) (item_in (xs ++ ys) line) ≡ option_or (cond b (Some x.1) (item_in xs line)) (item_in ys line)) [
      | true ↦ refl
      | false ↦ item_in-append xs ys line
    ]

-- the item at the place of a line
abbrev item_by : ℕ → List (ℕ × Item) → Option ℕ → Option Item
item_by n xs None = None
item_by n xs (Some at) = option_map (λ line. line.1) (slice_get xs (at - n))

place_above : {X : Type 0} (p : X → Bool) (n : ℕ) (xs : List X) (at : ℕ) → position_from p n xs ≡ Some at → n ≤ at
place_above p n [] at h = absurd (cc)
place_above p n (x ∷ xs) at h =
    elim (p x) as (λ b. cond b (Some n) (position_from p (n + 1) xs) ≡ Some at → n ≤ at) [
      | true ↦ λ k. let same : n ≡ at = cc in omega arith
      | false ↦ λ k. omega (arith, place_above p (n + 1) xs at k)
    ] h

item_by-later : (n : ℕ) (x : ℕ × Item) (xs : List (ℕ × Item)) (place : Option ℕ) → ((at : ℕ) → place ≡ Some at → n + 1 ≤ at) → item_by n (x ∷ xs) place ≡ item_by (n + 1) xs place
item_by-later n x xs None h = refl
item_by-later n x xs (Some at) h =
    let above = h at refl in
    let k : at - n ≡ suc (at - (n + 1)) = omega arith in
    rw k refl

item_by-place : (line n : ℕ) (xs : List (ℕ × Item)) → item_by n xs (position_from (λ item. item.0 == line) n xs) ≡ item_in xs line
item_by-place line n [] = refl
item_by-place line n (x ∷ xs) =
    let p : ℕ × Item → Bool = λ item. item.0 == line in
    let more = item_by-later n x xs (position_from p (n + 1) xs) (place_above p (n + 1) xs) ∙ item_by-place line (n + 1) xs in
    elim (x.0 == line) as (λ b. item_by n (x ∷ xs) (cond b (Some n) (position_from p (n + 1) xs)) ≡ cond b (Some x.1) (item_in xs line)) [
      | true ↦ let none : n - n ≡ 0 = omega arith in rw none refl
      | false ↦ more
    ]

wave_above : (line first : ℕ) (waves : List (List (ℕ × Item))) (place : ℕ × ℕ) → place_of line first waves ≡ Some place → first ≤ place.0
wave_above line first [] place h = absurd (cc)
wave_above line first (lines ∷ waves) place h =
    elim (position_from (λ item. item.0 == line) 0 lines) as (λ found. option_or (option_map {U = ℕ × ℕ} (λ at. (first, at)) found) (place_of line (first + 1) waves) ≡ Some place → first ≤ place.0) [
      | None ↦ λ k. omega (arith, wave_above line (first + 1) waves place k)
      | Some at ↦ λ k. let same : first ≡ place.0 = let e : (first, at) ≡ place = cc in ap (λ p. p.0) e in omega arith
    ] h

later_wave : (first : ℕ) (lines : List (ℕ × Item)) (waves : List (List (ℕ × Item))) (place : Option (ℕ × ℕ)) → ((p : ℕ × ℕ) → place ≡ Some p → first + 1 ≤ p.0)
    → item_at_place first (lines ∷ waves) place ≡ item_at_place (first + 1) waves place
later_wave first lines waves None h = refl
later_wave first lines waves (Some p) h =
    let above = h p refl in
    let k : p.0 - first ≡ suc (p.0 - (first + 1)) = omega arith in
    rw k refl

found_some : (line n : ℕ) (xs : List (ℕ × Item)) (at : ℕ) → position_from (λ item. item.0 == line) n xs ≡ Some at → is_some (item_in xs line) ≡ true
found_some line n [] at h = absurd (cc)
found_some line n (x ∷ xs) at h =
    elim (x.0 == line) as (λ b. cond b (Some n) (position_from (λ item. item.0 == line) (n + 1) xs) ≡ Some at → is_some (cond b (Some x.1) (item_in xs line)) ≡ true) [
      | true ↦ λ k. refl
      | false ↦ λ k. found_some line (n + 1) xs at k
    ] h

or_first : {X : Type 0} (a b : Option X) → is_some a ≡ true → option_or a b ≡ a
or_first (Some x) b h = refl
or_first None b h = absurd (cc)

-- what stands at a line's place is what the line asks
pub item_at_place-is : (line first : ℕ) (waves : List (List (ℕ × Item))) → item_at_place first waves (place_of line first waves) ≡ item_in (joined waves) line
item_at_place-is line first [] = refl
item_at_place-is line first (lines ∷ waves) =
    let more = later_wave first lines waves (place_of line (first + 1) waves) (wave_above line (first + 1) waves) ∙ item_at_place-is line (first + 1) waves in
    by (position_from (λ item. item.0 == line) 0 lines) (item_by-place line 0 lines) (found_some line 0 lines) more ∙ sym (item_in-append lines (joined waves) line)
  where
    by : (found : Option ℕ) → item_by 0 lines found ≡ item_in lines line → ((at : ℕ) → found ≡ Some at → is_some (item_in lines line) ≡ true)
        → item_at_place first (lines ∷ waves) (place_of line (first + 1) waves) ≡ item_in (joined waves) line
        → item_at_place first (lines ∷ waves) (option_or (option_map {U = ℕ × ℕ} (λ at. (first, at)) found) (place_of line (first + 1) waves)) ≡ option_or (item_in lines line) (item_in (joined waves) line)
    by None e there more = rw (← e) more
    by (Some at) e there more =
        let none : first - first ≡ 0 = omega arith in
        let same : at - 0 ≡ at = omega arith in
        let here : option_map (λ line. line.1) (slice_get lines at) ≡ item_in lines line = rw same at e in
        rw none (here ∙ sym (or_first (item_in lines line) (item_in (joined waves) line) (there at refl)))
