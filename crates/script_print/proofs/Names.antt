-- Sessions by their names, and labels.
use Rattle.std.proofs.Common.{◌≡◌, ◌∙◌, ℕ, suc, zero, ◌-◌, ◌<◌, ◌≤◌, Bool, true, false, ◌||◌, ◌==◌, List, [], ◌∷◌, ◌++◌, length, take, get_or, codes, refl, ap, sym, arith, length-append}
use Rattle.std.specs.Char.{is_ascii_digit, is_ascii_lowercase}
use Rattle.std.specs.List.{list_all, list_any, position_or_len}
use Rattle.std.specs.Str.{bytes_eq}
use Rattle.std.proofs.lemmas.Bool.Decides.{nat_tests}
use Rattle.std.proofs.lemmas.Grind.{common_steps}
use Rattle.std.proofs.lemmas.List.Folds.{list_all-append}
use Rattle.std.proofs.lemmas.Slice.Eq.{bytes_eq-Decides}
use Rattle.script_text.specs.Spelling.{is, is_label, is_name, label_name}
use Rattle.script_print.specs.Spelled.{name_of}
use Rattle.script_print.proofs.Texts.{IsWord, is_visible}

letter-visible : (b : ℕ) → (is_ascii_lowercase b || is_ascii_digit b) ≡ true → is_visible b ≡ true
letter-visible b h = grind (arith, nat_tests)

letters-visible : (bytes : List ℕ) → list_all (λ b. is_ascii_lowercase b || is_ascii_digit b) bytes ≡ true → list_all is_visible bytes ≡ true
letters-visible [] h = refl
letters-visible (b ∷ bytes) h =
    let here : (is_ascii_lowercase b || is_ascii_digit b) ≡ true = grind (arith, nat_tests) in
    let rest : list_all (λ b. is_ascii_lowercase b || is_ascii_digit b) bytes ≡ true = grind (arith, nat_tests) in
    rw (letter-visible b here) (letters-visible bytes rest)

-- a name is a word, and has room for its colon
pub record IsShortName (name : List ℕ) : Type 0 where
  pub word : IsWord name
  pub short : length name ≤ 16
  pub no_note : (get_or name 0 0 == 35) ≡ false

pub short-name : (name : List ℕ) → is_name name ≡ true → IsShortName name
short-name [] h = absurd (cc)
short-name (b ∷ name) h =
    let first : is_ascii_lowercase b ≡ true = grind (arith, nat_tests) in
    let few : length name ≤ 15 = grind (arith, nat_tests) in
    let others : list_all (λ b. is_ascii_lowercase b || is_ascii_digit b) name ≡ true = grind (arith, nat_tests) in
    let seen : is_visible b ≡ true = grind (arith, nat_tests) in
    let no_note : (b == 35) ≡ false = grind (arith, nat_tests) in
    record {
      word = record { full = omega arith; short = omega arith; visible = rw seen (letters-visible name others) };
      short = omega arith;
      no_note = no_note;
    }

-- what is so of a name with its colon
pub record IsLabelOf (name label : List ℕ) : Type 0 where
  pub is_label : is_label label ≡ true
  pub name_is : label_name label ≡ name
  pub no_note : (get_or label 0 0 == 35) ≡ false
  pub word : IsWord label
  pub other : (text : List ℕ) → (get_or text (length text - 1) 0 == 58) ≡ false → is text label ≡ false

last-append : (name : List ℕ) (b : ℕ) → get_or (name ++ b ∷ []) (length (name ++ b ∷ []) - 1) 0 ≡ b
last-append name b = grind (arith, common_steps)

take-front : (name : List ℕ) (b : ℕ) → take (length (name ++ b ∷ []) - 1) (name ++ b ∷ []) ≡ name
take-front name b = grind (arith, common_steps)

pub label-of : (name : List ℕ) → is_name name ≡ true → IsLabelOf name (name ++ codes ":")
label-of [] h = absurd (cc)
label-of (b ∷ name) h =
    let short = short-name (b ∷ name) h in
    record {
      is_label = rw (last-append (b ∷ name) 58) refl;
      name_is = take-front (b ∷ name) 58;
      no_note = short.no_note;
      word = record {
        full = omega arith;
        short = (let s = short.short in omega (arith, length-append (b ∷ name) (58 ∷ [])));
        visible = list_all-append is_visible (b ∷ name) (58 ∷ []) ∙ rw short.word.visible refl;
      };
      other = λ text differs. no_match text differs (bytes_eq ((b ∷ name) ++ 58 ∷ []) text) (bytes_eq-Decides ((b ∷ name) ++ 58 ∷ []) text).0;
    }
  where
    no_match : (text : List ℕ) → (get_or text (length text - 1) 0 == 58) ≡ false → (t : Bool) → (t ≡ true → (b ∷ name) ++ 58 ∷ [] ≡ text) → t ≡ false
    no_match text differs true same =
        let last = ap (λ (bytes : List ℕ). get_or bytes (length bytes - 1) 0) (sym (same refl)) ∙ last-append (b ∷ name) 58 in
        sym (ap (λ (k : ℕ). k == 58) last) ∙ differs
    no_match text differs false same = refl

-- the first place of a list that passes a test
pub position-first : (p : List ℕ → Bool) (xs : List (List ℕ)) (k : ℕ) → k < length xs → list_any p (take k xs) ≡ false → p (get_or xs k []) ≡ true
    → (list_any p xs ≡ true) × (position_or_len p xs ≡ k)
position-first p [] k within none here = absurd (omega arith)
position-first p (x ∷ xs) zero within none here = (rw here refl, rw here refl)
position-first p (x ∷ xs) (suc k) within none here =
    let no : p x ≡ false = grind (arith, nat_tests) in
    let rest : list_any p (take k xs) ≡ false = grind (arith, nat_tests) in
    let more = position-first p xs k (omega arith) rest here in
    (rw (no, more.0) refl, rw (no, more.1) (omega arith))

pub bytes_eq-refl : (bytes : List ℕ) → bytes_eq bytes bytes ≡ true
bytes_eq-refl bytes = (bytes_eq-Decides bytes bytes).1 refl

-- each name is formed as one, and is none of those before it
pub record AreNames (names : List (List ℕ)) : Type 0 where
  pub formed : (k : ℕ) → k < length names → is_name (name_of names k) ≡ true
  pub new : (k : ℕ) → k < length names → list_any (bytes_eq (name_of names k)) (take k names) ≡ false

-- a session that was opened among the first is found by its name
pub open-found : (names : List (List ℕ)) (opened k : ℕ) → AreNames names → opened ≤ length names → k < opened
    → (list_any (bytes_eq (name_of names k)) (take opened names) ≡ true) × (position_or_len (bytes_eq (name_of names k)) (take opened names) ≡ k)
open-found names opened k are within low =
    position-first (bytes_eq (name_of names k)) (take opened names) k (grind (arith, common_steps))
    (rw (take-take names k opened (omega arith)) (are.new k (omega arith)))
    (rw (get_or-taken names k opened low) (bytes_eq-refl (name_of names k)))
  where
    take-take : (xs : List (List ℕ)) (i j : ℕ) → i ≤ j → take i (take j xs) ≡ take i xs
    take-take xs i j le = grind (arith, common_steps)

    get_or-taken : (xs : List (List ℕ)) (i j : ℕ) → i < j → get_or (take j xs) i [] ≡ get_or xs i []
    get_or-taken xs i j le = grind (arith, common_steps)
