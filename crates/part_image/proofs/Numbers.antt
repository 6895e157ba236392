-- The bytes of a number are determined by it.
use Rattle.std.proofs.Common.{◌≡◌, ℕ, zero, suc, ◌+◌, ◌*◌, ◌^◌, ◌<◌, ◌≤◌, ◌/◌, List, [], ◌∷◌, length, take, drop, slice_index, refl, sym, ap, ◌∙◌, arith}
use Rattle.std.proofs.Math.Nat.{mod-lt, mul-le-mul_right, add-mul, pow-succ'}
use Rattle.std.proofs.lemmas.Nat.{div-mul-add}
use Rattle.std.proofs.lemmas.List.{append-nil, length-drop, get_or-drop, length-take-le}
use Rattle.byteorder.specs.Numbers.{big_from-cons, big_from-take, length-bytes_high_first, big_number-reads_back}
use Rattle.byteorder.specs.Endian.{big_from}
use Rattle.base_types.specs.Bytes.{big_bytes, big_number, number_at}

-- a list of numbers below 256
abbrev pub IsBytes : List ℕ → Type 0
IsBytes bytes = (i : ℕ) → slice_index bytes i < 256

pub IsBytes-drop : (n : ℕ) (bytes : List ℕ) → IsBytes bytes → IsBytes (drop n bytes)
IsBytes-drop n bytes fits i = rw get_or-drop (fits (n + i))

pub IsBytes-take : (n : ℕ) (bytes : List ℕ) → IsBytes bytes → IsBytes (take n bytes)
IsBytes-take zero bytes fits i = omega arith
IsBytes-take (suc n) [] fits i = omega arith
IsBytes-take (suc n) (b ∷ bytes) fits zero = fits 0
IsBytes-take (suc n) (b ∷ bytes) fits (suc i) = IsBytes-take n bytes (λ k. fits (suc k)) i

-- the number in n bytes is below their room
pub big_from-below : (i n : ℕ) (xs : List ℕ) → IsBytes xs → big_from i n xs < 256 ^ n
big_from-below i zero xs fits = omega arith
big_from-below i (suc n) xs fits =
    let rest = big_from-below (suc i) n xs fits in
    let top : (slice_index xs i + 1) * 256 ^ n ≤ 256 * 256 ^ n = mul-le-mul_right (256 ^ n) (omega (arith, fits i)) in
    let split = add-mul (slice_index xs i) 1 (256 ^ n) in
    omega (arith, pow-succ' 256 n)

-- two digits tell the number apart from all others
digits : (a b x y c : ℕ) → x < c → y < c → a * c + x ≡ b * c + y → (a ≡ b) × (x ≡ y)
digits a b x y c small_x small_y same =
    let tops : a ≡ b = sym (div-mul-add a c x small_x) ∙ ap (λ (n : ℕ). n / c) same ∙ div-mul-add b c y small_y in
    let moved : a * c + x ≡ a * c + y = same ∙ ap (λ (n : ℕ). n * c + y) (sym tops) in
    (tops, omega arith)

-- n bytes that make the same number are the same
pub same_bytes : (n : ℕ) (xs ys : List ℕ) → IsBytes xs → IsBytes ys → length xs ≡ n → length ys ≡ n → big_number n xs ≡ big_number n ys → xs ≡ ys
same_bytes zero [] [] fits_x fits_y len_x len_y same = refl
same_bytes zero (x ∷ xs) ys fits_x fits_y len_x len_y same = absurd (omega (arith, len_x))
same_bytes zero [] (y ∷ ys) fits_x fits_y len_x len_y same = absurd (omega (arith, len_y))
same_bytes (suc n) [] ys fits_x fits_y len_x len_y same = absurd (omega (arith, len_x))
same_bytes (suc n) (x ∷ xs) [] fits_x fits_y len_x len_y same = absurd (omega (arith, len_y))
same_bytes (suc n) (x ∷ xs) (y ∷ ys) fits_x fits_y len_x len_y same =
    let rest_x : IsBytes xs = λ i. fits_x (suc i) in
    let rest_y : IsBytes ys = λ i. fits_y (suc i) in
    let moved : x * 256 ^ n + big_number n xs ≡ y * 256 ^ n + big_number n ys =
    ap (λ (r : ℕ). x * 256 ^ n + r) (sym (big_from-cons 0 n x xs)) ∙ same ∙ ap (λ (r : ℕ). y * 256 ^ n + r) (big_from-cons 0 n y ys) in
    let split = digits x y (big_number n xs) (big_number n ys) (256 ^ n) (big_from-below 0 n xs rest_x) (big_from-below 0 n ys rest_y) moved in
    let rest = same_bytes n xs ys rest_x rest_y (omega arith) (omega arith) split.1 in
    rw (split.0, rest) refl

-- the bytes of a number are bytes
pub IsBytes-number : (n x : ℕ) → IsBytes (big_bytes n x)
IsBytes-number zero x i = omega arith
IsBytes-number (suc zero) x zero = mod-lt x (omega arith)
IsBytes-number (suc (suc n)) x zero = mod-lt (x / 256 ^ suc n) (omega arith)
IsBytes-number (suc n) x (suc i) = IsBytes-number n x i

-- the bytes of the number that stands at a place are what stands there
pub bytes_of_number : (n at : ℕ) (bytes : List ℕ) → IsBytes bytes → at + n ≤ length bytes → big_bytes n (number_at n bytes at) ≡ take n (drop at bytes)
bytes_of_number n at bytes fits within =
    let rest = IsBytes-drop at bytes fits in
    let long : n ≤ length (drop at bytes) = omega (arith, length-drop at bytes) in
    let number = number_at n bytes at in
    let back : big_number n (big_bytes n number) ≡ number =
    ap (big_number n) (sym (append-nil (big_bytes n number))) ∙ big_number-reads_back n number [] (big_from-below 0 n (drop at bytes) rest) in
    same_bytes n (big_bytes n number) (take n (drop at bytes)) (IsBytes-number n number) (IsBytes-take n (drop at bytes) rest)
    (length-bytes_high_first n number) (length-take-le n (drop at bytes) long)
    (back ∙ sym (big_from-take 0 n n (drop at bytes) (omega arith)))
