-- Lists, each of whose elements or pairs of elements has a property, and what tests tell.
use Rattle.std.proofs.Common.{◌≡◌, ◌≢◌, Bool, true, false, List, [], ◌∷◌, ◌++◌, refl, sym, ◌∙◌, filter, inl, inr, ◌⊎◌, arith}
use Rattle.std.specs.List.{AllByRecursion}
use Rattle.std.proofs.lemmas.Bool.{false≢true}
use Rattle.std.proofs.lemmas.Bool.Decides.{nat_tests}
use Rattle.board_rows.proofs.Words.{same_xid-refl, same_xid-true, Xid, same_xid, Record, EachPair, EachSuffix}

-- what can't be true and false
pub clash : {A : Type 0} (b : Bool) → b ≡ true → b ≡ false → A
clash b t f = absurd (false≢true (sym f ∙ t))

-- what the test of two names tells
pub same_xid_tells : (x y : Xid) → ((same_xid x y ≡ true) × (x ≡ y)) ⊎ ((same_xid x y ≡ false) × (x ≢ y))
same_xid_tells x y = by (same_xid x y) refl
  where
    by : (t : Bool) → same_xid x y ≡ t → ((same_xid x y ≡ true) × (x ≡ y)) ⊎ ((same_xid x y ≡ false) × (x ≢ y))
    by true e = inl (e, same_xid-true x y e)
    by false e = inr (e, λ f. (let t : same_xid x y ≡ true = rw f (same_xid-refl y) in clash (same_xid x y) t e))

pub ruleset cases = (nat_tests, same_xid_tells)

pub all_of : {X : Type 0} (P : X → Type 0) (xs : List X) → ((x : X) → P x) → AllByRecursion P xs
all_of P [] f = tt
all_of P (x ∷ xs) f = (f x, all_of P xs f)

pub all_map : {X : Type 0} (P Q : X → Type 0) (xs : List X) → ((x : X) → P x → Q x) → AllByRecursion P xs → AllByRecursion Q xs
all_map P Q [] f h = tt
all_map P Q (x ∷ xs) f h = (f x h.0, all_map P Q xs f h.1)

pub all_both : {X : Type 0} (P Q R : X → Type 0) (xs : List X) → ((x : X) → P x → Q x → R x) → AllByRecursion P xs → AllByRecursion Q xs → AllByRecursion R xs
all_both P Q R [] f h i = tt
all_both P Q R (x ∷ xs) f h i = (f x h.0 i.0, all_both P Q R xs f h.1 i.1)

pub all_pair : {X : Type 0} (P Q : X → Type 0) (xs : List X) → AllByRecursion P xs → AllByRecursion Q xs → AllByRecursion (λ x. P x × Q x) xs
all_pair P Q xs = all_both P Q (λ x. P x × Q x) xs (λ x p q. (p, q))

pub all_append : {X : Type 0} (P : X → Type 0) (xs ys : List X) → AllByRecursion P (xs ++ ys) → AllByRecursion P xs × AllByRecursion P ys
all_append P [] ys h = (tt, h)
all_append P (x ∷ xs) ys h = let rest = all_append P xs ys h.1 in ((h.0, rest.0), rest.1)

pub all_filter : {X : Type 0} (P : X → Type 0) (test : X → Bool) (xs : List X) → AllByRecursion P xs → AllByRecursion (λ x. (test x ≡ true) × P x) (filter test xs)
all_filter P test [] h = tt
all_filter P test (x ∷ xs) h = grind (arith, all_filter P test xs h.1)

pub pair_map : {A : Type 0} (R S : A → A → Type 0) (xs : List A) → ((x y : A) → R x y → S x y) → EachPair R xs → EachPair S xs
pair_map R S [] f h = tt
pair_map R S (x ∷ xs) f h = (all_map (R x) (S x) xs (f x) h.0, pair_map R S xs f h.1)

pub pair_filter : {A : Type 0} (R : A → A → Type 0) (test : A → Bool) (xs : List A) → EachPair R xs → EachPair R (filter test xs)
pair_filter R test [] h = tt
pair_filter R test (x ∷ xs) h =
    grind (arith, pair_filter R test xs h.1, all_map _ (R x) _ (λ y (g : (test y ≡ true) × R x y). g.1) (all_filter (R x) test xs h.0))

pub pair_both : {A : Type 0} (R S T : A → A → Type 0) (xs : List A) → ((x y : A) → R x y → S x y → T x y) → EachPair R xs → EachPair S xs → EachPair T xs
pair_both R S T [] f h i = tt
pair_both R S T (x ∷ xs) f h i = (all_both (R x) (S x) (T x) xs (f x) h.0 i.0, pair_both R S T xs f h.1 i.1)

-- earlier boards
pub suffix_here : (P : List Record → Type 0) (recs : List Record) → EachSuffix P recs → P recs
suffix_here P [] h = h
suffix_here P (r ∷ recs) h = h.0

pub suffix_map : (P Q : List Record → Type 0) (recs : List Record) → ((older : List Record) → P older → Q older) → EachSuffix P recs → EachSuffix Q recs
suffix_map P Q [] f h = f [] h
suffix_map P Q (r ∷ recs) f h = (f (r ∷ recs) h.0, suffix_map P Q recs f h.1)
