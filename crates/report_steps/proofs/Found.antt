-- Where an item stands that is found.
use Rattle.std.proofs.Common.{◌≡◌, ℕ, Bool, List, get_or, None, Some, unwrap_or, find, position, arith}
use Rattle.std.proofs.lemmas.List.Folds.{find_at}
use Rattle.std.proofs.lemmas.Option.{slice_get_past, unwrap_or-slice_get}

-- the item at the place of the first one that passes is the one that is found
pub found_there : {A : Type 0} (p : A → Bool) (xs : List A) (d : A) (place : ℕ) → position p xs ≡ Some place → get_or xs place d ≡ unwrap_or (find p xs) d
found_there p xs d place is = grind (arith, find_at, unwrap_or-slice_get)

-- where none passes, none is found
pub none_found : {A : Type 0} (p : A → Bool) (xs : List A) (d : A) → position p xs ≡ None → d ≡ unwrap_or (find p xs) d
none_found p xs d is = grind (arith, find_at, slice_get_past)
