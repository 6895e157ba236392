-- How actors end, and facts of all players.
use Rattle.std.proofs.Common.{◌≡◌, ℕ, suc, ◌||◌, List, [], ◌∷◌, ◌++◌, refl, sym, arith, All, Bool, true, false}
use Rattle.std.proofs.lemmas.List.Elements.{All-cons}
use Rattle.node_threads.specs.Ends.{earlier, Tells}
use Rattle.node_threads.specs.declared.end.End.{End}
use Rattle.node_threads.specs.declared.end.End.TheVariants.{Finished, Stopped, Failed}

or_left : (a b : Bool) → a ≡ true → a || b ≡ true
or_left true b e = refl
or_left false b e = absurd (let q : true ≡ false = sym e in cc)

or_right : (a b : Bool) → b ≡ true → a || b ≡ true
or_right true b e = refl
or_right false b e = e

module _ {N : Type 0} (gave : ℕ → N → Type 0) where
  -- an end still tells the truth where another seat was told more
  pub tells_left : (a b : Bool) (end : End N) → Tells gave a end → Tells gave (a || b) end
  tells_left a b Finished t = or_left a b t
  tells_left a b Stopped t = tt
  tells_left a b (Failed why) t = t

  pub tells_right : (a b : Bool) (end : End N) → Tells gave b end → Tells gave (a || b) end
  tells_right a b Finished t = or_right a b t
  tells_right a b Stopped t = tt
  tells_right a b (Failed why) t = t

  pub tells_earlier : (a : Bool) (x y : End N) → Tells gave a x → Tells gave a y → Tells gave a (earlier x y)
  tells_earlier a (Failed why) y s t = s
  tells_earlier a Finished (Failed why) s t = t
  tells_earlier a Finished Finished s t = s
  tells_earlier a Finished Stopped s t = s
  tells_earlier a Stopped y s t = t

  -- an end that is told after a join
  pub tells_both : (a b : Bool) (x y : End N) → Tells gave b x → Tells gave a y → Tells gave (a || b) (earlier x y)
  tells_both a b x y s t = tells_earlier (a || b) x y (tells_right a b x s) (tells_left a b y t)

module _ {A : Type 0} where
  -- what holds of each element before and after the last
  pub all_butlast : (Q : A → Type 0) (xs : List A) (x : A) → All Q (xs ++ x ∷ []) → All Q xs
  all_butlast Q [] x h = λ k d lt. absurd (omega arith)
  all_butlast Q (y ∷ ys) x h = All-cons Q y ys (h 0 x (omega arith)) (all_butlast Q ys x (λ k d lt. h (suc k) d (omega arith)))

  pub all_last : (Q : A → Type 0) (xs : List A) (x : A) → All Q (xs ++ x ∷ []) → Q x
  all_last Q [] x h = h 0 x (omega arith)
  all_last Q (y ∷ ys) x h = all_last Q ys x (λ k d lt. h (suc k) d (omega arith))
