use Rattle.std.proofs.Common.{◌≡◌, ℕ, zero, suc, ◌<◌, true, ◌⊎◌, List, [], ◌∷◌, Option, Some, None, get_or, set, option_map, refl, sym, ap, subst, inl, inr, ◌∙◌, rules, lit<, lit≤, pos}
use Rattle.std.specs.Option.{ForSome}
use Rattle.base_types.specs.declared.value.Value.TheVariants.{Num}
use Rattle.redo_types.specs.declared.blocks.RowChange.{RowChange}
use Rattle.block_image.specs.Block.{BlockContent}
use Rattle.block_image.specs.Changes.{applied, empty_block}
use Rattle.wire_net.specs.declared.message.Mode.TheVariants.{Exclusive}
use Rattle.buffer_cache.specs.declared.place.Current.{Current}
use Rattle.buffer_cache.specs.declared.place.Place.{Place}
use Rattle.buffer_cache.specs.Place.{CanApply, CanChange, changed, empty_place, read_from_disk, with_change, with_current}
use Rattle.buffer_cache.specs.Cache.{CacheState, at_place, installed, place_at}
use Rattle.buffer_cache.proofs.tests.hold_changed.Goals as goal

-- the change of the tests
abbrev row_change : RowChange
row_change = record {
  row = 0;
  lock = 1;
  itl = 1;
  fresh = true;
  slot = record { xid = record { seg = 0; slot = 0; wrap = 1 }; seq = 1 };
  value = Num (pos 7);
}

-- an item after a set is the new one, or there is none
set_or_none : {A : Type 0} (xs : List A) (i : ℕ) (v d : A) → (get_or (set xs i v) i d ≡ v) ⊎ (get_or (set xs i v) i d ≡ d)
set_or_none [] i v d = inr refl
set_or_none (x ∷ xs) zero v d = inl refl
set_or_none (x ∷ xs) (suc i) v d = set_or_none xs i v d

-- what holds of the current image of a new place holds of the one that is held then
held_then : (P : Current → Type 0) (places : List Place) (b : ℕ) (place : Place)
    → ForSome place.current P → ForSome (get_or (set places b place) b empty_place).current P
held_then P places b place h x is = elim (set_or_none places b place empty_place) [
  | inl e ↦ h x (sym (ap (λ (p : Place). p.current) e) ∙ is)
  | inr e ↦ let none : None ≡ Some x = sym (ap (λ (p : Place). p.current) e) ∙ is in absurd cc
]

-- what holds of an image as it is changed holds of the changed one
mapped_then : (P : Current → Type 0) (f : Current → Current) (held : Option Current)
    → ForSome held (λ now. P (f now)) → ForSome (option_map f held) P
mapped_then P f None h x is = absurd cc
mapped_then P f (Some now) h x is = let same : f now ≡ x = cc in subst P same (h now refl)

-- the same of a change in a cache
changed_then : (P : Current → Type 0) (scn at : ℕ) (cache : CacheState) (b : ℕ)
    → ForSome (place_at cache b).current (λ now. P (changed row_change scn at now))
    → ForSome (place_at (at_place (with_change row_change scn at) cache b) b).current P
changed_then P scn at cache b h =
    held_then P cache.places b (with_change row_change scn at (place_at cache b))
    (mapped_then P (changed row_change scn at) (place_at cache b).current h)

-- the same of an image that was read
read_then : (P : Current → Type 0) (cache : CacheState) (b : ℕ) (block : BlockContent) → P (read_from_disk 1 Exclusive block)
    → ForSome (place_at (installed cache b (Some (read_from_disk 1 Exclusive block))) b).current P
read_then P cache b block h =
    held_then P cache.places b (with_current (Some (read_from_disk 1 Exclusive block)) (place_at cache b))
    (λ x is. let same : read_from_disk 1 Exclusive block ≡ x = cc in subst P same h)

-- a block that no record touched can take the change
first_can : (b : ℕ) → b < 64 → CanApply row_change 5 (empty_block b)
first_can b small = record {
  row = lit< tt;
  some_itl = lit≤ tt;
  itl = lit≤ tt;
  version = lit< tt;
  numbered = lit≤ tt;
  is_block = search rules;
}

-- and once more
second_can : (b : ℕ) → b < 64 → CanApply row_change 6 (applied (empty_block b) row_change 5)
second_can b small = record {
  row = lit< tt;
  some_itl = lit≤ tt;
  itl = lit≤ tt;
  version = lit< tt;
  numbered = lit≤ tt;
  is_block = search rules;
}

pub change-requires : goal.change-requires
change-requires c =
    rw c.install_read.ensures (read_then (CanChange row_change 5) c.args.cache.now c.args.b c.empty.result (λ _. rw c.empty.ensures (first_can c.args.b c.requires)))

pub change-requires-2 : goal.change-requires-2
change-requires-2 c =
    rw c.change.ensures (changed_then (CanChange row_change 6) 5 c.args.first c.install_read.new.self c.args.b
    (rw c.install_read.ensures (read_then (λ now. CanChange row_change 6 (changed row_change 5 c.args.first now)) c.args.cache.now c.args.b c.empty.result
    (λ _. rw c.empty.ensures (second_can c.args.b c.requires)))))
